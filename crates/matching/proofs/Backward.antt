-- A queue read from its last place to its first: the best of the places read so far.
use Rattle.std.proofs.Common.{◌≡◌, ℕ, suc, ◌+◌, ◌-◌, ◌<◌, ◌≤◌, Bool, true, false, List, ◌∷◌, length, get_or, take, drop, Some, None, Option, sym, ap, ◌∙◌, arith}
use Rattle.std.proofs.lemmas.List.{drop_more, get_or_default}
use Rattle.matching.specs.Choice.{Pick, nobody, found, pick}

-- the best of the places from i on
abbrev pub BestFrom : {X : Type 0} → List X → ℕ → Option ℕ → Pick X → Type 0
BestFrom xs i None p = p ≡ nobody
BestFrom {X} xs i (Some j) p = (i ≤ j) × (j < length xs) × ((d : X) → p ≡ found (take (j - i) (drop i xs)) (get_or xs j d) (drop (j + 1) xs))

-- one place back
pub one_back : {X : Type 0} (xs : List X) (i : ℕ) (x : X) → 0 < i → i ≤ length xs → x ≡ get_or xs (i - 1) x → drop (i - 1) xs ≡ x ∷ drop i xs
one_back xs i x pos le read =
    let e : i - 1 + 1 ≡ i = omega arith in
    drop_more xs (i - 1) x (omega arith) ∙ ap (λ y. y ∷ drop (i - 1 + 1) xs) (sym read) ∙ ap (λ k. x ∷ drop k xs) e

-- i' is the place before i, and x stands there
module _ {X : Type 0} (able : X → Bool) (beats : X → X → Bool) (xs : List X) (i i' : ℕ) (x : X) (e : i' + 1 ≡ i) (h : drop i' xs ≡ x ∷ drop i xs) where
  grown : (j : ℕ) → i ≤ j → x ∷ take (j - i) (drop i xs) ≡ take (j - i') (x ∷ drop i xs)
  grown j le = let n : j - i' ≡ suc (j - i) = omega arith in rw n

  pass : (best : Option ℕ) → able x ≡ false → BestFrom xs i best (pick able beats (drop i xs)) → BestFrom xs i' best (pick able beats (drop i' xs))
  pass None a k = rw (h, k, a)
  pass (Some j) a k = (omega (arith, k.0), k.1, λ d. rw (h, k.2 d, a) (ap (λ b. found b (get_or xs j d) (drop (j + 1) xs)) (grown j k.0)))

  stay : (j : ℕ) (y : X) → get_or xs j y ≡ y → able x ≡ true → beats y x ≡ true → BestFrom xs i (Some j) (pick able beats (drop i xs)) →
      BestFrom xs i' (Some j) (pick able beats (drop i' xs))
  stay j y r a b k = (
    omega (arith, k.0),
    k.1,
    λ d. rw (get_or_default xs j d y k.1) (rw (h, k.2 y, r, a, b) (ap (λ z. found z y (drop (j + 1) xs)) (grown j k.0))),
  )

-- a turn at i: the one before it is read
module _ {X : Type 0} (able : X → Bool) (beats : X → X → Bool) (xs : List X) (i : ℕ) (x : X) (pos : 0 < i) (le : i ≤ length xs) (read : x ≡ get_or xs (i - 1) x) where
  prior : i - 1 + 1 ≡ i
  prior = omega arith

  abbrev pub Turn : Option ℕ → Type 0
  Turn best = BestFrom xs (i - 1) best (pick able beats (drop (i - 1) xs)) × (i - 1 ≤ length xs)

  abbrev pub SoFar : Option ℕ → Type 0
  SoFar best = BestFrom xs i best (pick able beats (drop i xs))

  pub passed_over : (best : Option ℕ) → able x ≡ false → SoFar best → Turn best
  passed_over best a k = (pass able beats xs i (i - 1) x prior (one_back xs i x pos le read) best a k, omega arith)

  pub still_best : (j : ℕ) (y : X) → y ≡ get_or xs j y → able x ≡ true → beats y x ≡ true → SoFar (Some j) → Turn (Some j)
  still_best j y r a b k = (stay able beats xs i (i - 1) x prior (one_back xs i x pos le read) j y (sym r) a b k, omega arith)
