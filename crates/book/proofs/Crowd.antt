-- Sixteen members with at most sixteen orders each in a table; and where one of them has fewer, there is a place.
use Rattle.std.proofs.Common.{◌≡◌, ℕ, zero, suc, ◌+◌, ◌*◌, ◌<◌, ◌≤◌, Bool, true, false, cond, leb, ◌⊎◌, List, [], ◌∷◌, length, refl, ◌∙◌, inl, inr, ⊎_elim, arith}
use Rattle.std.specs.List.{count_by, list_all}
use Rattle.std.proofs.lemmas.List.Sums.{sum_by-cons}
use Rattle.std.proofs.lemmas.Bool.Decides.{nat_tests}
use Rattle.std.proofs.lemmas.Bool.{leb-false, and_parts, cases_eq}
use Rattle.market.specs.Orders.{valid_member}
use Rattle.book.specs.Grounds.{of_member}

module _ {X : Type 0} (owner : X → ℕ) where
  -- one more order, of the member or of another
  counted : (m : ℕ) (x : X) (xs : List X) → owner x ≡ m → count_by (of_member owner m) (x ∷ xs) ≡ count_by (of_member owner m) xs + 1
  counted m x xs q = grind (arith, nat_tests, sum_by-cons (λ y. cond (of_member owner m y) 1 0) x xs)

  passed_by : (m : ℕ) (x : X) (xs : List X) → (owner x ≡ m → ⊥) → count_by (of_member owner m) (x ∷ xs) ≡ count_by (of_member owner m) xs
  passed_by m x xs q = grind (arith, nat_tests, sum_by-cons (λ y. cond (of_member owner m y) 1 0) x xs)

  -- how many orders the members 1 to n have
  sums : ℕ → List X → ℕ
  sums zero xs = 0
  sums (suc n) xs = count_by (of_member owner (suc n)) xs + sums n xs

  sums_none : (n : ℕ) → sums n [] ≡ 0
  unfolding sums
  sums_none zero = refl
  sums_none (suc n) = let i = sums_none n in omega arith

  -- one more order, of a member past n, or of one of them
  past : (n : ℕ) (x : X) (xs : List X) → n < owner x → sums n (x ∷ xs) ≡ sums n xs
  unfolding sums
  past zero x xs lt = refl
  past (suc n) x xs lt = rw (passed_by (suc n) x xs (λ q. omega arith), past n x xs (omega arith))

  within : (n : ℕ) (x : X) (xs : List X) → 1 ≤ owner x → owner x ≤ n → sums n (x ∷ xs) ≡ sums n xs + 1
  unfolding sums
  within zero x xs pos le = absurd (omega arith)
  within (suc n) x xs pos le =
      ⊎_elim
      (λ q. let i = past n x xs (omega arith) in let c = counted (suc n) x xs q in omega (arith, i, c))
      (λ q. let i = within n x xs pos (omega arith) in let c = passed_by (suc n) x xs q in omega (arith, i, c))
      (cases_eq (owner x) (suc n))

  member_bounds : (n : ℕ) → valid_member n ≡ true → (1 ≤ n) × (n ≤ 16)
  member_bounds n e = (grind (arith, nat_tests), grind (arith, nat_tests))

  -- all of a table pass a test that asks for a valid member, and for at most 16 orders of that member in the table
  module _ (xs : List X) (fine : X → Bool) (valid : (x : X) → fine x ≡ true → valid_member (owner x) ≡ true)
      (few : (x : X) → fine x ≡ true → count_by (of_member owner (owner x)) xs ≤ 16) where
    crowd : (ys : List X) → list_all fine ys ≡ true → sums 16 ys ≡ length ys
    crowd [] e = sums_none 16
    crowd (y ∷ ys) e =
        let p = and_parts (fine y) (list_all fine ys) e in
        let b = member_bounds (owner y) (valid y p.0) in
        let i = crowd ys p.1 in
        let w = within 16 y ys b.0 b.1 in
        omega (arith, i, w)

    most : (m : ℕ) (ys : List X) → list_all fine ys ≡ true → (count_by (of_member owner m) ys ≡ 0) ⊎ (count_by (of_member owner m) xs ≤ 16)
    most m [] e = inl refl
    most m (y ∷ ys) e =
        let p = and_parts (fine y) (list_all fine ys) e in
        ⊎_elim
        (λ q. inr (rw q at (few y p.0)))
        (λ q. ⊎_elim (λ z. inl (passed_by m y ys q ∙ z)) (λ z. inr z) (most m ys p.1))
        (cases_eq (owner y) m)

    upper : list_all fine xs ≡ true → (m : ℕ) → count_by (of_member owner m) xs ≤ 16
    upper e m = ⊎_elim (λ z. omega arith) (λ z. z) (most m xs e)

    bound : ((m : ℕ) → count_by (of_member owner m) xs ≤ 16) → (m₀ : ℕ) → 1 ≤ m₀ → count_by (of_member owner m₀) xs ≤ 15 → (n : ℕ) →
        (m₀ ≤ n → sums n xs + 1 ≤ 16 * n) × (sums n xs ≤ 16 * n)
    unfolding sums
    bound up m₀ pos less zero = ((λ le. absurd (omega arith)), omega arith)
    bound up m₀ pos less (suc n) =
        let i = bound up m₀ pos less n in
        let i₀ = i.0 in
        let i₁ = i.1 in
        let u = up (suc n) in (
          (λ le. ⊎_elim (λ q. let k : count_by (of_member owner (suc n)) xs ≤ 15 = rw q at less in omega arith) (λ q. let k = i₀ (omega arith) in omega arith) (cases_eq m₀ (suc n))),
          omega arith,
        )

    pub has_place : list_all fine xs ≡ true → (m₀ : ℕ) → valid_member m₀ ≡ true → leb 16 (count_by (of_member owner m₀) xs) ≡ false → length xs < 256
    has_place e m₀ v f =
        let b = member_bounds m₀ v in
        let k = leb-false 16 (count_by (of_member owner m₀) xs) f in
        let d = (bound (upper e) m₀ b.0 (omega arith) 16).0 b.1 in
        let c = crowd xs e in
        omega arith
