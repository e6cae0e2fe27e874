-- What a pick says of its queue, whatever the preference: the picked one is able and the queue splits there; where
-- nobody is picked nobody is able.
use Rattle.std.proofs.Common.{◌≡◌, Bool, true, false, cond, not, ◌&&◌, ◌||◌, List, [], ◌∷◌, ◌++◌, sym, refl, ap, ◌∙◌, ap₂, arith}
use Rattle.std.specs.List.{list_any}
use Rattle.std.proofs.lemmas.Bool.{and_parts}
use Rattle.matching.specs.Choice.{Pick, nobody, found, join, pick}

-- an order that the test passes over changes no answer
pub some_split : {X : Type 0} (f : X → Bool) (before : List X) (x : X) (after : List X) → f x ≡ false → list_any f (before ++ x ∷ after) ≡ list_any f (before ++ after)
some_split f [] x after e = rw e
some_split f (y ∷ ys) x after e = ap (λ t. f y || t) (some_split f ys x after e)

module _ {X : Type 0} (able : X → Bool) (beats : X → X → Bool) where
  none_step : (x : X) (xs : List X) (p : Pick X) → (p ≡ nobody → list_any able xs ≡ false) → join able beats x xs p ≡ nobody → (able x || list_any able xs) ≡ false
  none_step x xs p ih k = grind arith

  pub none_picked : (xs : List X) → pick able beats xs ≡ nobody → list_any able xs ≡ false
  none_picked [] e = refl
  none_picked (x ∷ xs) e = none_step x xs (pick able beats xs) (none_picked xs) e

  here : (y : X) (ys before : List X) (x : X) (after : List X) → able y ≡ true → found [] y ys ≡ found before x after → (able x ≡ true) × (y ∷ ys ≡ before ++ x ∷ after)
  here y ys before x after a k =
      let p : [] ≡ before = cc in
      let q : y ∷ ys ≡ x ∷ after = cc in
      let v : y ≡ x = cc in
      (ap able (sym v) ∙ a, q ∙ ap (λ b. b ++ x ∷ after) p)

  one_able : (y : X) (ys before : List X) (x : X) (after : List X) (t : Bool) → able y ≡ t → cond t (found [] y ys) nobody ≡ found before x after →
      (able x ≡ true) × (y ∷ ys ≡ before ++ x ∷ after)
  one_able y ys before x after true a k = here y ys before x after a k
  one_able y ys before x after false a k = absurd (cc)

  two_able : (y : X) (ys b : List X) (z : X) (d before : List X) (x : X) (after : List X) (t : Bool) → (able y && not (beats z y)) ≡ t →
      (able z ≡ true) × (ys ≡ b ++ z ∷ d) → cond t (found [] y ys) (found (y ∷ b) z d) ≡ found before x after → (able x ≡ true) × (y ∷ ys ≡ before ++ x ∷ after)
  two_able y ys b z d before x after true a ih k = here y ys before x after (and_parts (able y) _ a).0 k
  two_able y ys b z d before x after false a ih k =
      let p : y ∷ b ≡ before = cc in
      let q : z ≡ x = cc in
      let r : d ≡ after = cc in
      (ap able (sym q) ∙ ih.0, ap (λ l. y ∷ l) ih.1 ∙ ap₂ (λ l m. l ++ m) p (ap₂ (λ l m. l ∷ m) q r))

  able_step : (y : X) (ys before : List X) (x : X) (after : List X) (p : Pick X) →
      ((b : List X) (z : X) (d : List X) → p ≡ found b z d → (able z ≡ true) × (ys ≡ b ++ z ∷ d)) → join able beats y ys p ≡ found before x after →
      (able x ≡ true) × (y ∷ ys ≡ before ++ x ∷ after)
  able_step y ys before x after nobody ih k = one_able y ys before x after (able y) refl k
  able_step y ys before x after (found b z d) ih k = two_able y ys b z d before x after (able y && not (beats z y)) refl (ih b z d refl) k

  pub picked_able : (xs before : List X) (x : X) (after : List X) → pick able beats xs ≡ found before x after → (able x ≡ true) × (xs ≡ before ++ x ∷ after)
  picked_able [] before x after e = absurd (cc)
  picked_able (y ∷ ys) before x after e = able_step y ys before x after (pick able beats ys) (λ b z d k. picked_able ys b z d k) e
