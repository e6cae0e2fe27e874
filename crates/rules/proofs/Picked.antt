-- A pick has the best price, whatever the priority; and two preferences that agree on whom the able ones beat pick alike.
use Rattle.std.proofs.Common.{◌≡◌, ℕ, Bool, true, false, cond, not, ◌&&◌, List, [], ◌∷◌, Option, refl, ap, ◌∙◌}
use Rattle.std.specs.List.{AllByRecursion}
use Rattle.std.proofs.ByRecursion.{All-weaker}
use Rattle.std.proofs.lemmas.Bool.{or_parts}
use Rattle.market.specs.declared.codes.Kind.{Kind}
use Rattle.market.specs.Prices.{better}
use Rattle.priority.specs.declared.standing.RestingView.{RestingView}
use Rattle.matching.specs.declared.active.Active.{Active}
use Rattle.matching.specs.declared.active.LastLevel.{LastLevel}
use Rattle.matching.specs.Choice.{Pick, nobody, found, join, pick, Ordering, beats}
use Rattle.matching.proofs.Picks.{picked_able}
use Rattle.rules.proofs.Best.{all_mid}
use Rattle.rules.proofs.Prices.{no_better_itself, no_better_through, beaten_price}

module _ {X R : Type 0} (able : X → Bool) (a : Active R) (kind : Kind) (last : Option LastLevel) (order : Ordering) (price : X → ℕ) (view : X → RestingView) where
  -- no able one has a better price than the picked one
  abbrev BestPrice : List X → Pick X → Type 0
  BestPrice xs nobody = AllByRecursion (λ x. able x ≡ false) xs
  BestPrice xs (found before c after) = AllByRecursion (λ x. able x ≡ true → better a.side (price x) (price c) ≡ false) xs

  one : (xs : List X) (x : X) (t : Bool) → able x ≡ t → AllByRecursion (λ y. able y ≡ false) xs → BestPrice (x ∷ xs) (cond t (found [] x xs) nobody)
  one xs x true e h = (λ _. no_better_itself a.side (price x), All-weaker _ _ (λ y n t. cc) xs h)
  one xs x false e h = (e, h)

  two : (xs : List X) (x : X) (before : List X) (y : X) (after : List X) (p q : Bool) → able x ≡ p → beats a kind last order price view y x ≡ q →
      AllByRecursion (λ z. able z ≡ true → better a.side (price z) (price y) ≡ false) xs → BestPrice (x ∷ xs) (cond (p && not q) (found [] x xs) (found (x ∷ before) y after))
  two xs x before y after true true e f h = (λ _. beaten_price a.side (price y) (price x) _ f, h)
  two xs x before y after false q e f h = (λ t. cc, h)
  two xs x before y after true false e f h = (
    λ _. no_better_itself a.side (price x),
    All-weaker _ _ (λ z b t. no_better_through a.side (price z) (price y) (price x) (b t) (or_parts _ _ f).0) xs h,
  )

  step : (xs : List X) (x : X) (p : Pick X) → BestPrice xs p → BestPrice (x ∷ xs) (join able (beats a kind last order price view) x xs p)
  step xs x nobody h = one xs x (able x) refl h
  step xs x (found before y after) h = two xs x before y after (able x) (beats a kind last order price view y x) refl refl h

  best_price : (xs : List X) → BestPrice xs (pick able (beats a kind last order price view) xs)
  best_price [] = tt
  best_price (x ∷ xs) = step xs x (pick able (beats a kind last order price view) xs) (best_price xs)

  pub picked_price : (xs before : List X) (c : X) (after : List X) → pick able (beats a kind last order price view) xs ≡ found before c after →
      AllByRecursion (λ x. able x ≡ true → better a.side (price x) (price c) ≡ false) xs
  picked_price xs before c after e = rw e at (best_price xs)

module _ {X : Type 0} (able : X → Bool) (f g : X → X → Bool) where
  same_join : (x : X) (xs : List X) → AllByRecursion (λ y. able y ≡ true → (z : X) → f y z ≡ g y z) xs → (p : Pick X) → pick able f xs ≡ p → join able f x xs p ≡ join able g x xs p
  same_join x xs h nobody e = refl
  same_join x xs h (found before y after) e =
      let k = picked_able able f xs before y after e in
      let s : f y x ≡ g y x = all_mid (λ w. able w ≡ true → (z : X) → f w z ≡ g w z) before y after (rw k.1 at h) k.0 x in
      ap (λ t. cond (able x && not t) (found [] x xs) (found (x ∷ before) y after)) s

  pub same_pick : (xs : List X) → AllByRecursion (λ y. able y ≡ true → (z : X) → f y z ≡ g y z) xs → pick able f xs ≡ pick able g xs
  same_pick [] h = refl
  same_pick (x ∷ xs) h = same_join x xs h.1 (pick able f xs) refl ∙ ap (join able g x xs) (same_pick xs h.1)
