-- With a strict preference the pick of a queue is the best of it, and the only one.
use Rattle.std.proofs.Common.{◌≡◌, ℕ, Bool, true, false, cond, not, ◌&&◌, List, [], ◌∷◌, ◌++◌, Option, refl, ap, arith}
use Rattle.std.specs.List.{AllByRecursion}
use Rattle.std.proofs.ByRecursion.{All-append, All-weaker}
use Rattle.market.specs.declared.codes.Kind.{Kind}
use Rattle.priority.specs.declared.standing.RestingView.{RestingView}
use Rattle.matching.specs.declared.active.Active.{Active}
use Rattle.matching.specs.declared.active.LastLevel.{LastLevel}
use Rattle.matching.specs.Choice.{Pick, nobody, found, join, pick, Best, Picks, Ordering, beats}
use Rattle.rules.specs.Choices.{LawfulOrdering}
use Rattle.rules.proofs.Beats.{Strict, strict}

-- what holds of each holds of the one in the middle
pub all_mid : {X : Type 0} (P : X → Type 0) (before : List X) (c : X) (after : List X) → AllByRecursion P (before ++ c ∷ after) → P c
all_mid P [] c after h = h.0
all_mid P (x ∷ xs) c after h = all_mid P xs c after h.1

module _ {X : Type 0} (able : X → Bool) (prefers : X → X → Bool) where
  one : (xs : List X) (x : X) (t : Bool) → able x ≡ t → AllByRecursion (λ y. able y ≡ false) xs → Picks able prefers (x ∷ xs) (cond t (found [] x xs) nobody)
  one xs x true e h = record { split = refl; fit = e; ahead = tt; behind = All-weaker _ _ (λ y n t. cc) xs h }
  one xs x false e h = (e, h)

  pub none_able : (xs : List X) → AllByRecursion (λ x. able x ≡ false) xs → pick able prefers xs ≡ nobody
  none_able [] h = refl
  none_able (x ∷ xs) h = rw (none_able xs h.1, h.0)

  module _ (strict : Strict prefers) where
    two : (xs : List X) (x : X) (before : List X) (y : X) (after : List X) (p q : Bool) → able x ≡ p → prefers y x ≡ q → Best able prefers xs before y after →
        Picks able prefers (x ∷ xs) (cond (p && not q) (found [] x xs) (found (x ∷ before) y after))
    two xs x before y after true true e f h = record { split = ap (λ t. x ∷ t) h.split; fit = h.fit; ahead = (λ _. f, h.ahead); behind = h.behind }
    two xs x before y after false q e f h = record { split = ap (λ t. x ∷ t) h.split; fit = h.fit; ahead = (λ t. cc, h.ahead); behind = h.behind }
    two xs x before y after true false e f h =
        record {
          split = refl;
          fit = e;
          ahead = tt;
          behind =
              rw h.split
              (All-append _ before (y ∷ after) (All-weaker _ _ (λ z b t. strict.through z y x (strict.one_way y z (b t)) f) before h.ahead)
              (λ _. f, All-weaker _ _ (λ z b t. strict.through z y x (b t) f) after h.behind));
        }

    step : (xs : List X) (x : X) (p : Pick X) → Picks able prefers xs p → Picks able prefers (x ∷ xs) (join able prefers x xs p)
    step xs x nobody h = one xs x (able x) refl h
    step xs x (found before y after) h = two xs x before y after (able x) (prefers y x) refl refl h

    -- nobody is able, or the picked one is best
    pub picks : (xs : List X) → Picks able prefers xs (pick able prefers xs)
    picks [] = tt
    picks (x ∷ xs) = step xs x (pick able prefers xs) (picks xs)

    last : (c : X) (after : List X) (p : Pick X) → able c ≡ true → AllByRecursion (λ x. able x ≡ true → prefers x c ≡ false) after → Picks able prefers after p → join able prefers c after p ≡ found [] c after
    last c after nobody e h s = rw e
    last c after (found before y rest) e h s =
        let low : prefers y c ≡ false = all_mid (λ x. able x ≡ true → prefers x c ≡ false) before y rest (rw s.split at h) s.fit in
        rw (e, low)

    at_place : (before : List X) (c : X) (after : List X) → able c ≡ true → AllByRecursion (λ x. able x ≡ true → prefers c x ≡ true) before →
        AllByRecursion (λ x. able x ≡ true → prefers x c ≡ false) after → pick able prefers (before ++ c ∷ after) ≡ found before c after
    at_place [] c after e h k = last c after (pick able prefers after) e k (picks after)
    at_place (x ∷ xs) c after e h k = let i = at_place xs c after e h.1 k in rw i (grind (arith, h.0))

    -- whoever is best is picked
    pub best_picked : (xs before : List X) (c : X) (after : List X) → Best able prefers xs before c after → pick able prefers xs ≡ found before c after
    best_picked xs before c after h = rw h.split (at_place before c after h.fit h.ahead h.behind)

    level_with_itself : (c : X) → prefers c c ≡ false
    level_with_itself c = grind (arith, strict.one_way c c)

    -- no able one beats the best
    pub unbeaten_by : (xs before : List X) (c : X) (after : List X) → Best able prefers xs before c after → AllByRecursion (λ x. able x ≡ true → prefers x c ≡ false) xs
    unbeaten_by xs before c after h =
        rw h.split
        (All-append _ before (c ∷ after) (All-weaker _ _ (λ x b t. strict.one_way c x (b t)) before h.ahead) (λ _. level_with_itself c, h.behind))

-- so for every ordering that obeys its laws, whoever is active, whatever the level and however the queue is priced and seen
module _ {X R : Type 0} (able : X → Bool) (order : Ordering) (lawful : LawfulOrdering order) (a : Active R) (kind : Kind) (last : Option LastLevel) (price : X → ℕ) (view : X → RestingView) where
  pub lawful_picks : (xs : List X) → Picks able (beats a kind last order price view) xs (pick able (beats a kind last order price view) xs)
  lawful_picks = picks able (beats a kind last order price view) (strict order lawful a kind last price view)

  pub lawful_picked : (xs before : List X) (c : X) (after : List X) → Best able (beats a kind last order price view) xs before c after →
      pick able (beats a kind last order price view) xs ≡ found before c after
  lawful_picked = best_picked able (beats a kind last order price view) (strict order lawful a kind last price view)

  pub lawful_unbeaten : (xs before : List X) (c : X) (after : List X) → Best able (beats a kind last order price view) xs before c after →
      AllByRecursion (λ x. able x ≡ true → beats a kind last order price view x c ≡ false) xs
  lawful_unbeaten = unbeaten_by able (beats a kind last order price view) (strict order lawful a kind last price view)
