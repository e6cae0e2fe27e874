-- Of an ordering that obeys its laws, the preference of a table is a strict one: no two beat each other, and who does not
-- beat one that does not beat a third does not beat the third.
use Rattle.std.proofs.Common.{◌≡◌, ℕ, Bool, true, false, ◌&&◌, ◌||◌, eqb, Option, refl, arith}
use Rattle.std.proofs.lemmas.Bool.Decides.{nat_tests}
use Rattle.market.specs.declared.codes.Side.{Side}
use Rattle.market.specs.declared.codes.Kind.{Kind}
use Rattle.market.specs.Prices.{better}
use Rattle.std.specs.declared.cmp.Ordering.TheVariants.{Less, Equal, Greater}
use Rattle.priority.specs.declared.standing.ActiveView.{ActiveView}
use Rattle.priority.specs.declared.standing.RestingView.{RestingView}
use Rattle.std.specs.Ordering.{ordering_reverse}
use Rattle.priority.specs.Standings.{Standing, NotBehind}
use Rattle.matching.specs.declared.active.Active.{Active}
use Rattle.matching.specs.declared.active.LastLevel.{LastLevel}
use Rattle.matching.specs.Choice.{Ordering, is_ahead, asking, beats}
use Rattle.rules.specs.Choices.{LawfulOrdering}

-- a strict preference
pub record Strict {X : Type 0} (beats : X → X → Bool) : Type 0 where
  pub one_way : (a b : X) → beats a b ≡ true → beats b a ≡ false
  pub through : (a b c : X) → beats a b ≡ false → beats b c ≡ false → beats a c ≡ false

one_way_at : (s : Side) (x y : ℕ) (p q : Bool) → (x ≡ y → p ≡ true → q ≡ false) → (better s x y || (eqb x y && p)) ≡ true → (better s y x || (eqb y x && q)) ≡ false
one_way_at s x y p q h e = grind (arith, nat_tests)

through_at : (s : Side) (x y z : ℕ) (p q r : Bool) → (x ≡ y → y ≡ z → p ≡ false → q ≡ false → r ≡ false) → (better s x y || (eqb x y && p)) ≡ false →
    (better s y z || (eqb y z && q)) ≡ false → (better s x z || (eqb x z && r)) ≡ false
through_at s x y z p q r h e f = grind (arith, nat_tests)

ahead_exchanged : (s : Standing) → is_ahead s ≡ true → is_ahead (ordering_reverse s) ≡ false
ahead_exchanged s e = grind arith

not_ahead : (s : Standing) → is_ahead s ≡ false → NotBehind (ordering_reverse s)
not_ahead Less e = absurd (cc)
not_ahead Greater e = tt
not_ahead Equal e = tt

not_behind : (s : Standing) → NotBehind s → is_ahead (ordering_reverse s) ≡ false
not_behind Greater h = absurd h
not_behind Less h = refl
not_behind Equal h = refl

module _ (order : Ordering) (lawful : LawfulOrdering order) (q : ActiveView) where
  turned : (a b : RestingView) → is_ahead (order q a b) ≡ false → NotBehind (order q b a)
  turned a b e = rw (lawful.swapped q a b) (not_ahead (order q a b) e)

  not_ahead_through : (a b c : RestingView) → is_ahead (order q a b) ≡ false → is_ahead (order q b c) ≡ false → is_ahead (order q a c) ≡ false
  not_ahead_through a b c e f = rw (lawful.swapped q c a) (not_behind (order q c a) (lawful.chain q c b a (turned b c f) (turned a b e)))

module _ {X R : Type 0} (order : Ordering) (lawful : LawfulOrdering order) (a : Active R) (kind : Kind) (last : Option LastLevel) (price : X → ℕ) (view : X → RestingView) where
  pub strict : Strict (beats a kind last order price view)
  strict =
      record {
        one_way = λ x y e.
            one_way_at a.side (price x) (price y) _ _ (λ s t. rw (← s, lawful.swapped (asking a kind last (price x)) (view x) (view y)) (ahead_exchanged _ t)) e;
        through = λ x y z e f.
            through_at a.side (price x) (price y) (price z) _ _ _
            (λ s t p q. not_ahead_through order lawful (asking a kind last (price x)) (view x) (view y) (view z) p (rw s q))
            e f;
      }
