-- The level last chosen at tells the need as the notes do, at every price that is no better than that level's.
use Rattle.std.proofs.Common.{◌≡◌, ℕ, false, cond, eqb, List, [], ◌∷◌, ◌++◌, Some, None, Option, sym, refl, ap, ◌∙◌, arith}
use Rattle.std.proofs.lemmas.Bool.Decides.{nat_tests}
use Rattle.market.specs.declared.codes.Side.{Side}
use Rattle.market.specs.Prices.{better}
use Rattle.matching.specs.declared.active.LastLevel.{LastLevel}
use Rattle.matching.specs.Choice.{need_at}
use Rattle.matching.specs.Sweep.{level_at}
use Rattle.rules.specs.Needs.{Note, first_need}
use Rattle.rules.proofs.Prices.{no_better_through}

-- a price is no better than that of the last level, if there is one
abbrev pub NoBetter : Side → Option LastLevel → ℕ → Type 0
NoBetter s None p = Unit {0}
NoBetter s (Some n) p = better s p n.price ≡ false

abbrev pub Agree : Side → Option LastLevel → List Note → Type 0
Agree s last ns = (p now : ℕ) → NoBetter s last p → need_at last p now ≡ first_need ns p now

later_notes : (ns ms : List Note) (p now : ℕ) → first_need (ns ++ ms) p now ≡ first_need ns p (first_need ms p now)
later_notes [] ms p now = refl
later_notes (n ∷ ns) ms p now = ap (λ m. cond (eqb n.price p) n.remained m) (later_notes ns ms p now)

no_better_than_last : (s : Side) (last : Option LastLevel) (p x : ℕ) → NoBetter s last p → better s x p ≡ false → NoBetter s last x
no_better_than_last s None p x h e = tt
no_better_than_last s (Some n) p x h e = no_better_through s x p n.price e h

-- a level at y, then one at p, asked at x
two_levels : (s : Side) (y p x need now m : ℕ) → better s p y ≡ false → better s x p ≡ false →
    cond (eqb p x) (cond (eqb y p) need now) m ≡ cond (eqb y x) need (cond (eqb p x) now m)
two_levels s y p x need now m h e = grind (arith, nat_tests)

moved_on : (s : Side) (last : Option LastLevel) (p x now m : ℕ) → NoBetter s last p → better s x p ≡ false →
    need_at (level_at last p now) x m ≡ need_at last x (cond (eqb p x) now m)
moved_on s None p x now m h e = refl
moved_on s (Some n) p x now m h e = two_levels s n.price p x n.need now m h e

pub agree_noted : (s : Side) (last : Option LastLevel) (ns : List Note) (p now : ℕ) → Agree s last ns → NoBetter s last p →
    Agree s (level_at last p now) (ns ++ record { price = p; remained = now } ∷ [])
agree_noted s last ns p now h b x m e =
    moved_on s last p x now m b e ∙ (h x (cond (eqb p x) now m) (no_better_than_last s last p x b e)
    ∙ sym (later_notes ns (record { price = p; remained = now } ∷ []) x m))
