-- After a trade nobody may be met at a better price than that of the level last chosen at.
use Rattle.std.proofs.Common.{◌≡◌, ℕ, ◌-◌, Bool, true, false, ltb, List, ◌∷◌, ◌++◌, Some, None, Option, sym, refl, ◌∙◌, arith}
use Rattle.std.proofs.lemmas.Bool.{both_ways}
use Rattle.std.proofs.lemmas.Bool.Decides.{nat_tests}
use Rattle.market.specs.declared.codes.Side.{Side}
use Rattle.market.specs.declared.orders.DarkOrder.{DarkOrder}
use Rattle.market.specs.declared.orders.LitOrder.{LitOrder}
use Rattle.market.specs.declared.quotes.Quote.{Quote}
use Rattle.market.specs.Prices.{better, beyond}
use Rattle.market.specs.Quotes.{midpoint_of, nearest_lit}
use Rattle.matching.specs.declared.active.Active.{Active}
use Rattle.matching.specs.declared.active.DarkForm.{DarkForm}
use Rattle.matching.specs.declared.active.Form.{Form}
use Rattle.matching.specs.declared.active.Form.TheVariants as form
use Rattle.matching.specs.declared.active.DarkTerms.{DarkTerms}
use Rattle.matching.specs.declared.active.LastLevel.{LastLevel}
use Rattle.matching.specs.Meets.{in_bounds, meets_dark as meets_dark_at, meets_lit as meets_lit_at, may_meet_dark, may_meet_lit}
use Rattle.matching.specs.Sweep.{dark_terms, lit_terms, price_under, active_after, lit_after, lit_left}
use Rattle.rules.proofs.Levels.{NoBetter}
use Rattle.rules.proofs.Nearest.{Priced, still_past}
use Rattle.rules.proofs.Prices.{no_better_itself, beyond_better}

-- where an SDL order last chose a Dark order, no lit order is as good
abbrev pub Clear : {R : Type 0} → Form → Side → Option LastLevel → List (LitOrder R) → Type 0
Clear (form.Sdl f) s None ls = Unit {0}
Clear (form.Sdl f) s (Some n) ls = beyond s (nearest_lit s ls) n.price ≡ true
Clear (form.Dark f) s last ls = Unit {0}

-- nothing to show while no level was chosen at
pub none_clear : {R : Type 0} (f : Form) (s : Side) (ls : List (LitOrder R)) → Clear f s None ls
none_clear (form.Sdl f) s ls = tt
none_clear (form.Dark f) s ls = tt

-- a lit trade leaves it so
pub still_clear : {R : Type 0} (f : Form) (s : Side) (last : Option LastLevel) (n : ℕ) (l : LitOrder R) (after before : List (LitOrder R)) → Priced (before ++ l ∷ after) →
    Clear f s last (before ++ l ∷ after) → Clear f s last (before ++ (lit_left (lit_after n l) ++ after))
still_clear (form.Sdl f) s None n l after before p c = tt
still_clear (form.Sdl f) s (Some k) n l after before p c = still_past s k.price n l after before p c
still_clear (form.Dark f) s last n l after before p c = tt

-- less remains after a trade
something_before : (x n : ℕ) → ltb 0 (x - n) ≡ true → ltb 0 x ≡ true
something_before x n e = grind (arith, nat_tests)

module _ {R : Type 0} (q : Quote) (a : Active R) (ls : List (LitOrder R)) where
  -- an active Dark order meets at the midpoint
  at_midpoint : (f : DarkForm) (d : DarkOrder R) (p : ℕ) → meets_dark_at (form.Dark f) (dark_terms q a ls) d p ≡ true → p ≡ midpoint_of q
  unfolding meets_dark_at
  at_midpoint f d p e = grind (arith, nat_tests)

  -- a Dark choice makes it so
  pub past_lits : (f : Form) (d : DarkOrder R) (p m : ℕ) → meets_dark_at f (dark_terms q a ls) d p ≡ true → Clear f a.side (Some (record { price = p; need = m })) ls
  unfolding meets_dark_at in_bounds
  past_lits (form.Sdl f) d p m e = grind arith
  past_lits (form.Dark f) d p m e = tt

  pub meets_of : (d : DarkOrder R) → may_meet_dark (dark_terms q a ls) d ≡ true → meets_dark_at a.form (dark_terms q a ls) d (price_under q d) ≡ true
  meets_of d e = grind arith

module _ {R : Type 0} (q : Quote) (a : Active R) (ls ls' : List (LitOrder R)) (n : ℕ) where
  abbrev before : DarkTerms R
  before = dark_terms q a ls

  abbrev after : DarkTerms R
  after = dark_terms q (active_after n a) ls'

  -- what may be met after a trade could be met before, if the two could meet at its price
  could_meet : (x : DarkOrder R) → may_meet_dark after x ≡ true → meets_dark_at a.form before x (price_under q x) ≡ true → may_meet_dark before x ≡ true
  could_meet x m k = grind (arith, something_before a.remaining n)

  -- a lit trade brings no Dark order within reach at a better price than the last level's
  no_better_met : (f : Form) (last : Option LastLevel) (x : DarkOrder R) (z p : ℕ) → Clear f a.side last ls → meets_lit_at f (lit_terms q a) p ≡ true →
      (meets_dark_at f before x z ≡ true → NoBetter a.side last z) → meets_dark_at f after x z ≡ true → NoBetter a.side last z
  unfolding meets_dark_at meets_lit_at in_bounds
  no_better_met (form.Sdl f) None x z p c l h m = tt
  no_better_met (form.Sdl f) (Some k) x z p c l h m = go (better a.side z k.price) refl
    where
      go : (t : Bool) → better a.side z k.price ≡ t → better a.side z k.price ≡ false
      go true e = let b = beyond_better a.side (nearest_lit a.side ls) k.price z c e in h (grind arith)
      go false e = e
  no_better_met (form.Dark f) last x z p d l h m = absurd (both_ways false refl l)

  pub no_better_after_lit : (last : Option LastLevel) (l : LitOrder R) → Clear a.form a.side last ls → may_meet_lit (lit_terms q a) l ≡ true → (x : DarkOrder R) →
      (may_meet_dark before x ≡ true → NoBetter a.side last (price_under q x)) → may_meet_dark after x ≡ true → NoBetter a.side last (price_under q x)
  no_better_after_lit last l c e x h m =
      no_better_met a.form last x (price_under q x) l.price c (grind arith) (λ k. h (could_meet x m k)) (meets_of q (active_after n a) ls' x m)

module _ {R : Type 0} (q : Quote) (a : Active R) (ls : List (LitOrder R)) (n : ℕ) where
  -- who may be met after a trade with a Dark order could be met before, or is priced at the midpoint as that order was
  meets_again : (f : Form) (s : Side) (d x : DarkOrder R) (p z : ℕ) → meets_dark_at f (dark_terms q a ls) d p ≡ true →
      (meets_dark_at f (dark_terms q a ls) x z ≡ true → better s z p ≡ false) → meets_dark_at f (dark_terms q (active_after n a) ls) x z ≡ true → better s z p ≡ false
  unfolding meets_dark_at in_bounds
  meets_again (form.Sdl f) s d x p z e h m = h m
  meets_again (form.Dark f) s d x p z e h m =
      let k : z ≡ p = at_midpoint q (active_after n a) ls f x z m ∙ sym (at_midpoint q a ls f d p e) in
      rw k (no_better_itself s p)

  pub no_better_after_dark : (d : DarkOrder R) → may_meet_dark (dark_terms q a ls) d ≡ true → (x : DarkOrder R) →
      (may_meet_dark (dark_terms q a ls) x ≡ true → better a.side (price_under q x) (price_under q d) ≡ false) →
      may_meet_dark (dark_terms q (active_after n a) ls) x ≡ true → better a.side (price_under q x) (price_under q d) ≡ false
  no_better_after_dark d e x h m =
      meets_again a.form a.side d x (price_under q d) (price_under q x) (meets_of q a ls d e) (λ k. h (could_meet q a ls ls n x m k)) (meets_of q (active_after n a) ls x m)

  meets_lit_again : (f : Form) (p : ℕ) → meets_lit_at f (lit_terms q (active_after n a)) p ≡ true → meets_lit_at f (lit_terms q a) p ≡ true
  unfolding meets_lit_at
  meets_lit_again (form.Sdl f) p m = m
  meets_lit_again (form.Dark f) p m = m

  pub lit_again : (x : LitOrder R) → may_meet_lit (lit_terms q (active_after n a)) x ≡ true → may_meet_lit (lit_terms q a) x ≡ true
  lit_again x m = let b = meets_lit_again a.form x.price in grind (arith, something_before a.remaining n)
