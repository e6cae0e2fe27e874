-- Whom an active order meets next is the best of those that it may meet, and nobody else is, for any two priorities that
-- obey their laws.
use Rattle.std.specs.Prelude.{◌≡◌, ℕ, Bool, true, false, List}
use Rattle.std.specs.List.{AllByRecursion}
use Rattle.market.specs.declared.codes.Kind.TheVariants.{SdlLit}
use Rattle.market.specs.declared.orders.DarkOrder.{DarkOrder}
use Rattle.market.specs.declared.orders.LitOrder.{LitOrder}
use Rattle.market.specs.declared.quotes.Quote.{Quote}
use Rattle.market.specs.Prices.{better}
use Rattle.std.specs.declared.cmp.Ordering.TheVariants.{Equal}
use Rattle.priority.specs.declared.standing.ActiveView.{ActiveView}
use Rattle.priority.specs.declared.standing.RestingView.{RestingView}
use Rattle.std.specs.Ordering.{ordering_reverse}
use Rattle.priority.specs.Standings.{NotBehind}
use Rattle.matching.specs.Choice.{Ordering, Best, beats}
use Rattle.matching.specs.Meets.{may_meet_dark, may_meet_lit, price_of_dark, price_of_lit, view_of_dark, view_of_lit}
use Rattle.matching.specs.Sweep.{Orderings, Run, Chosen, no_one, dark, lit, dark_terms, lit_terms, dark_kind, price_under, choice}

-- the laws of a priority
pub record LawfulOrdering (order : Ordering) : Type 0 where
  -- exchanging the two exchanges the answer
  pub swapped : (q : ActiveView) (a b : RestingView) → order q b a ≡ ordering_reverse (order q a b)
  -- an order is level with itself
  pub same : (q : ActiveView) (a : RestingView) → order q a a ≡ Equal
  -- what is not behind one that is not behind a third is not behind the third
  pub chain : (q : ActiveView) (a b c : RestingView) → NotBehind (order q a b) → NotBehind (order q b c) → NotBehind (order q a c)

-- the priorities of both tables obey them
pub record LawfulOrderings (o : Orderings) : Type 0 where
  pub dark : LawfulOrdering o.dark
  pub lit : LawfulOrdering o.lit

-- a Dark order that may now be met
abbrev pub dark_able : {R : Type 0} → Quote → Run R → DarkOrder R → Bool
dark_able q r = may_meet_dark (dark_terms q r.progress.active r.lits)

-- a lit order that may now be met
abbrev pub lit_able : {R : Type 0} → Quote → Run R → LitOrder R → Bool
lit_able q r = may_meet_lit (lit_terms q r.progress.active)

-- a Dark order has a better price than another, or at one price is ahead of it by the Dark table's priority
abbrev pub dark_beats : {R : Type 0} → Orderings → Quote → Run R → DarkOrder R → DarkOrder R → Bool
dark_beats o q r =
    let t = dark_terms q r.progress.active r.lits in
    beats r.progress.active (dark_kind r.progress.active.form) r.progress.dark o.dark (price_of_dark t) (view_of_dark t)

-- a lit order has a better price than another, or at one price is ahead of it by the lit table's priority
abbrev pub lit_beats : {R : Type 0} → Orderings → Quote → Run R → LitOrder R → LitOrder R → Bool
lit_beats o q r =
    let t = lit_terms q r.progress.active in
    beats r.progress.active SdlLit r.progress.lit o.lit (price_of_lit t) (view_of_lit t)

-- a Dark order is the right choice
pub record DarkIsBest {R : Type 0} (o : Orderings) (q : Quote) (r : Run R) (before : List (DarkOrder R)) (d : DarkOrder R) (after : List (DarkOrder R)) : Type 0 where
  -- it may be met, and those of its table that are level with it stand after it
  pub best : Best (dark_able q r) (dark_beats o q r) r.darks before d after
  -- no Dark order that may be met beats it
  pub unbeaten : AllByRecursion (λ x. dark_able q r x ≡ true → dark_beats o q r x d ≡ false) r.darks
  -- its price is better for the active order than that of every lit order that may be met
  pub price : AllByRecursion (λ l. lit_able q r l ≡ true → better r.progress.active.side (price_under q d) l.price ≡ true) r.lits

-- a lit order is the right choice
pub record LitIsBest {R : Type 0} (o : Orderings) (q : Quote) (r : Run R) (before : List (LitOrder R)) (l : LitOrder R) (after : List (LitOrder R)) : Type 0 where
  -- it may be met, and those of its table that are level with it stand after it
  pub best : Best (lit_able q r) (lit_beats o q r) r.lits before l after
  -- no lit order that may be met beats it
  pub unbeaten : AllByRecursion (λ x. lit_able q r x ≡ true → lit_beats o q r x l ≡ false) r.lits
  -- no Dark order that may be met has a better price for the active order
  pub price : AllByRecursion (λ d. dark_able q r d ≡ true → better r.progress.active.side (price_under q d) l.price ≡ false) r.darks

-- to meet no one is right where nobody may be met
pub record NoneIsBest {R : Type 0} (q : Quote) (r : Run R) : Type 0 where
  pub no_dark : AllByRecursion (λ d. dark_able q r d ≡ false) r.darks
  pub no_lit : AllByRecursion (λ l. lit_able q r l ≡ false) r.lits

-- to meet this order, or no one, is right
abbrev pub IsBest : {R : Type 0} → Orderings → Quote → Run R → Chosen R → Type 0
IsBest o q r no_one = NoneIsBest q r
IsBest o q r (dark before d after) = DarkIsBest o q r before d after
IsBest o q r (lit before l after) = LitIsBest o q r before l after

-- the choice is best, and nothing else is
pub record ChoosesBest {R : Type 0} (o : Orderings) (q : Quote) (r : Run R) : Type 0 where
  pub right : IsBest o q r (choice o q r)
  pub only : (c : Chosen R) → IsBest o q r c → choice o q r ≡ c

-- so it is in every sweep, at every point of it
abbrev pub ChoiceIsBest : Type 0
ChoiceIsBest = (o : Orderings) → LawfulOrderings o → (q : Quote) (r : Run ℕ) → ChoosesBest o q r
