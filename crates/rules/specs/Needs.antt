-- The need, for one table at one price, is what remained of the active order when its sweep first chose there. A sweep that
-- notes every choice can look that up; one that remembers only the level last chosen at in each table comes to the same.
use Rattle.std.specs.Prelude.{◌≡◌, ℕ, Bool, cond, ◌&&◌, ◌||◌, List, [], ◌∷◌, ◌++◌, ◌==◌, ◌≢◌}
use Rattle.std.specs.List.{AllByRecursion}
use Rattle.market.specs.declared.codes.Kind.{Kind}
use Rattle.market.specs.declared.codes.Kind.TheVariants.{SdlLit}
use Rattle.market.specs.declared.orders.DarkOrder.{DarkOrder}
use Rattle.market.specs.declared.orders.LitOrder.{LitOrder}
use Rattle.market.specs.declared.orders.Fill.{Fill}
use Rattle.market.specs.declared.quotes.Quote.{Quote}
use Rattle.market.specs.Prices.{better}
use Rattle.priority.specs.declared.standing.ActiveView.{ActiveView}
use Rattle.priority.specs.declared.standing.RestingView.{RestingView}
use Rattle.matching.specs.declared.active.Active.{Active}
use Rattle.matching.specs.Choice.{Ordering, is_ahead, pick}
use Rattle.matching.specs.Meets.{price_of_dark, price_of_lit, view_of_dark, view_of_lit}
use Rattle.matching.specs.Sweep.{Orderings, Run, Chosen, no_one, dark, lit, better_of, dark_terms, lit_terms, dark_kind, price_under, dark_fill, lit_fill, after_dark, after_lit, Swept}
use Rattle.matching.specs.Settle.{start_of}
use Rattle.rules.specs.Choices.{dark_able, lit_able}

-- a choice, noted: its price, and what then remained of the active order
pub record Note : Type 0 where
  pub price : ℕ
  pub remained : ℕ

-- the notes of a sweep: its choices in each table, the earliest first
pub record Notes : Type 0 where
  pub dark : List Note
  pub lit : List Note

abbrev pub no_notes : Notes
no_notes = record { dark = []; lit = [] }

-- the need at a price: what remained at the first choice there, or what remains now where there was none
abbrev pub first_need : List Note → ℕ → ℕ → ℕ
first_need [] p remaining = remaining
first_need (n ∷ ns) p remaining = cond (n.price == p) n.remained (first_need ns p remaining)

-- what a priority is told of the active order
abbrev pub asking_by : {R : Type 0} → Active R → Kind → List Note → ℕ → ActiveView
asking_by a kind ns p = record { member = a.member; jitney = a.jitney; need = first_need ns p a.remaining; kind = kind }

-- a better price beats; at one price, who is ahead by the priority
abbrev pub beats_by : {X R : Type 0} → Active R → Kind → List Note → Ordering → (X → ℕ) → (X → RestingView) → X → X → Bool
beats_by a kind ns order price view x y =
    better a.side (price x) (price y) || (price x == price y && is_ahead (order (asking_by a kind ns (price x)) (view x) (view y)))

-- whether one Dark order beats another, by the notes
abbrev pub dark_beats_by : {R : Type 0} → Orderings → Quote → Notes → Run R → DarkOrder R → DarkOrder R → Bool
dark_beats_by o q ns r =
    let t = dark_terms q r.progress.active r.lits in
    beats_by r.progress.active (dark_kind r.progress.active.form) ns.dark o.dark (price_of_dark t) (view_of_dark t)

-- whether one lit order beats another, by the notes
abbrev pub lit_beats_by : {R : Type 0} → Orderings → Quote → Notes → Run R → LitOrder R → LitOrder R → Bool
lit_beats_by o q ns r =
    let t = lit_terms q r.progress.active in
    beats_by r.progress.active SdlLit ns.lit o.lit (price_of_lit t) (view_of_lit t)

-- the choice, by the notes; the level that the run remembers is not read
unfoldable pub choice_by : {R : Type 0} → Orderings → Quote → Notes → Run R → Chosen R
choice_by o q ns r =
    better_of q r.progress.active.side (pick (lit_able q r) (lit_beats_by o q ns r) r.lits) (pick (dark_able q r) (dark_beats_by o q ns r) r.darks)

-- a choice at p, with what now remains
abbrev pub note : {R : Type 0} → ℕ → Run R → Note
note p r = record { price = p; remained = r.progress.active.remaining }

-- one more choice in the Dark table, at p
abbrev pub noted_dark : {R : Type 0} → ℕ → Run R → Notes → Notes
noted_dark p r ns = record { dark = ns.dark ++ note p r ∷ []; lit = ns.lit }

-- one more choice in the lit table, at p
abbrev pub noted_lit : {R : Type 0} → ℕ → Run R → Notes → Notes
noted_lit p r ns = record { dark = ns.dark; lit = ns.lit ++ note p r ∷ [] }

-- a sweep that chooses by its notes, and notes each choice
pub data SweptNoting {R : Type 0} (o : Orderings) (q : Quote) : Notes → Run R → List (Fill R) → Run R → Type 0 where
  ends : {ns : Notes} {r : Run R} → choice_by o q ns r ≡ no_one → SweptNoting o q ns r [] r
  meets_dark : {ns : Notes} {r s : Run R} {fs : List (Fill R)} (before : List (DarkOrder R)) (d : DarkOrder R) (after : List (DarkOrder R)) →
      choice_by o q ns r ≡ dark before d after → SweptNoting o q (noted_dark (price_under q d) r ns) (after_dark q r before d after) fs s →
      SweptNoting o q ns r (dark_fill (price_under q d) r.progress d ∷ fs) s
  meets_lit : {ns : Notes} {r s : Run R} {fs : List (Fill R)} (before : List (LitOrder R)) (l : LitOrder R) (after : List (LitOrder R)) →
      choice_by o q ns r ≡ lit before l after → SweptNoting o q (noted_lit l.price r ns) (after_lit r before l after) fs s →
      SweptNoting o q ns r (lit_fill l.price r.progress l ∷ fs) s

-- the two sweeps are one: the same fills, and the same left at the end
pub record SameSweep {R : Type 0} (o : Orderings) (q : Quote) (r : Run R) (fs : List (Fill R)) (s : Run R) : Type 0 where
  pub noting : Swept o q r fs s → SweptNoting o q no_notes r fs s
  pub remembering : SweptNoting o q no_notes r fs s → Swept o q r fs s

-- so it is of every sweep from its beginning, whatever the priorities, where every lit order has a price
abbrev pub NeedIsFirst : Type 0
NeedIsFirst =
    (o : Orderings) (q : Quote) (trades : ℕ) (a : Active ℕ) (ds : List (DarkOrder ℕ)) (ls : List (LitOrder ℕ)) → AllByRecursion (λ l. l.price ≢ 0) ls →
    (fs : List (Fill ℕ)) (s : Run ℕ) → SameSweep o q (start_of trades a ds ls) fs s
