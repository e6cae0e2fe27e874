-- The sweep of an active order.
use Rattle.std.specs.Prelude.{◌≡◌, ℕ, ◌+◌, ◌-◌, min, cond, List, [], ◌∷◌, ◌++◌, Some, None, Option, ◌==◌}
use Rattle.market.specs.declared.codes.Side.{Side}
use Rattle.market.specs.declared.codes.Side.TheVariants.{Buy, Sell}
use Rattle.market.specs.declared.codes.Kind.{Kind}
use Rattle.market.specs.declared.codes.Kind.TheVariants.{SdlDark, SdlLit, DarkDark}
use Rattle.market.specs.declared.orders.DarkOrder.{DarkOrder}
use Rattle.market.specs.declared.orders.LitOrder.{LitOrder}
use Rattle.market.specs.declared.orders.Party.{Party}
use Rattle.market.specs.declared.orders.Fill.{Fill}
use Rattle.market.specs.declared.quotes.Quote.{Quote}
use Rattle.market.specs.Orders.{dark_party, lit_party}
use Rattle.market.specs.Prices.{better}
use Rattle.market.specs.Quotes.{dark_price, nearest_lit}
use Rattle.queue.specs.declared.queue.Queue.{Queue}
use Rattle.queue.specs.Queues.{queued, Appended}
use Rattle.matching.specs.declared.active.Active.{Active}
use Rattle.matching.specs.declared.active.Form.{Form}
use Rattle.matching.specs.declared.active.Form.TheVariants as form
use Rattle.matching.specs.declared.active.DarkTerms.{DarkTerms}
use Rattle.matching.specs.declared.active.LitTerms.{LitTerms}
use Rattle.matching.specs.declared.active.LastLevel.{LastLevel}
use Rattle.matching.specs.declared.active.Found.{Found}
use Rattle.matching.specs.declared.active.Priorities.{Priorities}
use Rattle.matching.specs.declared.active.Progress.{Progress}
use Rattle.matching.specs.declared.active.Met.{Met}
use Rattle.matching.specs.declared.choose.Asker.{Asker}
use Rattle.matching.specs.Tables.{Tables}
use Rattle.matching.specs.declared.active.Met.TheVariants as met
use Rattle.matching.specs.Choice.{Pick, nobody, found, pick, Ordering, need_at, preferred, FoundIn}
use Rattle.matching.specs.Meets.{may_meet_dark, may_meet_lit, price_of_dark, price_of_lit, view_of_dark, view_of_lit}

-- what the two priorities mean
pub record Orderings : Type 0 where
  pub dark : Ordering
  pub lit : Ordering

-- what two priorities mean, each by its ordering
abbrev pub orderings_of : {D L : Type 0} → (D → Ordering) → (L → Ordering) → Priorities D L → Orderings
orderings_of dark lit p = record { dark = dark p.dark; lit = lit p.lit }

-- a sweep under way: how far it has come, and what rests
pub record Run (R : Type 0) : Type 0 where
  pub progress : Progress R
  pub darks : List (DarkOrder R)
  pub lits : List (LitOrder R)

-- a sweep over these tables
abbrev pub run_of : {R : Type 0} → Progress R → Tables R → Run R
run_of g t = record { progress = g; darks = queued t.darks; lits = queued t.lits }

-- the terms on which Dark orders are met: the quote at the sweep's beginning, and the lit orders that still rest
abbrev pub dark_terms : {R : Type 0} → Quote → Active R → List (LitOrder R) → DarkTerms R
dark_terms q a ls = record { quote = q; active = a; lit = nearest_lit a.side ls }

-- the terms on which lit orders are met
abbrev pub lit_terms : {R : Type 0} → Quote → Active R → LitTerms R
lit_terms q a = record { quote = q; active = a }

-- the kind of a fill with a Dark order
abbrev pub dark_kind : Form → Kind
dark_kind (form.Sdl f) = SdlDark
dark_kind (form.Dark f) = DarkDark

-- the active order before the Dark table
abbrev pub asks_darks : {R : Type 0} → Progress R → Asker R
asks_darks g = record { active = g.active; kind = dark_kind g.active.form; last = g.dark }

-- the active order before the lit table
abbrev pub asks_lits : {R : Type 0} → Progress R → Asker R
asks_lits g = record { active = g.active; kind = SdlLit; last = g.lit }

-- whom the active order meets, with the place in its queue
pub data Chosen (R : Type 0) : Type 0 where
  no_one : Chosen R
  dark : List (DarkOrder R) → DarkOrder R → List (DarkOrder R) → Chosen R
  lit : List (LitOrder R) → LitOrder R → List (LitOrder R) → Chosen R

-- the price of a Dark order under a quote, 0 for none
abbrev pub price_under : {R : Type 0} → Quote → DarkOrder R → ℕ
price_under q d = dark_price q d.side d.peg d.cap

-- of the best lit and the best Dark order: the better price, and at one price lit before Dark
abbrev pub better_of : {R : Type 0} → Quote → Side → Pick (LitOrder R) → Pick (DarkOrder R) → Chosen R
better_of q s nobody nobody = no_one
better_of q s nobody (found before d after) = dark before d after
better_of q s (found before l after) nobody = lit before l after
better_of q s (found lb l la) (found db d da) = cond (better s (price_under q d) l.price) (dark db d da) (lit lb l la)

-- the lit order to be met, if there were no Dark ones
abbrev pub best_lit : {R : Type 0} → Orderings → Quote → Progress R → List (LitOrder R) → Pick (LitOrder R)
best_lit o q g ls =
    pick (may_meet_lit (lit_terms q g.active))
    (preferred (asks_lits g) o.lit (price_of_lit (lit_terms q g.active)) (view_of_lit (lit_terms q g.active))) ls

-- the Dark order to be met, if there were no lit ones
abbrev pub best_dark : {R : Type 0} → Orderings → Quote → Progress R → List (LitOrder R) → List (DarkOrder R) → Pick (DarkOrder R)
best_dark o q g ls ds =
    pick (may_meet_dark (dark_terms q g.active ls))
    (preferred (asks_darks g) o.dark (price_of_dark (dark_terms q g.active ls)) (view_of_dark (dark_terms q g.active ls))) ds

-- the choice: best price, then lit before Dark, then the table's priority, then the earlier in the queue
unfoldable pub choice : {R : Type 0} → Orderings → Quote → Run R → Chosen R
choice o q r = better_of q r.progress.active.side (best_lit o q r.progress r.lits) (best_dark o q r.progress r.lits r.darks)

-- what a trade of n shares leaves of the active order; a minimum falls to what remains
abbrev pub active_after : {R : Type 0} → ℕ → Active R → Active R
active_after n a =
    record {
      member = a.member;
      reference = a.reference;
      side = a.side;
      remaining = a.remaining - n;
      minimum = min a.minimum (a.remaining - n);
      jitney = a.jitney;
      form = a.form;
    }

-- what a trade of n shares leaves of a Dark order
abbrev pub dark_after : {R : Type 0} → ℕ → DarkOrder R → DarkOrder R
dark_after n d =
    record {
      member = d.member;
      reference = d.reference;
      side = d.side;
      remaining = d.remaining - n;
      peg = d.peg;
      cap = d.cap;
      contra = d.contra;
      minimum = min d.minimum (d.remaining - n);
      jitney = d.jitney;
      key = d.key;
    }

-- what a trade of n shares leaves of a lit order
abbrev pub lit_after : {R : Type 0} → ℕ → LitOrder R → LitOrder R
lit_after n l = record { member = l.member; reference = l.reference; side = l.side; remaining = l.remaining - n; price = l.price; jitney = l.jitney }

-- what is left of a Dark order: a spent one leaves its queue
abbrev pub dark_left : {R : Type 0} → DarkOrder R → List (DarkOrder R)
dark_left d = cond (d.remaining == 0) [] (d ∷ [])

-- what is left of a lit order: a spent one leaves its queue
abbrev pub lit_left : {R : Type 0} → LitOrder R → List (LitOrder R)
lit_left l = cond (l.remaining == 0) [] (l ∷ [])

-- of the queue before a Dark order, what is left of it and the queue after it: it goes to the end
abbrev pub dark_back : {R : Type 0} → List (DarkOrder R) → DarkOrder R → List (DarkOrder R) → List (DarkOrder R)
dark_back before d after = before ++ (after ++ dark_left d)

-- of the queue before a lit order, what is left of it and the queue after it: it keeps its place
abbrev pub lit_back : {R : Type 0} → List (LitOrder R) → LitOrder R → List (LitOrder R) → List (LitOrder R)
lit_back before l after = before ++ (lit_left l ++ after)

-- the level now chosen at: its need is what remained when the sweep first chose there
abbrev pub level_at : Option LastLevel → ℕ → ℕ → Option LastLevel
level_at last p remaining = Some (record { price = p; need = need_at last p remaining })

-- the progress after n shares, but for the level that is noted
abbrev pub traded : {R : Type 0} → ℕ → Progress R → Progress R
traded n g = record { active = active_after n g.active; trades = g.trades + 1; dark = g.dark; lit = g.lit }

-- the progress after n shares at p with a Dark order
abbrev pub dark_progress : {R : Type 0} → ℕ → ℕ → Progress R → Progress R
dark_progress n p g =
    record { active = active_after n g.active; trades = g.trades + 1; dark = level_at g.dark p g.active.remaining; lit = g.lit }

-- the progress after n shares at p with a lit order
abbrev pub lit_progress : {R : Type 0} → ℕ → ℕ → Progress R → Progress R
lit_progress n p g =
    record { active = active_after n g.active; trades = g.trades + 1; dark = g.dark; lit = level_at g.lit p g.active.remaining }

-- a trade, as both sides are told of it
abbrev pub fill_for : {R : Type 0} → Side → ℕ → Party R → Party R → ℕ → ℕ → Kind → Fill R
fill_for Buy number a b shares price kind = record { number = number; buyer = a; seller = b; shares = shares; price = price; kind = kind }
fill_for Sell number a b shares price kind = record { number = number; buyer = b; seller = a; shares = shares; price = price; kind = kind }

-- the active order's trade with b
abbrev pub fill_of : {R : Type 0} → ℕ → Active R → Party R → ℕ → ℕ → Kind → Fill R
fill_of number a b shares price kind = fill_for a.side number (record { member = a.member; reference = a.reference }) b shares price kind

-- the lesser of what remains of both
abbrev pub shares_with : {R : Type 0} → Progress R → ℕ → ℕ
shares_with g remaining = min g.active.remaining remaining

-- the fill of a trade with a Dark order at p
abbrev pub dark_fill : {R : Type 0} → ℕ → Progress R → DarkOrder R → Fill R
dark_fill p g d =
    fill_of (g.trades + 1) g.active (dark_party d) (shares_with g d.remaining) p (dark_kind g.active.form)

-- the fill of a trade with a lit order at p
abbrev pub lit_fill : {R : Type 0} → ℕ → Progress R → LitOrder R → Fill R
lit_fill p g l = fill_of (g.trades + 1) g.active (lit_party l) (shares_with g l.remaining) p SdlLit

-- a Dark order partly traded goes to the end of its queue
abbrev pub after_dark : {R : Type 0} → Quote → Run R → List (DarkOrder R) → DarkOrder R → List (DarkOrder R) → Run R
after_dark q r before d after =
    let n = shares_with r.progress d.remaining in
    record { progress = dark_progress n (price_under q d) r.progress; darks = dark_back before (dark_after n d) after; lits = r.lits }

-- a lit order partly traded keeps its place
abbrev pub after_lit : {R : Type 0} → Run R → List (LitOrder R) → LitOrder R → List (LitOrder R) → Run R
after_lit r before l after =
    let n = shares_with r.progress l.remaining in
    record { progress = lit_progress n l.price r.progress; darks = r.darks; lits = lit_back before (lit_after n l) after }

-- a sweep ends where nobody may be met; else it trades with its choice, at the resting order's price, and goes on
pub data Swept {R : Type 0} (o : Orderings) (q : Quote) : Run R → List (Fill R) → Run R → Type 0 where
  ends : {r : Run R} → choice o q r ≡ no_one → Swept o q r [] r
  meets_dark : {r s : Run R} {fs : List (Fill R)} (before : List (DarkOrder R)) (d : DarkOrder R) (after : List (DarkOrder R)) →
      choice o q r ≡ dark before d after → Swept o q (after_dark q r before d after) fs s → Swept o q r (dark_fill (price_under q d) r.progress d ∷ fs) s
  meets_lit : {r s : Run R} {fs : List (Fill R)} (before : List (LitOrder R)) (l : LitOrder R) (after : List (LitOrder R)) →
      choice o q r ≡ lit before l after → Swept o q (after_lit r before l after) fs s → Swept o q r (lit_fill l.price r.progress l ∷ fs) s

-- of two places found by code, the one to be met
abbrev pub next_of : Side → Option Found → Option Found → Option Met
next_of s None None = None
next_of s None (Some d) = Some (met.Dark d)
next_of s (Some l) None = Some (met.Lit l)
next_of s (Some l) (Some d) = cond (better s d.price l.price) (Some (met.Dark d)) (Some (met.Lit l))

-- the place that code found is where the choice splits its queue
abbrev pub Finds : {R : Type 0} → Quote → List (DarkOrder R) → List (LitOrder R) → Option Met → Chosen R → Type 0
Finds q ds ls None c = c ≡ no_one
Finds q ds ls (Some (met.Dark f)) c = FoundIn dark (price_under q) ds f c
Finds q ds ls (Some (met.Lit f)) c = FoundIn lit (λ l. l.price) ls f c

-- a sweep from r to s, its fills appended to the fill list
pub record Sweeps {R : Type 0} (o : Orderings) (q : Quote) (r : Run R) (was : Queue (Fill R)) (s : Run R) (list : Queue (Fill R)) : Type 0 where
  pub fills : List (Fill R)
  pub made : Appended was fills list
  pub swept : Swept o q r fills s
