-- A Dark order that sweeps, and settling: Dark orders trade with each other until none can.
use Rattle.std.specs.Prelude.{◌≡◌, ℕ, ◌+◌, ◌<◌, Bool, List, [], ◌++◌, length, take, drop, Some, None, Option, slice_index_or}
use Rattle.std.specs.List.{list_any}
use Rattle.market.specs.declared.orders.DarkOrder.{DarkOrder}
use Rattle.market.specs.declared.orders.LitOrder.{LitOrder}
use Rattle.market.specs.declared.orders.Fill.{Fill}
use Rattle.market.specs.declared.quotes.Away.{Away}
use Rattle.market.specs.declared.quotes.Quote.{Quote}
use Rattle.market.specs.Quotes.{quote_of}
use Rattle.queue.specs.declared.queue.Queue.{Queue}
use Rattle.queue.specs.Queues.{queued, Appended}
use Rattle.matching.specs.declared.active.Active.{Active}
use Rattle.matching.specs.declared.active.Progress.{Progress}
use Rattle.matching.specs.declared.active.DarkForm.{DarkForm}
use Rattle.matching.specs.Tables.{Tables}
use Rattle.matching.specs.declared.active.Form.TheVariants as form
use Rattle.matching.specs.Choice.{Pick, nobody, found, first}
use Rattle.matching.specs.Meets.{may_meet_dark}
use Rattle.matching.specs.Sweep.{Orderings, Run, dark_terms, dark_left, Swept, Sweeps}

-- what a book holds besides its session: the other markets' quote, the trades of the day, and what rests
pub record Contents (R : Type 0) : Type 0 where
  pub away : Away
  pub trades : ℕ
  pub darks : List (DarkOrder R)
  pub lits : List (LitOrder R)

-- the contents with these tables
abbrev pub contents_of : {R : Type 0} → Away → ℕ → Tables R → Contents R
contents_of w trades t = record { away = w; trades = trades; darks = queued t.darks; lits = queued t.lits }

-- the quote with what rests in them
abbrev pub quote_in : {R : Type 0} → Contents R → Quote
quote_in c = quote_of c.away c.lits

-- what a Dark order says beyond its side and size
abbrev pub form_of : {R : Type 0} → DarkOrder R → DarkForm
form_of d = record { peg = d.peg; cap = d.cap; contra = d.contra; key = d.key }

-- a Dark order as it sweeps
abbrev pub active_dark : {R : Type 0} → DarkOrder R → Active R
active_dark d =
    record {
      member = d.member;
      reference = d.reference;
      side = d.side;
      remaining = d.remaining;
      minimum = d.minimum;
      jitney = d.jitney;
      form = form.Dark (form_of d);
    }

-- a sweep about to begin, which has chosen at no level yet
abbrev pub not_begun : {R : Type 0} → ℕ → Active R → Progress R
not_begun trades a = record { active = a; trades = trades; dark = None; lit = None }

-- a sweep that begins
abbrev pub start_of : {R : Type 0} → ℕ → Active R → List (DarkOrder R) → List (LitOrder R) → Run R
start_of trades a ds ls = record { progress = not_begun trades a; darks = ds; lits = ls }

-- what a Dark order that swept leaves to rest
abbrev pub dark_kept : {R : Type 0} → DarkOrder R → Active R → DarkOrder R
dark_kept d a =
    record {
      member = d.member;
      reference = d.reference;
      side = d.side;
      remaining = a.remaining;
      peg = d.peg;
      cap = d.cap;
      contra = d.contra;
      minimum = a.minimum;
      jitney = d.jitney;
      key = d.key;
    }

-- what remains of a Dark order that swept stands at the end of the queue
abbrev pub after_sweep : {R : Type 0} → Away → DarkOrder R → Run R → Contents R
after_sweep w d r =
    record { away = w; trades = r.progress.trades; darks = r.darks ++ dark_left (dark_kept d r.progress.active); lits = r.lits }

-- a Dark order that may meet another
unfoldable pub can_trade : {R : Type 0} → Quote → List (LitOrder R) → List (DarkOrder R) → DarkOrder R → Bool
can_trade q ls ds d = list_any (may_meet_dark (dark_terms q (active_dark d) ls)) ds

-- the first Dark order in the queue that may meet another
unfoldable pub first_to_trade : {R : Type 0} → Quote → List (LitOrder R) → List (DarkOrder R) → Pick (DarkOrder R)
first_to_trade q ls ds = first (can_trade q ls ds) ds

-- settling ends where no Dark order may meet another; else the first that may sweeps, and it goes on
pub data Settles {R : Type 0} (o : Orderings) : Contents R → List (Fill R) → Contents R → Type 0 where
  settled : {c : Contents R} → first_to_trade (quote_in c) c.lits c.darks ≡ nobody → Settles o c [] c
  sweeps : {c e : Contents R} {r : Run R} {fs gs : List (Fill R)} (before : List (DarkOrder R)) (d : DarkOrder R) (after : List (DarkOrder R)) →
      first_to_trade (quote_in c) c.lits c.darks ≡ found before d after →
      Swept o (quote_in c) (start_of c.trades (active_dark d) (before ++ after) c.lits) fs r → Settles o (after_sweep c.away d r) gs e → Settles o c (fs ++ gs) e

-- the place that code found is where the pick splits the queue
abbrev pub Place : {X : Type 0} → List X → Option ℕ → Pick X → Type 0
Place xs None p = p ≡ nobody
Place {X} xs (Some i) p = (i < length xs) × ((d : X) → p ≡ found (take i xs) (slice_index_or xs i d) (drop (i + 1) xs))

-- a Dark order out of the queue has swept: `remaining` is left of it, at the end of the queue
pub record SweptDark {R : Type 0} (o : Orderings) (q : Quote) (w : Away) (trades : ℕ) (d : DarkOrder R) (ds : List (DarkOrder R)) (ls : List (LitOrder R))
    (was : Queue (Fill R)) (remaining : ℕ) (c : Contents R) (list : Queue (Fill R)) : Type 0 where
  pub run : Run R
  pub swept : Sweeps o q (start_of trades (active_dark d) ds ls) was run list
  pub contents : c ≡ after_sweep w d run
  pub left : remaining ≡ run.progress.active.remaining

-- settling from c to e, its fills appended to the fill list
pub record Settled {R : Type 0} (o : Orderings) (c : Contents R) (was : Queue (Fill R)) (e : Contents R) (list : Queue (Fill R)) : Type 0 where
  pub fills : List (Fill R)
  pub made : Appended was fills list
  pub settles : Settles o c fills e
