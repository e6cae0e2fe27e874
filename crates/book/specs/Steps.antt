-- A call on a book: refused by the first ground that holds, with nothing changed; or accepted, acted on, and settled.
use Rattle.std.specs.Prelude.{◌≡◌, ℕ, ◌-◌, ◌<◌, true, false, cond, List, [], ◌∷◌, ◌++◌, length, take, drop, Some, None, Ok, Err, Result, ◌==◌}
use Rattle.market.specs.declared.ground.Ground.{Ground}
use Rattle.market.specs.declared.ground.Ground.TheVariants as ground
use Rattle.market.specs.Lots.{valid_lot}
use Rattle.market.specs.declared.orders.DarkOrder.{DarkOrder}
use Rattle.market.specs.declared.orders.LitOrder.{LitOrder}
use Rattle.market.specs.declared.orders.Fill.{Fill}
use Rattle.market.specs.declared.quotes.Away.{Away}
use Rattle.market.specs.declared.quotes.Quote.{Quote}
use Rattle.market.specs.Quotes.{opposing}
use Rattle.market.specs.Sizes.{size_class}
use Rattle.queue.specs.declared.queue.Queue.{Queue}
use Rattle.queue.specs.Queues.{Appended}
use Rattle.matching.specs.declared.active.Active.{Active}
use Rattle.matching.specs.declared.active.Priorities.{Priorities}
use Rattle.matching.specs.declared.active.Form.TheVariants as form
use Rattle.matching.specs.Tables.{Tables}
use Rattle.matching.specs.Choice.{Ordering}
use Rattle.matching.specs.Sweep.{Run, Swept}
use Rattle.matching.specs.Settle.{Contents, contents_of, quote_in, active_dark, start_of, after_sweep, Settles}
use Rattle.book.specs.declared.session.Session.{Session}
use Rattle.book.specs.declared.session.Session.TheVariants.{PreOpen}
use Rattle.book.specs.declared.call.Call.{Call}
use Rattle.book.specs.declared.call.SdlOrder.{SdlOrder}
use Rattle.book.specs.declared.call.Request.{Request}
use Rattle.book.specs.declared.call.Request.TheVariants as request
use Rattle.book.specs.declared.book.Book.{Book}
use Rattle.book.specs.declared.book.Core.{Core}
use Rattle.book.specs.declared.memory.Memory.{Memory as Lent}
use Rattle.book.specs.declared.resting.RestingOrders.{RestingOrders}
use Rattle.book.specs.Requests.{request_of}
use Rattle.book.specs.Sessions.{session_then, is_continuous}
use Rattle.book.specs.Grounds.{Facility, facility_of, State, Memory, ground_of}

-- the price that an SDL order is valued at: its limit, or at market the opposing best quote
abbrev pub valued_at : {R : Type 0} → Quote → SdlOrder R → ℕ
valued_at q s = cond (s.limit == 0) (opposing q s.side) s.limit

-- an SDL order as it sweeps, its size class taken at the sweep's beginning
abbrev pub active_sdl : {R : Type 0} → ℕ → Quote → SdlOrder R → Active R
active_sdl lot q s =
    record {
      member = s.member;
      reference = s.reference;
      side = s.side;
      remaining = s.quantity;
      minimum = 0;
      jitney = s.jitney;
      form = form.Sdl (record { limit = s.limit; seek = s.seek; size = size_class lot s.quantity (valued_at q s) });
    }

-- the contents with this quote of the other markets
abbrev pub with_away : {R : Type 0} → Away → Contents R → Contents R
with_away w c = record { away = w; trades = c.trades; darks = c.darks; lits = c.lits }

-- the contents with these Dark orders
abbrev pub with_darks : {R : Type 0} → List (DarkOrder R) → Contents R → Contents R
with_darks ds c = record { away = c.away; trades = c.trades; darks = ds; lits = c.lits }

-- the contents with these lit orders
abbrev pub with_lits : {R : Type 0} → List (LitOrder R) → Contents R → Contents R
with_lits ls c = record { away = c.away; trades = c.trades; darks = c.darks; lits = ls }

-- what a sweep leaves, with nothing of the active order
abbrev pub after_seek : {R : Type 0} → Away → Run R → Contents R
after_seek w r = record { away = w; trades = r.progress.trades; darks = r.darks; lits = r.lits }

-- what an accepted request does before settling: its fills, the shares that its order traded, and the shares taken away
pub data Acts {R : Type 0} (f : Facility R) (s : Session) (c : Contents R) : Request R → List (Fill R) → ℕ → ℕ → Contents R → Type 0 where
  -- the other markets' quote is noted
  quotes : {w : Away} → Acts f s c (request.Quote w) [] 0 0 (with_away w c)
  -- outside Continuous a Dark order only joins the end of its queue
  joins : {d : DarkOrder R} → is_continuous s ≡ false → Acts f s c (request.Dark d) [] 0 0 (with_darks (c.darks ++ d ∷ []) c)
  -- in Continuous it sweeps, and its remainder joins the end
  enters : {d : DarkOrder R} {fs : List (Fill R)} {r : Run R} → is_continuous s ≡ true →
      Swept f.orderings (quote_in c) (start_of c.trades (active_dark d) c.darks c.lits) fs r →
      Acts f s c (request.Dark d) fs (d.remaining - r.progress.active.remaining) 0 (after_sweep c.away d r)
  -- an SDL order sweeps, and its remainder is cancelled
  seeks : {o : SdlOrder R} {fs : List (Fill R)} {r : Run R} →
      Swept f.orderings (quote_in c) (start_of c.trades (active_sdl f.lot (quote_in c) o) c.darks c.lits) fs r →
      Acts f s c (request.Sdl o) fs (o.quantity - r.progress.active.remaining) r.progress.active.remaining (after_seek c.away r)
  -- a lit order joins the end of its queue
  posts : {l : LitOrder R} → Acts f s c (request.Lit l) [] 0 0 (with_lits (c.lits ++ l ∷ []) c)
  -- the start of trading moves the session alone
  starts : Acts f s c request.Start [] 0 0 c

-- in Continuous, Dark orders settle on the new quote
pub data Settling {R : Type 0} (f : Facility R) (s : Session) : Contents R → List (Fill R) → Contents R → Type 0 where
  rests : {c : Contents R} → is_continuous s ≡ false → Settling f s c [] c
  runs : {c e : Contents R} {fs : List (Fill R)} → is_continuous s ≡ true → Settles f.orderings c fs e → Settling f s c fs e

-- a ground; or the number of fills, the shares that the call's own order traded, and the shares taken away
abbrev pub Answer : Type 0
Answer = Result (ℕ × ℕ × ℕ) Ground

-- a call on a book: its answer, its fills, and the book after it
pub data Step {R : Type 0} (f : Facility R) (s : State R) (m : Memory) (x : Call R) : Answer → List (Fill R) → State R → Type 0 where
  refused : {g : Ground} → ground_of f s m x ≡ Some g → Step f s m x (Err g) [] s
  accepted : {q : Request R} {c e : Contents R} {fs gs : List (Fill R)} {traded gone : ℕ} → ground_of f s m x ≡ None → request_of x ≡ Some q →
      Acts f s.session s.contents q fs traded gone c → Settling f (session_then s.session x) c gs e →
      Step f s m x (Ok (length (fs ++ gs), traded, gone)) (fs ++ gs) (record { session = session_then s.session x; contents = e })

-- the contents of a book with this core and these tables, of which the first places count
abbrev pub contents_with : {R : Type 0} → Core → ℕ → List (DarkOrder R) → ℕ → List (LitOrder R) → Contents R
contents_with k darks dark lits lit = record { away = k.away; trades = k.trades; darks = take darks dark; lits = take lits lit }

-- a book with these tables, of which its first places count
abbrev pub state_of : {R D L : Type 0} → Book D L → List (DarkOrder R) → List (LitOrder R) → State R
state_of b dark lit = record { session = b.session; contents = contents_with b.core b.darks dark b.lits lit }

-- how long the lent tables and list are
abbrev pub memory_of : {R : Type 0} → List (DarkOrder R) → List (LitOrder R) → List (Fill R) → Memory
memory_of dark lit fills = record { darks = length dark; lits = length lit; fills = length fills }

-- a book that is lent this memory
abbrev pub state_in : {R D L : Type 0} → Book D L → Lent R → State R
state_in b m = state_of b m.dark.now m.lit.now

-- the facility of a book's lot and priorities, for the day
abbrev pub facility_at : {R D L : Type 0} → (R → ℕ) → (D → Ordering) → (L → Ordering) → Book D L → Facility R
facility_at number dark lit b = facility_of number dark lit b.priorities b.core.lot

-- how many places the lent memory has
abbrev pub lengths_of : {R : Type 0} → Lent R → Memory
lengths_of m = memory_of m.dark.now m.lit.now m.fills.now

-- the contents of a book that a call finds so
abbrev pub contents_on : {R : Type 0} → RestingOrders R → Contents R
contents_on r = record { away = r.core.now.away; trades = r.core.now.trades; darks = r.darks.now; lits = r.lits.now }

-- the contents of a book with this core and these tables
abbrev pub contents_in : {R : Type 0} → Core → Tables R → Contents R
contents_in k t = contents_of k.away k.trades t

-- a whole call: its answer and the book are those of the only step there is, and the fill list begins with its fills,
-- later places as they were
pub record Called {R : Type 0} (f : Facility R) (s : State R) (m : Memory) (x : Call R) (was : List (Fill R)) (a : Answer) (t : State R) (list : List (Fill R)) : Type 0 where
  pub fills : List (Fill R)
  pub step : Step f s m x a fills t
  pub only : (a' : Answer) (fs : List (Fill R)) (t' : State R) → Step f s m x a' fs t' → (a' ≡ a) × (fs ≡ fills) × (t' ≡ t)
  pub made : take (length fills) list ≡ fills
  pub past : drop (length fills) list ≡ drop (length fills) was

-- the second is the memory that the first was, place for place
pub record SameMemory {R : Type 0} (m m' : Lent R) : Type 0 where
  pub lengths : lengths_of m' ≡ lengths_of m
  pub dark : m'.dark.ghost_name ≡ m.dark.ghost_name
  pub lit : m'.lit.ghost_name ≡ m.lit.ghost_name
  pub fills : m'.fills.ghost_name ≡ m.fills.ghost_name

-- a call on a book that is lent this memory: the whole call is as above; lot and priorities are for the day, and the memory
-- is still the host's; and a refused call leaves the book, both tables and the list as they were, every place
pub record Served {R D L : Type 0} (f : Facility R) (x : Call R) (b : Book D L) (m : Lent R) (a : Answer) (b' : Book D L) (m' : Lent R) : Type 0 where
  pub called : Called f (state_in b m) (lengths_of m) x m.fills.now a (state_in b' m') m'.fills.now
  pub lot : b'.core.lot ≡ b.core.lot
  pub priorities : b'.priorities ≡ b.priorities
  pub same : SameMemory m m'
  pub unchanged : (g : Ground) → a ≡ Err g → (b' ≡ b) × (m'.dark.now ≡ m.dark.now) × (m'.lit.now ≡ m.lit.now) × (m'.fills.now ≡ m.fills.now)

-- a new book: Pre-Open, no quote, no trades, and nothing rests
pub record New {D L : Type 0} (lot : ℕ) (p : Priorities D L) (b : Book D L) : Type 0 where
  pub listed : valid_lot lot ≡ true
  pub session : b.session ≡ PreOpen
  pub core : b.core ≡ record { lot = lot; away = record { bid = 0; offer = 0 }; trades = 0 }
  pub priorities : b.priorities ≡ p
  pub darks : b.darks ≡ 0
  pub lits : b.lits ≡ 0

-- a book is made at a listed lot, and refused at any other
abbrev pub Made : {D L : Type 0} → ℕ → Priorities D L → Result (Book D L) Ground → Type 0
Made lot p (Ok b) = New lot p b
Made lot p (Err g) = (valid_lot lot ≡ false) × (g ≡ ground.Lot)

-- a table with a place for the order that a request adds
abbrev pub HasPlace : {R : Type 0} → Request R → ℕ → ℕ → ℕ → ℕ → Type 0
HasPlace (request.Quote w) darks dark_places lits lit_places = Unit {0}
HasPlace (request.Dark d) darks dark_places lits lit_places = darks < dark_places
HasPlace (request.Sdl s) darks dark_places lits lit_places = Unit {0}
HasPlace (request.Lit l) darks dark_places lits lit_places = lits < lit_places
HasPlace request.Start darks dark_places lits lit_places = Unit {0}

-- what code says of an action, its fills appended to the fill list
pub record Acted {R : Type 0} (f : Facility R) (s : Session) (c : Contents R) (q : Request R) (was : Queue (Fill R)) (traded gone : ℕ) (e : Contents R) (list : Queue (Fill R)) : Type 0 where
  pub fills : List (Fill R)
  pub made : Appended was fills list
  pub acts : Acts f s c q fills traded gone e

-- what code says of settling, its fills appended to the fill list
pub record SettledIn {R : Type 0} (f : Facility R) (s : Session) (c : Contents R) (was : Queue (Fill R)) (e : Contents R) (list : Queue (Fill R)) : Type 0 where
  pub fills : List (Fill R)
  pub made : Appended was fills list
  pub settling : Settling f s c fills e

-- what code says of an action and the settling after it
pub record Worked {R : Type 0} (f : Facility R) (s after : Session) (c : Contents R) (q : Request R) (was : Queue (Fill R)) (traded gone : ℕ) (e : Contents R) (list : Queue (Fill R)) : Type 0 where
  pub mid : Contents R
  pub first : List (Fill R)
  pub second : List (Fill R)
  pub made : Appended was (first ++ second) list
  pub acts : Acts f s c q first traded gone mid
  pub settling : Settling f after mid second e

-- the same, over the fill list as it was lent, and with the fills counted
pub record Ran {R : Type 0} (f : Facility R) (s after : Session) (c : Contents R) (q : Request R) (was : List (Fill R)) (n traded gone : ℕ) (e : Contents R) (list : List (Fill R)) : Type 0 where
  pub mid : Contents R
  pub first : List (Fill R)
  pub second : List (Fill R)
  pub acts : Acts f s c q first traded gone mid
  pub settling : Settling f after mid second e
  pub count : n ≡ length (first ++ second)
  pub made : take (length (first ++ second)) list ≡ first ++ second
  pub past : drop (length (first ++ second)) list ≡ drop (length (first ++ second)) was
