-- The grounds of refusal: each a test of the call and the book, in the order in which they are checked.
use Rattle.std.specs.Prelude.{◌≡◌, ℕ, ◌+◌, Bool, false, cond, not, ◌&&◌, ◌||◌, List, [], ◌∷◌, Some, None, Ok, Err, Option, Result, ◌==◌, nat_le, nat_lt, count_by, is_none, is_some}
use Rattle.std.specs.List.{list_all}
use Rattle.market.specs.declared.codes.Side.{Side}
use Rattle.market.specs.declared.codes.Side.TheVariants.{Buy, Sell}
use Rattle.market.specs.declared.ground.Ground.{Ground}
use Rattle.market.specs.declared.ground.Ground.TheVariants as ground
use Rattle.market.specs.declared.orders.DarkOrder.{DarkOrder}
use Rattle.market.specs.declared.orders.LitOrder.{LitOrder}
use Rattle.market.specs.declared.quotes.Quote.{Quote}
use Rattle.market.specs.Lots.{valid_quantity, valid_minimum}
use Rattle.market.specs.Orders.{valid_member, sound_dark, sound_lit}
use Rattle.market.specs.Prices.{valid_price, price_or_none, cap_or_none}
use Rattle.matching.specs.Settle.{Contents, quote_in}
use Rattle.matching.specs.declared.active.Priorities.{Priorities}
use Rattle.matching.specs.Choice.{Ordering}
use Rattle.matching.specs.Sweep.{Orderings, orderings_of}
use Rattle.book.specs.declared.session.Session.{Session}
use Rattle.book.specs.declared.call.Call.{Call}
use Rattle.book.specs.declared.call.Call.TheVariants as call
use Rattle.book.specs.declared.call.Request.{Request}
use Rattle.book.specs.declared.call.Request.TheVariants as request
use Rattle.book.specs.Requests.{request_of}
use Rattle.book.specs.Sessions.{session_ground, is_closed}

-- what is fixed for the day: the lot, the two priorities, and what tells references apart
pub record Facility (R : Type 0) : Type 0 where
  pub lot : ℕ
  pub orderings : Orderings
  pub number : R → ℕ

-- a facility with these priorities
abbrev pub facility_of : {R D L : Type 0} → (R → ℕ) → (D → Ordering) → (L → Ordering) → Priorities D L → ℕ → Facility R
facility_of number dark lit p lot = record { lot = lot; orderings = orderings_of dark lit p; number = number }

-- a book: its session, and its contents
pub record State (R : Type 0) : Type 0 where
  pub session : Session
  pub contents : Contents R

-- how many places the lent memory has
pub record Memory : Type 0 where
  pub darks : ℕ
  pub lits : ℕ
  pub fills : ℕ

-- both tables have 256 places, and the fill list 513 or more
abbrev pub enough_memory : Memory → Bool
enough_memory m = m.darks == 256 && (m.lits == 256 && nat_le 513 m.fills)

-- an order of the member, whichever table it rests in
abbrev pub of_member : {X : Type 0} → (X → ℕ) → ℕ → X → Bool
of_member owner m x = owner x == m

-- the member's order under this reference
abbrev pub named : {X R : Type 0} → (R → ℕ) → (X → ℕ) → (X → R) → ℕ → R → X → Bool
named number owner label m r x = owner x == m && number (label x) == number r

-- whose a Dark order is
abbrev pub dark_owner : {R : Type 0} → DarkOrder R → ℕ
dark_owner d = d.member

-- what a Dark order is called by
abbrev pub dark_label : {R : Type 0} → DarkOrder R → R
dark_label d = d.reference

-- whose a lit order is
abbrev pub lit_owner : {R : Type 0} → LitOrder R → ℕ
lit_owner l = l.member

-- what a lit order is called by
abbrev pub lit_label : {R : Type 0} → LitOrder R → R
lit_label l = l.reference

-- how many orders of the member rest under this reference, in both tables
abbrev pub times_named : {R : Type 0} → (R → ℕ) → List (DarkOrder R) → List (LitOrder R) → ℕ → R → ℕ
times_named number ds ls m r = count_by (named number dark_owner dark_label m r) ds + count_by (named number lit_owner lit_label m r) ls

-- an order that may stand in its table: it obeys the rule for resting orders, it is one of at most 16 of its member
-- there, and its reference stands once in the two tables
abbrev pub fine : {X R : Type 0} → (R → ℕ) → (X → ℕ) → (X → R) → (X → Bool) → List X → List (DarkOrder R) → List (LitOrder R) → X → Bool
fine number owner label sound own ds ls x =
    sound x && (nat_le (count_by (of_member owner (owner x)) own) 16 && nat_le (times_named number ds ls (owner x) (label x)) 1)

-- a Dark order that may stand in its table
abbrev pub fine_dark : {R : Type 0} → (R → ℕ) → ℕ → List (DarkOrder R) → List (LitOrder R) → DarkOrder R → Bool
fine_dark number lot ds ls = fine number dark_owner dark_label (sound_dark number lot) ds ds ls

-- a lit order that may stand in its table
abbrev pub fine_lit : {R : Type 0} → (R → ℕ) → ℕ → List (DarkOrder R) → List (LitOrder R) → LitOrder R → Bool
fine_lit number lot ds ls = fine number lit_owner lit_label (sound_lit number lot) ls ds ls

-- what rests could rest
unfoldable pub sound_tables : {R : Type 0} → (R → ℕ) → ℕ → List (DarkOrder R) → List (LitOrder R) → Bool
sound_tables number lot ds ls = list_all (fine_dark number lot ds ls) ds && list_all (fine_lit number lot ds ls) ls

-- ground 3
abbrev pub memory_fails : {R : Type 0} → (R → ℕ) → ℕ → Contents R → Memory → Bool
memory_fails number lot c m = not (enough_memory m && sound_tables number lot c.darks c.lits)

-- ground 4: 513 fills more might pass the trade number 1,000,000
abbrev pub trades_fail : ℕ → Bool
trades_fail n = nat_lt 999487 n

-- ground 5
abbrev pub member_fails : {R : Type 0} → Call R → Bool
member_fails (call.Quote w) = false
member_fails (call.Dark e) = not (valid_member e.member)
member_fails (call.Sdl e) = not (valid_member e.member)
member_fails (call.Lit e) = not (valid_member e.member)
member_fails call.Start = false

-- ground 6: a code is not listed
abbrev pub code_fails : {R : Type 0} → Call R → Bool
code_fails c = is_none (request_of c)

-- ground 7
abbrev pub session_fails : {R : Type 0} → Session → Call R → Bool
session_fails s c = is_some (session_ground s c)

-- the reference is 0, or an order of the member rests under it
abbrev pub taken : {R : Type 0} → (R → ℕ) → Contents R → ℕ → R → Bool
taken number c m r = number r == 0 || not (times_named number c.darks c.lits m r == 0)

-- ground 8
abbrev pub reference_fails : {R : Type 0} → (R → ℕ) → Contents R → Call R → Bool
reference_fails number c (call.Quote w) = false
reference_fails number c (call.Dark e) = taken number c e.member e.reference
reference_fails number c (call.Sdl e) = taken number c e.member e.reference
reference_fails number c (call.Lit e) = taken number c e.member e.reference
reference_fails number c call.Start = false

-- ground 10
abbrev pub quantity_fails : {R : Type 0} → ℕ → Call R → Bool
quantity_fails lot (call.Quote w) = false
quantity_fails lot (call.Dark e) = not (valid_quantity lot e.quantity)
quantity_fails lot (call.Sdl e) = not (valid_quantity lot e.quantity)
quantity_fails lot (call.Lit e) = not (valid_quantity lot e.quantity)
quantity_fails lot call.Start = false

-- ground 11
abbrev pub price_fails : {R : Type 0} → Call R → Bool
price_fails (call.Quote w) = not (price_or_none w.bid && price_or_none w.offer)
price_fails (call.Dark e) = not (cap_or_none e.cap)
price_fails (call.Sdl e) = not (price_or_none e.limit)
price_fails (call.Lit e) = not (valid_price e.price)
price_fails call.Start = false

-- ground 12
abbrev pub minimum_fails : {R : Type 0} → ℕ → Call R → Bool
minimum_fails lot (call.Quote w) = false
minimum_fails lot (call.Dark e) = not (valid_minimum lot e.quantity e.minimum)
minimum_fails lot (call.Sdl e) = false
minimum_fails lot (call.Lit e) = false
minimum_fails lot call.Start = false

-- a lit buy at or above the best offer, a lit sell at or below the best bid
abbrev pub crosses : Side → Quote → ℕ → Bool
crosses Buy q p = not (q.offer == 0) && nat_le q.offer p
crosses Sell q p = not (q.bid == 0) && nat_le p q.bid

-- ground 13
abbrev pub crossing_fails : {R : Type 0} → Quote → Request R → Bool
crossing_fails q (request.Quote w) = false
crossing_fails q (request.Dark d) = false
crossing_fails q (request.Sdl s) = false
crossing_fails q (request.Lit l) = crosses l.side q l.price
crossing_fails q request.Start = false

-- of a call whose codes are listed
abbrev pub if_read : {R : Type 0} → (Request R → Bool) → Option (Request R) → Bool
if_read p None = false
if_read p (Some r) = p r

-- ground 14
abbrev pub full_fails : {R : Type 0} → Contents R → Call R → Bool
full_fails c (call.Quote w) = false
full_fails c (call.Dark e) = nat_le 16 (count_by (of_member dark_owner e.member) c.darks)
full_fails c (call.Sdl e) = false
full_fails c (call.Lit e) = nat_le 16 (count_by (of_member lit_owner e.member) c.lits)
full_fails c call.Start = false

-- a ground, and whether it holds
pub record Check : Type 0 where
  pub ground : Ground
  pub fails : Bool

-- the check of one ground
abbrev pub on : Ground → Bool → Check
on g t = record { ground = g; fails = t }

-- the first ground that holds
abbrev pub first_of : List Check → Option Ground
first_of [] = None
first_of (c ∷ cs) = cond c.fails (Some c.ground) (first_of cs)

-- what is checked of a call's fields once its codes are read
abbrev pub field_checks : {R : Type 0} → (R → ℕ) → ℕ → Contents R → Call R → List Check
field_checks number lot c x =
    on ground.Reference (reference_fails number c x) ∷ on ground.Quantity (quantity_fails lot x) ∷ on ground.Price (price_fails x)
    ∷ on ground.Minimum (minimum_fails lot x) ∷ on ground.Crossing (if_read (crossing_fails (quote_in c)) (request_of x))
    ∷ on ground.Full (full_fails c x) ∷ []

-- all that is checked of a call, in order
abbrev pub checks : {R : Type 0} → (R → ℕ) → ℕ → State R → Memory → Call R → List Check
checks number lot s m x =
    on ground.Closed (is_closed s.session) ∷ on ground.Memory (memory_fails number lot s.contents m) ∷ on ground.Trades (trades_fail s.contents.trades)
    ∷ on ground.Member (member_fails x) ∷ on ground.Code (code_fails x) ∷ on ground.Session (session_fails s.session x)
    ∷ field_checks number lot s.contents x

-- the ground on which a call is refused, if any
unfoldable pub ground_under : {R : Type 0} → (R → ℕ) → ℕ → State R → Memory → Call R → Option Ground
ground_under number lot s m x = first_of (checks number lot s m x)

-- the ground on which a call is refused at a facility, if any
abbrev pub ground_of : {R : Type 0} → Facility R → State R → Memory → Call R → Option Ground
ground_of f s m x = ground_under f.number f.lot s m x

-- what code answers: the ground, or the request where there is none
abbrev pub Admits : {R : Type 0} → Option Ground → Option (Request R) → Result (Request R) Ground → Type 0
Admits g q (Ok r) = (g ≡ None) × (q ≡ Some r)
Admits g q (Err e) = g ≡ Some e
