-- The two tables and the list of fills, as calls find and leave them.
use Rattle.std.specs.Prelude.{ℕ, ◌+◌, ◌≤◌}
use Rattle.queue.specs.Queues.{room, SamePlaces}
use Rattle.market.specs.declared.orders.DarkOrder.{DarkOrder}
use Rattle.market.specs.declared.orders.LitOrder.{LitOrder}
use Rattle.market.specs.declared.orders.Fill.{Fill}
use Rattle.queue.specs.declared.queue.Queue.{Queue}

-- the two tables as queues, and the list that fills are appended to: one record here, where code passes the three
pub record Tables (R : Type 0) : Type 0 where
  pub darks : Queue (DarkOrder R)
  pub lits : Queue (LitOrder R)
  pub fills : Queue (Fill R)

abbrev pub tables : {R : Type 0} → Queue (DarkOrder R) → Queue (LitOrder R) → Queue (Fill R) → Tables R
tables darks lits fills = record { darks = darks; lits = lits; fills = fills }

-- the second tables and fills stand on the very places of the first, and as many
pub record SameTables {R : Type 0} (s t : Tables R) : Type 0 where
  pub darks : SamePlaces s.darks t.darks
  pub lits : SamePlaces s.lits t.lits
  pub fills : SamePlaces s.fills t.fills

-- a fill of each order finds room: of those in the tables, and of so many more
abbrev pub RoomFor : {R : Type 0} → ℕ → Tables R → Type 0
RoomFor more t = t.fills.len + t.darks.len + t.lits.len + more ≤ room t.fills

-- a fill of each order has a number left in the day: of those in the tables, and of so many more
abbrev pub NumbersFor : {R : Type 0} → ℕ → ℕ → Tables R → Type 0
NumbersFor more trades t = trades + t.darks.len + t.lits.len + more ≤ 1000000
