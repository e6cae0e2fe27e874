-- The rule for resting orders, and whose an order is.
use Rattle.std.specs.Prelude.{ℕ, Bool, not, ◌&&◌, ◌==◌, nat_le}
use Rattle.market.specs.declared.orders.DarkOrder.{DarkOrder}
use Rattle.market.specs.declared.orders.LitOrder.{LitOrder}
use Rattle.market.specs.declared.orders.Party.{Party}
use Rattle.market.specs.Prices.{valid_price, cap_or_none}
use Rattle.market.specs.Lots.{valid_quantity, valid_minimum}

-- members are 1 to 16
abbrev pub valid_member : ℕ → Bool
valid_member n = nat_le 1 n && nat_le n 16

-- a Dark order that may rest: its member, a reference, a cap or none, what remains and its minimum
unfoldable pub sound_dark : {R : Type 0} → (R → ℕ) → ℕ → DarkOrder R → Bool
sound_dark number lot d =
    valid_member d.member && (not (number d.reference == 0) && (cap_or_none d.cap
    && (valid_quantity lot d.remaining && valid_minimum lot d.remaining d.minimum)))

-- a lit order that may rest: its member, a reference, a price, what remains
unfoldable pub sound_lit : {R : Type 0} → (R → ℕ) → ℕ → LitOrder R → Bool
sound_lit number lot l =
    valid_member l.member && (not (number l.reference == 0) && (valid_price l.price && valid_quantity lot l.remaining))

-- whose a Dark order is
abbrev pub dark_party : {R : Type 0} → DarkOrder R → Party R
dark_party d = record { member = d.member; reference = d.reference }

-- whose a lit order is
abbrev pub lit_party : {R : Type 0} → LitOrder R → Party R
lit_party l = record { member = l.member; reference = l.reference }
