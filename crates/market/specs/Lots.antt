-- Lots, quantities and minimums, in shares.
use Rattle.std.specs.Prelude.{ℕ, Bool, ◌&&◌, ◌||◌, ◌==◌, nat_le, nat_lt}
use Rattle.market.specs.Prices.{multiple_of}

-- a book's lot is 100, 500 or 1,000 shares
abbrev pub valid_lot : ℕ → Bool
valid_lot n = n == 100 || (n == 500 || n == 1000)

-- whole lots
abbrev pub round_lot : ℕ → ℕ → Bool
round_lot lot n = multiple_of lot n

-- at least one lot, at most 1,000,000 shares, whole lots
abbrev pub valid_quantity : ℕ → ℕ → Bool
valid_quantity lot n = nat_lt 0 n && (nat_le n 1000000 && round_lot lot n)

-- a minimum acceptable quantity is 0 for none, or whole lots up to the quantity
abbrev pub valid_minimum : ℕ → ℕ → ℕ → Bool
valid_minimum lot n m = m == 0 || (round_lot lot m && nat_le m n)
