-- Prices count quarter cents; 0 stands for no price.
use Rattle.std.specs.Prelude.{ℕ, ◌%◌, Bool, cond, not, ◌&&◌, ◌||◌, ◌==◌, nat_le, nat_lt}
use Rattle.market.specs.declared.codes.Side.{Side}
use Rattle.market.specs.declared.codes.Side.TheVariants.{Buy, Sell}

-- n is some whole number times d
abbrev pub multiple_of : ℕ → ℕ → Bool
multiple_of d n = n % d == 0

-- a price is 2 to 4,000,000 units ($0.005 to $10,000): half cents below 200 ($0.50), whole cents from there on
abbrev pub valid_price : ℕ → Bool
valid_price p = nat_le 2 p && (nat_le p 4000000 && cond (nat_lt p 200) (multiple_of 2 p) (multiple_of 4 p))

-- caps stand on the grid of prices
abbrev pub valid_cap : ℕ → Bool
valid_cap c = valid_price c

-- a side of a quote, or a limit: a price, or 0 for none
abbrev pub price_or_none : ℕ → Bool
price_or_none p = p == 0 || valid_price p

-- a cap, or 0 for none
abbrev pub cap_or_none : ℕ → Bool
cap_or_none c = c == 0 || valid_cap c

-- who buys would rather pay less, who sells would rather get more
abbrev pub better : Side → ℕ → ℕ → Bool
better Buy x y = nat_lt x y
better Sell x y = nat_lt y x

-- a trade at p is no worse for this side than the bound; 0 binds nobody
abbrev pub within : Side → ℕ → ℕ → Bool
within s bound p = bound == 0 || not (better s bound p)

-- a trade at p is better for this side than the mark; 0 is no mark
abbrev pub beyond : Side → ℕ → ℕ → Bool
beyond s mark p = mark == 0 || better s p mark
