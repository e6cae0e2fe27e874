-- Small and Large SDL orders.
use Rattle.std.specs.Prelude.{ℕ, ◌*◌, Bool, cond, ◌&&◌, ◌||◌, ◌==◌, nat_le}
use Rattle.market.specs.declared.sizes.Size.{Size}
use Rattle.market.specs.declared.sizes.Size.TheVariants.{Small, Large}

-- Small: at most 50 lots, and worth at most 40,000,000 units ($100,000); or without a price to value it at
abbrev pub small : ℕ → ℕ → ℕ → Bool
small lot shares price = price == 0 || (nat_le shares (50 * lot) && nat_le (shares * price) 40000000)

-- any other order is Large
abbrev pub size_class : ℕ → ℕ → ℕ → Size
size_class lot shares price = cond (small lot shares price) Small Large
