-- Better and worse prices for a side.
use Rattle.std.proofs.Common.{◌≡◌, ℕ, Bool, true, false, ◌&&◌, ◌||◌, eqb, arith}
use Rattle.std.proofs.lemmas.Bool.Decides.{nat_tests}
use Rattle.market.specs.declared.codes.Side.{Side}
use Rattle.market.specs.Prices.{better, beyond}

pub no_better_itself : (s : Side) (x : ℕ) → better s x x ≡ false
no_better_itself s x = grind (arith, nat_tests)

-- what is no better than a price that is no better than a third is no better than the third
pub no_better_through : (s : Side) (x y z : ℕ) → better s x y ≡ false → better s y z ≡ false → better s x z ≡ false
no_better_through s x y z e f = grind (arith, nat_tests)

-- what is better than a price is better than what is no better than that price
pub better_than_no_better : (s : Side) (x y z : ℕ) → better s x y ≡ true → better s z y ≡ false → better s x z ≡ true
better_than_no_better s x y z e f = grind (arith, nat_tests)

-- what is better than a price that is better than the mark is better than the mark
pub beyond_better : (s : Side) (mark p z : ℕ) → beyond s mark p ≡ true → better s z p ≡ true → beyond s mark z ≡ true
beyond_better s mark p z e f = grind (arith, nat_tests)

-- who is beaten has no better price
pub beaten_price : (s : Side) (x y : ℕ) (t : Bool) → (better s x y || (eqb x y && t)) ≡ true → better s y x ≡ false
beaten_price s x y t e = grind (arith, nat_tests)
