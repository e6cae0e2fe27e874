-- The grounds of refusal: each with its number, in the order in which they are checked.
use Rattle.std.specs.Prelude.{ℕ}
use Rattle.market.specs.declared.ground.Ground.{Ground}
use Rattle.market.specs.declared.ground.Ground.TheVariants as ground

abbrev pub ground_number : Ground → ℕ
-- the lot is not 100, 500 or 1,000, and no book is made
ground_number ground.Lot = 1
-- the book is closed
ground_number ground.Closed = 2
-- the lent memory has not the lengths asked for, or what rests in it could not rest
ground_number ground.Memory = 3
-- so many trades stand for the day that a call might pass the last trade number
ground_number ground.Trades = 4
-- the member is outside 1 to 16
ground_number ground.Member = 5
-- a side, peg, contra preference, seek type or jitney mark is not listed
ground_number ground.Code = 6
-- the call does not belong to this session
ground_number ground.Session = 7
-- the reference is 0, or an entry repeats that of a resting order of the member
ground_number ground.Reference = 8
-- no resting order of the member is named
ground_number ground.Unknown = 9
-- the quantity is not valid
ground_number ground.Quantity = 10
-- a price, cap or limit is not valid
ground_number ground.Price = 11
-- the minimum is neither 0 nor whole lots up to the quantity
ground_number ground.Minimum = 12
-- a lit order would lock or cross the best quote of the other side
ground_number ground.Crossing = 13
-- the member has 16 orders in the table that the entry would join
ground_number ground.Full = 14
