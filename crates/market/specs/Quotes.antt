-- The quote, and the prices of Dark orders under it. 0 stands for unset, or for no price.
use Rattle.std.specs.Prelude.{ℕ, ◌+◌, ◌/◌, min, max, Bool, cond, not, ◌&&◌, ◌||◌, List, fold, ◌==◌, nat_le, nat_lt}
use Rattle.market.specs.declared.codes.Side.{Side}
use Rattle.market.specs.declared.codes.Side.TheVariants.{Buy, Sell}
use Rattle.market.specs.declared.codes.Peg.{Peg}
use Rattle.market.specs.declared.codes.Peg.TheVariants.{Midpoint, Touch}
use Rattle.market.specs.declared.orders.LitOrder.{LitOrder}
use Rattle.market.specs.declared.quotes.Away.{Away}
use Rattle.market.specs.declared.quotes.Quote.{Quote}

-- the greater of a bid and a lit buy
abbrev pub higher_bid : Side → ℕ → ℕ → ℕ
higher_bid Buy best p = max best p
higher_bid Sell best p = best

-- the smaller of an offer, where it is set, and a lit sell
abbrev pub lower_offer : Side → ℕ → ℕ → ℕ
lower_offer Buy best p = best
lower_offer Sell best p = cond (best == 0 || nat_lt p best) p best

abbrev pub higher : {R : Type 0} → ℕ → LitOrder R → ℕ
higher best l = higher_bid l.side best l.price

abbrev pub lower : {R : Type 0} → ℕ → LitOrder R → ℕ
lower best l = lower_offer l.side best l.price

-- the best bid: the greatest of the other markets' and the resting lit buys
unfoldable pub best_bid : {R : Type 0} → ℕ → List (LitOrder R) → ℕ
best_bid away ls = fold higher away ls

-- the best offer: the smallest of the other markets' and the resting lit sells
unfoldable pub best_offer : {R : Type 0} → ℕ → List (LitOrder R) → ℕ
best_offer away ls = fold lower away ls

abbrev pub quote_of : {R : Type 0} → Away → List (LitOrder R) → Quote
quote_of w ls = record { bid = best_bid w.bid ls; offer = best_offer w.offer ls; away = w }

-- both sides are set, and the bid is not below the offer
abbrev pub locked_or_crossed : Quote → Bool
locked_or_crossed q = not (q.bid == 0) && (not (q.offer == 0) && nat_le q.offer q.bid)

-- half of bid plus offer, where both are set
abbrev pub midpoint_of : Quote → ℕ
midpoint_of q = cond (q.bid == 0 || q.offer == 0) 0 ((q.bid + q.offer) / 2)

-- a Midpoint order follows the midpoint; a Touch buy the best bid, a Touch sell the best offer
abbrev pub peg_price : Quote → Side → Peg → ℕ
peg_price q s Midpoint = midpoint_of q
peg_price q Buy Touch = q.bid
peg_price q Sell Touch = q.offer

-- a buy is priced at the lesser of peg and cap, a sell at the greater; no cap, no bound
abbrev pub capped_by : Side → ℕ → ℕ → ℕ
capped_by Buy cap p = min p cap
capped_by Sell cap p = max p cap

abbrev pub capped : Side → ℕ → ℕ → ℕ
capped s cap p = cond (p == 0 || cap == 0) p (capped_by s cap p)

-- a Dark order's price: its capped peg, and none while the quote is locked or crossed
unfoldable pub dark_price : Quote → Side → Peg → ℕ → ℕ
dark_price q s peg cap = cond (locked_or_crossed q) 0 (capped s cap (peg_price q s peg))

-- of a bid and an offer, the one that an order of this side trades against
abbrev pub other_side_of : Side → ℕ → ℕ → ℕ
other_side_of Buy bid offer = offer
other_side_of Sell bid offer = bid

-- the best quote that an order of this side trades against
abbrev pub opposing : Quote → Side → ℕ
opposing q s = other_side_of s q.bid q.offer

-- the other markets' quote that an order of this side could trade against there
abbrev pub away_of : Away → Side → ℕ
away_of w s = other_side_of s w.bid w.offer

-- the best price of the lit orders that an order of this side could meet, 0 for none
unfoldable pub nearest_lit : {R : Type 0} → Side → List (LitOrder R) → ℕ
nearest_lit Buy ls = best_offer 0 ls
nearest_lit Sell ls = best_bid 0 ls
