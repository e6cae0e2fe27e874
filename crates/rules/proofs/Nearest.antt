-- Where lit orders have prices, a price is better than the nearest lit price just if it is better than that of every lit order
-- on the other side. So it stays better when a lit order trades.
use Rattle.std.proofs.Common.{◌≡◌, ℕ, ◌-◌, Bool, true, false, cond, not, ◌&&◌, ◌||◌, eqb, List, [], ◌∷◌, ◌++◌, sym, ◌∙◌, arith}
use Rattle.std.specs.List.{AllByRecursion}
use Rattle.std.proofs.lemmas.Bool.Decides.{nat_tests}
use Rattle.market.specs.declared.codes.Side.{Side}
use Rattle.market.specs.declared.codes.Side.TheVariants.{Buy, Sell}
use Rattle.market.specs.declared.orders.LitOrder.{LitOrder}
use Rattle.market.specs.Codes.{opposed}
use Rattle.market.specs.Prices.{better, beyond}
use Rattle.market.specs.Quotes.{higher_bid, lower_offer, higher, lower, best_bid, best_offer, nearest_lit}
use Rattle.matching.specs.Sweep.{lit_after, lit_left}

abbrev pub Priced : {R : Type 0} → List (LitOrder R) → Type 0
Priced ls = AllByRecursion (λ l. l.price ≡ 0 → ⊥) ls

-- a price that a lit order does not stand in the way of
abbrev passes : Side → ℕ → Side → ℕ → Bool
passes s p side price = not (opposed side s) || better s p price

abbrev all_pass : {R : Type 0} → Side → ℕ → List (LitOrder R) → Bool
all_pass s p [] = true
all_pass s p (l ∷ ls) = passes s p l.side l.price && all_pass s p ls

offer_step : (side : Side) (m x p : ℕ) → (x ≡ 0 → ⊥) → beyond Buy (lower_offer side m x) p ≡ (beyond Buy m p && passes Buy p side x)
offer_step side m x p h = grind (arith, nat_tests)

bid_step : (side : Side) (m x p : ℕ) → (x ≡ 0 → ⊥) → beyond Sell (higher_bid side m x) p ≡ (beyond Sell m p && passes Sell p side x)
bid_step side m x p h = grind (arith, nat_tests)

module _ {R : Type 0} (p : ℕ) where
  past_offers : (m : ℕ) (ls : List (LitOrder R)) → Priced ls → beyond Buy (best_offer m ls) p ≡ (beyond Buy m p && all_pass Buy p ls)
  unfolding best_offer
  past_offers m [] h = grind arith
  past_offers m (l ∷ ls) h =
      let i = past_offers (lower m l) ls h.1 in
      let k = offer_step l.side m l.price p h.0 in
      grind arith

  past_bids : (m : ℕ) (ls : List (LitOrder R)) → Priced ls → beyond Sell (best_bid m ls) p ≡ (beyond Sell m p && all_pass Sell p ls)
  unfolding best_bid
  past_bids m [] h = grind arith
  past_bids m (l ∷ ls) h =
      let i = past_bids (higher m l) ls h.1 in
      let k = bid_step l.side m l.price p h.0 in
      grind arith

  past_nearest : (s : Side) (ls : List (LitOrder R)) → Priced ls → beyond s (nearest_lit s ls) p ≡ all_pass s p ls
  unfolding nearest_lit
  past_nearest Buy ls h = past_offers 0 ls h
  past_nearest Sell ls h = past_bids 0 ls h

-- what holds of each still does where the chosen one trades and keeps its place
pub all_left : {X : Type 0} (P : X → Type 0) (before : List X) (c d : X) (after : List X) (t : Bool) → (P c → P d) → AllByRecursion P (before ++ c ∷ after) → AllByRecursion P (before ++ (cond t [] (d ∷ []) ++ after))
all_left P [] c d after true k h = h.1
all_left P [] c d after false k h = (k h.0, h.1)
all_left P (x ∷ xs) c d after t k h = (h.0, all_left P xs c d after t k h.1)

module _ {R : Type 0} (s : Side) (p n : ℕ) (l : LitOrder R) (after : List (LitOrder R)) where
  pass_left : (before : List (LitOrder R)) (t : Bool) → all_pass s p (before ++ l ∷ after) ≡ true → all_pass s p (before ++ (cond t [] (lit_after n l ∷ []) ++ after)) ≡ true
  pass_left [] t e = grind arith
  pass_left (x ∷ xs) t e = let i = pass_left xs t in grind arith

  -- a price better than every lit order's stays so
  pub still_past : (before : List (LitOrder R)) → Priced (before ++ l ∷ after) → beyond s (nearest_lit s (before ++ l ∷ after)) p ≡ true →
      beyond s (nearest_lit s (before ++ (lit_left (lit_after n l) ++ after))) p ≡ true
  still_past before h e =
      let left = cond (eqb (l.remaining - n) 0) [] (lit_after n l ∷ []) in
      past_nearest p s (before ++ (left ++ after)) (all_left _ before l (lit_after n l) after (eqb (l.remaining - n) 0) (λ k. k) h)
      ∙ pass_left before (eqb (l.remaining - n) 0) (sym (past_nearest p s (before ++ l ∷ after) h) ∙ e)
