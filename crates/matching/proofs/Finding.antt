-- Of the best lit and the best Dark order, the one to be met.
use Rattle.std.proofs.Common.{◌≡◌, ℕ, ◌+◌, ◌<◌, Bool, true, false, cond, List, [], ◌∷◌, length, get_or, take, drop, Some, None, Option, refl, ◌∙◌, arith}
use Rattle.market.specs.declared.codes.Side.{Side}
use Rattle.market.specs.declared.orders.DarkOrder.{DarkOrder}
use Rattle.market.specs.declared.orders.LitOrder.{LitOrder}
use Rattle.market.specs.declared.quotes.Quote.{Quote}
use Rattle.market.specs.Prices.{better}
use Rattle.matching.specs.declared.active.Found.{Found}
use Rattle.matching.specs.declared.active.Met.TheVariants as met
use Rattle.matching.specs.Choice.{Pick, Splits}
use Rattle.matching.specs.Sweep.{dark, lit, better_of, next_of, price_under, Finds}

-- a list with a place in it has an element
one_of : {X : Type 0} (xs : List X) (i : ℕ) → i < length xs → X
one_of [] i h = absurd (omega arith)
one_of (x ∷ xs) i h = x

module _ {R : Type 0} (q : Quote) (s : Side) (ds : List (DarkOrder R)) (ls : List (LitOrder R)) where
  both : (l d : Found) (pl : Pick (LitOrder R)) (pd : Pick (DarkOrder R)) → Splits (λ x. x.price) ls (Some l) pl → Splits (price_under q) ds (Some d) pd →
      (x : DarkOrder R) (y : LitOrder R) →
      better_of q s pl pd
      ≡ cond (better s d.price l.price) (dark (take d.at ds) (get_or ds d.at x) (drop (d.at + 1) ds)) (lit (take l.at ls) (get_or ls l.at y) (drop (l.at + 1) ls))
  both l d pl pd sl sd x y = rw (sl.1 y, sd.1 x, sl.2 y, sd.2 x)

  pub finds : (l d : Option Found) (pl : Pick (LitOrder R)) (pd : Pick (DarkOrder R)) → Splits (λ x. x.price) ls l pl → Splits (price_under q) ds d pd →
      Finds q ds ls (next_of s l d) (better_of q s pl pd)
  finds None None pl pd sl sd = rw (sl, sd)
  finds None (Some d) pl pd sl sd = (sd.0, (λ x. rw (sl, sd.1 x)), sd.2)
  finds (Some l) None pl pd sl sd = (sl.0, (λ x. rw (sd, sl.1 x)), sl.2)
  finds (Some l) (Some d) pl pd sl sd = go (better s d.price l.price) refl
    where
      go : (t : Bool) → better s d.price l.price ≡ t → Finds q ds ls (cond t (Some (met.Dark d)) (Some (met.Lit l))) (better_of q s pl pd)
      go true e = (sd.0, (λ x. both l d pl pd sl sd x (one_of ls l.at sl.0) ∙ rw e), sd.2)
      go false e = (sl.0, (λ x. both l d pl pd sl sd (one_of ds d.at sd.0) x ∙ rw e), sl.2)
