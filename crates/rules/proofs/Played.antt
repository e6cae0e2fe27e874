-- Each fill ends an order, so the sweep as a function, with more turns than there are orders, is a sweep.
use Rattle.std.proofs.Common.{◌≡◌, ℕ, zero, suc, ◌+◌, ◌<◌, length, refl, arith}
use Rattle.market.specs.declared.quotes.Quote.{Quote}
use Rattle.matching.specs.Sweep.{Orderings, Run, Chosen, no_one, dark, lit, choice, after_dark, after_lit, Swept, ends, meets_dark, meets_lit}
use Rattle.matching.proofs.Counts.{at_hand, dark_ends_one, lit_ends_one}
use Rattle.rules.specs.Play.{Played, trade_with, play, sweep}

module _ {R : Type 0} (o : Orderings) (q : Quote) where
  -- what the function came to is what a sweep comes to
  abbrev pub SweepsTo : Run R → Played R → Type 0
  SweepsTo r p = Swept o q r p.fills p.end

  one_turn : (n : ℕ) (r : Run R) → at_hand r < suc n → ((x : Run R) → at_hand x < n → SweepsTo x (play o q n x)) → (c : Chosen R) → choice o q r ≡ c →
      SweepsTo r (trade_with q r (play o q n) c)
  one_turn n r m i no_one e = ends e
  one_turn n r m i (dark b d a) e = meets_dark b d a e (i (after_dark q r b d a) (let k = dark_ends_one o q r b d a e in omega arith))
  one_turn n r m i (lit b l a) e = meets_lit b l a e (i (after_lit r b l a) (let k = lit_ends_one o q r b l a e in omega arith))

  pub played : (n : ℕ) (r : Run R) → at_hand r < n → SweepsTo r (play o q n r)
  unfolding play
  played zero r m = absurd (omega arith)
  played (suc n) r m = one_turn n r m (λ x k. played n x k) (choice o q r) refl

  pub swept : (r : Run R) → SweepsTo r (sweep o q r)
  swept r = played (length r.darks + length r.lits + 2) r (omega arith)
