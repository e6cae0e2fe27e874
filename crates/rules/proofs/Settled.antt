-- Each round of settling ends an order, so settling as a function, with more rounds than there are orders, is settling.
use Rattle.std.proofs.Common.{◌≡◌, ℕ, zero, suc, ◌+◌, ◌<◌, List, ◌++◌, length, refl, arith}
use Rattle.market.specs.declared.orders.DarkOrder.{DarkOrder}
use Rattle.market.specs.declared.orders.Fill.{Fill}
use Rattle.matching.specs.Choice.{Pick, nobody, found}
use Rattle.matching.specs.Sweep.{Orderings, Run, Swept}
use Rattle.matching.specs.Settle.{Contents, quote_in, active_dark, start_of, after_sweep, first_to_trade, Settles, settled, sweeps}
use Rattle.matching.proofs.Counts.{resting, dark_sweep_count}
use Rattle.matching.proofs.Settling.{one_out, round_fills}
use Rattle.rules.specs.Play.{PlayedSettling, settle_with, settle_by, settle}
use Rattle.rules.proofs.Played.{swept}

module _ {R : Type 0} (o : Orderings) where
  round_ends_one : (c : Contents R) (before : List (DarkOrder R)) (d : DarkOrder R) (after : List (DarkOrder R)) (fs : List (Fill R)) (r : Run R) →
      first_to_trade (quote_in c) c.lits c.darks ≡ found before d after →
      Swept o (quote_in c) (start_of c.trades (active_dark d) (before ++ after) c.lits) fs r → resting (after_sweep c.away d r) < resting c
  round_ends_one c before d after fs r e w =
      omega (arith, dark_sweep_count c.away w, round_fills _ _ _ before d after e w, one_out _ _ _ before d after e)

  -- what the function came to is what settling comes to
  abbrev pub SettlesTo : Contents R → PlayedSettling R → Type 0
  SettlesTo c p = Settles o c p.fills p.end

  one_round : (n : ℕ) (c : Contents R) → resting c < suc n → ((x : Contents R) → resting x < n → SettlesTo x (settle_by o n x)) → (p : Pick (DarkOrder R)) →
      first_to_trade (quote_in c) c.lits c.darks ≡ p → SettlesTo c (settle_with o c (settle_by o n) p)
  one_round n c m i nobody e = settled e
  one_round n c m i (found before d after) e =
      let w = swept o (quote_in c) (start_of c.trades (active_dark d) (before ++ after) c.lits) in
      sweeps before d after e w (i _ (let k = round_ends_one c before d after _ _ e w in omega arith))

  pub settled_by : (n : ℕ) (c : Contents R) → resting c < n → SettlesTo c (settle_by o n c)
  unfolding settle_by
  settled_by zero c m = absurd (omega arith)
  settled_by (suc n) c m = one_round n c m (λ x k. settled_by n x k) (first_to_trade (quote_in c) c.lits c.darks) refl

  pub settling_ends : (c : Contents R) → SettlesTo c (settle o c)
  settling_ends c = settled_by (length c.darks + length c.lits + 1) c (omega arith)
