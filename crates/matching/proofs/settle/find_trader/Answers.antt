use Rattle.std.proofs.Common.{◌≡◌, ℕ, List, Option, sym, subst₂, rules, tests}
use Rattle.std.proofs.lemmas.Iterator.{YieldsList-from_slice}
use Rattle.std.proofs.lemmas.Iterator.Search.{position_from_yields_List}
use Rattle.std.specs.List.{position}
use Rattle.market.specs.declared.orders.DarkOrder.{DarkOrder}
use Rattle.queue.specs.Queues.{queued}
use Rattle.matching.specs.Choice.{first}
use Rattle.matching.specs.Settle.{can_trade, first_to_trade, Place}
use Rattle.matching.proofs.Settling.{first_place}
use Rattle.matching.proofs.settle.find_trader.Goals as goal

pub returns : goal.returns
unfolding first_to_trade
returns g c =
    let p = can_trade c.args.quote.now (queued c.args.lits.now) (queued c.args.darks.now) in
    let xs = c.orders.result.now in
    let e : c.position.result ≡ position p xs =
    position_from_yields_List p _ _ c.position.result c.position.ensures.ran (YieldsList-from_slice xs cc) (λ x b q k. search (rules, tests)) in
    subst₂ (λ (o : Option ℕ) (ys : List (DarkOrder g.row.R.Denot)). Place ys o (first p ys)) (sym e) c.orders.ensures (first_place p xs)
