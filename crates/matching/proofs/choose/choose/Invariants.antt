use Rattle.std.proofs.Common.{◌≤◌, length, drop}
use Rattle.matching.specs.Choice.{pick, preferred}
use Rattle.matching.proofs.Backward.{BestFrom}
use Rattle.matching.proofs.choose.choose.Given as goal

abbrev pub invariant-loop-i : goal.invariant-loop-i
invariant-loop-i g l =
    let able = g.T.Offer.able l.terms in
    let wins = preferred l.asker (g.P.Priority.order l.p) (g.T.Offer.costs l.terms) (g.T.Offer.shown l.terms) in
    BestFrom l.orders l.i l.best (pick able wins (drop l.i l.orders)) × (l.i ≤ length l.orders)
