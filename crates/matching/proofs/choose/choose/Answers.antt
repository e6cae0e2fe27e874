use Rattle.std.proofs.Common.{ℕ, drop, Some, Option, sym, ◌∙◌, subst}
use Rattle.matching.specs.Choice.{pick, preferred}
use Rattle.matching.proofs.Backward.{BestFrom, passed_over, still_best}
use Rattle.matching.proofs.choose.choose.Goals as goal

pub loop-i-preserved-in-Some : goal.loop-i-preserved-in-Some
loop-i-preserved-in-Some g c =
    let able = g.T.Offer.able c.args.terms.now in
    let wins = preferred c.args.asker.now (g.P.Priority.order c.args.p.now) (g.T.Offer.costs c.args.terms.now) (g.T.Offer.shown c.args.terms.now) in
    let xs = c.args.orders.now in
    let i = c.loop-i.i in
    let inv = c.loop-i.invariant in
    let was : BestFrom xs i (Some c.in-Some.j) (pick able wins (drop i xs)) = subst (λ (o : Option ℕ). BestFrom xs i o (pick able wins (drop i xs))) c.in-Some.is inv.0 in
    still_best able wins xs i c.index-orders-i.result c.loop-i-test.true inv.1 c.index-orders-i.is c.in-Some.j c.index-orders-j.result c.index-orders-j.is
    (sym c.if-may_be_met.ensures) (sym c.prefers.ensures ∙ c.if-prefers.true) was

pub loop-i-preserved : goal.loop-i-preserved
loop-i-preserved g c =
    let able = g.T.Offer.able c.args.terms.now in
    let wins = preferred c.args.asker.now (g.P.Priority.order c.args.p.now) (g.T.Offer.costs c.args.terms.now) (g.T.Offer.shown c.args.terms.now) in
    let inv = c.loop-i.invariant in
    passed_over able wins c.args.orders.now c.loop-i.i c.index-orders-i.result c.loop-i-test.true inv.1 c.index-orders-i.is c.loop-i.best
    (sym c.if-may_be_met.ensures) inv.0
