use Rattle.std.proofs.Common.{◌≡◌, ap, ◌∙◌, subst, arith}
use Rattle.market.specs.declared.quotes.Quote.{Quote}
use Rattle.market.specs.Quotes.{quote_of}
use Rattle.queue.specs.Queues.{queued}
use Rattle.queue.proofs.Appends.{same_self, same_then}
use Rattle.matching.specs.Tables.{tables}
use Rattle.matching.specs.Choice.{nobody}
use Rattle.matching.specs.Sweep.{Orderings, orderings_of}
use Rattle.matching.specs.Settle.{Contents, contents_of, quote_in, first_to_trade}
use Rattle.matching.proofs.Settling.{begins, stops, Round, the_round, round_counts, another_round}
use Rattle.matching.proofs.settle.settle.Given.{Over}
use Rattle.matching.proofs.settle.settle.Goals.{After-sweep_dark}
use Rattle.matching.proofs.settle.settle.Goals as goal

pub loop-at-init : goal.loop-at-init
loop-at-init g c = record { going = begins _ _ _; spends = omega arith; numbers = omega arith; darks = same_self _; lits = same_self _ }

pub returns-in_default-clause-settled : goal.returns-in_default-clause-settled
returns-in_default-clause-settled g c =
    let o : Orderings = orderings_of g.D.Priority.order g.L.Priority.order c.args.p.now in
    let l = c.loop-at in
    let inv = c.loop-at.invariant in
    let b : Contents g.row.R.Denot = contents_of c.args.away l.trades (tables l.darks l.lits l.fills) in
    let c₀ : Contents g.row.R.Denot = contents_of c.args.away c.args.trades.now (tables c.args.darks.now c.args.lits.now c.args.fills.now) in
    let none : first_to_trade (quote_in b) b.lits b.darks ≡ nobody =
    subst (λ (q : Quote). first_to_trade q b.lits b.darks ≡ nobody) (c.of-quote.ensures ∙ ap (quote_of c.args.away) c.orders.ensures) c.in_default.ensures in
    stops o c₀ b c.args.fills.now l.fills none inv.going

-- the round that the loop has gone through
the_turn : (g : Over) (c : After-sweep_dark g) →
    Round (orderings_of g.D.Priority.order g.L.Priority.order c.args.p.now) c.args.away c.loop-at.trades (tables c.loop-at.darks c.loop-at.lits c.loop-at.fills) c.in-Some.at c.remove-d.result
    c.sweep_dark.result c.sweep_dark.new.trades (tables c.sweep_dark.new.darks c.sweep_dark.new.lits c.sweep_dark.new.fills)
the_turn g c =
    the_round (orderings_of g.D.Priority.order g.L.Priority.order c.args.p.now) c.args.away c.loop-at.trades (tables c.loop-at.darks c.loop-at.lits c.loop-at.fills) c.in-Some.at c.remove-d.result
    c.sweep_dark.result c.sweep_dark.new.trades (tables c.sweep_dark.new.darks c.sweep_dark.new.lits c.sweep_dark.new.fills)
    c.of-quote.result (queued c.remove-d.new.self) (c.of-quote.ensures ∙ ap (quote_of c.args.away) c.orders.ensures) c.in-Some.ensures c.remove-d.ensures.value c.remove-d.ensures.list c.sweep_dark.ensures.swept

pub loop-at-smaller : goal.loop-at-smaller
loop-at-smaller g c =
    let out = c.remove-d in
    (round_counts _ _ _ _ _ _ _ _ _ (the_turn g (goal.at.loop-at-smaller g c).After-sweep_dark) out.new.self out.ensures.list out.ensures.len).1

pub loop-at-preserved : goal.loop-at-preserved
loop-at-preserved g c =
    let out = c.remove-d in
    let same = c.sweep_dark.ensures.same in
    another_round _ _ _ _ _ _ _ _ _ (the_turn g (goal.at.loop-at-preserved g c).After-sweep_dark) out.new.self out.ensures.list out.ensures.len _ _
    (same_then out.ensures.same same.darks) same.lits c.loop-at.invariant
