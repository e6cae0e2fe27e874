use Rattle.std.proofs.Common.{sym, refl, ap, ◌∙◌, arith}
use Rattle.queue.specs.Queues.{queued}
use Rattle.queue.proofs.Appends.{same_self}
use Rattle.matching.specs.declared.active.Progress.{Progress}
use Rattle.matching.specs.Tables.{Tables, tables}
use Rattle.matching.specs.Sweep.{Orderings, orderings_of, run_of, dark, lit, price_under, shares_with, dark_progress, lit_progress, dark_fill, lit_fill, after_dark, after_lit, meets_dark, meets_lit}
use Rattle.matching.proofs.Going.{begins, same_run, one_trade, stops, spent_meets_no_one}
use Rattle.matching.proofs.sweep.sweep.Goals as goal

pub loop-g-init : goal.loop-g-init
loop-g-init g c = record { going = begins _ _ _ _; spends = omega arith; trades = omega arith; darks = same_self _; lits = same_self _ }

pub returns-in-None-clause-sweeps : goal.returns-in-None-clause-sweeps
returns-in-None-clause-sweeps g c =
    let o : Orderings = orderings_of g.D.Priority.order g.L.Priority.order c.args.p.now in
    let l = c.loop-g in
    stops o c.args.quote.now (run_of c.args.g.now (tables c.args.darks.now c.args.lits.now c.args.fills.now)) (run_of l.g (tables l.darks l.lits l.fills)) c.args.fills.now l.fills c.in-None.ensures l.invariant.going

pub returns-clause-sweeps : goal.returns-clause-sweeps
returns-clause-sweeps g c =
    let o : Orderings = orderings_of g.D.Priority.order g.L.Priority.order c.args.p.now in
    let q = c.args.quote.now in
    let l = c.loop-g in
    let r = run_of l.g (tables l.darks l.lits l.fills) in
    stops o q (run_of c.args.g.now (tables c.args.darks.now c.args.lits.now c.args.fills.now)) r c.args.fills.now l.fills (spent_meets_no_one o q r (omega arith)) l.invariant.going

pub loop-g-preserved-in-Some-Dark : goal.loop-g-preserved-in-Some-Dark
loop-g-preserved-in-Some-Dark g c =
    let o : Orderings = orderings_of g.D.Priority.order g.L.Priority.order c.args.p.now in
    let q = c.args.quote.now in
    let l = c.loop-g in
    let t = c.trade in
    let d = t.result in
    let next : Tables g.row.R.Denot = record { darks = t.new.queue; lits = l.lits; fills = t.new.fills } in
    one_trade o q dark (price_under q) (after_dark q) dark_fill (λ r s fs b x a e w. meets_dark b x a e w) c.args.g.now (tables c.args.darks.now c.args.lits.now c.args.fills.now) l.g (tables l.darks l.lits l.fills) t.new.g next
    (queued l.darks) c.in-Some-Dark.found d (rw c.in-Some-Dark.field-0-is at c.in-Some-Dark.ensures) t.ensures.order
    (λ e. same_run _ _ (t.ensures.progress ∙ ap (λ p. dark_progress (shares_with l.g d.remaining) p l.g) (sym e)) t.ensures.list refl)
    t.ensures.fills t.ensures.more (ap (λ (x : Progress g.row.R.Denot). x.trades) t.ensures.progress) (omega (arith, t.ensures.spends)) c.loop-g-test.true
    t.ensures.same (same_self _) l.invariant

pub loop-g-preserved : goal.loop-g-preserved
loop-g-preserved g c =
    let o : Orderings = orderings_of g.D.Priority.order g.L.Priority.order c.args.p.now in
    let q = c.args.quote.now in
    let l = c.loop-g in
    let t = c.trade-in-Some-Lit in
    let d = t.result in
    let next : Tables g.row.R.Denot = record { darks = l.darks; lits = t.new.queue; fills = t.new.fills } in
    one_trade o q lit (λ x. x.price) after_lit lit_fill (λ r s fs b x a e w. meets_lit b x a e w) c.args.g.now (tables c.args.darks.now c.args.lits.now c.args.fills.now) l.g (tables l.darks l.lits l.fills) t.new.g next
    (queued l.lits) c.in-Some-Lit.found d (rw c.in-Some-Lit.field-0-is at c.in-Some-Lit.ensures) t.ensures.order
    (λ e. same_run _ _ (t.ensures.progress ∙ ap (λ p. lit_progress (shares_with l.g d.remaining) p l.g) (sym e)) refl t.ensures.list)
    t.ensures.fills t.ensures.more (ap (λ (x : Progress g.row.R.Denot). x.trades) t.ensures.progress) (omega (arith, t.ensures.spends)) c.loop-g-test.true
    (same_self _) t.ensures.same l.invariant
