use Rattle.std.proofs.Common.{sym, ◌∙◌}
use Rattle.book.specs.Steps.{state_in}
use Rattle.tape.proofs.Turns.{one_turn, ended, kept, not_refused, still_same}
use Rattle.tape.proofs.run.bring_about.Goals as goal

pub returns-in_err-map_err-clause-brought : goal.returns-in_err-map_err-clause-brought
returns-in_err-map_err-clause-brought c =
    let l = c.loop-i in
    λ t w.
    absurd
    (not_refused
    (sym
    (kept _ c.apply.result c.map_err.result _ c.map_err.ensures.cases
    (one_turn c.args.calls.now l.i _ c.loop-i-test.true l.invariant.0 l.invariant.1 c.apply.ensures t (l.invariant.3 t w)).0)
    ∙ c.in_err-map_err.was))

pub loop-i-preserved : goal.loop-i-preserved
loop-i-preserved c =
    let l = c.loop-i in
    let k = c.apply.ensures in (
      k.lot ∙ l.invariant.0,
      k.same.lengths ∙ l.invariant.1,
      still_same l.invariant.2 k.same,
      λ t w. (one_turn c.args.calls.now l.i _ c.loop-i-test.true l.invariant.0 l.invariant.1 k t (l.invariant.3 t w)).1,
    )

pub returns-clause-brought : goal.returns-clause-brought
returns-clause-brought c =
    let l = c.loop-i in
    λ t w. (tt, ended (state_in l.book l.memory) t c.args.calls.now l.i c.loop-i-test.false (l.invariant.3 t w))
