use Rattle.std.proofs.Common.{List, ◌++◌, refl, ap, ◌∙◌, subst, arith}
use Rattle.market.specs.declared.orders.DarkOrder.{DarkOrder}
use Rattle.queue.specs.Queues.{queued}
use Rattle.queue.proofs.Appends.{queued_length}
use Rattle.matching.specs.Tables.{tables}
use Rattle.matching.specs.declared.active.Progress.{Progress}
use Rattle.matching.specs.Sweep.{Orderings, orderings_of, Run, run_of, dark_left, Sweeps}
use Rattle.matching.specs.Settle.{not_begun}
use Rattle.matching.proofs.Counts.{swept_shorter}
use Rattle.matching.proofs.settle.sweep_dark.Goals as goal

pub join-requires : goal.join-requires
join-requires g c =
    let t = c.sweep in
    let s = swept_shorter t.ensures.sweeps.swept in
    omega (arith, s, queued_length t.new.darks, queued_length c.args.darks.now, t.ensures.same.darks.room, c.requires.place)

pub returns-clause-swept : goal.returns-clause-swept
returns-clause-swept g c =
    let o : Orderings = orderings_of g.D.Priority.order g.L.Priority.order c.args.p.now in
    let q = c.args.quote.now in
    let t = c.sweep in
    let d = c.args.d.now in
    let run : Run g.row.R.Denot = run_of t.new.g (tables t.new.darks t.new.lits t.new.fills) in
    let was = tables c.args.darks.now c.args.lits.now c.args.fills.now in
    record {
      run = run;
      swept =
          subst (λ (p : Progress g.row.R.Denot). Sweeps o q (run_of p was) was.fills run t.new.fills)
          (c.new-g.ensures ∙ ap (not_begun c.args.trades.now) c.from.ensures) t.ensures.sweeps;
      contents =
          ap (λ (ds : List (DarkOrder g.row.R.Denot)). record { away = q.away; trades = t.new.g.trades; darks = ds; lits = queued t.new.lits })
          (c.join.ensures.list ∙ ap (λ x. queued t.new.darks ++ dark_left x) c.keep.ensures);
      left = refl;
    }
