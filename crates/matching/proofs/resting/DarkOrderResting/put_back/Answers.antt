use Rattle.std.proofs.Common.{◌+◌, ◌<◌, eqb, [], ◌∷◌, ◌++◌, length, take, drop, sym, ap, ◌∙◌, arith}
use Rattle.std.proofs.lemmas.Bool.{cond-false, ne_eqb}
use Rattle.queue.specs.Queues.{queued, to_end}
use Rattle.queue.proofs.Appends.{queued_length}
use Rattle.queue.proofs.Shifts.{replaced_to_end}
use Rattle.matching.proofs.resting.DarkOrderResting.put_back.Goals as goal

pub returns-then-self-gt0-clause-list : goal.returns-then-self-gt0-clause-list
returns-then-self-gt0-clause-list g c =
    let q = queued c.args.queue.now in
    let at = c.args.at in
    let d = c.args.self in
    let lt : at < length q = omega (arith, c.requires, queued_length c.args.queue.now) in
    c.move_to_end.ensures.list
    ∙ ap (to_end at) c.replace.ensures.list
    ∙ replaced_to_end q at d lt
    ∙ ap (λ ys. take at q ++ (drop (at + 1) q ++ ys)) (sym (cond-false (eqb d.remaining 0) [] (d ∷ []) (ne_eqb d.remaining 0 (λ e. omega arith))))
