use Rattle.std.proofs.Common.{◌+◌, min}
use Rattle.matching.specs.Tables.{tables}
use Rattle.matching.specs.Sweep.{orderings_of}
use Rattle.matching.proofs.Going.{Sweeping}
use Rattle.matching.proofs.sweep.sweep.Given as goal

abbrev pub invariant-loop-g : goal.invariant-loop-g
invariant-loop-g g l = Sweeping (orderings_of g.D.Priority.order g.L.Priority.order l.p) l.quote l.initial.g (tables l.initial.darks l.initial.lits l.initial.fills) l.g (tables l.darks l.lits l.fills)

abbrev pub decreases-loop-g : goal.decreases-loop-g
decreases-loop-g g l = l.darks.len + l.lits.len + min 1 l.g.active.remaining
