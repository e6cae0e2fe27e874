use Rattle.std.proofs.Common.{◌+◌}
use Rattle.matching.specs.Tables.{tables}
use Rattle.matching.specs.Sweep.{orderings_of}
use Rattle.matching.proofs.Settling.{Rounds}
use Rattle.matching.proofs.settle.settle.Given as goal

abbrev pub invariant-loop-at : goal.invariant-loop-at
invariant-loop-at g l = Rounds (orderings_of g.D.Priority.order g.L.Priority.order l.p) l.away l.initial.trades (tables l.initial.darks l.initial.lits l.initial.fills) l.trades (tables l.darks l.lits l.fills)

abbrev pub decreases-loop-at : goal.decreases-loop-at
decreases-loop-at g l = l.darks.len + l.lits.len
