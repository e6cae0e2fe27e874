use Rattle.std.proofs.Common.{[], sym}
use Rattle.queue.proofs.Appends.{appended_none}
use Rattle.book.specs.Steps.{rests, runs}
use Rattle.book.proofs.book.Core.settle.Goals as goal

pub returns-then-is_continuous-clause-settled : goal.returns-then-is_continuous-clause-settled
returns-then-is_continuous-clause-settled g c =
    let s = c.settle.ensures.settled in
    record { fills = s.fills; made = s.made; settling = runs (sym c.if-is_continuous.ensures) s.settles }

pub returns-else-is_continuous-clause-settled : goal.returns-else-is_continuous-clause-settled
returns-else-is_continuous-clause-settled g c = record { fills = []; made = appended_none _; settling = rests (sym c.if-is_continuous.ensures) }
