use Rattle.std.proofs.Common.{◌-◌, take, ap, ◌∙◌}
use Rattle.queue.proofs.Shifts.{closed_up}
use Rattle.queue.proofs.queue.Queue.remove.Goals as goal

pub returns-clause-list : goal.returns-clause-list
returns-clause-list g c =
    let q = c.args.self.now in
    ap (take (q.len - 1)) c.copy_within.ensures.after ∙ closed_up q.len q.places.now c.args.i c.requires q.fits
