use Rattle.queue.proofs.Shifts.{written}
use Rattle.queue.proofs.queue.Queue.replace.Goals as goal

pub returns-clause-list : goal.returns-clause-list
returns-clause-list g c = written _ _ _ _ c.requires c.args.self.now.fits
