use Rattle.std.proofs.Common.{◌≡◌, ap, arith}
use Rattle.matching.specs.Tables.{tables}
use Rattle.matching.specs.Settle.{quote_in}
use Rattle.matching.proofs.Counts.{swept_less}
use Rattle.book.specs.Steps.{contents_in, seeks}
use Rattle.book.proofs.book.Core.seek.Goals as goal

pub overflow_sub-result : goal.overflow_sub-result
overflow_sub-result g c =
    omega (arith, swept_less c.sweep.ensures.sweeps.swept, ap (λ p. p.active.remaining) c.new-g.ensures, ap (λ a. a.remaining) c.activate.ensures)

pub returns-clause-acted : goal.returns-clause-acted
returns-clause-acted g c =
    let is : c.of-quote.result ≡ quote_in (contents_in c.args.self.now (tables c.args.darks.now c.args.lits.now c.args.fills.now)) = cc in
    let w = rw (c.new-g.ensures, c.activate.ensures, is) at c.sweep.ensures.sweeps in
    λ s. record { fills = w.fills; made = w.made; acts = seeks w.swept }
