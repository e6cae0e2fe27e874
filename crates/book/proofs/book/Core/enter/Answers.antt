use Rattle.std.proofs.Common.{◌≡◌, [], sym, arith}
use Rattle.queue.proofs.Appends.{appended_none}
use Rattle.matching.specs.Tables.{tables}
use Rattle.matching.specs.Settle.{quote_in}
use Rattle.matching.proofs.Counts.{swept_less}
use Rattle.book.specs.Steps.{contents_in, joins, enters}
use Rattle.book.proofs.book.Core.enter.Goals as goal

pub returns-then-not-is_continuous-clause-acted : goal.returns-then-not-is_continuous-clause-acted
returns-then-not-is_continuous-clause-acted g c =
    record { fills = []; made = appended_none _; acts = rw c.append.ensures.appended.list (joins (sym c.if-not-is_continuous.ensures)) }

pub overflow_sub-result : goal.overflow_sub-result
overflow_sub-result g c = let w = c.sweep_dark-remaining.ensures.swept in omega (arith, w.left, swept_less w.swept.swept)

pub returns-clause-acted : goal.returns-clause-acted
returns-clause-acted g c =
    let is : c.of-quote.result ≡ quote_in (contents_in c.args.self.now (tables c.args.darks.now c.args.lits.now c.args.fills.now)) = cc in
    let w = rw is at c.sweep_dark-remaining.ensures.swept in
    record { fills = w.swept.fills; made = w.swept.made; acts = rw (w.contents, w.left) (enters (sym c.if-not-is_continuous.ensures) w.swept.swept) }
