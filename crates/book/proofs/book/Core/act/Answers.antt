use Rattle.std.proofs.Common.{[]}
use Rattle.queue.proofs.Appends.{appended_none}
use Rattle.book.specs.Steps.{quotes, posts, starts}
use Rattle.book.proofs.book.Core.act.Goals as goal

pub returns-in-Quote-clause-acted : goal.returns-in-Quote-clause-acted
returns-in-Quote-clause-acted g c = record { fills = []; made = appended_none _; acts = rw c.in-Quote.is quotes }

pub returns-in-Lit-clause-acted : goal.returns-in-Lit-clause-acted
returns-in-Lit-clause-acted g c = record { fills = []; made = appended_none _; acts = rw (c.in-Lit.is, c.append.ensures.appended.list) posts }

pub returns-in-Start-clause-acted : goal.returns-in-Start-clause-acted
returns-in-Start-clause-acted g c = record { fills = []; made = appended_none _; acts = rw c.in-Start.is starts }
