use Rattle.std.proofs.Common.{arith}
use Rattle.matching.specs.Tables.{tables}
use Rattle.book.proofs.Counts.{acted_spends, acted_numbers, settled_spends}
use Rattle.book.proofs.book.Core.work.Goals as goal

pub settle-requires-clause-room : goal.settle-requires-clause-room
settle-requires-clause-room g c =
    let t = c.act-traded in
    let spent = acted_spends (tables c.args.darks.now c.args.lits.now c.args.fills.now) (tables t.new.darks t.new.lits t.new.fills) t.ensures.acted in
    omega (arith, spent, c.requires.room, t.ensures.same.fills.room)

pub settle-requires-clause-trades : goal.settle-requires-clause-trades
settle-requires-clause-trades g c =
    let t = c.act-traded in
    let was = tables c.args.darks.now c.args.lits.now c.args.fills.now in
    let now = tables t.new.darks t.new.lits t.new.fills in
    omega (arith, acted_spends was now t.ensures.acted, acted_numbers was now t.ensures.acted, c.requires.trades)

pub overflow_cast-result : goal.overflow_cast-result
overflow_cast-result g c =
    let t = c.act-traded in
    let u = c.settle in
    let was = tables c.args.darks.now c.args.lits.now c.args.fills.now in
    let mid = tables t.new.darks t.new.lits t.new.fills in
    let end = tables u.new.darks u.new.lits u.new.fills in
    omega (arith, acted_spends was mid t.ensures.acted, settled_spends mid end u.ensures.settled, c.requires.few, c.len.ensures)
