use Rattle.std.proofs.Common.{length, take, refl, ap, ◌∙◌, ap₂, arith, rules}
use Rattle.matching.specs.Tables.{tables}
use Rattle.market.specs.Lots.{valid_lot}
use Rattle.book.specs.Steps.{facility_at, lengths_of}
use Rattle.book.proofs.Finish.{ran, same_lengths}
use Rattle.book.proofs.Passed.{long_enough}
use Rattle.book.proofs.book.Book.serve.Goals as goal

pub new-darks-requires : goal.new-darks-requires
new-darks-requires g c = let good = long_enough (lengths_of c.args.memory.now) c.requires.memory in omega (arith, c.args.self.now.few, good.darks)

pub new-lits-requires : goal.new-lits-requires
new-lits-requires g c = let good = long_enough (lengths_of c.args.memory.now) c.requires.memory in omega (arith, c.args.self.now.fewer, good.lits)

pub work-counts-requires-clause-place : goal.work-counts-requires-clause-place
work-counts-requires-clause-place g c =
    let good = long_enough (lengths_of c.args.memory.now) c.requires.memory in
    rw (c.new-darks.ensures.len, ap length c.new-darks.ensures.places ∙ good.darks, c.new-lits.ensures.len, ap length c.new-lits.ensures.places ∙ good.lits) c.requires.place

pub work-counts-requires-clause-room : goal.work-counts-requires-clause-room
work-counts-requires-clause-room g c =
    let b = c.args.self.now in
    let good = long_enough (lengths_of c.args.memory.now) c.requires.memory in
    omega (arith, b.few, b.fewer, c.new-darks.ensures.len, c.new-lits.ensures.len, c.new-fills.ensures.len, ap length c.new-fills.ensures.places, good.fills)

pub invariant_of-self : goal.invariant_of-self
invariant_of-self g c =
    let good = long_enough (lengths_of c.args.memory.now) c.requires.memory in
    let t = c.work-counts in
    record {
      lots = ap valid_lot t.ensures.lot ∙ c.args.self.now.lots;
      few = omega (arith, c.len-self.ensures, t.new.darks.fits, t.ensures.same.darks.room, ap length c.new-darks.ensures.places, good.darks);
      fewer = omega (arith, c.len-self-2.ensures, t.new.lits.fits, t.ensures.same.lits.room, ap length c.new-lits.ensures.places, good.lits);
    }

pub returns-clause-ran : goal.returns-clause-ran
returns-clause-ran g c =
    let b = c.args.self.now in
    let t = c.work-counts in
    ran (facility_at g.R.Reference.number g.D.Priority.order g.L.Priority.order b) b.session c.args.after c.args.request.now b.core.away b.core.trades
    t.result.1 t.result.2 c.args.memory.now.fills.now _ _ (tables c.new-darks.result c.new-lits.result c.new-fills.result) (tables t.new.darks t.new.lits t.new.fills)
    t.new.self.away t.new.self.trades t.ensures.worked c.new-fills.ensures.places c.new-fills.ensures.len
    (ap₂ take c.new-darks.ensures.len c.new-darks.ensures.places) (ap₂ take c.new-lits.ensures.len c.new-lits.ensures.places)
    t.result.0 _ _ _ _ _ t.ensures.made c.len-self.ensures c.len-self-2.ensures (search rules) (search rules) (search rules)

pub returns-clause-same : goal.returns-clause-same
returns-clause-same g c =
    let t = c.work-counts in
    let s = t.ensures.same in
    record {
      lengths =
          same_lengths (tables t.new.darks t.new.lits t.new.fills) (lengths_of c.args.memory.now) (search rules) (search rules) (search rules)
          (s.darks.room ∙ ap length c.new-darks.ensures.places) (s.lits.room ∙ ap length c.new-lits.ensures.places)
          (s.fills.room ∙ ap length c.new-fills.ensures.places);
      dark = refl;
      lit = refl;
      fills = refl;
    }
