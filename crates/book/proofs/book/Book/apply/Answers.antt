use Rattle.std.proofs.Common.{refl, ◌∙◌}
use Rattle.std.proofs.lemmas.Result.{err_from_is_err_and}
use Rattle.book.specs.Steps.{facility_at, state_in, lengths_of}
use Rattle.book.proofs.Finish.{called_refused, called_accepted}
use Rattle.book.proofs.Passed.{passed}
use Rattle.book.proofs.book.Book.apply.Goals as goal

pub returns-in_err-request : goal.returns-in_err-request
returns-in_err-request g c =
    let b = c.args.self.now in
    let m = c.args.memory.now in
    let p = err_from_is_err_and c.from_residual.result c.from_residual.ensures.1 in
    rw (p.1, p.2)
    (record {
      called =
          called_refused (facility_at g.R.Reference.number g.D.Priority.order g.L.Priority.order b) (state_in b m) (lengths_of m) c.args.call.now m.fills.now
          c.in_err-request.field-0.0 c.in_err-request.ensures;
      lot = refl;
      priorities = refl;
      same = record { lengths = refl; dark = refl; lit = refl; fills = refl };
      unchanged = λ _ _. (refl, refl, refl, refl);
    })

pub serve-requires-clause-trades : goal.serve-requires-clause-trades
serve-requires-clause-trades g c =
    let a = c.in_ok-request.ensures in
    (passed g.R.Reference.number c.args.self.now c.args.memory.now c.args.call.now c.in_ok-request.request a.0 a.1).trades

pub serve-requires-clause-memory : goal.serve-requires-clause-memory
serve-requires-clause-memory g c =
    let a = c.in_ok-request.ensures in
    (passed g.R.Reference.number c.args.self.now c.args.memory.now c.args.call.now c.in_ok-request.request a.0 a.1).memory

pub serve-requires-clause-place : goal.serve-requires-clause-place
serve-requires-clause-place g c =
    let a = c.in_ok-request.ensures in
    (passed g.R.Reference.number c.args.self.now c.args.memory.now c.args.call.now c.in_ok-request.request a.0 a.1).place

pub returns : goal.returns
returns g c =
    let b = c.args.self.now in
    let m = c.args.memory.now in
    let a = c.in_ok-request.ensures in
    let t = c.serve in
    record {
      called =
          called_accepted (facility_at g.R.Reference.number g.D.Priority.order g.L.Priority.order b) (state_in b m) (lengths_of m) c.args.call.now m.fills.now
          t.new.memory.fills.now c.in_ok-request.request t.result.0 t.result.1 t.result.2 _ t.new.self.session a.0 a.1
          (t.ensures.session ∙ c.advance.ensures.moved) t.ensures.ran;
      lot = t.ensures.lot;
      priorities = t.ensures.priorities;
      same = t.ensures.same;
      unchanged = λ h e. absurd (cc);
    }
