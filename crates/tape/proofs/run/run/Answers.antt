use Rattle.std.proofs.Common.{◌≡◌, Ok, Result, sym, ap, ◌∙◌}
use Rattle.std.specs.Result.{result_unwrap_or}
use Rattle.book.specs.Steps.{Called, state_in}
use Rattle.rules.specs.Cases.{facility, memory, book_of}
use Rattle.rules.specs.Examples.{worked}
use Rattle.tape.proofs.Outcomes.{set_up, answered, came_out}
use Rattle.tape.proofs.Turns.{as_called, kept, not_refused}
use Rattle.tape.proofs.run.run.Goals.{After-apply}
use Rattle.tape.proofs.run.run.Goals as goal

same_counts : {X F : Type 0} (x y : X) → ◌≡◌ {A = Result X F} (Ok x) (Ok y) → x ≡ y
same_counts x y e = ap (λ r. result_unwrap_or r x) e

pub returns-in_err-bring_about-clause-trades : goal.returns-in_err-bring_about-clause-trades
returns-in_err-bring_about-clause-trades c =
    let e = c.args.example in
    let m = c.args.memory.now in
    let w = set_up c.new_book-book.result m.dark.now m.lit.now c.new_book-book.ensures e c.setup-calls.result.now c.setup-calls.ensures in
    absurd (c.in_err-bring_about.ensures.brought (book_of (worked e)) w).0

-- the book that the setup brought about
the_book : (c : After-apply) → state_in c.bring_about.new.book c.bring_about.new.memory ≡ book_of (worked c.args.example)
the_book c =
    let e = c.args.example in
    let m = c.args.memory.now in
    let w = set_up c.new_book-book.result m.dark.now m.lit.now c.new_book-book.ensures e c.setup-calls.result.now c.setup-calls.ensures in
    (c.in_ok-bring_about.ensures.brought (book_of (worked e)) w).1

-- the call that trades, as one of the facility
the_call : (c : After-apply) → Called facility (state_in c.bring_about.new.book c.bring_about.new.memory) memory c.last.result c.bring_about.new.memory.fills.now
    c.apply.result (state_in c.apply.new.self c.apply.new.memory) c.apply.new.memory.fills.now
the_call c = as_called c.last.result c.bring_about.ensures.lot c.bring_about.ensures.memory c.apply.ensures

pub returns-in_err-trades-clause-trades : goal.returns-in_err-trades-clause-trades
returns-in_err-trades-clause-trades c =
    let k = (goal.at.returns-in_err-trades-clause-trades c).After-apply in
    let a = answered c.args.example _ _ _ _ _ _ (the_book k) c.last.ensures (the_call k) in
    absurd (not_refused (sym (kept _ c.apply.result c.map_err.result _ c.map_err.ensures.cases a) ∙ c.in_err-trades.was))

pub returns-clause-trades : goal.returns-clause-trades
returns-clause-trades c =
    let k = (goal.at.returns-clause-trades c).After-apply in
    let a = answered c.args.example _ _ _ _ _ _ (the_book k) c.last.ensures (the_call k) in
    came_out c.args.example _ _ _ _ _ _ (the_book k) c.last.ensures (the_call k) _ _ _
    (sym a ∙ ap Ok (same_counts _ _ (sym (kept _ c.apply.result c.map_err.result _ c.map_err.ensures.cases a) ∙ c.in_ok-trades.was)))
