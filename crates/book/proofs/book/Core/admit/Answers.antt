use Rattle.std.proofs.Common.{sym, arith}
use Rattle.std.proofs.lemmas.Bool.Decides.{nat_tests}
use Rattle.std.proofs.lemmas.Result.{err_from_is_err_and}
use Rattle.book.specs.Requests.{request_of}
use Rattle.book.specs.Grounds.{ground_under}
use Rattle.book.proofs.Firsts.{open_refuses, listed, unlisted}
use Rattle.book.proofs.book.Core.admit.Goals as goal

pub returns-in_err-request : goal.returns-in_err-request
unfolding ground_under
returns-in_err-request g c =
    let u = unlisted (request_of c.args.call.now) c.in_err-request.ensures in
    let p = err_from_is_err_and c.from_residual-in_err-request.result c.from_residual-in_err-request.ensures.1 in
    grind (arith, nat_tests)

pub returns-in_err-advance : goal.returns-in_err-advance
unfolding ground_under
returns-in_err-advance g c =
    let r = listed (request_of c.args.call.now) _ c.in_ok-request.ensures in
    let e = open_refuses c.args.session c.args.call.now (sym c.if-is_closed.ensures) (sym c.in_err-advance.ensures.answer) in
    let p = err_from_is_err_and c.from_residual-in_err-advance.result c.from_residual-in_err-advance.ensures.1 in
    grind (arith, nat_tests)

pub returns-in_err-check_fields : goal.returns-in_err-check_fields
unfolding ground_under
returns-in_err-check_fields g c =
    let r = listed (request_of c.args.call.now) _ c.in_ok-request.ensures in
    let p = err_from_is_err_and c.from_residual-in_err-check_fields.result c.from_residual-in_err-check_fields.ensures.1 in
    grind (arith, nat_tests)

pub returns : goal.returns
unfolding ground_under
returns g c =
    let r = listed (request_of c.args.call.now) _ c.in_ok-request.ensures in
    (grind (arith, nat_tests), r)
