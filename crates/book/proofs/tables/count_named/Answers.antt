use Rattle.std.proofs.Common.{◌≡◌, ◌+◌, ◌%◌, ◌^◌, cond, fold, ◌∙◌, arith, rules, tests}
use Rattle.std.proofs.lemmas.List.Sums.{count_by-le-length}
use Rattle.book.specs.Grounds.{named}
use Rattle.book.proofs.Tallies.{counted_up}
use Rattle.book.proofs.tables.count_named.Goals as goal

pub returns-clause-count : goal.returns-clause-count
returns-clause-count g c =
    let p = named g.R.Reference.number (λ x. (g.T.HasParty.party x).member) (λ x. (g.T.HasParty.party x).reference) c.args.member c.args.reference.now in
    let xs = c.args.orders.now in
    let folded : c.fold.result ≡ fold (λ n x. cond (p x) ((n + 1) % 2 ^ 64) n) 0 xs = search (rules, tests) in
    folded ∙ counted_up p xs 0 (omega (arith, c.iter.ensures.bound, c.iter.ensures.len))

pub returns-clause-most : goal.returns-clause-most
returns-clause-most g c = rw (returns-clause-count g c) (count_by-le-length _ _)
