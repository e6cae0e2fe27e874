use Rattle.std.proofs.Common.{List, Option, sym, subst, subst₂}
use mathlib.Core.Path.{subst₃}
use Rattle.market.specs.declared.orders.DarkOrder.{DarkOrder}
use Rattle.market.specs.declared.orders.LitOrder.{LitOrder}
use Rattle.queue.specs.Queues.{queued}
use Rattle.matching.specs.declared.active.DarkTerms.{DarkTerms}
use Rattle.matching.specs.declared.active.LitTerms.{LitTerms}
use Rattle.matching.specs.declared.active.Met.{Met}
use Rattle.matching.specs.declared.choose.Asker.{Asker}
use Rattle.matching.specs.Choice.{pick, preferred, Splits}
use Rattle.matching.specs.Meets.{may_meet_dark, may_meet_lit, price_of_dark, price_of_lit, view_of_dark, view_of_lit}
use Rattle.matching.specs.Sweep.{Orderings, orderings_of, lit_terms, best_lit, best_dark, choice, price_under, Finds}
use Rattle.matching.proofs.Finding.{finds}
use Rattle.matching.proofs.sweep.next.Goals as goal

pub returns : goal.returns
unfolding choice
returns g c =
    let o : Orderings = orderings_of g.D.Priority.order g.L.Priority.order c.args.p.now in
    let q = c.args.quote.now in
    let s = c.args.g.now in
    let a = s.active in
    let ds = queued c.args.darks.now in
    let ls = queued c.args.lits.now in
    let sl : Splits (λ (x : LitOrder g.row.R.Denot). x.price) ls c.choose-lit.result (best_lit o q s ls) =
    subst₂
    (λ (xs : List (LitOrder g.row.R.Denot)) (k : Asker g.row.R.Denot).
    let t : LitTerms g.row.R.Denot = lit_terms q a in
    Splits (price_of_lit t) xs c.choose-lit.result (pick (may_meet_lit t) (preferred k o.lit (price_of_lit t) (view_of_lit t)) xs))
    c.orders.ensures c.asker.ensures c.choose-lit.ensures in
    let sd : Splits (price_under q) ds c.choose-dark.result (best_dark o q s ls ds) =
    subst₃
    (λ (xs : List (DarkOrder g.row.R.Denot)) (t : DarkTerms g.row.R.Denot) (k : Asker g.row.R.Denot).
    Splits (price_of_dark t) xs c.choose-dark.result (pick (may_meet_dark t) (preferred k o.dark (price_of_dark t) (view_of_dark t)) xs))
    c.orders-2.ensures c.dark_terms-dark_terms.ensures c.asker-2.ensures c.choose-dark.ensures in
    subst (λ (n : Option Met). Finds q ds ls n (choice o q (record { progress = s; darks = ds; lits = ls }))) (sym c.nearer.ensures)
    (finds q a.side ds ls c.choose-lit.result c.choose-dark.result (best_lit o q s ls) (best_dark o q s ls ds) sl sd)
