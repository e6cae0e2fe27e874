-- A sweep that remembers one level in each table is the sweep that notes every choice.
use Rattle.std.proofs.Common.{◌≡◌, ℕ, ◌-◌, Bool, true, false, cond, eqb, List, [], ◌∷◌, ◌++◌, Option, sym, refl, ◌∙◌, ap₂}
use Rattle.std.specs.List.{AllByRecursion}
use Rattle.std.proofs.ByRecursion.{All-append, All-weaker}
use Rattle.market.specs.declared.codes.Kind.{Kind}
use Rattle.market.specs.declared.codes.Kind.TheVariants.{SdlLit}
use Rattle.market.specs.declared.orders.DarkOrder.{DarkOrder}
use Rattle.market.specs.declared.orders.LitOrder.{LitOrder}
use Rattle.market.specs.declared.orders.Fill.{Fill}
use Rattle.market.specs.declared.quotes.Quote.{Quote}
use Rattle.market.specs.Prices.{better}
use Rattle.priority.specs.declared.standing.RestingView.{RestingView}
use Rattle.matching.specs.declared.active.Active.{Active}
use Rattle.matching.specs.declared.active.LastLevel.{LastLevel}
use Rattle.matching.specs.Choice.{Ordering, need_at, beats}
use Rattle.matching.specs.Meets.{price_of_dark, price_of_lit, view_of_dark, view_of_lit}
use Rattle.matching.specs.Sweep.{Orderings, Run, dark, lit, better_of, best_lit, best_dark, dark_terms, lit_terms, dark_kind, price_under, choice, shares_with, dark_after, lit_after, lit_left, after_dark, after_lit, Swept, ends, meets_dark, meets_lit}
use Rattle.matching.specs.Settle.{start_of}
use Rattle.matching.proofs.Counts.{of_dark, of_lit, chosen_dark, chosen_lit}
use Rattle.rules.specs.Choices.{dark_able, lit_able, dark_beats, lit_beats}
use Rattle.rules.specs.Needs.{Note, Notes, no_notes, first_need, beats_by, dark_beats_by, lit_beats_by, choice_by, noted_dark, noted_lit, SweptNoting, SameSweep, NeedIsFirst}
use Rattle.rules.specs.Needs as needs
use Rattle.rules.proofs.Best.{all_mid}
use Rattle.rules.proofs.Levels.{NoBetter, Agree, agree_noted}
use Rattle.rules.proofs.Nearest.{Priced, all_left}
use Rattle.rules.proofs.Picked.{picked_price, same_pick}
use Rattle.rules.proofs.Prices.{no_better_itself}
use Rattle.rules.proofs.Reach.{Clear, past_lits, meets_of, no_better_after_lit, no_better_after_dark, lit_again, still_clear, none_clear}

-- where the two needs are one, so are the two preferences
same_beats : {X R : Type 0} (a : Active R) (kind : Kind) (last : Option LastLevel) (ns : List Note) (order : Ordering) (price : X → ℕ) (view : X → RestingView) (x y : X) →
    need_at last (price x) a.remaining ≡ first_need ns (price x) a.remaining → beats a kind last order price view x y ≡ beats_by a kind ns order price view x y
same_beats a kind last ns order price view x y e = cc

-- what every sweep keeps: the needs agree, and nobody who may be met has a better price than the last level's
record Kept {R : Type 0} (q : Quote) (ns : Notes) (r : Run R) : Type 0 where
  priced : Priced r.lits
  dark_agrees : Agree r.progress.active.side r.progress.dark ns.dark
  lit_agrees : Agree r.progress.active.side r.progress.lit ns.lit
  dark_worse : AllByRecursion (λ d. dark_able q r d ≡ true → NoBetter r.progress.active.side r.progress.dark (price_under q d)) r.darks
  lit_worse : AllByRecursion (λ l. lit_able q r l ≡ true → NoBetter r.progress.active.side r.progress.lit l.price) r.lits
  clear : Clear r.progress.active.form r.progress.active.side r.progress.dark r.lits

same_choice : {R : Type 0} (o : Orderings) (q : Quote) (ns : Notes) (r : Run R) → Kept q ns r → choice o q r ≡ choice_by o q ns r
unfolding choice choice_by
same_choice o q ns r h =
    ap₂ (better_of q r.progress.active.side)
    (same_pick (lit_able q r) (lit_beats o q r) (lit_beats_by o q ns r) r.lits
    (All-weaker _ _
    (λ x w t y.
    same_beats r.progress.active SdlLit r.progress.lit ns.lit o.lit (price_of_lit (lit_terms q r.progress.active))
    (view_of_lit (lit_terms q r.progress.active)) x y (h.lit_agrees x.price r.progress.active.remaining (w t)))
    r.lits h.lit_worse))
    (same_pick (dark_able q r) (dark_beats o q r) (dark_beats_by o q ns r) r.darks
    (All-weaker _ _
    (λ x w t y.
    same_beats r.progress.active (dark_kind r.progress.active.form) r.progress.dark ns.dark o.dark
    (price_of_dark (dark_terms q r.progress.active r.lits)) (view_of_dark (dark_terms q r.progress.active r.lits)) x y
    (h.dark_agrees (price_under q x) r.progress.active.remaining (w t)))
    r.darks h.dark_worse))

-- what holds of each still does where the chosen one trades and goes to the end
all_moved : {X : Type 0} (P : X → Type 0) (before : List X) (c d : X) (after : List X) (t : Bool) → P d → AllByRecursion P (before ++ c ∷ after) → AllByRecursion P (before ++ (after ++ cond t [] (d ∷ [])))
all_moved P [] c d after true k h = All-append P after [] h.1 tt
all_moved P [] c d after false k h = All-append P after (d ∷ []) h.1 (k, tt)
all_moved P (x ∷ xs) c d after t k h = (h.0, all_moved P xs c d after t k h.1)

module _ {R : Type 0} (o : Orderings) (q : Quote) (ns : Notes) (r : Run R) (h : Kept q ns r) where
  dark_kept : (b : List (DarkOrder R)) (d : DarkOrder R) (a : List (DarkOrder R)) → choice o q r ≡ dark b d a → Kept q (noted_dark (price_under q d) r ns) (after_dark q r b d a)
  unfolding choice
  dark_kept b d a e =
      let s = r.progress.active.side in
      let c = chosen_dark o q r b d a e in
      let n = shares_with r.progress d.remaining in
      let pd = of_dark q s (best_lit o q r.progress r.lits) (best_dark o q r.progress r.lits r.darks) b d a e in
      let no_better : AllByRecursion (λ x. dark_able q r x ≡ true → better s (price_under q x) (price_under q d) ≡ false) r.darks =
      picked_price (dark_able q r) r.progress.active (dark_kind r.progress.active.form) r.progress.dark o.dark
      (price_of_dark (dark_terms q r.progress.active r.lits)) (view_of_dark (dark_terms q r.progress.active r.lits)) r.darks b d a pd in
      record {
        priced = h.priced;
        dark_agrees =
            agree_noted s r.progress.dark ns.dark (price_under q d) r.progress.active.remaining h.dark_agrees
            (all_mid (λ x. dark_able q r x ≡ true → NoBetter s r.progress.dark (price_under q x)) b d a (rw c.1 at h.dark_worse) c.0);
        lit_agrees = h.lit_agrees;
        dark_worse =
            all_moved _ b d (dark_after n d) a (eqb (d.remaining - n) 0) (λ _. no_better_itself s (price_under q d))
            (All-weaker _ _ (no_better_after_dark q r.progress.active r.lits n d c.0) (b ++ d ∷ a) (rw c.1 at no_better));
        lit_worse = All-weaker _ _ (λ x w m. w (lit_again q r.progress.active r.lits n x m)) r.lits h.lit_worse;
        clear = past_lits q r.progress.active r.lits r.progress.active.form d (price_under q d) _ (meets_of q r.progress.active r.lits d c.0);
      }

  lit_kept : (b : List (LitOrder R)) (l : LitOrder R) (a : List (LitOrder R)) → choice o q r ≡ lit b l a → Kept q (noted_lit l.price r ns) (after_lit r b l a)
  unfolding choice
  lit_kept b l a e =
      let s = r.progress.active.side in
      let c = chosen_lit o q r b l a e in
      let n = shares_with r.progress l.remaining in
      let left = b ++ (lit_left (lit_after n l) ++ a) in
      let pl = of_lit q s (best_lit o q r.progress r.lits) (best_dark o q r.progress r.lits r.darks) b l a e in
      let no_better : AllByRecursion (λ x. lit_able q r x ≡ true → better s x.price l.price ≡ false) r.lits =
      picked_price (lit_able q r) r.progress.active SdlLit r.progress.lit o.lit (price_of_lit (lit_terms q r.progress.active))
      (view_of_lit (lit_terms q r.progress.active)) r.lits b l a pl in
      let priced_before : Priced (b ++ l ∷ a) = rw c.1 at h.priced in
      record {
        priced = all_left _ b l (lit_after n l) a (eqb (l.remaining - n) 0) (λ k. k) priced_before;
        dark_agrees = h.dark_agrees;
        lit_agrees =
            agree_noted s r.progress.lit ns.lit l.price r.progress.active.remaining h.lit_agrees
            (all_mid (λ x. lit_able q r x ≡ true → NoBetter s r.progress.lit x.price) b l a (rw c.1 at h.lit_worse) c.0);
        dark_worse = All-weaker _ _ (no_better_after_lit q r.progress.active r.lits left n r.progress.dark l h.clear c.0) r.darks h.dark_worse;
        lit_worse =
            all_left _ b l (lit_after n l) a (eqb (l.remaining - n) 0) (λ _ _. no_better_itself s l.price)
            (All-weaker _ _ (λ x w m. w (lit_again q r.progress.active r.lits n x m)) (b ++ l ∷ a) (rw c.1 at no_better));
        clear = still_clear r.progress.active.form s r.progress.dark n l a b priced_before (rw c.1 at h.clear);
      }

all_of : {X : Type 0} (P : X → Type 0) → ((x : X) → P x) → (xs : List X) → AllByRecursion P xs
all_of P f [] = tt
all_of P f (x ∷ xs) = (f x, all_of P f xs)

module _ {R : Type 0} (o : Orderings) (q : Quote) where
  to_noting : {r s : Run R} {fs : List (Fill R)} → Swept o q r fs s → (ns : Notes) → Kept q ns r → SweptNoting o q ns r fs s
  to_noting (ends {r} e) ns h = needs.ends (sym (same_choice o q ns r h) ∙ e)
  to_noting (meets_dark {r} b d a e w) ns h =
      needs.meets_dark b d a (sym (same_choice o q ns r h) ∙ e) (to_noting w (noted_dark (price_under q d) r ns) (dark_kept o q ns r h b d a e))
  to_noting (meets_lit {r} b l a e w) ns h =
      needs.meets_lit b l a (sym (same_choice o q ns r h) ∙ e) (to_noting w (noted_lit l.price r ns) (lit_kept o q ns r h b l a e))

  from_noting : {ns : Notes} {r s : Run R} {fs : List (Fill R)} → SweptNoting o q ns r fs s → Kept q ns r → Swept o q r fs s
  from_noting (needs.ends {ns} {r} e) h = ends (same_choice o q ns r h ∙ e)
  from_noting (needs.meets_dark {ns} {r} b d a e w) h =
      let c = same_choice o q ns r h ∙ e in
      meets_dark b d a c (from_noting w (dark_kept o q ns r h b d a c))
  from_noting (needs.meets_lit {ns} {r} b l a e w) h =
      let c = same_choice o q ns r h ∙ e in
      meets_lit b l a c (from_noting w (lit_kept o q ns r h b l a c))

  kept_at_start : (trades : ℕ) (a : Active R) (ds : List (DarkOrder R)) (ls : List (LitOrder R)) → Priced ls → Kept q no_notes (start_of trades a ds ls)
  kept_at_start trades a ds ls p =
      record {
        priced = p;
        dark_agrees = λ x now k. refl;
        lit_agrees = λ x now k. refl;
        dark_worse = all_of _ (λ x k. tt) ds;
        lit_worse = all_of _ (λ x k. tt) ls;
        clear = none_clear a.form a.side ls;
      }

  pub same_sweep : (trades : ℕ) (a : Active R) (ds : List (DarkOrder R)) (ls : List (LitOrder R)) → Priced ls → (fs : List (Fill R)) (s : Run R) →
      SameSweep o q (start_of trades a ds ls) fs s
  same_sweep trades a ds ls p fs s =
      let k = kept_at_start trades a ds ls p in
      record { noting = λ w. to_noting w no_notes k; remembering = λ w. from_noting w k }

pub need_is_first : NeedIsFirst
need_is_first o q trades a ds ls p fs s = same_sweep o q trades a ds ls p fs s
