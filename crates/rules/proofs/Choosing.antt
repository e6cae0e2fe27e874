-- The choice of two tables is the best of both, and the only one.
use Rattle.std.proofs.Common.{◌≡◌, ℕ, Bool, true, false, cond, List, refl, ◌∙◌, ap₂}
use Rattle.std.specs.List.{AllByRecursion}
use Rattle.std.proofs.ByRecursion.{All-weaker}
use Rattle.std.proofs.lemmas.Bool.{or_parts}
use Rattle.market.specs.declared.orders.DarkOrder.{DarkOrder}
use Rattle.market.specs.declared.orders.LitOrder.{LitOrder}
use Rattle.market.specs.declared.quotes.Quote.{Quote}
use Rattle.market.specs.Prices.{better}
use Rattle.matching.specs.Choice.{Pick, nobody, found, Best, Picks}
use Rattle.matching.specs.Sweep.{Orderings, Run, Chosen, no_one, dark, lit, better_of, price_under, best_lit, best_dark, choice}
use Rattle.rules.specs.Choices.{LawfulOrderings, dark_able, lit_able, dark_beats, lit_beats, DarkIsBest, LitIsBest, IsBest, ChoosesBest, ChoiceIsBest}
use Rattle.rules.proofs.Prices.{no_better_through, better_than_no_better}
use Rattle.rules.proofs.Best.{all_mid, none_able, lawful_picks, lawful_picked, lawful_unbeaten}

module _ {R : Type 0} (o : Orderings) (lawful : LawfulOrderings o) (q : Quote) (r : Run R) where
  abbrev price_better : ℕ → ℕ → Bool
  price_better = better r.progress.active.side

  dark_picks : Picks (dark_able q r) (dark_beats o q r) r.darks (best_dark o q r.progress r.lits r.darks)
  dark_picks = lawful_picks (dark_able q r) o.dark lawful.dark r.progress.active _ r.progress.dark _ _ r.darks

  dark_picked : (before : List (DarkOrder R)) (d : DarkOrder R) (after : List (DarkOrder R)) → Best (dark_able q r) (dark_beats o q r) r.darks before d after →
      best_dark o q r.progress r.lits r.darks ≡ found before d after
  dark_picked = lawful_picked (dark_able q r) o.dark lawful.dark r.progress.active _ r.progress.dark _ _ r.darks

  dark_unbeaten : (before : List (DarkOrder R)) (d : DarkOrder R) (after : List (DarkOrder R)) → Best (dark_able q r) (dark_beats o q r) r.darks before d after →
      AllByRecursion (λ x. dark_able q r x ≡ true → dark_beats o q r x d ≡ false) r.darks
  dark_unbeaten = lawful_unbeaten (dark_able q r) o.dark lawful.dark r.progress.active _ r.progress.dark _ _ r.darks

  lit_picks : Picks (lit_able q r) (lit_beats o q r) r.lits (best_lit o q r.progress r.lits)
  lit_picks = lawful_picks (lit_able q r) o.lit lawful.lit r.progress.active _ r.progress.lit _ _ r.lits

  lit_picked : (before : List (LitOrder R)) (l : LitOrder R) (after : List (LitOrder R)) → Best (lit_able q r) (lit_beats o q r) r.lits before l after →
      best_lit o q r.progress r.lits ≡ found before l after
  lit_picked = lawful_picked (lit_able q r) o.lit lawful.lit r.progress.active _ r.progress.lit _ _ r.lits

  lit_unbeaten : (before : List (LitOrder R)) (l : LitOrder R) (after : List (LitOrder R)) → Best (lit_able q r) (lit_beats o q r) r.lits before l after →
      AllByRecursion (λ x. lit_able q r x ≡ true → lit_beats o q r x l ≡ false) r.lits
  lit_unbeaten = lawful_unbeaten (lit_able q r) o.lit lawful.lit r.progress.active _ r.progress.lit _ _ r.lits

  module _ (lb : List (LitOrder R)) (l : LitOrder R) (la : List (LitOrder R)) (db : List (DarkOrder R)) (d : DarkOrder R) (da : List (DarkOrder R))
      (hl : Best (lit_able q r) (lit_beats o q r) r.lits lb l la) (hd : Best (dark_able q r) (dark_beats o q r) r.darks db d da) where
    by_price : (t : Bool) → price_better (price_under q d) l.price ≡ t → IsBest o q r (cond t (dark db d da) (lit lb l la))
    by_price true e =
        record {
          best = hd;
          unbeaten = dark_unbeaten db d da hd;
          price =
              All-weaker _ _ (λ x b t. better_than_no_better r.progress.active.side (price_under q d) l.price x.price e (or_parts _ _ (b t)).0) r.lits
              (lit_unbeaten lb l la hl);
        }
    by_price false e =
        record {
          best = hl;
          unbeaten = lit_unbeaten lb l la hl;
          price =
              All-weaker _ _ (λ x b t. no_better_through r.progress.active.side (price_under q x) (price_under q d) l.price (or_parts _ _ (b t)).0 e) r.darks
              (dark_unbeaten db d da hd);
        }

  of_both : (pl : Pick (LitOrder R)) (pd : Pick (DarkOrder R)) → Picks (lit_able q r) (lit_beats o q r) r.lits pl → Picks (dark_able q r) (dark_beats o q r) r.darks pd →
      IsBest o q r (better_of q r.progress.active.side pl pd)
  of_both nobody nobody hl hd = record { no_dark = hd; no_lit = hl }
  of_both nobody (found b d a) hl hd =
      record { best = hd; unbeaten = dark_unbeaten b d a hd; price = All-weaker _ _ (λ l n t. cc) r.lits hl }
  of_both (found b l a) nobody hl hd =
      record { best = hl; unbeaten = lit_unbeaten b l a hl; price = All-weaker _ _ (λ l n t. cc) r.darks hd }
  of_both (found lb l la) (found db d da) hl hd = by_price lb l la db d da hl hd (price_better (price_under q d) l.price) refl

  right_choice : IsBest o q r (choice o q r)
  unfolding choice
  right_choice =
      of_both (best_lit o q r.progress r.lits) (best_dark o q r.progress r.lits r.darks) lit_picks dark_picks

  dark_before : (b : List (DarkOrder R)) (d : DarkOrder R) (a : List (DarkOrder R)) → DarkIsBest o q r b d a → (pl : Pick (LitOrder R)) →
      Picks (lit_able q r) (lit_beats o q r) r.lits pl → better_of q r.progress.active.side pl (found b d a) ≡ dark b d a
  dark_before b d a h nobody s = refl
  dark_before b d a h (found x l y) s =
      let e : price_better (price_under q d) l.price ≡ true = all_mid _ x l y (rw s.split at h.price) s.fit in
      rw e

  lit_before : (b : List (LitOrder R)) (l : LitOrder R) (a : List (LitOrder R)) → LitIsBest o q r b l a → (pd : Pick (DarkOrder R)) →
      Picks (dark_able q r) (dark_beats o q r) r.darks pd → better_of q r.progress.active.side (found b l a) pd ≡ lit b l a
  lit_before b l a h nobody s = refl
  lit_before b l a h (found x d y) s =
      let e : price_better (price_under q d) l.price ≡ false = all_mid _ x d y (rw s.split at h.price) s.fit in
      rw e

  only_choice : (c : Chosen R) → IsBest o q r c → choice o q r ≡ c
  unfolding choice
  only_choice no_one h =
      ap₂ (better_of q r.progress.active.side) (none_able (lit_able q r) (lit_beats o q r) r.lits h.no_lit)
      (none_able (dark_able q r) (dark_beats o q r) r.darks h.no_dark)
  only_choice (dark b d a) h =
      ap₂ (better_of q r.progress.active.side) refl (dark_picked b d a h.best)
      ∙ dark_before b d a h (best_lit o q r.progress r.lits) lit_picks
  only_choice (lit b l a) h =
      ap₂ (better_of q r.progress.active.side) (lit_picked b l a h.best) refl
      ∙ lit_before b l a h (best_dark o q r.progress r.lits r.darks) dark_picks

  pub chooses_best : ChoosesBest o q r
  chooses_best = record { right = right_choice; only = only_choice }

pub choice_is_best : ChoiceIsBest
choice_is_best o lawful q r = chooses_best o lawful q r
