-- What a sweep spends: each fill ends an order, so fills are no more than the orders at hand.
use Rattle.std.proofs.Common.{◌≡◌, ℕ, ◌+◌, ◌-◌, ◌<◌, ◌≤◌, min, Bool, true, cond, ◌&&◌, eqb, ltb, List, [], ◌∷◌, ◌++◌, length, ap, ◌∙◌, arith}
use Rattle.std.proofs.lemmas.List.{length-append}
use Rattle.std.proofs.lemmas.Bool.Decides.{nat_tests}
use Rattle.std.proofs.lemmas.Bool.{and_parts, ltb-true}
use Rattle.market.specs.declared.codes.Side.{Side}
use Rattle.market.specs.declared.orders.DarkOrder.{DarkOrder}
use Rattle.market.specs.declared.orders.LitOrder.{LitOrder}
use Rattle.market.specs.declared.orders.Fill.{Fill}
use Rattle.market.specs.declared.quotes.Away.{Away}
use Rattle.market.specs.declared.quotes.Quote.{Quote}
use Rattle.matching.specs.Choice.{Pick, nobody, found}
use Rattle.matching.specs.Meets.{may_meet_dark, may_meet_lit}
use Rattle.matching.specs.Sweep.{Orderings, Run, no_one, dark, lit, better_of, best_lit, best_dark, choice, dark_terms, lit_terms, dark_after, lit_after, dark_left, lit_left, dark_back, lit_back, after_dark, after_lit, Swept, ends, meets_dark, meets_lit}
use Rattle.matching.specs.Settle.{Contents, active_dark, start_of, dark_kept, after_sweep}
use Rattle.matching.proofs.Picks.{picked_able}

-- a chosen order is one of the two picked
module _ {R : Type 0} (q : Quote) (s : Side) where
  pub of_dark : (pl : Pick (LitOrder R)) (pd : Pick (DarkOrder R)) (b : List (DarkOrder R)) (d : DarkOrder R) (a : List (DarkOrder R)) →
      better_of q s pl pd ≡ dark b d a → pd ≡ found b d a
  of_dark pl pd b d a e = grind arith

  pub of_lit : (pl : Pick (LitOrder R)) (pd : Pick (DarkOrder R)) (b : List (LitOrder R)) (l : LitOrder R) (a : List (LitOrder R)) →
      better_of q s pl pd ≡ lit b l a → pl ≡ found b l a
  of_lit pl pd b l a e = grind arith

  -- where no one is chosen, no Dark order is picked
  pub no_dark_left : (pl : Pick (LitOrder R)) (pd : Pick (DarkOrder R)) → better_of q s pl pd ≡ no_one → pd ≡ nobody
  no_dark_left pl pd e = grind arith

module _ {R : Type 0} (o : Orderings) (q : Quote) (r : Run R) where
  pub chosen_dark : (b : List (DarkOrder R)) (d : DarkOrder R) (a : List (DarkOrder R)) → choice o q r ≡ dark b d a →
      (may_meet_dark (dark_terms q r.progress.active r.lits) d ≡ true) × (r.darks ≡ b ++ d ∷ a)
  unfolding choice
  chosen_dark b d a e =
      picked_able (may_meet_dark (dark_terms q r.progress.active r.lits)) _ r.darks b d a
      (of_dark q r.progress.active.side (best_lit o q r.progress r.lits) (best_dark o q r.progress r.lits r.darks) b d a e)

  pub chosen_lit : (b : List (LitOrder R)) (l : LitOrder R) (a : List (LitOrder R)) → choice o q r ≡ lit b l a →
      (may_meet_lit (lit_terms q r.progress.active) l ≡ true) × (r.lits ≡ b ++ l ∷ a)
  unfolding choice
  chosen_lit b l a e =
      picked_able (may_meet_lit (lit_terms q r.progress.active)) _ r.lits b l a
      (of_lit q r.progress.active.side (best_lit o q r.progress r.lits) (best_dark o q r.progress r.lits r.darks) b l a e)

-- the orders at hand, an active order that is not spent among them
abbrev pub at_hand : {R : Type 0} → Run R → ℕ
at_hand r = length r.darks + length r.lits + min 1 r.progress.active.remaining

-- the orders that rest
abbrev pub resting : {R : Type 0} → Contents R → ℕ
resting c = length c.darks + length c.lits

left_length : {X : Type 0} (n : ℕ) (x : X) → length (cond (eqb n 0) [] (x ∷ [])) ≡ min 1 n
left_length n x = grind (arith, nat_tests)

-- of two orders that trade, one is spent
one_spent : (x y : ℕ) → 0 < x → min 1 (y - min x y) + min 1 (x - min x y) ≤ 1
one_spent x y h = omega arith

active_first : (x : ℕ) (t : Bool) → (ltb 0 x && t) ≡ true → 0 < x
active_first x t e = ltb-true 0 x (and_parts (ltb 0 x) t e).0

-- how many rest with what is left of an order among them
dark_back_length : {R : Type 0} (b : List (DarkOrder R)) (d : DarkOrder R) (a : List (DarkOrder R)) → length (dark_back b d a) ≡ length b + length a + min 1 d.remaining
dark_back_length b d a = omega (arith, left_length d.remaining d, length-append b (a ++ dark_left d), length-append a (dark_left d))

lit_back_length : {R : Type 0} (b : List (LitOrder R)) (l : LitOrder R) (a : List (LitOrder R)) → length (lit_back b l a) ≡ length b + length a + min 1 l.remaining
lit_back_length b l a = omega (arith, left_length l.remaining l, length-append b (lit_left l ++ a), length-append (lit_left l) a)

-- a trade between x shares and m spends an order: the one that rested, or the active one
trade_spends : {X : Type 0} (x m : ℕ) (b : List X) (y : X) (a xs ys : List X) → 0 < x → xs ≡ b ++ y ∷ a → length ys ≡ length b + length a + min 1 (m - min x m) →
    length ys + min 1 (x - min x m) < length xs + min 1 x
trade_spends x m b y a xs ys pos e n = omega (arith, ap length e, length-append b (y ∷ a), one_spent x m pos)

module _ {R : Type 0} (o : Orderings) (q : Quote) (r : Run R) where
  pub dark_ends_one : (b : List (DarkOrder R)) (d : DarkOrder R) (a : List (DarkOrder R)) → choice o q r ≡ dark b d a → at_hand (after_dark q r b d a) < at_hand r
  dark_ends_one b d a e =
      let c = chosen_dark o q r b d a e in
      let x = r.progress.active.remaining in
      let left = dark_after (min x d.remaining) d in
      let k = trade_spends x d.remaining b d a r.darks (dark_back b left a) (active_first x _ c.0) c.1 (dark_back_length b left a) in
      omega arith

  pub lit_ends_one : (b : List (LitOrder R)) (l : LitOrder R) (a : List (LitOrder R)) → choice o q r ≡ lit b l a → at_hand (after_lit r b l a) < at_hand r
  lit_ends_one b l a e =
      let c = chosen_lit o q r b l a e in
      let x = r.progress.active.remaining in
      let left = lit_after (min x l.remaining) l in
      let k = trade_spends x l.remaining b l a r.lits (lit_back b left a) (active_first x _ c.0) c.1 (lit_back_length b left a) in
      omega arith

module _ {R : Type 0} {o : Orderings} {q : Quote} where
  pub swept_trades : {r s : Run R} {fs : List (Fill R)} → Swept o q r fs s → s.progress.trades ≡ r.progress.trades + length fs
  swept_trades (ends e) = omega arith
  swept_trades (meets_dark b d a e w) = let i = swept_trades w in omega arith
  swept_trades (meets_lit b l a e w) = let i = swept_trades w in omega arith

  pub swept_less : {r s : Run R} {fs : List (Fill R)} → Swept o q r fs s → s.progress.active.remaining ≤ r.progress.active.remaining
  swept_less (ends e) = omega arith
  swept_less (meets_dark b d a e w) = let i = swept_less w in omega arith
  swept_less (meets_lit b l a e w) = let i = swept_less w in omega arith

  pub swept_count : {r s : Run R} {fs : List (Fill R)} → Swept o q r fs s → length fs + at_hand s ≤ at_hand r
  swept_count (ends e) = omega arith
  swept_count (meets_dark {r} b d a e w) = let k = dark_ends_one o q r b d a e in let i = swept_count w in omega arith
  swept_count (meets_lit {r} b l a e w) = let k = lit_ends_one o q r b l a e in let i = swept_count w in omega arith

  pub swept_shorter : {r s : Run R} {fs : List (Fill R)} → Swept o q r fs s → length s.darks ≤ length r.darks
  swept_shorter (ends e) = omega arith
  swept_shorter (meets_dark {r} b d a e w) =
      let u = ap length (chosen_dark o q r b d a e).1 ∙ length-append b (d ∷ a) in
      let v = dark_back_length b (dark_after (min r.progress.active.remaining d.remaining) d) a in
      let i = swept_shorter w in
      omega arith
  swept_shorter (meets_lit b l a e w) = swept_shorter w

  -- the fills of a Dark order's sweep, and what then rests, are no more than the orders that rested and that one
  pub dark_sweep_count : {n : ℕ} {d : DarkOrder R} {ds : List (DarkOrder R)} {ls : List (LitOrder R)} {s : Run R} {fs : List (Fill R)} (w : Away) →
      Swept o q (start_of n (active_dark d) ds ls) fs s → length fs + resting (after_sweep w d s) ≤ length ds + length ls + 1
  dark_sweep_count {d} {s} away w =
      let a = s.progress.active in
      omega (arith, swept_count w, length-append s.darks (dark_left (dark_kept d a)), left_length a.remaining (dark_kept d a))
