-- Settling under way: whatever settles from here, settles from the start after what was made; and every round has a fill.
use Rattle.std.proofs.Common.{◌≡◌, ℕ, suc, ◌+◌, ◌<◌, ◌≤◌, Bool, true, false, cond, not, ltb, List, [], ◌∷◌, ◌++◌, length, get_or, take, drop, Some, None, sym, refl, ap, ◌∙◌, subst, subst₂, arith}
use Rattle.std.specs.List.{list_any, position, position_or_len}
use Rattle.std.proofs.lemmas.List.{append-nil, append_assoc, length-append}
use Rattle.std.proofs.lemmas.Bool.{and_right, and_left, ltb-true, ltb-false}
use Rattle.market.specs.declared.codes.Side.{Side}
use Rattle.market.specs.declared.codes.Side.TheVariants.{Buy, Sell}
use Rattle.market.specs.declared.orders.DarkOrder.{DarkOrder}
use Rattle.market.specs.declared.orders.LitOrder.{LitOrder}
use Rattle.market.specs.declared.orders.Fill.{Fill}
use Rattle.market.specs.declared.quotes.Away.{Away}
use Rattle.market.specs.declared.quotes.Quote.{Quote}
use Rattle.market.specs.Codes.{opposed}
use Rattle.market.specs.Quotes.{quote_of}
use Rattle.queue.specs.declared.queue.Queue.{Queue}
use Rattle.queue.specs.Queues.{queued, SamePlaces, Appended, without}
use Rattle.queue.proofs.Appends.{same_then, appended_none, appended_then, appended_length, queued_length}
use Rattle.matching.specs.Tables.{Tables}
use Rattle.matching.specs.Choice.{Pick, nobody, found, join, first}
use Rattle.matching.specs.Meets.{may_meet_dark}
use Rattle.matching.specs.Sweep.{Orderings, Run, no_one, best_lit, best_dark, choice, dark_terms, Swept, ends, meets_dark as with_dark, meets_lit as with_lit}
use Rattle.matching.specs.Settle.{Contents, contents_of, quote_in, active_dark, start_of, Place, can_trade, first_to_trade, Settles, settled, sweeps, SweptDark, Settled}
use Rattle.matching.proofs.Counts.{no_dark_left, resting, swept_trades, dark_sweep_count}
use Rattle.matching.proofs.Picks.{some_split, none_picked, picked_able}

pub record Settling {R : Type 0} (o : Orderings) (c₀ c : Contents R) (was list : Queue (Fill R)) : Type 0 where
  pub made : List (Fill R)
  pub appended : Appended was made list
  pub goes : (fs : List (Fill R)) (e : Contents R) → Settles o c fs e → Settles o c₀ (made ++ fs) e

module _ {R : Type 0} (o : Orderings) where
  pub begins : (c : Contents R) (was : Queue (Fill R)) → Settling o c c was was
  begins c was = record { made = []; appended = appended_none was; goes = λ fs t w. w }

  pub stops : (c₀ c : Contents R) (was list : Queue (Fill R)) → first_to_trade (quote_in c) c.lits c.darks ≡ nobody → Settling o c₀ c was list →
      Settled o c₀ was c list
  stops c₀ c was list e g =
      record {
        fills = g.made;
        made = g.appended;
        settles = subst (λ (fs : List (Fill R)). Settles o c₀ fs c) (append-nil g.made) (g.goes [] c (settled e));
      }

  pub one_round : (c₀ c : Contents R) (before : List (DarkOrder R)) (d : DarkOrder R) (after : List (DarkOrder R)) (c' : Contents R) (remaining : ℕ) (was list list' : Queue (Fill R)) →
      first_to_trade (quote_in c) c.lits c.darks ≡ found before d after →
      SweptDark o (quote_in c) c.away c.trades d (before ++ after) c.lits list remaining c' list' →
      Settling o c₀ c was list → Settling o c₀ c' was list'
  one_round c₀ c before d after c' remaining was list list' e s g =
      let fs = s.swept.fills in
      record {
        made = g.made ++ fs;
        appended = appended_then g.made fs g.appended s.swept.made;
        goes = λ gs t v.
            subst (λ (xs : List (Fill R)). Settles o c₀ xs t) (sym (append_assoc g.made fs gs))
            (g.goes (fs ++ gs) t (sweeps before d after e s.swept.swept (subst (λ (x : Contents R). Settles o x gs t) s.contents v)));
      }

never_opposed : (s : Side) → opposed s s ≡ false
never_opposed Buy = refl
never_opposed Sell = refl

-- no Dark order meets itself
pub not_itself : {R : Type 0} (q : Quote) (ls : List (LitOrder R)) (d : DarkOrder R) → may_meet_dark (dark_terms q (active_dark d) ls) d ≡ false
not_itself q ls d = and_right (ltb 0 d.remaining) _ (and_left (opposed d.side d.side) _ (never_opposed d.side))

-- the first that may trade
module _ {R : Type 0} (q : Quote) (ls : List (LitOrder R)) (ds before : List (DarkOrder R)) (d : DarkOrder R) (after : List (DarkOrder R)) (e : first_to_trade q ls ds ≡ found before d after) where
  pub one_out : length ds ≡ length (before ++ after) + 1
  unfolding first_to_trade
  one_out =
      let p = picked_able (can_trade q ls ds) (λ x y. false) ds before d after e in
      omega (arith, ap length p.1, length-append before (d ∷ after), length-append before after)

  -- it chooses one when it sweeps
  moves : (o : Orderings) (trades : ℕ) → choice o q (start_of trades (active_dark d) (before ++ after) ls) ≡ no_one → ⊥
  unfolding first_to_trade can_trade choice
  moves o trades c =
      let able = may_meet_dark (dark_terms q (active_dark d) ls) in
      let p = picked_able (can_trade q ls ds) (λ x y. false) ds before d after e in
      let r = start_of trades (active_dark d) (before ++ after) ls in
      let none : list_any able (before ++ after) ≡ false =
      none_picked able _ (before ++ after) (no_dark_left q d.side (best_lit o q r.progress ls) (best_dark o q r.progress ls (before ++ after)) c) in
      let some : list_any able ds ≡ true = p.0 in
      let same : list_any able (before ++ d ∷ after) ≡ list_any able (before ++ after) = some_split able before d after (not_itself q ls d) in
      let all : list_any able ds ≡ list_any able (before ++ d ∷ after) = ap (list_any able) p.1 in
      cc

  -- so its sweep has a fill
  pub round_fills : {o : Orderings} {trades : ℕ} {s : Run R} {fs : List (Fill R)} → Swept o q (start_of trades (active_dark d) (before ++ after) ls) fs s → 1 ≤ length fs
  round_fills {o} {trades} (ends c) = absurd (moves o trades c)
  round_fills (with_dark b x a c v) = omega arith
  round_fills (with_lit b x a c v) = omega arith

-- settling, too, spends an order with each fill
module _ {R : Type 0} {o : Orderings} where
  pub settles_count : {c e : Contents R} {fs : List (Fill R)} → Settles o c fs e → length fs + resting e ≤ resting c
  settles_count (settled e) = omega arith
  settles_count (sweeps {c} {fs = fs} {gs = gs} b d a e w t) =
      omega (arith, settles_count t, dark_sweep_count c.away w, one_out _ _ _ b d a e, length-append fs gs)

  pub settles_trades : {c e : Contents R} {fs : List (Fill R)} → Settles o c fs e → e.trades ≡ c.trades + length fs
  settles_trades (settled e) = omega arith
  settles_trades (sweeps {fs = fs} {gs = gs} b d a e w t) = let i = settles_trades t in let j = swept_trades w in let n = length-append fs gs in omega arith

-- settling under way over these tables: the fills and the orders at hand never grow in number
pub record Rounds {R : Type 0} (o : Orderings) (away : Away) (trades₀ : ℕ) (t₀ : Tables R) (trades : ℕ) (t : Tables R) : Type 0 where
  pub going : Settling o (contents_of away trades₀ t₀) (contents_of away trades t) t₀.fills t.fills
  pub spends : t.fills.len + t.darks.len + t.lits.len ≤ t₀.fills.len + t₀.darks.len + t₀.lits.len
  pub numbers : trades + t₀.fills.len ≡ trades₀ + t.fills.len
  pub darks : SamePlaces t₀.darks t.darks
  pub lits : SamePlaces t₀.lits t.lits

-- a round of settling over tables: the first Dark order that may trade has swept
pub record Round {R : Type 0} (o : Orderings) (away : Away) (trades : ℕ) (t : Tables R) (at : ℕ) (d : DarkOrder R) (remaining trades' : ℕ) (t' : Tables R) : Type 0 where
  pub chosen : first_to_trade (quote_of away (queued t.lits)) (queued t.lits) (queued t.darks) ≡ found (take at (queued t.darks)) d (drop (at + 1) (queued t.darks))
  pub swept : SweptDark o (quote_of away (queued t.lits)) away trades d (without at (queued t.darks)) (queued t.lits) t.fills remaining (contents_of away trades' t') t'.fills

module _ {R : Type 0} (o : Orderings) (away : Away) (trades : ℕ) (t : Tables R) (at : ℕ) (d : DarkOrder R) (remaining trades' : ℕ) (t' : Tables R) where
  -- as code goes through it: the order is found, taken out, and sweeps
  pub the_round : (q : Quote) (out : List (DarkOrder R)) → q ≡ quote_of away (queued t.lits) →
      Place (queued t.darks) (Some at) (first_to_trade q (queued t.lits) (queued t.darks)) → d ≡ get_or (queued t.darks) at d → out ≡ without at (queued t.darks) →
      SweptDark o q q.away trades d out (queued t.lits) t.fills remaining (contents_of q.away trades' t') t'.fills →
      Round o away trades t at d remaining trades' t'
  the_round q out qe f read oe s =
      let xs = queued t.darks in
      record {
        chosen =
            subst (λ (q : Quote). first_to_trade q (queued t.lits) xs ≡ found (take at xs) (get_or xs at d) (drop (at + 1) xs)) qe (f.1 d)
            ∙ ap (λ x. found (take at xs) x (drop (at + 1) xs)) (sym read);
        swept =
            subst₂ (λ (q : Quote) (ys : List (DarkOrder R)). SweptDark o q q.away trades d ys (queued t.lits) t.fills remaining (contents_of q.away trades' t') t'.fills)
            qe oe s;
      }

  -- each round has a fill, and spends an order with each
  pub round_counts : (r : Round o away trades t at d remaining trades' t') (out : Queue (DarkOrder R)) → queued out ≡ without at (queued t.darks) → out.len + 1 ≡ t.darks.len →
      (t'.fills.len + t'.darks.len + t'.lits.len ≤ t.fills.len + t.darks.len + t.lits.len) × (t'.darks.len + t'.lits.len < t.darks.len + t.lits.len)
      × (trades' + t.fills.len ≡ trades + t'.fills.len)
  round_counts r out e n =
      let s = r.swept in
      let made = appended_length s.swept.fills s.swept.made in
      let count = dark_sweep_count away s.swept.swept in
      let left = ap resting s.contents in
      let dark_len = queued_length t'.darks in
      let lit_len = queued_length t'.lits in
      let dark_was = ap length (sym e) ∙ queued_length out in
      let lit_was = queued_length t.lits in
      let more = round_fills _ _ _ _ _ _ r.chosen s.swept.swept in
      let same = ap (λ (c : Contents R). c.trades) s.contents ∙ swept_trades s.swept.swept in
      (omega arith, omega arith, omega arith)

  pub another_round : (r : Round o away trades t at d remaining trades' t') (out : Queue (DarkOrder R)) → queued out ≡ without at (queued t.darks) → out.len + 1 ≡ t.darks.len →
      (trades₀ : ℕ) (t₀ : Tables R) → SamePlaces t.darks t'.darks → SamePlaces t.lits t'.lits → Rounds o away trades₀ t₀ trades t → Rounds o away trades₀ t₀ trades' t'
  another_round r out e n trades₀ t₀ darks lits s =
      let ds = queued t.darks in
      let k = round_counts r out e n in
      record {
        going =
            one_round o (contents_of away trades₀ t₀) (contents_of away trades t) (take at ds) d (drop (at + 1) ds) (contents_of away trades' t') remaining
            t₀.fills t.fills t'.fills r.chosen r.swept s.going;
        spends = omega (arith, s.spends, k.0);
        numbers = omega (arith, s.numbers, k.2);
        darks = same_then s.darks darks;
        lits = same_then s.lits lits;
      }

-- the first that passes stands at the first place that passes
module _ {X : Type 0} (p : X → Bool) where
  first_some : (x : X) (xs : List X) (k : Pick X) → p x ≡ true → join p (λ a b. false) x xs k ≡ found [] x xs
  first_some x xs nobody e = rw e
  first_some x xs (found b y a) e = rw e

  abbrev SplitAt : List X → ℕ → X → Type 0
  SplitAt xs n d = first p xs ≡ found (take n xs) (get_or xs n d) (drop (n + 1) xs)

  later_step : (x : X) (xs : List X) (d : X) (t : Bool) → p x ≡ t → (position_or_len p xs < length xs → SplitAt xs (position_or_len p xs) d) →
      cond (not t) (1 + position_or_len p xs) 0 < length (x ∷ xs) → SplitAt (x ∷ xs) (cond (not t) (1 + position_or_len p xs) 0) d
  later_step x xs d true e ih h = first_some x xs (first p xs) e
  later_step x xs d false e ih h =
      let n = position_or_len p xs in
      let one : 1 + n ≡ suc n = omega arith in
      let two : suc n + 1 ≡ suc (n + 1) = omega arith in
      rw (ih (omega arith), e, one, two)

  first_later : (xs : List X) (d : X) → position_or_len p xs < length xs → SplitAt xs (position_or_len p xs) d
  first_later [] d h = absurd (omega arith)
  first_later (x ∷ xs) d h = later_step x xs d (p x) refl (first_later xs d) h

  none_step : (x : X) (xs : List X) (t : Bool) → p x ≡ t → (length xs ≤ position_or_len p xs → first p xs ≡ nobody) →
      length (x ∷ xs) ≤ cond (not t) (1 + position_or_len p xs) 0 → first p (x ∷ xs) ≡ nobody
  none_step x xs true e ih h = absurd (omega arith)
  none_step x xs false e ih h = rw (ih (omega arith), e)

  first_none : (xs : List X) → length xs ≤ position_or_len p xs → first p xs ≡ nobody
  first_none [] h = refl
  first_none (x ∷ xs) h = none_step x xs (p x) refl (first_none xs) h

  pub first_place : (xs : List X) → Place xs (position p xs) (first p xs)
  first_place xs = go (ltb (position_or_len p xs) (length xs)) refl
    where
      go : (t : Bool) → ltb (position_or_len p xs) (length xs) ≡ t → Place xs (cond t (Some (position_or_len p xs)) None) (first p xs)
      go true e = (ltb-true _ _ e, λ d. first_later xs d (ltb-true _ _ e))
      go false e = first_none xs (ltb-false _ _ e)
