-- A sweep under way: whatever follows from here, follows from the start after what was made.
use Rattle.std.proofs.Common.{◌≡◌, ℕ, ◌+◌, ◌<◌, ◌≤◌, min, Bool, false, ltb, List, [], ◌∷◌, ◌++◌, get_or, take, drop, sym, refl, ap, ◌∙◌, subst, ap₂, arith}
use Rattle.std.proofs.lemmas.List.{append-nil, append_assoc}
use Rattle.market.specs.declared.orders.Fill.{Fill}
use Rattle.market.specs.declared.quotes.Quote.{Quote}
use Rattle.queue.specs.declared.queue.Queue.{Queue}
use Rattle.queue.specs.Queues.{SamePlaces, Appended}
use Rattle.queue.proofs.Appends.{same_then, appended_none, appended_then}
use Rattle.matching.specs.declared.active.Progress.{Progress}
use Rattle.matching.specs.declared.active.Found.{Found}
use Rattle.matching.specs.Tables.{Tables}
use Rattle.matching.specs.Choice.{nobody, pick, FoundIn}
use Rattle.matching.specs.Sweep.{Orderings, Run, run_of, Chosen, no_one, better_of, choice, Swept, ends, Sweeps}

pub same_run : {R : Type 0} (r s : Run R) → r.progress ≡ s.progress → r.darks ≡ s.darks → r.lits ≡ s.lits → r ≡ s
same_run r s p q t = λ i. record { progress = p i; darks = q i; lits = t i }

pub record Going {R : Type 0} (o : Orderings) (q : Quote) (r₀ r : Run R) (was list : Queue (Fill R)) : Type 0 where
  pub made : List (Fill R)
  pub appended : Appended was made list
  pub goes : (fs : List (Fill R)) (t : Run R) → Swept o q r fs t → Swept o q r₀ (made ++ fs) t

module _ {R : Type 0} (o : Orderings) (q : Quote) where
  pub begins : (r : Run R) (was : Queue (Fill R)) → Going o q r r was was
  begins r was = record { made = []; appended = appended_none was; goes = λ fs t w. w }

  pub stops : (r₀ r : Run R) (was list : Queue (Fill R)) → choice o q r ≡ no_one → Going o q r₀ r was list → Sweeps o q r₀ was r list
  stops r₀ r was list e g =
      record { fills = g.made; made = g.appended; swept = subst (λ (fs : List (Fill R)). Swept o q r₀ fs r) (append-nil g.made) (g.goes [] r (ends e)) }

  one_more : (r₀ r r' : Run R) (f : Fill R) (was list list' : Queue (Fill R)) → ((fs : List (Fill R)) (t : Run R) → Swept o q r' fs t → Swept o q r (f ∷ fs) t) →
      Appended list (f ∷ []) list' → Going o q r₀ r was list → Going o q r₀ r' was list'
  one_more r₀ r r' f was list list' w a g =
      record {
        made = g.made ++ f ∷ [];
        appended = appended_then g.made (f ∷ []) g.appended a;
        goes = λ fs t v.
            subst (λ (gs : List (Fill R)). Swept o q r₀ gs t) (sym (append_assoc g.made (f ∷ []) fs)) (g.goes (f ∷ fs) t (w fs t v));
      }

-- a sweep under way over these tables: each trade spends an order, so the fills, the orders at hand and an active order
-- that is not spent never grow in number
pub record Sweeping {R : Type 0} (o : Orderings) (q : Quote) (g₀ : Progress R) (t₀ : Tables R) (g : Progress R) (t : Tables R) : Type 0 where
  pub going : Going o q (run_of g₀ t₀) (run_of g t) t₀.fills t.fills
  pub spends : t.fills.len + t.darks.len + t.lits.len + min 1 g.active.remaining ≤ t₀.fills.len + t₀.darks.len + t₀.lits.len + min 1 g₀.active.remaining
  pub trades : g.trades + t₀.fills.len ≡ g₀.trades + t.fills.len
  pub darks : SamePlaces t₀.darks t.darks
  pub lits : SamePlaces t₀.lits t.lits

-- a trade of a sweep under way, with the order that was found in either table: `chosen` is how a choice says whom, `after`
-- what the trade leaves, and `fill` what it tells
module _ {R X : Type 0} (o : Orderings) (q : Quote) (chosen : List X → X → List X → Chosen R) (price : X → ℕ) (after : Run R → List X → X → List X → Run R)
    (fill : ℕ → Progress R → X → Fill R)
    (meets : (r s : Run R) (fs : List (Fill R)) (b : List X) (x : X) (a : List X) → choice o q r ≡ chosen b x a → Swept o q (after r b x a) fs s → Swept o q r (fill (price x) r.progress x ∷ fs) s)
    (g₀ : Progress R) (t₀ : Tables R) (g : Progress R) (t : Tables R) (g' : Progress R) (t' : Tables R) (xs : List X) (f : Found) (x : X) where
  pub one_trade : FoundIn chosen price xs f (choice o q (run_of g t)) → x ≡ get_or xs f.at x →
      (price x ≡ f.price → run_of g' t' ≡ after (run_of g t) (take f.at xs) x (drop (f.at + 1) xs)) →
      Appended t.fills (fill f.price g x ∷ []) t'.fills → t'.fills.len ≡ t.fills.len + 1 → g'.trades ≡ g.trades + 1 →
      t'.darks.len + t'.lits.len + min 1 g'.active.remaining ≤ t.darks.len + t.lits.len → 0 < g.active.remaining →
      SamePlaces t.darks t'.darks → SamePlaces t.lits t'.lits → Sweeping o q g₀ t₀ g t → Sweeping o q g₀ t₀ g' t'
  one_trade find read is told more trades spends some darks lits s =
      let b = take f.at xs in
      let a = drop (f.at + 1) xs in
      let here : get_or xs f.at x ≡ x = sym read in
      let whom : choice o q (run_of g t) ≡ chosen b x a = find.1 x ∙ ap (λ y. chosen b y a) here in
      let at_price : f.price ≡ price x = find.2 x ∙ ap price here in
      record {
        going =
            one_more o q (run_of g₀ t₀) (run_of g t) (run_of g' t') (fill (price x) g x) t₀.fills t.fills t'.fills
            (λ fs r v. meets (run_of g t) r fs b x a whom (subst (λ (r' : Run R). Swept o q r' fs r) (is (sym at_price)) v))
            (subst (λ (p : ℕ). Appended t.fills (fill p g x ∷ []) t'.fills) at_price told) s.going;
        spends = omega (arith, s.spends);
        trades = omega (arith, s.trades);
        darks = same_then s.darks darks;
        lits = same_then s.lits lits;
      }

-- nobody is picked where nobody may be met
pub picks_nobody : {X : Type 0} (able : X → Bool) (beats : X → X → Bool) (xs : List X) → ((x : X) → able x ≡ false) → pick able beats xs ≡ nobody
picks_nobody able beats [] n = refl
picks_nobody able beats (x ∷ xs) n = rw (picks_nobody able beats xs n, n x)

-- who is spent meets nobody
pub spent_meets_no_one : {R : Type 0} (o : Orderings) (q : Quote) (r : Run R) → r.progress.active.remaining ≡ 0 → choice o q r ≡ no_one
unfolding choice
spent_meets_no_one o q r e =
    let z : ltb 0 r.progress.active.remaining ≡ false = ap (ltb 0) e in
    ap₂ (better_of q r.progress.active.side) (picks_nobody _ _ r.lits (λ x. rw z)) (picks_nobody _ _ r.darks (λ x. rw z))
