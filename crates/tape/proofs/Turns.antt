-- One call of a setup, as code makes it.
use Rattle.std.proofs.Common.{◌≡◌, ℕ, ◌+◌, ◌<◌, ◌≤◌, List, [], ◌∷◌, length, get_or, drop, Ok, Err, Result, sym, refl, subst, subst₂, ◌∙◌}
use Rattle.std.specs.Result.{MatchResult}
use Rattle.std.proofs.lemmas.List.{drop_all, drop_more}
use Rattle.market.specs.declared.orders.Fill.{Fill}
use Rattle.book.specs.declared.book.Book.{Book}
use Rattle.book.specs.declared.call.Call.{Call}
use Rattle.book.specs.declared.memory.Memory.{Memory as Lent}
use Rattle.book.specs.Grounds.{Facility, State}
use Rattle.book.specs.Steps.{Answer, Called, SameMemory, Served, state_in, lengths_of}
use Rattle.rules.specs.Cases.{facility, memory}
use Rattle.rules.specs.Examples.{Brings, done, next}

-- the facility at any lot
abbrev pub at_lot : ℕ → Facility ℕ
at_lot n = record { lot = n; orderings = facility.orderings; number = facility.number }

module _ (s : State ℕ) (x : Call ℕ) (was : List (Fill ℕ)) (a : Answer) (t : State ℕ) (list : List (Fill ℕ)) where
  -- where the call and others after it should bring about a book, it is accepted, and the others should from there
  pub turned : Called facility s memory x was a t list → (xs : List (Call ℕ)) (u : State ℕ) → Brings facility memory s (x ∷ xs) u →
      (Ok (0, 0, 0) ≡ a) × Brings facility memory t xs u
  turned k xs u (next {t = v} h rest) =
      let o = k.only (Ok (0, 0, 0)) [] v h in
      (o.0, subst (λ w. Brings facility memory w xs u) o.2 rest)

module _ {D L : Type 0} {b b' : Book D L} {m m' : Lent ℕ} {a : Answer} where
  -- a call on a book at lot 100, over memory of the facility's lengths, is a call of the facility
  pub as_called : (x : Call ℕ) → b.core.lot ≡ 100 → lengths_of m ≡ memory → Served (at_lot b.core.lot) x b m a b' m' →
      Called facility (state_in b m) memory x m.fills.now a (state_in b' m') m'.fills.now
  as_called x e l k = subst₂ (λ n v. Called (at_lot n) (state_in b m) v x m.fills.now a (state_in b' m') m'.fills.now) e l k.called

  -- one of several calls, by its place
  pub one_turn : (calls : List (Call ℕ)) (i : ℕ) (d : Call ℕ) → i < length calls → b.core.lot ≡ 100 → lengths_of m ≡ memory →
      Served (at_lot b.core.lot) (get_or calls i d) b m a b' m' → (u : State ℕ) →
      Brings facility memory (state_in b m) (drop i calls) u → (Ok (0, 0, 0) ≡ a) × Brings facility memory (state_in b' m') (drop (i + 1) calls) u
  one_turn calls i d h e l k u w =
      turned (state_in b m) (get_or calls i d) m.fills.now a (state_in b' m') m'.fills.now (as_called (get_or calls i d) e l k) (drop (i + 1) calls) u
      (subst (λ xs. Brings facility memory (state_in b m) xs u) (drop_more calls i d h) w)

-- with no call left the book is brought about
none_left : (s u : State ℕ) → Brings facility memory s [] u → s ≡ u
none_left s u done = refl

pub ended : (s u : State ℕ) (calls : List (Call ℕ)) (i : ℕ) → length calls ≤ i → Brings facility memory s (drop i calls) u → s ≡ u
ended s u calls i h w = none_left s u (subst (λ xs. Brings facility memory s xs u) (drop_all i calls h) w)

pub not_refused : {E : Type 0} {g : E} {n : ℕ × ℕ × ℕ} → ◌≡◌ {A = Result (ℕ × ℕ × ℕ) E} (Ok n) (Err g) → ⊥
not_refused e = cc

-- an answer keeps its counts where only a refusal is told otherwise
pub kept : {X E F : Type 0} (P : E → Type 0) (r : Result X E) (s : Result X F) (x : X) → MatchResult r (λ y. s ≡ Ok y) P → Ok x ≡ r → s ≡ Ok x
kept P r s x m e = subst (λ v. MatchResult v (λ y. s ≡ Ok y) P) (sym e) m

-- memory that is the same after one call and after the next is the same after both
pub still_same : {R : Type 0} {a b c : Lent R} → SameMemory a b → SameMemory b c → SameMemory a c
still_same h k = record { lengths = k.lengths ∙ h.lengths; dark = k.dark ∙ h.dark; lit = k.lit ∙ h.lit; fills = k.fills ∙ h.fills }
