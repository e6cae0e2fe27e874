-- Counting up, one by one.
use Rattle.std.proofs.Common.{◌≡◌, ℕ, ◌+◌, ◌<◌, ◌%◌, ◌^◌, Bool, true, false, cond, List, [], ◌∷◌, length, fold, refl, arith}

-- one more where a test passes, in a word that a list's length leaves room in
step : (t : Bool) (n : ℕ) → n + 1 < 2 ^ 64 → cond t ((n + 1) % 2 ^ 64) n ≡ n + cond t 1 0
step true n lt = omega arith
step false n lt = omega arith

pub counted_up : {X : Type 0} (p : X → Bool) (xs : List X) (n : ℕ) → n + length xs < 2 ^ 64 →
    fold (λ m x. cond (p x) ((m + 1) % 2 ^ 64) m) n xs ≡ fold (λ m x. m + cond (p x) 1 0) n xs
counted_up p [] n lt = refl
counted_up p (x ∷ xs) n lt = rw (step (p x) n (omega arith)) (counted_up p xs (n + cond (p x) 1 0) (by (p x)))
  where
    by : (t : Bool) → n + cond t 1 0 + length xs < 2 ^ 64
    by true = omega arith
    by false = omega arith
