-- Lists, as one place of them is written, or shifted up.
use Rattle.std.proofs.Common.{◌≡◌, ℕ, zero, suc, ◌+◌, ◌<◌, ◌≤◌, List, [], ◌∷◌, ◌++◌, length, take, drop, set, sym, refl, ap, ap₂, ◌∙◌, ◌-◌, add-one, arith}
use Rattle.std.specs.List.{copy_within}
use Rattle.std.proofs.lemmas.List.Edits.{take-paste}
use Rattle.std.proofs.lemmas.List.{drop-take, length-drop, take-append-le, drop-append-le, append_assoc, drop-drop, take-take, drop_all, length-take-le, set_split}
use Rattle.queue.specs.Queues.{without, to_end, replaced}

take_set : {X : Type 0} (n : ℕ) (xs : List X) (k : ℕ) (v : X) → take n (set xs k v) ≡ set (take n xs) k v
take_set zero xs k v = refl
take_set (suc n) [] k v = refl
take_set (suc n) (x ∷ xs) zero v = refl
take_set (suc n) (x ∷ xs) (suc k) v = ap (λ ys. x ∷ ys) (take_set n xs k v)

-- to copy those after the one at i one place down takes it out
pub closed_up : {X : Type 0} (n : ℕ) (xs : List X) (i : ℕ) → i < n → n ≤ length xs → take (n - 1) (copy_within xs (i + 1) n i) ≡ without i (take n xs)
closed_up n xs i lt le =
    let m = n - (i + 1) in
    let e : n - 1 ≡ i + m = omega arith in
    let all : n ≡ i + 1 + m = omega arith in
    let tail = drop (i + 1) xs in
    let fits : m ≤ length tail = rw (length-drop (i + 1) xs) (omega arith) in
    let front : take i (take n xs) ≡ take i xs = take-take i n xs (omega arith) in
    let back : drop (i + 1) (take n xs) ≡ take m tail = ap (λ k. drop (i + 1) (take k xs)) all ∙ drop-take (i + 1) m xs in
    ap (λ k. take k (copy_within xs (i + 1) n i)) e ∙ take-paste xs i tail m (omega arith) fits ∙ sym (ap₂ (λ a b. a ++ b) front back)

pub written : {X : Type 0} (n : ℕ) (xs : List X) (i : ℕ) (v : X) → i < n → n ≤ length xs → take n (set xs i v) ≡ replaced i v (take n xs)
written n xs i v lt le =
    let h : i < length (take n xs) = rw (length-take-le n xs le) lt in
    take_set n xs i v ∙ set_split (take n xs) i v h ∙ ap (λ k. take i (take n xs) ++ v ∷ drop k (take n xs)) (sym (add-one i))

-- the one at i, as x, put behind the others
pub replaced_to_end : {X : Type 0} (xs : List X) (i : ℕ) (x : X) → i < length xs → to_end i (replaced i x xs) ≡ take i xs ++ (drop (i + 1) xs ++ x ∷ [])
replaced_to_end xs i x lt =
    let l : length (take i xs) ≡ i = length-take-le i xs (omega arith) in
    let front : take i (replaced i x xs) ≡ take i xs = take-append-le i (take i xs) (x ∷ drop (i + 1) xs) (omega arith) ∙ take-take i i xs (omega arith) in
    let rest : drop i (replaced i x xs) ≡ x ∷ drop (i + 1) xs = drop-append-le i (take i xs) (x ∷ drop (i + 1) xs) (omega arith) ∙ ap (λ ys. ys ++ x ∷ drop (i + 1) xs) (drop_all i (take i xs) (omega arith)) in
    let past : drop (i + 1) (replaced i x xs) ≡ drop (i + 1) xs = sym (drop-drop 1 i (replaced i x xs)) ∙ ap (drop 1) rest in
    rw (front, past, rest) (append_assoc (take i xs) (drop (i + 1) xs) (x ∷ []))
