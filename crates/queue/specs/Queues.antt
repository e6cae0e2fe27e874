-- What a queue holds, and what the moves of a queue leave.
use Rattle.std.specs.Prelude.{◌≡◌, ℕ, ◌+◌, List, ◌∷◌, ◌++◌, length, take, drop}
use Rattle.queue.specs.declared.queue.Queue.{Queue}

-- those queued, first to last
abbrev pub queued : {X : Type 0} → Queue X → List X
queued q = take q.len q.places.now

-- what stands in the places past those queued
abbrev pub spare : {X : Type 0} → Queue X → List X
spare q = drop q.len q.places.now

-- how many places there are
abbrev pub room : {X : Type 0} → Queue X → ℕ
room q = length q.places.now

-- the second queue stands on the very places of the first, and as many
pub record SamePlaces {X : Type 0} (p q : Queue X) : Type 0 where
  pub room : length q.places.now ≡ length p.places.now
  pub lender : q.places.ghost_name ≡ p.places.ghost_name

-- the second queue is the first with these behind it, on the same places, and later places as they were
pub record Appended {X : Type 0} (p : Queue X) (xs : List X) (q : Queue X) : Type 0 where
  pub list : queued q ≡ queued p ++ xs
  pub spare : spare q ≡ drop (length xs) (spare p)
  pub same : SamePlaces p q

-- the one at i is gone, and the others keep their order
abbrev pub without : {X : Type 0} → ℕ → List X → List X
without i xs = take i xs ++ drop (i + 1) xs

-- the one at i stands last, and the others keep their order
abbrev pub to_end : {X : Type 0} → ℕ → List X → List X
to_end i xs = without i xs ++ take 1 (drop i xs)

-- x stands in place of the one at i
abbrev pub replaced : {X : Type 0} → ℕ → X → List X → List X
replaced i x xs = take i xs ++ x ∷ drop (i + 1) xs
