-- The choice: of those that may be met, the one that no other beats, and of those level the earliest.
use Rattle.std.specs.Prelude.{◌≡◌, ℕ, ◌+◌, ◌<◌, Bool, true, false, cond, not, ◌&&◌, ◌||◌, List, [], ◌∷◌, ◌++◌, length, take, drop, Some, None, Option, ◌==◌, slice_index_or}
use Rattle.std.specs.List.{AllByRecursion}
use Rattle.market.specs.declared.codes.Kind.{Kind}
use Rattle.market.specs.Prices.{better}
use Rattle.std.specs.declared.cmp.Ordering.TheVariants.{Less, Equal, Greater}
use Rattle.priority.specs.Standings.{Standing}
use Rattle.priority.specs.declared.standing.ActiveView.{ActiveView}
use Rattle.priority.specs.declared.standing.RestingView.{RestingView}
use Rattle.matching.specs.declared.active.Active.{Active}
use Rattle.matching.specs.declared.active.LastLevel.{LastLevel}
use Rattle.matching.specs.declared.choose.Asker.{Asker}
use Rattle.matching.specs.declared.active.Found.{Found}

-- a place in a queue: those before the chosen one, the chosen one, those after it
pub data Pick (X : Type 0) : Type 0 where
  nobody : Pick X
  found : List X → X → List X → Pick X

-- x before a queue from which the pick is made already
abbrev pub join : {X : Type 0} → (X → Bool) → (X → X → Bool) → X → List X → Pick X → Pick X
join able beats x xs nobody = cond (able x) (found [] x xs) nobody
join able beats x xs (found before y after) = cond (able x && not (beats y x)) (found [] x xs) (found (x ∷ before) y after)

-- of the able, the one that no able one beats, and of those the earliest
abbrev pub pick : {X : Type 0} → (X → Bool) → (X → X → Bool) → List X → Pick X
pick able beats [] = nobody
pick able beats (x ∷ xs) = join able beats x xs (pick able beats xs)

-- the first that passes
abbrev pub first : {X : Type 0} → (X → Bool) → List X → Pick X
first passes = pick passes (λ x y. false)

-- what it means to be the best at its place: it beats all able ones before it, and no able one after it beats it
pub record Best {X : Type 0} (able : X → Bool) (beats : X → X → Bool) (xs before : List X) (c : X) (after : List X) : Type 0 where
  pub split : xs ≡ before ++ c ∷ after
  pub fit : able c ≡ true
  pub ahead : AllByRecursion (λ x. able x ≡ true → beats c x ≡ true) before
  pub behind : AllByRecursion (λ x. able x ≡ true → beats x c ≡ false) after

-- what a pick says: nobody is able, or the one found is best
abbrev pub Picks : {X : Type 0} → (X → Bool) → (X → X → Bool) → List X → Pick X → Type 0
Picks able beats xs nobody = AllByRecursion (λ x. able x ≡ false) xs
Picks able beats xs (found before c after) = Best able beats xs before c after

-- what a priority means: an ordering of two resting orders for one active order
abbrev pub Ordering : Type 0
Ordering = ActiveView → RestingView → RestingView → Standing

-- whether the first is ahead
abbrev pub is_ahead : Standing → Bool
is_ahead Less = true
is_ahead Greater = false
is_ahead Equal = false

-- the need at a price: what remained when the sweep first chose there, and what remains now if it chose elsewhere last
abbrev pub need_at : Option LastLevel → ℕ → ℕ → ℕ
need_at None p remaining = remaining
need_at (Some n) p remaining = cond (n.price == p) n.need remaining

-- the level that an active order now chooses at: its need is what remained when the sweep first chose there
abbrev pub level_of : {R : Type 0} → Asker R → ℕ → LastLevel
level_of k p = record { price = p; need = need_at k.last p k.active.remaining }

-- what a priority is told of the active order
abbrev pub asking : {R : Type 0} → Active R → Kind → Option LastLevel → ℕ → ActiveView
asking a kind n p = record { member = a.member; jitney = a.jitney; need = need_at n p a.remaining; kind = kind }

-- a better price beats; at one price, who is ahead by the priority
abbrev pub beats : {X R : Type 0} → Active R → Kind → Option LastLevel → Ordering → (X → ℕ) → (X → RestingView) → X → X → Bool
beats a kind n order price view x y =
    better a.side (price x) (price y) || (price x == price y && is_ahead (order (asking a kind n (price x)) (view x) (view y)))

-- what an active order before one table prefers there
abbrev pub preferred : {X R : Type 0} → Asker R → Ordering → (X → ℕ) → (X → RestingView) → X → X → Bool
preferred k = beats k.active k.kind k.last

-- the place that code found is where a choice splits the queue, with its price; `chosen` is how the choice says so
abbrev pub FoundIn : {X C : Type 0} → (List X → X → List X → C) → (X → ℕ) → List X → Found → C → Type 0
FoundIn {X} chosen price xs f c =
    (f.at < length xs) × ((d : X) → c ≡ chosen (take f.at xs) (slice_index_or xs f.at d) (drop (f.at + 1) xs)) × ((d : X) → f.price ≡ price (slice_index_or xs f.at d))

-- what code found is what the pick found, if anybody
abbrev pub Splits : {X : Type 0} → (X → ℕ) → List X → Option Found → Pick X → Type 0
Splits price xs None p = p ≡ nobody
Splits price xs (Some f) p = FoundIn found price xs f p
