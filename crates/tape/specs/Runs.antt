-- What the run of an example comes to.
use Rattle.std.specs.Prelude.{◌≡◌, ℕ, List, take, Ok, Err, Result}
use Rattle.market.specs.declared.orders.Fill.{Fill}
use Rattle.book.specs.declared.book.Book.{Book}
use Rattle.book.specs.declared.call.Call.{Call}
use Rattle.book.specs.declared.memory.Memory.{Memory as Lent}
use Rattle.book.specs.Grounds.{State}
use Rattle.book.specs.Steps.{state_in}
use Rattle.rules.specs.declared.examples.Example.{Example}
use Rattle.rules.specs.Cases.{facility, memory}
use Rattle.rules.specs.Examples.{worked, Brings}
use Rattle.tape.specs.declared.run.Outcome.{Outcome}

-- nothing was refused
abbrev pub Accepted : {X Y : Type 0} → Result X Y → Type 0
Accepted (Ok x) = Unit {0}
Accepted (Err y) = ⊥

-- where the calls should bring about a book, they are all accepted, and that is the book
abbrev pub Brought : {D L X Y : Type 0} → List (Call ℕ) → Book D L → Lent ℕ → Result X Y → Book D L → Lent ℕ → Type 0
Brought calls b m r b' m' = (t : State ℕ) → Brings facility memory (state_in b m) calls t → Accepted r × (state_in b' m' ≡ t)

-- the trades and the cancelled shares are those that are proved of the example, and no call is refused
abbrev pub ComesTo : {Y : Type 0} → Example → Result Outcome Y → List (Fill ℕ) → Type 0
ComesTo e (Ok o) fills =
    (o.trades ≡ (worked e).answer.0) × (o.cancelled ≡ (worked e).answer.2) × (take o.trades fills ≡ (worked e).fills)
ComesTo e (Err y) fills = ⊥
