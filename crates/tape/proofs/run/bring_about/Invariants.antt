use Rattle.std.proofs.Common.{◌≡◌, ℕ, drop}
use Rattle.book.specs.Grounds.{State}
use Rattle.book.specs.Steps.{SameMemory, state_in, lengths_of}
use Rattle.rules.specs.Cases.{facility, memory as places}
use Rattle.rules.specs.Examples.{Brings}
use Rattle.tape.proofs.run.bring_about.Given as goal

-- the lot and the places stay, the memory is the one that was lent, and what all the calls should bring about, those that are left should bring about from here
abbrev pub invariant-loop-i : goal.invariant-loop-i
invariant-loop-i l =
    (l.book.core.lot ≡ 100) × (lengths_of l.memory ≡ places) × SameMemory l.initial.memory l.memory
    × ((t : State ℕ) → Brings facility places (state_in l.initial.book l.initial.memory) l.calls t →
    Brings facility places (state_in l.book l.memory) (drop l.i l.calls) t)
