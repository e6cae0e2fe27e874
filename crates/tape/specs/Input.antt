-- What the program is asked.
use Rattle.std.specs.Prelude.{ℕ, Bool, true, false, cond, ◌&&◌, List, [], ◌∷◌, None, Option, ◌==◌}
use Rattle.rules.specs.declared.examples.Example.{Example}
use Rattle.rules.specs.Examples.{example_of}

-- nothing, or one line end: the byte 10, or 13 and 10
abbrev pub is_line_end : List ℕ → Bool
is_line_end [] = true
is_line_end (a ∷ []) = a == 10
is_line_end (a ∷ b ∷ []) = a == 13 && b == 10
is_line_end (a ∷ b ∷ c ∷ more) = false

-- the example that a text asks for: its digit, with at most one line end after it
abbrev pub example_in : List ℕ → Option Example
example_in [] = None
example_in (digit ∷ rest) = cond (is_line_end rest) (example_of digit) None
