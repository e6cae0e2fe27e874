-- The calls that bring about the book of a worked example.
use Rattle.std.specs.Prelude.{ℕ, Bool, cond, List, [], ◌∷◌, ◌++◌, map, Some, None, Ok, Option, ◌==◌}
use Rattle.market.specs.declared.codes.Side.{Side}
use Rattle.market.specs.declared.codes.Side.TheVariants.{Buy, Sell}
use Rattle.market.specs.declared.codes.Peg.{Peg}
use Rattle.market.specs.declared.codes.Peg.TheVariants.{Midpoint, Touch}
use Rattle.market.specs.declared.codes.Contra.{Contra}
use Rattle.market.specs.declared.codes.Contra.TheVariants as contra
use Rattle.market.specs.declared.orders.DarkOrder.{DarkOrder}
use Rattle.market.specs.declared.orders.LitOrder.{LitOrder}
use Rattle.book.specs.declared.session.Session.TheVariants.{PreOpen}
use Rattle.book.specs.declared.call.Call.{Call}
use Rattle.book.specs.declared.call.Call.TheVariants as call
use Rattle.book.specs.Grounds.{Facility, State, Memory}
use Rattle.book.specs.Steps.{Step}
use Rattle.rules.specs.declared.examples.Example.{Example}
use Rattle.rules.specs.declared.examples.Example.TheVariants as example
use Rattle.rules.specs.Cases.{Worked, facility, memory, away_quote, book_of, large_sdl, small_sdl, small_sdl_best_here, caps, enough_size_first, dark_with_dark}

abbrev pub worked : Example → Worked
worked example.LargeSdl = large_sdl
worked example.SmallSdl = small_sdl
worked example.SmallSdlBestHere = small_sdl_best_here
worked example.Caps = caps
worked example.EnoughSizeFirst = enough_size_first
worked example.DarkWithDark = dark_with_dark

-- the place of an example among the six
abbrev pub example_number : Example → ℕ
example_number example.LargeSdl = 1
example_number example.SmallSdl = 2
example_number example.SmallSdlBestHere = 3
example_number example.Caps = 4
example_number example.EnoughSizeFirst = 5
example_number example.DarkWithDark = 6

-- the example that a digit stands for; the digit 0 is the byte 48
abbrev pub example_of : ℕ → Option Example
example_of b =
    cond (b == 49) (Some example.LargeSdl)
    (cond (b == 50) (Some example.SmallSdl)
    (cond (b == 51) (Some example.SmallSdlBestHere)
    (cond (b == 52) (Some example.Caps)
    (cond (b == 53) (Some example.EnoughSizeFirst)
    (cond (b == 54) (Some example.DarkWithDark) None)))))

-- the bytes of "no such example"
abbrev pub no_such_example : List ℕ
no_such_example =
    110 ∷ 111 ∷ 32 ∷ 115 ∷ 117 ∷ 99 ∷ 104 ∷ 32 ∷ 101 ∷ 120 ∷ 97 ∷ 109 ∷ 112 ∷ 108 ∷ 101 ∷ []

abbrev pub side_code : Side → ℕ
side_code Buy = 1
side_code Sell = 2

abbrev pub peg_code : Peg → ℕ
peg_code Midpoint = 1
peg_code Touch = 2

abbrev pub contra_code : Contra → ℕ
contra_code contra.Sdl = 1
contra_code contra.Dark = 2
contra_code contra.All = 3

abbrev pub mark_code : Bool → ℕ
mark_code b = cond b 1 0

-- the entry of a Dark order
abbrev pub dark_entry : DarkOrder ℕ → Call ℕ
dark_entry d =
    call.Dark (record {
      member = d.member;
      reference = d.reference;
      side = side_code d.side;
      quantity = d.remaining;
      peg = peg_code d.peg;
      cap = d.cap;
      contra = contra_code d.contra;
      minimum = d.minimum;
      jitney = mark_code d.jitney;
      key = d.key;
    })

-- the entry of a lit order
abbrev pub lit_entry : LitOrder ℕ → Call ℕ
lit_entry l =
    call.Lit (record {
      member = l.member;
      reference = l.reference;
      side = side_code l.side;
      quantity = l.remaining;
      price = l.price;
      jitney = mark_code l.jitney;
    })

-- the calls before the one that trades: the other markets' quote, the start of trading, the Dark orders in the order of
-- their queue, and the lit orders in the order of time
abbrev pub setup_of : Worked → List (Call ℕ)
setup_of w = call.Quote w.away ∷ call.Start ∷ (map dark_entry w.darks ++ map lit_entry w.lits)

-- a book before its first call
abbrev pub new_state : State ℕ
new_state = record { session = PreOpen; contents = record { away = away_quote 0 0; trades = 0; darks = []; lits = [] } }

-- calls that are all accepted and make no trade, and the book that they bring about
pub data Brings {R : Type 0} (f : Facility R) (m : Memory) : State R → List (Call R) → State R → Type 0 where
  done : {s : State R} → Brings f m s [] s
  next : {s t u : State R} {x : Call R} {xs : List (Call R)} → Step f s m x (Ok (0, 0, 0)) [] t → Brings f m t xs u → Brings f m s (x ∷ xs) u

-- the calls before the one that trades bring about the example's book
abbrev pub SetupsComeOut : Type 0
SetupsComeOut = (e : Example) → Brings facility memory new_state (setup_of (worked e)) (book_of (worked e))
