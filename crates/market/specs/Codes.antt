-- The lists of codes: what each number stands for, and which numbers stand for nothing.
use Rattle.std.specs.Prelude.{ℕ, Bool, true, false, cond, Some, None, Option, ◌==◌}
use Rattle.market.specs.declared.codes.Side.{Side}
use Rattle.market.specs.declared.codes.Side.TheVariants as side
use Rattle.market.specs.declared.codes.Peg.{Peg}
use Rattle.market.specs.declared.codes.Peg.TheVariants as peg
use Rattle.market.specs.declared.codes.Contra.{Contra}
use Rattle.market.specs.declared.codes.Contra.TheVariants as contra
use Rattle.market.specs.declared.codes.Seek.{Seek}
use Rattle.market.specs.declared.codes.Seek.TheVariants as seek
use Rattle.market.specs.declared.codes.Kind.{Kind}
use Rattle.market.specs.declared.codes.Kind.TheVariants as kind

-- sides: 1 buy, 2 sell
abbrev pub side_of : ℕ → Option Side
side_of n = cond (n == 1) (Some side.Buy) (cond (n == 2) (Some side.Sell) None)

-- pegs: 1 Midpoint, 2 Touch
abbrev pub peg_of : ℕ → Option Peg
peg_of n = cond (n == 1) (Some peg.Midpoint) (cond (n == 2) (Some peg.Touch) None)

-- contra preferences: 1 SDL orders, 2 Dark orders, 3 all
abbrev pub contra_of : ℕ → Option Contra
contra_of n = cond (n == 1) (Some contra.Sdl) (cond (n == 2) (Some contra.Dark) (cond (n == 3) (Some contra.All) None))

-- seek types: 1 all Dark and lit, 2 price improving Dark only, 3 all Dark
abbrev pub seek_of : ℕ → Option Seek
seek_of n = cond (n == 1) (Some seek.DarkAndLit) (cond (n == 2) (Some seek.ImprovingDark) (cond (n == 3) (Some seek.AllDark) None))

-- jitney marks: 0 unmarked, 1 marked
abbrev pub mark_of : ℕ → Option Bool
mark_of n = cond (n == 0) (Some false) (cond (n == 1) (Some true) None)

-- kinds of fill: 1 SDL with Dark, 2 SDL with lit, 3 Dark with Dark
abbrev pub kind_number : Kind → ℕ
kind_number kind.SdlDark = 1
kind_number kind.SdlLit = 2
kind_number kind.DarkDark = 3

-- the other side
abbrev pub opposite : Side → Side
opposite side.Buy = side.Sell
opposite side.Sell = side.Buy

-- whether two sides are opposite, so that their orders could trade
abbrev pub opposed : Side → Side → Bool
opposed side.Buy side.Buy = false
opposed side.Buy side.Sell = true
opposed side.Sell side.Buy = true
opposed side.Sell side.Sell = false
