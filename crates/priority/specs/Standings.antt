-- The orderings that the priorities mean.
use Rattle.std.specs.Prelude.{Bool, true, false, not, ◌&&◌, ◌||◌, ◌==◌, nat_le}
use Rattle.market.specs.declared.codes.Kind.{Kind}
use Rattle.market.specs.declared.codes.Kind.TheVariants.{SdlDark, SdlLit, DarkDark}
use Rattle.std.specs.declared.cmp.Ordering.{Ordering}
use Rattle.std.specs.declared.cmp.Ordering.TheVariants.{Less, Equal, Greater}
use Rattle.std.specs.Ordering.{bool_cmp}
use Rattle.priority.specs.declared.standing.ActiveView.{ActiveView}
use Rattle.priority.specs.declared.standing.RestingView.{RestingView}

-- how two resting orders stand to each other: Less where the first is ahead, Greater where the second is, Equal where
-- they are level
abbrev pub Standing : Type 0
Standing = Ordering

-- the first is not behind the second
abbrev pub NotBehind : Standing → Type 0
NotBehind Less = Unit {0}
NotBehind Equal = Unit {0}
NotBehind Greater = ⊥

-- one that passes a test is ahead of one that does not
abbrev pub by_test : Bool → Bool → Standing
by_test first second = bool_cmp second first

-- jitney marks count, except where an SDL order meets a Dark order
abbrev pub marks_count : Kind → Bool
marks_count SdlDark = false
marks_count SdlLit = true
marks_count DarkDark = true

-- the resting order is of the active order's member; where marks count, a marked order is nobody's
abbrev pub own_order : ActiveView → RestingView → Bool
own_order q a = q.member == a.member && (not (marks_count q.kind) || (not q.jitney && not a.jitney))

-- the resting order has as many shares as the active order needs
abbrev pub enough_shares : ActiveView → RestingView → Bool
enough_shares q a = nat_le q.need a.remaining
