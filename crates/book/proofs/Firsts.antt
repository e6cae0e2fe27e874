-- Which ground is the first to hold.
use Rattle.std.proofs.Common.{◌≡◌, false, true, Some, Ok, Err, Option, ok_or, is_none, arith}
use Rattle.market.specs.declared.ground.Ground.{Ground}
use Rattle.market.specs.declared.ground.Ground.TheVariants as ground
use Rattle.book.specs.declared.session.Session.{Session}
use Rattle.book.specs.declared.call.Call.{Call}
use Rattle.book.specs.Sessions.{session_ground, is_closed}

-- an open session refuses a call by ground 7 alone
pub open_refuses : {R : Type 0} (s : Session) (x : Call R) {g : Ground} → is_closed s ≡ false → session_ground s x ≡ Some g → g ≡ ground.Session
open_refuses s x e h = grind arith

-- what reading a call by its codes answered
pub listed : {X : Type 0} {G : Type 0} (o : Option X) (g : G) {x : X} → Ok x ≡ ok_or o g → o ≡ Some x
listed o g e = grind arith

pub unlisted : {X : Type 0} {G : Type 0} (o : Option X) {g h : G} → Err h ≡ ok_or o g → (is_none o ≡ true) × (h ≡ g)
unlisted o e = grind arith
