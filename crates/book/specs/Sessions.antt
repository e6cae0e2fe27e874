-- The sessions of a day: Pre-Open when a book is made, Continuous after the start of trading, closed after the close.
use Rattle.std.specs.Prelude.{Bool, true, false, Some, None, Option}
use Rattle.market.specs.declared.ground.Ground.{Ground}
use Rattle.market.specs.declared.ground.Ground.TheVariants as ground
use Rattle.book.specs.declared.session.Session.{Session}
use Rattle.book.specs.declared.session.Session.TheVariants as session
use Rattle.book.specs.declared.call.Call.{Call}
use Rattle.book.specs.declared.call.Call.TheVariants as call

-- why a session refuses a call: a closed one refuses all; SDL orders come in Continuous, and trading starts once
abbrev pub session_ground : {R : Type 0} → Session → Call R → Option Ground
session_ground session.Closed c = Some ground.Closed
session_ground session.PreOpen (call.Quote w) = None
session_ground session.PreOpen (call.Dark e) = None
session_ground session.PreOpen (call.Sdl e) = Some ground.Session
session_ground session.PreOpen (call.Lit e) = None
session_ground session.PreOpen call.Start = None
session_ground session.Continuous (call.Quote w) = None
session_ground session.Continuous (call.Dark e) = None
session_ground session.Continuous (call.Sdl e) = None
session_ground session.Continuous (call.Lit e) = None
session_ground session.Continuous call.Start = Some ground.Session

-- the session that a call leaves
abbrev pub session_then : {R : Type 0} → Session → Call R → Session
session_then session.Closed c = session.Closed
session_then session.Continuous c = session.Continuous
session_then session.PreOpen (call.Quote w) = session.PreOpen
session_then session.PreOpen (call.Dark e) = session.PreOpen
session_then session.PreOpen (call.Sdl e) = session.PreOpen
session_then session.PreOpen (call.Lit e) = session.PreOpen
session_then session.PreOpen call.Start = session.Continuous

-- after the close
abbrev pub is_closed : Session → Bool
is_closed session.PreOpen = false
is_closed session.Continuous = false
is_closed session.Closed = true

-- between the start of trading and the close
abbrev pub is_continuous : Session → Bool
is_continuous session.PreOpen = false
is_continuous session.Continuous = true
is_continuous session.Closed = false
