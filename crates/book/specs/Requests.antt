-- A call read as a request: each code by its list, the other fields as they are; nothing where a code is not listed.
use Rattle.std.specs.Prelude.{Bool, Some, None, Option, option_map}
use Rattle.market.specs.declared.codes.Side.{Side}
use Rattle.market.specs.declared.codes.Peg.{Peg}
use Rattle.market.specs.declared.codes.Contra.{Contra}
use Rattle.market.specs.declared.codes.Seek.{Seek}
use Rattle.market.specs.declared.orders.DarkOrder.{DarkOrder}
use Rattle.market.specs.declared.orders.LitOrder.{LitOrder}
use Rattle.market.specs.Codes.{side_of, peg_of, contra_of, seek_of, mark_of}
use Rattle.book.specs.declared.call.DarkEntry.{DarkEntry}
use Rattle.book.specs.declared.call.SdlEntry.{SdlEntry}
use Rattle.book.specs.declared.call.LitEntry.{LitEntry}
use Rattle.book.specs.declared.call.SdlOrder.{SdlOrder}
use Rattle.book.specs.declared.call.Call.{Call}
use Rattle.book.specs.declared.call.Call.TheVariants as call
use Rattle.book.specs.declared.call.Request.{Request}
use Rattle.book.specs.declared.call.Request.TheVariants as request

-- a Dark entry as an order, where each of its codes is listed
abbrev pub dark_with : {R : Type 0} → DarkEntry R → Option Side → Option Peg → Option Contra → Option Bool → Option (DarkOrder R)
dark_with e (Some s) (Some p) (Some c) (Some j) =
    Some (record {
      member = e.member;
      reference = e.reference;
      side = s;
      remaining = e.quantity;
      peg = p;
      cap = e.cap;
      contra = c;
      minimum = e.minimum;
      jitney = j;
      key = e.key;
    })
dark_with e None p c j = None
dark_with e (Some s) None c j = None
dark_with e (Some s) (Some p) None j = None
dark_with e (Some s) (Some p) (Some c) None = None

-- an SDL entry as an order, where each of its codes is listed
abbrev pub sdl_with : {R : Type 0} → SdlEntry R → Option Side → Option Seek → Option Bool → Option (SdlOrder R)
sdl_with e (Some s) (Some k) (Some j) =
    Some (record { member = e.member; reference = e.reference; side = s; quantity = e.quantity; limit = e.limit; seek = k; jitney = j })
sdl_with e None k j = None
sdl_with e (Some s) None j = None
sdl_with e (Some s) (Some k) None = None

-- a lit entry as an order, where each of its codes is listed
abbrev pub lit_with : {R : Type 0} → LitEntry R → Option Side → Option Bool → Option (LitOrder R)
lit_with e (Some s) (Some j) = Some (record { member = e.member; reference = e.reference; side = s; remaining = e.quantity; price = e.price; jitney = j })
lit_with e None j = None
lit_with e (Some s) None = None

-- a Dark entry as the order it would rest
unfoldable pub dark_of : {R : Type 0} → DarkEntry R → Option (DarkOrder R)
dark_of e = dark_with e (side_of e.side) (peg_of e.peg) (contra_of e.contra) (mark_of e.jitney)

-- an SDL entry as the order that sweeps
unfoldable pub sdl_of : {R : Type 0} → SdlEntry R → Option (SdlOrder R)
sdl_of e = sdl_with e (side_of e.side) (seek_of e.seek) (mark_of e.jitney)

-- a lit entry as the order it would rest
unfoldable pub lit_of : {R : Type 0} → LitEntry R → Option (LitOrder R)
lit_of e = lit_with e (side_of e.side) (mark_of e.jitney)

-- the request that a call makes
abbrev pub request_of : {R : Type 0} → Call R → Option (Request R)
request_of (call.Quote w) = Some (request.Quote w)
request_of (call.Dark e) = option_map request.Dark (dark_of e)
request_of (call.Sdl e) = option_map request.Sdl (sdl_of e)
request_of (call.Lit e) = option_map request.Lit (lit_of e)
request_of call.Start = Some request.Start
