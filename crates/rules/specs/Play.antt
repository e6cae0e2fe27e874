-- The sweep, settling and a whole call as functions, so that examples can be computed.
use Rattle.std.specs.Prelude.{ℕ, zero, suc, ◌+◌, ◌-◌, Bool, true, false, List, [], ◌∷◌, ◌++◌, length, Some, None, Ok, Err, Option}
use Rattle.market.specs.declared.ground.Ground.{Ground}
use Rattle.market.specs.declared.ground.Ground.TheVariants as ground
use Rattle.market.specs.declared.orders.DarkOrder.{DarkOrder}
use Rattle.market.specs.declared.orders.Fill.{Fill}
use Rattle.market.specs.declared.quotes.Quote.{Quote}
use Rattle.matching.specs.Choice.{Pick, nobody, found}
use Rattle.matching.specs.Sweep.{Orderings, Run, Chosen, no_one, dark, lit, choice, price_under, dark_fill, lit_fill, after_dark, after_lit}
use Rattle.matching.specs.Settle.{Contents, quote_in, active_dark, start_of, after_sweep, first_to_trade}
use Rattle.book.specs.declared.session.Session.{Session}
use Rattle.book.specs.declared.call.Call.{Call}
use Rattle.book.specs.declared.call.SdlOrder.{SdlOrder}
use Rattle.book.specs.declared.call.Request.{Request}
use Rattle.book.specs.declared.call.Request.TheVariants as request
use Rattle.book.specs.Requests.{request_of}
use Rattle.book.specs.Sessions.{session_then, is_continuous}
use Rattle.book.specs.Grounds.{Facility, State, Memory, ground_of}
use Rattle.book.specs.Steps.{active_sdl, with_away, with_darks, with_lits, after_seek, Answer}

-- what a sweep came to: its fills, and what it left
pub record Played (R : Type 0) : Type 0 where
  pub fills : List (Fill R)
  pub end : Run R

-- a fill, and then the rest of the sweep
abbrev pub fill_then : {R : Type 0} → Fill R → Played R → Played R
fill_then f p = record { fills = f ∷ p.fills; end = p.end }

-- the sweep ends where nobody is chosen; else it trades with the chosen order, and goes on
abbrev pub trade_with : {R : Type 0} → Quote → Run R → (Run R → Played R) → Chosen R → Played R
trade_with q r onward no_one = record { fills = []; end = r }
trade_with q r onward (dark before d after) = fill_then (dark_fill (price_under q d) r.progress d) (onward (after_dark q r before d after))
trade_with q r onward (lit before l after) = fill_then (lit_fill l.price r.progress l) (onward (after_lit r before l after))

-- a sweep of at most n fills
unfoldable pub play : {R : Type 0} → Orderings → Quote → ℕ → Run R → Played R
play o q zero r = record { fills = []; end = r }
play o q (suc n) r = trade_with q r (play o q n) (choice o q r)

-- a whole sweep: each fill ends an order, so one more turn than there are orders is enough
abbrev pub sweep : {R : Type 0} → Orderings → Quote → Run R → Played R
sweep o q r = play o q (length r.darks + length r.lits + 2) r

-- what settling came to: its fills, and what it left
pub record PlayedSettling (R : Type 0) : Type 0 where
  pub fills : List (Fill R)
  pub end : Contents R

-- a round: what a sweep made, and then the rest of settling
abbrev pub round_then : {R : Type 0} → List (Fill R) → PlayedSettling R → PlayedSettling R
round_then fs p = record { fills = fs ++ p.fills; end = p.end }

-- what follows a Dark order's sweep
abbrev pub onward_from : {R : Type 0} → Contents R → DarkOrder R → (Contents R → PlayedSettling R) → Played R → PlayedSettling R
onward_from c d onward p = round_then p.fills (onward (after_sweep c.away d p.end))

-- settling ends where no Dark order may meet another; else the first that may sweeps, and it goes on
abbrev pub settle_with : {R : Type 0} → Orderings → Contents R → (Contents R → PlayedSettling R) → Pick (DarkOrder R) → PlayedSettling R
settle_with o c onward nobody = record { fills = []; end = c }
settle_with o c onward (found before d after) =
    onward_from c d onward (sweep o (quote_in c) (start_of c.trades (active_dark d) (before ++ after) c.lits))

-- settling of at most n rounds
unfoldable pub settle_by : {R : Type 0} → Orderings → ℕ → Contents R → PlayedSettling R
settle_by o zero c = record { fills = []; end = c }
settle_by o (suc n) c = settle_with o c (settle_by o n) (first_to_trade (quote_in c) c.lits c.darks)

-- whole settling: each round ends an order, so one more round than there are orders is enough
abbrev pub settle : {R : Type 0} → Orderings → Contents R → PlayedSettling R
settle o c = settle_by o (length c.darks + length c.lits + 1) c

-- what a request came to before settling: its fills, the shares traded, the shares taken away, and what it left
pub record PlayedRequest (R : Type 0) : Type 0 where
  pub fills : List (Fill R)
  pub traded : ℕ
  pub gone : ℕ
  pub end : Contents R

-- a request without a trade
abbrev pub untraded : {R : Type 0} → Contents R → PlayedRequest R
untraded c = record { fills = []; traded = 0; gone = 0; end = c }

-- a Dark order that swept
abbrev pub entered : {R : Type 0} → Contents R → DarkOrder R → Played R → PlayedRequest R
entered c d p =
    record { fills = p.fills; traded = d.remaining - p.end.progress.active.remaining; gone = 0; end = after_sweep c.away d p.end }

-- an SDL order that swept
abbrev pub sought : {R : Type 0} → Contents R → SdlOrder R → Played R → PlayedRequest R
sought c s p =
    record {
      fills = p.fills;
      traded = s.quantity - p.end.progress.active.remaining;
      gone = p.end.progress.active.remaining;
      end = after_seek c.away p.end;
    }

-- in Continuous a Dark order sweeps; otherwise it joins the end of its queue
abbrev pub enter : {R : Type 0} → Orderings → Contents R → DarkOrder R → Bool → PlayedRequest R
enter o c d true = entered c d (sweep o (quote_in c) (start_of c.trades (active_dark d) c.darks c.lits))
enter o c d false = untraded (with_darks (c.darks ++ d ∷ []) c)

-- what an accepted request does before settling
abbrev pub act : {R : Type 0} → Facility R → Session → Contents R → Request R → PlayedRequest R
act f s c (request.Quote w) = untraded (with_away w c)
act f s c (request.Dark d) = enter f.orderings c d (is_continuous s)
act f s c (request.Sdl o) =
    sought c o (sweep f.orderings (quote_in c) (start_of c.trades (active_sdl f.lot (quote_in c) o) c.darks c.lits))
act f s c (request.Lit l) = untraded (with_lits (c.lits ++ l ∷ []) c)
act f s c request.Start = untraded c

-- in Continuous, Dark orders settle
abbrev pub settle_in : {R : Type 0} → Orderings → Contents R → Bool → PlayedSettling R
settle_in o c true = settle o c
settle_in o c false = record { fills = []; end = c }

-- what a call came to: its answer, its fills, and the book it left
pub record PlayedCall (R : Type 0) : Type 0 where
  pub answer : Answer
  pub fills : List (Fill R)
  pub state : State R

-- what the request and the settling after it came to
abbrev pub finish : {R : Type 0} → Session → PlayedRequest R → PlayedSettling R → PlayedCall R
finish s d p =
    record {
      answer = Ok (length (d.fills ++ p.fills), d.traded, d.gone);
      fills = d.fills ++ p.fills;
      state = record { session = s; contents = p.end };
    }

-- settling after a request, in the session that the call leaves
abbrev pub then_settle : {R : Type 0} → Facility R → Session → PlayedRequest R → PlayedCall R
then_settle f s d = finish s d (settle_in f.orderings d.end (is_continuous s))

-- a call refused: nothing is changed
abbrev pub refuse : {R : Type 0} → State R → Ground → PlayedCall R
refuse s g = record { answer = Err g; fills = []; state = s }

-- a call that no ground refuses, its codes read; one with a code that is not listed never comes here
abbrev pub serve : {R : Type 0} → Facility R → State R → Session → Option (Request R) → PlayedCall R
serve f s next None = refuse s ground.Code
serve f s next (Some q) = then_settle f next (act f s.session s.contents q)

-- refused on a ground, else served
abbrev pub run_on : {R : Type 0} → Facility R → State R → Call R → Option Ground → PlayedCall R
run_on f s x (Some g) = refuse s g
run_on f s x None = serve f s (session_then s.session x) (request_of x)

-- a whole call
unfoldable pub run_call : {R : Type 0} → Facility R → State R → Memory → Call R → PlayedCall R
run_call f s m x = run_on f s x (ground_of f s m x)
