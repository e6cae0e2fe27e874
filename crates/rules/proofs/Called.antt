-- A whole call as a function is a step of the book.
use Rattle.std.specs.Option.{is_none}
use Rattle.std.proofs.Common.{◌≡◌, Bool, true, false, List, Some, None, Option, refl, ap, subst}
use Rattle.std.proofs.lemmas.Bool.{both_ways}
use Rattle.market.specs.declared.ground.Ground.{Ground}
use Rattle.market.specs.declared.orders.DarkOrder.{DarkOrder}
use Rattle.market.specs.declared.orders.Fill.{Fill}
use Rattle.matching.specs.Settle.{Contents, quote_in, active_dark, start_of}
use Rattle.book.specs.declared.session.Session.{Session}
use Rattle.book.specs.declared.call.Call.{Call}
use Rattle.book.specs.declared.call.Request.{Request}
use Rattle.book.specs.declared.call.Request.TheVariants as request
use Rattle.book.specs.Requests.{request_of}
use Rattle.book.specs.Sessions.{session_then, is_continuous}
use Rattle.book.specs.Grounds.{Facility, State, Memory, checks, ground_of, ground_under}
use Rattle.book.specs.Steps.{active_sdl, Answer, Acts, quotes, joins, enters, seeks, posts, starts, Settling, rests, runs, Step, refused, accepted}
use Rattle.book.proofs.Passed.{all_pass}
use Rattle.rules.specs.Play.{PlayedRequest, PlayedCall, enter, act, settle_in, serve, run_on, run_call}
use Rattle.rules.proofs.Played.{swept}
use Rattle.rules.proofs.Settled.{settling_ends}

module _ {R : Type 0} (f : Facility R) (s : Session) where
  -- what the function came to is what the request does
  abbrev pub ActsTo : Contents R → Request R → PlayedRequest R → Type 0
  ActsTo c q d = Acts f s c q d.fills d.traded d.gone d.end

  enter_acts : (c : Contents R) (d : DarkOrder R) (t : Bool) → is_continuous s ≡ t → ActsTo c (request.Dark d) (enter f.orderings c d t)
  enter_acts c d true e = enters e (swept f.orderings (quote_in c) (start_of c.trades (active_dark d) c.darks c.lits))
  enter_acts c d false e = joins e

  pub acted : (c : Contents R) (q : Request R) → ActsTo c q (act f s c q)
  acted c (request.Quote w) = quotes
  acted c (request.Dark d) = enter_acts c d (is_continuous s) refl
  acted c (request.Sdl o) = seeks (swept f.orderings (quote_in c) (start_of c.trades (active_sdl f.lot (quote_in c) o) c.darks c.lits))
  acted c (request.Lit l) = posts
  acted c request.Start = starts

  pub settled_in : (c : Contents R) (t : Bool) → is_continuous s ≡ t →
      Settling f s c (settle_in f.orderings c t).fills (settle_in f.orderings c t).end
  settled_in c true e = runs e (settling_ends f.orderings c)
  settled_in c false e = rests e

module _ {R : Type 0} (f : Facility R) (s : State R) (m : Memory) (x : Call R) where
  -- a call that no ground refuses can be read
  readable : ground_of f s m x ≡ None → is_none (request_of x) ≡ false
  unfolding ground_under
  readable e = (all_pass (checks f.number f.lot s m x) e).1.1.1.1.0

  -- what the function came to is what the step comes to
  abbrev pub StepsTo : PlayedCall R → Type 0
  StepsTo n = Step f s m x n.answer n.fills n.state

  served : ground_of f s m x ≡ None → (p : Option (Request R)) → request_of x ≡ p → StepsTo (serve f s (session_then s.session x) p)
  served e None h = absurd (both_ways _ (readable e) (ap is_none h))
  served e (Some q) h =
      accepted e h (acted f s.session s.contents q)
      (settled_in f (session_then s.session x) (act f s.session s.contents q).end (is_continuous (session_then s.session x)) refl)

  ran_on : (g : Option Ground) → ground_of f s m x ≡ g → StepsTo (run_on f s x g)
  ran_on (Some g) e = refused e
  ran_on None e = served e (request_of x) refl

  pub ran : StepsTo (run_call f s m x)
  unfolding run_call
  ran = ran_on (ground_of f s m x) refl

  -- a step, where the function was seen to come to it
  pub computed : (a : Answer) (fs : List (Fill R)) (t : State R) → run_call f s m x ≡ record { answer = a; fills = fs; state = t } → Step f s m x a fs t
  computed a fs t e = subst StepsTo e ran
