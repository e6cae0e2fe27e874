-- A call comes out one way only.
use Rattle.std.proofs.Common.{◌≡◌, ℕ, ◌-◌, List, ◌++◌, length, Ok, Err, sym, refl, ap, subst, ap₂}
use Rattle.market.specs.declared.orders.Fill.{Fill}
use Rattle.matching.specs.Sweep.{Run}
use Rattle.matching.specs.Settle.{Contents, after_sweep}
use Rattle.matching.proofs.Once.{swept_once, settles_once}
use Rattle.book.specs.declared.session.Session.{Session}
use Rattle.book.specs.declared.call.Call.{Call}
use Rattle.book.specs.declared.call.Request.{Request}
use Rattle.book.specs.Sessions.{session_then}
use Rattle.book.specs.Grounds.{Facility, State, Memory}
use Rattle.book.specs.Steps.{after_seek, Acts, quotes, joins, enters, seeks, posts, starts, Settling, rests, runs, Answer, Step, refused, accepted}

module _ {R : Type 0} (f : Facility R) where
  acts_once : {s : Session} {c e e' : Contents R} {x : Request R} {fs gs : List (Fill R)} {m m' n n' : ℕ} → Acts f s c x fs m n e → Acts f s c x gs m' n' e' →
      (fs ≡ gs) × (m ≡ m') × (n ≡ n') × (e ≡ e')
  acts_once quotes quotes = (refl, refl, refl, refl)
  acts_once (joins e) (joins h) = (refl, refl, refl, refl)
  acts_once (joins e) (enters h w) = (cc, cc, cc, cc)
  acts_once (enters e w) (joins h) = (cc, cc, cc, cc)
  acts_once {c} (enters {d} e w) (enters h v) =
      let i = swept_once f.orderings w v in
      (i.0, ap (λ (r : Run R). d.remaining - r.progress.active.remaining) i.1, refl, ap (after_sweep c.away d) i.1)
  acts_once {c} (seeks {o} w) (seeks v) =
      let i = swept_once f.orderings w v in (
        i.0,
        ap (λ (r : Run R). o.quantity - r.progress.active.remaining) i.1,
        ap (λ (r : Run R). r.progress.active.remaining) i.1,
        ap (after_seek c.away) i.1,
      )
  acts_once posts posts = (refl, refl, refl, refl)
  acts_once starts starts = (refl, refl, refl, refl)

  settling_once : {s : Session} {c e e' : Contents R} {fs gs : List (Fill R)} → Settling f s c fs e → Settling f s c gs e' → (fs ≡ gs) × (e ≡ e')
  settling_once (rests e) (rests h) = (refl, refl)
  settling_once (rests e) (runs h t) = (cc, cc)
  settling_once (runs e t) (rests h) = (cc, cc)
  settling_once (runs e t) (runs h u) = settles_once f.orderings t u

  pub step_once : {s t t' : State R} {m : Memory} {x : Call R} {a a' : Answer} {fs gs : List (Fill R)} → Step f s m x a fs t → Step f s m x a' gs t' →
      (a ≡ a') × (fs ≡ gs) × (t ≡ t')
  step_once (refused {g} e) (refused {g = g'} h) = let i : g ≡ g' = cc in (ap Err i, refl, refl)
  step_once (refused e) (accepted h r a w) = (cc, cc, cc)
  step_once (accepted h r a w) (refused e) = (cc, cc, cc)
  step_once {s} {m} {x} (accepted {q} {c} {e} {fs} {gs} {traded = n} {gone = k} h r a w) (accepted {q = q'} {c = c'} {e = e'} {fs = fs'} {gs = gs'} {traded = n'} {gone = k'} h' r' a' w') =
      let same : q' ≡ q = cc in
      let i = acts_once a (subst (λ (y : Request R). Acts f s.session s.contents y fs' n' k' c') same a') in
      let j = settling_once w (subst (λ (z : Contents R). Settling f (session_then s.session x) z gs' e') (sym i.3) w') in
      let all : fs ++ gs ≡ fs' ++ gs' = ap₂ (λ l l'. l ++ l') i.0 j.0 in
      let y : n ≡ n' = i.1 in
      let z : k ≡ k' = i.2 in (
        (λ t. Ok (length (all t), y t, z t)),
        all,
        ap (λ (v : Contents R). record { session = session_then s.session x; contents = v }) j.1,
      )
