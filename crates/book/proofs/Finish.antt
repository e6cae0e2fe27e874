-- From what was acted and settled to the whole call.
use Rattle.std.proofs.Common.{◌≡◌, ℕ, ◌+◌, List, [], ◌++◌, length, take, drop, Some, None, Ok, Err, sym, refl, ap, ◌∙◌, subst, ap₂, subst₂, arith}
use Rattle.market.specs.declared.ground.Ground.{Ground}
use Rattle.market.specs.declared.orders.DarkOrder.{DarkOrder}
use Rattle.market.specs.declared.orders.LitOrder.{LitOrder}
use Rattle.market.specs.declared.orders.Fill.{Fill}
use Rattle.market.specs.declared.quotes.Away.{Away}
use Rattle.queue.specs.Queues.{queued, room}
use Rattle.queue.proofs.Appends.{appended_length}
use Rattle.matching.specs.Tables.{Tables}
use Rattle.matching.specs.Settle.{Contents, contents_of}
use Rattle.book.specs.declared.session.Session.{Session}
use Rattle.book.specs.declared.call.Call.{Call}
use Rattle.book.specs.declared.call.Request.{Request}
use Rattle.book.specs.Requests.{request_of}
use Rattle.book.specs.Sessions.{session_then}
use Rattle.book.specs.Grounds.{Facility, State, Memory, ground_of}
use Rattle.book.specs.Steps.{Settling, Answer, Step, refused, accepted, Acts, Called, Worked, Ran, memory_of}
use Rattle.book.proofs.Once.{step_once}

module _ {R : Type 0} (f : Facility R) (s : State R) (m : Memory) (x : Call R) where
  called : (was list : List (Fill R)) (a : Answer) (t : State R) (fs : List (Fill R)) → Step f s m x a fs t → take (length fs) list ≡ fs →
      drop (length fs) list ≡ drop (length fs) was → Called f s m x was a t list
  called was list a t fs w p q =
      record { fills = fs; step = w; only = λ a' fs' t' v. step_once f v w; made = p; past = q }

  pub called_refused : (was : List (Fill R)) (g : Ground) → ground_of f s m x ≡ Some g → Called f s m x was (Err g) s was
  called_refused was g e = called was was (Err g) s [] (refused e) refl refl

  pub called_accepted : (was list : List (Fill R)) (q : Request R) (n traded gone : ℕ) (e : Contents R) (after : Session) → ground_of f s m x ≡ None → request_of x ≡ Some q →
      after ≡ session_then s.session x → Ran f s.session after s.contents q was n traded gone e list →
      Called f s m x was (Ok (n, traded, gone)) (record { session = after; contents = e }) list
  called_accepted was list q n traded gone e after none reads moved r =
      let fs = r.first ++ r.second in
      called was list (Ok (n, traded, gone)) (record { session = after; contents = e }) fs
      (subst₂ (λ (n : ℕ) (y : Session). Step f s m x (Ok (n, traded, gone)) fs (record { session = y; contents = e })) (sym r.count) (sym moved)
      (accepted none reads r.acts (subst (λ (y : Session). Settling f y r.mid r.second e) moved r.settling)))
      r.made r.past

-- from the tables that a call makes of the lent memory to the memory as the host gets it back, and the counts of what is left
module _ {R : Type 0} (f : Facility R) (s after : Session) (q : Request R) (w : Away) (n : ℕ) (traded gone : ℕ) where
  pub ran : (was : List (Fill R)) (ds : List (DarkOrder R)) (ls : List (LitOrder R)) (t t' : Tables R) (w' : Away) (n' : ℕ) →
      Worked f s after (contents_of w n t) q t.fills traded gone (contents_of w' n' t') t'.fills →
      t.fills.places.now ≡ was → t.fills.len ≡ 0 → queued t.darks ≡ ds → queued t.lits ≡ ls →
      (made nd nl : ℕ) (list : List (Fill R)) (dark : List (DarkOrder R)) (lit : List (LitOrder R)) → made ≡ t'.fills.len → nd ≡ t'.darks.len → nl ≡ t'.lits.len →
      list ≡ t'.fills.places.now → dark ≡ t'.darks.places.now → lit ≡ t'.lits.places.now →
      Ran f s after (record { away = w; trades = n; darks = ds; lits = ls }) q was made traded gone
      (record { away = w'; trades = n'; darks = take nd dark; lits = take nl lit }) list
  ran was ds ls t t' w' n' k places zero de le made nd nl list dark lit ne nde nle back dback lback =
      let fs = k.first ++ k.second in
      let long : t'.fills.len ≡ length fs = appended_length fs k.made ∙ ap (λ i. i + length fs) zero ∙ (omega arith) in
      let front : take t'.fills.len t'.fills.places.now ≡ fs = k.made.list ∙ ap (λ i. take i t.fills.places.now ++ fs) zero in
      let rest : drop t'.fills.len t'.fills.places.now ≡ drop (length fs) was =
      k.made.spare ∙ ap (drop (length fs)) (ap (λ i. drop i t.fills.places.now) zero ∙ places) in
      record {
        mid = k.mid;
        first = k.first;
        second = k.second;
        acts =
            subst₂ (λ (xs : List (DarkOrder R)) (ys : List (LitOrder R)). Acts f s (record { away = w; trades = n; darks = xs; lits = ys }) q k.first traded gone k.mid) de le k.acts;
        settling =
            subst₂ (λ (xs : List (DarkOrder R)) (ys : List (LitOrder R)). Settling f after k.mid k.second (record { away = w'; trades = n'; darks = xs; lits = ys }))
            (sym (ap₂ take nde dback)) (sym (ap₂ take nle lback)) k.settling;
        count = ne ∙ long;
        made = ap₂ take (sym long) back ∙ front;
        past = ap₂ drop (sym long) back ∙ rest;
      }

-- the memory that the host gets back is as long as that which it lent
pub same_lengths : {R : Type 0} (t : Tables R) (m : Memory) {dark : List (DarkOrder R)} {lit : List (LitOrder R)} {list : List (Fill R)} →
    dark ≡ t.darks.places.now → lit ≡ t.lits.places.now → list ≡ t.fills.places.now → room t.darks ≡ m.darks → room t.lits ≡ m.lits → room t.fills ≡ m.fills →
    memory_of dark lit list ≡ m
same_lengths t m d l f rd rl rf i = record { darks = (ap length d ∙ rd) i; lits = (ap length l ∙ rl) i; fills = (ap length f ∙ rf) i }
