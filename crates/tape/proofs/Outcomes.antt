-- The call that trades, as code makes it on the book that the others brought about.
use Rattle.std.proofs.Common.{◌≡◌, ℕ, List, length, take, Ok, Err, sym, refl, ap, ◌∙◌, subst}
use Rattle.market.specs.declared.orders.DarkOrder.{DarkOrder}
use Rattle.market.specs.declared.orders.LitOrder.{LitOrder}
use Rattle.market.specs.declared.orders.Fill.{Fill}
use Rattle.matching.specs.declared.active.Priorities.{Priorities}
use Rattle.book.specs.declared.book.Book.{Book}
use Rattle.book.specs.declared.book.Core.{Core}
use Rattle.book.specs.declared.call.Call.{Call}
use Rattle.book.specs.declared.session.Session.{Session}
use Rattle.book.specs.declared.session.Session.TheVariants.{PreOpen}
use Rattle.book.specs.Grounds.{State}
use Rattle.book.specs.Steps.{Answer, Called, Step, New, state_of}
use Rattle.rules.specs.declared.examples.Example.{Example}
use Rattle.rules.specs.declared.examples.Example.TheVariants as example
use Rattle.rules.specs.Cases.{facility, memory, book_of, book_after, ComesOut}
use Rattle.rules.specs.Examples.{worked, setup_of, new_state, Brings}
use Rattle.rules.proofs.Cases.{cases}
use Rattle.rules.proofs.Setups.{setups}

come_out : (e : Example) → ComesOut (worked e)
come_out example.LargeSdl = cases.example_1
come_out example.SmallSdl = cases.example_2
come_out example.SmallSdlBestHere = cases.example_3
come_out example.Caps = cases.example_4
come_out example.EnoughSizeFirst = cases.example_5
come_out example.DarkWithDark = cases.example_6

counted : (e : Example) → length (worked e).fills ≡ (worked e).answer.0
counted example.LargeSdl = refl
counted example.SmallSdl = refl
counted example.SmallSdlBestHere = refl
counted example.Caps = refl
counted example.EnoughSizeFirst = refl
counted example.DarkWithDark = refl

-- a book with these parts
abbrev state_with : Session → Core → List (DarkOrder ℕ) → List (LitOrder ℕ) → State ℕ
state_with s k ds ls = record { session = s; contents = record { away = k.away; trades = k.trades; darks = ds; lits = ls } }

module _ {D L : Type 0} {n : ℕ} {p : Priorities D L} (b : Book D L) (dark : List (DarkOrder ℕ)) (lit : List (LitOrder ℕ)) (h : New n p b) where
  fresh : state_of b dark lit ≡ new_state
  fresh =
      ap (λ s. state_with s b.core (take b.darks dark) (take b.lits lit)) h.session
      ∙ ap (λ k. state_with PreOpen k (take b.darks dark) (take b.lits lit)) h.core
      ∙ ap (λ d. state_with PreOpen (record { lot = n; away = record { bid = 0; offer = 0 }; trades = 0 }) (take d dark) (take b.lits lit)) h.darks
      ∙ ap (λ l. state_with PreOpen (record { lot = n; away = record { bid = 0; offer = 0 }; trades = 0 }) (take 0 dark) (take l lit)) h.lits

  -- an example's setup on a new book
  pub set_up : (e : Example) (calls : List (Call ℕ)) → calls ≡ setup_of (worked e) → Brings facility memory (state_of b dark lit) calls (book_of (worked e))
  set_up e calls is =
      subst (λ s. Brings facility memory s calls (book_of (worked e))) (sym fresh)
      (subst (λ xs. Brings facility memory new_state xs (book_of (worked e))) (sym is) (setups e))

-- how many trades, and how many shares were cancelled
first_part : Answer → ℕ
first_part (Ok n) = n.0
first_part (Err g) = 0

last_part : Answer → ℕ
last_part (Ok n) = n.2
last_part (Err g) = 0

module _ (e : Example) (s : State ℕ) (x : Call ℕ) (was : List (Fill ℕ)) (a : Answer) (t : State ℕ) (list : List (Fill ℕ)) (at : s ≡ book_of (worked e)) (is : x ≡ (worked e).call)
    (k : Called facility s memory x was a t list) where
  -- the step that is proved of the example is the only one
  stepped : Step facility s memory x (Ok (worked e).answer) (worked e).fills (book_after (worked e))
  stepped =
      subst (λ v. Step facility v memory x (Ok (worked e).answer) (worked e).fills (book_after (worked e))) (sym at)
      (subst (λ y. Step facility (book_of (worked e)) memory y (Ok (worked e).answer) (worked e).fills (book_after (worked e))) (sym is) (come_out e))

  pub answered : Ok (worked e).answer ≡ a
  answered = (k.only (Ok (worked e).answer) (worked e).fills (book_after (worked e)) stepped).0

  pub came_out : (n traded gone : ℕ) → a ≡ Ok (n, traded, gone) → (n ≡ (worked e).answer.0) × (gone ≡ (worked e).answer.2) × (take n list ≡ (worked e).fills)
  unfolding first_part last_part
  came_out n traded gone q =
      let u : Ok (worked e).answer ≡ Ok (n, traded, gone) = answered ∙ q in
      let m : (worked e).answer.0 ≡ n = ap first_part u in
      let fs : (worked e).fills ≡ k.fills = (k.only (Ok (worked e).answer) (worked e).fills (book_after (worked e)) stepped).1 in
      let len : length k.fills ≡ n = ap length (sym fs) ∙ counted e ∙ m in
      (sym m, sym (ap last_part u), ap (λ j. take j list) (sym len) ∙ k.made ∙ sym fs)
