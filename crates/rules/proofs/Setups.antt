-- The setups of the worked examples, computed call by call.
use Rattle.std.proofs.Common.{◌≡◌, ℕ, List, [], ◌∷◌, Ok, refl, subst}
use Rattle.market.specs.Orders.{sound_dark, sound_lit}
use Rattle.market.specs.Quotes.{best_bid, best_offer, dark_price, nearest_lit}
use Rattle.matching.specs.Meets.{in_bounds, meets_dark, meets_lit}
use Rattle.matching.specs.Sweep.{choice}
use Rattle.matching.specs.Settle.{can_trade, first_to_trade}
use Rattle.book.specs.declared.call.Call.{Call}
use Rattle.book.specs.Requests.{dark_of, lit_of}
use Rattle.book.specs.Grounds.{State, sound_tables, ground_under}
use Rattle.rules.specs.Play.{PlayedCall, play, settle_by, run_call}
use Rattle.rules.specs.Cases.{Worked, facility, memory, book_of, large_sdl, small_sdl, small_sdl_best_here, caps, enough_size_first, dark_with_dark}
use Rattle.rules.specs.Examples.{setup_of, new_state, Brings, done, next, SetupsComeOut}
use Rattle.rules.specs.declared.examples.Example.TheVariants as example
use Rattle.rules.proofs.Called.{computed}

-- what a call comes to
came_to : State ℕ → Call ℕ → PlayedCall ℕ
unfolding run_call ground_under sound_tables sound_dark sound_lit dark_of lit_of play settle_by choice first_to_trade can_trade meets_dark meets_lit in_bounds dark_price best_bid best_offer nearest_lit
came_to s x = run_call facility s memory x

-- accepted without a trade, and leaving this book
abbrev quiet : State ℕ → PlayedCall ℕ
quiet t = record { answer = Ok (0, 0, 0); fills = []; state = t }

-- each call is seen to come out so
abbrev Quiet : State ℕ → List (Call ℕ) → State ℕ → Type 0
Quiet s [] u = s ≡ u
Quiet s (x ∷ xs) u = (came_to s x ≡ quiet (came_to s x).state) × Quiet (came_to s x).state xs u

brings : (xs : List (Call ℕ)) (s u : State ℕ) → Quiet s xs u → Brings facility memory s xs u
unfolding came_to
brings [] s u e = subst (λ v. Brings facility memory s [] v) e done
brings (x ∷ xs) s u h =
    next (computed facility s memory x (Ok (0, 0, 0)) [] (came_to s x).state h.0) (brings xs (came_to s x).state u h.1)

from_new : (w : Worked) → Quiet new_state (setup_of w) (book_of w) → Brings facility memory new_state (setup_of w) (book_of w)
from_new w h = brings (setup_of w) new_state (book_of w) h

pub setups : SetupsComeOut
unfolding came_to
setups example.LargeSdl = from_new large_sdl (refl, (refl, (refl, (refl, (refl, (refl, (refl, refl)))))))
setups example.SmallSdl = from_new small_sdl (refl, (refl, (refl, (refl, (refl, (refl, refl))))))
setups example.SmallSdlBestHere = from_new small_sdl_best_here (refl, (refl, (refl, (refl, (refl, (refl, refl))))))
setups example.Caps = from_new caps (refl, (refl, (refl, (refl, (refl, refl)))))
setups example.EnoughSizeFirst = from_new enough_size_first (refl, (refl, (refl, (refl, (refl, (refl, refl))))))
setups example.DarkWithDark = from_new dark_with_dark (refl, (refl, (refl, (refl, (refl, (refl, (refl, (refl, (refl, (refl, (refl, refl)))))))))))
