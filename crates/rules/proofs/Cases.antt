-- The cases, computed.
use Rattle.std.proofs.Common.{◌≡◌, ℕ, Ok, refl}
use Rattle.market.specs.Orders.{sound_dark, sound_lit}
use Rattle.market.specs.Quotes.{best_bid, best_offer, dark_price, nearest_lit}
use Rattle.matching.specs.Meets.{in_bounds, meets_dark, meets_lit}
use Rattle.matching.specs.Sweep.{choice}
use Rattle.matching.specs.Settle.{can_trade, first_to_trade}
use Rattle.book.specs.Requests.{dark_of, sdl_of}
use Rattle.book.specs.Grounds.{sound_tables, ground_under}
use Rattle.book.specs.Steps.{refused}
use Rattle.rules.specs.Play.{PlayedCall, play, settle_by, run_call}
use Rattle.rules.specs.Cases.{Worked, facility, memory, book_of, book_after, ComesOut, large_sdl, small_sdl, small_sdl_best_here, caps, enough_size_first, dark_with_dark, TwelveCases}
use Rattle.rules.proofs.Called.{computed}

-- what the call of a worked example came to
came_to : Worked → PlayedCall ℕ
unfolding run_call ground_under sound_tables sound_dark sound_lit dark_of sdl_of play settle_by choice first_to_trade can_trade meets_dark meets_lit in_bounds dark_price best_bid best_offer nearest_lit
came_to w = run_call facility (book_of w) memory w.call

-- what it should come to
abbrev outcome : Worked → PlayedCall ℕ
outcome w = record { answer = Ok w.answer; fills = w.fills; state = book_after w }

comes_out : (w : Worked) → came_to w ≡ outcome w → ComesOut w
unfolding came_to
comes_out w e = computed facility (book_of w) memory w.call (Ok w.answer) w.fills (book_after w) e

pub cases : TwelveCases
unfolding came_to
cases =
    record {
      example_1 = comes_out large_sdl refl;
      example_2 = comes_out small_sdl refl;
      example_3 = comes_out small_sdl_best_here refl;
      example_4 = comes_out caps refl;
      example_5 = comes_out enough_size_first refl;
      example_6 = comes_out dark_with_dark refl;
      at_both_bounds = refl;
      worth_more = refl;
      more_lots = refl;
      midpoint = λ w. refl;
      locked = λ w s p cap. refl;
      odd_quantity = refused refl;
      its_ground = refl;
    }
