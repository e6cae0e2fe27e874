-- Twelve cases: six worked examples, each a book, a call and what comes of it; and six small ones.
-- Prices and limits count quarter cents, so that 10014 is $25.035; quantities count shares.
use Rattle.std.specs.Prelude.{◌≡◌, ℕ, ◌+◌, false, List, [], ◌∷◌, length, Ok, Err}
use Rattle.market.specs.declared.codes.Side.{Side}
use Rattle.market.specs.declared.codes.Side.TheVariants.{Buy}
use Rattle.market.specs.declared.codes.Peg.{Peg}
use Rattle.market.specs.declared.codes.Peg.TheVariants.{Midpoint, Touch}
use Rattle.market.specs.declared.codes.Contra.{Contra}
use Rattle.market.specs.declared.codes.Contra.TheVariants as contra
use Rattle.market.specs.declared.codes.Kind.{Kind}
use Rattle.market.specs.declared.codes.Kind.TheVariants.{SdlDark, SdlLit, DarkDark}
use Rattle.market.specs.declared.ground.Ground.TheVariants as ground
use Rattle.market.specs.declared.orders.DarkOrder.{DarkOrder}
use Rattle.market.specs.declared.orders.LitOrder.{LitOrder}
use Rattle.market.specs.declared.orders.Party.{Party}
use Rattle.market.specs.declared.orders.Fill.{Fill}
use Rattle.market.specs.declared.quotes.Away.{Away}
use Rattle.market.specs.declared.quotes.Quote.{Quote}
use Rattle.market.specs.declared.sizes.Size.TheVariants.{Small, Large}
use Rattle.market.specs.Grounds.{ground_number}
use Rattle.market.specs.Quotes.{midpoint_of, dark_price}
use Rattle.market.specs.Sizes.{size_class}
use Rattle.std.specs.Ordering.{ordering_then}
use Rattle.priority.specs.Standings.{by_test, own_order, enough_shares}
use Rattle.matching.specs.Choice.{Ordering}
use Rattle.book.specs.declared.session.Session.TheVariants.{Continuous}
use Rattle.book.specs.declared.call.Call.{Call}
use Rattle.book.specs.declared.call.Call.TheVariants as call
use Rattle.book.specs.Grounds.{Facility, State, Memory}
use Rattle.book.specs.Steps.{Step}

-- orders of the active order's member are ahead of others
abbrev pub own_member : Ordering
own_member q a b = by_test (own_order q a) (own_order q b)

-- orders whose remaining shares reach the need are ahead of others
abbrev pub enough_size : Ordering
enough_size q a b = by_test (enough_shares q a) (enough_shares q b)

-- the lot is 100 shares; Dark orders go by Own Member, then by Enough Size, and lit orders by Own Member; references are numbers
abbrev pub facility : Facility ℕ
facility =
    record
    { lot = 100; orderings = record { dark = λ q a b. ordering_then (own_member q a b) (enough_size q a b); lit = own_member }; number = λ n. n }

-- the memory that the book is lent
abbrev pub memory : Memory
memory = record { darks = 256; lits = 256; fills = 513 }

-- the dealers A, B and C are members 1, 2 and 3
abbrev pub dealer_A : ℕ
dealer_A = 1

abbrev pub dealer_B : ℕ
dealer_B = 2

abbrev pub dealer_C : ℕ
dealer_C = 3

-- references: of the Dark orders D1 to D9, of the lit orders C1 and C2, of the SDL orders S1 to S5
abbrev pub D : ℕ → ℕ
D n = n

abbrev pub C : ℕ → ℕ
C n = 100 + n

abbrev pub S : ℕ → ℕ
S n = 200 + n

-- the best bid and offer of the other markets
abbrev pub away_quote : ℕ → ℕ → Away
away_quote bid offer = record { bid = bid; offer = offer }

-- a resting Dark buy without cap and minimum: dealer, reference, shares, peg, contra preference
abbrev pub dark_buy : ℕ → ℕ → ℕ → Peg → Contra → DarkOrder ℕ
dark_buy dealer reference shares peg c =
    record
    { member = dealer; reference = reference; side = Buy; remaining = shares; peg = peg; cap = 0; contra = c; minimum = 0; jitney = false; key = 0 }

-- a Dark order with this cap
abbrev pub with_cap : ℕ → DarkOrder ℕ → DarkOrder ℕ
with_cap cap d =
    record {
      member = d.member;
      reference = d.reference;
      side = d.side;
      remaining = d.remaining;
      peg = d.peg;
      cap = cap;
      contra = d.contra;
      minimum = d.minimum;
      jitney = d.jitney;
      key = d.key;
    }

-- a Dark order with this minimum acceptable quantity
abbrev pub with_minimum : ℕ → DarkOrder ℕ → DarkOrder ℕ
with_minimum minimum d =
    record {
      member = d.member;
      reference = d.reference;
      side = d.side;
      remaining = d.remaining;
      peg = d.peg;
      cap = d.cap;
      contra = d.contra;
      minimum = minimum;
      jitney = d.jitney;
      key = d.key;
    }

-- a resting lit buy: dealer, reference, shares, price
abbrev pub lit_buy : ℕ → ℕ → ℕ → ℕ → LitOrder ℕ
lit_buy dealer reference shares price =
    record { member = dealer; reference = reference; side = Buy; remaining = shares; price = price; jitney = false }

-- the entry of an SDL sell that seeks all Dark and lit: dealer, reference, shares, limit, with 0 for a sell at market
abbrev pub sdl_sell : ℕ → ℕ → ℕ → ℕ → Call ℕ
sdl_sell dealer reference shares limit =
    call.Sdl (record { member = dealer; reference = reference; side = 2; quantity = shares; limit = limit; seek = 1; jitney = 0 })

-- the entry of a Dark Midpoint sell that trades with all: dealer, reference, shares
abbrev pub dark_sell : ℕ → ℕ → ℕ → Call ℕ
dark_sell dealer reference shares =
    call.Dark
    (record
    { member = dealer; reference = reference; side = 2; quantity = shares; peg = 1; cap = 0; contra = 3; minimum = 0; jitney = 0; key = 0 })

-- one end of a trade: dealer, reference
abbrev pub party : ℕ → ℕ → Party ℕ
party dealer reference = record { member = dealer; reference = reference }

-- a trade: number, buyer, seller, shares, price, who met whom
abbrev pub trade : ℕ → Party ℕ → Party ℕ → ℕ → ℕ → Kind → Fill ℕ
trade number buyer seller shares price kind =
    record { number = number; buyer = buyer; seller = seller; shares = shares; price = price; kind = kind }

-- a worked example
pub record Worked : Type 0 where
  -- the best bid and offer of the other markets
  pub away : Away
  -- the Dark orders, in the order of their queue
  pub darks : List (DarkOrder ℕ)
  -- the lit orders, in the order of time
  pub lits : List (LitOrder ℕ)
  -- the order that is entered
  pub call : Call ℕ
  -- the trades, first to last
  pub fills : List (Fill ℕ)
  -- how many trades, how many shares the entered order traded, how many of its shares were cancelled
  pub answer : ℕ × ℕ × ℕ
  -- the Dark orders that rest afterwards, in the order of their queue
  pub darks_left : List (DarkOrder ℕ)
  -- the lit orders that rest afterwards, in the order of time
  pub lits_left : List (LitOrder ℕ)

-- the book of a worked example, in Continuous and before the first trade of the day
abbrev pub book_of : Worked → State ℕ
book_of w = record { session = Continuous; contents = record { away = w.away; trades = 0; darks = w.darks; lits = w.lits } }

-- the book afterwards: its trades counted, and these orders left
abbrev pub book_after : Worked → State ℕ
book_after w =
    record { session = Continuous; contents = record { away = w.away; trades = length w.fills; darks = w.darks_left; lits = w.lits_left } }

-- a worked example comes out: the call is accepted with this answer and these trades, and leaves this book
abbrev pub ComesOut : Worked → Type 0
ComesOut w = Step facility (book_of w) memory w.call (Ok w.answer) w.fills (book_after w)

-- 1. A Large SDL order. The quote is 25.02 to 25.05, the midpoint 25.035.
abbrev pub large_sdl : Worked
large_sdl =
    record {
      away = away_quote 10008 10020;
      darks =
          dark_buy dealer_A (D 1) 1200 Touch contra.Sdl
          ∷ dark_buy dealer_A (D 2) 500 Midpoint contra.All
          ∷ dark_buy dealer_B (D 3) 1500 Midpoint contra.All
          ∷ [];
      lits = lit_buy dealer_B (C 1) 1200 10008 ∷ lit_buy dealer_B (C 2) 600 10004 ∷ [];
      call = sdl_sell dealer_B (S 1) 6000 10004;
      fills =
          -- the best price, and an order of the seller's own dealer before one of another
          trade 1 (party dealer_B (D 3)) (party dealer_B (S 1)) 1500 10014 SdlDark
          -- the best price that is left
          ∷ trade 2 (party dealer_A (D 2)) (party dealer_B (S 1)) 500 10014 SdlDark
          -- at one price lit goes before Dark
          ∷ trade 3 (party dealer_B (C 1)) (party dealer_B (S 1)) 1200 10008 SdlLit
          -- no lit buy rests at this price any more; the other, C2, is below the other markets' bid
          ∷ trade 4 (party dealer_A (D 1)) (party dealer_B (S 1)) 1200 10008 SdlDark
          ∷ [];
      answer = (4, 4400, 1600);
      darks_left = [];
      lits_left = lit_buy dealer_B (C 2) 600 10004 ∷ [];
    }

-- 2. A Small SDL order. The quote is 4.56 to 4.58, the midpoint 4.57.
abbrev pub small_sdl : Worked
small_sdl =
    record {
      away = away_quote 1824 1832;
      darks = dark_buy dealer_B (D 1) 500 Midpoint contra.All ∷ dark_buy dealer_A (D 2) 400 Touch contra.Sdl ∷ [];
      lits = lit_buy dealer_A (C 1) 200 1824 ∷ lit_buy dealer_B (C 2) 600 1820 ∷ [];
      call = sdl_sell dealer_B (S 2) 2000 1820;
      fills =
          trade 1 (party dealer_B (D 1)) (party dealer_B (S 2)) 500 1828 SdlDark
          -- not below the other markets' bid; D2 is not above it, as a Small order asks for, and C2 is below it
          ∷ trade 2 (party dealer_A (C 1)) (party dealer_B (S 2)) 200 1824 SdlLit
          ∷ [];
      answer = (2, 700, 1300);
      darks_left = dark_buy dealer_A (D 2) 400 Touch contra.Sdl ∷ [];
      lits_left = lit_buy dealer_B (C 2) 600 1820 ∷ [];
    }

-- 3. The same, but the other markets' bid is 4.55: the lit order C1 alone makes the best bid of 4.56.
abbrev pub small_sdl_best_here : Worked
small_sdl_best_here =
    record {
      away = away_quote 1820 1832;
      darks = dark_buy dealer_B (D 1) 500 Midpoint contra.All ∷ dark_buy dealer_A (D 2) 400 Touch contra.Sdl ∷ [];
      lits = lit_buy dealer_A (C 1) 200 1824 ∷ lit_buy dealer_B (C 2) 600 1820 ∷ [];
      call = sdl_sell dealer_B (S 3) 2000 1820;
      fills =
          trade 1 (party dealer_B (D 1)) (party dealer_B (S 3)) 500 1828 SdlDark
          ∷ trade 2 (party dealer_A (C 1)) (party dealer_B (S 3)) 200 1824 SdlLit
          -- above the other markets' bid, and still priced at the best bid that stood when the sweep began
          ∷ trade 3 (party dealer_A (D 2)) (party dealer_B (S 3)) 400 1824 SdlDark
          ∷ trade 4 (party dealer_B (C 2)) (party dealer_B (S 3)) 600 1820 SdlLit
          ∷ [];
      answer = (4, 1700, 300);
      darks_left = [];
      lits_left = [];
    }

-- 4. Caps. The quote is 9.98 to 10.01, the midpoint 9.995; the caps are 10.00, 9.99 and 9.97.
abbrev pub caps : Worked
caps =
    record {
      away = away_quote 3992 4004;
      darks =
          with_cap 4000 (dark_buy dealer_A (D 1) 500 Midpoint contra.All)
          ∷ with_cap 3996 (dark_buy dealer_B (D 2) 1500 Midpoint contra.All)
          ∷ with_cap 3988 (dark_buy dealer_A (D 3) 1200 Touch contra.Sdl)
          ∷ [];
      lits = [];
      call = sdl_sell dealer_B (S 4) 6000 0;
      fills =
          -- priced at the midpoint: the best price goes before an order of the seller's own dealer
          trade 1 (party dealer_A (D 1)) (party dealer_B (S 4)) 500 3998 SdlDark
          -- priced at its cap; D3, priced at its cap too, is below the other markets' bid
          ∷ trade 2 (party dealer_B (D 2)) (party dealer_B (S 4)) 1500 3996 SdlDark
          ∷ [];
      answer = (2, 2000, 4000);
      darks_left = with_cap 3988 (dark_buy dealer_A (D 3) 1200 Touch contra.Sdl) ∷ [];
      lits_left = [];
    }

-- 5. Enough Size. The quote is 17.66 to 17.67, the midpoint 17.665.
abbrev pub enough_size_first : Worked
enough_size_first =
    record {
      away = away_quote 7064 7068;
      darks =
          dark_buy dealer_B (D 1) 1000 Midpoint contra.All
          ∷ dark_buy dealer_A (D 2) 1000 Touch contra.Sdl
          ∷ dark_buy dealer_A (D 3) 5000 Touch contra.All
          ∷ [];
      lits = lit_buy dealer_C (C 1) 500 7064 ∷ [];
      call = sdl_sell dealer_B (S 5) 6000 0;
      fills =
          trade 1 (party dealer_B (D 1)) (party dealer_B (S 5)) 1000 7066 SdlDark
          ∷ trade 2 (party dealer_C (C 1)) (party dealer_B (S 5)) 500 7064 SdlLit
          -- 4,500 shares are needed: D3 has as many, and goes before D2
          ∷ trade 3 (party dealer_A (D 3)) (party dealer_B (S 5)) 4500 7064 SdlDark
          ∷ [];
      answer = (3, 6000, 0);
      darks_left = dark_buy dealer_A (D 2) 1000 Touch contra.Sdl ∷ dark_buy dealer_A (D 3) 500 Touch contra.All ∷ [];
      lits_left = [];
    }

-- 6. Dark with Dark. The quote is 6.04 to 6.07, the midpoint 6.055.
abbrev pub dark_with_dark : Worked
dark_with_dark =
    record {
      away = away_quote 2416 2428;
      darks =
          dark_buy dealer_B (D 1) 5000 Midpoint contra.All
          ∷ dark_buy dealer_A (D 8) 4000 Touch contra.Sdl
          ∷ dark_buy dealer_A (D 2) 6000 Midpoint contra.Sdl
          ∷ with_cap 2420 (dark_buy dealer_A (D 3) 6000 Midpoint contra.All)
          ∷ with_minimum 12000 (dark_buy dealer_B (D 4) 20000 Midpoint contra.Dark)
          ∷ dark_buy dealer_A (D 5) 2000 Midpoint contra.All
          ∷ dark_buy dealer_B (D 6) 1000 Midpoint contra.All
          ∷ with_minimum 2000 (dark_buy dealer_C (D 7) 3000 Midpoint contra.Dark)
          ∷ [];
      lits = lit_buy dealer_C (C 1) 100 2416 ∷ [];
      call = dark_sell dealer_A (D 9) 10000;
      fills =
          -- an order of the seller's own dealer
          trade 1 (party dealer_A (D 5)) (party dealer_A (D 9)) 2000 2422 DarkDark
          -- 10,000 shares are needed, and nobody has as many: the first in the queue
          ∷ trade 2 (party dealer_B (D 1)) (party dealer_A (D 9)) 5000 2422 DarkDark
          -- the need at a price is taken once, so it is still 10,000: D6 stands before D7
          ∷ trade 3 (party dealer_B (D 6)) (party dealer_A (D 9)) 1000 2422 DarkDark
          -- its minimum is at most the 2,000 that remain
          ∷ trade 4 (party dealer_C (D 7)) (party dealer_A (D 9)) 2000 2422 DarkDark
          ∷ [];
      answer = (4, 10000, 0);
      darks_left =
          dark_buy dealer_A (D 8) 4000 Touch contra.Sdl
          ∷ dark_buy dealer_A (D 2) 6000 Midpoint contra.Sdl
          ∷ with_cap 2420 (dark_buy dealer_A (D 3) 6000 Midpoint contra.All)
          ∷ with_minimum 12000 (dark_buy dealer_B (D 4) 20000 Midpoint contra.Dark)
          -- a minimum falls to what remains
          ∷ with_minimum 1000 (dark_buy dealer_C (D 7) 1000 Midpoint contra.Dark)
          ∷ [];
      lits_left = lit_buy dealer_C (C 1) 100 2416 ∷ [];
    }

-- the best bid and offer of all markets, whatever those of the others
abbrev pub best_quote : ℕ → ℕ → Away → Quote
best_quote bid offer w = record { bid = bid; offer = offer; away = w }

pub record TwelveCases : Type 0 where
  pub example_1 : ComesOut large_sdl
  pub example_2 : ComesOut small_sdl
  pub example_3 : ComesOut small_sdl_best_here
  pub example_4 : ComesOut caps
  pub example_5 : ComesOut enough_size_first
  pub example_6 : ComesOut dark_with_dark
  -- 5,000 shares at 20.00 are 50 lots worth $100,000: Small
  pub at_both_bounds : size_class 100 5000 8000 ≡ Small
  -- at 20.01 they are worth more: Large
  pub worth_more : size_class 100 5000 8004 ≡ Large
  -- 5,100 shares are 51 lots: Large, at 1.00 too
  pub more_lots : size_class 100 5100 400 ≡ Large
  -- between 0.495 and 0.51 the midpoint is 0.5025
  pub midpoint : (w : Away) → midpoint_of (best_quote 198 204 w) ≡ 201
  -- where bid and offer are both 0.495 the quote is locked, and no Dark order has a price
  pub locked : (w : Away) (s : Side) (p : Peg) (cap : ℕ) → dark_price (best_quote 198 198 w) s p cap ≡ 0
  -- the Dark sell of the sixth example, but of 150 shares, which are no whole lots: refused, with nothing changed
  pub odd_quantity : Step facility (book_of dark_with_dark) memory (dark_sell dealer_A (D 9) 150) (Err ground.Quantity) [] (book_of dark_with_dark)
  -- the ground is that of quantities, number 10
  pub its_ground : ground_number ground.Quantity ≡ 10
