-- Who may meet whom.
use Rattle.std.specs.Prelude.{ℕ, Bool, true, false, not, ◌&&◌, ◌==◌, nat_le, nat_lt}
use Rattle.market.specs.declared.codes.Side.{Side}
use Rattle.market.specs.declared.codes.Peg.{Peg}
use Rattle.market.specs.declared.codes.Peg.TheVariants as peg
use Rattle.market.specs.declared.codes.Contra.{Contra}
use Rattle.market.specs.declared.codes.Contra.TheVariants as contra
use Rattle.market.specs.declared.codes.Seek.{Seek}
use Rattle.market.specs.declared.codes.Seek.TheVariants as seek
use Rattle.market.specs.declared.sizes.Size.{Size}
use Rattle.market.specs.declared.sizes.Size.TheVariants as size
use Rattle.market.specs.declared.orders.DarkOrder.{DarkOrder}
use Rattle.market.specs.declared.orders.LitOrder.{LitOrder}
use Rattle.market.specs.Codes.{opposed}
use Rattle.market.specs.Prices.{within, beyond}
use Rattle.market.specs.Quotes.{dark_price, midpoint_of, opposing, away_of}
use Rattle.priority.specs.declared.standing.RestingView.{RestingView}
use Rattle.matching.specs.declared.active.Active.{Active}
use Rattle.matching.specs.declared.active.SdlForm.{SdlForm}
use Rattle.matching.specs.declared.active.DarkForm.{DarkForm}
use Rattle.matching.specs.declared.active.Form.{Form}
use Rattle.matching.specs.declared.active.Form.TheVariants as form
use Rattle.matching.specs.declared.active.DarkTerms.{DarkTerms}
use Rattle.matching.specs.declared.active.LitTerms.{LitTerms}

-- a Dark order that trades with SDL orders
abbrev pub takes_sdl : Contra → Bool
takes_sdl contra.Sdl = true
takes_sdl contra.Dark = false
takes_sdl contra.All = true

-- a Dark order that trades with Dark orders
abbrev pub takes_dark : Contra → Bool
takes_dark contra.Sdl = false
takes_dark contra.Dark = true
takes_dark contra.All = true

-- against the other markets' quote, a Small order must do better, a Large one no worse
abbrev pub clears_away : Size → Side → ℕ → ℕ → Bool
clears_away size.Small s away p = beyond s away p
clears_away size.Large s away p = within s away p

-- who seeks price improving Dark only must do better than the best quote
abbrev pub improves : Seek → Side → ℕ → ℕ → Bool
improves seek.DarkAndLit s best p = true
improves seek.ImprovingDark s best p = beyond s best p
improves seek.AllDark s best p = true

-- who seeks Dark and lit meets lit orders
abbrev pub seeks_lit : Seek → Bool
seeks_lit seek.DarkAndLit = true
seeks_lit seek.ImprovingDark = false
seeks_lit seek.AllDark = false

-- an order priced at the midpoint
abbrev pub is_midpoint : Peg → Bool
is_midpoint peg.Midpoint = true
is_midpoint peg.Touch = false

-- a price for an SDL order: it keeps to the limit, clears the other markets' quote, and is better than every lit order
-- that still rests against the SDL order
unfoldable pub in_bounds : {R : Type 0} → DarkTerms R → SdlForm → ℕ → Bool
in_bounds t f p =
    clears_away f.size t.active.side (away_of t.quote.away t.active.side) p && (within t.active.side f.limit p && beyond t.active.side t.lit p)

-- an SDL order and a Dark order priced p
abbrev pub sdl_meets_dark : {R : Type 0} → DarkTerms R → SdlForm → Contra → ℕ → Bool
sdl_meets_dark t f c p = takes_sdl c && (improves f.seek t.active.side (opposing t.quote t.active.side) p && in_bounds t f p)

-- two orders of one member with one self-trade key, which is not 0
abbrev pub self_trade : {R : Type 0} → ℕ → Active R → DarkOrder R → Bool
self_trade key a d = a.member == d.member && (key == d.key && not (key == 0))

-- two Midpoint orders that take Dark orders
abbrev pub both_midpoint : {R : Type 0} → DarkForm → DarkOrder R → Bool
both_midpoint f d = is_midpoint f.peg && (is_midpoint d.peg && (takes_dark f.contra && takes_dark d.contra))

-- each minimum is at most what remains of the other
abbrev pub minimums_met : {R : Type 0} → Active R → DarkOrder R → Bool
minimums_met a d = nat_le a.minimum d.remaining && nat_le d.minimum a.remaining

-- an active Dark order and a resting one priced p: both Midpoint, both take Dark orders, both priced at the midpoint,
-- minimums met, no self-trade
abbrev pub dark_meets_dark : {R : Type 0} → DarkTerms R → DarkForm → DarkOrder R → ℕ → Bool
dark_meets_dark t f d p =
    both_midpoint f d && (dark_price t.quote t.active.side f.peg f.cap == midpoint_of t.quote && (p == midpoint_of t.quote
    && (minimums_met t.active d && not (self_trade f.key t.active d))))

-- an active order of either form and a Dark order priced p
unfoldable pub meets_dark : {R : Type 0} → Form → DarkTerms R → DarkOrder R → ℕ → Bool
meets_dark (form.Sdl f) t d p = sdl_meets_dark t f d.contra p
meets_dark (form.Dark f) t d p = dark_meets_dark t f d p

-- the price of a Dark order, 0 for none
abbrev pub price_of_dark : {R : Type 0} → DarkTerms R → DarkOrder R → ℕ
price_of_dark t d = dark_price t.quote d.side d.peg d.cap

-- something remains, the sides are opposite, the Dark order has a price, and the two may meet at it
abbrev pub may_meet_dark : {R : Type 0} → DarkTerms R → DarkOrder R → Bool
may_meet_dark t d =
    nat_lt 0 t.active.remaining && (opposed d.side t.active.side && (not (price_of_dark t d == 0) && meets_dark t.active.form t d (price_of_dark t d)))

-- an SDL order and a lit order: it seeks lit orders, and the price keeps to the limit and to the other markets' quote
abbrev pub sdl_meets_lit : {R : Type 0} → LitTerms R → SdlForm → ℕ → Bool
sdl_meets_lit t f p =
    seeks_lit f.seek && (within t.active.side f.limit p && within t.active.side (away_of t.quote.away t.active.side) p)

-- Dark orders do not meet lit orders
unfoldable pub meets_lit : {R : Type 0} → Form → LitTerms R → ℕ → Bool
meets_lit (form.Sdl f) t p = sdl_meets_lit t f p
meets_lit (form.Dark f) t p = false

-- the price of a lit order
abbrev pub price_of_lit : {R : Type 0} → LitTerms R → LitOrder R → ℕ
price_of_lit t l = l.price

-- something remains, the sides are opposite, and the two may meet at the lit order's price
abbrev pub may_meet_lit : {R : Type 0} → LitTerms R → LitOrder R → Bool
may_meet_lit t l = nat_lt 0 t.active.remaining && (opposed l.side t.active.side && meets_lit t.active.form t l.price)

-- what a priority sees of a Dark order
abbrev pub view_of_dark : {R : Type 0} → DarkTerms R → DarkOrder R → RestingView
view_of_dark t d = record { member = d.member; jitney = d.jitney; remaining = d.remaining }

-- what a priority sees of a lit order
abbrev pub view_of_lit : {R : Type 0} → LitTerms R → LitOrder R → RestingView
view_of_lit t l = record { member = l.member; jitney = l.jitney; remaining = l.remaining }
