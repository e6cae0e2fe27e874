-- A sweep, and settling, come out one way only.
use Rattle.std.proofs.Common.{◌≡◌, List, ◌∷◌, ◌++◌, sym, refl, ap₂, subst₂}
use mathlib.Core.Path.{subst₃}
use Rattle.market.specs.declared.orders.Fill.{Fill}
use Rattle.market.specs.declared.quotes.Quote.{Quote}
use Rattle.matching.specs.Sweep.{Orderings, Run, price_under, after_dark, after_lit, dark_fill, lit_fill, Swept, ends, meets_dark, meets_lit}
use Rattle.matching.specs.Settle.{Contents, quote_in, active_dark, start_of, after_sweep, Settles, settled, sweeps}

module _ {R : Type 0} (o : Orderings) where
  pub swept_once : {q : Quote} {r s t : Run R} {fs gs : List (Fill R)} → Swept o q r fs s → Swept o q r gs t → (fs ≡ gs) × (s ≡ t)
  swept_once (ends e) (ends f) = (refl, refl)
  swept_once (ends e) (meets_dark b d a f v) = (cc, cc)
  swept_once (ends e) (meets_lit b d a f v) = (cc, cc)
  swept_once (meets_dark b d a e w) (ends f) = (cc, cc)
  swept_once {q} {s} {t} (meets_dark {r} {fs} b d a e w) (meets_dark {fs = gs} b' d' a' f v) =
      let x : b' ≡ b = cc in
      let y : d' ≡ d = cc in
      let z : a' ≡ a = cc in
      let v' : Swept o q (after_dark q r b d a) gs t = subst₃ (λ u v w. Swept o q (after_dark q r u v w) gs t) x y z v in
      let i = swept_once w v' in
      (ap₂ (λ u us. dark_fill (price_under q u) r.progress u ∷ us) (sym y) i.0, i.1)
  swept_once (meets_dark b d a e w) (meets_lit b' d' a' f v) = (cc, cc)
  swept_once (meets_lit b d a e w) (ends f) = (cc, cc)
  swept_once (meets_lit b d a e w) (meets_dark b' d' a' f v) = (cc, cc)
  swept_once {q} {s} {t} (meets_lit {r} {fs} b d a e w) (meets_lit {fs = gs} b' d' a' f v) =
      let x : b' ≡ b = cc in
      let y : d' ≡ d = cc in
      let z : a' ≡ a = cc in
      let v' : Swept o q (after_lit r b d a) gs t = subst₃ (λ u v w. Swept o q (after_lit r u v w) gs t) x y z v in
      let i = swept_once w v' in
      (ap₂ (λ u us. lit_fill u.price r.progress u ∷ us) (sym y) i.0, i.1)

  pub settles_once : {c e e' : Contents R} {fs gs : List (Fill R)} → Settles o c fs e → Settles o c gs e' → (fs ≡ gs) × (e ≡ e')
  settles_once (settled e) (settled f) = (refl, refl)
  settles_once (settled e) (sweeps b d a f v t) = (cc, cc)
  settles_once (sweeps b d a e w t) (settled f) = (cc, cc)
  settles_once (sweeps {c} {e} {r} {fs} {gs} b d a p w t) (sweeps {e = e'} {r = r'} {fs = fs'} {gs = gs'} b' d' a' f v u) =
      let x : b' ≡ b = cc in
      let y : d' ≡ d = cc in
      let z : a' ≡ a = cc in
      let v' : Swept o (quote_in c) (start_of c.trades (active_dark d) (b ++ a) c.lits) fs' r' =
      subst₃ (λ l m n. Swept o (quote_in c) (start_of c.trades (active_dark m) (l ++ n) c.lits) fs' r') x y z v in
      let i = swept_once w v' in
      let u' : Settles o (after_sweep c.away d r) gs' e' = subst₂ (λ m n. Settles o (after_sweep c.away m n) gs' e') y (sym i.1) u in
      let j = settles_once t u' in
      (ap₂ (λ l m. l ++ m) i.0 j.0, j.1)
