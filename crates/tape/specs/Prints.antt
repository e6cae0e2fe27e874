-- What is printed of a trade.
use Rattle.std.specs.Prelude.{Bool, true, false}
use Rattle.market.specs.declared.codes.Kind.{Kind}
use Rattle.market.specs.declared.codes.Kind.TheVariants.{SdlDark, SdlLit, DarkDark}

-- whether a Dark order took part
abbrev pub with_dark : Kind → Bool
with_dark SdlDark = true
with_dark SdlLit = false
with_dark DarkDark = true
