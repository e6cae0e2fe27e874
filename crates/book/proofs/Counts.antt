-- How many fills a request and settling make, and how many orders they leave.
use Rattle.std.proofs.Common.{◌≡◌, ℕ, ◌+◌, ◌≤◌, List, [], ◌∷◌, length, arith}
use Rattle.std.proofs.lemmas.List.{length-append}
use Rattle.market.specs.declared.orders.Fill.{Fill}
use Rattle.market.specs.declared.quotes.Away.{Away}
use Rattle.queue.proofs.Appends.{queued_length, appended_length}
use Rattle.matching.specs.Tables.{Tables}
use Rattle.matching.specs.Settle.{Contents, contents_of}
use Rattle.matching.proofs.Counts.{resting, swept_count, swept_trades, dark_sweep_count}
use Rattle.matching.proofs.Settling.{settles_count}
use Rattle.book.specs.declared.session.Session.{Session}
use Rattle.book.specs.declared.call.Request.{Request}
use Rattle.book.specs.Grounds.{Facility}
use Rattle.book.specs.Steps.{Acts, quotes, joins, enters, seeks, posts, starts, Settling, rests, runs, Acted, SettledIn}

module _ {R : Type 0} {f : Facility R} {s : Session} where
  pub acts_count : {c e : Contents R} {q : Request R} {fs : List (Fill R)} {m n : ℕ} → Acts f s c q fs m n e → length fs + resting e ≤ resting c + 1
  acts_count quotes = omega arith
  acts_count {c} (joins {d} e) = let l = length-append c.darks (d ∷ []) in omega arith
  acts_count {c} (enters e w) = dark_sweep_count c.away w
  acts_count (seeks w) = let i = swept_count w in omega arith
  acts_count {c} (posts {l}) = let h = length-append c.lits (l ∷ []) in omega arith
  acts_count starts = omega arith

  pub acts_trades : {c e : Contents R} {q : Request R} {fs : List (Fill R)} {m n : ℕ} → Acts f s c q fs m n e → e.trades ≡ c.trades + length fs
  acts_trades quotes = omega arith
  acts_trades (joins e) = omega arith
  acts_trades (enters e w) = swept_trades w
  acts_trades (seeks w) = swept_trades w
  acts_trades posts = omega arith
  acts_trades starts = omega arith

  pub settling_count : {c e : Contents R} {fs : List (Fill R)} → Settling f s c fs e → length fs + resting e ≤ resting c
  settling_count (rests e) = omega arith
  settling_count (runs e t) = settles_count t

-- the same of the tables and the list as queues: the orders and fills that there are together, and the numbers of the trades
module _ {R : Type 0} {f : Facility R} {s : Session} {w w' : Away} {n n' : ℕ} (t t' : Tables R) where
  pub acted_spends : {q : Request R} {traded gone : ℕ} → Acted f s (contents_of w n t) q t.fills traded gone (contents_of w' n' t') t'.fills →
      t'.fills.len + t'.darks.len + t'.lits.len ≤ t.fills.len + t.darks.len + t.lits.len + 1
  acted_spends a = omega (arith, acts_count a.acts, appended_length a.fills a.made, queued_length t.darks, queued_length t.lits, queued_length t'.darks, queued_length t'.lits)

  pub acted_numbers : {q : Request R} {traded gone : ℕ} → Acted f s (contents_of w n t) q t.fills traded gone (contents_of w' n' t') t'.fills →
      n' + t.fills.len ≡ n + t'.fills.len
  acted_numbers a = omega (arith, acts_trades a.acts, appended_length a.fills a.made)

  pub settled_spends : SettledIn f s (contents_of w n t) t.fills (contents_of w' n' t') t'.fills →
      t'.fills.len + t'.darks.len + t'.lits.len ≤ t.fills.len + t.darks.len + t.lits.len
  settled_spends a = omega (arith, settling_count a.settling, appended_length a.fills a.made, queued_length t.darks, queued_length t.lits, queued_length t'.darks, queued_length t'.lits)
