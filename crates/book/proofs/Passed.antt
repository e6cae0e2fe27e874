-- What is known once no ground holds.
use Rattle.std.proofs.Common.{◌≡◌, ℕ, ◌<◌, ◌≤◌, true, false, leb, List, [], ◌∷◌, length, Some, None, Option, option_map, subst, arith}
use Rattle.std.proofs.lemmas.Bool.{and_parts, not-false, ltb-false}
use Rattle.std.proofs.lemmas.Bool.Decides.{nat_tests}
use Rattle.std.proofs.lemmas.List.{length-take-le}
use Rattle.std.specs.List.{AllByRecursion, count_by}
use Rattle.market.specs.declared.orders.DarkOrder.{DarkOrder}
use Rattle.market.specs.declared.orders.LitOrder.{LitOrder}
use Rattle.market.specs.Orders.{valid_member, sound_dark, sound_lit}
use Rattle.matching.specs.Settle.{Contents}
use Rattle.book.specs.declared.call.Call.{Call}
use Rattle.book.specs.declared.call.Call.TheVariants as call
use Rattle.book.specs.declared.call.Request.{Request}
use Rattle.book.specs.declared.call.Request.TheVariants as request
use Rattle.book.specs.Requests.{request_of, dark_of, sdl_of, lit_of}
use Rattle.book.specs.Grounds.{Memory, enough_memory, of_member, dark_owner, lit_owner, fine_dark, fine_lit, sound_tables, Check, first_of, checks, ground_under, member_fails, full_fails}
use Rattle.book.specs.declared.book.Book.{Book}
use Rattle.book.specs.declared.memory.Memory.{Memory as Lent}
use Rattle.book.specs.Steps.{HasPlace, state_in, lengths_of}
use Rattle.book.proofs.Crowd.{has_place}

pub record LongEnough (m : Memory) : Type 0 where
  pub darks : m.darks ≡ 256
  pub lits : m.lits ≡ 256
  pub fills : 513 ≤ m.fills

pub long_enough : (m : Memory) → enough_memory m ≡ true → LongEnough m
long_enough m e = record { darks = grind (arith, nat_tests); lits = grind (arith, nat_tests); fills = grind (arith, nat_tests) }

-- every check passes where no ground is the first to hold
pub all_pass : (cs : List Check) → first_of cs ≡ None → AllByRecursion (λ c. c.fails ≡ false) cs
all_pass [] e = tt
all_pass (c ∷ cs) e = (grind arith, all_pass cs (grind arith))

-- an order that may rest has a valid member
dark_member : {R : Type 0} (number : R → ℕ) (lot : ℕ) (d : DarkOrder R) → sound_dark number lot d ≡ true → valid_member d.member ≡ true
unfolding sound_dark
dark_member number lot d e = grind arith

lit_member : {R : Type 0} (number : R → ℕ) (lot : ℕ) (l : LitOrder R) → sound_lit number lot l ≡ true → valid_member l.member ≡ true
unfolding sound_lit
lit_member number lot l e = grind arith

-- tables that are sound have a place for an order of a member that has fewer than 16
module _ {R : Type 0} (number : R → ℕ) (lot : ℕ) (ds : List (DarkOrder R)) (ls : List (LitOrder R)) (sound : sound_tables number lot ds ls ≡ true) (m : ℕ) (valid : valid_member m ≡ true) where
  dark_place : leb 16 (count_by (of_member dark_owner m) ds) ≡ false → length ds < 256
  unfolding sound_tables
  dark_place few =
      has_place dark_owner ds (fine_dark number lot ds ls)
      (λ d e. dark_member number lot d (grind arith)) (λ d e. grind (arith, nat_tests)) (grind arith) m valid few

  lit_place : leb 16 (count_by (of_member lit_owner m) ls) ≡ false → length ls < 256
  unfolding sound_tables
  lit_place few =
      has_place lit_owner ls (fine_lit number lot ds ls)
      (λ l e. lit_member number lot l (grind arith)) (λ l e. grind (arith, nat_tests)) (grind arith) m valid few

-- what is known of a call that a book admits: the memory is long enough, the trades of the day leave room for 513 more, and
-- an order that the request adds has a place
pub record Passed {D L R : Type 0} (b : Book D L) (m : Lent R) (q : Request R) : Type 0 where
  pub memory : enough_memory (lengths_of m) ≡ true
  pub trades : b.core.trades ≤ 999487
  pub place : HasPlace q b.darks 256 b.lits 256

-- a request that an order was read as has a place where each such order has
module _ {R : Type 0} (darks dark_places lits lit_places : ℕ) where
  read_as : {X : Type 0} (f : X → Request R) (o : Option X) (q : Request R) → option_map f o ≡ Some q → ((x : X) → HasPlace (f x) darks dark_places lits lit_places) →
      HasPlace q darks dark_places lits lit_places
  read_as f None q e h = absurd (cc)
  read_as f (Some x) q e h = let i : f x ≡ q = cc in subst (λ (y : Request R). HasPlace y darks dark_places lits lit_places) i (h x)

module _ {R : Type 0} (number : R → ℕ) (lot : ℕ) (c : Contents R) where
  placed : (x : Call R) (q : Request R) → request_of x ≡ Some q → sound_tables number lot c.darks c.lits ≡ true → member_fails x ≡ false → full_fails c x ≡ false →
      HasPlace q (length c.darks) 256 (length c.lits) 256
  placed (call.Quote w) q e k v f = read_as _ 256 _ 256 request.Quote (Some w) q e (λ _. tt)
  placed (call.Dark d) q e k v f = read_as _ 256 _ 256 request.Dark (dark_of d) q e (λ _. dark_place number lot c.darks c.lits k d.member (not-false _ v) f)
  placed (call.Sdl d) q e k v f = read_as _ 256 _ 256 request.Sdl (sdl_of d) q e (λ _. tt)
  placed (call.Lit l) q e k v f = read_as _ 256 _ 256 request.Lit (lit_of l) q e (λ _. lit_place number lot c.darks c.lits k l.member (not-false _ v) f)
  placed call.Start q e k v f = read_as _ 256 _ 256 (λ (_ : Unit {0}). request.Start) (Some (tt {0})) q e (λ _. tt)

pub passed : {D L R : Type 0} (number : R → ℕ) (b : Book D L) (m : Lent R) (x : Call R) (q : Request R) → ground_under number b.core.lot (state_in b m) (lengths_of m) x ≡ None → request_of x ≡ Some q →
    Passed b m q
unfolding ground_under
passed number b m x q e r =
    let s = state_in b m in
    let a = all_pass (checks number b.core.lot s (lengths_of m) x) e in
    let good = and_parts (enough_memory (lengths_of m)) (sound_tables number b.core.lot s.contents.darks s.contents.lits) (not-false _ a.1.0) in
    let long = long_enough (lengths_of m) good.0 in
    let nd = length-take-le b.darks m.dark.now (omega (arith, long.darks, b.few)) in
    let nl = length-take-le b.lits m.lit.now (omega (arith, long.lits, b.fewer)) in
    record {
      memory = good.0;
      trades = ltb-false 999487 b.core.trades a.1.1.0;
      place = rw (nd, nl) at (placed number b.core.lot s.contents x q r good.1 a.1.1.1.0 a.1.1.1.1.1.1.1.1.1.1.1.0);
    }
