-- Queues that grow at their end, and queues on the same places.
use Rattle.std.proofs.Common.{◌≡◌, ◌+◌, List, [], ◌++◌, length, drop, sym, refl, ap, ◌∙◌}
use Rattle.std.proofs.lemmas.List.{append-nil, append_assoc, drop-drop, length-append, length-take-le}
use Rattle.queue.specs.declared.queue.Queue.{Queue}
use Rattle.queue.specs.Queues.{queued, spare, SamePlaces, Appended}

pub same_self : {X : Type 0} (p : Queue X) → SamePlaces p p
same_self p = record { room = refl; lender = refl }

pub same_then : {X : Type 0} {p q r : Queue X} → SamePlaces p q → SamePlaces q r → SamePlaces p r
same_then a b = record { room = b.room ∙ a.room; lender = b.lender ∙ a.lender }

pub appended_none : {X : Type 0} (p : Queue X) → Appended p [] p
appended_none p = record { list = sym (append-nil (queued p)); spare = refl; same = same_self p }

pub appended_then : {X : Type 0} {p q r : Queue X} (xs ys : List X) → Appended p xs q → Appended q ys r → Appended p (xs ++ ys) r
appended_then {p} xs ys a b =
    record {
      list = b.list ∙ ap (λ zs. zs ++ ys) a.list ∙ append_assoc (queued p) xs ys;
      spare =
          b.spare ∙ ap (drop (length ys)) a.spare ∙ drop-drop (length ys) (length xs) (spare p)
          ∙ ap (λ n. drop n (spare p)) (sym (length-append xs ys));
      same = same_then a.same b.same;
    }

pub queued_length : {X : Type 0} (p : Queue X) → length (queued p) ≡ p.len
queued_length p = length-take-le p.len p.places.now p.fits

-- how many are queued, after so many more
pub appended_length : {X : Type 0} {p q : Queue X} (xs : List X) → Appended p xs q → q.len ≡ p.len + length xs
appended_length {p} {q} xs a =
    sym (queued_length q) ∙ ap length a.list ∙ length-append (queued p) xs ∙ ap (λ n. n + length xs) (queued_length p)
