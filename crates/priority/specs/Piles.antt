-- A pile of two lawful orderings keeps the third law.
use Rattle.std.specs.declared.cmp.Ordering.TheVariants.{Less, Equal, Greater}
use Rattle.std.specs.Ordering.{ordering_reverse, ordering_then}
use Rattle.priority.specs.Standings.{Standing, NotBehind}

upper_part : (x u : Standing) → NotBehind (ordering_then x u) → NotBehind x
upper_part Less u h = tt
upper_part Greater u h = h
upper_part Equal u h = tt

-- x, y and z are what the upper says of (a, b), (b, c) and (a, c); u, v and w what the lower says
pub pile_chain : (x y z u v w : Standing) → (NotBehind x → NotBehind y → NotBehind z) → (NotBehind y → NotBehind (ordering_reverse z) → NotBehind (ordering_reverse x)) →
    (NotBehind (ordering_reverse z) → NotBehind x → NotBehind (ordering_reverse y)) → (NotBehind u → NotBehind v → NotBehind w) →
    NotBehind (ordering_then x u) → NotBehind (ordering_then y v) → NotBehind (ordering_then z w)
pile_chain x y Less u v w f g h k p q = tt
pile_chain x y Greater u v w f g h k p q = f (upper_part x u p) (upper_part y v q)
pile_chain Greater y Equal u v w f g h k p q = absurd p
pile_chain Less Less Equal u v w f g h k p q = absurd (g tt tt)
pile_chain Less Greater Equal u v w f g h k p q = absurd q
pile_chain Less Equal Equal u v w f g h k p q = absurd (g tt tt)
pile_chain Equal Less Equal u v w f g h k p q = absurd (h tt tt)
pile_chain Equal Greater Equal u v w f g h k p q = absurd q
pile_chain Equal Equal Equal u v w f g h k p q = k p q
