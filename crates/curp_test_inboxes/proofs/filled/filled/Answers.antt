use Rattle.std.proofs.Common.{◌≡◌, ◌∙◌, List, [], ◌∷◌, ◌++◌, length, slice_get, Some, sym, ap, arith, length-append}
use Rattle.curp_ruled.specs.Ends.{Posted}
use Rattle.curp_test_inboxes.proofs.filled.filled.Goals as goal

two_at : (zs ys all : List Posted) (a b : Posted) → ys ≡ zs ++ a ∷ [] → all ≡ ys ++ b ∷ [] → length all ≡ 2 → (slice_get all 0 ≡ Some a) × (slice_get all 1 ≡ Some b)
two_at [] ys all a b e f n = let g : all ≡ a ∷ b ∷ [] = f ∙ ap (λ l. l ++ b ∷ []) e in (ap (λ l. slice_get l 0) g, ap (λ l. slice_get l 1) g)
two_at (z ∷ zs) ys all a b e f n = absurd (omega (arith, ap length f, length-append ys (b ∷ []), ap length e, length-append (z ∷ zs) (a ∷ []), n))

pub closed-requires-clause-first : goal.closed-requires-clause-first
closed-requires-clause-first g c =
    let made = c.in_ok-posts.ensures in
    let at = two_at c.pop-2.new.self.items c.pop.new.self.items c.in_ok-posts.posts.items c.in-Some-pop.first c.in-Some.second c.in-Some-pop.ensures.items c.in-Some.ensures.items (made.all.count ∙ made.posts) in
    let its = made.all.each 0 c.in-Some-pop.first at.0 in
    let ends = c.join-first.ensures in
    (ends.first.0.0 ∙ its.0 ∙ sym ends.second.0, ends.first.0.1 ∙ its.1)

pub closed-requires-clause-second : goal.closed-requires-clause-second
closed-requires-clause-second g c =
    let made = c.in_ok-posts.ensures in
    let at = two_at c.pop-2.new.self.items c.pop.new.self.items c.in_ok-posts.posts.items c.in-Some-pop.first c.in-Some.second c.in-Some-pop.ensures.items c.in-Some.ensures.items (made.all.count ∙ made.posts) in
    let its = made.all.each 1 c.in-Some.second at.1 in
    let ends = c.join-first.ensures in
    (ends.first.1.0 ∙ its.0 ∙ sym ends.second.0, ends.first.1.1 ∙ its.1)
