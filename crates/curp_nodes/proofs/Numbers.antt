-- Nodes that are numbered from 1, and what numbers name.
use Rattle.std.proofs.Common.{◌≡◌, ◌⊎◌, inl, inr, ℕ, zero, suc, ◌+◌, ◌*◌, ◌<◌, ◌≤◌, ◌^◌, ◌-◌, List, [], ◌∷◌, ◌++◌, get_or, length, map, replicate, refl, ap, sym, ◌∙◌, arith, subst}
use Rattle.std.proofs.Math.Nat.{mul-le-mul}
use Rattle.std.proofs.lemmas.List.{length-map, length-replicate, map-append, replicate_more}
use Rattle.std.proofs.lemmas.Option.{slice_get_read}
use Rattle.curp_base.specs.Words.{At, numbers_from}
use Rattle.curp_base.proofs.Lists.{at_push_cases}
use Rattle.curp_msg.specs.Script.{IsHeader}
use Rattle.curp_msg.specs.Moved.{Node}
use Rattle.curp_msg.specs.declared.script.Header.{Header}
use Rattle.curp_nodes.specs.Nodes.{HasNumbers, states}
use Rattle.curp_base.proofs.Numbered.{length-numbers, named_more}

-- ---- what numbers name

named_from : {A : Type 0} (f : ℕ → A) (n count k : ℕ) (x : A) → At (map f (numbers_from n count)) k x → x ≡ f (n + k)
named_from f n zero k x here = absurd cc
named_from f n (suc count) zero x here = let first : f n ≡ x = cc in let same : n ≡ n + 0 = omega arith in sym first ∙ ap f same
named_from f n (suc count) (suc k) x here =
    let same : (n + 1) + k ≡ n + suc k = omega arith in
    named_from f (n + 1) count k x here ∙ ap f same

-- what stands at a place is named by the number that is one more
pub named_at : {A : Type 0} (f : ℕ → A) (count k : ℕ) (x : A) → At (map f (numbers_from 1 count)) k x → x ≡ f (k + 1)
named_at f count k x here = let same : 1 + k ≡ k + 1 = omega arith in named_from f 1 count k x here ∙ ap f same

-- and there are so many
pub named_length : {A : Type 0} (f : ℕ → A) (count : ℕ) → length (map f (numbers_from 1 count)) ≡ count
named_length f count = length-map (numbers_from 1 count) f ∙ length-numbers 1 count

-- the item of a place, as a loop reads it
pub named_part : {A : Type 0} (f : ℕ → A) (count : ℕ) (items : List A) (k : ℕ) (x : A) → items ≡ map f (numbers_from 1 count) → k < length items → x ≡ get_or items k x
    → (x ≡ f (k + 1)) × (k < count)
named_part {A} f count items k x all within here = (
  named_at f count k x (subst (λ (xs : List A). At xs k x) all (slice_get_read items (length items) k x refl within here)),
  omega (arith, ap length all, named_length f count, within),
)

-- ---- one more

-- one node more, with the next number
pub numbers_push : {S : Type 0} (nodes : List (Node S)) (y : Node S) → HasNumbers nodes → y.number ≡ length nodes + 1 → HasNumbers (nodes ++ y ∷ [])
numbers_push {S = S} nodes y h next j z there = go (at_push_cases nodes y j z there)
  where
    go : At nodes j z ⊎ ((j ≡ length nodes) × (y ≡ z)) → z.number ≡ j + 1
    go (inl here) = h j z here
    go (inr last) = ap (λ (n : Node S). n.number) (sym last.1) ∙ next ∙ ap (λ i. i + 1) (sym last.0)

-- what the numbers from 1 on name, one more
pub named_push : {A : Type 0} (f : ℕ → A) (k : ℕ) (names pushed : List A) (name : A) → pushed ≡ names ++ name ∷ [] → names ≡ map f (numbers_from 1 k) → name ≡ f (k + 1) → pushed ≡ map f (numbers_from 1 (k + 1))
named_push {A = A} f k names pushed name push so_far next =
    let count : k + 1 ≡ 1 + k = omega arith in
    push ∙ ap (λ (xs : List A). xs ++ name ∷ []) so_far ∙ ap (λ (x : A). map f (numbers_from 1 k) ++ x ∷ []) (next ∙ ap f count) ∙ sym (named_more f 1 k)

-- so many nodes of one state, one more
pub made_more : {S : Type 0} (nodes : List (Node S)) (s : S) (n : ℕ) (y : Node S) → states nodes ≡ replicate n s → HasNumbers nodes → y.number ≡ n + 1 → y.state ≡ s
    → (states (nodes ++ y ∷ []) ≡ replicate (n + 1) s) × HasNumbers (nodes ++ y ∷ [])
made_more {S = S} nodes s n y same h number state =
    let long : length nodes ≡ n = sym (length-map nodes (λ (x : Node S). x.state)) ∙ ap length same ∙ length-replicate n s in
    (map-append (λ (x : Node S). x.state) nodes (y ∷ []) ∙ ap (λ (z : S). states nodes ++ z ∷ []) state ∙ ap (λ (l : List S). l ++ s ∷ []) same ∙ replicate_more n s, numbers_push nodes y h (number ∙ ap (λ k. k + 1) (sym long)))

-- ---- a header

-- there are at most eighty backups, and as many witnesses
pub few_keepers : (h : Header) → IsHeader h → h.parts * h.f < 2 ^ 32 - 1
few_keepers h is =
    let most : h.parts * h.f ≤ 16 * 5 = mul-le-mul is.parts.1 is.f.1 in
    omega (arith, most)
