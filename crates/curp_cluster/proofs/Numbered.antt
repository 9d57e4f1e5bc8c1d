-- Nodes by their numbers, and one of them with another state.
use Rattle.std.proofs.Common.{◌≡◌, ◌≢◌, ◌⊎◌, inl, inr, ℕ, zero, suc, ◌+◌, List, [], ◌∷◌, map, slice_set, Option, Some, None, Bor, refl, ap, sym, ◌∙◌, arith}
use Rattle.std.specs.Option.{option_copied, option_map}
use Rattle.curp_base.specs.Words.{At, numbered}
use Rattle.curp_base.proofs.Lists.{at_set_cases, at_map}
use Rattle.curp_msg.specs.Moved.{Node}
use Rattle.curp_nodes.specs.Nodes.{HasNumbers}

-- the list of something of nodes, where one node has another state
pub map_set : {A B : Type 0} (f : A → B) (xs : List A) (k : ℕ) (y : A) → slice_set (map f xs) k (f y) ≡ map f (slice_set xs k y)
map_set f [] k y = refl
map_set f (x ∷ xs) zero y = refl
map_set f (x ∷ xs) (suc k) y = ap (λ ys. f x ∷ ys) (map_set f xs k y)

-- a node that keeps its number keeps the order of numbers
pub numbers_set : {S : Type 0} (nodes : List (Node S)) (k : ℕ) (x y : Node S) → HasNumbers nodes → At nodes k x → y.number ≡ x.number → HasNumbers (slice_set nodes k y)
numbers_set {S = S} nodes k x y h here same j z there = go (at_set_cases nodes k y j z there)
  where
    go : ((j ≢ k) × At nodes j z) ⊎ ((j ≡ k) × (y ≡ z)) → z.number ≡ j + 1
    go (inl other) = h j z other.1
    go (inr own) = ap (λ (n : Node S). n.number) (sym own.1) ∙ same ∙ h k x here ∙ ap (λ i. i + 1) (sym own.0)

-- what stands under a number
pub numbered_at : {A B : Type 0} (f : A → B) (xs : List A) (n k : ℕ) (x : A) → n ≡ k + 1 → At xs k x → numbered (map f xs) n ≡ Some (f x)
numbered_at f xs zero k x e here = absurd (omega (arith, e))
numbered_at f xs (suc n) k x e here = let same : n ≡ k = omega (arith, e) in rw same (at_map f xs k x here)

-- what stands under a number, of what is seen of each
pub numbered_map : {A B : Type 0} (f : A → B) (xs : List A) (n : ℕ) → numbered (map f xs) n ≡ option_map f (numbered xs n)
numbered_map f xs zero = refl
numbered_map f [] (suc k) = refl
numbered_map f (x ∷ xs) (suc zero) = refl
numbered_map f (x ∷ xs) (suc (suc k)) = numbered_map f xs (suc k)

-- the same of an item that is lent
pub lent_numbered : {A B : Type 0} (f : A → B) (xs : List A) (n : ℕ) (r : Option (Bor A)) → option_copied r ≡ numbered xs n → option_map (λ (b : Bor A). f b.now) r ≡ numbered (map f xs) n
lent_numbered f xs n None is = ap (option_map f) is ∙ sym (numbered_map f xs n)
lent_numbered f xs n (Some b) is = ap (option_map f) is ∙ sym (numbered_map f xs n)
