-- What a test tells.
use Rattle.std.proofs.Common.{◌≡◌, ◌↔◌, Bool, true, false, IsTrue, sym, subst, rules}

pub yes : {P : Type 0} (b : Bool) → IsTrue b ↔ P → b ≡ true → P
yes b told is = told.0 (subst (λ (t : Bool). IsTrue t) (sym is) (search rules))

pub fails : {P : Type 0} (b : Bool) → IsTrue b ↔ P → b ≡ false → P → ⊥
fails b told is p = let wrong = subst (λ (t : Bool). IsTrue t) is (told.1 p) in absurd cc
