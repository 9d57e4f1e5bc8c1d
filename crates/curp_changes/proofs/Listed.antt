-- What numbers name, one more.
use Rattle.std.proofs.Common.{◌≡◌, ℕ, ◌+◌, List, [], ◌∷◌, ◌++◌, map, ap, sym, ◌∙◌}
use Rattle.curp_base.specs.Words.{numbers_from}
use Rattle.curp_base.proofs.Numbered.{named_more}

-- what the numbers from n on name, one more
pub named_push : {A : Type 0} (f : ℕ → A) (n k : ℕ) (names pushed : List A) (name : A) → pushed ≡ names ++ name ∷ [] → names ≡ map f (numbers_from n k) → name ≡ f (n + k) → pushed ≡ map f (numbers_from n (k + 1))
named_push {A = A} f n k names pushed name push so_far next =
    push ∙ ap (λ (xs : List A). xs ++ name ∷ []) so_far ∙ ap (λ (x : A). map f (numbers_from n k) ++ x ∷ []) next ∙ sym (named_more f n k)
