-- What one call writes and then another is written as one text.
use Rattle.std.proofs.Common.{◌≡◌, ℕ, List, [], ◌++◌, Result, Ok, Err, refl, sym, ap, subst, ◌∙◌, append_assoc}
use Rattle.std.specs.declared.alloc.AllocError.{AllocError}
use Rattle.std.specs.Prelude.{⊤}
use Rattle.curp_items.specs.Calls.{WritesItem, Written}

-- what is held behind this text
abbrev pub behind : Written → List ℕ → Written
behind old text = record { prefix = old.prefix; text = old.text ++ text }

pub then_writes : (old mid new : Written) (a b : List ℕ) (r : Result ⊤ AllocError) → mid ≡ behind old a → WritesItem mid new r b → WritesItem old new r (a ++ b)
then_writes old mid new a b (Ok done) e w = w ∙ ap (λ (m : Written). behind m b) e ∙ ap (λ (t : List ℕ). let m : Written = record { prefix = old.prefix; text = t } in m) (append_assoc old.text a b)
then_writes old mid new a b (Err why) e w = w ∙ ap (λ (m : Written). let n : Written = record { prefix = m.prefix; text = [] } in n) e
