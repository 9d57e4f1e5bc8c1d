-- Entries keep the numbers of their partitions.
use Rattle.std.proofs.Common.{◌≡◌, ◌==◌, ◌≤◌, ℕ, zero, suc, ◌+◌, List, [], ◌∷◌, map, refl, arith}
use Rattle.std.proofs.lemmas.Bool.{cond_both}
use Rattle.curp_base.specs.Words.{numbers_from}
use Rattle.curp_msg.specs.declared.config.PartConfig.{PartConfig}
use Rattle.curp_model.specs.Manager as model
use Rattle.curp_config.specs.Parts.{PartsNumbered}

numbered_from : (s : model.Shape) (first count : ℕ) → 1 ≤ first → first + count ≤ s.parts + 1 → PartsNumbered s.parts (map (model.opening_part s) (numbers_from first count))
numbered_from s first zero one last = tt
numbered_from s first (suc count) one last = ((one, omega arith), numbered_from s (first + 1) count (omega arith) (omega arith))

-- those at opening
pub opening_numbered : (s : model.Shape) → PartsNumbered s.parts (model.opening_config s).parts
opening_numbered s = numbered_from s 1 s.parts (omega arith) (omega arith)

moved_same : (m : model.Migration) (c : PartConfig) → (model.moved_part m c).part ≡ c.part
moved_same m c = cond_both (c.part == m.source) _ _ (λ (x : PartConfig). x.part ≡ c.part) (λ y. refl)
    (λ y. cond_both (c.part == m.target) _ _ (λ (x : PartConfig). x.part ≡ c.part) (λ z. refl) (λ z. refl))

-- those of a range that has moved
pub moved_numbered : (n : ℕ) (m : model.Migration) (entries : List PartConfig) → PartsNumbered n entries → PartsNumbered n (map (model.moved_part m) entries)
moved_numbered n m [] each = tt
moved_numbered n m (c ∷ rest) each = let same = moved_same m c in ((rw same each.0.0, rw same each.0.1), moved_numbered n m rest each.1)
