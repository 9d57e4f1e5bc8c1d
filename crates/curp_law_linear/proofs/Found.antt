-- What a test on the entries of a list finds.
use Rattle.std.proofs.Common.{◌≡◌, ℕ, Bool, true, false, List, refl, subst}
use Rattle.std.specs.List.{list_any}
use Rattle.curp_base.specs.Words.{At}
use Rattle.curp_cmd.specs.declared.entry.Entry.{Entry}
use Rattle.curp_cmd.specs.declared.entry.Entry.TheVariants.{Give, Take}
use Rattle.curp_cmd.specs.declared.migration.Package.{Package}
use Rattle.curp_law_linear.specs.Hashes.{is_give, is_take}
use Rattle.curp_base.proofs.Numbered.{any_at}
use Rattle.curp_law_linear.proofs.Entries.{give_entry, take_entry}

-- a take that stands in a log, by the test
pub found_take : (number : ℕ) (log : List Entry) → list_any (is_take number) log ≡ true → (j : ℕ) × (p : Package) × At log j (Take number p)
found_take number log found = let a = any_at (is_take number) log found in let t = take_entry number a.1 a.3 in (a.0, t.0, subst (At log a.0) t.1 a.2)

-- and a give
pub found_give : (number : ℕ) (log : List Entry) → list_any (is_give number) log ≡ true → (j : ℕ) × (p : Package) × At log j (Give number p)
found_give number log found = let a = any_at (is_give number) log found in let g = give_entry number a.1 a.3 in (a.0, g.0, subst (At log a.0) g.1 a.2)

-- where none of a list is so
pub none_any : {A : Type 0} (p : A → Bool) (xs : List A) → ((k : ℕ) (x : A) → At xs k x → p x ≡ true → ⊥) → list_any p xs ≡ false
none_any p xs none = go (list_any p xs) refl
  where
    go : (b : Bool) → list_any p xs ≡ b → list_any p xs ≡ false
    go false e = e
    go true e = let o = any_at p xs e in absurd (none o.0 o.1 o.2 o.3)
