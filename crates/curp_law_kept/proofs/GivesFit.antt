-- Gives that fit, as a log grows; and what a package brings.
use Rattle.std.proofs.Common.{◌≡◌, ◌≤◌, ℕ, suc, ◌+◌, List, [], ◌∷◌, ◌++◌, length, take, refl, ap, subst, arith}
use Rattle.std.specs.FinMap as map
use Rattle.curp_base.specs.Words.{At}
use Rattle.curp_cmd.specs.declared.entry.Entry.{Entry}
use Rattle.curp_cmd.specs.declared.entry.Entry.TheVariants.{Op, Take, Give, Expire}
use Rattle.curp_cmd.specs.declared.migration.Package.{Package}
use Rattle.curp_model.specs.Log.{LogState, log_opening, after_entry, after_entries, meaning, package_of}
use Rattle.curp_law_kept.specs.GivesFit.{GiveFits, GivesFit, PairsAscend, PairsWithin}
use Rattle.curp_law_kept.proofs.Stores.{range_ascends, range_within}

-- ---- gives that fit

pub gives_fit_append : (xs ys : List Entry) (s : LogState) (k n : ℕ) → n ≡ k + length xs → GivesFit s k xs → GivesFit (after_entries s k xs) n ys → GivesFit s k (xs ++ ys)
gives_fit_append [] ys s k n e prefix back = let same : n ≡ k = omega arith in subst (λ (m : ℕ). GivesFit s m ys) same back
gives_fit_append (Op r acknowledged ∷ xs) ys s k n e prefix back = gives_fit_append xs ys (after_entry s k (Op r acknowledged)) (k + 1) n (omega arith) prefix back
gives_fit_append (Take migration p ∷ xs) ys s k n e prefix back = gives_fit_append xs ys (after_entry s k (Take migration p)) (k + 1) n (omega arith) prefix back
gives_fit_append (Give migration p ∷ xs) ys s k n e prefix back = (prefix.0, gives_fit_append xs ys (after_entry s k (Give migration p)) (k + 1) n (omega arith) prefix.1 back)
gives_fit_append (Expire client ∷ xs) ys s k n e prefix back = gives_fit_append xs ys (after_entry s k (Expire client)) (k + 1) n (omega arith) prefix back

-- a beginning's gives fit where those of the whole do
pub gives_fit_prefix : (xs ys : List Entry) (s : LogState) (k : ℕ) → GivesFit s k (xs ++ ys) → GivesFit s k xs
gives_fit_prefix [] ys s k all = tt
gives_fit_prefix (Op r acknowledged ∷ xs) ys s k all = gives_fit_prefix xs ys (after_entry s k (Op r acknowledged)) (k + 1) all
gives_fit_prefix (Take migration p ∷ xs) ys s k all = gives_fit_prefix xs ys (after_entry s k (Take migration p)) (k + 1) all
gives_fit_prefix (Give migration p ∷ xs) ys s k all = (all.0, gives_fit_prefix xs ys (after_entry s k (Give migration p)) (k + 1) all.1)
gives_fit_prefix (Expire client ∷ xs) ys s k all = gives_fit_prefix xs ys (after_entry s k (Expire client)) (k + 1) all

-- entries without a give
abbrev pub NoGives : List Entry → Type 0
NoGives es = (k migration : ℕ) (p : Package) → At es k (Give migration p) → ⊥

-- where there is none, each fits
pub no_gives_fit : (es : List Entry) (s : LogState) (k : ℕ) → NoGives es → GivesFit s k es
no_gives_fit [] s k none = tt
no_gives_fit (Op r acknowledged ∷ es) s k none = no_gives_fit es (after_entry s k (Op r acknowledged)) (k + 1) (λ i. none (suc i))
no_gives_fit (Take migration p ∷ es) s k none = no_gives_fit es (after_entry s k (Take migration p)) (k + 1) (λ i. none (suc i))
no_gives_fit (Give migration p ∷ es) s k none = absurd (none 0 migration p refl)
no_gives_fit (Expire client ∷ es) s k none = no_gives_fit es (after_entry s k (Expire client)) (k + 1) (λ i. none (suc i))

-- a log with entries behind it that give nothing
pub gives_fit_more : (lo hi : ℕ) (log more : List Entry) → GivesFit (log_opening lo hi) 0 log → NoGives more → GivesFit (log_opening lo hi) 0 (log ++ more)
gives_fit_more lo hi log more fits none = gives_fit_append log more (log_opening lo hi) 0 (length log) (omega arith) fits (no_gives_fit more (meaning lo hi log) (length log) none)

-- each give fits where each that stands does
pub gives_fit_from : (es : List Entry) (s : LogState) (k : ℕ) → ((i migration : ℕ) (p : Package) → At es i (Give migration p) → GiveFits (after_entries s k (take i es)) p) → GivesFit s k es
gives_fit_from [] s k each = tt
gives_fit_from (Op r acknowledged ∷ es) s k each = gives_fit_from es (after_entry s k (Op r acknowledged)) (k + 1) (λ i. each (suc i))
gives_fit_from (Take migration taken ∷ es) s k each = gives_fit_from es (after_entry s k (Take migration taken)) (k + 1) (λ i. each (suc i))
gives_fit_from (Give migration p ∷ es) s k each = (each 0 migration p refl, gives_fit_from es (after_entry s k (Give migration p)) (k + 1) (λ i. each (suc i)))
gives_fit_from (Expire client ∷ es) s k each = gives_fit_from es (after_entry s k (Expire client)) (k + 1) (λ i. each (suc i))

-- ---- what a package brings

-- the keys of its pairs ascend
pub package_ascends : (s : LogState) (lo hi : ℕ) (ordered : lo ≤ hi) → PairsAscend (package_of s lo hi ordered).pairs
package_ascends s lo hi ordered = range_ascends s.store lo hi

-- and lie in its range
pub package_within : (s : LogState) (lo hi : ℕ) (ordered : lo ≤ hi) → PairsWithin lo hi (package_of s lo hi ordered).pairs
package_within s lo hi ordered = range_within lo hi (map.entries s.store)
