-- What the test of packages says in a log.
use Rattle.std.proofs.Common.{◌≡◌, ◌≤◌, ℕ, true, List, take, refl}
use Rattle.std.proofs.lemmas.Bool.{and_from, and_parts}
use Rattle.curp_base.specs.Words.{At}
use Rattle.curp_cmd.specs.declared.entry.Entry.{Entry}
use Rattle.curp_cmd.specs.declared.entry.Entry.TheVariants.{Take}
use Rattle.curp_cmd.specs.declared.migration.Package.{Package}
use Rattle.curp_range.specs.Spans.{is_covered}
use Rattle.curp_model.specs.Log.{LogState, IsLog, fits_at, meaning, package_eq, package_of}
use Rattle.curp_model.proofs.Packages.{package_eq-Decides}
use Rattle.curp_law_kept.proofs.Logs.{fits_place}

-- packages that the test finds equal are one
pub package_same : (p q : Package) → package_eq p q ≡ true → p ≡ q
package_same p q e = (package_eq-Decides p q).0 e

-- and a package is equal to itself
pub package_self : (p : Package) → package_eq p p ≡ true
package_self p = (package_eq-Decides p p).1 refl

-- the package of a take is that of the state before it
pub take_package : (lo hi : ℕ) (log : List Entry) (i migration : ℕ) (p : Package) → IsLog lo hi log → At log i (Take migration p) → p ≡ package_of (meaning lo hi (take i log)) p.lo p.hi p.ordered
take_package lo hi log i migration p fits at = package_same _ _ (and_parts _ (package_eq p (package_of (meaning lo hi (take i log)) p.lo p.hi p.ordered)) (fits_place lo hi log i (Take migration p) fits at)).1

-- its range was owned
pub take_covered : (lo hi : ℕ) (log : List Entry) (i migration : ℕ) (p : Package) → IsLog lo hi log → At log i (Take migration p) → is_covered (meaning lo hi (take i log)).owned p.lo p.hi ≡ true
take_covered lo hi log i migration p fits at = (and_parts (is_covered (meaning lo hi (take i log)).owned p.lo p.hi) _ (fits_place lo hi log i (Take migration p) fits at)).0

-- a take of a covered range fits, with the package of the state
pub take_fits : (s : LogState) (migration lo hi : ℕ) (ordered : lo ≤ hi) → is_covered s.owned lo hi ≡ true → fits_at s (Take migration (package_of s lo hi ordered)) ≡ true
take_fits s migration lo hi ordered covered = and_from _ _ covered (package_self (package_of s lo hi ordered))
