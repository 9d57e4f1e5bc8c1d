-- What leaves with a range fits into the log.
use Rattle.std.proofs.Common.{◌≡◌, ℕ, true, refl, ap, ◌∙◌}
use Rattle.curp_cmd.specs.declared.entry.Entry.TheVariants.{Take}
use Rattle.curp_cmd.specs.declared.migration.Package.{Package}
use Rattle.curp_msg.specs.declared.body.TakeOut.{TakeOut}
use Rattle.curp_model.specs.Log.{LogState, fits_at, package_of}
use Rattle.curp_model.proofs.Packages.{package_eq-Decides}
use Rattle.curp_model.specs.Master.{MasterState, push_take, state_of}
use Rattle.curp_master.specs.Moving.{IsPackage, pushes}

pub fits_out : (s : LogState) (t : TakeOut) (p : Package) → IsPackage s t p → fits_at s (Take t.migration p) ≡ true
fits_out s t p is =
    ap (λ (q : Package). fits_at s (Take t.migration q)) is.its
    ∙ rw (is.owned, (package_eq-Decides (package_of s t.lo t.hi t.ordered) (package_of s t.lo t.hi t.ordered)).1 refl) refl

-- and is what the definition pushes
pub pushed_out : (n : ℕ) (m : MasterState) (t : TakeOut) (p : Package) → IsPackage (state_of m) t p → pushes n m (Take t.migration p) ≡ push_take n m t
pushed_out n m t p is = rw is.owned (ap (λ (q : Package). pushes n m (Take t.migration q)) is.its)
