use Rattle.std.proofs.Common.{◌≡◌, true, subst, sym}
use Rattle.std.specs.FinMap as map
use Rattle.std.specs.List.{filter}
use Rattle.curp_cmd.specs.declared.entry.Entry.{Entry}
use Rattle.curp_cmd.specs.declared.migration.Package.{Package}
use Rattle.curp_model.specs.Log.{fits_at, is_pair_in}
use Rattle.curp_log.proofs.Keeps.{take_fits}
use Rattle.curp_log.specs.State.{meant_by}
use Rattle.curp_log.proofs.state.State.apply.Goals as goal

pub take-requires-clause-pairs : goal.take-requires-clause-pairs
take-requires-clause-pairs c =
    subst (λ (p : Package). p.pairs ≡ filter (is_pair_in p.lo p.hi) (map.entries c.args.self.now.store.map)) (sym c.deref-in-Take.ensures)
    (take_fits (meant_by c.args.self.now) c.in-Take.migration c.in-Take.package
    (subst (λ (e : Entry). fits_at (meant_by c.args.self.now) e ≡ true) c.in-Take.is c.requires.fits)).1
