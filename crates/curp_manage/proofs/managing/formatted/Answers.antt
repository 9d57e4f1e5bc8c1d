use Rattle.std.proofs.Common.{[], List, ℕ, length, refl, subst}
use Rattle.curp_disk.specs.Calls.{seen_of}
use Rattle.curp_durable.specs.Journal.{HoldsUpTo}
use Rattle.curp_manage.proofs.Headers.{title_is}
use Rattle.curp_manage.proofs.managing.formatted.Goals as goal

pub returns-in-Ok-clause-journal : goal.returns-in-Ok-clause-journal
returns-in-Ok-clause-journal c =
    let is = title_is c.args.header.now c.manager.result c.title_of-title.result c.title_of-title.ensures c.manager.ensures in
    subst (λ (t : List ℕ). HoldsUpTo (seen_of c.format.new.disk.played) t [] (length t)) is (c.in-Ok.ensures.commit refl)
