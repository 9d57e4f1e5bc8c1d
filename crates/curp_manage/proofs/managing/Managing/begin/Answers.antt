use Rattle.std.proofs.Common.{[], ◌∙◌}
use Rattle.curp_manage.proofs.Headers.{few_nodes, managed_first, opens_so}
use Rattle.curp_manage.proofs.managing.Managing.begin.Goals as goal

pub over-requires : goal.over-requires
over-requires c =
    let h = c.args.header.now in
    managed_first h c.in_ok-manager.manager (c.in_ok-manager.ensures [] 36 c.in_ok-disk.ensures.journal) (few_nodes h c.requires)

pub returns : goal.returns
returns c = c.over.ensures ∙ opens_so c.args.header.now c.in_ok-manager.manager (c.in_ok-manager.ensures [] 36 c.in_ok-disk.ensures.journal)
