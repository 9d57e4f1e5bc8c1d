use Rattle.curp_law_lives.proofs.Events.{if_both, opens}
use Rattle.curp_law_lives.proofs.calls.opening_happens.Goals as goal

pub returns-clause-happens : goal.returns-clause-happens
returns-clause-happens g c answered told =
    let seen = g.D.Disk.seen in
    if_both c.open.result _ _ _ (λ d is quiet. opens g.N.Core.machine c.args.title.now c.args.node (seen c.args.disk) (seen d.disk) d.commit d.stand answered is.1 quiet.same) (c.open.ensures.ok told) c.open.ensures.quiet
