use Rattle.curp_log.proofs.Takes.{taken_out}
use Rattle.curp_log.proofs.state.State.take.Goals as goal

pub unwrap-requires : goal.unwrap-requires
unwrap-requires c =
    taken_out c.take_out.result c.args.self.now.ranges.spans c.args.taken.now.lo c.args.taken.now.hi c.requires.covered
    (λ e. (c.take_out.ensures.not_owned).0 e)
