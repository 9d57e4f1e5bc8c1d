use Rattle.std.proofs.Common.{◌++◌}
use Rattle.curp_front_node.proofs.Waits.{ended}
use Rattle.curp_front_node.proofs.serving.serve.Goals as goal

pub returns-in-Some-clause-end : goal.returns-in-Some-clause-end
returns-in-Some-clause-end g c tells is =
    let told = c.loop.invariant.tells tells in
    ended c.in-Some.stop c.end_of.result
    (c.loop.parcels.ahead ++ g.S.Source.left c.loop.source) c.await_parcel.new.self.ahead (g.S.Source.left c.await_parcel.new.source)
    c.loop.parcels.passed c.await_parcel.new.self.passed
    (c.in-Some.ensures.why told) (c.in-Some.ensures.left told) c.end_of.ensures.end is
