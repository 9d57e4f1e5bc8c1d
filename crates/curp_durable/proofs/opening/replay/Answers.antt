use Rattle.curp_durable.proofs.Walking.{from_starts}
use Rattle.curp_durable.proofs.opening.replay.Goals as goal

pub returns-then-starts-clause-err : goal.returns-then-starts-clause-err
returns-then-starts-clause-err g c =
    let content = c.args.content.now in
    let title = c.args.title.now in
    c.walk.ensures.err content title c.args.node (from_starts g.N.Core.machine content title c.args.node c.begin.result (c.starts.ensures.yes c.if-starts.true) c.begin.ensures)
