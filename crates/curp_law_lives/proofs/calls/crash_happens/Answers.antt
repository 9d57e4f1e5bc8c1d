use Rattle.curp_law_lives.proofs.Events.{crashes}
use Rattle.curp_law_lives.proofs.calls.crash_happens.Goals as goal

pub returns : goal.returns
returns g c title opening held answered left settled leaves =
    let D = g.D.Disk in
    let d = c.args.durable.now in
    crashes g.N.Core.machine title opening D.seen D.may_leave d.disk d.stand d.commit held answered left settled leaves
