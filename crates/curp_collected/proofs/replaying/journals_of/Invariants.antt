use Rattle.curp_collected.specs.Files.{contents_of}
use Rattle.curp_collected.specs.Kinds.{HaveLogs}
use Rattle.curp_collected.proofs.replaying.journals_of.Given as goal

-- so many have their journals
abbrev pub invariant-loop-beginning : goal.invariant-loop-beginning
invariant-loop-beginning g l = HaveLogs g.N.Core.machine (contents_of l.files.each.items) l.files.until l.files.header l.yielded l.logs.items
