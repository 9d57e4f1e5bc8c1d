use Rattle.std.proofs.Common.{◌≡◌, take}
use Rattle.curp_model.specs.Master.{synced_replies}
use Rattle.curp_master.proofs.master.Master.synced_replies.Given as goal

-- the replies to those so far
abbrev pub invariant-loop-index : goal.invariant-loop-index
invariant-loop-index l = l.sent.items ≡ synced_replies l.self.number (record l.self.state { version = l.version }) (take l.index-index l.indexes)
