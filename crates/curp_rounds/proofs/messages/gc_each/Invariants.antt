use Rattle.std.proofs.Common.{◌≡◌, take}
use Rattle.curp_cmd.specs.Node.{master_node}
use Rattle.curp_msg.specs.Moved.{says_each}
use Rattle.curp_msg.specs.declared.body.Body.TheVariants.{Gc}
use Rattle.curp_rounds.proofs.messages.gc_each.Given as goal

-- the witnesses so far are told
abbrev pub invariant-loop-witness : goal.invariant-loop-witness
invariant-loop-witness l = l.sent.items ≡ says_each (master_node l.number) (take l.witness-index l.witnesses) (Gc (record { epoch = l.epoch; ids = l.ids }))
