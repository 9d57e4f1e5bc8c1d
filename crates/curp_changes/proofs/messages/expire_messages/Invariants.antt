use Rattle.std.proofs.Common.{◌≡◌, take, map}
use Rattle.curp_cmd.specs.Node.{manager_node}
use Rattle.curp_msg.specs.Moved.{says_each}
use Rattle.curp_msg.specs.declared.body.Body.TheVariants.{ExpireClient}
use Rattle.curp_msg.specs.declared.config.PartConfig.{PartConfig}
use Rattle.curp_changes.proofs.messages.expire_messages.Given as goal

-- the messages so far
abbrev pub invariant-loop-part : goal.invariant-loop-part
invariant-loop-part l = l.messages.items ≡ says_each manager_node (map (λ (c : PartConfig). c.master) (take l.part-index l.parts)) (ExpireClient l.client)
