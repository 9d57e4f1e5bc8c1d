use Rattle.std.proofs.Common.{◌≡◌, flat_map, take}
use Rattle.curp_base.specs.Words.{numbered}
use Rattle.curp_model.specs.Manager.{nudge_part}
use Rattle.curp_msg.specs.declared.config.PartConfig.{PartConfig}
use Rattle.curp_config.proofs.manager.Manager.nudge_parts.Given as goal

-- the messages so far
abbrev pub invariant-loop-part : goal.invariant-loop-part
invariant-loop-part l = l.messages.items ≡ flat_map (λ (c : PartConfig). nudge_part c (numbered l.self.doing c.part)) (take l.part-index l.self.config.parts)
