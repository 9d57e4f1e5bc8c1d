use Rattle.std.proofs.Common.{◌≡◌, ◌++◌, flat_map}
use Rattle.curp_model.specs.Manager.{expire_messages}
use Rattle.curp_config.proofs.manager.Manager.nudge_gone.Given as goal

-- the messages so far, and those for the clients that are left
abbrev pub invariant-loop-client : goal.invariant-loop-client
invariant-loop-client l = l.messages.items ++ flat_map (expire_messages l.self) l.client-iterator ≡ flat_map (expire_messages l.self) l.self.gone
