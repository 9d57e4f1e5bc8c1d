-- A small node, as an example of a machine.
use Rattle.std.proofs.Common.{arith, refl}
use Rattle.std.specs.Prelude.{◌≡◌, ℕ, max, [], ◌∷◌}
use Rattle.curp_cmd.specs.declared.node.NodeKind.TheVariants.{Client, Manager}
use Rattle.curp_msg.specs.Moved.{Moved, Refuses, not_refused, refused_by, says, quiet, sends, refuses}
use Rattle.curp_msg.specs.declared.body.Body.{Body}
use Rattle.curp_msg.specs.declared.body.Body.TheVariants as body
use Rattle.curp_msg.specs.Input.{Input}
use Rattle.curp_msg.specs.Input as input
use Rattle.curp_msg.specs.declared.machine.Local.{Local}
use Rattle.curp_msg.specs.declared.machine.Local.TheVariants as local
use Rattle.curp_msg.specs.declared.message.Message.{Message}

-- client 1 asks the manager
abbrev pub fetch_message : Message
fetch_message = says (record { kind = Client; number = 1 }) (record { kind = Manager; number = 0 }) body.Fetch

-- it fetches, and refuses every other order by the number 1
abbrev pub ordered : ℕ → Local → Moved ℕ
ordered serial local.Fetch = sends serial (fetch_message ∷ [])
ordered serial _ = refuses serial 1

-- it keeps the greatest serial
abbrev pub heard : ℕ → Body → Moved ℕ
heard serial (body.Configuration config) = quiet (max serial config.serial)
heard serial _ = quiet serial

-- a client that knows the serial of a configuration
unfoldable pub asker : ℕ → Input → Moved ℕ
asker serial (input.Local order) = ordered serial order
asker serial (input.Message message) = heard serial message.body

-- ---- its laws

ordered_refuses : (serial : ℕ) (order : Local) → Refuses serial (ordered serial order)
ordered_refuses serial local.Fetch = not_refused serial _ refl
ordered_refuses serial _ = refused_by serial 1 (omega arith)

told_takes : (serial : ℕ) (b : Body) → (heard serial b).refused ≡ 0
told_takes serial (body.Configuration config) = refl
told_takes serial _ = refl

pub asker_refuses : (serial : ℕ) (order : Local) → Refuses serial (asker serial (input.Local order))
unfolding asker
asker_refuses serial order = ordered_refuses serial order

pub asker_takes : (serial : ℕ) (message : Message) → (asker serial (input.Message message)).refused ≡ 0
unfolding asker
asker_takes serial message = told_takes serial message.body
