-- A small node that passes messages on.
use Rattle.std.proofs.Common.{arith, refl}
use Rattle.std.specs.Prelude.{◌≡◌, ℕ, zero, suc, List, [], ◌∷◌}
use Rattle.curp_cmd.specs.declared.node.NodeId.{NodeId}
use Rattle.curp_msg.specs.Moved.{Moved, Refuses, not_refused, refused_by, says, quiet, sends, refuses}
use Rattle.curp_msg.specs.declared.body.Body.{Body}
use Rattle.curp_msg.specs.declared.body.Body.TheVariants as body
use Rattle.curp_msg.specs.Input.{Input}
use Rattle.curp_msg.specs.Input as input
use Rattle.curp_msg.specs.declared.machine.Local.{Local}
use Rattle.curp_msg.specs.declared.machine.Local.TheVariants as local
use Rattle.curp_msg.specs.declared.message.Message.{Message}

-- its name, and the nodes to which it passes on
pub record RelayState : Type 0 where
  pub id : NodeId
  pub one : NodeId
  pub other : NodeId

-- to both, to be passed on once less often
abbrev pub both : RelayState → ℕ → List Message
both s zero = []
both s (suc left) = says s.id s.one (body.Given left) ∷ says s.id s.other (body.Given left) ∷ []

-- an order to retry begins one that is passed on so often, and every other is refused by the number 1
abbrev pub ordered : RelayState → Local → Moved RelayState
ordered s (local.Retry left) = sends s (both s left)
ordered s _ = refuses s 1

abbrev pub heard : RelayState → Body → Moved RelayState
heard s (body.Given left) = sends s (both s left)
heard s _ = quiet s

unfoldable pub relay : RelayState → Input → Moved RelayState
relay s (input.Local order) = ordered s order
relay s (input.Message message) = heard s message.body

-- ---- its laws

ordered_refuses : (s : RelayState) (order : Local) → Refuses s (ordered s order)
ordered_refuses s (local.Retry left) = not_refused s _ refl
ordered_refuses s _ = refused_by s 1 (omega arith)

heard_takes : (s : RelayState) (b : Body) → (heard s b).refused ≡ 0
heard_takes s (body.Given left) = refl
heard_takes s _ = refl

pub relay_refuses : (s : RelayState) (order : Local) → Refuses s (relay s (input.Local order))
unfolding relay
relay_refuses s order = ordered_refuses s order

pub relay_takes : (s : RelayState) (message : Message) → (relay s (input.Message message)).refused ≡ 0
unfolding relay
relay_takes s message = heard_takes s message.body
