-- No step takes a master away.
use Rattle.std.proofs.Common.{◌≡◌, ◌≤◌, ◌-◌, ℕ, List, length, Option, Some, None, ◌∙◌, arith, length-append}
use Rattle.std.proofs.lemmas.List.{length-map, length-set}
use Rattle.std.specs.Prelude.{replicate, slice_set}
use Rattle.curp_cmd.specs.declared.node.NodeKind.{NodeKind}
use Rattle.curp_cmd.specs.declared.node.NodeKind.TheVariants as kind
use Rattle.curp_base.specs.Words.{numbered, numbers_from}
use Rattle.curp_msg.specs.Moved.{Moved, within}
use Rattle.curp_msg.specs.Input.{Input}
use Rattle.curp_msg.specs.declared.outcome.StepResult.{StepResult}
use Rattle.curp_msg.specs.declared.outcome.StepResult.TheVariants as result
use Rattle.curp_msg.specs.declared.script.Header.{Header}
use Rattle.curp_msg.specs.declared.script.Step.{Step}
use Rattle.curp_model.specs.Client.{client_input}
use Rattle.curp_model.specs.Backup.{backup_input}
use Rattle.curp_model.specs.Witness.{witness_input}
use Rattle.curp_model.specs.Recovery.{Fresh, master_input}
use Rattle.curp_model.specs.World.{World, Deed, Nothing, Gives, Stops, deed_of, effect, grown, moves_kind, moves_one, opening, opening_master, result_of, shape_of, step, steps_by, with_backup, with_client, with_master, with_witness}
use Rattle.curp_base.proofs.Numbered.{length-numbers}

grown_long : {S : Type 0} (nodes : List S) (fresh : S) (next : ℕ) → length nodes ≤ length (grown nodes fresh next)
grown_long nodes fresh next = omega (arith, length-append nodes (replicate ((next - 1) - length nodes) fresh))

set_long : {S : Type 0} (nodes : List S) (at : ℕ) (node : S) → length nodes ≤ length (slice_set nodes at node)
set_long nodes at node = omega (arith, length-set nodes at node)

one_long : {S : Type 0} (w : World) (move : S → Moved World) (o : Option S) → ((s : S) → length w.masters ≤ length (move s).state.masters)
    → length w.masters ≤ length (moves_one w move o).state.masters
one_long w move None long = omega arith
one_long w move (Some s) long = long s

kind_long : (w : World) (k : NodeKind) (n : ℕ) (given : Input) → length w.masters ≤ length (moves_kind w k n given).state.masters
kind_long w kind.Manager n given = grown_long w.masters Fresh _
kind_long w kind.Client n given =
    one_long w (λ c. within (with_client w n) (client_input n c given)) (numbered w.clients n) (λ c. omega arith)
kind_long w kind.Master n given =
    one_long w (λ m. within (with_master w n given m) (master_input n m given)) (numbered w.masters n)
    (λ m. set_long w.masters (n - 1) (master_input n m given).state)
kind_long w kind.Backup n given =
    one_long w (λ b. within (with_backup w n) (backup_input n b given)) (numbered w.backups n) (λ b. omega arith)
kind_long w kind.Witness n given =
    one_long w (λ x. within (with_witness w n) (witness_input n x given)) (numbered w.witnesses n) (λ x. omega arith)

effect_long : (w : World) (d : Deed) → length w.masters ≤ length (effect w d).state.masters
effect_long w Nothing = omega arith
effect_long w (Gives to given) = kind_long w to.kind to.number given
effect_long w (Stops node) = omega arith

result_long : (w : World) (d : Deed) (r : StepResult) → length w.masters ≤ length (steps_by w d r).world.masters
result_long w d result.Done = effect_long w d
result_long w d result.NoMessage = omega arith
result_long w d result.NoNode = omega arith
result_long w d result.Gone = omega arith
result_long w d result.Manager = omega arith
result_long w d (result.Full weight) = omega arith
result_long w d (result.Refused number) = omega arith

-- each step leaves as many masters at least
pub masters_stay : (w : World) (s : Step) → length w.masters ≤ length (step w s).world.masters
unfolding step
masters_stay w s = result_long w (deed_of w s) (result_of w s)

-- at opening each partition has one
pub opening_masters : (h : Header) → length (opening h).masters ≡ h.parts
unfolding opening
opening_masters h = length-map (numbers_from 1 h.parts) (opening_master (shape_of h)) ∙ length-numbers 1 h.parts
