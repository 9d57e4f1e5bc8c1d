-- An input by which the manager adopts no recovery keeps what is kept of reads.
use Rattle.std.proofs.Common.{◌≡◌, List, ap, sym, ◌∙◌, subst, Option, Some, None}
use Rattle.curp_base.specs.Words.{Each, numbered}
use Rattle.curp_base.proofs.Lists.{Each-weaker}
use Rattle.curp_cmd.specs.Node.{manager_node}
use Rattle.curp_cmd.specs.declared.node.NodeId.{NodeId}
use Rattle.curp_msg.specs.Moved.{says}
use Rattle.curp_msg.specs.declared.config.PartConfig.{PartConfig}
use Rattle.curp_msg.specs.declared.machine.Completed.{Completed}
use Rattle.curp_msg.specs.Input.{Input}
use Rattle.curp_msg.specs.Input as input
use Rattle.curp_msg.specs.declared.message.Message.{Message}
use Rattle.curp_order.specs.declared.Event.{Event}
use Rattle.curp_model.specs.Manager.{Attempted, adoption, manager_input}
use Rattle.curp_model.specs.World.{World, with_adoption, with_completion}
use Rattle.curp_facts.specs.Facts.{IsAdoptedNow, WasSent}
use Rattle.curp_law_kept.specs.ManagerEffect.{ManagerEffect, Uttered}
use Rattle.curp_law_kept.specs.Deeds.{IsFor}
use Rattle.curp_facts.specs.Known.{Known}
use Rattle.curp_law_kept.proofs.Gives.{manager_does, manager_moved, moved_messages, Follows}
use Rattle.curp_law_linear.specs.Ordered.{Ordered}
use Rattle.curp_law_linear.specs.Refined.{Refines}
use Rattle.curp_law_linear.proofs.ReadsEntries.{entries_keep}
use Rattle.curp_law_linear.proofs.ReadsLater.{EntryStays, ReadsOk}
use Rattle.curp_law_linear.proofs.ReadsManager.{manager_reads}
use Rattle.curp_law_linear.proofs.ReadsManagerLists.{manager_said, newer_lists}
use Rattle.curp_law_linear.specs.Refined.{NoAdoption}
use Rattle.curp_facts.specs.Predecessors.{Predecessors}
use Rattle.curp_law_runs.proofs.Gives.{WasHeard, manager_adopts}

-- where nothing completes and no recovery is adopted, the marks stay
marks_stay : (w : World) (done : Option Completed) (adopted : Option Attempted) → done ≡ None → adopted ≡ None → with_completion done (with_adoption w.masters adopted w.marks) ≡ w.marks
marks_stay w completed adopted idle none = ap (λ (o : Option Completed). with_completion o (with_adoption w.masters adopted w.marks)) idle ∙ ap (λ (o : Option Attempted). with_adoption w.masters o w.marks) none

-- what comes to the manager was sent to it
pub was_heard : (w : World) (given : Input) → IsFor w manager_node given → WasHeard w given
was_heard w (input.Local order) for = tt
was_heard w (input.Message m) for = subst (λ (to : NodeId). WasSent w (says m.from to m.body)) for.0 for.1

module _ {w : World} (known : Known w) (given : Input) (adopted : Option Attempted) (events : List Event) where
  abbrev v : World
  v = manager_moved w adopted events (manager_input w.manager given)

  -- an input by which the manager adopts no recovery
  pub manager_step_reads : Known v → Predecessors w → Predecessors v → (ordered : Ordered w) → Follows w v → IsFor w manager_node given → adopted ≡ None
      → adoption w.manager given ≡ None → (r : Refines w v) → Each NoAdoption r.moves → ReadsOk v
  manager_step_reads now chain later ordered s for nothing none r moves = manager_reads now
      (manager_said w adopted events (manager_input w.manager given) (Each-weaker (Uttered w) (λ (m : Message). m.from ≡ manager_node) (λ m u. u.from) (manager_input w.manager given).messages effect.messages))
      known chain later ordered s r moves (marks_stay w (manager_input w.manager given).completed adopted effect.idle nothing) entries
      (newer_lists known now s.later (manager_input w.manager given) (moved_messages w adopted events (manager_input w.manager given)) (manager_adopts known.names given (was_heard w given for)))
    where
      effect : ManagerEffect w (manager_input w.manager given)
      effect = manager_does known given for

      entries : (c : PartConfig) → IsAdoptedNow v c → EntryStays w c
      entries c here =
          let k = entries_keep w.manager known.names.entries given none c.part c here in
          record {
            entry = k.entry;
            now = subst (λ n. numbered w.manager.config.parts n ≡ Some k.entry) (sym k.its_part) k.here;
            its_part = k.its_part;
            its_epoch = k.its_epoch;
            its_master = k.its_master;
          }
