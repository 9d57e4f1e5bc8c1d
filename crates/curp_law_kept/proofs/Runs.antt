-- Every step keeps the facts of names, and of who says what to whom; so does every run.
use Rattle.std.proofs.Common.{replicate, ◌≡◌, ◌⊎◌, inl, inr, ℕ, zero, suc, ◌-◌, List, [], ◌∷◌, ◌++◌, length, refl, sym, ap, subst, Option, Some, None}
use Rattle.std.specs.Prelude.{⊤}
use Rattle.curp_base.specs.Words.{Each, numbered}
use Rattle.curp_base.proofs.Lists.{at_append_cases, at_replicate, Each-append, Each-weaker}
use Rattle.curp_cmd.specs.Node.{manager_node}
use Rattle.curp_cmd.specs.declared.node.NodeId.{NodeId}
use Rattle.curp_cmd.specs.declared.node.NodeKind.{NodeKind}
use Rattle.curp_cmd.specs.declared.node.NodeKind.TheVariants as kind
use Rattle.curp_msg.specs.Moved.{Moved, quiet, says}
use Rattle.curp_msg.specs.declared.body.Body.{Body}
use Rattle.curp_msg.specs.declared.body.Body.TheVariants as body
use Rattle.curp_msg.specs.Input.{Input}
use Rattle.curp_msg.specs.Input as input
use Rattle.curp_msg.specs.declared.machine.Local.TheVariants as local
use Rattle.curp_msg.specs.declared.message.Message.{Message}
use Rattle.curp_msg.specs.declared.outcome.StepResult.{StepResult}
use Rattle.curp_msg.specs.declared.outcome.StepResult.TheVariants as result
use Rattle.curp_msg.specs.declared.script.Header.{Header}
use Rattle.curp_msg.specs.declared.script.Step.{Step}
use Rattle.curp_msg.specs.declared.script.Step.TheVariants as steps
use Rattle.curp_order.specs.declared.Event.{Event}
use Rattle.curp_model.specs.Backup.{backup_input, fresh_backup}
use Rattle.curp_model.specs.Client.{client_input}
use Rattle.curp_model.specs.Manager.{Attempted, ManagerState, adoption, manager_input}
use Rattle.curp_model.specs.Recovery.{Fresh, master_input}
use Rattle.curp_model.specs.Witness.{fresh_witness, witness_input}
use Rattle.curp_model.specs.World.{World, deed_of, delivery, effect, events_of, grown, kept, messages, moves_kind, moves_one, opening, result_of, run, step, steps_by, world}
use Rattle.curp_facts.specs.Facts.{ByRecovery, IsAmong, WasSent, lists_of_order}
use Rattle.curp_msg.specs.Script.{IsRun}
use Rattle.curp_facts.specs.Names.{IsOf, IsAdoptedMaster, ManagerSays, Names}
use Rattle.curp_facts.specs.Fits.{BackupFits, MasterFits, MessageFits, WitnessFits}
use Rattle.curp_law_kept.proofs.ClientsFit.{Arrives, client_fits}
use Rattle.curp_law_kept.proofs.Fits.{backup_later, client_fits_later, master_later, message_later, witness_later}
use Rattle.curp_law_kept.proofs.KeepersFit.{InputFits, backup_fits, witness_fits}
use Rattle.curp_law_kept.proofs.Later.{Later, later_self, later_then}
use Rattle.curp_law_kept.proofs.NumberedLists.{among_each, each_among}
use Rattle.curp_law_kept.proofs.ManagerNames.{manager_good}
use Rattle.curp_law_kept.proofs.Named.{named}
use Rattle.curp_law_kept.proofs.OpenedNames.{opening_names, opening_nodes}
use Rattle.curp_law_kept.proofs.OthersNames.{Both, Goes, backup_keeps, client_keeps, master_keeps, nothing_keeps, witness_keeps}
use Rattle.curp_law_kept.proofs.Quiet.{IsManagers}
use Rattle.curp_law_kept.proofs.Recoverings.{IsForMaster, master_fits}
use Rattle.curp_law_kept.proofs.ManagerWorlds.{manager_moved, moved_messages, sent_now}
use Rattle.curp_base.proofs.Numbered.{place, number_within}
use Rattle.curp_model.proofs.Batches.{all_of-kept}

-- ---- the manager's messages

module _ (v : World) (n : Names v) where
  server : (node : NodeId) → IsAdoptedMaster v node → IsOf v kind.Master node
  server node s = subst (IsOf v kind.Master) s.its_master (n.given s.lists s.was.given).master

  -- what the manager has said goes to a node of the kind that it is for
  manager_fits : (node : NodeId) (b : Body) → WasSent v (says manager_node node b) → ManagerSays v node b → MessageFits v (says manager_node node b)
  manager_fits node (body.Install epoch) sent ok = record { sender = (refl, refl); addressee = among_each (IsOf v kind.Backup) ok.lists.backups (n.given ok.lists ok.given).backups node ok.named; fits = tt }
  manager_fits node (body.Start s) sent ok = record { sender = (refl, refl); addressee = among_each (IsOf v kind.Witness) ok.lists.witnesses (n.given ok.lists ok.given).witnesses node ok.named; fits = tt }
  manager_fits node (body.Recover o) sent ok = record { sender = (refl, refl); addressee = (n.given (lists_of_order node o) (ByRecovery node o sent)).master; fits = tt }
  manager_fits node (body.Prepare p) sent ok = record { sender = (refl, refl); addressee = subst (IsOf v kind.Master) ok.its_master (n.given ok.before ok.was.given).master; fits = tt }
  manager_fits node (body.Adopted a) sent ok = record { sender = (refl, refl); addressee = subst (IsOf v kind.Master) ok.its_master (n.given ok.lists ok.was.given).master; fits = tt }
  manager_fits node (body.TakeOut t) sent ok = record { sender = (refl, refl); addressee = server node ok; fits = tt }
  manager_fits node (body.GiveIn g) sent ok = record { sender = (refl, refl); addressee = server node ok.0; fits = tt }
  manager_fits node (body.ExpireClient client) sent ok = record { sender = (refl, refl); addressee = server node ok.0; fits = tt }
  manager_fits node (body.Configuration config) sent ok = record { sender = (refl, refl); addressee = ok.0; fits = tt }
  manager_fits node _ sent ok = absurd ok

-- what stands among grown nodes was there, or is fresh
grown_cases : {S : Type 0} (xs : List S) (fresh : S) (next n : ℕ) (x : S) → numbered (grown xs fresh next) n ≡ Some x → (numbered xs n ≡ Some x) ⊎ (fresh ≡ x)
grown_cases xs fresh next zero x at = absurd cc
grown_cases xs fresh next (suc n) x at = elim (at_append_cases xs (replicate ((next - 1) - length xs) fresh) n x at) [
  | inl h ↦ inl h
  | inr h ↦ inr (at_replicate ((next - 1) - length xs) fresh h.0 x h.2).1
]

-- an input is for a node
abbrev IsFor : NodeKind → ℕ → Input → Type 0
IsFor k i (input.Local order) = ⊤
IsFor k i (input.Message m) = m.to ≡ named k i

module _ (w : World) (both : Both w) (events : List Event) where
  n : Names w
  n = both.names

  message_comes : (given : Input) → Arrives w given → InputFits w given
  message_comes (input.Local order) comes = tt
  message_comes (input.Message m) comes = comes.0

  -- ---- the manager

  manager_keeps : (given : Input) → Arrives w given → Goes w (kept w events (moves_kind w kind.Manager 0 given)).world
  manager_keeps given comes =
      let r : Moved ManagerState = manager_input w.manager given in
      let adopted : Option Attempted = adoption w.manager given in
      let good = manager_good n given comes in
      let after = good.1 adopted events in
      record { both = keeps r adopted good.0 after.0 after.1; later = after.1 }
    where
      keeps : (r : Moved ManagerState) (adopted : Option Attempted) → Each IsManagers r.messages → Names (manager_moved w adopted events r) → Later w (manager_moved w adopted events r) → Both (manager_moved w adopted events r)
      keeps r adopted from names g =
          let v : World = manager_moved w adopted events r in
          record {
            names = names;
            nodes = record {
              said = subst (Each (MessageFits v)) (sym (moved_messages w adopted events r)) (Each-append (MessageFits v) (messages w) r.messages
                  (Each-weaker (MessageFits w) (MessageFits v) (message_later g) (messages w) both.nodes.said)
                  (each_among (MessageFits v) r.messages (λ m a. new_fits r adopted names m a (among_each IsManagers r.messages from m a))));
              clients = λ i c at. client_fits_later g i c (both.nodes.clients i c at);
              masters = λ i m at. elim (grown_cases w.masters Fresh r.state.next.master i m at) [
                | inl was ↦ master_later g i m (both.nodes.masters i m was)
                | inr fresh ↦ subst (MasterFits v i) fresh tt
              ];
              backups = λ i x at. elim (grown_cases w.backups fresh_backup r.state.next.backup i x at) [
                | inl was ↦ backup_later g x (both.nodes.backups i x was)
                | inr fresh ↦ subst (BackupFits v) fresh tt
              ];
              witnesses = λ i x at. elim (grown_cases w.witnesses (fresh_witness w.sets w.ways) r.state.next.witness i x at) [
                | inl was ↦ witness_later g x (both.nodes.witnesses i x was)
                | inr fresh ↦ subst (WitnessFits v) fresh tt
              ];
            };
          }
        where
          new_fits : (r : Moved ManagerState) (adopted : Option Attempted) → Names (manager_moved w adopted events r) → (m : Message) → IsAmong m r.messages → IsManagers m → MessageFits (manager_moved w adopted events r) m
          new_fits r adopted names m a from =
              let v : World = manager_moved w adopted events r in
              let same : m ≡ says manager_node m.to m.body = ap (λ (x : NodeId). says x m.to m.body) from in
              let sent : WasSent v (says manager_node m.to m.body) = subst (WasSent v) same (sent_now w v r.messages (moved_messages w adopted events r) a) in
              subst (MessageFits v) (sym same) (manager_fits v names m.to m.body sent (names.manager_says m.to m.body sent))

  -- ---- the others

  by_one : {S : Type 0} (move : S → Moved World) (o : Option S) → ((x : S) → o ≡ Some x → Goes w (kept w events (move x)).world) → Goes w (kept w events (moves_one w move o)).world
  by_one move None keeps = nothing_keeps w both events (quiet w) (record { manager = refl; clients = refl; masters = refl; backups = refl; witnesses = refl; came = all_of-kept w.sent [] }) refl refl refl refl
  by_one move (Some x) keeps = keeps x refl

  for_master : (i : ℕ) (given : Input) → IsFor kind.Master i given → IsForMaster i given
  for_master i (input.Local order) here = tt
  for_master i (input.Message m) here = here

  -- an input comes to a node
  moves_keep : (k : NodeKind) (i : ℕ) (given : Input) → Arrives w given → IsFor k i given → Goes w (kept w events (moves_kind w k i given)).world
  moves_keep kind.Manager i given comes here = manager_keeps given comes
  moves_keep kind.Client i given comes here = by_one _ (numbered w.clients i) (λ c at.
      let r = client_fits w n i (number_within w.clients i c at) c (both.nodes.clients i c at) given comes in
      client_keeps w both events i c at (client_input i c given) r.0 r.1)
  moves_keep kind.Master i given comes here = by_one _ (numbered w.masters i) (λ m at.
      let r = master_fits w n i (number_within w.masters i m at) m (both.nodes.masters i m at) given comes (for_master i given here) in
      master_keeps w both events i given m at (master_input i m given) r.0 r.1)
  moves_keep kind.Backup i given comes here = by_one _ (numbered w.backups i) (λ x at.
      let r = backup_fits w i (number_within w.backups i x at) x (both.nodes.backups i x at) given (message_comes given comes) in
      backup_keeps w both events i x at (backup_input i x given) r.0 r.1)
  moves_keep kind.Witness i given comes here = by_one _ (numbered w.witnesses i) (λ x at.
      let r = witness_fits w i (number_within w.witnesses i x at) x (both.nodes.witnesses i x at) given (message_comes given comes) in
      witness_keeps w both events i x at (witness_input i x given) r.0 r.1)

-- ---- steps

module _ (w : World) (both : Both w) where
  delivery_keeps : (number : ℕ) (o : Option Message) → numbered (messages w) number ≡ o → (events : List Event) → Goes w (kept w events (effect w (delivery o))).world
  delivery_keeps number None at events = by_one w both events {S = Message} (λ m. quiet w) None (λ m e. absurd cc)
  delivery_keeps number (Some m) at events =
      let p = place (messages w) number m at in
      let sent : IsAmong m (messages w) = record { place = p.0; stands = p.2 } in
      moves_keep w both events m.to.kind m.to.number (input.Message m) (among_each (MessageFits w) (messages w) both.nodes.said m sent, record { place = p.0; stands = p.2 }) refl

  deed_keeps : (x : Step) (events : List Event) → Goes w (kept w events (effect w (deed_of w x))).world
  deed_keeps (steps.Deliver number) events = delivery_keeps number (numbered (messages w) number) refl events
  deed_keeps (steps.Stop node) events =
      nothing_keeps w both events (quiet (record w { stopped = w.stopped ++ node ∷ [] })) (record { manager = refl; clients = refl; masters = refl; backups = refl; witnesses = refl; came = all_of-kept w.sent [] }) refl refl refl refl
  deed_keeps (steps.Invoke i command) events = moves_keep w both events kind.Client i (input.Local (local.Invoke command)) tt tt
  deed_keeps (steps.Retry i seq) events = moves_keep w both events kind.Client i (input.Local (local.Retry seq)) tt tt
  deed_keeps (steps.Fetch i) events = moves_keep w both events kind.Client i (input.Local local.Fetch) tt tt
  deed_keeps (steps.Sync i) events = moves_keep w both events kind.Master i (input.Local local.Sync) tt tt
  deed_keeps (steps.Collect i) events = moves_keep w both events kind.Master i (input.Local local.Collect) tt tt
  deed_keeps (steps.Recover part backup witness) events = moves_keep w both events kind.Manager 0 (input.Local (local.Recover part backup witness)) tt tt
  deed_keeps (steps.Replace keeper part place) events = moves_keep w both events kind.Manager 0 (input.Local (local.Replace keeper part place)) tt tt
  deed_keeps (steps.Migrate lo hi to) events = moves_keep w both events kind.Manager 0 (input.Local (local.Migrate lo hi to)) tt tt
  deed_keeps steps.Nudge events = moves_keep w both events kind.Manager 0 (input.Local local.Nudge) tt tt
  deed_keeps (steps.Expire client) events = moves_keep w both events kind.Manager 0 (input.Local (local.Expire client)) tt tt

  by_result : (x : Step) (why : StepResult) → Goes w (steps_by w (deed_of w x) why).world
  by_result x result.Done = deed_keeps x (events_of w (deed_of w x))
  by_result x _ = record { both = both; later = later_self w }

  -- each step leads to a later world with both
  pub step_goes : (x : Step) → Goes w (step w x).world
  unfolding step
  step_goes x = by_result x (result_of w x)

run_goes : (w : World) (xs : List Step) → Both w → Goes w (run w xs)
run_goes w [] both = record { both = both; later = later_self w }
run_goes w (x ∷ xs) both =
    let first = step_goes w both x in
    let rest = run_goes (step w x).world xs first.both in
    record { both = rest.both; later = later_then first.later rest.later }

-- every run leads from the opening to a later world with both
pub always : (h : Header) (xs : List Step) → IsRun h xs → Goes (opening h) (world h xs)
always h xs is = run_goes (opening h) xs (record { names = opening_names h is.header; nodes = opening_nodes h is.header })
