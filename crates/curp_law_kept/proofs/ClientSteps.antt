-- A step of a client keeps the invariant.
use Rattle.std.proofs.Common.{◌≡◌, ◌≢◌, inl, inr, ℕ, ◌+◌, ◌++◌, length, ap, sym, subst, Some}
use Rattle.std.proofs.lemmas.Bool.Decides.{eqb_tells}
use Rattle.curp_base.specs.Words.{numbered}
use Rattle.curp_cmd.specs.Node.{client_node, manager_node}
use Rattle.curp_cmd.specs.declared.node.NodeId.{NodeId}
use Rattle.curp_cmd.specs.declared.node.NodeKind.{NodeKind}
use Rattle.curp_cmd.specs.declared.node.NodeKind.TheVariants as kind
use Rattle.curp_msg.specs.declared.config.PartConfig.{PartConfig}
use Rattle.curp_msg.specs.Input.{Input}
use Rattle.curp_model.specs.Client.{ClientState, client_input}
use Rattle.curp_model.specs.Manager.{ManagerState}
use Rattle.curp_model.specs.World.{World, messages}
use Rattle.curp_facts.specs.Facts.{IsAdoptedNow}
use Rattle.curp_facts.specs.Growth.{Grows}
use Rattle.curp_facts.specs.Invariant.{Invariant, PresentOk}
use Rattle.curp_facts.specs.Nodes.{ClientOk}
use Rattle.curp_law_kept.specs.Deeds.{IsFor}
use Rattle.curp_law_kept.specs.ClientEffect.{events_after}
use Rattle.curp_law_kept.proofs.Clients.{client_keeps, client_messages, client_said, completed_keeps, history_keeps, other_client_keeps, reads_keep}
use Rattle.curp_facts.specs.Known.{Known}
use Rattle.curp_law_kept.proofs.Moved.{messages_say}
use Rattle.curp_law_kept.proofs.Others.{SaysMore, backups_stay, masters_stay, nothing_ready, started_stay, witnesses_stay}
use Rattle.curp_law_kept.proofs.Later.{Later}
use Rattle.curp_law_kept.proofs.Entries.{ordered_later}
use Rattle.curp_law_kept.proofs.Said.{entry_was_later, says_later}
use Rattle.curp_law_kept.proofs.Words.{Follows, one_state, ready_later, sent_later}

-- the world after an input to client n that isn't refused
pub record ClientMoved (w v : World) (n : ℕ) (given : Input) (c : ClientState) : Type 0 where
  pub grows : Grows w v
  pub later : Later w v
  pub for : IsFor w (client_node n) given
  pub was : numbered w.clients n ≡ Some c
  pub made : (client_input n c given).refused ≡ 0
  pub sent : messages v ≡ messages w ++ (client_input n c given).messages
  pub history : v.history ≡ events_after n w.history c given (client_input n c given)
  pub now : numbered v.clients n ≡ Some (client_input n c given).state
  pub others : (m : ℕ) (d : ClientState) → m ≢ n → numbered v.clients m ≡ Some d → numbered w.clients m ≡ Some d
  pub manager : v.manager ≡ w.manager
  pub masters : v.masters ≡ w.masters
  pub backups : v.backups ≡ w.backups
  pub witnesses : v.witnesses ≡ w.witnesses

module _ {w v : World} (known : Known w) (n : ℕ) (given : Input) (c : ClientState) (moved : ClientMoved w v n given c) where
  not_manager : manager_node ≢ client_node n
  not_manager e = kinds (ap (λ (x : NodeId). x.kind) e)
    where
      kinds : kind.Manager ≡ kind.Client → ⊥
      kinds e = cc

  not_master : (client_node n).kind ≢ kind.Master
  not_master e = cc

  says_more : SaysMore w v (client_input n c given).messages (client_node n)
  says_more = record { sent = moved.sent; all = client_messages known n given moved.for c moved.was moved.made; not_manager = not_manager; manager = moved.manager }

  follows : Follows w v
  follows = record { grows = moved.grows; later = moved.later; names = known.names; steady = known.steady; ready = nothing_ready says_more known.names not_master }

  clients : (m : ℕ) (d : ClientState) → numbered v.clients m ≡ Some d → ClientOk v m d
  clients m d here = elim (eqb_tells m n) [
    | inl same ↦ subst (ClientOk v m) (one_state _ (client_input n c given).state d (subst (λ (k : ℕ). numbered v.clients k ≡ Some (client_input n c given).state) (sym same.1) moved.now) here)
        (subst (λ (k : ℕ). ClientOk v k (client_input n c given).state) (sym same.1) (client_keeps known n given moved.for c moved.was moved.made follows moved.history))
    | inr other ↦ other_client_keeps known n given moved.for c moved.was moved.made follows moved.history m other.1 d (moved.others m d other.1 here)
  ]

  present : (e : PartConfig) → IsAdoptedNow v e → PresentOk v e
  present e now =
      let ok = known.inv.present e (subst (λ (g : ManagerState). numbered g.config.parts e.part ≡ Some e) moved.manager now) in
      record { entry = entry_was_later follows e ok.entry; ready = ready_later follows ok.ready }

  -- what nodes and messages keep holds after it
  pub client_step : Invariant v
  client_step = record {
    masters = masters_stay known follows says_more not_master moved.masters;
    backups = backups_stay known follows says_more moved.backups;
    witnesses = witnesses_stay known follows says_more moved.witnesses;
    started = started_stay known follows says_more moved.witnesses;
    clients = clients;
    history = history_keeps known n given moved.for c moved.was moved.made follows moved.history;
    completed = completed_keeps known n given moved.for c moved.was moved.made follows moved.history;
    reads = reads_keep known n given moved.for c moved.was moved.made follows moved.history;
    messages = messages_say w v (client_input n c given).messages moved.sent (λ k m at. says_later follows known.inv k m.from m.to m.body (known.inv.messages k m at))
        (λ j m at. client_said known n given moved.for c moved.was moved.made follows moved.history j m at (length (messages w) + j));
    present = present;
    moving = λ m its.
        let ok = known.inv.moving m (subst (λ (g : ManagerState). g.moving ≡ Some m) moved.manager its) in
        record { ordered = ordered_later follows ok.ordered; told = λ p is. let t = ok.told p is in record { node = t.node; told = sent_later follows t.told } };
  }
