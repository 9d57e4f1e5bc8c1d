-- What follows from what is known of a world, and what stays where one backup, witness or master alone has moved.
use Rattle.std.proofs.Common.{◌≡◌, ◌≢◌, ℕ, ◌+◌, List, ◌++◌, length, ap, sym, ◌∙◌, subst, Some, false}
use Rattle.curp_base.specs.Words.{At, Each, numbered}
use Rattle.curp_base.proofs.Lists.{Each-at}
use Rattle.curp_cmd.specs.Node.{manager_node}
use Rattle.curp_cmd.specs.declared.command.Answer.{Answer}
use Rattle.curp_cmd.specs.Store.{is_update}
use Rattle.curp_cmd.specs.declared.command.Command.{Command}
use Rattle.curp_cmd.specs.declared.command.RequestId.{RequestId}
use Rattle.curp_cmd.specs.declared.node.NodeId.{NodeId}
use Rattle.curp_cmd.specs.declared.node.NodeKind.{NodeKind}
use Rattle.curp_cmd.specs.declared.node.NodeKind.TheVariants as kind
use Rattle.curp_msg.specs.Moved.{says}
use Rattle.curp_msg.specs.declared.body.Body.{Body}
use Rattle.curp_msg.specs.declared.config.PartConfig.{PartConfig}
use Rattle.curp_msg.specs.declared.message.Message.{Message}
use Rattle.curp_order.specs.Order.{IsHistory}
use Rattle.curp_order.specs.declared.Event.{Event}
use Rattle.curp_order.specs.declared.Event.TheVariants.{Invoke, Complete}
use Rattle.curp_model.specs.Client.{ClientState}
use Rattle.curp_model.specs.Manager.{ManagerState, Migration}
use Rattle.curp_model.specs.World.{World, messages}
use Rattle.curp_facts.specs.Facts.{EntryWas, IsAdoptedNow, IsGiven, Lists, WasSent}
use Rattle.curp_facts.specs.ClientNumbers.{ClientNumbersOk}
use Rattle.curp_facts.specs.Evidence.{KnowledgeOk}
use Rattle.curp_facts.specs.Invariant.{MigrationOk, PresentOk}
use Rattle.curp_facts.specs.Known.{Known}
use Rattle.curp_facts.specs.Nodes.{ClientOk, CompletedBy, MayCome, WasRead}
use Rattle.curp_facts.specs.Said.{Says}
use Rattle.curp_facts.specs.Names.{IsOf}
use Rattle.curp_facts.specs.Fits.{MessageFits, sender_kind}
use Rattle.curp_law_kept.proofs.ClientLater.{knowledge_grows}
use Rattle.curp_law_kept.proofs.Moved.{given_back, messages_say}
use Rattle.curp_law_kept.proofs.Entries.{ordered_later}
use Rattle.curp_law_kept.proofs.Nodes.{completed_by_later, read_later}
use Rattle.curp_law_kept.proofs.Said.{entry_was_later, says_later}
use Rattle.curp_law_kept.proofs.Words.{Follows, ready_later, sent_later}

module _ {w : World} (known : Known w) where
  -- a message that was sent fits
  pub fits : (m : Message) → WasSent w m → MessageFits w m
  fits m sent = Each-at (MessageFits w) (messages w) known.nodes.said sent.place m sent.stands

  -- what the manager alone says is of the manager
  pub from_manager : (from to : NodeId) (b : Body) → sender_kind b ≡ kind.Manager → WasSent w (says from to b) → from ≡ manager_node
  from_manager from to b is sent = named (subst (λ (k : NodeKind). IsOf w k from) is (fits (says from to b) sent).sender)
    where
      named : IsOf w kind.Manager from → from ≡ manager_node
      named of = ap (λ (k : NodeKind). record { kind = k; number = from.number }) of.0 ∙ ap (λ (n : ℕ). record { kind = kind.Manager; number = n }) of.1

  -- what was sent says so
  pub said : (from to : NodeId) (b : Body) (sent : WasSent w (says from to b)) → Says w sent.place from to b
  said from to b sent = known.inv.messages sent.place (says from to b) sent.stands

-- what a client knows stays so
pub knows_later : (w v : World) → Follows w v → (n : ℕ) (c : ClientState) → KnowledgeOk (MayCome w n) (EntryWas w) c → KnowledgeOk (MayCome v n) (EntryWas v) c
knows_later w v s n c ok = knowledge_grows (MayCome w n) (MayCome v n) (EntryWas w) (EntryWas v) (λ from b came. sent_later s came) (entry_was_later s) c ok

-- the manager, the clients and the history are as they were, and one node has said more
pub record Frame (w v : World) (out : List Message) (mover : NodeId) : Type 0 where
  pub sent : messages v ≡ messages w ++ out
  pub all : Each (λ (m : Message). m.from ≡ mover) out
  pub not_manager : manager_node ≢ mover
  pub manager : v.manager ≡ w.manager
  pub clients : v.clients ≡ w.clients
  pub history : v.history ≡ w.history

module _ {w v : World} (known : Known w) (s : Follows w v) {out : List Message} {mover : NodeId} (f : Frame w v out mover) where
  pub given_before : (l : Lists) → IsGiven v l → IsGiven w l
  given_before = given_back w v out f.sent mover f.all (ap (λ (g : ManagerState). g.shape) f.manager) f.not_manager

  pub present_stays : (c : PartConfig) → IsAdoptedNow v c → PresentOk v c
  present_stays c now =
      let before : IsAdoptedNow w c = subst (λ (g : ManagerState). numbered g.config.parts c.part ≡ Some c) f.manager now in
      let ok = known.inv.present c before in
      record { entry = entry_was_later s c ok.entry; ready = ready_later s ok.ready }

  pub moving_stays : (m : Migration) → v.manager.moving ≡ Some m → MigrationOk v m
  moving_stays m its =
      let ok = known.inv.moving m (subst (λ (g : ManagerState). g.moving ≡ Some m) f.manager its) in
      record { ordered = ordered_later s ok.ordered; told = λ p is. let t = ok.told p is in record { node = t.node; told = sent_later s t.told } }

  pub clients_stay : (n : ℕ) (c : ClientState) → numbered v.clients n ≡ Some c → ClientOk v n c
  clients_stay n c here =
      let ok = known.inv.clients n c (subst (λ (cs : List ClientState). numbered cs n ≡ Some c) f.clients here) in
      record { numbers = subst (λ (h : List Event). ClientNumbersOk n h c) (sym f.history) ok.numbers; knows = knows_later w v s n c ok.knows }

  pub history_stays : IsHistory v.history
  history_stays = subst IsHistory (sym f.history) known.inv.history

  pub completed_stays : (i : ℕ) (id : RequestId) (a : Answer) → At v.history i (Complete id a) → CompletedBy v id a
  completed_stays i id a at = completed_by_later s id a (known.inv.completed i id a (subst (λ (h : List Event). At h i (Complete id a)) f.history at))

  pub reads_stay : (i j : ℕ) (id : RequestId) (command : Command) (a : Answer) → At v.history i (Invoke id command) → is_update command ≡ false → At v.history j (Complete id a) → WasRead v id a
  reads_stay i j id command a invoked reads done =
      read_later s id a (known.inv.reads i j id command a (subst (λ (h : List Event). At h i (Invoke id command)) f.history invoked) reads (subst (λ (h : List Event). At h j (Complete id a)) f.history done))

  pub all_say : ((j : ℕ) (m : Message) → At out j m → Says v (length (messages w) + j) m.from m.to m.body)
      → (k : ℕ) (m : Message) → At (messages v) k m → Says v k m.from m.to m.body
  all_say new = messages_say w v out f.sent (λ k m at. says_later s known.inv k m.from m.to m.body (known.inv.messages k m at)) new
