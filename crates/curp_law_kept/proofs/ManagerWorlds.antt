-- The world after an input to the manager.
use Rattle.std.proofs.Common.{replicate, ◌≡◌, ◌≤◌, ◌⊎◌, inl, inr, ℕ, ◌+◌, ◌-◌, List, ◌++◌, length, refl, sym, ◌∙◌, ap, subst, arith, length-append, Option}
use Rattle.std.proofs.lemmas.List.{length-replicate}
use Rattle.curp_base.specs.Words.{At, Each}
use Rattle.curp_base.proofs.Lists.{at_append, at_append_cases, at_append_right, Each-at}
use Rattle.curp_cmd.specs.Node.{manager_node}
use Rattle.curp_cmd.specs.declared.node.NodeId.{NodeId}
use Rattle.curp_msg.specs.Moved.{Moved, says, within}
use Rattle.curp_msg.specs.declared.body.Body.{Body}
use Rattle.curp_msg.specs.declared.message.Message.{Message}
use Rattle.curp_order.specs.declared.Event.{Event}
use Rattle.curp_model.specs.Manager.{Attempted, ManagerState}
use Rattle.curp_model.specs.World.{World, grown, kept, messages, with_manager}
use Rattle.curp_facts.specs.Facts.{IsAmong, WasSent}
use Rattle.curp_facts.specs.Names.{Names, NumbersOk}
use Rattle.curp_law_kept.proofs.Later.{Later}
use Rattle.curp_law_kept.proofs.Moves.{Fresh, Move, Utters}
use Rattle.curp_model.proofs.Batches.{all_of-kept}

-- ---- what was sent

-- after messages came behind all others
module _ (w v : World) (out : List Message) (e : messages v ≡ messages w ++ out) where
  pub sent_later : (m : Message) → WasSent w m → WasSent v m
  sent_later m was = record { place = was.place; stands = subst (λ (ms : List Message). At ms was.place m) (sym e) (at_append (messages w) out was.place m was.stands) }

  -- what was sent afterwards was sent before, or is among them
  pub sent_cases : (m : Message) → WasSent v m → WasSent w m ⊎ IsAmong m out
  sent_cases m was = elim (at_append_cases (messages w) out was.place m (subst (λ (ms : List Message). At ms was.place m) e was.stands)) [
    | inl h ↦ inl (record { place = was.place; stands = h })
    | inr h ↦ inr (record { place = h.0; stands = h.2 })
  ]

  -- what is among them was sent, at its place behind all others
  abbrev pub sent_now : {m : Message} → IsAmong m out → WasSent v m
  sent_now {m} a = record {
    place = length (messages w) + a.place;
    stands = subst (λ (ms : List Message). At ms (length (messages w) + a.place) m) (sym e) (at_append_right (messages w) out a.place (length (messages w) + a.place) m refl a.stands);
  }

-- a node of whose messages each one is uttered
pub uttered : (w v : World) (f : Fresh) (out : List Message) → messages v ≡ messages w ++ out → Each (λ (m : Message). Utters w v f m.to m.body) out
    → (node : NodeId) (b : Body) → WasSent v (says manager_node node b) → WasSent w (says manager_node node b) ⊎ Utters w v f node b
uttered w v f out e all node b sent = elim (sent_cases w v out e (says manager_node node b) sent) [
  | inl was ↦ inl was
  | inr now ↦ inr (Each-at (λ (m : Message). Utters w v f m.to m.body) out all now.place (says manager_node node b) now.stands)
]

-- ---- nodes

pub length-grown : {S : Type 0} (nodes : List S) (fresh : S) (next : ℕ) → length nodes + 1 ≤ next → length (grown nodes fresh next) + 1 ≡ next
length-grown nodes fresh next low = omega (arith, length-append nodes (replicate ((next - 1) - length nodes) fresh), length-replicate ((next - 1) - length nodes) fresh)

-- ---- the world after an input to the manager

abbrev pub manager_moved : World → Option Attempted → List Event → Moved ManagerState → World
manager_moved w adopted events r = (kept w events (within (with_manager w adopted) r)).world

pub moved_messages : (w : World) (adopted : Option Attempted) (events : List Event) (r : Moved ManagerState) → messages (manager_moved w adopted events r) ≡ messages w ++ r.messages
moved_messages w adopted events r = all_of-kept w.sent r.messages

-- the numbers rise, and the header's stay
pub record Rises (g : ManagerState) (k : ManagerState) : Type 0 where
  pub shape : k.shape ≡ g.shape
  pub epoch : g.next.epoch ≤ k.next.epoch
  pub version : g.next.version ≤ k.next.version
  pub master : g.next.master ≤ k.next.master
  pub backup : g.next.backup ≤ k.next.backup
  pub witness : g.next.witness ≤ k.next.witness
  pub together : k.next.epoch + g.next.master ≡ k.next.master + g.next.epoch
  pub parts : length k.config.parts ≡ length g.config.parts
  pub doing : length k.doing ≡ length g.doing

module _ (w : World) (n : Names w) (adopted : Option Attempted) (events : List Event) (r : Moved ManagerState) (up : Rises w.manager r.state) where
  masters_are : length (manager_moved w adopted events r).masters + 1 ≡ r.state.next.master
  masters_are = length-grown w.masters _ r.state.next.master (omega (arith, n.numbers.masters, up.master))

  backups_are : length (manager_moved w adopted events r).backups + 1 ≡ r.state.next.backup
  backups_are = length-grown w.backups _ r.state.next.backup (omega (arith, n.numbers.backups, up.backup))

  witnesses_are : length (manager_moved w adopted events r).witnesses + 1 ≡ r.state.next.witness
  witnesses_are = length-grown w.witnesses _ r.state.next.witness (omega (arith, n.numbers.witnesses, up.witness))

  pub moved_later : Later w (manager_moved w adopted events r)
  moved_later = record {
    shape = up.shape;
    epoch = up.epoch;
    version = up.version;
    clients = omega arith;
    masters = omega (arith, masters_are, n.numbers.masters, up.master);
    backups = omega (arith, backups_are, n.numbers.backups, up.backup);
    witnesses = omega (arith, witnesses_are, n.numbers.witnesses, up.witness);
    sent = sent_later w (manager_moved w adopted events r) r.messages (moved_messages w adopted events r);
  }

  pub moved_numbers : NumbersOk (manager_moved w adopted events r)
  moved_numbers = record {
    clients = n.numbers.clients ∙ ap (λ s. s.clients) (sym up.shape);
    masters = masters_are;
    backups = backups_are;
    witnesses = witnesses_are;
    parts = up.parts ∙ n.numbers.parts ∙ ap (λ s. s.parts) (sym up.shape);
    doing = up.doing ∙ n.numbers.doing ∙ ap (λ s. s.parts) (sym up.shape);
    epoch = omega (arith, up.together, n.numbers.epoch, ap (λ s. s.parts) up.shape);
    above = omega (arith, up.epoch, n.numbers.above);
    version = omega (arith, up.version, n.numbers.version);
  }

  -- a step of the manager is a move, where each of its messages is uttered
  pub moved_move : (f : Fresh) → Each (λ (m : Message). Utters w (manager_moved w adopted events r) f m.to m.body) r.messages → Move w (manager_moved w adopted events r) f
  moved_move f all = record {
    later = moved_later;
    said = uttered w (manager_moved w adopted events r) f r.messages (moved_messages w adopted events r) all;
  }
