-- An input to a witness keeps what nodes and messages keep.
use Rattle.std.proofs.Common.{◌≡◌, inl, inr, ℕ, zero, suc, List, [], ◌∷◌, map, refl, ap, sym, ◌∙◌, subst, Option, Some, true, None, arith}
use Rattle.curp_base.specs.Words.{At, Each}
use Rattle.curp_base.proofs.Lists.{Each-at, Each-from_at, at_map}
use Rattle.curp_cmd.specs.Node.{client_node, witness_node}
use Rattle.curp_cmd.specs.declared.command.Request.{Request}
use Rattle.curp_cmd.specs.declared.command.RequestId.{RequestId}
use Rattle.curp_cmd.specs.declared.node.NodeId.{NodeId}
use Rattle.curp_msg.specs.Moved.{Moved, says}
use Rattle.curp_msg.specs.declared.answer.GcAnswer.{GcAnswer}
use Rattle.curp_msg.specs.declared.answer.GcAnswer.TheVariants.{Suspects}
use Rattle.curp_msg.specs.declared.body.Accepted.{Accepted}
use Rattle.curp_msg.specs.declared.body.Body.{Body}
use Rattle.curp_msg.specs.declared.body.Body.TheVariants as body
use Rattle.curp_msg.specs.declared.body.Record.{Record}
use Rattle.curp_msg.specs.declared.body.Rejected.{Rejected}
use Rattle.curp_msg.specs.Input.{Input}
use Rattle.curp_msg.specs.declared.message.Message.{Message}
use Rattle.curp_order.specs.declared.Event.TheVariants.{Invoke}
use Rattle.curp_model.specs.declared.Mode.{Mode}
use Rattle.curp_model.specs.declared.Mode.TheVariants.{Normal, Frozen, Idle}
use Rattle.curp_model.specs.Named.{IsWitness}
use Rattle.curp_model.specs.Witness.{HeldRequest, WitnessState, is_live}
use Rattle.curp_model.specs.World.{World}
use Rattle.curp_facts.specs.Entries.{UpdateOk}
use Rattle.curp_facts.specs.Facts.{IsAmong, IsGiven, Lists, WasSent}
use Rattle.curp_facts.specs.Nodes.{StartedAt, WitnessOk}
use Rattle.curp_facts.specs.Said.{Says, SuspectsHold, UpdateSaid, ProbeSaid}
use Rattle.curp_law_kept.specs.Deeds.{IsFor}
use Rattle.curp_law_kept.specs.Brought.{Brings}
use Rattle.curp_law_kept.specs.WitnessEffect.{AcceptedSays, ByFreeze, ByStart, GcAnswerSays, RejectedSays, Stays, WitnessAnswers, WitnessEffect, WitnessLife, WitnessSays, held_requests, ProbedSays}
use Rattle.curp_law_kept.proofs.Brought.{brought_sent}
use Rattle.curp_facts.specs.Known.{Known}
use Rattle.curp_law_kept.proofs.Known.{from_manager, said}
use Rattle.curp_facts.specs.Names.{StartOk}
use Rattle.curp_law_kept.proofs.Entries.{update_later}
use Rattle.curp_law_kept.proofs.Words.{Follows, event_at}
use Rattle.curp_msg.specs.declared.body.Probe.{Probe}
use Rattle.curp_msg.specs.declared.body.Probed.{Probed}
use Rattle.std.proofs.lemmas.Bool.Decides.{nat_tests}

module _ {w v : World} (known : Known w) (s : Follows w v) (n : ℕ) (given : Input) (for : IsFor w (witness_node n) given) (x : WitnessState) (r : Moved WitnessState)
    (effect : WitnessEffect n given x r) (was : IsWitness w (witness_node n) x) (is : IsWitness v (witness_node n) r.state) where
  recorded_said : (from : NodeId) (q : Record) → Brings given from (body.Record q) → UpdateSaid w from q.request
  recorded_said from q came = said known from (witness_node n) (body.Record q) (brought_sent w (witness_node n) given from (body.Record q) for came)

  before : WitnessOk w x
  before = known.inv.witnesses (witness_node n) x was

  -- ---- its state

  held_ok : (q : Request) → IsAmong q (held_requests r.state) → UpdateOk v q
  held_ok q among = elim (effect.held q among) [
    | inl old ↦ update_later s (old_ok x.held old.place q before.held old.stands)
    | inr new ↦ subst (UpdateOk v) new.its_request (came new.from new.recorded new.came)
  ]
    where
      old_ok : (hs : List HeldRequest) (k : ℕ) (q : Request) → Each (λ (h : HeldRequest). UpdateOk w h.request) hs → At (map (λ (h : HeldRequest). h.request) hs) k q → UpdateOk w q
      old_ok [] k q all at = absurd cc
      old_ok (h ∷ hs) zero q all at = subst (UpdateOk w) (one at) all.0
        where
          one : {a b : Request} → Some a ≡ Some b → a ≡ b
          one e = cc
      old_ok (h ∷ hs) (suc k) q all at = old_ok hs k q all.1 at

      came : (from : NodeId) (recorded : Record) → Brings given from (body.Record recorded) → UpdateOk v recorded.request
      came from recorded brought = let u = recorded_said from recorded brought in update_later s (record { request = u.asked.request; updates = u.updates })

  held_all : Each (λ (h : HeldRequest). UpdateOk v h.request) r.state.held
  held_all = Each-from_at (λ (h : HeldRequest). UpdateOk v h.request) r.state.held (λ k h at. held_ok h.request (record { place = k; stands = at_map (λ (h : HeldRequest). h.request) r.state.held k h at }))

  started : r.state.mode ≡ Normal → (epoch : ℕ) × (r.state.epoch ≡ Some epoch)
  started normal = go effect.life
    where
      not_normal : {m : Mode} → m ≡ Frozen → m ≡ Normal → ⊥
      not_normal a b = cc

      go : WitnessLife given x r.state → (epoch : ℕ) × (r.state.epoch ≡ Some epoch)
      go (Stays g) = let o = before.started (sym g.mode ∙ normal) in (o.0, g.epoch ∙ o.1)
      go (ByStart g) = (g.start.epoch, g.epoch)
      go (ByFreeze g) = absurd (not_normal g.stands normal)

  pub witness_keeps : WitnessOk v r.state
  witness_keeps = record { started = started; held = held_all; apart = effect.apart before.apart }

  pub started_keeps : (l : Lists) → IsGiven w l → IsAmong (witness_node n) l.witnesses → StartedAt l r.state
  started_keeps l here named epoch e = go effect.life
    where
      one : {a b : ℕ} {o : Option ℕ} → o ≡ Some a → o ≡ Some b → b ≡ a
      one p q = cc

      go : WitnessLife given x r.state → epoch ≡ l.epoch
      go (Stays g) = known.inv.started l here (witness_node n) named x was epoch (sym g.epoch ∙ e)
      go (ByFreeze g) = known.inv.started l here (witness_node n) named x was epoch (sym g.epoch ∙ e)
      go (ByStart g) =
          let sent = brought_sent w (witness_node n) given g.from (body.Start g.start) for g.came in
          let from = from_manager known g.from (witness_node n) (body.Start g.start) refl sent in
          let ok : StartOk w (witness_node n) g.start
          = known.names.manager_says (witness_node n) (body.Start g.start) (subst (λ (from : NodeId). WasSent w (says from (witness_node n) (body.Start g.start))) from sent) in
          let agree = known.names.agree l ok.lists here ok.given in
          one g.epoch e ∙ ok.its_epoch ∙ sym (agree.by_master (agree.by_witness (witness_node n) named ok.named)).1

  -- ---- what it says

  accepted_says : (place : ℕ) (to : NodeId) (a : Accepted) → AcceptedSays given r.state to a → Says v place (witness_node n) to (body.Accepted a)
  accepted_says place to a ok =
      let asked = recorded_said to ok.recorded ok.came in
      let o = started ok.serves in
      record {
        addressee = asked.asked.sender ∙ ap (λ (id : RequestId). client_node id.client) (sym ok.id);
        x = r.state;
        is = is;
        its_epoch = o.1 ∙ ap Some (ok.own o.0 o.1);
        kept = inl ok.held;
      }

  rejected_says : (place : ℕ) (to : NodeId) (a : Rejected) → RejectedSays given to a → Says v place (witness_node n) to (body.Rejected a)
  rejected_says place to a ok =
      let asked = recorded_said to ok.recorded ok.came in
      record {
        addressee = asked.asked.sender ∙ ap (λ (id : RequestId). client_node id.client) (sym ok.id);
        place = asked.asked.request.place;
        command = ok.recorded.request.command;
        invoked = event_at s asked.asked.request.place _ (subst (λ (id : RequestId). At w.history asked.asked.request.place (Invoke id ok.recorded.request.command)) (sym ok.id) asked.asked.request.invoked);
        updates = asked.updates;
      }

  probe_said : (from : NodeId) (q : Probe) → Brings given from (body.Probe q) → ProbeSaid w from q.id
  probe_said from q came = said known from (witness_node n) (body.Probe q) (brought_sent w (witness_node n) given from (body.Probe q) for came)

  live_at : (m : Mode) (e : Option ℕ) (epoch : ℕ) → is_live m e epoch ≡ true → e ≡ Some epoch
  live_at Normal (Some own) epoch t = let same : own ≡ epoch = grind (arith, nat_tests) in ap Some same
  live_at Normal None epoch t = absurd cc
  live_at Idle e epoch t = absurd cc
  live_at Frozen e epoch t = absurd cc

  probed_says : (place : ℕ) (to : NodeId) (a : Probed) → ProbedSays given r.state to a → Says v place (witness_node n) to (body.Probed a)
  probed_says place to a k =
      let p = probe_said to k.probe k.came in
      record {
        addressee = p.sender ∙ ap (λ (id : RequestId). client_node id.client) (sym k.id);
        place = p.place;
        command = p.command;
        invoked = event_at s p.place _ (subst (λ (id : RequestId). At w.history p.place (Invoke id p.command)) (sym k.id) p.invoked);
        reads = p.reads;
        own = λ live. (r.state, is, live_at r.state.mode r.state.epoch a.epoch (sym k.live ∙ live));
      }

  suspects_say : (epoch : ℕ) (answer : GcAnswer) → GcAnswerSays r.state epoch answer → SuspectsHold v answer
  suspects_say epoch (Suspects requests) ok = Each-from_at (UpdateOk v) requests (λ k q at. held_ok q (Each-at (λ (q : Request). IsAmong q (held_requests r.state)) requests ok.held k q at))
  suspects_say epoch _ ok = tt

  pub witness_says : (place : ℕ) (m : Message) → WitnessSays n given r.state m → Says v place m.from m.to m.body
  witness_says place m ok = subst (λ (from : NodeId). Says v place from m.to m.body) (sym ok.sender) (go m.to m.body ok.says_so)
    where
      go : (to : NodeId) (b : Body) → WitnessAnswers given r.state to b → Says v place (witness_node n) to b
      go to (body.Accepted a) k = accepted_says place to a k
      go to (body.Rejected a) k = rejected_says place to a k
      go to (body.Collected c) k = suspects_say c.epoch c.answer k.answer
      go to (body.Probed a) k = probed_says place to a k
      go to (body.FrozenAnswer requests) k = record { x = r.state; is = is; its_requests = sym k.all; frozen = k.stands }
      go to _ k = absurd k
