-- Something comes to the master: the client's request goes on.
use Rattle.std.proofs.Common.{◌≡◌, ◌⊎◌, inl, inr, ℕ, false, List, [], ◌∷◌, refl, sym, ◌∙◌, subst}
use Rattle.curp_cmd.specs.Node.{master_node}
use Rattle.curp_cmd.specs.Store.{is_update}
use Rattle.curp_cmd.specs.declared.command.Request.{Request}
use Rattle.curp_cmd.specs.declared.node.NodeId.{NodeId}
use Rattle.curp_msg.specs.Moved.{Moved, says}
use Rattle.curp_msg.specs.declared.body.Body.{Body}
use Rattle.curp_msg.specs.declared.body.Body.TheVariants as body
use Rattle.curp_msg.specs.declared.config.PartConfig.{PartConfig}
use Rattle.curp_msg.specs.declared.message.Message.{Message}
use Rattle.curp_model.specs.Client.{Pending}
use Rattle.curp_model.specs.Master.{MasterState, Open, by_message, on_read, on_serving, on_update}
use Rattle.curp_model.specs.declared.Wish.TheVariants.{AtOnce, WhenSynced}
use Rattle.curp_law_served.specs.Ways.{Answers, EarlyReply, Gives, MasterGoes, PendsOne, Reads, Syncs, WillTell, Updates}
use Rattle.curp_law_served.proofs.Pending as pending
use Rattle.curp_law_served.proofs.RoundsWait.{AllSent, Keeps}
use Rattle.curp_law_served.proofs.Serving.{IsHeard, never_ends, read_waits, serving_keeps}
use Rattle.curp_law_served.proofs.Updates.{asked}
use Rattle.curp_law_served.proofs.Ways as ways
use Rattle.curp_law_served.specs.Grounds.{Bounded, Roomy, Welcome}

welcome_too : (m : MasterState) (r s : Request) → s ≡ r → Welcome m r → Welcome m s
welcome_too m r s same w = subst (Welcome m) (sym same) w

-- none of what comes to a master is one of these
heard_record : (from to : NodeId) (c : PartConfig) (p : Pending) (b : Body) → IsHeard b → pending.NoRecord from to b c p
heard_record from to c p (body.Update a) h = record { records = λ x k. k; accepts = λ x k. k; rejects = λ k. k }
heard_record from to c p (body.Sync a) h = record { records = λ x k. k; accepts = λ x k. k; rejects = λ k. k }
heard_record from to c p (body.Read a) h = record { records = λ x k. k; accepts = λ x k. k; rejects = λ k. k }
heard_record from to c p (body.Appended a) h = record { records = λ x k. k; accepts = λ x k. k; rejects = λ k. k }
heard_record from to c p (body.Collected a) h = record { records = λ x k. k; accepts = λ x k. k; rejects = λ k. k }
heard_record from to c p _ h = absurd h

heard_silent : (b : Body) → IsHeard b → ways.NoReply b
heard_silent (body.Update a) h = tt
heard_silent (body.Sync a) h = tt
heard_silent (body.Read a) h = tt
heard_silent (body.Appended a) h = tt
heard_silent (body.Collected a) h = tt
heard_silent _ h = absurd h

module _ (D E : Message → Type 0) (from to : NodeId) (n : ℕ) (m : MasterState) (c : PartConfig) (its_master : c.master ≡ master_node n) (its_epoch : m.epoch ≡ c.epoch) (its_version : m.version ≡ c.version)
    (bounded : Bounded m) (serves : m.phase ≡ Open) (roomy : Roomy m) (goes : MasterGoes D n m) (b : Body) (heard : IsHeard b) (split : (x : Message) → D x → (x ≡ says from to b) ⊎ E x) (sent : AllSent E (on_serving n m from b)) where
  keeps : Keeps D E n m (on_serving n m from b)
  keeps = serving_keeps n m bounded serves roomy D E from to goes b heard split sent

  ends : on_serving n m from b ≡ by_message n m from b
  ends = never_ends n m bounded serves roomy D from to goes b heard

  module _ (p : Pending) (welcome : Welcome m p.request) where
    update_told : Updates c p.request from to b → WillTell E c (on_serving n m from b).state p.request.id
    update_told it = by b ends sent it
      where
        by : (b : Body) → on_serving n m from b ≡ by_message n m from b → AllSent E (on_serving n m from b)
            → Updates c p.request from to b → WillTell E c (on_serving n m from b).state p.request.id
        by (body.Update ask) e sent it =
            let w = welcome_too m p.request ask.request it.1 welcome in
            subst (λ (r : Moved MasterState). WillTell E c r.state p.request.id) (sym e) (subst (λ (q : Request). WillTell E c (on_update n m AtOnce ask).state q.id) it.1
            (asked E n m c its_master its_epoch its_version AtOnce ask it.2 it.3 serves w.fine w.owns (subst (AllSent E) e sent)))
        by _ e sent it = absurd it

    sync_told : Syncs c p.request from to b → Answers E (on_serving n m from b).state p.request.id
    sync_told it = by b ends sent it
      where
        by : (b : Body) → on_serving n m from b ≡ by_message n m from b → AllSent E (on_serving n m from b)
            → Syncs c p.request from to b → Answers E (on_serving n m from b).state p.request.id
        by (body.Sync ask) e sent it =
            let w = welcome_too m p.request ask.request it.1 welcome in
            subst (λ (r : Moved MasterState). Answers E r.state p.request.id) (sym e) (subst (λ (q : Request). Answers E (on_update n m WhenSynced ask).state q.id) it.1
            (asked E n m c its_master its_epoch its_version WhenSynced ask it.2 it.3 serves w.fine w.owns (subst (AllSent E) e sent)))
        by _ e sent it = absurd it

    read_told : is_update p.request.command ≡ false → Reads c p.request from to b
        → Gives E (on_serving n m from b).state p.request.id
    read_told reads it = by b ends it
      where
        by : (b : Body) → on_serving n m from b ≡ by_message n m from b → Reads c p.request from to b
            → Gives E (on_serving n m from b).state p.request.id
        by (body.Read ask) e it =
            let w = welcome_too m p.request ask.request it.1 welcome in
            subst (λ (r : Moved MasterState). Gives E r.state p.request.id) (sym e) (subst (λ (q : Request). Gives E (on_read n m ask).state q.id) it.1
            (read_waits E n m ask (it.2 ∙ sym its_epoch) (it.3 ∙ sym its_version) serves (subst (λ (q : Request). is_update q.command ≡ false) (sym it.1) reads) w.fine w.owns))
        by _ e it = absurd it

    asked_on : pending.GoOn D E m (on_serving n m from b).state c p
    asked_on = record {
      told = λ way. elim way [
        | inl w ↦ elim (ways.meets D E from to b split (Updates c p.request) w) [ inl it ↦ inr (update_told it) | inr later ↦ inl later ]
        | inr tells ↦ elim tells [
          | inl a ↦ inr (inl (keeps.answers p.request.id a))
          | inr w ↦ inr (inr (ways.carry D E from to b split (EarlyReply c.master c.epoch c.version p.request.id) (λ k. ways.no_early D E from to b split (heard_silent b heard) c.master c.epoch c.version p.request.id k) w))
        ]
      ];
      asked = λ way. elim way [
        | inl w ↦ elim (ways.meets D E from to b split (Syncs c p.request) w) [ inl it ↦ inr (sync_told it) | inr later ↦ inl later ]
        | inr a ↦ inr (keeps.answers p.request.id a)
      ];
      recorded = pending.recorded_on D E from to b split c p (heard_record from to c p b heard);
      read = λ reads way. elim way [
        | inl w ↦ elim (ways.meets D E from to b split (Reads c p.request) w) [ inl it ↦ inr (read_told reads it) | inr later ↦ inl later ]
        | inr g ↦ inr (keeps.gives p.request.id g)
      ];
    }

  -- at most one request pends, and goes on
  pub pends : (ps : List Pending) → ((p : Pending) → ps ≡ p ∷ [] → Welcome m p.request) → PendsOne D m c ps
      → PendsOne E (on_serving n m from b).state c ps
  pends [] welcome goes = tt
  pends (p ∷ []) welcome goes = pending.goes_on D E m (on_serving n m from b).state c p (asked_on p (welcome p refl)) goes
  pends (p ∷ q ∷ rest) welcome goes = absurd goes
