-- Something comes to the client: its request goes on, or is completed.
use Rattle.std.proofs.Common.{◌≡◌, ◌⊎◌, ◌==◌, ◌&&◌, ◌||◌, inl, inr, ℕ, Bool, true, false, not, cond, List, [], ◌∷◌, ◌++◌, Option, Some, None, refl, ap, sym, ◌∙◌, subst}
use Rattle.std.specs.List.{filter, list_any}
use Rattle.std.specs.Bool.{⊤}
use Rattle.std.proofs.lemmas.Bool.{and_from, and_parts, cond_both, eq-eqb, eqb-true, not-false, not-true, or_left, or_right}
use Rattle.curp_base.specs.Words.{Each, first_of, last_of}
use Rattle.curp_base.proofs.Lists.{Each-weaker}
use Rattle.curp_base.proofs.Numbered.{any_at}
use Rattle.curp_cmd.specs.Node.{same_node}
use Rattle.curp_cmd.specs.RequestId.{same_id}
use Rattle.curp_cmd.specs.Store.{is_update}
use Rattle.curp_cmd.specs.declared.command.RequestId.{RequestId}
use Rattle.curp_cmd.specs.declared.node.NodeId.{NodeId}
use Rattle.curp_cmd.proofs.Ids.{same_id-self, same_id-true}
use Rattle.curp_cmd.proofs.Nodes.{same_node-self, same_node-true}
use Rattle.curp_msg.specs.Moved.{Moved, quiet, says}
use Rattle.curp_msg.specs.declared.body.Accepted.{Accepted}
use Rattle.curp_msg.specs.declared.body.Ask.{Ask}
use Rattle.curp_msg.specs.declared.body.Body.{Body}
use Rattle.curp_msg.specs.declared.body.Body.TheVariants as body
use Rattle.curp_msg.specs.declared.body.Rejected.{Rejected}
use Rattle.curp_msg.specs.declared.body.Reply.{Reply}
use Rattle.curp_msg.specs.declared.body.Worth.{Worth}
use Rattle.curp_msg.specs.declared.config.PartConfig.{PartConfig}
use Rattle.curp_msg.specs.declared.message.Message.{Message}
use Rattle.curp_msg.specs.declared.script.Protocol.TheVariants.{One}
use Rattle.curp_facts.specs.Facts.{IsAmong}
use Rattle.curp_model.specs.Client.{Accept, Attempt, ClientState, Early, Pending, accepted, asks, attempt_at, early_reply, has_accepted, if_proved, is_told, on_client, proved_answer, rejected, replaced, replied, valued, with_accept, with_early, with_evidence, with_id, without_id}
use Rattle.curp_model.specs.Master.{MasterState}
use Rattle.curp_law_served.specs.Ways.{Accepts, Answers, EarlyReply, Gives, HasEarly, OnWay, PendingGoes, PendsOne, Reads, GetsRecorded, Records, Rejects, SyncedReply, Syncs, WillTell, Updates, ValueOf}
use Rattle.curp_law_served.proofs.Lists.{among_first, among_left, among_right}
use Rattle.curp_law_served.proofs.Pending as pending
use Rattle.curp_law_served.proofs.Ways as ways

-- ---- evidence

-- an unsynced reply is among those that came, once it came
early_in : (from : NodeId) (r : Reply) (early : List Early)
    → (e : Early) × IsAmong e (with_early early (early_reply from r)) × (e.master ≡ from) × (e.epoch ≡ r.epoch) × (e.version ≡ r.version)
early_in from r early = by (list_any (is_told (early_reply from r)) early) refl
  where
    told_parts : (e : Early) → is_told (early_reply from r) e ≡ true
        → (e.master ≡ from) × (e.epoch ≡ r.epoch) × (e.version ≡ r.version)
    told_parts e is =
        let all = and_parts (same_node e.master from && (e.epoch == r.epoch)) (e.version == r.version) is in
        let more = and_parts (same_node e.master from) (e.epoch == r.epoch) all.0 in
        (same_node-true e.master from more.0, eqb-true e.epoch r.epoch more.1, eqb-true e.version r.version all.1)

    by : (t : Bool) → list_any (is_told (early_reply from r)) early ≡ t
        → (e : Early) × IsAmong e (cond t early (early ++ early_reply from r ∷ [])) × (e.master ≡ from) × (e.epoch ≡ r.epoch) × (e.version ≡ r.version)
    by true is =
        let f = any_at (is_told (early_reply from r)) early is in
        let told = told_parts f.1 f.3 in
        (f.1, record { place = f.0; stands = f.2 }, told.0, told.1, told.2)
    by false is = (early_reply from r, among_right (early_reply from r) early (early_reply from r ∷ []) (among_first (early_reply from r) []), refl, refl, refl)

-- what came stays
early_stays : (early : List Early) (new e : Early) → IsAmong e early → IsAmong e (with_early early new)
early_stays early new e a = cond_both (list_any (is_told new) early) _ _ (λ (xs : List Early). IsAmong e xs) (λ y. a) (λ n. among_left e early (new ∷ []) a)

-- an accept is found, once it came
accept_in : (accepts : List Accept) (a : Accept) → has_accepted (with_accept accepts a) a.epoch a.witness ≡ true
accept_in accepts a = by (has_accepted accepts a.epoch a.witness) refl
  where
    last : (xs : List Accept) → has_accepted (xs ++ a ∷ []) a.epoch a.witness ≡ true
    last [] = or_left _ false (and_from _ _ (eq-eqb a.epoch a.epoch refl) (same_node-self a.witness))
    last (x ∷ xs) = or_right _ _ (last xs)

    by : (t : Bool) → has_accepted accepts a.epoch a.witness ≡ t
        → has_accepted (cond t accepts (accepts ++ a ∷ [])) a.epoch a.witness ≡ true
    by true is = is
    by false is = last accepts

-- and what was found still is
accept_stays : (accepts : List Accept) (new : Accept) (epoch : ℕ) (x : NodeId) → has_accepted accepts epoch x ≡ true
    → has_accepted (with_accept accepts new) epoch x ≡ true
accept_stays accepts new epoch x is = cond_both (has_accepted accepts new.epoch new.witness) _ _ (λ (xs : List Accept). has_accepted xs epoch x ≡ true) (λ y. is) (λ n. more accepts is)
  where
    more : (xs : List Accept) → has_accepted xs epoch x ≡ true → has_accepted (xs ++ new ∷ []) epoch x ≡ true
    more [] e = absurd cc
    more (y ∷ ys) e = by ((y.epoch == epoch) && same_node y.witness x) e (more ys)
      where
        by : (t : Bool) → (t || has_accepted ys epoch x) ≡ true
            → (has_accepted ys epoch x ≡ true → has_accepted (ys ++ new ∷ []) epoch x ≡ true)
            → (t || has_accepted (ys ++ new ∷ []) epoch x) ≡ true
        by true e up = refl
        by false e up = up e

apart_ids : (a b : RequestId) → same_id a b ≡ false → a ≡ b → ⊥
apart_ids a b apart same = let own : same_id a b ≡ true = subst (λ (x : RequestId). same_id a x ≡ true) same (same_id-self a) in cc (own, apart)

some_same : {A : Type 0} (a b : A) → Some a ≡ Some b → a ≡ b
some_same a b e = cc

module _ (D E : Message → Type 0) (from to : NodeId) (m : MasterState) (c : PartConfig) (n : ℕ) (cl : ClientState) where
  -- what is left to be shown of each move
  abbrev Goes : Moved ClientState → Type 0
  Goes r = PendsOne E m c r.state.pending

  -- what pends is replaced by the same with more evidence
  replaces : (p q : Pending) → p.request ≡ q.request → cl.pending ≡ p ∷ [] → PendingGoes E m c q
      → PendsOne E m c (replaced q cl.pending)
  replaces p q same is goes = subst (λ (ps : List Pending). PendsOne E m c (replaced q ps)) (sym is) (by (same_id p.request.id q.request.id) own)
    where
      own : same_id p.request.id q.request.id ≡ true
      own = subst (λ (r : _). same_id p.request.id r.id ≡ true) same (same_id-self p.request.id)

      by : (t : Bool) → t ≡ true → PendsOne E m c (cond t q p ∷ [])
      by true e = goes
      by false e = absurd cc

  -- it is completed
  completes : (p : Pending) (id : RequestId) → p.request.id ≡ id → cl.pending ≡ p ∷ []
      → PendsOne E m c (without_id id cl.pending)
  completes p id same is = subst (λ (ps : List Pending). PendsOne E m c (without_id id ps)) (sym is) (by (same_id p.request.id id) own)
    where
      own : same_id p.request.id id ≡ true
      own = subst (λ (i : RequestId). same_id p.request.id i ≡ true) same (same_id-self p.request.id)

      by : (t : Bool) → t ≡ true
          → PendsOne E m c (filter (λ (q : Pending). not (same_id q.request.id id)) [] ++ cond (not t) (p ∷ []) [])
      by true e = tt
      by false e = absurd cc

  -- with more evidence it is completed, or goes on
  evidence : (p q : Pending) → p.request ≡ q.request → cl.pending ≡ p ∷ []
      → (proved_answer q ≡ None → PendingGoes E m c q) → Goes (with_evidence cl q)
  evidence p q same is goes = by (proved_answer q) refl
    where
      by : (o : Option Early) → proved_answer q ≡ o → Goes (if_proved cl q o)
      by None e = replaces p q same is (goes e)
      by (Some early) e = completes p q.request.id (ap (λ (r : _). r.id) same) is

  module _ (b : Body) (split : (x : Message) → D x → (x ≡ says from to b) ⊎ E x) where
    -- what isn't about it changes nothing of it
    stays : (p : Pending) → pending.NoAsk from to b c p → pending.NoRecord from to b c p
        → pending.NoAnswer from to b c p → PendingGoes D m c p → PendingGoes E m c p
    stays p ask rec none goes = pending.goes_on D E m m c p (pending.all_on D E from to b split c p m ask rec none) goes

  -- ---- a reply

  module _ (r : Reply) (split : (x : Message) → D x → (x ≡ says from to (body.Reply r)) ⊎ E x) where
    reply_ask : (p : Pending) → pending.NoAsk from to (body.Reply r) c p
    reply_ask p = record { updates = λ k. k; syncs = λ k. k; reads = λ k. k }

    reply_record : (p : Pending) → pending.NoRecord from to (body.Reply r) c p
    reply_record p = record { records = λ x k. k; accepts = λ x k. k; rejects = λ k. k }

    -- an unsynced one of this request
    early_comes : (p : Pending) → r.id ≡ p.request.id → r.synced ≡ false → is_update p.request.command ≡ true
        → PendingGoes D m c p
        → let q : Pending = record p { early = with_early p.early (early_reply from r) } in proved_answer q ≡ None → PendingGoes E m c q
    early_comes p same unsynced update goes unproved =
        let q : Pending = record p { early = with_early p.early (early_reply from r) } in
        let u = goes.update update in
        let new = early_in from r p.early in
        record {
          sent_once = goes.sent_once;
          update = λ is. record {
            unproved = unproved;
            told = elim u.told [
              | inl old ↦ inl (record { early = old.early; came = early_stays p.early (early_reply from r) old.early old.came; master = old.master; epoch = old.epoch; version = old.version })
              | inr way ↦ elim way [
                | inl w ↦ inr (inl (ways.carry D E from to (body.Reply r) split (Updates c p.request) (λ k. k) w))
                | inr tells ↦ elim tells [
                  | inl a ↦ inr (inr (inl (answers_go a)))
                  | inr w ↦ elim (ways.meets D E from to (body.Reply r) split (EarlyReply c.master c.epoch c.version p.request.id) w) [
                    | inl it ↦ inl (record { early = new.0; came = new.1; master = new.2 ∙ it.0; epoch = new.3 ∙ it.4; version = new.4 ∙ it.5 })
                    | inr later ↦ inr (inr (inr later))
                  ]
                ]
              ]
            ];
            asked = λ was. elim (u.asked was) [
              | inl w ↦ inl (ways.carry D E from to (body.Reply r) split (Syncs c p.request) (λ k. k) w)
              | inr a ↦ inr (answers_go a)
            ];
            recorded = Each-weaker (GetsRecorded D c p) (GetsRecorded E c q) (λ x rec. pending.recorded_on D E from to (body.Reply r) split c p (reply_record p) x rec) c.witnesses u.recorded;
          };
          read = λ is. absurd (cc (is, update));
        }
      where
        answers_go : Answers D m p.request.id → Answers E m p.request.id
        answers_go (inl w) = elim (ways.meets D E from to (body.Reply r) split (SyncedReply p.request.id) w) [
          | inl it ↦ absurd (cc (it.2, unsynced))
          | inr later ↦ inl later
        ]
        answers_go (inr held) = inr held

    -- another request's id
    not_its : (p : Pending) → same_id p.request.id r.id ≡ false → r.id ≡ p.request.id → ⊥
    not_its p apart same = apart_ids p.request.id r.id apart (sym same)

    reply_read : (p : Pending) → is_update p.request.command ≡ false → PendingGoes D m c p → PendingGoes E m c p
    reply_read p read goes = record {
      sent_once = goes.sent_once;
      update = λ is. absurd (cc (is, read));
      read = λ is. elim (goes.read is) [
        | inl w ↦ inl (ways.carry D E from to (body.Reply r) split (Reads c p.request) (λ k. k) w)
        | inr g ↦ elim g [
          | inl w ↦ inr (inl (ways.carry D E from to (body.Reply r) split (ValueOf p.request.id) (λ k. k) w))
          | inr waits ↦ inr (inr waits)
        ]
      ];
    }

    pub reply_comes : (p : Pending) → cl.pending ≡ p ∷ [] → PendingGoes D m c p
        → Goes (replied cl from r (with_id r.id cl.pending))
    reply_comes p is goes = subst (λ (ps : List Pending). Goes (replied cl from r (with_id r.id ps))) (sym is) (by (same_id p.request.id r.id) refl)
      where
        by : (t : Bool) → same_id p.request.id r.id ≡ t → Goes (replied cl from r (first_of (cond t (p ∷ []) [])))
        by false e = subst (PendsOne E m c) (sym is) (stays (body.Reply r) split p (reply_ask p) (reply_record p) (record { synced = λ k. not_its p e k.1; early = λ k. not_its p e k.2; value = λ k. k }) goes)
        by true e = cond_both (not (is_update p.request.command)) _ _ Goes
            (λ read. subst (PendsOne E m c) (sym is) (reply_read p (not-true (is_update p.request.command) read) goes))
            (λ update. cond_both r.synced _ _ Goes
            (λ synced. completes p r.id (same_id-true p.request.id r.id e) is)
            (λ unsynced. evidence p (record p { early = with_early p.early (early_reply from r) }) refl is
            (early_comes p (sym (same_id-true p.request.id r.id e)) unsynced (not-false (is_update p.request.command) update) goes)))

  -- ---- a value

  module _ (v : Worth) (split : (x : Message) → D x → (x ≡ says from to (body.Worth v)) ⊎ E x) where
    pub value_comes : (p : Pending) → cl.pending ≡ p ∷ [] → PendingGoes D m c p
        → Goes (valued cl from v (with_id v.id cl.pending))
    value_comes p is goes = subst (λ (ps : List Pending). Goes (valued cl from v (with_id v.id ps))) (sym is) (by (same_id p.request.id v.id) refl)
      where
        update_on : is_update p.request.command ≡ true → PendingGoes E m c p
        update_on update =
            let u = goes.update update in
            record {
              sent_once = goes.sent_once;
              update = λ is. record {
                unproved = u.unproved;
                told = elim u.told [
                  | inl old ↦ inl old
                  | inr way ↦ elim way [
                    | inl w ↦ inr (inl (ways.carry D E from to (body.Worth v) split (Updates c p.request) (λ k. k) w))
                    | inr tells ↦ elim tells [
                      | inl a ↦ inr (inr (inl (answers_go a)))
                      | inr w ↦ inr (inr (inr (ways.carry D E from to (body.Worth v) split (EarlyReply c.master c.epoch c.version p.request.id) (λ k. k) w)))
                    ]
                  ]
                ];
                asked = λ was. elim (u.asked was) [
                  | inl w ↦ inl (ways.carry D E from to (body.Worth v) split (Syncs c p.request) (λ k. k) w)
                  | inr a ↦ inr (answers_go a)
                ];
                recorded = Each-weaker (GetsRecorded D c p) (GetsRecorded E c p) (λ x rec. pending.recorded_on D E from to (body.Worth v) split c p (record { records = λ x k. k; accepts = λ x k. k; rejects = λ k. k }) x rec) c.witnesses u.recorded;
              };
              read = λ read. absurd (cc (read, update));
            }
          where
            answers_go : Answers D m p.request.id → Answers E m p.request.id
            answers_go (inl w) = inl (ways.carry D E from to (body.Worth v) split (SyncedReply p.request.id) (λ k. k) w)
            answers_go (inr held) = inr held

        by : (t : Bool) → same_id p.request.id v.id ≡ t → Goes (valued cl from v (first_of (cond t (p ∷ []) [])))
        by false e = subst (PendsOne E m c) (sym is) (stays (body.Worth v) split p (record { updates = λ k. k; syncs = λ k. k; reads = λ k. k }) (record { records = λ x k. k; accepts = λ x k. k; rejects = λ k. k })
            (record { synced = λ k. k; early = λ k. k; value = λ k. apart_ids p.request.id v.id e (sym k.1) }) goes)
        by true e = cond_both (is_update p.request.command) _ _ Goes
            (λ update. subst (PendsOne E m c) (sym is) (update_on update))
            (λ read. completes p v.id (same_id-true p.request.id v.id e) is)

  -- ---- an accept

  module _ (a : Accepted) (split : (x : Message) → D x → (x ≡ says from to (body.Accepted a)) ⊎ E x) where
    abbrev with_it : Pending → Pending
    with_it p = record p { accepts = with_accept p.accepts (record { witness = from; epoch = a.epoch }) }

    accept_answer : (p : Pending) → pending.NoAnswer from to (body.Accepted a) c p
    accept_answer p = record { synced = λ k. k; early = λ k. k; value = λ k. k }

    accept_ask : (p : Pending) → pending.NoAsk from to (body.Accepted a) c p
    accept_ask p = record { updates = λ k. k; syncs = λ k. k; reads = λ k. k }

    -- what a witness will say is said, or on its way
    recorded_by : (p : Pending) (x : NodeId) → GetsRecorded D c p x → GetsRecorded E c (with_it p) x
    recorded_by p x (inl has) = inl (accept_stays p.accepts (record { witness = from; epoch = a.epoch }) c.epoch x has)
    recorded_by p x (inr (inl asked)) = inr (inl asked)
    recorded_by p x (inr (inr (inl w))) = inr (inr (inl (ways.carry D E from to (body.Accepted a) split (Records c p.request x) (λ k. k) w)))
    recorded_by p x (inr (inr (inr (inl w)))) = elim (ways.meets D E from to (body.Accepted a) split (Accepts c p.request.id x) w) [
      | inl it ↦ inl (subst (λ (e : ℕ). has_accepted (with_accept p.accepts (record { witness = from; epoch = a.epoch })) e x ≡ true) it.3
          (subst (λ (y : NodeId). has_accepted (with_accept p.accepts (record { witness = from; epoch = a.epoch })) a.epoch y ≡ true) it.0 (accept_in p.accepts (record { witness = from; epoch = a.epoch }))))
      | inr later ↦ inr (inr (inr (inl later)))
    ]
    recorded_by p x (inr (inr (inr (inr w)))) = inr (inr (inr (inr (ways.carry D E from to (body.Accepted a) split (Rejects p.request.id) (λ k. k) w))))

    accepts_more : (p : Pending) → is_update p.request.command ≡ true → PendingGoes D m c p
        → proved_answer (with_it p) ≡ None → PendingGoes E m c (with_it p)
    accepts_more p update goes unproved =
        let u = goes.update update in
        let on = pending.all_on D E from to (body.Accepted a) split c p m (accept_ask p) in
        record {
          sent_once = goes.sent_once;
          update = λ is. record {
            unproved = unproved;
            told = elim u.told [
              | inl old ↦ inl (record { early = old.early; came = old.came; master = old.master; epoch = old.epoch; version = old.version })
              | inr way ↦ elim way [
                | inl w ↦ inr (inl (ways.carry D E from to (body.Accepted a) split (Updates c p.request) (λ k. k) w))
                | inr tells ↦ inr (inr (pending.tells_on D E from to (body.Accepted a) split c p m (accept_answer p) tells))
              ]
            ];
            asked = λ was. elim (u.asked was) [
              | inl w ↦ inl (ways.carry D E from to (body.Accepted a) split (Syncs c p.request) (λ k. k) w)
              | inr told ↦ inr (pending.answers_on D E from to (body.Accepted a) split c p m (accept_answer p) told)
            ];
            recorded = Each-weaker (GetsRecorded D c p) (GetsRecorded E c (with_it p)) (recorded_by p) c.witnesses u.recorded;
          };
          read = λ read. absurd (cc (read, update));
        }

    -- a read goes on, and so does what another accept is for
    accept_read : (p : Pending) → is_update p.request.command ≡ false → PendingGoes D m c p → PendingGoes E m c p
    accept_read p read goes = record {
      sent_once = goes.sent_once;
      update = λ is. absurd (cc (is, read));
      read = λ is. elim (goes.read is) [
        | inl w ↦ inl (ways.carry D E from to (body.Accepted a) split (Reads c p.request) (λ k. k) w)
        | inr g ↦ inr (pending.gives_on D E from to (body.Accepted a) split c p m (accept_answer p) g)
      ];
    }

    pub accept_comes : (p : Pending) → cl.pending ≡ p ∷ [] → PendingGoes D m c p
        → Goes (accepted cl from a (with_id a.id cl.pending))
    accept_comes p is goes = subst (λ (ps : List Pending). Goes (accepted cl from a (with_id a.id ps))) (sym is) (by (same_id p.request.id a.id) refl)
      where
        by : (t : Bool) → same_id p.request.id a.id ≡ t → Goes (accepted cl from a (first_of (cond t (p ∷ []) [])))
        by false e = subst (PendsOne E m c) (sym is) (stays (body.Accepted a) split p (accept_ask p)
            (record { records = λ x k. k; accepts = λ x k. apart_ids p.request.id a.id e (sym k.2); rejects = λ k. k }) (accept_answer p) goes)
        by true e = cond_both (is_update p.request.command) _ _ Goes
            (λ update. evidence p (with_it p) refl is (accepts_more p update goes))
            (λ read. subst (PendsOne E m c) (sym is) (accept_read p read goes))

  -- ---- a rejection

  module _ (r : Rejected) (split : (x : Message) → D x → (x ≡ says from to (body.Rejected r)) ⊎ E x) where
    reject_answer : (p : Pending) → pending.NoAnswer from to (body.Rejected r) c p
    reject_answer p = record { synced = λ k. k; early = λ k. k; value = λ k. k }

    reject_ask : (p : Pending) → pending.NoAsk from to (body.Rejected r) c p
    reject_ask p = record { updates = λ k. k; syncs = λ k. k; reads = λ k. k }

    -- it has asked, or asks now
    recorded_asked : (p q : Pending) → q.asked ≡ true → q.request ≡ p.request → (x : NodeId) → GetsRecorded D c p x
        → GetsRecorded E c q x
    recorded_asked p q asked same x rec = inr (inl asked)

    abbrev asking : Pending → Pending
    asking p = record p { asked = true }

    asks_on : (p q : Pending) → q.request ≡ p.request → q.attempts ≡ p.attempts → q.asked ≡ true
        → (proved_answer p ≡ None → proved_answer q ≡ None) → (HasEarly p c → HasEarly q c)
        → (OnWay D (Syncs c p.request) ⊎ Answers D m p.request.id → OnWay E (Syncs c q.request) ⊎ Answers E m q.request.id)
        → (is_update p.request.command ≡ true → OnWay E (Syncs c q.request) ⊎ Answers E m q.request.id)
        → PendingGoes D m c p → PendingGoes E m c q
    asks_on p q same attempts asked proved early on now goes = record {
      sent_once = attempts ∙ goes.sent_once;
      update = λ is.
          let update : is_update p.request.command ≡ true = subst (λ (x : _). is_update x.command ≡ true) same is in
          let u = goes.update update in
          record {
            unproved = proved u.unproved;
            told = elim u.told [
              | inl old ↦ inl (early old)
              | inr way ↦ inr (subst (λ (x : _). OnWay E (Updates c x) ⊎ WillTell E c m x.id) (sym same) (elim way [
                | inl w ↦ inl (ways.carry D E from to (body.Rejected r) split (Updates c p.request) (λ k. k) w)
                | inr tells ↦ inr (pending.tells_on D E from to (body.Rejected r) split c p m (reject_answer p) tells)
              ]))
            ];
            asked = λ was. now update;
            recorded = Each-weaker (GetsRecorded D c p) (GetsRecorded E c q) (recorded_asked p q asked same) c.witnesses u.recorded;
          };
      read = λ is.
          let read : is_update p.request.command ≡ false = subst (λ (x : _). is_update x.command ≡ false) same is in
          subst (λ (x : _). OnWay E (Reads c x) ⊎ Gives E m x.id) (sym same) (elim (goes.read read) [
            | inl w ↦ inl (ways.carry D E from to (body.Rejected r) split (Reads c p.request) (λ k. k) w)
            | inr g ↦ inr (pending.gives_on D E from to (body.Rejected r) split c p m (reject_answer p) g)
          ]);
    }

    -- a read goes on
    reads_on : (p : Pending) → is_update p.request.command ≡ false → PendingGoes D m c p → PendingGoes E m c p
    reads_on p read goes = record {
      sent_once = goes.sent_once;
      update = λ is. absurd (cc (is, read));
      read = λ is. elim (goes.read is) [
        | inl w ↦ inl (ways.carry D E from to (body.Rejected r) split (Reads c p.request) (λ k. k) w)
        | inr g ↦ inr (pending.gives_on D E from to (body.Rejected r) split c p m (reject_answer p) g)
      ];
    }

    answers_on : (p : Pending) → OnWay D (Syncs c p.request) ⊎ Answers D m p.request.id
        → OnWay E (Syncs c p.request) ⊎ Answers E m p.request.id
    answers_on p (inl w) = inl (ways.carry D E from to (body.Rejected r) split (Syncs c p.request) (λ k. k) w)
    answers_on p (inr a) = inr (pending.answers_on D E from to (body.Rejected r) split c p m (reject_answer p) a)

    abbrev Sent : Moved ClientState → Type 0
    Sent k = (x : Message) → IsAmong x k.messages → E x

    pub reject_comes : (p : Pending) → cl.pending ≡ p ∷ [] → PendingGoes D m c p
        → Sent (rejected n cl (with_id r.id cl.pending)) → Goes (rejected n cl (with_id r.id cl.pending))
    reject_comes p is goes = subst (λ (ps : List Pending). Sent (rejected n cl (with_id r.id ps)) → Goes (rejected n cl (with_id r.id ps))) (sym is) (by (same_id p.request.id r.id) refl)
      where
        asks_now : (o : Option Attempt) → o ≡ Some (attempt_at c) → Sent (asks n cl p o) → Goes (asks n cl p o)
        asks_now None e sent = absurd cc
        asks_now (Some a) e sent = replaces p (asking p) refl is
            (asks_on p (asking p) refl refl refl (λ u. u) (λ h. record { early = h.early; came = h.came; master = h.master; epoch = h.epoch; version = h.version }) (answers_on p)
            (λ update. inl (_, sent _ (among_first _ []), (ap (λ (x : Attempt). x.master) (some_same a (attempt_at c) e), refl, ap (λ (x : Attempt). x.epoch) (some_same a (attempt_at c) e), ap (λ (x : Attempt). x.version) (some_same a (attempt_at c) e)))) goes)

        was_asked : (q : Bool) → p.asked ≡ q → Sent (cond q (quiet cl) (asks n cl p (last_of p.attempts)))
            → Goes (cond q (quiet cl) (asks n cl p (last_of p.attempts)))
        was_asked true e sent = subst (PendsOne E m c) (sym is) (asks_on p p refl refl e (λ u. u) (λ h. h) (answers_on p) (λ update. answers_on p ((goes.update update).asked e)) goes)
        was_asked false e sent = asks_now (last_of p.attempts) (ap last_of goes.sent_once) sent

        -- of a read nothing becomes of it
        of_kind : (update : Bool) → is_update p.request.command ≡ update
            → Sent (cond (not update) (quiet cl) (cond p.asked (quiet cl) (asks n cl p (last_of p.attempts))))
            → Goes (cond (not update) (quiet cl) (cond p.asked (quiet cl) (asks n cl p (last_of p.attempts))))
        of_kind true e sent = was_asked p.asked refl sent
        of_kind false e sent = subst (PendsOne E m c) (sym is) (reads_on p e goes)

        by : (t : Bool) → same_id p.request.id r.id ≡ t → Sent (rejected n cl (first_of (cond t (p ∷ []) [])))
            → Goes (rejected n cl (first_of (cond t (p ∷ []) [])))
        by false e sent = subst (PendsOne E m c) (sym is) (stays (body.Rejected r) split p (reject_ask p)
            (record { records = λ x k. k; accepts = λ x k. k; rejects = λ k. apart_ids p.request.id r.id e (sym k.1) }) (reject_answer p) goes)
        by true e sent = of_kind (is_update p.request.command) refl sent

-- ---- whatever comes

-- what comes to a client of a world that is led to quiet
abbrev pub IsTold : Body → Type 0
IsTold (body.Reply r) = ⊤
IsTold (body.Worth v) = ⊤
IsTold (body.Refuse r) = ⊤
IsTold (body.Accepted a) = ⊤
IsTold (body.Rejected r) = ⊤
IsTold (body.Configuration g) = ⊤
IsTold _ = ⊥

module _ (D E : Message → Type 0) (from to : NodeId) (m : MasterState) (c : PartConfig) (n : ℕ) (cl : ClientState) where
  abbrev Left : Moved ClientState → Type 0
  Left r = PendsOne E m c r.state.pending

  rests_one : (b : Body) → ((x : Message) → D x → (x ≡ says from to b) ⊎ E x) → (p : Pending) → cl.pending ≡ p ∷ []
      → pending.NoAsk from to b c p → pending.NoRecord from to b c p → pending.NoAnswer from to b c p
      → PendingGoes D m c p → PendsOne E m c cl.pending
  rests_one b split p is ask rec none goes = subst (PendsOne E m c) (sym is) (stays D E from to m c n cl b split p ask rec none goes)

  one_hears : (b : Body) → IsTold b → ((x : Message) → D x → (x ≡ says from to b) ⊎ E x) → (p : Pending)
      → cl.pending ≡ p ∷ [] → PendingGoes D m c p
      → ((x : Message) → IsAmong x (on_client n cl from b).messages → E x) → Left (on_client n cl from b)
  unfolding on_client
  one_hears (body.Reply r) told split p is goes sent = reply_comes D E from to m c n cl r split p is goes
  one_hears (body.Worth v) told split p is goes sent = value_comes D E from to m c n cl v split p is goes
  one_hears (body.Accepted a) told split p is goes sent = accept_comes D E from to m c n cl a split p is goes
  one_hears (body.Rejected r) told split p is goes sent = reject_comes D E from to m c n cl r split p is goes sent
  one_hears (body.Refuse r) told split p is goes sent = rests_one (body.Refuse r) split p is (record { updates = λ k. k; syncs = λ k. k; reads = λ k. k }) (record { records = λ x k. k; accepts = λ x k. k; rejects = λ k. k })
      (record { synced = λ k. k; early = λ k. k; value = λ k. k }) goes
  one_hears (body.Configuration g) told split p is goes sent = cond_both _ _ _ (λ (d : ClientState). PendsOne E m c d.pending)
      (λ y. rests_one (body.Configuration g) split p is (record { updates = λ k. k; syncs = λ k. k; reads = λ k. k }) (record { records = λ x k. k; accepts = λ x k. k; rejects = λ k. k }) (record { synced = λ k. k; early = λ k. k; value = λ k. k }) goes)
      (λ n. rests_one (body.Configuration g) split p is (record { updates = λ k. k; syncs = λ k. k; reads = λ k. k }) (record { records = λ x k. k; accepts = λ x k. k; rejects = λ k. k }) (record { synced = λ k. k; early = λ k. k; value = λ k. k }) goes)
  one_hears _ told split p is goes sent = absurd told

  none_left : cl.pending ≡ [] → PendsOne E m c cl.pending
  none_left is = subst (PendsOne E m c) (sym is) tt

  -- nothing pends
  none_hears : (b : Body) → IsTold b → cl.pending ≡ [] → Left (on_client n cl from b)
  unfolding on_client
  none_hears (body.Reply r) told is = subst (λ (ps : List Pending). Left (replied cl from r (with_id r.id ps))) (sym is) (none_left is)
  none_hears (body.Worth v) told is = subst (λ (ps : List Pending). Left (valued cl from v (with_id v.id ps))) (sym is) (none_left is)
  none_hears (body.Accepted a) told is = subst (λ (ps : List Pending). Left (accepted cl from a (with_id a.id ps))) (sym is) (none_left is)
  none_hears (body.Rejected r) told is = subst (λ (ps : List Pending). Left (rejected n cl (with_id r.id ps))) (sym is) (none_left is)
  none_hears (body.Refuse r) told is = none_left is
  none_hears (body.Configuration g) told is = cond_both _ _ _ (λ (d : ClientState). PendsOne E m c d.pending) (λ y. none_left is) (λ n. none_left is)
  none_hears _ told is = absurd told

  pub client_hears : (b : Body) → IsTold b → ((x : Message) → D x → (x ≡ says from to b) ⊎ E x)
      → PendsOne D m c cl.pending
      → ((x : Message) → IsAmong x (on_client n cl from b).messages → E x) → Left (on_client n cl from b)
  client_hears b told split goes sent = by cl.pending refl goes
    where
      by : (ps : List Pending) → cl.pending ≡ ps → PendsOne D m c ps → Left (on_client n cl from b)
      by [] is goes = none_hears b told is
      by (p ∷ []) is goes = one_hears b told split p is goes sent
      by (p ∷ q ∷ rest) is goes = absurd goes

-- ---- what it keeps to itself, and says

-- it is as fast and of the same protocol, and knows a configuration of that entry alone
pub record Knows (c : PartConfig) (cl : ClientState) (r : Moved ClientState) : Type 0 where
  pub fast : r.state.fast ≡ true
  pub protocol : r.state.protocol ≡ One
  pub config : cl.config.parts ≡ c ∷ [] → r.state.config.parts ≡ c ∷ []

-- a configuration is of that entry
abbrev pub BringsEntry : PartConfig → Body → Type 0
BringsEntry c (body.Configuration g) = g.parts ≡ c ∷ []
BringsEntry c _ = ⊤

module _ (c : PartConfig) (n : ℕ) (from : NodeId) (cl : ClientState) (fast : cl.fast ≡ true)
    (protocol : cl.protocol ≡ One) where
  same_known : Knows c cl (quiet cl)
  same_known = record { fast = fast; protocol = protocol; config = λ known. known }

  with_more_known : (p : Pending) → Knows c cl (with_evidence cl p)
  with_more_known p = by (proved_answer p)
    where
      by : (o : Option Early) → Knows c cl (if_proved cl p o)
      by None = record { fast = fast; protocol = protocol; config = λ known. known }
      by (Some e) = record { fast = fast; protocol = protocol; config = λ known. known }

  replied_knows : (r : Reply) (o : Option Pending) → Knows c cl (replied cl from r o)
  replied_knows r None = same_known
  replied_knows r (Some p) = cond_both (not (is_update p.request.command)) _ _ (Knows c cl) (λ y. same_known)
      (λ z. cond_both r.synced _ _ (Knows c cl) (λ y. record { fast = fast; protocol = protocol; config = λ known. known }) (λ u. with_more_known (record p { early = with_early p.early (early_reply from r) })))

  accepted_knows : (a : Accepted) (o : Option Pending) → Knows c cl (accepted cl from a o)
  accepted_knows a None = same_known
  accepted_knows a (Some p) = cond_both (is_update p.request.command) _ _ (Knows c cl) (λ y. with_more_known (record p { accepts = with_accept p.accepts (record { witness = from; epoch = a.epoch }) })) (λ z. same_known)

  valued_knows : (v : Worth) (o : Option Pending) → Knows c cl (valued cl from v o)
  valued_knows v None = same_known
  valued_knows v (Some p) = cond_both (is_update p.request.command) _ _ (Knows c cl) (λ y. same_known) (λ z. record { fast = fast; protocol = protocol; config = λ known. known })

  rejected_knows : (o : Option Pending) → Knows c cl (rejected n cl o)
  rejected_knows None = same_known
  rejected_knows (Some p) = cond_both (not (is_update p.request.command)) _ _ (Knows c cl) (λ y. same_known) (λ u. cond_both p.asked _ _ (Knows c cl) (λ y. same_known) (λ z. asks_known (last_of p.attempts)))
    where
      asks_known : (o : Option Attempt) → Knows c cl (asks n cl p o)
      asks_known None = same_known
      asks_known (Some a) = record { fast = fast; protocol = protocol; config = λ known. known }

  pub knows : (b : Body) → IsTold b → BringsEntry c b → Knows c cl (on_client n cl from b)
  unfolding on_client
  knows (body.Reply r) told brings = replied_knows r (with_id r.id cl.pending)
  knows (body.Worth v) told brings = valued_knows v (with_id v.id cl.pending)
  knows (body.Accepted a) told brings = accepted_knows a (with_id a.id cl.pending)
  knows (body.Rejected r) told brings = rejected_knows (with_id r.id cl.pending)
  knows (body.Refuse r) told brings = same_known
  knows (body.Configuration g) told brings = cond_both _ _ _ (λ (d : ClientState). Knows c cl (quiet d)) (λ y. record { fast = fast; protocol = protocol; config = λ known. brings }) (λ z. same_known)
  knows _ told brings = absurd told

-- all that it sends is a sync to the master
pub record IsSync (c : PartConfig) (x : Message) : Type 0 where
  pub ask : Ask
  pub is : x.body ≡ body.Sync ask
  pub to : x.to ≡ c.master

module _ (D : Message → Type 0) (m : MasterState) (c : PartConfig) (n : ℕ) (from : NodeId) (cl : ClientState) where
  evidence_says : (p : Pending) → Each (IsSync c) (with_evidence cl p).messages
  evidence_says p = by (proved_answer p)
    where
      by : (o : Option Early) → Each (IsSync c) (if_proved cl p o).messages
      by None = tt
      by (Some e) = tt

  asks_says : (p : Pending) (o : Option Attempt) → ((a : Attempt) → o ≡ Some a → a.master ≡ c.master)
      → Each (IsSync c) (asks n cl p o).messages
  asks_says p None its = tt
  asks_says p (Some a) its = (record { ask = _; is = refl; to = its a refl }, tt)

  rejected_says : (r : Rejected) (ps : List Pending) → PendsOne D m c ps
      → Each (IsSync c) (rejected n cl (with_id r.id ps)).messages
  rejected_says r [] goes = tt
  rejected_says r (p ∷ []) goes = by (same_id p.request.id r.id)
    where
      by : (t : Bool) → Each (IsSync c) (rejected n cl (first_of (cond t (p ∷ []) []))).messages
      by true = cond_both (not (is_update p.request.command)) _ _ (λ (x : Moved ClientState). Each (IsSync c) x.messages) (λ y. tt)
          (λ u. cond_both p.asked _ _ (λ (x : Moved ClientState). Each (IsSync c) x.messages) (λ y. tt)
          (λ z. asks_says p (last_of p.attempts) (λ a e. ap (λ (x : Attempt). x.master) (some_same a (attempt_at c) (sym e ∙ ap last_of goes.sent_once)))))
      by false = tt
  rejected_says r (p ∷ q ∷ rest) goes = absurd goes

  replied_says : (r : Reply) (o : Option Pending) → Each (IsSync c) (replied cl from r o).messages
  replied_says r None = tt
  replied_says r (Some p) = cond_both (not (is_update p.request.command)) _ _ (λ (x : Moved ClientState). Each (IsSync c) x.messages) (λ y. tt)
      (λ z. cond_both r.synced _ _ (λ (x : Moved ClientState). Each (IsSync c) x.messages) (λ y. tt) (λ u. evidence_says (record p { early = with_early p.early (early_reply from r) })))

  accepted_says : (a : Accepted) (o : Option Pending) → Each (IsSync c) (accepted cl from a o).messages
  accepted_says a None = tt
  accepted_says a (Some p) = cond_both (is_update p.request.command) _ _ (λ (x : Moved ClientState). Each (IsSync c) x.messages) (λ y. evidence_says (record p { accepts = with_accept p.accepts (record { witness = from; epoch = a.epoch }) })) (λ z. tt)

  valued_says : (v : Worth) (o : Option Pending) → Each (IsSync c) (valued cl from v o).messages
  valued_says v None = tt
  valued_says v (Some p) = cond_both (is_update p.request.command) _ _ (λ (x : Moved ClientState). Each (IsSync c) x.messages) (λ y. tt) (λ z. tt)

  pub client_says : (b : Body) → IsTold b → PendsOne D m c cl.pending → Each (IsSync c) (on_client n cl from b).messages
  unfolding on_client
  client_says (body.Reply r) told goes = replied_says r (with_id r.id cl.pending)
  client_says (body.Worth v) told goes = valued_says v (with_id v.id cl.pending)
  client_says (body.Accepted a) told goes = accepted_says a (with_id a.id cl.pending)
  client_says (body.Rejected r) told goes = rejected_says r cl.pending goes
  client_says (body.Refuse r) told goes = tt
  client_says (body.Configuration g) told goes = tt
  client_says _ told goes = absurd told
