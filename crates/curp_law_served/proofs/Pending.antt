-- A request that isn't completed goes on, as something is delivered.
use Rattle.std.proofs.Common.{◌≡◌, ◌⊎◌, inl, inr, false, List, [], ◌∷◌}
use Rattle.curp_base.proofs.Lists.{Each-weaker}
use Rattle.curp_cmd.specs.Store.{is_update}
use Rattle.curp_cmd.specs.declared.node.NodeId.{NodeId}
use Rattle.curp_msg.specs.Moved.{says}
use Rattle.curp_msg.specs.declared.body.Body.{Body}
use Rattle.curp_msg.specs.declared.config.PartConfig.{PartConfig}
use Rattle.curp_msg.specs.declared.message.Message.{Message}
use Rattle.curp_model.specs.Client.{Pending}
use Rattle.curp_model.specs.Master.{MasterState}
use Rattle.curp_law_served.specs.Ways.{Accepts, Answers, EarlyReply, Gives, OnWay, PendingGoes, PendsOne, ReadGoes, Reads, GetsRecorded, Records, Rejects, SyncedReply, Syncs, WillTell, Updates, ValueOf}
use Rattle.curp_law_served.proofs.Ways as ways

module _ (D E : Message → Type 0) (m k : MasterState) (c : PartConfig) (p : Pending) where
  -- what has to go on of what is on its way to master and witnesses
  pub record GoOn : Type 0 where
    pub told : OnWay D (Updates c p.request) ⊎ WillTell D c m p.request.id
        → OnWay E (Updates c p.request) ⊎ WillTell E c k p.request.id
    pub asked : OnWay D (Syncs c p.request) ⊎ Answers D m p.request.id
        → OnWay E (Syncs c p.request) ⊎ Answers E k p.request.id
    pub recorded : (x : NodeId) → GetsRecorded D c p x → GetsRecorded E c p x
    pub read : is_update p.request.command ≡ false → ReadGoes D m c p → ReadGoes E k c p

  -- then the request goes on
  pub goes_on : GoOn → PendingGoes D m c p → PendingGoes E k c p
  goes_on on goes = record {
    sent_once = goes.sent_once;
    update = λ is. let u = goes.update is in record {
      unproved = u.unproved;
      told = elim u.told [ inl early ↦ inl early | inr way ↦ inr (on.told way) ];
      asked = λ was. on.asked (u.asked was);
      recorded = Each-weaker (GetsRecorded D c p) (GetsRecorded E c p) on.recorded c.witnesses u.recorded;
    };
    read = λ is. on.read is (goes.read is);
  }

-- what is delivered is none of these kinds
pub record NoAsk (from to : NodeId) (b : Body) (c : PartConfig) (p : Pending) : Type 0 where
  pub updates : Updates c p.request from to b → ⊥
  pub syncs : Syncs c p.request from to b → ⊥
  pub reads : Reads c p.request from to b → ⊥

pub record NoRecord (from to : NodeId) (b : Body) (c : PartConfig) (p : Pending) : Type 0 where
  pub records : (x : NodeId) → Records c p.request x from to b → ⊥
  pub accepts : (x : NodeId) → Accepts c p.request.id x from to b → ⊥
  pub rejects : Rejects p.request.id from to b → ⊥

pub record NoAnswer (from to : NodeId) (b : Body) (c : PartConfig) (p : Pending) : Type 0 where
  pub synced : SyncedReply p.request.id from to b → ⊥
  pub early : EarlyReply c.master c.epoch c.version p.request.id from to b → ⊥
  pub value : ValueOf p.request.id from to b → ⊥

module _ (D E : Message → Type 0) (from to : NodeId) (b : Body)
    (split : (x : Message) → D x → (x ≡ says from to b) ⊎ E x) (c : PartConfig) (p : Pending) where
  pub recorded_on : NoRecord from to b c p → (x : NodeId) → GetsRecorded D c p x → GetsRecorded E c p x
  recorded_on none x (inl has) = inl has
  recorded_on none x (inr (inl asked)) = inr (inl asked)
  recorded_on none x (inr (inr (inl w))) = inr (inr (inl (ways.carry D E from to b split (Records c p.request x) (none.records x) w)))
  recorded_on none x (inr (inr (inr (inl w)))) = inr (inr (inr (inl (ways.carry D E from to b split (Accepts c p.request.id x) (none.accepts x) w))))
  recorded_on none x (inr (inr (inr (inr w)))) = inr (inr (inr (inr (ways.carry D E from to b split (Rejects p.request.id) none.rejects w))))

  module _ (m : MasterState) where
    pub answers_on : NoAnswer from to b c p → Answers D m p.request.id → Answers E m p.request.id
    answers_on none (inl w) = inl (ways.carry D E from to b split (SyncedReply p.request.id) none.synced w)
    answers_on none (inr held) = inr held

    pub tells_on : NoAnswer from to b c p → WillTell D c m p.request.id → WillTell E c m p.request.id
    tells_on none (inl a) = inl (answers_on none a)
    tells_on none (inr w) = inr (ways.carry D E from to b split (EarlyReply c.master c.epoch c.version p.request.id) none.early w)

    pub gives_on : NoAnswer from to b c p → Gives D m p.request.id → Gives E m p.request.id
    gives_on none (inl w) = inl (ways.carry D E from to b split (ValueOf p.request.id) none.value w)
    gives_on none (inr waits) = inr waits

    -- nothing of it is delivered
    pub all_on : NoAsk from to b c p → NoRecord from to b c p → NoAnswer from to b c p → GoOn D E m m c p
    all_on ask rec none = record {
      told = λ way. elim way [ inl w ↦ inl (ways.carry D E from to b split (Updates c p.request) ask.updates w) | inr t ↦ inr (tells_on none t) ];
      asked = λ way. elim way [ inl w ↦ inl (ways.carry D E from to b split (Syncs c p.request) ask.syncs w) | inr a ↦ inr (answers_on none a) ];
      recorded = recorded_on rec;
      read = λ is way. elim way [ inl w ↦ inl (ways.carry D E from to b split (Reads c p.request) ask.reads w) | inr g ↦ inr (gives_on none g) ];
    }

-- at most one pends, and goes on
pub pends_on : (D E : Message → Type 0) (m k : MasterState) (c : PartConfig) → ((p : Pending) → GoOn D E m k c p)
    → (ps : List Pending) → PendsOne D m c ps → PendsOne E k c ps
pends_on D E m k c on [] goes = tt
pends_on D E m k c on (p ∷ []) goes = goes_on D E m k c p (on p) goes
pends_on D E m k c on (p ∷ q ∷ rest) goes = absurd goes
