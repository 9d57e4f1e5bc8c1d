-- An append comes to a backup, and a record to a witness: what it does is told.
use Rattle.std.proofs.Common.{◌≡◌, ◌≤◌, ◌⊎◌, inl, inr, ℕ, ◌+◌, ◌-◌, Bool, true, false, not, cond, List, [], length, drop, nat_lt, Option, Some, None, refl, ap, sym, subst, arith, length-append}
use Rattle.std.proofs.lemmas.Bool.{eq-eqb, ltb-true}
use Rattle.std.proofs.lemmas.List.{length-drop}
use Rattle.curp_base.proofs.Lists.{Each-weaker}
use Rattle.curp_cmd.specs.Node.{backup_node, client_node, master_node, witness_node}
use Rattle.curp_cmd.specs.declared.entry.Entry.{Entry}
use Rattle.curp_cmd.specs.declared.node.NodeId.{NodeId}
use Rattle.curp_msg.specs.Moved.{says}
use Rattle.curp_msg.specs.declared.answer.AppendAnswer.{AppendAnswer}
use Rattle.curp_msg.specs.declared.answer.AppendAnswer.TheVariants.{Stored, Fenced, NotInstalled, Gap}
use Rattle.curp_msg.specs.declared.answer.Reason.{Reason}
use Rattle.curp_msg.specs.declared.body.Append.{Append}
use Rattle.curp_msg.specs.declared.body.Body.TheVariants as body
use Rattle.curp_msg.specs.declared.body.Record.{Record}
use Rattle.curp_msg.specs.declared.config.PartConfig.{PartConfig}
use Rattle.curp_msg.specs.declared.message.Message.{Message}
use Rattle.curp_facts.specs.Facts.{IsAmong}
use Rattle.curp_model.specs.Backup.{AfterAppend, BackupState, append, is_installed_at, longer, on_backup, refuses_entries, stores}
use Rattle.curp_model.specs.Client.{Pending}
use Rattle.curp_model.specs.Master.{Acknowledged, MasterState}
use Rattle.curp_model.specs.Witness.{WitnessState, hold, on_witness, verdict_body}
use Rattle.curp_law_served.specs.Ways.{Accepts, Appends, CaptureGoes, Covered, WillCover, HeldGoes, AnswersStored, MasterGoes, OnWay, PendsOne, Reads, GetsRecorded, Records, Rejects, Stores, Syncs, Updates}
use Rattle.curp_law_served.specs.Ways.WillCover.{Comes, Goes, Known}
use Rattle.curp_law_served.proofs.Lists.{among_first}
use Rattle.curp_law_served.proofs.Pending as pending
use Rattle.curp_law_served.proofs.Ways as ways

-- ---- a backup

-- it takes an append of its epoch, not below its fence and with no gap
pub append_stores : (b : BackupState) (epoch base : ℕ) (entries : List Entry) → b.fence ≤ epoch
    → b.installed ≡ Some epoch → base ≤ length b.log
    → append b epoch base entries ≡ stores b (longer b.log base entries)
unfolding append
append_stores b epoch base entries fence installed gap = by (nat_lt epoch b.fence) (not (is_installed_at b.installed epoch)) (nat_lt (length b.log) base) (unfenced (nat_lt epoch b.fence) refl)
    (subst (λ (o : Option ℕ). not (is_installed_at o epoch) ≡ false) (sym installed) (ap not (eq-eqb epoch epoch refl))) (fits (nat_lt (length b.log) base) refl)
  where
    unfenced : (t : Bool) → nat_lt epoch b.fence ≡ t → t ≡ false
    unfenced true e = absurd (omega (arith, fence, ltb-true epoch b.fence e))
    unfenced false e = refl

    fits : (t : Bool) → nat_lt (length b.log) base ≡ t → t ≡ false
    fits true e = absurd (omega (arith, gap, ltb-true (length b.log) base e))
    fits false e = refl

    by : (x y z : Bool) → x ≡ false → y ≡ false → z ≡ false
        → cond x (refuses_entries b (Fenced b.fence)) (cond y (refuses_entries b NotInstalled) (cond z (refuses_entries b (Gap (length b.log))) (stores b (longer b.log base entries)))) ≡ stores b (longer b.log base entries)
    by false false false e f g = refl
    by true y z e f g = absurd cc
    by false true z e f g = absurd cc
    by false false true e f g = absurd cc

pub long_enough : (log entries : List Entry) (base : ℕ) → base ≤ length log
    → base + length entries ≤ length (longer log base entries)
long_enough log entries base low = omega (arith, low, length-append log (drop (length log - base) entries), length-drop (length log - base) entries)

module _ (D E : Message → Type 0) (n : ℕ) (m : MasterState) (number : ℕ) (bs : BackupState) (a : Append) where
  abbrev from : NodeId
  from = master_node n

  abbrev to : NodeId
  to = backup_node number

  module _ (split : (x : Message) → D x → (x ≡ says from to (body.Append a)) ⊎ E x) (fence : bs.fence ≤ a.epoch) (installed : bs.installed ≡ Some a.epoch) (gap : a.base ≤ length bs.log)
      (sent : (x : Message) → IsAmong x (on_backup number bs from (body.Append a)).messages → E x) where
    stored_sent : (long round : ℕ) → long ≤ a.base + length a.entries → round ≤ a.round
        → OnWay E (Stores n to long round)
    unfolding on_backup
    stored_sent long round low late =
        let is : (append bs a.epoch a.base a.entries).answer ≡ Stored (length (longer bs.log a.base a.entries)) = ap (λ (k : AfterAppend). k.answer) (append_stores bs a.epoch a.base a.entries fence installed gap) in
        (_, sent _ (among_first _ []), (refl, refl, subst (λ (s : AppendAnswer). AnswersStored long round a.round s) (sym is) (omega (arith, low, long_enough bs.log a.entries a.base gap), late)))

    cover_stored : (acks : List Acknowledged) (k : NodeId) (long round : ℕ) → WillCover D acks m.epoch n k long round
        → WillCover E acks m.epoch n k long round
    cover_stored acks k long round (Known l r) = Known l r
    cover_stored acks k long round (Goes w) = elim (ways.meets D E from to (body.Append a) split (Appends m.epoch k long round) w) [
      | inl it ↦ Comes (subst (λ (z : NodeId). OnWay E (Stores n z long round)) it.0 (stored_sent long round it.2 it.3))
      | inr later ↦ Goes later
    ]
    cover_stored acks k long round (Comes w) = Comes (ways.carry D E from to (body.Append a) split (Stores n k long round) (λ p. p) w)

    covered_stored : (long round : ℕ) → Covered D n m long round → Covered E n m long round
    covered_stored long round all = Each-weaker (λ k. WillCover D m.acknowledged m.epoch n k long round) (λ k. WillCover E m.acknowledged m.epoch n k long round)
        (λ k c. cover_stored m.acknowledged k long round c) m.backups all

    -- what a round was to bring on is brought on
    pub append_goes : MasterGoes D n m → MasterGoes E n m
    append_goes goes = record {
      held = Each-weaker (HeldGoes D n m) (HeldGoes E n m) (λ j h. record { unsynced = h.unsynced; within = h.within; covered = covered_stored (j + 1) 0 h.covered }) m.held goes.held;
      captures = Each-weaker (CaptureGoes D n m) (CaptureGoes E n m) (λ c h. record { unready = h.unready; within = h.within; covered = covered_stored c.length c.round h.covered }) m.captures goes.captures;
    }

    pub append_pends : (c : PartConfig) (ps : List Pending) → PendsOne D m c ps → PendsOne E m c ps
    append_pends c ps goes = pending.pends_on D E m m c (λ p. pending.all_on D E from to (body.Append a) split c p m
        (record { updates = λ k. k; syncs = λ k. k; reads = λ k. k }) (record { records = λ x k. k; accepts = λ x k. k; rejects = λ k. k }) (record { synced = λ k. k; early = λ k. k; value = λ k. k })) ps goes

-- ---- a witness

module _ (D E : Message → Type 0) (m : MasterState) (c : PartConfig) (n number : ℕ) (x : WitnessState) (r : Record)
  where
    abbrev client : NodeId
    client = client_node n

    abbrev own : NodeId
    own = witness_node number

    module _ (split : (y : Message) → D y → (y ≡ says client own (body.Record r)) ⊎ E y)
        (sent : (y : Message) → IsAmong y (on_witness number x client (body.Record r)).messages → E y) where
      -- it accepts or rejects
      answered : (p : Pending) → client ≡ client_node p.request.id.client → r.request ≡ p.request → r.epoch ≡ c.epoch
          → OnWay E (Accepts c p.request.id own) ⊎ OnWay E (Rejects p.request.id)
      unfolding on_witness
      answered p mine same epoch = by (hold x r.epoch r.request).reason (sent _ (among_first _ []))
        where
          by : (o : Option Reason) → E (says own client (verdict_body r.request.id r.epoch o))
              → OnWay E (Accepts c p.request.id own) ⊎ OnWay E (Rejects p.request.id)
          by None e = inl (_, e, (refl, mine, ap (λ (q : _). q.id) same, epoch))
          by (Some why) e = inr (_, e, (mine, ap (λ (q : _). q.id) same))

      recorded_by : (p : Pending) (y : NodeId) → GetsRecorded D c p y → GetsRecorded E c p y
      recorded_by p y (inl has) = inl has
      recorded_by p y (inr (inl asked)) = inr (inl asked)
      recorded_by p y (inr (inr (inl w))) = elim (ways.meets D E client own (body.Record r) split (Records c p.request y) w) [
        | inl it ↦ elim (answered p it.0 it.2 it.3) [
          | inl accepts ↦ inr (inr (inr (inl (subst (λ (z : NodeId). OnWay E (Accepts c p.request.id z)) it.1 accepts))))
          | inr rejects ↦ inr (inr (inr (inr rejects)))
        ]
        | inr later ↦ inr (inr (inl later))
      ]
      recorded_by p y (inr (inr (inr (inl w)))) = inr (inr (inr (inl (ways.carry D E client own (body.Record r) split (Accepts c p.request.id y) (λ k. k) w))))
      recorded_by p y (inr (inr (inr (inr w)))) = inr (inr (inr (inr (ways.carry D E client own (body.Record r) split (Rejects p.request.id) (λ k. k) w))))

      pub record_pends : (ps : List Pending) → PendsOne D m c ps → PendsOne E m c ps
      record_pends ps goes = pending.pends_on D E m m c on ps goes
        where
          on : (p : Pending) → pending.GoOn D E m m c p
          on p =
              record {
                told = λ way. elim way [ inl w ↦ inl (ways.carry D E client own (body.Record r) split (Updates c p.request) (λ k. k) w) | inr t ↦ inr (pending.tells_on D E client own (body.Record r) split c p m (record { synced = λ k. k; early = λ k. k; value = λ k. k }) t) ];
                asked = λ way. elim way [ inl w ↦ inl (ways.carry D E client own (body.Record r) split (Syncs c p.request) (λ k. k) w) | inr t ↦ inr (pending.answers_on D E client own (body.Record r) split c p m (record { synced = λ k. k; early = λ k. k; value = λ k. k }) t) ];
                recorded = recorded_by p;
                read = λ is way. elim way [ inl w ↦ inl (ways.carry D E client own (body.Record r) split (Reads c p.request) (λ k. k) w) | inr t ↦ inr (pending.gives_on D E client own (body.Record r) split c p m (record { synced = λ k. k; early = λ k. k; value = λ k. k }) t) ];
              }
