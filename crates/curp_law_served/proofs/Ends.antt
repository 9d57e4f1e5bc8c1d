-- Where nothing is on its way any more, nothing waits, and no request pends.
use Rattle.std.proofs.Common.{◌≡◌, ◌≤◌, ◌⊎◌, inl, inr, ℕ, ◌+◌, true, false, List, [], ◌∷◌, length, None, refl, sym, subst, arith}
use Rattle.std.specs.List.{filter, list_any}
use Rattle.std.proofs.lemmas.Bool.{and_from, cases_Bool, eq-eqb, or_left}
use Rattle.curp_base.specs.Words.{Each, first_of}
use Rattle.curp_base.proofs.Lists.{Each-weaker}
use Rattle.curp_cmd.specs.Node.{same_node}
use Rattle.curp_cmd.specs.Store.{is_update}
use Rattle.curp_cmd.specs.declared.command.RequestId.{RequestId}
use Rattle.curp_cmd.specs.declared.node.NodeId.{NodeId}
use Rattle.curp_cmd.proofs.Nodes.{same_node-self}
use Rattle.curp_msg.specs.declared.config.PartConfig.{PartConfig}
use Rattle.curp_msg.specs.declared.message.Message.{Message}
use Rattle.curp_facts.specs.Facts.{IsAmong}
use Rattle.curp_model.specs.Client.{Attempt, Pending, all_accepted, attempt_at, has_accepted, proved_answer, proves}
use Rattle.curp_model.specs.Master.{Captured, MasterState, from_backup}
use Rattle.curp_law_served.specs.Ways.{Answers, CaptureGoes, Covered, WillCover, Gives, HasEarly, HeldGoes, MasterGoes, OnWay, PendingGoes, PendsOne, ReadGoes, GetsRecorded, WillTell, Updates}
use Rattle.curp_law_served.specs.Ways.WillCover.{Comes, Goes, Known}
use Rattle.curp_law_served.proofs.Acks.{all_had, all_synced}
use Rattle.curp_law_served.proofs.Lists.{all_tested, among_filter, among_none, each_of}

-- a list in which something stands has a first item
has_first : {A : Type 0} (xs : List A) (x : A) → IsAmong x xs → first_of xs ≡ None → ⊥
has_first [] x a e = among_none x a
has_first (y ∷ ys) x a e = cc

module _ (D : Message → Type 0) (none : (x : Message) → D x → ⊥) (n : ℕ) (m : MasterState) (goes : MasterGoes D n m)
    (some : 1 ≤ length m.backups) where
  all_known : (long round : ℕ) → Covered D n m long round
      → Each (λ b. (long ≤ (from_backup m.acknowledged b).length) × (round ≤ (from_backup m.acknowledged b).round)) m.backups
  all_known long round all = Each-weaker (λ b. WillCover D m.acknowledged m.epoch n b long round) (λ b. (long ≤ (from_backup m.acknowledged b).length) × (round ≤ (from_backup m.acknowledged b).round)) one m.backups all
    where
      one : (b : NodeId) → WillCover D m.acknowledged m.epoch n b long round
          → (long ≤ (from_backup m.acknowledged b).length) × (round ≤ (from_backup m.acknowledged b).round)
      one b (Known l r) = (l, r)
      one b (Goes w) = absurd (none w.0 w.1)
      one b (Comes w) = absurd (none w.0 w.1)

  -- nothing is held
  pub none_held : (j : ℕ) → IsAmong j m.held → ⊥
  none_held j a =
      let h = each_of (HeldGoes D n m) m.held goes.held j a in
      let low = all_synced m.acknowledged m.backups (j + 1) some (Each-weaker (λ b. (j + 1 ≤ (from_backup m.acknowledged b).length) × (0 ≤ (from_backup m.acknowledged b).round)) (λ b. j + 1 ≤ (from_backup m.acknowledged b).length)
      (λ b both. both.0) m.backups (all_known (j + 1) 0 h.covered)) in
      absurd (omega (arith, h.unsynced, low))

  -- no read waits
  pub none_captured : (c : Captured) → IsAmong c m.captures → ⊥
  none_captured c a =
      let h = each_of (CaptureGoes D n m) m.captures goes.captures c a in
      let had = all_had m.acknowledged m.backups c.length c.round (all_known c.length c.round h.covered) in
      cc (had, h.unready)

  no_answers : (id : RequestId) → Answers D m id → ⊥
  no_answers id (inl w) = none w.0 w.1
  no_answers id (inr h) = none_held h.index h.held

  no_tells : (c : PartConfig) (id : RequestId) → WillTell D c m id → ⊥
  no_tells c id (inl a) = no_answers id a
  no_tells c id (inr w) = none w.0 w.1

  no_gives : (id : RequestId) → Gives D m id → ⊥
  no_gives id (inl w) = none w.0 w.1
  no_gives id (inr h) = none_captured h.capture h.waits

  module _ (c : PartConfig) (p : Pending) (pends : PendingGoes D m c p) where
    -- evidence that is enough is found
    proved : (h : HasEarly p c) → Each (λ x. has_accepted p.accepts c.epoch x ≡ true) c.witnesses
        → proved_answer p ≡ None → ⊥
    proved h all e = has_first (filter (λ q. list_any (proves p q) p.attempts) p.early) h.early (among_filter (λ q. list_any (proves p q) p.attempts) p.early h.early h.came found) e
      where
        accepted : all_accepted p (attempt_at c) ≡ true
        accepted = all_tested (has_accepted p.accepts c.epoch) c.witnesses all

        is_proved : proves p h.early (attempt_at c) ≡ true
        is_proved = and_from _ _ (and_from _ _ (and_from _ _ (subst (λ (x : NodeId). same_node h.early.master x ≡ true) h.master (same_node-self h.early.master)) (eq-eqb h.early.epoch c.epoch h.epoch)) (eq-eqb h.early.version c.version h.version)) accepted

        found : list_any (proves p h.early) p.attempts ≡ true
        found = subst (λ (xs : List Attempt). list_any (proves p h.early) xs ≡ true) (sym pends.sent_once) (or_left _ false is_proved)

    no_pending : ⊥
    no_pending = elim (cases_Bool (is_update p.request.command)) [
      | inl update ↦ by_told update (pends.update update).told
      | inr read ↦ by_read (pends.read read)
    ]
      where
        by_read : ReadGoes D m c p → ⊥
        by_read (inl w) = none w.0 w.1
        by_read (inr g) = no_gives p.request.id g

        not_asked : is_update p.request.command ≡ true → p.asked ≡ true → ⊥
        not_asked update asked = elim ((pends.update update).asked asked) [ inl w ↦ none w.0 w.1 | inr a ↦ no_answers p.request.id a ]

        has : is_update p.request.command ≡ true → (x : NodeId) → GetsRecorded D c p x
            → has_accepted p.accepts c.epoch x ≡ true
        has update x (inl did) = did
        has update x (inr (inl asked)) = absurd (not_asked update asked)
        has update x (inr (inr (inl w))) = absurd (none w.0 w.1)
        has update x (inr (inr (inr (inl w)))) = absurd (none w.0 w.1)
        has update x (inr (inr (inr (inr w)))) = absurd (none w.0 w.1)

        by_told : is_update p.request.command ≡ true
            → HasEarly p c ⊎ (OnWay D (Updates c p.request) ⊎ WillTell D c m p.request.id) → ⊥
        by_told update (inl early) = proved early (Each-weaker (GetsRecorded D c p) (λ x. has_accepted p.accepts c.epoch x ≡ true) (has update) c.witnesses (pends.update update).recorded) (pends.update update).unproved
        by_told update (inr (inl w)) = none w.0 w.1
        by_told update (inr (inr t)) = no_tells c p.request.id t

  -- no request pends
  pub none_pends : (c : PartConfig) (ps : List Pending) → PendsOne D m c ps → ps ≡ []
  none_pends c [] goes = refl
  none_pends c (p ∷ []) goes = absurd (no_pending c p goes)
  none_pends c (p ∷ q ∷ rest) goes = absurd goes
