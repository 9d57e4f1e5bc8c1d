-- What the laws of quieting take of a world that is recovered, and of one in which a recovery is ordered, from what every script and
-- every served run keeps.
use Rattle.std.proofs.Common.{◌≡◌, ◌≤◌, ◌<◌, ◌||◌, ◌&&◌, ℕ, ◌+◌, ◌*◌, Bool, true, false, List, [], ◌∷◌, length, nat_lt, Some, refl, ap, sym, ◌∙◌, subst, arith}
use Rattle.std.proofs.lemmas.Bool.{ltb-true}
use Rattle.curp_base.specs.Words.{numbered, rises_past}
use Rattle.curp_base.proofs.Lists.{Each-at}
use Rattle.curp_cmd.specs.Node.{manager_node, master_node}
use Rattle.curp_cmd.specs.declared.node.NodeId.{NodeId}
use Rattle.curp_cmd.specs.declared.node.NodeKind.{NodeKind}
use Rattle.curp_cmd.specs.declared.node.NodeKind.TheVariants as kind
use Rattle.curp_msg.specs.Moved.{says}
use Rattle.curp_msg.specs.declared.body.Body.{Body}
use Rattle.curp_msg.specs.declared.body.Body.TheVariants as body
use Rattle.curp_msg.specs.declared.body.Recover.{Recover}
use Rattle.curp_msg.specs.declared.body.Recovered.{Recovered}
use Rattle.curp_msg.specs.declared.config.PartConfig.{PartConfig}
use Rattle.curp_msg.specs.declared.message.Message.{Message}
use Rattle.curp_facts.specs.Entries.{EntryOk}
use Rattle.curp_facts.specs.Facts.{IsAmong, IsGiven, WasSent, hi_of, lists_of_order, lo_of}
use Rattle.curp_facts.specs.Facts.IsGiven.{ByRecovery}
use Rattle.curp_facts.specs.Known.{Known}
use Rattle.curp_facts.specs.Names.{GivenOk, IsOf, RecoverOrderOk}
use Rattle.curp_facts.specs.Nodes.{IsWaiting, ServingOk}
use Rattle.curp_model.specs.Backup.{BackupState}
use Rattle.curp_model.specs.Log.{is_log}
use Rattle.curp_model.specs.Manager.{Next, counter_ends, last_number, recover_order, recovers}
use Rattle.curp_model.specs.Named.{IsNodeOf}
use Rattle.curp_model.specs.Recovery.{Asking, Fresh, Recovering, RecoveryPhase, RecoveryState, Replayed, Serving, Storing, Waiting}
use Rattle.curp_model.specs.World.{World}
use Rattle.curp_law_kept.proofs.Gives.{fits, backup_log_ok}
use Rattle.curp_law_served.proofs.Homes.{backup_there, ordered_backup_home, witness_there}
use Rattle.curp_law_served.specs.Calm.{IsUndelivered}
use Rattle.curp_law_served.specs.Recovers.{TellsRecovered}
use Rattle.curp_law_served.specs.Renews.{CanRecover, RenewGrounds}
use Rattle.curp_law_served.specs.Served.{most_steps}
use Rattle.curp_law_served.proofs.Followed.{Follows}
use Rattle.curp_law_served.proofs.Grounding.{given_ok, named_by, op_of}

-- ---- a world that is recovered

module _ {w : World} (known : Known w) (f n : ℕ) (follows : Follows f w n) (few : n ≤ most_steps) (done q : ℕ) (o : Recover)
    (ordered : WasSent w (says manager_node (master_node q) (body.Recover o))) (newest : w.manager.next.epoch ≡ o.epoch + 1) where
  given : IsGiven w (lists_of_order (master_node q) o)
  given = ByRecovery (master_node q) o ordered

  ok : GivenOk w (lists_of_order (master_node q) o)
  ok = known.names.given (lists_of_order (master_node q) o) given

  order : RecoverOrderOk w (master_node q) o
  order = known.names.manager_says (master_node q) (body.Recover o) ordered

  before_ok : GivenOk w order.before
  before_ok = known.names.given order.before order.was.given

  from_of : IsOf w kind.Backup o.backup
  from_of = Each-at (IsOf w kind.Backup) order.before.backups before_ok.backups order.its_backup.place o.backup order.its_backup.stands

  other_of : IsOf w kind.Witness o.witness
  other_of = Each-at (IsOf w kind.Witness) order.before.witnesses before_ok.witnesses order.its_witness.place o.witness order.its_witness.stands

  one_part : o.part ≡ 1
  one_part = let parts : w.manager.shape.parts ≡ 1 = ap (λ (x : _). x.parts) follows.shape in omega (arith, ok.part, parts)

  -- what its backup has is a log
  log_there : (b : BackupState) → numbered w.backups o.backup.number ≡ Some b → is_log o.lo o.hi b.log ≡ true
  log_there b is =
      let held = known.inv.backups order.before order.was.given o.backup order.its_backup b (record { its_kind = from_of.0; its_state = is }) in
      let log = backup_log_ok known order.before order.was.given b held in
      subst (λ (x : ℕ). is_log x o.hi b.log ≡ true) (sym (order.its_lo ∙ ap (lo_of w) (sym order.its_part)))
      (subst (λ (x : ℕ). is_log (lo_of w order.before.part) x b.log ≡ true) (sym (order.its_hi ∙ ap (hi_of w) (sym order.its_part))) log.is_log)

  -- none of its own is the one that it recovers from
  apart : (k : NodeId) → IsAmong k o.backups → k.number ≡ o.backup.number → ⊥
  apart k a same =
      let of = Each-at (IsOf w kind.Backup) o.backups ok.backups a.place k a.stands in
      let own : k ≡ o.backup = named_by k kind.Backup of.0 ∙ ap (λ (i : ℕ). record { kind = kind.Backup; number = i }) same ∙ sym (named_by o.backup kind.Backup from_of.0) in
      let home = ordered_backup_home known.names (master_node q) o ordered (lists_of_order (master_node q) o) given (subst (λ (x : NodeId). IsAmong x o.backups) own a) in
      absurd (omega (arith, home.1))

  there : (y : Message) → IsUndelivered w done y → (k : NodeKind) → y.to.kind ≡ k → IsOf w k y.to
  there y due k is =
      let of = (fits known y (record { place = due.0; stands = due.2 })).addressee in
      (is, subst (λ (x : NodeKind). IsNodeOf w x y.to.number) (sym of.0 ∙ is) of.1)

  -- who has told that it recovered is the master of the order
  teller : (from to : NodeId) (r : Recovered) → WasSent w (says from to (body.Recovered r)) → r.epoch ≡ o.epoch
      → from ≡ master_node q
  teller from to r sent same =
      let k = (fits known (says from to (body.Recovered r)) sent).fits in
      let late : 1 < o.epoch = omega (arith, order.earlier, before_ok.epoch) in
      (known.names.agree (lists_of_order from k.order) (lists_of_order (master_node q) o) (ByRecovery from k.order k.ordered) given).by_late_epoch (omega (arith, late, same, k.its_epoch)) (sym k.its_epoch ∙ same)

  told : (y : Message) → IsUndelivered w done y → TellsRecovered o y.from y.to y.body
      → (numbered w.masters q ≡ Some Fresh → ⊥) × ((s : RecoveryState) → numbered w.masters q ≡ Some (Recovering s) → (r : Replayed) × (s.phase ≡ Waiting r))
  told y due tells = by y.body (record { place = due.0; stands = due.2 }) tells
    where
      waiting : (p : RecoveryPhase) → IsWaiting p → (r : Replayed) × (p ≡ Waiting r)
      waiting (Waiting r) is = (r, refl)
      waiting (Asking log requests) is = absurd is
      waiting (Storing r) is = absurd is

      by : (b : Body) → WasSent w (says y.from y.to b) → TellsRecovered o y.from y.to b
          → (numbered w.masters q ≡ Some Fresh → ⊥) × ((s : RecoveryState) → numbered w.masters q ≡ Some (Recovering s) → (r : Replayed) × (s.phase ≡ Waiting r))
      by (body.Recovered r) sent tells =
          let own = teller y.from y.to r sent tells.2 in
          let to_manager : WasSent w (says (master_node q) manager_node (body.Recovered r)) = subst (λ (x : NodeId). WasSent w (says x manager_node (body.Recovered r))) own (subst (λ (x : NodeId). WasSent w (says y.from x (body.Recovered r))) tells.0 sent) in (
            (λ is. (known.inv.masters (master_node q) Fresh (record { its_kind = refl; its_state = is })).untold r to_manager),
            (λ s is. waiting s.phase ((known.inv.masters (master_node q) (Recovering s) (record { its_kind = refl; its_state = is })).told r to_manager)),
          )
      by _ sent tells = absurd tells

  pub renew_grounds : RenewGrounds w done q o
  renew_grounds =
      let b = backup_there w o.backup from_of in
      let x = witness_there w o.witness other_of in
      record {
        filled = omega (arith, ok.many_backups, known.names.shape.f);
        part = one_part;
        named = λ k a. named_by k kind.Backup (Each-at (IsOf w kind.Backup) o.backups ok.backups a.place k a.stands).0;
        backup = named_by o.backup kind.Backup from_of.0;
        b = b.0;
        its_backup = b.1.its_state;
        unfenced = let low = follows.fences o.backup.number b.0 b.1.its_state in omega (arith, low, newest);
        its_log = log_there b.0 b.1.its_state;
        apart = apart;
        witness = named_by o.witness kind.Witness other_of.0;
        x = x.0;
        its_witness = x.1.its_state;
        backups = λ y due is. let s = backup_there w y.to (there y due kind.Backup is) in (s.0, s.1.its_state);
        witnesses = λ y due is. let s = witness_there w y.to (there y due kind.Witness is) in (s.0, s.1.its_state);
        told = told;
        serial = omega (arith, follows.serial, few);
        ops = λ m is index e at.
            let serving : ServingOk w (master_node q) m = known.inv.masters (master_node q) (Serving m) (record { its_kind = refl; its_state = is }) in
            op_of known f n follows m.part e (Each-at (EntryOk w m.part) m.log serving.log.entries index e at);
      }

-- ---- a recovery can be ordered

-- a list that isn't empty has a first item
first_item : {A : Type 0} (xs : List A) → 1 ≤ length xs → (x : A) × (more : List A) × (xs ≡ x ∷ more)
first_item [] some = absurd (omega (arith, some))
first_item (x ∷ more) some = (x, more, refl)

-- a list of one is its item
only_item : {A : Type 0} (xs : List A) → length xs ≡ 1 → (x : A) × (xs ≡ x ∷ [])
only_item [] one = absurd (omega (arith, one))
only_item (x ∷ []) one = (x, refl)
only_item (x ∷ y ∷ more) one = absurd (omega (arith, one))

-- a number that stays below the last doesn't rise past it
never_past : (last before after : ℕ) → after ≤ last → rises_past last before after ≡ false
never_past last before after low = go (nat_lt before after) (nat_lt last after) refl
  where
    go : (s t : Bool) → nat_lt last after ≡ t → (s && t) ≡ false
    go s false e = grind (arith)
    go s true e = absurd (omega (arith, low, ltb-true last after e))

-- none of the numbers does
none_ends : (n k : Next) → k.epoch ≤ last_number → k.version ≤ last_number → k.master ≤ last_number
    → k.backup ≤ last_number → k.witness ≤ last_number → k.migration ≤ last_number → counter_ends n k ≡ false
none_ends n k e v m b w g =
    no_one (never_past last_number n.epoch k.epoch e) (never_past last_number n.version k.version v) (never_past last_number n.master k.master m) (never_past last_number n.backup k.backup b) (never_past last_number n.witness k.witness w) (never_past last_number n.migration k.migration g)
  where
    no_one : {a b c d e f : Bool} → a ≡ false → b ≡ false → c ≡ false → d ≡ false → e ≡ false → f ≡ false
        → (a || b || c || d || e || f) ≡ false
    no_one p q r s t u = rw (p, q, r, s, t, u) refl

module _ {w : World} (known : Known w) (f n : ℕ) (follows : Follows f w n) (few : n ≤ most_steps) (low : f ≤ 5)
    (c : PartConfig) (manager : w.manager.config.parts ≡ c ∷ []) where
  -- from the first backup and the first witness
  pub can_recover : (from : NodeId) × (other : NodeId) × CanRecover w c from other
  can_recover =
      let ok = given_ok known c manager in
      let b = first_item c.backups (omega (arith, ok.many_backups, known.names.shape.f)) in
      let x = first_item c.witnesses (omega (arith, ok.many_witnesses, known.names.shape.f)) in
      let parts : w.manager.shape.parts ≡ 1 = ap (λ (s : _). s.parts) follows.shape in
      let f_is : w.manager.shape.f ≡ f = ap (λ (s : _). s.f) follows.shape in
      let d = only_item w.manager.doing (known.names.numbers.doing ∙ parts) in
      let many : f * (n + 1) ≤ 5 * (n + 1) = at_most f (n + 1) low in (
        b.0,
        x.0,
        record {
          more = b.1;
          others = x.1;
          entry = manager;
          backups = b.2;
          witnesses = x.2;
          doing = d.0;
          does = d.1;
          masters = known.names.numbers.masters;
          stores = known.names.numbers.backups;
          counters = none_ends w.manager.next (recovers w.manager 1 (recover_order w.manager c b.0 x.0)).state.next (omega (arith, follows.epoch, few)) (omega (arith, follows.version, few)) (omega (arith, follows.master, few))
              (omega (arith, follows.backup, few, many, low, f_is)) (omega (arith, follows.witness, few, many, low, f_is)) (omega (arith, follows.migration));
          serial = omega (arith, follows.serial, few);
        },
      )
    where
      at_most : (a b : ℕ) → a ≤ 5 → a * b ≤ 5 * b
      at_most a b le = grind (arith)
