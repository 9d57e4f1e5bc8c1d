-- A capture that waits is that of a look, or was passed by, one step later too.
use Rattle.std.proofs.Common.{◌≡◌, ◌⊎◌, inl, inr, ℕ, ◌<◌, ◌≤◌, List, length, refl, ap, sym, ◌∙◌, subst, arith, Option, Some, None, true}
use Rattle.std.proofs.lemmas.Bool.{cases_lt}
use Rattle.curp_cmd.specs.declared.entry.Entry.{Entry}
use Rattle.curp_cmd.specs.declared.node.NodeId.{NodeId}
use Rattle.curp_msg.specs.Moved.{says}
use Rattle.curp_msg.specs.declared.answer.AppendAnswer.TheVariants.{Stored}
use Rattle.curp_msg.specs.declared.body.Appended.{Appended}
use Rattle.curp_msg.specs.declared.body.Body.TheVariants as body
use Rattle.curp_model.specs.Backup.{BackupState}
use Rattle.curp_model.specs.Master.{Captured, MasterState, from_backup}
use Rattle.curp_model.specs.Named.{IsBackup, IsWitness}
use Rattle.curp_model.specs.World.{World}
use Rattle.curp_facts.specs.Facts.{ByRecovery, Lists, WasAdopted, WasSent, lists_of_order}
use Rattle.curp_facts.specs.Growth.{BackupGrows}
use Rattle.curp_facts.specs.Kept.{NeverSoLate, PassedBy, lists_of_master}
use Rattle.curp_facts.specs.Nodes.{BackupOk}
use Rattle.curp_facts.specs.Known.{Known}
use Rattle.curp_law_linear.specs.Line.{LookGives}
use Rattle.curp_law_linear.specs.Ordered.{CaptureOk, Ordered}
use Rattle.curp_law_linear.specs.Refined.{Refines}
use Rattle.curp_law_linear.proofs.ReadsMoves.{NoneDrops, look_later}
use Rattle.curp_facts.specs.Names.{RecoverOrderOk}
use Rattle.curp_model.specs.Witness.{WitnessState}
use Rattle.curp_msg.specs.declared.body.Probed.{Probed}
use Rattle.curp_model.specs.declared.Mode.TheVariants as mode
use Rattle.curp_law_kept.proofs.Gives.{Follows, adopted_stays, backup_later, sent_later}

-- lists that are adopted now are of no earlier epoch than those of their partition that were
abbrev pub NewerLists : World → World → Type 0
NewerLists w v = (l : Lists) → WasAdopted v l → WasAdopted w l ⊎ ((k : Lists) → WasAdopted w k → k.part ≡ l.part → k.epoch ≤ l.epoch)

-- a backup that is fenced above an epoch says no more that it has stored what comes of that epoch
abbrev pub NoneLate : World → World → Type 0
NoneLate w v = (node to : NodeId) (b : BackupState) (a : Appended) (long : ℕ) → IsBackup w node b → a.epoch < b.fence → a.answer ≡ Stored long
    → WasSent v (says node to (body.Appended a)) → WasSent w (says node to (body.Appended a))

-- a frozen witness says no more that it is live
abbrev pub NoneLives : World → World → Type 0
NoneLives w v = (node to : NodeId) (x : WitnessState) (a : Probed) → IsWitness w node x → x.mode ≡ mode.Frozen → a.live ≡ true
    → WasSent v (says node to (body.Probed a)) → WasSent w (says node to (body.Probed a))

-- what a master knows of the backup is not of so late a round
abbrev pub KnowsNoLater : MasterState → Captured → NodeId → Type 0
KnowsNoLater k c node = (from_backup k.acknowledged node).round < c.round

module _ {w v : World} (known : Known w) (s : Follows w v) where
  module _ (l : Lists) (m : MasterState) (c : Captured) (p : PassedBy w l m c) where
    its : RecoverOrderOk w p.later.master p.order
    its = known.names.manager_says p.later.master (body.Recover p.order) p.ordered

    same : (p.order.part ≡ p.later.part) × (p.order.epoch ≡ p.later.epoch)
    same = (known.names.agree (lists_of_order p.later.master p.order) p.later (ByRecovery p.later.master p.order p.ordered) p.adopted.given).by_master refl

    -- the backup that was named is at home in an epoch that isn't later
    home_low : its.before.epoch ≤ l.epoch
    home_low = elim (cases_lt l.epoch its.before.epoch) [
      | inl above ↦ let low = p.first its.before its.was (its.its_part ∙ same.0 ∙ p.its_part) above in absurd (omega (arith, low, its.earlier, same.1))
      | inr low ↦ omega (arith, low)
    ]

    at_home : BackupOk w its.before p.b
    at_home = known.inv.backups its.before its.was.given p.order.backup its.its_backup p.b p.is

    -- so its log stays
    log_stays : (b : BackupState) → BackupGrows p.b b → b.log ≡ p.b.log
    log_stays b grows = go p.b.installed refl
      where
        go : (o : Option ℕ) → p.b.installed ≡ o → b.log ≡ p.b.log
        go None is = grows.absent is
        go (Some e) is = grows.fenced e is (omega (arith, at_home.installed e is, home_low, p.fenced))

    -- what was passed by stays so
    pub passed_later : NewerLists w v → NoneLate w v → (k : Lists) → k.part ≡ l.part → k.epoch ≡ l.epoch → k.master ≡ l.master → (x : MasterState)
        → (NeverSoLate w l m c p.order.backup → KnowsNoLater x c p.order.backup) → PassedBy v k x c
    passed_later newer late k part epoch master x knows =
        let o = backup_later s p.order.backup p.b p.is in
        record {
          later = p.later;
          adopted = adopted_stays s p.adopted;
          its_part = p.its_part ∙ sym part;
          above = omega (arith, p.above, epoch);
          first = λ other was its_part above. elim (newer other was) [
            | inl before ↦ p.first other before (its_part ∙ part) (omega (arith, above, epoch))
            | inr top ↦ top p.later p.adopted (p.its_part ∙ sym part ∙ sym its_part)
          ];
          order = p.order;
          ordered = sent_later s p.ordered;
          b = o.0;
          is = o.1;
          fenced = omega (arith, p.fenced, o.2.fence, epoch);
          passed = elim p.passed [
            | inl short ↦ inl (omega (arith, short, ap (λ (es : List Entry). length es) (log_stays o.0 o.2)))
            | inr never ↦ inr (record {
              known = knows never;
              sent = λ a long sent its_epoch stored. never.sent a long
                  (subst (λ (z : NodeId). WasSent w (says p.order.backup z (body.Appended a))) master
                  (late p.order.backup k.master p.b a long p.is (omega (arith, its_epoch, epoch, p.fenced)) stored sent)) (its_epoch ∙ epoch) stored;
            })
          ];
        }

  module _ (ordered : Ordered w) (r : Refines w v) where
    -- a capture is kept so, where no move drops its look
    pub capture_later : NewerLists w v → NoneLate w v → (node : NodeId) (m x : MasterState) → x.part ≡ m.part → x.epoch ≡ m.epoch → (c : Captured)
        → ((b : NodeId) → KnowsNoLater m c b → ((a : Appended) (long : ℕ) → WasSent w (says b node (body.Appended a)) → a.epoch ≡ m.epoch → a.answer ≡ Stored long → a.round < c.round) → KnowsNoLater x c b)
        → CaptureOk w node m c → NoneDrops r.moves m.part c.length → CaptureOk v node x c
    capture_later newer late node m x part epoch c knows ok none = elim ok [
      | inl look ↦ inl (moved (look_later ordered r _ m.part c.length c.id c.answer look none))
      | inr p ↦ inr (passed_later (lists_of_master node m) m c p newer late (lists_of_master node x) part epoch refl x (λ never. knows p.order.backup never.known never.sent))
    ]
      where
        moved : LookGives v.marks (record { master = node; epoch = m.epoch; number = c.number }) m.part c.length c.id c.answer
            → LookGives v.marks (record { master = node; epoch = x.epoch; number = c.number }) x.part c.length c.id c.answer
        moved g = record {
          place = g.place;
          mark = g.mark;
          stands = g.stands;
          its_master = g.its_master;
          its_epoch = g.its_epoch ∙ sym epoch;
          its_part = g.its_part ∙ sym part;
          its_id = g.its_id;
          is_look = g.is_look;
          gives = g.gives;
        }
