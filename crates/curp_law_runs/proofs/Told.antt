-- A give that was told stands on each backup of the adopted list of its partition.
use Rattle.std.proofs.Common.{◌≡◌, inl, inr, ℕ, ap, sym, ◌∙◌, subst, arith}
use Rattle.curp_base.specs.Words.{At, Each}
use Rattle.curp_base.proofs.Lists.{Each-at, Each-from_at, at_within, prefix_back}
use Rattle.curp_cmd.specs.declared.entry.Entry.{Entry}
use Rattle.curp_cmd.specs.declared.entry.Entry.TheVariants.{Give}
use Rattle.curp_cmd.specs.declared.node.NodeId.{NodeId}
use Rattle.curp_msg.specs.Moved.{says}
use Rattle.curp_msg.specs.declared.body.Body.TheVariants as body
use Rattle.curp_msg.specs.declared.config.PartConfig.{PartConfig}
use Rattle.curp_model.specs.Backup.{BackupState}
use Rattle.curp_model.specs.Named.{IsBackup}
use Rattle.curp_model.specs.World.{World}
use Rattle.curp_facts.specs.Entries.{EntryOk}
use Rattle.curp_facts.specs.Facts.{FromPart, GiveStands, IsAmong, OnAdopted, WasSent, lists_of_part}
use Rattle.curp_facts.specs.Said.{GiveWasOrdered, IsGiveFrom, StoredEntry}
use Rattle.curp_facts.specs.Names.{Names}
use Rattle.curp_facts.specs.Invariant.{Invariant}
use Rattle.curp_law_runs.specs.GivenStand.{GivenStand}
use Rattle.curp_facts.specs.Predecessors.{Predecessors}
use Rattle.curp_law_runs.proofs.Logs.{begins, has_home}
use Rattle.curp_law_runs.proofs.Words.{said}
use Rattle.curp_facts.specs.Routes.{IsGiveOf, Routes}
use Rattle.curp_facts.specs.Stored.{StoredNow}
use Rattle.curp_law_runs.proofs.Migrated.{work_or_done}
use Rattle.curp_law_runs.proofs.Stored.{place_in_prefix, one_entry, stored_now}

module _ {w : World} (names : Names w) (inv : Invariant w) (chain : Predecessors w) (routes : Routes w) where
  -- an entry that a master has stored stands on each backup of the adopted list of its partition
  on_adopted : (from : NodeId) (Is : Entry → Type 0) (s : StoredEntry w from Is) → OnAdopted w s.lists.part (λ log. At log s.index s.entry)
  on_adopted from Is s c now its_part =
      let o : StoredNow w s.lists.part s.l.log s.index = stored_now names inv chain from Is s in
      let same : o.entry ≡ c = one_entry names o.entry c o.its.now now (o.its_part ∙ sym its_part) in
      let within = at_within s.l.log s.index s.entry s.stands in
      let in_log : At o.its.its.log s.index s.entry = place_in_prefix s.index s.l.log o.its.its.log s.index s.entry within o.prefix (omega arith) s.stands in
      subst (λ (d : PartConfig). Each (λ node. (b : BackupState) → IsBackup w node b → At b.log s.index s.entry) d.backups) same
      (Each-from_at (λ node. (b : BackupState) → IsBackup w node b → At b.log s.index s.entry) o.entry.backups (λ k node at b is.
      let named : IsAmong node o.entry.backups = record { place = k; stands = at } in
      let long = o.stored node named b is in
      prefix_back (begins names inv (lists_of_part o.entry) (names.top o.entry o.its.now).was.given o.its.its o.its.its_log node named b is) s.index s.entry (omega (arith, long)) in_log))

  -- the same of the give of a migration
  give_on : (from : NodeId) (migration : ℕ) (s : StoredEntry w from (IsGiveOf migration)) → OnAdopted w s.lists.part (GiveStands migration)
  give_on from migration s c now its_part =
      Each-from_at (λ node. (b : BackupState) → IsBackup w node b → GiveStands migration b.log) c.backups (λ k node at b is.
      (s.is.0, record { place = s.index; stands = subst (At b.log s.index) s.is.1 (Each-at (λ node. (b : BackupState) → IsBackup w node b → At b.log s.index s.entry) c.backups (on_adopted from (IsGiveOf migration) s c now its_part) k node at b is) }))

  pub given_stand : GivenStand w
  given_stand = record { stand = λ from to migration sent l given master c now its_part. stands from to migration sent l given master c now its_part }
    where
      exact : (from : NodeId) (migration : ℕ) (s : StoredEntry w from (IsGiveFrom migration)) → s.is.0 ≡ migration → StoredEntry w from (IsGiveOf migration)
      exact from migration s same = record {
        lists = s.lists;
        adopted = s.adopted;
        its_master = s.its_master;
        l = s.l;
        its_log = s.its_log;
        index = s.index;
        entry = s.entry;
        stands = s.stands;
        is = (s.is.1, s.is.3 ∙ ap (λ (n : ℕ). Give n s.is.1) same);
        reach = s.reach;
      }

      stands : (from to : NodeId) (migration : ℕ) → WasSent w (says from to (body.Given migration)) → FromPart w from (λ n. OnAdopted w n (GiveStands migration))
      stands from to migration sent l given master c now its_part =
          let ok = said inv from to (body.Given migration) sent in
          let s : StoredEntry w from (IsGiveFrom migration) = ok.0 in
          let ordered : GiveWasOrdered w from migration = ok.1 in
          let numbers = routes.gives_given ordered.part ordered.parcel ordered.ordered in
          let home_of = has_home inv from s.l s.its_log in
          let at = subst (At s.l.log s.index) s.is.3 s.stands in
          let entry : EntryOk w home_of.0.part (Give s.is.0 s.is.1) = Each-at (EntryOk w home_of.0.part) s.l.log home_of.3.entries s.index (Give s.is.0 s.is.1) at in
          let below = routes.gives_given home_of.0.part _ entry.0 in
          let part : l.part ≡ ordered.part = ((names.agree l ordered.its_part.lists given ordered.its_part.given).by_master (master ∙ sym ordered.its_part.its_master)).0 ∙ ordered.its_part.its_part in
          elim (work_or_done names inv chain routes migration (omega (arith, numbers.0, ordered.its_number)) (omega (arith, numbers.1, ordered.its_number))) [
            | inl work ↦
                let last = (routes.in_work work.0 work.1).last in
                let e = exact from migration s (omega (arith, s.is.2, below.1, last, work.2)) in
                give_on from migration e c now (its_part ∙ ((names.agree l s.lists given s.adopted.given).by_master (master ∙ sym s.its_master)).0)
            | inr done ↦
                let its = has_home inv done.target done.given.l done.given.its_log in
                let there = subst (At done.given.l.log done.given.index) done.given.is.1 done.given.stands in
                let other : EntryOk w its.0.part (Give migration done.given.is.0) = Each-at (EntryOk w its.0.part) done.given.l.log its.3.entries done.given.index (Give migration done.given.is.0) there in
                let target : ordered.part ≡ its.0.part = routes.one_target ordered.part its.0.part ordered.parcel _ ordered.ordered other.0 ordered.its_number in
                let same : its.0.part ≡ done.given.lists.part = ((names.agree its.0 done.given.lists its.1 done.given.adopted.given).by_master (its.2 ∙ sym done.given.its_master)).0 in
                give_on done.target migration done.given c now (its_part ∙ part ∙ target ∙ same)
          ]
