-- A migration begins, or is done: the moves of the machine.
use Rattle.std.proofs.Common.{◌≡◌, ◌≢◌, inl, inr, ℕ, zero, suc, ◌+◌, ◌<◌, ◌≤◌, ◌==◌, true, List, [], refl, ap, sym, ◌∙◌, subst, arith, Some, None}
use Rattle.std.proofs.lemmas.Bool.{eqb-true}
use Rattle.curp_base.specs.Words.{At, numbered}
use Rattle.curp_base.proofs.Lists.{Each-at, at_some, at_within, at_any}
use Rattle.curp_cmd.specs.Node.{manager_node}
use Rattle.curp_cmd.specs.declared.entry.Entry.{Entry}
use Rattle.curp_cmd.specs.declared.entry.Entry.TheVariants.{Op, Take, Give, Expire}
use Rattle.curp_cmd.specs.declared.migration.Package.{Package}
use Rattle.curp_cmd.specs.declared.node.NodeId.{NodeId}
use Rattle.curp_msg.specs.Moved.{says}
use Rattle.curp_msg.specs.declared.body.Body.TheVariants as body
use Rattle.curp_msg.specs.declared.config.PartConfig.{PartConfig}
use Rattle.curp_model.specs.Backup.{BackupState}
use Rattle.curp_model.specs.Manager.{Migration}
use Rattle.curp_model.specs.Named.{IsBackup}
use Rattle.curp_model.specs.World.{World}
use Rattle.curp_facts.specs.Entries.{EntryOk, LogOk}
use Rattle.curp_facts.specs.Facts.{HasLog, IsAdoptedNow, IsGiven, Lists, WasSent, lists_of_part}
use Rattle.curp_facts.specs.Kept.{AdoptedLog}
use Rattle.curp_facts.specs.Reach.{Reach}
use Rattle.curp_facts.specs.Said.{IsGiveFrom, StoredEntry}
use Rattle.curp_facts.specs.Known.{Known}
use Rattle.curp_law_kept.proofs.Gives.{said}
use Rattle.curp_law_linear.specs.Hashes.{Part, is_give, is_take}
use Rattle.curp_law_linear.specs.Moves.{GivenFits, MigrateFits}
use Rattle.curp_law_linear.specs.OfWorld.{line_of, moving_of, part_of}
use Rattle.curp_law_linear.specs.Ordered.{moved_number}
use Rattle.curp_law_linear.proofs.Parts.{adopted_or_none, entry_part, part_entry, part_log}
use Rattle.curp_law_runs.specs.Along.{HoldsOn}
use Rattle.curp_facts.specs.Predecessors.{Predecessors}
use Rattle.curp_law_runs.proofs.Gives.{entry_along, log_ok}
use Rattle.curp_facts.specs.Migrated.{AllStored, Migrated, TakeStored}
use Rattle.curp_facts.specs.Routes.{InWork, Routes, order_of}
use Rattle.curp_law_linear.proofs.Found.{none_any}
use Rattle.curp_cmd.proofs.Apart.{same_number}

-- ---- words

-- a migration's take and its give have its number
pub take_number_is : (number : ℕ) (e : Entry) → is_take number e ≡ true → moved_number e ≡ Some number
take_number_is number (Op r acknowledged) is = absurd cc
take_number_is number (Take migration taken) is = ap Some (eqb-true migration number is)
take_number_is number (Give migration given) is = absurd cc
take_number_is number (Expire client) is = absurd cc

pub give_number_is : (number : ℕ) (e : Entry) → is_give number e ≡ true → moved_number e ≡ Some number
give_number_is number (Op r acknowledged) is = absurd cc
give_number_is number (Take migration taken) is = absurd cc
give_number_is number (Give migration given) is = ap Some (eqb-true migration number is)
give_number_is number (Expire client) is = absurd cc

module _ {w : World} (known : Known w) where
  -- the entry of the configuration of each partition
  pub entry_here : (l : Lists) → IsGiven w l → (c : PartConfig) × IsAdoptedNow w c × (c.part ≡ l.part)
  entry_here l given = go l.part (known.names.given l given).part.0 (known.names.given l given).part.1
    where
      go : (n : ℕ) → 1 ≤ n → n ≤ w.manager.shape.parts → (c : PartConfig) × IsAdoptedNow w c × (c.part ≡ n)
      go zero low high = absurd (omega (arith, low))
      go (suc k) low high =
          let found = at_some w.manager.config.parts k (omega (arith, high, known.names.numbers.parts)) in
          let its : found.0.part ≡ suc k = omega (arith, known.names.entries k found.0 found.1) in
          (found.0, subst (λ (n : ℕ). numbered w.manager.config.parts n ≡ Some found.0) (sym its) found.1, its)

  -- an adopted log is a log of its partition
  pub adopted_ok : (c : PartConfig) (l : AdoptedLog w c) → LogOk w c.part l.its.log
  adopted_ok c l = log_ok known.names known.inv (lists_of_part c) (known.names.top c l.now).was.given l.its l.its_log

  pub adopted_entry : (c : PartConfig) (l : AdoptedLog w c) (k : ℕ) (e : Entry) → At l.its.log k e → EntryOk w c.part e
  adopted_entry c l k e at = Each-at (EntryOk w c.part) l.its.log (adopted_ok c l).entries k e at

  module _ (routes : Routes w) where
    -- the numbers of migrations in logs were given
    entry_below : (part : ℕ) (e : Entry) → EntryOk w part e → (number : ℕ) → moved_number e ≡ Some number → number < w.manager.next.migration
    entry_below part (Op r acknowledged) ok number is = absurd cc
    entry_below part (Take migration taken) ok number is =
        let same : migration ≡ number = cc (is) in
        omega (arith, same, ok.0.its_number, (routes.takes_given part ok.0.order ok.0.ordered).1)
    entry_below part (Give migration given) ok number is =
        let same : migration ≡ number = cc (is) in
        omega (arith, same, (routes.gives_given part (record { migration = migration; «package» = given }) ok.0).1)
    entry_below part (Expire client) ok number is = absurd cc

    -- so those that weren't are in none
    none_numbered : (number : ℕ) → w.manager.next.migration ≤ number → (n : ℕ) (p : Part) → numbered (line_of w).parts n ≡ Some p → (k : ℕ) (e : Entry) → At p.log k e → moved_number e ≡ Some number → ⊥
    none_numbered number high n p here k e at is =
        let o = part_entry known n p here in
        let stands : At (part_of w o.0).log k e = subst (λ (q : Part). At q.log k e) o.3 at in
        elim (adopted_or_none known o.0 o.1) [
          | inl l ↦ let low = entry_below o.0.part e (adopted_entry o.0 l k e (subst (λ (es : List Entry). At es k e) (part_log known o.0 l) stands)) number is in omega (arith, low, high)
          | inr none ↦ nothing k e (subst (λ (es : List Entry). At es k e) none stands)
        ]
      where
        nothing : (i : ℕ) (d : Entry) → At {A = Entry} [] i d → ⊥
        nothing i d h = cc

    -- a migration under a new number may begin
    pub migrate_fits : (m : Migration) → w.manager.moving ≡ None → m.number ≡ w.manager.next.migration → m.source ≢ m.target → MigrateFits (line_of w) m
    migrate_fits m none number apart = record {
      none = ap moving_of none;
      untaken = λ k q here. none_any (is_take m.number) q.log (λ i e at is. none_numbered m.number (omega (arith, number)) k q here i e at (take_number_is m.number e is));
      ungiven = λ k q here. none_any (is_give m.number) q.log (λ i e at is. none_numbered m.number (omega (arith, number)) k q here i e at (give_number_is m.number e is));
      other = apart;
    }

    module _ (chain : Predecessors w) (migrated : Migrated w) where
      -- an entry that is stored stands in the adopted log of its partition, on each of its backups
      pub told_adopted : (from : NodeId) (Is : Entry → Type 0) (s : StoredEntry w from Is) → (c : PartConfig) × (l : AdoptedLog w c) × (k : ℕ) × At l.its.log k s.entry × AllStored w c (k + 1)
      told_adopted from Is s =
          let o = entry_here s.lists s.adopted.given in
          let top = known.names.top o.0 o.1 in
          let has : HasLog w s.lists.master s.l = subst (λ (node : NodeId). HasLog w node s.l) (sym s.its_master) s.its_log in
          let reach : Reach w s.lists.master s.lists.version (s.index + 1) = subst (λ (node : NodeId). Reach w node s.lists.version (s.index + 1)) (sym s.its_master) s.reach in
          let within = at_within s.l.log s.index s.entry s.stands in
          let h : HoldsOn w (lists_of_part o.0) (λ (log : List Entry). At log s.index s.entry)
          = entry_along known.names known.inv chain s.lists s.adopted s.l has (s.index + 1) (omega (arith, within)) reach s.index s.entry (omega arith) s.stands (lists_of_part o.0) top.was o.2 (top.versions s.lists s.adopted (sym o.2)) in (
            o.0,
            record { now = o.1; its = h.its; its_log = h.its_log },
            s.index,
            h.in_log,
            λ node named b is. let at = Each-at (λ node. (b : BackupState) → IsBackup w node b → At b.log s.index s.entry) o.0.backups h.on_all named.place node named.stands b is in omega (arith, at_within b.log s.index s.entry at),
          )

      -- a migration of which its give was told is done
      pub given_fits : (m : Migration) → w.manager.moving ≡ Some m → (from : NodeId) → WasSent w (says from manager_node (body.Given m.number)) → (k : Migration) → moving_of (Some m) ≡ Some k → GivenFits (line_of w) k
      given_fits m in_work from sent k stripped = go (said known from manager_node (body.Given m.number) sent).0
        where
          way : InWork w m
          way = routes.in_work m in_work

          same_numbers : (k.number ≡ m.number) × (k.source ≡ m.source) × (k.target ≡ m.target)
          same_numbers = let is : record m { moved = None } ≡ k = cc (stripped) in (ap (λ (x : Migration). x.number) (sym is), ap (λ (x : Migration). x.source) (sym is), ap (λ (x : Migration). x.target) (sym is))

          by_give : (c : PartConfig) (l : AdoptedLog w c) (i number : ℕ) (brought : Package) → At l.its.log i (Give number brought) → m.number ≤ number → GivenFits (line_of w) k
          by_give c l i number brought at low =
              let ok = adopted_entry c l i (Give number brought) at in
              let same : number ≡ m.number = omega (arith, low, entry_below c.part (Give number brought) ok number refl, way.last) in
              let target : c.part ≡ k.target = way.to_target c.part (record { migration = number; «package» = brought }) ok.0 same ∙ sym same_numbers.2 in
              let t : TakeStored w number brought = migrated.given c l i number brought at in
              let taken = adopted_entry t.source t.its t.index (Take number brought) t.stands in
              let source : t.source.part ≡ k.source = (routes.one_source t.source.part m.source taken.0.order (order_of m) taken.0.ordered way.ordered (taken.0.its_number ∙ same)).0 ∙ sym same_numbers.1 in
              record {
                in_work = ap moving_of in_work ∙ stripped;
                source = part_of w t.source;
                its_source = subst (λ (n : ℕ). numbered (line_of w).parts n ≡ Some (part_of w t.source)) source (entry_part known t.source t.its.now);
                taken = at_any (is_take k.number) (part_of w t.source).log t.index (Take number brought) (subst (λ (es : List Entry). At es t.index (Take number brought)) (sym (part_log known t.source t.its)) t.stands)
                    (subst (λ (n : ℕ). (number == n) ≡ true) (same ∙ sym same_numbers.0) (same_number number));
                target = part_of w c;
                its_target = subst (λ (n : ℕ). numbered (line_of w).parts n ≡ Some (part_of w c)) target (entry_part known c l.now);
                given = at_any (is_give k.number) (part_of w c).log i (Give number brought) (subst (λ (es : List Entry). At es i (Give number brought)) (sym (part_log known c l)) at)
                    (subst (λ (n : ℕ). (number == n) ≡ true) (same ∙ sym same_numbers.0) (same_number number));
              }

          go : StoredEntry w from (IsGiveFrom m.number) → GivenFits (line_of w) k
          go s =
              let o = told_adopted from (IsGiveFrom m.number) s in
              by_give o.0 o.1 o.2 s.is.0 s.is.1 (subst (At o.1.its.log o.2) s.is.3 o.3) s.is.2
