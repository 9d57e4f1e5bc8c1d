-- The stores of the partitions together have what one thread has.
use Rattle.std.proofs.Common.{◌≡◌, ℕ, suc, true, List, take, drop, refl, ap, ap₂, ◌∙◌, subst, Some, None}
use Rattle.std.specs.FinMap as store
use Rattle.std.specs.List.{list_any}
use Rattle.std.proofs.lemmas.Bool.{false_from_ne_true}
use Rattle.curp_base.specs.Words.{At, numbered}
use Rattle.curp_base.proofs.Lists.{Each-at}
use Rattle.curp_range.specs.Spans.{is_in, is_owned}
use Rattle.curp_cmd.specs.Hash.{hash_of}
use Rattle.curp_cmd.specs.declared.entry.Entry.{Entry}
use Rattle.curp_cmd.specs.declared.entry.Entry.TheVariants.{Take}
use Rattle.curp_model.specs.Log.{meaning}
use Rattle.curp_model.specs.Manager.{Migration}
use Rattle.curp_model.specs.World.{World}
use Rattle.curp_facts.specs.Entries.{EntryOk, LogOk}
use Rattle.curp_facts.specs.Facts.{hi_of, lo_of}
use Rattle.curp_facts.specs.Kept.{OnItsWay, StoresTogether}
use Rattle.curp_facts.specs.Known.{Known}
use Rattle.curp_law_linear.specs.Hashes.{is_give}
use Rattle.curp_law_linear.specs.Moves.{IsOnItsWay}
use Rattle.curp_law_linear.specs.OfWorld.{line_of, moving_of, part_of}
use Rattle.curp_law_linear.proofs.Discharged.{pure}
use Rattle.curp_law_linear.proofs.Lists.{take_split}
use Rattle.curp_base.proofs.Numbered.{any_at}
use Rattle.curp_law_linear.proofs.Stores.{carried_store, owned_store}
use Rattle.curp_law_linear.specs.Ordered.{Ordered}
use Rattle.curp_law_linear.proofs.MastersRise.{TakeOfWork, adopted_ok, standing, take_of_work}
use Rattle.curp_law_linear.proofs.Parts.{entry_part, line_logs, part_log}
use Rattle.curp_law_linear.proofs.TakenRanges.{covered_before, quiet_behind}
use Rattle.curp_law_kept.proofs.Gives.{take_package}
use Rattle.curp_facts.specs.Predecessors.{Predecessors}
use Rattle.curp_facts.specs.Migrated.{Migrated}
use Rattle.curp_facts.specs.Routes.{InWork, Routes}
use Rattle.curp_law_linear.proofs.Entries.{give_entry}

module _ {w : World} (known : Known w) (chain : Predecessors w) (routes : Routes w) (migrated : Migrated w) (ordered : Ordered w) where
  -- the package of a hash on its way is one that the machine carries
  module _ (h : ℕ) (o : OnItsWay w h) where
    abbrev in_work : Migration
    in_work = record o.migration { moved = None }

    its : InWork w o.migration
    its = routes.in_work o.migration o.in_work

    log_is : LogOk w o.source.part o.source_log.its.log
    log_is = adopted_ok known chain routes migrated ordered o.source o.source_log

    of : TakeOfWork known chain routes migrated ordered o.source.part o.migration o.carried
    of = take_of_work known chain routes migrated ordered o.source.part o.migration.number o.carried o.migration o.in_work refl
        (Each-at (EntryOk w o.source.part) o.source_log.its.log log_is.entries o.taken.place (Take o.migration.number o.carried) o.taken.stands)

    within : (k : ℕ) → is_in o.migration.range.lo o.migration.range.hi k ≡ true → is_in o.carried.lo o.carried.hi k ≡ true
    within k inside = ap₂ (λ (x y : ℕ). is_in x y k) of.lo of.hi ∙ inside

    way : IsOnItsWay (line_of w).parts in_work o.carried
    way = record {
      source = part_of w o.source;
      its_source = subst (λ (n : ℕ). numbered (line_of w).parts n ≡ Some (part_of w o.source)) of.its_source (entry_part known o.source o.source_log.now);
      before = take o.taken.place o.source_log.its.log;
      after = drop (suc o.taken.place) o.source_log.its.log;
      taken = part_log known o.source o.source_log ∙ take_split o.source_log.its.log o.taken.place (Take o.migration.number o.carried) o.taken.stands;
      lo = of.lo;
      hi = of.hi;
      its_package = take_package (lo_of w o.source.part) (hi_of w o.source.part) o.source_log.its.log o.taken.place o.migration.number o.carried log_is.is_log o.taken.stands;
      covered = λ k inside. covered_before known chain routes migrated ordered o.source o.source_log o.taken.place o.migration.number o.carried o.taken.stands its.last k (within k inside);
      quiet = λ k inside. quiet_behind known chain routes migrated ordered o.source o.source_log o.taken.place o.migration.number o.carried o.taken.stands its.last k (within k inside);
      ungiven = λ n q here. false_from_ne_true (list_any (is_give o.migration.number) q.log) (λ found.
          let a = any_at (is_give o.migration.number) q.log found in
          let g = give_entry o.migration.number a.1 a.3 in
          let x = standing known chain routes migrated ordered n q a.0 a.1 here a.2 in
          o.nowhere x.0 x.1 g.0 (record { place = a.0; stands = subst (At x.1.its.log a.0) g.1 x.3 }));
    }

  -- the stores together have what one thread has
  pub stores_kept : StoresTogether w
  stores_kept = record {
    owned = λ key o.
        let log : (part_of w o.owner).log ≡ o.owner_log.its.log = part_log known o.owner o.owner_log in
        owned_store pure (line_of w) (line_logs known ordered) ordered.line o.owner.part (part_of w o.owner) (entry_part known o.owner o.owner_log.now) key
        (ap (λ (es : List Entry). is_owned (meaning (lo_of w o.owner.part) (hi_of w o.owner.part) es).owned (hash_of key)) log ∙ o.owns)
        ∙ ap (λ (es : List Entry). store.get (meaning (lo_of w o.owner.part) (hi_of w o.owner.part) es).store key) log;
    moving = λ key o.
        carried_store pure (line_of w) (line_logs known ordered) ordered.line (in_work (hash_of key) o) (ap moving_of o.in_work) o.carried (way (hash_of key) o) key o.inside;
  }
