-- After an input to the manager the takes and gives of each adopted log rise together, and each give fits at its place.
use Rattle.std.proofs.Common.{◌≡◌, inl, inr, ℕ, zero, suc, List, [], ◌∷◌, ◌++◌, refl, ap, sym, ◌∙◌, subst, Option, Some, None}
use Rattle.curp_base.specs.Words.{At, IsPrefix, numbered}
use Rattle.curp_base.proofs.Lists.{at_append_cases, prefix_at}
use Rattle.curp_cmd.specs.Node.{manager_node}
use Rattle.curp_cmd.specs.declared.command.Request.{Request}
use Rattle.curp_cmd.specs.declared.entry.Entry.{Entry}
use Rattle.curp_cmd.specs.declared.entry.Entry.TheVariants.{Op, Give}
use Rattle.curp_msg.specs.Moved.{Moved}
use Rattle.curp_msg.specs.declared.config.PartConfig.{PartConfig}
use Rattle.curp_msg.specs.Input.{Input}
use Rattle.curp_order.specs.declared.Event.{Event}
use Rattle.curp_model.specs.Log.{log_opening}
use Rattle.curp_model.specs.Manager.{Attempted, ManagerState, adoption, manager_input}
use Rattle.curp_model.specs.World.{World}
use Rattle.curp_facts.specs.Kept.{AdoptedLog}
use Rattle.curp_law_kept.specs.Deeds.{IsFor}
use Rattle.curp_law_kept.specs.ManagerEffect.{ManagerEffect}
use Rattle.curp_facts.specs.Known.{Known}
use Rattle.curp_law_kept.proofs.Gives.{manager_does, NoGives, gives_fit_prefix, gives_fit_more, Later, manager_moved}
use Rattle.curp_law_linear.specs.Hashes.{Part}
use Rattle.curp_law_linear.specs.Moves.{ops, replayed_of}
use Rattle.curp_law_linear.specs.OfWorld.{entries_at, line_of, logged_entries, part_of}
use Rattle.curp_base.proofs.Numbered.{numbered_set_cases}
use Rattle.curp_law_kept.specs.GivesFit.{GivesFit}
use Rattle.curp_law_linear.specs.Ordered.{AdoptedLogOk, MigrationsRise, Ordered, moved_number}
use Rattle.curp_law_linear.proofs.Adopt.{adopted_parts}
use Rattle.curp_law_linear.proofs.AdoptDone.{adopt}
use Rattle.curp_law_linear.proofs.AdoptRecovery.{Recovery, backup_begins, recovery}
use Rattle.curp_law_linear.proofs.ManagersDeeds.{Begins, Ends, KeepsSeats, Leads, Renews, Rests, manager_leads}
use Rattle.curp_law_linear.proofs.ManagersLine.{same_seats}
use Rattle.curp_law_linear.proofs.Parts.{adopted_or_none, entry_part, numbered_mapped, part_entry, part_log}
use Rattle.curp_facts.specs.Names.{Names}
use Rattle.curp_facts.specs.Predecessors.{Predecessors}
use Rattle.curp_facts.specs.Migrated.{Migrated}
use Rattle.curp_facts.specs.Routes.{Routes}

-- takes and gives rise together, and each give fits
abbrev pub LogFits : Part → Type 0
LogFits p = MigrationsRise p.log × GivesFit (log_opening p.lo p.hi) 0 p.log

-- so it is in each partition
abbrev pub PartsFit : List Part → Type 0
PartsFit parts = (n : ℕ) (p : Part) → numbered parts n ≡ Some p → LogFits p

-- of a world, by its adopted logs
pub parts_fit : {w : World} → Known w → Ordered w → PartsFit (line_of w).parts
parts_fit {w} known ordered n p here =
    let d = part_entry known n p here in
    subst LogFits (sym d.3) (elim (adopted_or_none known d.0 d.1) [
      | inl l ↦ subst (λ (es : List Entry). LogFits (record (part_of w d.0) { log = es })) (sym (part_log known d.0 l)) ((ordered.logs d.0 l).rise, (ordered.logs d.0 l).fit)
      | inr none ↦ subst (λ (es : List Entry). LogFits (record (part_of w d.0) { log = es })) (sym none) (nothing, tt)
    ])
  where
    nothing : MigrationsRise []
    nothing j k m n d e low at to is its = absurd cc

-- and back
pub logs_fit : (v : World) → PartsFit (line_of v).parts → (d : PartConfig) (l : AdoptedLog v d) → AdoptedLogOk v d l
logs_fit v fit d l =
    let its = subst (λ (es : List Entry). LogFits (record (part_of v d) { log = es })) (ap entries_at l.its_log.is.its_state ∙ ap logged_entries l.its_log.its_log)
    (fit d.part (part_of v d) (numbered_mapped (part_of v) v.manager.config.parts d.part d l.now)) in
    record { rise = its.0; fit = its.1 }

-- ops are of no migration
ops_move_nothing : (rs : List Request) (k m : ℕ) (e : Entry) → At (ops rs) k e → moved_number e ≡ Some m → ⊥
ops_move_nothing [] k m e at is = cc
ops_move_nothing (r ∷ rs) zero m e at is = none (let same : Op r 0 ≡ e = cc (at) in subst (λ (x : Entry). moved_number x ≡ Some m) (sym same) is)
  where
    none : None ≡ Some m → ⊥
    none e = cc
ops_move_nothing (r ∷ rs) (suc k) m e at is = ops_move_nothing rs k m e at is

-- a beginning of a log that fits, with ops behind it, fits
pub prefix_fits : (p : Part) (stays : List Entry) (rs : List Request) → IsPrefix stays p.log → LogFits p → LogFits (record p { log = stays ++ ops rs })
prefix_fits p stays rs prefix fits = (rise, gives_fit_more p.lo p.hi stays (ops rs) (gives_fit_prefix stays prefix.rest (log_opening p.lo p.hi) 0 (subst (GivesFit (log_opening p.lo p.hi) 0) (sym prefix.is) fits.1)) none)
  where
    none : NoGives (ops rs)
    none k number brought at = ops_move_nothing rs k number (Give number brought) at refl

    old : (k m : ℕ) (e : Entry) → At (stays ++ ops rs) k e → moved_number e ≡ Some m → At p.log k e
    old k m e at is = elim (at_append_cases stays (ops rs) k e at) [
      | inl here ↦ prefix_at prefix k e here
      | inr new ↦ absurd (ops_move_nothing rs new.0 m e new.2 is)
    ]

    rise : MigrationsRise (stays ++ ops rs)
    rise j k m n d e low at to is its = fits.0 j k m n d e low (old j m d at is) (old k n e to its) is its

module _ {w : World} (known : Known w) (chain : Predecessors w) (routes : Routes w) (migrated : Migrated w) (ordered : Ordered w) (events : List Event) (none : events ≡ []) where
  -- the logs stay where the masters do
  steady_fits : (r : Moved ManagerState) → Later w (manager_moved w None events r) → KeepsSeats w r.state → PartsFit (line_of (manager_moved w None events r)).parts
  steady_fits r later seats = subst PartsFit (sym (same_seats w (manager_moved w None events r) r.state.next.master later.shape refl seats)) (parts_fit known ordered)

  leads_fit : (r : Moved ManagerState) → ManagerEffect w r → (o : Option Attempted) → Leads w r.state o → Names (manager_moved w o events r) → Later w (manager_moved w o events r)
      → PartsFit (line_of (manager_moved w o events r)).parts
  leads_fit r does None (Rests seats same) names later = steady_fits r later seats
  leads_fit r does None (Begins m seats free its number fresh) names later = steady_fits r later seats
  leads_fit r does None (Ends m seats its done from sent) names later = steady_fits r later seats
  leads_fit r does (Some _) (Renews a o parts moving) names later =
      let rec : Recovery w o.c a = recovery known a o in
      let prefix = backup_begins known o.c a rec in
      let rs : List Request = replayed_of (adopt known chain routes migrated ordered o.c a rec prefix) in
      let log : List Entry = rec.b.log ++ ops rs in
      let here = entry_part known o.c o.now in
      subst PartsFit (sym (adopted_parts known chain routes migrated ordered o.c a rec prefix events none r does names later parts moving))
      (λ n p at. elim (numbered_set_cases (line_of w).parts o.c.part (part_of w o.c) (record (part_of w o.c) { log = log }) here n p at) [
        | inr new ↦ subst LogFits new.1 (prefix_fits (part_of w o.c) rec.b.log rs prefix (parts_fit known ordered o.c.part (part_of w o.c) here))
        | inl old ↦ parts_fit known ordered n p old.1
      ])

  -- after whatever comes to the manager
  pub manager_logs : (given : Input) → IsFor w manager_node given
      → Names (manager_moved w (adoption w.manager given) events (manager_input w.manager given))
      → Later w (manager_moved w (adoption w.manager given) events (manager_input w.manager given))
      → (d : PartConfig) (l : AdoptedLog (manager_moved w (adoption w.manager given) events (manager_input w.manager given)) d)
      → AdoptedLogOk (manager_moved w (adoption w.manager given) events (manager_input w.manager given)) d l
  manager_logs given for names later =
      logs_fit (manager_moved w (adoption w.manager given) events (manager_input w.manager given))
      (leads_fit (manager_input w.manager given) (manager_does known given for) (adoption w.manager given) (manager_leads known.names given for) names later)
