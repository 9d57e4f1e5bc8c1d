-- After an input to a master, in each adopted log takes and gives rise together, and each give fits at its place.
use Rattle.std.proofs.Common.{◌≡◌, ◌≢◌, inl, inr, ℕ, List, refl, ap, sym, ◌∙◌, subst, Option, Some}
use Rattle.curp_base.specs.Words.{numbered}
use Rattle.curp_cmd.specs.Node.{master_node}
use Rattle.curp_cmd.specs.declared.node.NodeId.{NodeId}
use Rattle.curp_msg.specs.declared.body.Body.{Body}
use Rattle.curp_msg.specs.declared.config.PartConfig.{PartConfig}
use Rattle.curp_msg.specs.declared.message.Message.{Message}
use Rattle.curp_model.specs.Log.{log_opening}
use Rattle.curp_model.specs.Manager.{ManagerState}
use Rattle.curp_model.specs.Named.{IsMaster}
use Rattle.curp_model.specs.Ranges.{opening_range}
use Rattle.curp_model.specs.Recovery.{Fresh, MasterStage, Recovering, RecoveryState, Serving}
use Rattle.curp_model.specs.World.{World}
use Rattle.curp_facts.specs.Facts.{IsAdoptedNow, Logged, hi_of, lists_of_part, lo_of, node_log}
use Rattle.curp_facts.specs.Kept.{AdoptedLog}
use Rattle.curp_facts.specs.Known.{Known}
use Rattle.curp_law_kept.proofs.Gives.{MasterStep}
use Rattle.curp_law_linear.proofs.Lists.{some_same}
use Rattle.curp_law_linear.specs.Ordered.{AdoptedLogOk, MigrationsRise, Ordered}
use Rattle.curp_law_linear.proofs.Masters.{serving_fit, serving_rise}
use Rattle.curp_law_linear.proofs.MastersStand.{SameLog, begins_stands, fresh_stands, recovering_stands}
use Rattle.curp_law_kept.specs.GivesFit.{GivesFit}
use Rattle.curp_facts.specs.Predecessors.{Predecessors}
use Rattle.curp_facts.specs.Migrated.{Migrated}
use Rattle.curp_facts.specs.Routes.{Routes}
use Rattle.curp_cmd.proofs.Nodes.{either_node}

module _ {w v : World} (known : Known w) (chain : Predecessors w) (routes : Routes w) (migrated : Migrated w) (ordered : Ordered w) (moved : Migrated v)
    (n : ℕ) (from : NodeId) (heard : Option Body) (out : List Message) where
  module _ (m k : MasterStage) (step : MasterStep w v n from heard m k out) (d : PartConfig) (x : AdoptedLog v d) where
    before : IsAdoptedNow w d
    before = subst (λ (g : ManagerState). numbered g.config.parts d.part ≡ Some d) step.frame.manager x.now

    -- the ranges of the opening stay
    ok_of : MigrationsRise x.its.log → GivesFit (log_opening (lo_of w d.part) (hi_of w d.part)) 0 x.its.log → AdoptedLogOk v d x
    ok_of rise fit = record {
      rise = rise;
      fit = subst (λ (g : ManagerState). GivesFit (log_opening (opening_range g.shape.parts d.part).lo (opening_range g.shape.parts d.part).hi) 0 x.its.log) (sym step.frame.manager) fit;
    }

    -- a log that the world before it had
    old_ok : (l : AdoptedLog w d) → x.its.log ≡ l.its.log → AdoptedLogOk v d x
    old_ok l same =
        let o = ordered.logs d l in
        ok_of (subst MigrationsRise (sym same) o.rise) (subst (GivesFit (log_opening (lo_of w d.part) (hi_of w d.part)) 0) (sym same) o.fit)

    other_ok : d.master ≢ master_node n → AdoptedLogOk v d x
    other_ok other =
        let is : IsMaster w d.master x.its_log.m = step.others d.master x.its_log.m other x.its_log.is in
        old_ok (record { now = before; its = x.its; its_log = record { m = x.its_log.m; is = is; its_log = x.its_log.its_log } }) refl

    module _ (its : d.master ≡ master_node n) where
      has : node_log k ≡ Some x.its
      has =
          let there : IsMaster v (master_node n) x.its_log.m = subst (λ (y : NodeId). IsMaster v y x.its_log.m) its x.its_log.is in
          let same : k ≡ x.its_log.m = some_same (sym step.is.its_state ∙ there.its_state) in
          ap node_log same ∙ x.its_log.its_log

      -- its own, where it stays
      own_ok : SameLog m k → AdoptedLogOk v d x
      own_ok same =
          let l = same.logged x.its has in
          old_ok (record { now = before; its = l.0; its_log = record { m = m; is = subst (λ (y : NodeId). IsMaster w y m) (sym its) step.was; its_log = l.1 } }) l.2

  own : (m k : MasterStage) (step : MasterStep w v n from heard m k out) (d : PartConfig) (x : AdoptedLog v d) → d.master ≡ master_node n → AdoptedLogOk v d x
  own Fresh Fresh step d x its = let none = has Fresh Fresh step d x its in absurd cc
  own Fresh (Recovering t) step d x its =
      own_ok Fresh (Recovering t) step d x its (fresh_stands known chain n t (ap (λ (s : RecoveryState). node_log (Recovering s)) step.move.asks))
  own Fresh (Serving k) step d x its = let none = step.move in elim none [ ]
  own (Recovering s) Fresh step d x its = let none = step.move in elim none [ ]
  own (Recovering s) (Recovering t) step d x its =
      own_ok (Recovering s) (Recovering t) step d x its (recovering_stands known chain n (lists_of_part d) (known.names.top d (before (Recovering s) (Recovering t) step d x)).was its s t step.was from heard out step.move)
  own (Recovering s) (Serving k) step d x its =
      own_ok (Recovering s) (Serving k) step d x its (begins_stands known chain n s k from heard out step.move)
  own (Serving m) Fresh step d x its = let none = step.move in elim none [ ]
  own (Serving m) (Recovering t) step d x its = let none = step.move in elim none [ ]
  own (Serving m) (Serving k) step d x its =
      let now = before (Serving m) (Serving k) step d x in
      let same : k.log ≡ x.its.log = ap (λ (l : Logged). l.log) (some_same (has (Serving m) (Serving k) step d x its)) in
      ok_of (Serving m) (Serving k) step d x
      (subst MigrationsRise same (serving_rise known chain routes migrated ordered moved n from heard out m k step d now its))
      (subst (GivesFit (log_opening (lo_of w d.part) (hi_of w d.part)) 0) same (serving_fit known chain routes migrated ordered moved n from heard out m k step d now its))

  -- each adopted log after it
  pub master_logs : (m k : MasterStage) → MasterStep w v n from heard m k out → (d : PartConfig) (x : AdoptedLog v d) → AdoptedLogOk v d x
  master_logs m k step d x = elim (either_node d.master (master_node n)) [
    | inl same ↦ own m k step d x same
    | inr apart ↦ other_ok m k step d x apart
  ]
