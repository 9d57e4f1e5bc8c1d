-- Lists that were given and that were adopted: their versions, and that adopted ones are ready.
use Rattle.std.proofs.Common.{◌≡◌, inl, inr, ℕ, zero, suc, ◌+◌, ◌<◌, ◌≤◌, refl, ap, sym, subst, arith}
use Rattle.curp_base.specs.Words.{At, numbers_from}
use Rattle.curp_cmd.specs.Node.{manager_node}
use Rattle.curp_cmd.specs.declared.node.NodeId.{NodeId}
use Rattle.curp_msg.specs.Moved.{says}
use Rattle.curp_msg.specs.declared.body.Body.TheVariants as body
use Rattle.curp_msg.specs.declared.body.Recover.{Recover}
use Rattle.curp_msg.specs.declared.config.PartConfig.{PartConfig}
use Rattle.curp_model.specs.Manager.{opening_config, opening_part}
use Rattle.curp_model.specs.World.{World}
use Rattle.curp_facts.specs.Facts.{AtOpening, ByRecovery, ByReplacement, IsGiven, Lists, WasAdopted, WasSent, lists_of_order, lists_of_part}
use Rattle.curp_facts.specs.Invariant.{Invariant}
use Rattle.curp_facts.specs.Reach.{IsReady}
use Rattle.curp_facts.specs.Said.{AdoptedSaid}
use Rattle.curp_facts.specs.Names.{Names, RecoverOrderOk, PrepareOk}
use Rattle.curp_facts.specs.Predecessors.{Predecessors}
use Rattle.curp_law_runs.proofs.Words.{said}
use Rattle.curp_base.proofs.Lists.{at_mapped}

-- lists of the opening have the first epoch
pub opening_epoch : (w : World) (k : ℕ) (c : PartConfig) → At (opening_config w.manager.shape).parts k c → c.epoch ≡ 1
opening_epoch w k c at =
    let o = at_mapped (opening_part w.manager.shape) (numbers_from 1 w.manager.shape.parts) k c at in
    sym (ap (λ (x : PartConfig). x.epoch) o.2)

module _ {w : World} (names : Names w) where
  -- an order to recover is the first of its master's lists
  pub order_first : (l : Lists) → IsGiven w l → (o : Recover) → WasSent w (says manager_node l.master (body.Recover o)) → o.version ≤ l.version
  order_first l given o sent = go (l.version + 1) l given sent (omega arith)
    where
      -- so far as versions are below a number
      go : (n : ℕ) (l : Lists) → IsGiven w l → WasSent w (says manager_node l.master (body.Recover o)) → l.version < n → o.version ≤ l.version
      go zero l given sent low = absurd (omega (arith, low))
      go (suc n) _ (AtOpening k c at) sent low =
          let home : RecoverOrderOk w c.master o = names.manager_says c.master (body.Recover o) sent in
          let agree = names.agree (lists_of_part c) (lists_of_order c.master o) (AtOpening k c at) (ByRecovery c.master o sent) in
          let ok = names.given home.before home.was.given in
          absurd (omega (arith, opening_epoch w k c at, (agree.by_master refl).1, home.earlier, ok.epoch.0))
      go (suc n) _ (ByRecovery node q ordered) sent low = let same : o ≡ q = names.one_order node o q sent ordered in omega (arith, ap (λ (x : Recover). x.version) same)
      go (suc n) _ (ByReplacement old p before ordered) sent low =
          let ok : PrepareOk w old.master p = names.manager_says old.master (body.Prepare p) ordered in
          let first = go n ok.before ok.was.given (subst (λ (m : NodeId). WasSent w (says manager_node m (body.Recover o))) (sym ok.its_master) sent) (omega (arith, ok.older, low)) in
          omega (arith, first, ok.older)

  -- what is adopted is ready
  abbrev pub ready : Invariant w → (l : Lists) → WasAdopted w l → IsReady w l
  ready inv l was = elim was.told [
    | inl one ↦ record { given = was.given; told = inl one }
    | inr sent ↦
        let ok : AdoptedSaid w l.master (record { part = l.part; epoch = l.epoch; version = l.version })
        = said inv manager_node l.master (body.Adopted (record { part = l.part; epoch = l.epoch; version = l.version })) sent in
        subst (IsReady w) ((names.agree ok.lists l ok.ready.given was.given).by_version ok.its_master ok.its_version) ok.ready
  ]

  -- ---- along the masters of a partition

  module _ (chain : Predecessors w) where
    -- lists of an earlier epoch have a smaller version
    pub versions_rise : (k l : Lists) → WasAdopted w k → WasAdopted w l → k.part ≡ l.part → k.epoch < l.epoch → k.version < l.version
    versions_rise k l was is part earlier =
        let its = names.given k was.given in
        let p = chain l is (omega (arith, earlier, its.epoch.0)) in
        omega (arith, p.last k was part earlier, p.older, order_first l is.given p.order p.ordered)
