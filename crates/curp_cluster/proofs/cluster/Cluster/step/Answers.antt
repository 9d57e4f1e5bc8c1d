use Rattle.std.proofs.Common.{sym, ◌∙◌, subst}
use Rattle.curp_msg.specs.declared.outcome.StepResult.TheVariants.{NoNode}
use Rattle.curp_cluster.specs.Given.{MakesStep}
use Rattle.curp_cluster.proofs.Keeping.{nothing_done}
use Rattle.curp_cluster.proofs.Stepping.{IsOrdered, names_nobody, orders}
use Rattle.curp_cluster.proofs.cluster.Cluster.step.Goals as goal

pub hand-requires : goal.hand-requires
hand-requires c =
    let ordered = subst (IsOrdered c.args.self.now c.args.step.now) (sym c.in_ok-to.ensures ∙ c.in-Some.is)
    (orders c.args.self.now c.args.step.now (sym c.expires_nobody.ensures ∙ c.if-expires_nobody.false)) in
    ordered.1

pub returns-in-Some : goal.returns-in-Some
returns-in-Some c =
    let ordered = subst (IsOrdered c.args.self.now c.args.step.now) (sym c.in_ok-to.ensures ∙ c.in-Some.is)
    (orders c.args.self.now c.args.step.now (sym c.expires_nobody.ensures ∙ c.if-expires_nobody.false)) in
    subst (MakesStep c.args.self.now c.hand.new.self c.hand.result) (sym ordered.0) c.hand.ensures

pub returns-then-expires_nobody : goal.returns-then-expires_nobody
returns-then-expires_nobody c =
    nothing_done c.args.self.now _ _ NoNode
    (names_nobody c.args.self.now c.args.step.now (sym c.expires_nobody.ensures ∙ c.if-expires_nobody.true)) c.silent.ensures
