use Rattle.std.proofs.Common.{◌≡◌, ◌≢◌, ◌↔◌, ℕ, true, subst, IfOk, OnErr, OnOk}
use Rattle.curp_law_linear.specs.Line.{StandsIn}
use Rattle.curp_law_linear.specs.Grows.{completed_in_order}
use Rattle.curp_model.specs.Causes.{IsLight, IsRunning, IsSent, IsThere, SparesManager}
use Rattle.curp_model.specs.World as world
use Rattle.curp_model.specs.World.{World}
use Rattle.curp_msg.specs.declared.outcome.Outcome.{Outcome}
use Rattle.curp_msg.specs.declared.outcome.StepResult.{StepResult}
use Rattle.curp_msg.specs.declared.outcome.StepResult.TheVariants.{Done, Full, Gone, Manager, NoMessage, NoNode, Refused}
use Rattle.curp_world.proofs.Runs.{by_cause, grows_after, outcome_after, reached_after, same_after, state_after}
use Rattle.curp_world.proofs.world.World.step.Goals as goal

pub invariant_of-self : goal.invariant_of-self
invariant_of-self c =
    reached_after c.step.result c.self.inside.cluster c.step.new.self c.args.step.now c.names_its_keys.ensures c.self.invariant c.step.ensures

pub returns-clause-state : goal.returns-clause-state
returns-clause-state c =
    subst (λ (w : World). OnOk c.step.result (c.step.new.self ≡ (world.step w c.args.step.now).world)) c.self.view_is
    (state_after c.step.result c.self.inside.cluster c.step.new.self (world.step c.self.inside.cluster c.args.step.now) c.step.ensures)

pub returns-clause-outcome : goal.returns-clause-outcome
returns-clause-outcome c =
    subst (λ (w : World). IfOk c.step.result (λ (o : Outcome). o ≡ (world.step w c.args.step.now).outcome)) c.self.view_is
    (outcome_after c.step.result c.self.inside.cluster c.step.new.self (world.step c.self.inside.cluster c.args.step.now) c.step.ensures)

pub returns-clause-err : goal.returns-clause-err
returns-clause-err c =
    subst (λ (w : World). OnErr c.step.result (c.step.new.self ≡ w)) c.self.view_is
    (same_after c.step.result c.self.inside.cluster c.step.new.self (world.step c.self.inside.cluster c.args.step.now) c.step.ensures)

pub returns-clause-no_message : goal.returns-clause-no_message
returns-clause-no_message c =
    let w = c.self.inside.cluster in
    let s = c.args.step.now in
    let law = c.results_have_causes.ensures in
    subst (λ (w : World). IfOk c.step.result (λ (o : Outcome). (o.result ≡ NoMessage) ↔ (world.is_lost w s ≡ true))) c.self.view_is
    (by_cause c.step.result w s (λ (x : StepResult). (x ≡ NoMessage) ↔ (world.is_lost w s ≡ true)) (law.result w s)
    (outcome_after c.step.result w c.step.new.self (world.step w s) c.step.ensures) (law.no_message w s))

pub returns-clause-no_node : goal.returns-clause-no_node
returns-clause-no_node c =
    let w = c.self.inside.cluster in
    let s = c.args.step.now in
    let law = c.results_have_causes.ensures in
    subst (λ (w : World). IfOk c.step.result (λ (o : Outcome). (o.result ≡ NoNode) ↔ (IsSent w s × (world.names_nobody w s ≡ true)))) c.self.view_is
    (by_cause c.step.result w s (λ (x : StepResult). (x ≡ NoNode) ↔ (IsSent w s × (world.names_nobody w s ≡ true))) (law.result w s)
    (outcome_after c.step.result w c.step.new.self (world.step w s) c.step.ensures) (law.no_node w s))

pub returns-clause-grows : goal.returns-clause-grows
returns-clause-grows c =
    subst (λ (w : World). StandsIn (completed_in_order w) (completed_in_order c.step.new.self)) c.self.view_is
    (grows_after c.step.result c.self.inside.cluster c.step.new.self c.args.step.now c.names_its_keys.ensures c.self.invariant c.order_grows.ensures.grows
    c.step.ensures)

pub returns-clause-manager : goal.returns-clause-manager
returns-clause-manager c =
    let w = c.self.inside.cluster in
    let s = c.args.step.now in
    let law = c.results_have_causes.ensures in
    subst (λ (w : World). IfOk c.step.result (λ (o : Outcome). (o.result ≡ Manager) ↔ (IsThere w s × (world.stops_manager s ≡ true)))) c.self.view_is
    (by_cause c.step.result w s (λ (x : StepResult). (x ≡ Manager) ↔ (IsThere w s × (world.stops_manager s ≡ true))) (law.result w s) (outcome_after c.step.result w c.step.new.self (world.step w s) c.step.ensures) (law.manager w s))

pub returns-clause-gone : goal.returns-clause-gone
returns-clause-gone c =
    let w = c.self.inside.cluster in
    let s = c.args.step.now in
    let law = c.results_have_causes.ensures in
    subst (λ (w : World). IfOk c.step.result (λ (o : Outcome). (o.result ≡ Gone) ↔ (SparesManager w s × (world.names_stopped w s ≡ true)))) c.self.view_is
    (by_cause c.step.result w s (λ (x : StepResult). (x ≡ Gone) ↔ (SparesManager w s × (world.names_stopped w s ≡ true))) (law.result w s) (outcome_after c.step.result w c.step.new.self (world.step w s) c.step.ensures) (law.gone w s))

pub returns-clause-full : goal.returns-clause-full
returns-clause-full c =
    let w = c.self.inside.cluster in
    let s = c.args.step.now in
    let law = c.results_have_causes.ensures in
    subst (λ (w : World). IfOk c.step.result (λ (o : Outcome). (much : ℕ) → (o.result ≡ Full much)
    ↔ (IsRunning w s × (world.is_too_much w (world.deed_of w s) ≡ true) × (much ≡ world.weight w)))) c.self.view_is
    (by_cause c.step.result w s (λ (x : StepResult). (much : ℕ) → (x ≡ Full much)
    ↔ (IsRunning w s × (world.is_too_much w (world.deed_of w s) ≡ true) × (much ≡ world.weight w))) (law.result w s) (outcome_after c.step.result w c.step.new.self (world.step w s) c.step.ensures) (law.full w s))

pub returns-clause-refused : goal.returns-clause-refused
returns-clause-refused c =
    let w = c.self.inside.cluster in
    let s = c.args.step.now in
    let law = c.results_have_causes.ensures in
    subst (λ (w : World). IfOk c.step.result (λ (o : Outcome). (number : ℕ) → (o.result ≡ Refused number)
    ↔ (IsLight w s × (world.refusal w s ≢ 0) × (number ≡ world.refusal w s)))) c.self.view_is
    (by_cause c.step.result w s (λ (x : StepResult). (number : ℕ) → (x ≡ Refused number)
    ↔ (IsLight w s × (world.refusal w s ≢ 0) × (number ≡ world.refusal w s))) (law.result w s) (outcome_after c.step.result w c.step.new.self (world.step w s) c.step.ensures) (law.refused w s))

pub returns-clause-done : goal.returns-clause-done
returns-clause-done c =
    let w = c.self.inside.cluster in
    let s = c.args.step.now in
    let law = c.results_have_causes.ensures in
    subst (λ (w : World). IfOk c.step.result (λ (o : Outcome). (o.result ≡ Done) ↔ (IsLight w s × (world.refusal w s ≡ 0)))) c.self.view_is
    (by_cause c.step.result w s (λ (x : StepResult). (x ≡ Done) ↔ (IsLight w s × (world.refusal w s ≡ 0))) (law.result w s) (outcome_after c.step.result w c.step.new.self (world.step w s) c.step.ensures) (law.done w s))
