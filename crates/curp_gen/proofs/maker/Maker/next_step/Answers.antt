use Rattle.std.proofs.Common.{◌≡◌, ◌≤◌, ◌<◌, Bool, true, length, ap, sym, ◌∙◌, subst, arith}
use Rattle.std.specs.Prelude.{is_some, not}
use Rattle.rand_pcg.specs.Lcg.{Lcg}
use Rattle.curp_model.specs.World.{step}
use Rattle.curp_script.specs.Printed.{NamesNode}
use Rattle.curp_gen.specs.Making.{Making, choice, is_recovery_due, plus_if, with_next}
use Rattle.curp_gen.specs.declared.choice.Choice.{Choice}
use Rattle.curp_gen.proofs.Made.{plus_if_most, plus_if_within, recovery_room, state_is_next, step_is_next}
use Rattle.curp_gen.proofs.Masters.{masters_stay}
use Rattle.curp_gen.proofs.Named.{next_names_node}
use Rattle.curp_gen.proofs.maker.Maker.next_step.Goals as goal

pub invariant_of-self : goal.invariant_of-self
invariant_of-self c =
    let is = c.self.invariant in
    let room : c.self.inside.made < c.self.inside.plan.steps
    = subst (λ (m : Making). m.made < m.plan.steps) (sym c.self.view_is) c.requires in
    let due : c.is_recovery_due-is_recovery.result ≡ is_recovery_due c.args.self.now = c.is_recovery_due-is_recovery.ensures in
    let fewer : c.is_recovery_due-is_recovery.result ≡ true → c.self.inside.recoveries < c.self.inside.plan.recoveries
    = λ (e : c.is_recovery_due-is_recovery.result ≡ true). subst (λ (m : Making). m.recoveries < m.plan.recoveries) (sym c.self.view_is)
    (recovery_room c.args.self.now (sym due ∙ e)) in
    let stay : length c.self.inside.world.masters ≤ length (step c.self.inside.world c.in_ok-choice.choice.step).world.masters
    = masters_stay c.self.inside.world c.in_ok-choice.choice.step in
    let there : 1 ≤ length (step c.self.inside.world c.in_ok-choice.choice.step).world.masters = omega (arith, stay, is.masters) in
    let few : plus_if c.is_recovery_due-is_recovery.result c.self.inside.recoveries ≤ c.self.inside.plan.recoveries
    = plus_if_within c.is_recovery_due-is_recovery.result c.self.inside.recoveries c.self.inside.plan.recoveries fewer is.recoveries in
    record {
      plan = is.plan;
      masters = rw c.in-Ok.ensures.0 there;
      made = omega (arith, room);
      recoveries = rw c.plus_if-self-inside.ensures few;
      refused = rw c.plus_if-self-inside-in-Ok.ensures (plus_if_most _ c.self.inside.refused c.self.inside.made is.refused);
      completed = rw c.plus_if-self-inside-in-Ok-2.ensures (plus_if_most _ c.self.inside.completed c.self.inside.made is.completed);
    }

pub returns-in-Ok-clause-step : goal.returns-in-Ok-clause-step
returns-in-Ok-clause-step c =
    let words : c.in_ok-words.words ≡ c.args.self.now.words = c.in_ok-words.ensures ∙ ap (λ (m : Making). m.words) c.self.view_is in
    step_is_next c.args.self.now c.in_ok-choice.choice c.choice.new.words
    (c.in_ok-choice.ensures ∙ ap (choice c.args.self.now) words)

pub returns-in-Ok-clause-names_node : goal.returns-in-Ok-clause-names_node
returns-in-Ok-clause-names_node c =
    let words : c.in_ok-words.words ≡ c.args.self.now.words = c.in_ok-words.ensures ∙ ap (λ (m : Making). m.words) c.self.view_is in
    let chosen : (c.in_ok-choice.choice, c.choice.new.words) ≡ choice c.args.self.now c.args.self.now.words
    = c.in_ok-choice.ensures ∙ ap (choice c.args.self.now) words in
    subst NamesNode (sym (ap (λ (made : Choice × Lcg). made.0.step) chosen)) (next_names_node c.args.self.now)

pub returns-in-Ok-clause-state : goal.returns-in-Ok-clause-state
returns-in-Ok-clause-state c =
    let seen : Making = record {
      plan = c.self.inside.plan;
      world = c.self.inside.world;
      words = c.self.inside.words;
      cursor = c.self.inside.cursor;
      made = c.self.inside.made;
      recoveries = c.self.inside.recoveries;
      refused = c.self.inside.refused;
      completed = c.self.inside.completed;
    } in
    let view_is : seen ≡ c.args.self.now = c.self.view_is in
    let chosen : (c.in_ok-choice.choice, c.choice.new.words) ≡ choice seen seen.words
    = c.in_ok-choice.ensures ∙ ap (λ (m : Making). choice m c.in_ok-words.words) (sym view_is) ∙ ap (choice seen) c.in_ok-words.ensures in
    let due : c.is_recovery_due-is_recovery.result ≡ is_recovery_due seen
    = c.is_recovery_due-is_recovery.ensures ∙ ap is_recovery_due (sym view_is) in
    let completes : c.is_some.result ≡ is_some c.in-Ok.outcome.completed = c.is_some.ensures in
    let next = state_is_next seen c.in_ok-choice.choice c.choice.new.words c.step.new.self c.in-Ok.outcome
    c.plus_if-self-inside.result c.plus_if-self-inside-in-Ok.result c.plus_if-self-inside-in-Ok-2.result
    chosen c.in-Ok.ensures.0 c.in-Ok.ensures.1
    (c.plus_if-self-inside.ensures ∙ ap (λ (so : Bool). plus_if so c.self.inside.recoveries) due)
    (c.plus_if-self-inside-in-Ok.ensures ∙ ap (λ (so : Bool). plus_if (not so) c.self.inside.refused) c.is_done.ensures)
    (c.plus_if-self-inside-in-Ok-2.ensures ∙ ap (λ (so : Bool). plus_if so c.self.inside.completed) completes) in
    next ∙ ap with_next view_is
