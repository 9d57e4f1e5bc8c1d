use Rattle.std.proofs.Common.{◌≡◌, [], ◌∷◌, map, ap, ◌∙◌, ℕ, Vec, Global, arith}
use Rattle.std.proofs.lemmas.List.{map-append}
use Rattle.curp_base.specs.Words.{numbers_from}
use Rattle.curp_cmd.specs.declared.command.Command.{Command}
use Rattle.curp_gen.specs.Commands.{workload_of}
use Rattle.curp_nodes.proofs.Numbers.{named_push}
use Rattle.curp_run.proofs.Runs.{work_length}
use Rattle.curp_run.proofs.live.steps.work_of.Goals as goal

pub loop-before-preserved : goal.loop-before-preserved
loop-before-preserved c =
    let plan = c.args.plan.now in
    let items = λ (list : Vec Command Global). list.items in
    let list = c.in_ok-workload.field-0 in
    rw c.push_reserved.ensures.items
    (rw c.in_ok-reserve.ensures.items
    (named_push (λ (n : ℕ). workload_of plan.number n plan.commands) c.loop-before.before (map items c.loop-before.work.items) _ list.items
    (map-append items c.loop-before.work.items (list ∷ [])) c.loop-before.invariant c.in_ok-workload.ensures))

pub returns-clause-work : goal.returns-clause-work
returns-clause-work c =
    let plan = c.args.plan.now in
    let all : c.loop-before.before ≡ plan.clients = omega (arith, c.loop-before-test.false, c.loop-before.auto.before-end) in
    c.loop-before.invariant ∙ ap (λ (count : ℕ). map (λ (n : ℕ). workload_of plan.number n plan.commands) (numbers_from 1 count)) all

pub returns-clause-count : goal.returns-clause-count
returns-clause-count c =
    let plan = c.args.plan.now in
    let all : c.loop-before.before ≡ plan.clients = omega (arith, c.loop-before-test.false, c.loop-before.auto.before-end) in
    work_length plan c.loop-before.work.items
    (c.loop-before.invariant ∙ ap (λ (count : ℕ). map (λ (n : ℕ). workload_of plan.number n plan.commands) (numbers_from 1 count)) all)
