use Rattle.std.proofs.Common.{◌++◌, ◌∙◌, List, ℕ, length, ap, subst}
use Rattle.curp_io.specs.Streams.{HoldsPart}
use Rattle.curp_msg.specs.declared.script.Step.{Step}
use Rattle.curp_resp.specs.declared.asked.Asked.TheVariants as asked
use Rattle.curp_session.specs.Answering.{so_far}
use Rattle.curp_session.proofs.Texts.{answered_grows, command_due, part_behind, part_held, whole_behind}
use Rattle.curp_session.proofs.session.answer_command.Goals as goal

pub returns-in_err-ended-clause-prefix : goal.returns-in_err-ended-clause-prefix
returns-in_err-ended-clause-prefix g c = λ k before tells same is.
    part_held before (g.K.Sink.held c.args.sink.now) (so_far c.args.output c.args.served.now.f k) _ is
    (answered_grows c.args.output c.args.served.now.f c.args.served.now.every (asked.Command c.args.command) k)

pub returns-in_err-write_due-clause-prefix : goal.returns-in_err-write_due-clause-prefix
returns-in_err-write_due-clause-prefix g c = λ k before tells same is.
    let new = g.K.Sink.held c.write_due.new.sink in
    let f = c.args.served.now.f in
    let text =
    command_due c.args.output f c.args.served.now.every c.args.command k c.args.served.now.state _ _ _ same
    (c.serve.ensures.state c.in_ok-ended.ensures.made) (c.in_ok-ended.ensures.answer ∙ c.serve.ensures.answer c.in_ok-ended.ensures.made)
    (ap (λ (xs : List Step). length xs) c.steps-before.ensures.steps) in
    subst (λ (t : List ℕ). HoldsPart before new t) text
    (part_behind before (g.K.Sink.held c.args.sink.now) new (so_far c.args.output f k) _ is (c.write_due.ensures.puts.prefix tells))

pub returns-clause-wrote : goal.returns-clause-wrote
returns-clause-wrote g c = λ k before tells same is still.
    let new = g.K.Sink.held c.write_due.new.sink in
    let f = c.args.served.now.f in
    let text =
    command_due c.args.output f c.args.served.now.every c.args.command k c.args.served.now.state _ _ _ same
    (c.serve.ensures.state c.in_ok-ended.ensures.made) (c.in_ok-ended.ensures.answer ∙ c.serve.ensures.answer c.in_ok-ended.ensures.made)
    (ap (λ (xs : List Step). length xs) c.steps-before.ensures.steps) in
    whole_behind before (g.K.Sink.held c.args.sink.now) new (so_far c.args.output f k) _ is (c.in_ok-write_due.ensures.puts.whole tells)
    ∙ ap (λ (t : List ℕ). before ++ t) text

pub returns-clause-prefix : goal.returns-clause-prefix
returns-clause-prefix g c = λ k before tells same is.
    let new = g.K.Sink.held c.write_due.new.sink in
    let f = c.args.served.now.f in
    let text =
    command_due c.args.output f c.args.served.now.every c.args.command k c.args.served.now.state _ _ _ same
    (c.serve.ensures.state c.in_ok-ended.ensures.made) (c.in_ok-ended.ensures.answer ∙ c.serve.ensures.answer c.in_ok-ended.ensures.made)
    (ap (λ (xs : List Step). length xs) c.steps-before.ensures.steps) in
    subst (λ (t : List ℕ). HoldsPart before new t) text
    (part_behind before (g.K.Sink.held c.args.sink.now) new (so_far c.args.output f k) _ is (c.write_due.ensures.puts.prefix tells))
