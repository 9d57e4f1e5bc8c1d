use Rattle.std.proofs.Common.{◌≡◌, length, sym, ◌∙◌, ap, subst, arith}
use Rattle.curp_durable.specs.Answering.{Decides, IsRecord}
use Rattle.curp_durable.specs.Standing.{made_inputs}
use Rattle.curp_durable.proofs.Pieces.{decides_all, decides_none, decides_some, none_made}
use Rattle.curp_durable.proofs.deciding.decide.Goals as goal

pub returns-then-made-eq0-clause-decides : goal.returns-then-made-eq0-clause-decides
returns-then-made-eq0-clause-decides g c =
    let machine = g.N.Core.machine in
    let s = c.args.stand.now in
    let inputs = c.args.inputs.items in
    let answers = c.in-Ok-step_all.answers.items in
    let none : length (made_inputs answers) ≡ 0 = sym (c.count_made-made.ensures ∙ ap (λ l. length (made_inputs l)) c.deref-2.ensures.value) ∙ c.if-made-eq0.true in
    subst (λ p. Decides machine s c.args.commit c.args.size_limit inputs p answers) (sym c.new-piece.ensures.items) (decides_none machine s c.args.commit c.args.size_limit inputs answers c.in-Ok-step_all.ensures.answers none)

pub returns-then-made-count-clause-decides : goal.returns-then-made-count-clause-decides
returns-then-made-count-clause-decides g c =
    let machine = g.N.Core.machine in
    let s = c.args.stand.now in
    let inputs = c.args.inputs.items in
    let answers = c.in-Ok-step_all.answers.items in
    let long : c.args.inputs.len ≡ length inputs = omega (arith, c.args.inputs.ok.0) in
    let all : length (made_inputs answers) ≡ length inputs = sym (c.count_made-made.ensures ∙ ap (λ l. length (made_inputs l)) c.deref-2.ensures.value) ∙ c.if-made-count.true ∙ c.len-count.ensures ∙ long in
    let is = subst (λ b. IsRecord c.args.commit c.args.size_limit b c.in-Ok.piece.items) c.deref.ensures.value c.in-Ok.ensures.ok in
    decides_all machine s c.args.commit c.args.size_limit inputs answers c.in-Ok-step_all.ensures.answers c.in-Ok.piece.items all is

pub returns-in-Ok-record_again-clause-decides : goal.returns-in-Ok-record_again-clause-decides
returns-in-Ok-record_again-clause-decides g c =
    let answers = c.in-Ok-step_all.answers.items in
    let is = subst (λ l. IsRecord c.args.commit c.args.size_limit (made_inputs l) c.in-Ok-record_again.piece.items) c.deref-3.ensures.value c.in-Ok-record_again.ensures in
    decides_some g.N.Core.machine c.args.stand.now c.args.commit c.args.size_limit c.args.inputs.items answers c.in-Ok-step_all.ensures.answers c.in-Ok-record_again.piece.items is

-- something was made
pub returns-then-made-count-clause-nothing : goal.returns-then-made-count-clause-nothing
returns-then-made-count-clause-nothing g c none =
    let answers = c.in-Ok-step_all.answers.items in
    let zero : c.count_made-made.result ≡ 0 = c.count_made-made.ensures ∙ ap (λ l. length (made_inputs l)) c.deref-2.ensures.value ∙ none_made g.N.Core.machine c.args.stand.now c.args.commit c.args.size_limit c.args.inputs.items answers c.in-Ok-step_all.ensures.answers none in
    absurd (c.if-made-eq0.false zero)

pub returns-in-Ok-record_again-clause-nothing : goal.returns-in-Ok-record_again-clause-nothing
returns-in-Ok-record_again-clause-nothing g c none =
    let answers = c.in-Ok-step_all.answers.items in
    let zero : c.count_made-made.result ≡ 0 = c.count_made-made.ensures ∙ ap (λ l. length (made_inputs l)) c.deref-2.ensures.value ∙ none_made g.N.Core.machine c.args.stand.now c.args.commit c.args.size_limit c.args.inputs.items answers c.in-Ok-step_all.ensures.answers none in
    absurd (c.if-made-eq0.false zero)
