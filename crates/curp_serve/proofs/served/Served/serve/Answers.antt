use Rattle.std.proofs.Common.{Err, Ok, Some, ap, subst, sym, ◌∙◌}
use Rattle.curp_law_served.specs.Served.{Served, serve}
use Rattle.curp_serve.specs.Serving.{LedBy, Serving, serving}
use Rattle.curp_serve.proofs.Behind.{is_right, its_steps, keeps_on, none_of, serves_on, shows_on, tells_more, told_of}
use Rattle.curp_serve.proofs.served.Served.serve.Goals as goal

pub invariant_of-self : goal.invariant_of-self
invariant_of-self c =
    let is = c.self.inside in
    serves_on c.served.ensures.pushes is.header is.every is.stepper is.stop c.self.invariant
    (none_of is.stop (ap (λ (s : Serving). s.is_spent) c.self.view_is ∙ c.requires)) c.args.command c.names_one_to_four_keys.ensures
    (Err c.in-Err.stop) c.serve-ended.new.self c.in-Err.ensures.ended c.answer-answer.ensures.free (Some c.in-Err.stop) (λ none. absurd cc)

pub invariant_of-self-2 : goal.invariant_of-self-2
invariant_of-self-2 c =
    let is = c.self.inside in
    serves_on c.served.ensures.pushes is.header is.every is.stepper is.stop c.self.invariant
    (none_of is.stop (ap (λ (s : Serving). s.is_spent) c.self.view_is ∙ c.requires)) c.args.command c.names_one_to_four_keys.ensures
    (Ok tt) c.serve-ended.new.self c.in_default.ensures.ended c.answer-answer.ensures.free is.stop (λ none. c.in_default.ensures.ended.0)

pub returns-in-Err-clause-one_thread : goal.returns-in-Err-clause-one_thread
returns-in-Err-clause-one_thread c = λ commands answer has told.
    let is = c.self.inside in
    let before : LedBy commands (serving is.header is.every is.stepper is.stop) = subst (LedBy commands) (sym c.self.view_is) has in
    let next : Served = serve is.every c.args.command is.stepper in
    is_right c.served.ensures.pushes is.header is.every is.stepper is.stop c.self.invariant
    (none_of is.stop (ap (λ (s : Serving). s.is_spent) c.self.view_is ∙ c.requires)) c.args.command c.names_one_to_four_keys.ensures commands before
    c.served.ensures.answers answer
    (told_of c.in-Err.stop c.refusal.result c.serve-ended.new.self next answer c.in-Err.ensures.ended
    (λ more. c.refusal.ensures.answer more ∙ c.answer-answer.ensures.answer) c.refusal.ensures.no_memory.1 told)

pub returns-in-Err-clause-keeps : goal.returns-in-Err-clause-keeps
returns-in-Err-clause-keeps c = λ commands has more.
    let is = c.self.inside in
    let before : LedBy commands (serving is.header is.every is.stepper is.stop) = subst (LedBy commands) (sym c.self.view_is) has in
    let next : Served = serve is.every c.args.command is.stepper in
    keeps_on c.served.ensures.pushes is.header is.every is.stepper is.stop c.self.invariant
    (none_of is.stop (ap (λ (s : Serving). s.is_spent) c.self.view_is ∙ c.requires)) c.args.command c.names_one_to_four_keys.ensures commands before
    c.served.ensures.steps c.served.ensures.keeps c.serve-ended.new.self.steps
    (its_steps c.in-Err.stop c.serve-ended.new.self next (λ none. more (ap (λ e. Err e) (c.refusal.ensures.no_memory.1 none))) c.in-Err.ensures.ended)

pub returns-in-Err-clause-shows : goal.returns-in-Err-clause-shows
returns-in-Err-clause-shows c = λ commands answer has told.
    let is = c.self.inside in
    let before : LedBy commands (serving is.header is.every is.stepper is.stop) = subst (LedBy commands) (sym c.self.view_is) has in
    let next : Served = serve is.every c.args.command is.stepper in
    let more = tells_more c.refusal.result answer told in
    shows_on c.served.ensures.pushes is.header is.every is.stepper is.stop c.self.invariant
    (none_of is.stop (ap (λ (s : Serving). s.is_spent) c.self.view_is ∙ c.requires)) c.args.command c.names_one_to_four_keys.ensures commands before
    c.served.ensures.steps c.served.ensures.shows c.serve-ended.new.self.steps
    (its_steps c.in-Err.stop c.serve-ended.new.self next (λ none. more (c.refusal.ensures.no_memory.1 none)) c.in-Err.ensures.ended) answer
    (told_of c.in-Err.stop c.refusal.result c.serve-ended.new.self next answer c.in-Err.ensures.ended
    (λ more. c.refusal.ensures.answer more ∙ c.answer-answer.ensures.answer) c.refusal.ensures.no_memory.1 told)
