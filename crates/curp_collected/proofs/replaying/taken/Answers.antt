use Rattle.std.proofs.Common.{rules, ◌≡◌, ◌∙◌, length, take, ap, sym, refl}
use Rattle.std.proofs.lemmas.Iterator.Adapters.{YieldsList-from_vec}
use Rattle.std.proofs.lemmas.Iterator.Consumers.{YieldsList-so_far, YieldsList-turn}
use mathlib.Core.List.{map-id}
use Rattle.std.proofs.lemmas.Option.{slice_get_read}
use Rattle.std.proofs.lemmas.Result.{err_from_is_err_and}
use Rattle.curp_base.specs.Words.{At}
use Rattle.curp_journal.specs.Journal.{last_stamp, next_stamp}
use Rattle.curp_base.specs.Failing.{IfBecause}
use Rattle.curp_collected.specs.Causes.{StopsAt}
use Rattle.curp_collected.specs.Taking.{is_past}
use Rattle.curp_collected.proofs.Failing.{IfBecause-weaker}
use Rattle.curp_collected.proofs.Taken.{past_rest, stops_at, taken_next, taken_so}
use Rattle.curp_collected.proofs.replaying.taken.Goals as goal

pub returns-then-is_past-clause-log : goal.returns-then-is_past-clause-log
returns-then-is_past-clause-log g c =
    let inputs = c.args.inputs.items in
    let done = c.loop-input.yielded in
    let log = c.loop-input.log in
    let input = c.in-Some.input in
    let from = c.into_iter-input-iterator.ensures.into_iter_gives in
    let long : c.into_iter-input-iterator.result.rest.len ≡ length inputs = search rules in
    let road = YieldsList-from_vec inputs from.0 long in
    let turn = YieldsList-turn road done c.loop-input.input-iterator c.loop-input.yielded_by c.next.result c.next.new.self input c.in-Some.is c.next.ensures.steps in
    let at : At inputs (length done) input = slice_get_read inputs (length inputs) (length done) input refl turn.0 turn.1 in
    let so_far : done ≡ take (length done) inputs = sym (map-id done) ∙ YieldsList-so_far road done c.loop-input.input-iterator c.loop-input.yielded_by in
    let past = sym c.is_past.ensures ∙ c.if-is_past.true in
    taken_so g.N.Core.machine c.args.files.now.until c.args.id c.args.node inputs done log c.loop-input.invariant so_far
    (past_rest g.N.Core.machine c.args.files.now.until c.args.id c.args.node inputs (length done) (last_stamp 0 log.items) input at
    (ap (λ last. is_past c.args.files.now.until (next_stamp last input)) (sym c.last_stamp.ensures) ∙ past))

pub loop-input-preserved : goal.loop-input-preserved
loop-input-preserved g c =
    let until = c.args.files.now.until in
    let input = c.in-Some.input in
    taken_next g.N.Core.machine until c.args.id c.args.node c.loop-input.yielded input c.loop-input.log c.take.new.log c.loop-input.invariant
    (ap (λ last. is_past until (next_stamp last input)) (sym c.last_stamp.ensures) ∙ sym c.is_past.ensures ∙ c.if-is_past.false)
    c.in_ok-take.ensures.added c.in_ok-take.ensures.own c.in_ok-take.ensures.taken

pub returns-in_err-take-clause-cause : goal.returns-in_err-take-clause-cause
returns-in_err-take-clause-cause g c =
    let inputs = c.args.inputs.items in
    let done = c.loop-input.yielded in
    let input = c.in-Some.input in
    let from = c.into_iter-input-iterator.ensures.into_iter_gives in
    let long : c.into_iter-input-iterator.result.rest.len ≡ length inputs = search rules in
    let road = YieldsList-from_vec inputs from.0 long in
    let turn = YieldsList-turn road done c.loop-input.input-iterator c.loop-input.yielded_by c.next.result c.next.new.self input c.in-Some.is c.next.ensures.steps in
    let at : At inputs (length done) input = slice_get_read inputs (length inputs) (length done) input refl turn.0 turn.1 in
    let so_far : done ≡ take (length done) inputs = sym (map-id done) ∙ YieldsList-so_far road done c.loop-input.input-iterator c.loop-input.yielded_by in
    let why = c.in_err-take.field-0.0 in
    let stops : IfBecause (StopsAt g.N.Core.machine c.args.id c.args.node inputs c.args.file) why =
    IfBecause-weaker why _ _ (λ reason. stops_at g.N.Core.machine c.args.files.now.until c.args.id c.args.node inputs done c.loop-input.log input c.args.file reason c.loop-input.invariant at so_far) c.in_err-take.ensures.cause in
    let given = err_from_is_err_and c.from_residual.result c.from_residual.ensures.1 in
    rw (given.1, given.2) stops
