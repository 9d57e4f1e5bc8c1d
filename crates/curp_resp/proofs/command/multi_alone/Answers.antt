use Rattle.std.proofs.Common.{Err, ap, ◌∙◌, sym, arith}
use Rattle.std.proofs.lemmas.List.{take_rest}
use Rattle.std.proofs.lemmas.Result.{err_from_is_err_and}
use Rattle.curp_resp.specs.KeptMeaning.{two_pairs_alone}
use Rattle.curp_resp.proofs.Pairs.{four_pairs, four_pairs_not}
use Rattle.curp_resp.proofs.command.multi_alone.Goals as goal

pub returns-in_ok-third-in-len8 : goal.returns-in_ok-third-in-len8
returns-in_ok-third-in-len8 c =
    c.multi_of-in-len8.ensures
    ∙ sym (four_pairs c.args.arguments.now c.in_ok-first-in-len8.first c.in_ok-first-in-len8.second c.in_ok-third-in-len8.third c.in_ok-third-in-len8.fourth (omega arith) (sym c.in_ok-first-in-len8.ensures) (ap two_pairs_alone (sym (take_rest c.args.arguments.now 4)) ∙ sym c.in_ok-third-in-len8.ensures))

pub returns-in_err-third-in-len8 : goal.returns-in_err-third-in-len8
returns-in_err-third-in-len8 c =
    let back = ap two_pairs_alone (sym (take_rest c.args.arguments.now 4)) ∙ sym c.in_err-third-in-len8.ensures in
    let told = err_from_is_err_and c.from_residual-in_err-third-in-len8.result c.from_residual-in_err-third-in-len8.ensures.1 in
    told.1
    ∙ ap Err told.2
    ∙ sym (four_pairs_not c.args.arguments.now c.in_ok-first-in-len8.first c.in_ok-first-in-len8.second c.in_err-third-in-len8.field-0.0 (omega arith) (sym c.in_ok-first-in-len8.ensures) back)
