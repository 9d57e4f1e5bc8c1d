use Rattle.std.proofs.Common.{◌∙◌, ap, option_and_then}
use Rattle.curp_script.specs.Digits.{by_twos}
use Rattle.curp_script.specs.Grammar.{pair_in, multi_put}
use Rattle.curp_script.specs.Values.{value_data, value_pair}
use Rattle.curp_script.proofs.Parts.{no_multi, multi-at_most}
use Rattle.curp_script.proofs.Twos.{by_twos-map}
use Rattle.curp_script.proofs.read.command.multi_of.Goals as goal

pub returns-in_default : goal.returns-in_default
returns-in_default c = no_multi c.args.parts.now c.in_default.len_below

pub returns-in_err-count : goal.returns-in_err-count
returns-in_err-count c =
    let parts = c.args.parts.now in
    c.from_residual-in_err-count.ensures ∙ ap (option_and_then multi_put) c.in_err-count.ensures.pairs
    ∙ multi-at_most (by_twos value_pair parts) ∙ ap (option_and_then multi_put) (by_twos-map pair_in value_data parts)

pub returns : goal.returns
returns c =
    let parts = c.args.parts.now in
    c.multi_put.ensures ∙ ap (option_and_then multi_put) c.in_ok-count.ensures.pairs
    ∙ multi-at_most (by_twos value_pair parts) ∙ ap (option_and_then multi_put) (by_twos-map pair_in value_data parts)
