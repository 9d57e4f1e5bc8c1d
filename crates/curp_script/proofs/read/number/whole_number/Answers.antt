use Rattle.std.proofs.Common.{false, ◌∙◌, ap, sym, option_and_then, drop}
use Rattle.fast_float.specs.Text.{scan}
use Rattle.serde_json.specs.Find.{as_u64}
use Rattle.serde_json.specs.Read.{number_of, number_from}
use Rattle.curp_script.proofs.Numbers.{with_minus, without_minus, never_whole}
use Rattle.curp_script.proofs.read.number.whole_number.Goals as goal

pub returns-then-has_minus : goal.returns-then-has_minus
returns-then-has_minus c =
    let s = c.as_bytes-digits.result.now in
    never_whole (scan (drop 1 s)) ∙ ap (option_and_then as_u64) (sym (with_minus s (sym c.if-has_minus.ensures.value)) ∙ ap number_of c.as_bytes-digits.ensures.value)

pub returns : goal.returns
returns c =
    let s = c.as_bytes-digits.result.now in
    c.positive_whole.ensures
    ∙ ap (option_and_then as_u64) (ap (number_from false) c.scan.ensures.parts ∙ sym (without_minus s (sym c.if-has_minus.ensures.value)) ∙ ap number_of c.as_bytes-digits.ensures.value)
