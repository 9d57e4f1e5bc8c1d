use Rattle.std.proofs.Common.{true, false, ◌≡◌, ◌∙◌, ap, sym, is_some, drop, arith, take_all, length-drop}
use Rattle.fast_float.specs.Text.{scan}
use Rattle.serde_json.specs.Read.{number_of, number_from}
use Rattle.curp_script.proofs.Numbers.{with_minus, without_minus}
use Rattle.curp_script.proofs.read.number.is_number_readable.Goals as goal

pub returns-then-has_minus : goal.returns-then-has_minus
returns-then-has_minus c =
    let s = c.as_bytes-digits.result.now in
    let parts : c.scan.result ≡ scan (drop 1 s) = c.scan.ensures.parts ∙ ap scan (take_all _ (drop 1 s) (omega (arith, length-drop 1 s))) in
    c.is_negative_readable.ensures
    ∙ ap is_some (ap (number_from true) parts ∙ sym (with_minus s (sym c.if-has_minus.ensures.value)) ∙ ap number_of c.as_bytes-digits.ensures.value)

pub returns-else-has_minus : goal.returns-else-has_minus
returns-else-has_minus c =
    let s = c.as_bytes-digits.result.now in
    c.is_positive_readable.ensures
    ∙ ap is_some (ap (number_from false) c.scan-else-has_minus.ensures.parts ∙ sym (without_minus s (sym c.if-has_minus.ensures.value)) ∙ ap number_of c.as_bytes-digits.ensures.value)
