use Rattle.std.proofs.Common.{◌≡◌, ◌∙◌, ◌≤◌, length, true, rules}
use Rattle.std.specs.List.{list_all}
use Rattle.std.specs.Char.{is_ascii_digit}
use Rattle.curp_words.proofs.Digits.{parsed}
use Rattle.curp_words.proofs.setting.number_of.Goals as goal

pub returns : goal.returns
returns c =
    let short : length c.args.text.now ≤ 20 = search rules in
    let digits : list_all is_ascii_digit c.args.text.now ≡ true = search rules in
    c.ok.ensures.value ∙ parsed c.args.text.now c.parse.result short digits c.parse.ensures.value.0
