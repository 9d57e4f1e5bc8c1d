use Rattle.std.proofs.Common.{rules, ◌≡◌, ◌+◌, ◌%◌, ◌/◌, ◌++◌, [], ◌∷◌}
use Rattle.std.specs.Fmt.{decimal}
use Rattle.std.proofs.Output.{has_written_append, has_written_of_eq}
use Rattle.curp_cmd.proofs.Digits.{one_digit, last_digit}
use Rattle.curp_cmd.proofs.text.+write_decimal.Goals as goal

pub returns-then-number-lt10 : goal.returns-then-number-lt10
returns-then-number-lt10 g t c plain ok =
    has_written_of_eq _ _ _ _ _ (one_digit c.args.number (search rules)) (c.write_digit.ensures plain ok)

pub returns : goal.returns
returns g t c plain ok =
    let n = c.args.number in
    let whole : decimal (n / 10) ++ ((48 + n % 10) ∷ []) ≡ decimal n = last_digit n (search rules) (search rules) in
    has_written_of_eq _ _ _ _ _ whole (has_written_append _ _ _ _ _ _ (c.write_decimal.ensures plain (search rules)) (search rules))
