use Rattle.std.proofs.Common.{◌≡◌, ◌+◌, ℕ, List, take, slice_index_or, sym, subst, arith}
use Rattle.std.proofs.lemmas.Grind.{common_steps}
use Rattle.std.proofs.lemmas.Int.Digits.{digits_more}
use Rattle.std.specs.Str.Parse.{AllDigits}
use Rattle.curp_script.proofs.Counting.{value_of-not_digit, value_of-too_large, value_of-digits, one_digit_more, worth}
use Rattle.curp_script.proofs.read.digits.value_of.Goals as goal

pub returns-then-not-is_ascii_digit : goal.returns-then-not-is_ascii_digit
returns-then-not-is_ascii_digit c = value_of-not_digit c.args.digits.now c.loop-digit.digit-index c.loop-digit-test.true (sym c.if-not-is_ascii_digit.ensures.value)

pub returns-then-number : goal.returns-then-number
returns-then-number c =
    let value = one_digit_more c.args.digits.now c.loop-digit.digit-index c.loop-digit.number c.loop-digit-test.true (sym c.if-not-is_ascii_digit.ensures.value) c.loop-digit.invariant.value in
    value_of-too_large c.args.digits.now (c.loop-digit.digit-index + 1) (omega (arith, value))

pub loop-digit-preserved : goal.loop-digit-preserved
loop-digit-preserved c =
    let is = sym c.if-not-is_ascii_digit.ensures.value in
    record {
      digits = digits_more 10 c.args.digits.now c.loop-digit.digit-index c.loop-digit-test.true c.loop-digit.invariant.digits (worth (slice_index_or c.args.digits.now c.loop-digit.digit-index 0) is).0;
      value = one_digit_more c.args.digits.now c.loop-digit.digit-index c.loop-digit.number c.loop-digit-test.true is c.loop-digit.invariant.value;
      most = omega arith;
    }

pub returns : goal.returns
returns c =
    let whole : take c.loop-digit.digit-index c.args.digits.now ≡ c.args.digits.now = grind (arith, common_steps) in
    value_of-digits c.args.digits.now c.loop-digit.number
    (subst (λ (ds : List ℕ). AllDigits 10 ds) whole c.loop-digit.invariant.digits) (rw whole at c.loop-digit.invariant.value) (omega (arith, c.loop-digit.invariant.most))
