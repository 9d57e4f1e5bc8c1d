use Rattle.std.proofs.Common.{suc, ◌+◌, ◌-◌, ◌*◌, ◌<◌, get_or, drop, drop-cons, ap, sym, ◌∙◌, arith}
use Rattle.curp_resp.specs.Integer.{spell_up_to}
use Rattle.curp_resp.proofs.Integers.{spell_past}
use Rattle.curp_resp.proofs.integer.spell_up_to.Goals as goal

pub returns-then-more-from : goal.returns-then-more-from
returns-then-more-from c =
    let bytes = c.args.digits.now in
    let at = get_or bytes c.digits.at 0 in
    let past : c.args.most < 10 * c.digits.value + (at - 48) =
    omega (arith, c.if-more-from.true, c.from.ensures, c.from-in-digits.ensures, c.from-in-digits-2.ensures) in
    sym (spell_past c.args.most c.digits.value at (drop (suc c.digits.at) bytes) past)
    ∙ ap (spell_up_to c.args.most c.digits.value) (sym (drop-cons bytes c.digits.at 0 (omega (arith, c.digits-test.true))))
    ∙ c.digits.invariant.0
