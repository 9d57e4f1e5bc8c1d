use Rattle.std.proofs.Common.{◌+◌, ◌<◌, ◌^◌, List, length, ap, sym, ◌∙◌, arith}
use Rattle.std.proofs.Math.Facts.{Fits-of_lt}
use Rattle.curp_cmd.specs.declared.entry.Entry.{Entry}
use Rattle.curp_master_log.proofs.Known.{known_below}
use Rattle.curp_master_log.proofs.suspects.treat.Goals as goal

-- what is known stands in the log, which is no longer than memory
pub overflow_add-index : goal.overflow_add-index
overflow_add-index c =
    let low : c.in-Known.index < length c.log-2.result.now.entries =
    known_below c.log-2.result.now.lo c.log-2.result.now.hi c.log-2.result.now.entries c.deref.result.now.id c.in-Known.answer c.in-Known.index (sym c.check.ensures ∙ c.in-Known.is)
    in
    let same = ap (λ (es : List Entry). length es) (c.log-2.ensures.entries ∙ sym c.log.ensures.entries) in
    let small = c.len-length.ensures.small in
    let fits : c.in-Known.index + 1 < 2 ^ 64 = omega (arith, low, same, small) in
    Fits-of_lt fits
