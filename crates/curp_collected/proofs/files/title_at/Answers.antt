use Rattle.std.proofs.Common.{sym, arith}
use Rattle.std.proofs.lemmas.List.{length-take-le}
use Rattle.curp_collected.proofs.files.title_at.Goals as goal

pub slice_bounds-title_in-end : goal.slice_bounds-title_in-end
slice_bounds-title_in-end c = sym (length-take-le 36 c.args.content.now (omega (arith, c.if-content-le-TITLE_LENGTH.false)))
