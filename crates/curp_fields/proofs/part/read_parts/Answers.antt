use Rattle.std.proofs.lemmas.Result.{err_from_is_err_and}
use Rattle.curp_items.proofs.More.{more_fails, more_read}
use Rattle.curp_fields.proofs.part.read_parts.Goals as goal

pub loop-preserved : goal.loop-preserved
loop-preserved g c =
    rw c.in_ok-push.ensures.items (more_read (λ before. g.T.Part.format) c.loop.parts.items c.in_ok-count.count c.loop.counter c.loop.reader _ c.loop.invariant c.in_ok-part.part c.read-in-loop.new.reader c.loop-test.true c.in_ok-part.ensures)

pub returns-in_err-part : goal.returns-in_err-part
returns-in_err-part g c =
    let p = err_from_is_err_and c.from_residual-in_err-part.result c.from_residual-in_err-part.ensures.1 in
    rw (p.1, p.2) (more_fails (λ before. g.T.Part.format) c.loop.parts.items c.in_ok-count.count c.loop.counter c.loop.reader _ c.loop.invariant c.in_err-part.field-0.0 c.loop-test.true c.in_err-part.ensures)
