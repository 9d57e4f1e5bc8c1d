use Rattle.std.proofs.Common.{◌+◌, ◌∙◌, Result, ap, arith, length, subst, sym, take}
use Rattle.std.proofs.lemmas.Result.{err_from_is_err_and}
use Rattle.curp_base.specs.Cases.{◌>>=◌}
use Rattle.curp_msg.specs.declared.message.Message.{Message}
use Rattle.curp_wire.specs.Errors.{FailsSo}
use Rattle.curp_wire.specs.Frame.{message_in}
use Rattle.curp_wire.specs.declared.error.FrameError.{FrameError}
use Rattle.curp_wire.proofs.Frames.{fails_so, framed_at, okay}
use Rattle.curp_wire.proofs.reading.frame_at.Goals as goal

pub returns : goal.returns
returns c =
    let n = c.in-Some.length in
    let read = framed_at c.args.bytes.now n c.in-Some.ensures.long c.in-Some.ensures.length (omega (arith, c.if-length-lt11.false)) (omega (arith, ap length c.in-Some.ensures.rest, c.if-rest-length.false)) in
    read ∙ ap (λ (r : Result Message FrameError). r >>= λ m. okay (m, 4 + n)) (sym (ap (λ rest. message_in (take n rest)) c.in-Some.ensures.rest) ∙ c.in_ok-message.ensures)

pub returns-in_err-message : goal.returns-in_err-message
returns-in_err-message c =
    let n = c.in-Some.length in
    let read = framed_at c.args.bytes.now n c.in-Some.ensures.long c.in-Some.ensures.length (omega (arith, c.if-length-lt11.false)) (omega (arith, ap length c.in-Some.ensures.rest, c.if-rest-length.false)) in
    let p = err_from_is_err_and c.from_residual.result c.from_residual.ensures.1 in
    let why = c.in_err-message.field-0.0 in
    let found = subst (λ rest. FailsSo why (message_in (take n rest))) c.in-Some.ensures.rest c.in_err-message.ensures in
    rw (p.1, p.2) (fails_so c.args.bytes.now n _ why read found)
