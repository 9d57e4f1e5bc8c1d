use Rattle.std.proofs.Common.{◌-◌, ◌++◌, ap, sym, ◌∙◌, append_assoc, arith}
use Rattle.curp_io.proofs.Buffer.{filled, filled_adds}
use Rattle.curp_io.proofs.window.Window.fill.Goals as goal

pub returns-in-Bytes-clause-adds : goal.returns-in-Bytes-clause-adds
returns-in-Bytes-clause-adds g c =
    let prefix = c.move_to_prefix.ensures.prefix ∙ ap (λ w. w.ahead) c.self.view_is in
    filled_adds c.args.self.now.ahead c.move_to_prefix.new.buffer.items c.take_behind-taken.new.buffer.items (c.self.inside.end - c.self.inside.start) c.in-Bytes.count prefix c.in-Bytes.ensures.prefix c.in-Bytes.ensures.fits (omega arith)

pub returns-in-Bytes-clause-bytes : goal.returns-in-Bytes-clause-bytes
returns-in-Bytes-clause-bytes g c = λ told.
    let prefix = c.move_to_prefix.ensures.prefix ∙ ap (λ w. w.ahead) c.self.view_is in
    let is = filled c.args.self.now.ahead c.move_to_prefix.new.buffer.items c.take_behind-taken.new.buffer.items (c.self.inside.end - c.self.inside.start) c.in-Bytes.count prefix c.in-Bytes.ensures.prefix in
    ap (λ w. w ++ g.S.Source.left c.take_behind-taken.new.source) is
    ∙ append_assoc c.args.self.now.ahead _ (g.S.Source.left c.take_behind-taken.new.source)
    ∙ ap (λ w. c.args.self.now.ahead ++ w) (sym (c.in-Bytes.ensures.bytes told).0)
