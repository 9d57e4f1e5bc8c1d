use Rattle.std.proofs.Common.{◌+◌, ap, sym, ◌∙◌}
use Rattle.std.specs.Prelude.{◌==◌}
use Rattle.std.specs.List.{between, position}
use Rattle.curp_io.proofs.Buffer.{part_behind, no_feed_behind, feed_behind}
use Rattle.curp_io.proofs.window.Window.line_feed.Goals as goal

pub returns-in_err-at-clause-place : goal.returns-in_err-at-clause-place
returns-in_err-at-clause-place c =
    let ahead = c.args.self.now.ahead in
    let part = part_behind c.self.inside.buffer.items ahead c.self.inside.start c.self.inside.end c.args.from c.self.invariant.1 (ap (λ w. w.ahead) c.self.view_is) c.requires.within in
    let searched = ap (λ w. between (c.self.inside.start + c.args.from) c.self.inside.end w) c.deref.ensures.value ∙ part in
    rw c.from_residual.ensures (no_feed_behind ahead c.args.from c.requires.none_before (ap (λ w. position (λ byte. byte == 10) w) (sym searched) ∙ sym c.in_err-at.ensures))

pub returns-clause-place : goal.returns-clause-place
returns-clause-place c =
    let ahead = c.args.self.now.ahead in
    let part = part_behind c.self.inside.buffer.items ahead c.self.inside.start c.self.inside.end c.args.from c.self.invariant.1 (ap (λ w. w.ahead) c.self.view_is) c.requires.within in
    let searched = ap (λ w. between (c.self.inside.start + c.args.from) c.self.inside.end w) c.deref.ensures.value ∙ part in
    feed_behind ahead c.args.from c.in_ok-at.at c.requires.none_before (ap (λ w. position (λ byte. byte == 10) w) (sym searched) ∙ sym c.in_ok-at.ensures)
