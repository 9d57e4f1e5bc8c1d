use Rattle.std.proofs.Common.{◌≡◌, ap, ◌∙◌, drop}
use Rattle.curp_io.specs.Streams.{one_more}
use Rattle.curp_resp.proofs.Behind.{between_rest}
use Rattle.curp_resp.proofs.window.Window.pass.Goals as goal

pub returns : goal.returns
returns c =
    let rest = between_rest c.self.inside.buffer.items c.self.inside.start c.self.inside.end ∙ ap (λ w. drop 1 w.bytes) c.self.view_is in
    let counted : c.saturating_add-self-inside.result ≡ one_more c.args.self.now.passed =
    c.saturating_add-self-inside.ensures ∙ ap (λ w. one_more w.passed) c.self.view_is in
    cc (rest, counted)
