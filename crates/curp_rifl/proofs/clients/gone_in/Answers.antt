use Rattle.std.proofs.Common.{◌≡◌, ◌∙◌, ◌++◌, ap, sym, List, append-nil}
use Rattle.std.proofs.lemmas.List.{drop_all}
use Rattle.curp_rifl.proofs.Marks.{ascend_gone}
use Rattle.curp_rifl.specs.Clients.{Client, gone_of}
use Rattle.curp_rifl.proofs.clients.gone_in.Goals as goal

pub returns-clause-ascend : goal.returns-clause-ascend
returns-clause-ascend c =
    let none = drop_all c.loop-client.client-index c.args.clients.now c.loop-client-test.false in
    let whole : c.loop-client.gone.items ≡ gone_of c.args.clients.now =
    sym (ap (λ (es : List Client). c.loop-client.gone.items ++ gone_of es) none ∙ append-nil c.loop-client.gone.items) ∙ c.loop-client.invariant in
    rw whole (ascend_gone c.args.clients.now c.requires)
