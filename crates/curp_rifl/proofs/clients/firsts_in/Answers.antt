use Rattle.std.proofs.Common.{◌≡◌, ◌∙◌, ◌++◌, ap, sym, List, append-nil}
use Rattle.std.proofs.lemmas.List.{drop_all}
use Rattle.curp_rifl.proofs.Marks.{ascend_firsts}
use Rattle.curp_rifl.specs.Clients.{Client, firsts_of}
use Rattle.curp_rifl.proofs.clients.firsts_in.Goals as goal

pub returns-clause-ascend : goal.returns-clause-ascend
returns-clause-ascend c =
    let none = drop_all c.loop-client.client-index c.args.clients.now c.loop-client-test.false in
    let whole : c.loop-client.firsts.items ≡ firsts_of c.args.clients.now =
    sym (ap (λ (es : List Client). c.loop-client.firsts.items ++ firsts_of es) none ∙ append-nil c.loop-client.firsts.items) ∙ c.loop-client.invariant in
    rw whole (ascend_firsts c.args.clients.now c.requires)
