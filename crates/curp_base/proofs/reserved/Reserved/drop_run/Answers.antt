use Rattle.std.proofs.Common.{◌∙◌, ◌-◌, ap, length, take, arith}
use Rattle.curp_base.proofs.Runs.{run_dropped}
use Rattle.curp_base.proofs.reserved.Reserved.drop_run.Goals as goal

pub returns-clause-items : goal.returns-clause-items
returns-clause-items g c =
    rw (← c.self.view_is)
    (c.truncate.ensures.items
    ∙ ap (take (c.len-len.result - (c.args.end - c.args.start))) c.copy_within.ensures.items
    ∙ run_dropped c.self.inside.items.items c.args.start c.args.end c.len-len.result (omega (arith, c.len-len.ensures)) c.requires.ordered (omega (arith, c.len-len.ensures, ap (λ r. length r.items) c.self.view_is, c.requires.within)))
