use Rattle.std.proofs.Common.{◌≡◌, sym, ◌∙◌, ap}
use Rattle.curp_durable.proofs.Unique.{one_list}
use Rattle.curp_read_journal.specs.Items.{log_of}
use Rattle.curp_read_journal.proofs.reading.read_journal.Goals as goal

pub returns-in-Ok-clause-ok : goal.returns-in-Ok-clause-ok
returns-in-Ok-clause-ok g c inputs told h =
    let there = one_list (g.D.Disk.seen c.args.disk.now) c.args.title.now c.in_ok-inputs.inputs.items inputs (c.in_ok-inputs.ensures.ok told) h in
    c.in-Ok.ensures ∙ ap (log_of g.N.Core.machine c.args.id c.args.node) there
