use Rattle.std.proofs.Common.{length}
use Rattle.curp_entries.proofs.Packs.{begins}
use Rattle.curp_entries.proofs.prefix.next_entry.Goals as goal
use Rattle.curp_items.specs.Encoding.{encoding}

pub returns-in-Ok : goal.returns-in-Ok
returns-in-Ok c entry rest is laid =
    let read = c.in-Ok.ensures.only entry (length (encoding entry)) (begins entry rest c.args.bytes.now is laid) (λ e. absurd cc) in
    cc
