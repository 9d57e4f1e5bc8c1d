use Rattle.curp_msg.proofs.Hex.{hash_hole}
use Rattle.curp_msg.proofs.text.lists.HashDisplay.fmt.Goals as goal

pub returns-clause-writes : goal.returns-clause-writes
returns-clause-writes g c plain ok =
    let wrote = rw (c.laid_out.ensures, c.in_radix.ensures, hash_hole c.args.self.now.0) at c.write.ensures.writes in
    wrote plain ok
