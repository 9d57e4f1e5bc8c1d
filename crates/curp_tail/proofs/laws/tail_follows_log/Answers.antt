use Rattle.curp_tail.proofs.Tails.{empty_tail, tail_below, tail_added, tail_forgotten}
use Rattle.curp_tail.proofs.laws.tail_follows_log.Goals as goal

pub returns : goal.returns
returns c = record { empty = empty_tail; below = tail_below; added = tail_added; forgotten = tail_forgotten }
