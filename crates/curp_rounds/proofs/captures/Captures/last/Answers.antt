use Rattle.std.proofs.Common.{◌-◌, arith}
use Rattle.std.specs.VecDeque.{deque_len}
use Rattle.curp_rounds.proofs.Waiting.{last_lent}
use Rattle.curp_rounds.proofs.captures.Captures.last.Goals as goal

pub returns : goal.returns
returns c = rw (← c.self.view_is) (last_lent c.self.inside.waiting.items (deque_len c.self.inside.waiting - 1) c.back.result (omega arith) c.back.ensures.item)
