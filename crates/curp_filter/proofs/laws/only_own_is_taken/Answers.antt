use Rattle.curp_filter.proofs.Judging.{message_first, own_taken}
use Rattle.curp_filter.proofs.laws.only_own_is_taken.Goals as goal

pub returns-clause-own : goal.returns-clause-own
returns-clause-own g c role stand cames judged = own_taken g.N.Core.machine role cames stand judged

pub returns-clause-begins : goal.returns-clause-begins
returns-clause-begins g c role stand cames judged unbegun = message_first g.N.Core.machine role cames stand judged unbegun
