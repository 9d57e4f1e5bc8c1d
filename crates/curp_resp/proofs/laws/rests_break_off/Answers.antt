use Rattle.curp_resp.proofs.Prefixes.{breaks_off, one_place}
use Rattle.curp_resp.proofs.laws.rests_break_off.Goals as goal

pub returns-clause-some : goal.returns-clause-some
returns-clause-some c = λ rest some none. breaks_off rest some none

pub returns-clause-one : goal.returns-clause-one
returns-clause-one c = λ rest place other h i. one_place rest place other h.longest i.longest
