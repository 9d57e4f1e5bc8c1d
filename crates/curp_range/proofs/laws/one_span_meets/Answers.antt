use Rattle.curp_range.proofs.Tests.{meets_if_met, met_if_meets}
use Rattle.curp_range.proofs.laws.one_span_meets.Goals as goal

pub returns : goal.returns
returns c xs lo hi a o = (meets_if_met _ _ xs lo hi a o, λ m. met_if_meets xs lo hi m.0 m.1 m.2)
