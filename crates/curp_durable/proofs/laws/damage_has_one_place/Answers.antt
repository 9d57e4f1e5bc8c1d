use Rattle.curp_durable.proofs.Unique.{damaged_once}
use Rattle.curp_durable.proofs.laws.damage_has_one_place.Goals as goal

pub returns : goal.returns
returns c = damaged_once
