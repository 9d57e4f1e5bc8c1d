use Rattle.curp_cmd.proofs.Puts.{get_put_own, get_put_other}
use Rattle.curp_cmd.proofs.laws.put_changes_one_key.Goals as goal

pub returns : goal.returns
returns c = record { own = get_put_own; other = get_put_other }
