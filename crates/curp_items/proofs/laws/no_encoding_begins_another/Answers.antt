use Rattle.curp_items.proofs.Prefixes.{one_encoding}
use Rattle.curp_items.proofs.laws.no_encoding_begins_another.Goals as goal

pub returns : goal.returns
returns c = one_encoding
