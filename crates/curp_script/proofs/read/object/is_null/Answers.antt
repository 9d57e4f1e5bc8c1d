use Rattle.std.proofs.Common.{◌∙◌}
use Rattle.json.specs.Value.{value_view}
use Rattle.curp_script.proofs.Values.{is_null-data_of}
use Rattle.curp_script.proofs.read.object.is_null.Goals as goal

pub returns : goal.returns
returns c = c.is_null.ensures ∙ is_null-data_of (value_view c.args.value.now)
