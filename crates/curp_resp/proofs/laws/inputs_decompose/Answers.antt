use Rattle.curp_resp.proofs.Prefixes.{decomposition, one_decomposition}
use Rattle.curp_resp.proofs.laws.inputs_decompose.Goals as goal

pub returns-clause-some : goal.returns-clause-some
returns-clause-some c = λ input. decomposition input

pub returns-clause-one : goal.returns-clause-one
returns-clause-one c = λ input requests others rest left h i. one_decomposition requests others input rest left h i
