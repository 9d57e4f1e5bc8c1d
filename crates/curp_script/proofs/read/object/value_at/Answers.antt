use Rattle.std.proofs.Common.{◌≡◌, ◌∙◌, Option, Some, None, option_map, Bor, refl, ap}
use Rattle.json.specs.Value.{value_view}
use Rattle.json.specs.declared.value.Value.{Value}
use Rattle.std.specs.declared.alloc.Global.{Global}
use Rattle.serde_json.specs.Find.{get}
use Rattle.curp_script.specs.Values.{value_data, data_of}
use Rattle.curp_script.proofs.Values.{get-data_of}
use Rattle.curp_script.proofs.read.object.value_at.Goals as goal

-- the data of what was found
of_found : (r : Option (Bor (Value Global))) → option_map (λ v. value_data v.now) r ≡ option_map data_of (option_map (λ v. value_view v.now) r)
of_found None = refl
of_found (Some v) = refl

pub returns : goal.returns
returns c =
    of_found c.get.result ∙ ap (option_map data_of) c.get.ensures
    ∙ get-data_of c.as_str.result.now (value_view c.args.object.now) ∙ ap (λ name. get name (value_data c.args.object.now)) c.as_str.ensures
