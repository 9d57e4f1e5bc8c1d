use Rattle.std.proofs.Common.{◌≡◌, ◌∙◌, List, [], ◌∷◌, Some, option_map, refl, sym, ap}
use Rattle.std.specs.declared.alloc.Global.{Global}
use Rattle.json.specs.Value.{value_view, items_view}
use Rattle.json.specs.declared.value.Value.{Value}
use Rattle.json.proofs.Trees.{view-Array}
use Rattle.serde_json.specs.Find.{as_array}
use Rattle.curp_script.specs.Grammar.{listed}
use Rattle.curp_script.specs.Values.{data_of, items_data, values_data}
use Rattle.curp_script.proofs.read.object.items_in.Goals as goal

each_data : (vs : List (Value Global)) → values_data vs ≡ listed (items_data (items_view vs))
each_data [] = refl
each_data (v ∷ vs) = ap (λ ds. data_of (value_view v) ∷ ds) (each_data vs)

pub returns-in-Array : goal.returns-in-Array
returns-in-Array c = rw c.as_slice.ensures.value
    (ap (λ ds. Some ds) (each_data c.in-Array.items.items)
    ∙ ap (λ j. option_map listed (as_array (data_of j))) (sym (ap value_view c.in-Array.is ∙ view-Array c.in-Array.items)))
