use Rattle.std.proofs.Common.{◌≡◌, ◌∙◌, ◌&&◌, Bool, true, false, refl, sym, ap, unwrap_or}
use Rattle.serde_json.specs.Data.{no_members}
use Rattle.serde_json.specs.Find.{as_object}
use Rattle.json.proofs.Trees.{view-Object}
use Rattle.json.specs.Value.{value_view}
use Rattle.curp_script.specs.Grammar.{has_only}
use Rattle.curp_script.specs.Values.{data_of}
use Rattle.curp_script.proofs.Values.{has_only-members_data}
use Rattle.curp_script.proofs.read.object.has_only.Goals as goal

and_true : (b : Bool) → b ≡ (b && true)
and_true true = refl
and_true false = refl

pub returns : goal.returns
returns c =
    c.have_only.ensures ∙ rw c.deref.ensures.value
    (and_true _ ∙ has_only-members_data c.args.names.now c.in-Object.members.items no_members
    ∙ ap (λ j. has_only c.args.names.now (unwrap_or (as_object (data_of j)) no_members)) (sym (ap value_view c.in-Object.is ∙ view-Object c.in-Object.members)))
