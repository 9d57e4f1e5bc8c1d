use Rattle.std.proofs.Common.{◌≡◌, ◌<◌, ◌∙◌, ◌++◌, [], ◌∷◌, ℕ, List, length, map, get_or, string_bytes, length-append, sym, ap, rules, arith}
use Rattle.std.proofs.lemmas.List.{map-append, length-map}
use Rattle.serde_json.specs.declared.value.Value.{Value}
use Rattle.serde_json.specs.Data.{Data, object, put}
use Rattle.serde_json.specs.View.{view, members_view}
use Rattle.serde_json.proofs.Views.{view-Object, members_view-insert_entry}
use Rattle.curp_script.specs.declared.error.FieldName.TheVariants as field
use Rattle.curp_script.specs.Text.{field_text}
use Rattle.curp_print.proofs.Objects.{onto, onto-nothing, onto-no_values, onto-last}
use Rattle.curp_print.proofs.line.object.Goals as goal

pub values-init : goal.values-init
values-init c =
    let empty : c.new-members.result.entries ≡ [] = search rules in
    record { fits = search rules; left = rw empty (onto-nothing c.args.names.now (map view c.args.values.items)) }

pub values-preserved : goal.values-preserved
values-preserved c =
    let names = c.args.names.now in
    let rest = c.pop.new.self.items in
    let split : c.values.values.items ≡ rest ++ c.in-Some.value ∷ [] = c.in-Some.ensures.items in
    let long : length (map view rest) ≡ length rest = length-map rest view in
    let fits : length (map view rest) < length names = omega (arith, ap length split, length-append rest (c.in-Some.value ∷ [])) in
    let at_end : c.len.result ≡ length (map view rest) = omega arith in
    let key : string_bytes c.in_ok-key.key ≡ field_text (get_or names (length (map view rest)) field.Ans) =
    c.in_ok-key.ensures.ok ∙ c.as_str.ensures ∙ ap (λ n. field_text (get_or names n field.Ans)) at_end in
    let old = c.values.members.entries in
    let put_last : members_view c.insert.new.self.entries ≡ put (string_bytes c.in_ok-key.key) (view c.in-Some.value) (members_view old) =
    ap members_view c.in_ok-insert.ensures.entries ∙ members_view-insert_entry old c.in_ok-key.key c.in-Some.value in
    record {
      fits = search rules;
      left =
          c.values.invariant.left ∙ ap (λ (vs : List Value). onto names (map view vs) (members_view old)) split
          ∙ ap (λ (ds : List Data). onto names ds (members_view old)) (map-append view rest (c.in-Some.value ∷ []))
          ∙ onto-last names (map view rest) (view c.in-Some.value) (members_view old) field.Ans fits
          ∙ ap (onto names (map view rest)) (sym (put_last ∙ ap (λ (k : List ℕ). put k (view c.in-Some.value) (members_view old)) key));
    }

pub returns : goal.returns
returns c =
    let none : c.values.values.items ≡ [] = search rules in
    view-Object c.values.members ∙ ap object (sym (c.values.invariant.left ∙ ap (λ (vs : List Value). onto c.args.names.now (map view vs) (members_view c.values.members.entries)) none
    ∙ onto-no_values c.args.names.now (members_view c.values.members.entries)))
