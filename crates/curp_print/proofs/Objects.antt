-- An object that is made of values under names, from the last to the first.
use Rattle.std.proofs.Common.{◌≡◌, ◌<◌, List, [], ◌∷◌, ◌++◌, length, get_or, refl, ap, arith}
use Rattle.serde_json.specs.Data.{Data, Members, no_members, put}
use Rattle.curp_script.specs.declared.error.FieldName.{FieldName}
use Rattle.curp_script.specs.Printed.{with_values}
use Rattle.curp_script.specs.Text.{field_text}

-- members, and these values under these names
abbrev pub onto : List FieldName → List Data → Members → Members
onto (name ∷ names) (value ∷ values) found = put (field_text name) value (onto names values found)
onto _ _ found = found

pub onto-nothing : (names : List FieldName) (values : List Data) → with_values names values ≡ onto names values no_members
onto-nothing [] values = refl
onto-nothing (name ∷ names) [] = refl
onto-nothing (name ∷ names) (value ∷ values) = ap (put (field_text name) value) (onto-nothing names values)

pub onto-no_values : (names : List FieldName) (found : Members) → onto names [] found ≡ found
onto-no_values [] found = refl
onto-no_values (name ∷ names) found = refl

-- the last value goes first
pub onto-last : (names : List FieldName) (values : List Data) (value : Data) (found : Members) (d : FieldName) → length values < length names
    → onto names (values ++ value ∷ []) found ≡ onto names values (put (field_text (get_or names (length values) d)) value found)
onto-last [] values value found d fits = absurd (omega arith)
onto-last (name ∷ names) [] value found d fits = ap (put (field_text name) value) (onto-no_values names found)
onto-last (name ∷ names) (v ∷ values) value found d fits = ap (put (field_text name) v) (onto-last names values value found d (omega arith))
