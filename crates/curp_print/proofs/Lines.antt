-- What holds of a printed line, and of its data.
use Rattle.std.proofs.Common.{◌≡◌, ◌≤◌, List, [], ◌∷◌, flat_map, true, false, is_some, Some, None, Result, Ok, Err, IfOk, OnOk, refl, arith}
use Rattle.serde_json.specs.Data.{depth, items_depth}
use Rattle.serde_json.specs.Find.{as_object}
use Rattle.serde_json.specs.Read.{max_depth}
use Rattle.serde_json.specs.View.{items_of}
use Rattle.serde_json.specs.Written.{has_float, items_have_float}
use Rattle.curp_cmd.specs.Pairs.{Pair}
use Rattle.curp_cmd.specs.declared.command.Command.{Command}
use Rattle.curp_cmd.specs.declared.command.Command.TheVariants.{CondPut, Multi}
use Rattle.curp_msg.specs.declared.script.Step.{Step}
use Rattle.curp_msg.specs.declared.script.Step.TheVariants.{Invoke, Nudge}
use Rattle.curp_script.specs.Printed.{pair_data, command_data, step_data}

-- what holds of a value by two facts, where there is one
pub both_ok : {A E : Type 0} (r : Result A E) (P Q R : A → Type 0) → ((a : A) → P a → Q a → R a) → IfOk r P → IfOk r Q → IfOk r R
both_ok (Ok a) P Q R f p q = f a p q
both_ok (Err e) P Q R f p q = tt

-- what holds anyway holds where there is a value
pub on_ok : {A E P : Type 0} (r : Result A E) → P → OnOk r P
on_ok (Ok a) p = p
on_ok (Err e) p = tt

-- ---- the data of pairs, commands and steps has no floats, and is not deep

pairs_no_float : (pairs : List Pair) → items_have_float (items_of (flat_map pair_data pairs)) ≡ false
pairs_no_float [] = refl
pairs_no_float (p ∷ pairs) = pairs_no_float pairs

pairs_flat : (pairs : List Pair) → items_depth (items_of (flat_map pair_data pairs)) ≡ 0
pairs_flat [] = refl
pairs_flat (p ∷ pairs) = rw (pairs_flat pairs) refl

pub command_no_float : (command : Command) → has_float (command_data command) ≡ false
command_no_float (CondPut key None value) = refl
command_no_float (CondPut key (Some expected) value) = refl
command_no_float (Multi pairs) = pairs_no_float pairs
command_no_float _ = refl

pub command_depth : (command : Command) → depth (command_data command) ≡ 1
command_depth (CondPut key None value) = refl
command_depth (CondPut key (Some expected) value) = refl
command_depth (Multi pairs) = rw (pairs_flat pairs) refl
command_depth _ = refl

pub step_is_object : (step : Step) → is_some (as_object (step_data step)) ≡ true
step_is_object Nudge = refl
step_is_object _ = refl

pub step_no_float : (step : Step) → has_float (step_data step) ≡ false
step_no_float (Invoke client command) = rw (command_no_float command) refl
step_no_float _ = refl

pub step_depth : (step : Step) → depth (step_data step) ≤ max_depth
step_depth (Invoke client command) = rw (command_depth command) (omega arith)
step_depth _ = omega arith
