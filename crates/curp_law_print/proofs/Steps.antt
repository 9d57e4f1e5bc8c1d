-- The line of a step.
use Rattle.std.proofs.Common.{◌≡◌, ◌≤◌, ◌<◌, ◌+◌, ◌*◌, ◌-◌, ◌^◌, ◌∙◌, ℕ, List, [], ◌∷◌, length, flat_map, true, Some, None, refl, arith}
use Rattle.std.proofs.lemmas.Bool.Decides.{nat_tests}
use Rattle.std.proofs.lemmas.List.Elements.{All-from_recursion}
use Rattle.std.specs.List.{AllByRecursion}
use Rattle.std.specs.Int.{w64, to_be_bytes}
use Rattle.serde_json.proofs.Numbers.{number_of-decimal}
use Rattle.serde_json.specs.Read.{of_items, of_json}
use Rattle.serde_json.specs.View.{items_of}
use Rattle.serde_json.specs.Written.{items_outline, outline}
use Rattle.curp_base.specs.Words.{Each}
use Rattle.curp_cmd.specs.Pairs.{Pair}
use Rattle.curp_cmd.specs.declared.command.Command.{Command}
use Rattle.curp_cmd.specs.declared.command.Command.TheVariants.{Append, CondPut, Delete, Get, Incr, Multi, Put}
use Rattle.curp_cmd.specs.declared.node.Keeper.{Keeper}
use Rattle.curp_cmd.specs.declared.node.Keeper.TheVariants as keeper
use Rattle.curp_cmd.specs.declared.node.NodeKind.{NodeKind}
use Rattle.curp_cmd.specs.declared.node.NodeKind.TheVariants as node
use Rattle.curp_msg.specs.declared.script.Step.{Step}
use Rattle.curp_msg.specs.declared.script.Step.TheVariants.{Collect, Deliver, Expire, Fetch, Invoke, Migrate, Nudge, Recover, Replace, Retry, Stop, Sync}
use Rattle.curp_print.proofs.Lines.{step_depth, step_is_object}
use Rattle.curp_print.proofs.ReadBack.{PairReads, invoke_reads, key_in-bytes, migrate_reads, multi_reads, stop_reads, value_in-bytes}
use Rattle.curp_script.specs.Digits.{hex}
use Rattle.curp_script.specs.Grammar.{key_in, number_within, step_of, value_in}
use Rattle.curp_script.specs.Headers.{is_within}
use Rattle.curp_script.specs.Nodes.{keeper_of, keeper_text, numbered_text}
use Rattle.curp_script.specs.Printed.{CommandReadsBack, NamesNode, ReadsBack, bytes_data, command_parts, count, pair_data, step_data}
use Rattle.curp_base.specs.Limits.{line_limit}
use Rattle.curp_law_print.proofs.Bytes.{are_clear, decimal_clear, decimal_short, hash_small, hex_clear, hex_length}
use Rattle.curp_law_print.proofs.Data.{IsPlain, ItemsArePlain, items_weight, short, shown, weight}
use Rattle.curp_law_print.proofs.Lines.{IsLine}
use Rattle.curp_law_print.proofs.Reading.{reads_as}
use Rattle.curp_law_print.specs.Ranges.{CommandInRange, IsIndex, IsKey, IsPair, IsValue, StepInRange}

-- ---- the parts of a line are plain

pub wide : (n : ℕ) → IsIndex n → n < 2 ^ 64
wide n index = omega (arith, index)

pairs_plain : (pairs : List Pair) → Each IsPair pairs → ItemsArePlain (items_of (flat_map pair_data pairs))
pairs_plain [] each = tt
pairs_plain (p ∷ pairs) each = (hex_clear p.0 each.0.0.range, (hex_clear p.1 each.0.1.range, pairs_plain pairs each.1))

pub command_plain : (command : Command) → CommandInRange command → ItemsArePlain (items_of (command_parts command))
command_plain (Get key) range = (refl, (hex_clear key range.range, tt))
command_plain (Put key value) range = (refl, (hex_clear key range.0.range, (hex_clear value range.1.range, tt)))
command_plain (Delete key) range = (refl, (hex_clear key range.range, tt))
command_plain (Incr key) range = (refl, (hex_clear key range.range, tt))
command_plain (Append key more) range = (refl, (hex_clear key range.0.range, (hex_clear more range.1.range, tt)))
command_plain (CondPut key None value) range = (refl, (hex_clear key range.0.0.range, (tt, (hex_clear value range.0.1.range, tt))))
command_plain (CondPut key (Some expected) value) range =
    (refl, (hex_clear key range.0.0.range, (hex_clear expected range.1.range, (hex_clear value range.0.1.range, tt))))
command_plain (Multi pairs) range = (refl, pairs_plain pairs range.each)

keeper_clear : (k : Keeper) → are_clear (keeper_text k) ≡ true
keeper_clear keeper.Backup = refl
keeper_clear keeper.Witness = refl

node_clear : (kind : NodeKind) (n : ℕ) → IsIndex n → are_clear (numbered_text kind n) ≡ true
node_clear node.Manager n index = refl
node_clear node.Client n index = decimal_clear n (wide n index)
node_clear node.Master n index = decimal_clear n (wide n index)
node_clear node.Backup n index = decimal_clear n (wide n index)
node_clear node.Witness n index = decimal_clear n (wide n index)

hash_clear : (hash : ℕ) → are_clear (hex (to_be_bytes w64 hash)) ≡ true
hash_clear hash = hex_clear (to_be_bytes w64 hash) (hash_small hash)

step_plain : (step : Step) → StepInRange step → IsPlain (step_data step)
step_plain (Invoke client command) range = (refl, wide client range.0, (refl, command_plain command range.1, (refl, refl, tt)))
step_plain (Deliver message) range = (refl, refl, (refl, range, tt))
step_plain (Retry client seq) range = (refl, wide client range.0, (refl, refl, (refl, wide seq range.1, tt)))
step_plain (Fetch client) range = (refl, wide client range, (refl, refl, tt))
step_plain (Sync master) range = (refl, refl, (refl, wide master range, tt))
step_plain (Collect master) range = (refl, refl, (refl, wide master range, tt))
step_plain (Recover part backup witness) range =
    (refl, wide backup range.1, (refl, refl, (refl, wide part range.0, (refl, wide witness range.2, tt))))
step_plain (Replace keeper part place) range = (refl, refl, (refl, keeper_clear keeper, (refl, wide part range.0, (refl, wide place range.1, tt))))
step_plain (Migrate lo hi to) range = (refl, refl, (refl, hash_clear hi, (refl, hash_clear lo, (refl, wide to range.2, tt))))
step_plain Nudge range = (refl, refl, tt)
step_plain (Expire client) range = (refl, wide client range, (refl, refl, tt))
step_plain (Stop id) range = (refl, refl, (refl, node_clear id.kind id.number range, tt))

-- ---- a line is short

pairs_weight : (pairs : List Pair) → Each IsPair pairs → items_weight (items_of (flat_map pair_data pairs)) ≤ 1 + length pairs * 326
pairs_weight [] each = omega arith
pairs_weight (p ∷ pairs) each =
    omega (arith, hex_length p.0, hex_length p.1, each.0.0.most, each.0.1.most, pairs_weight pairs each.1)

pub command_weight : (command : Command) → CommandInRange command → items_weight (items_of (command_parts command)) ≤ 2000
command_weight (Get key) range = omega (arith, hex_length key, range.most)
command_weight (Put key value) range = omega (arith, hex_length key, hex_length value, range.0.most, range.1.most)
command_weight (Delete key) range = omega (arith, hex_length key, range.most)
command_weight (Incr key) range = omega (arith, hex_length key, range.most)
command_weight (Append key more) range = omega (arith, hex_length key, hex_length more, range.0.most, range.1.most)
command_weight (CondPut key None value) range = omega (arith, hex_length key, hex_length value, range.0.0.most, range.0.1.most)
command_weight (CondPut key (Some expected) value) range =
    omega (arith, hex_length key, hex_length expected, hex_length value, range.0.0.most, range.1.most, range.0.1.most)
command_weight (Multi pairs) range = omega (arith, pairs_weight pairs range.each, range.most)

keeper_short : (k : Keeper) → length (keeper_text k) ≤ 7
keeper_short keeper.Backup = omega arith
keeper_short keeper.Witness = omega arith

node_short : (kind : NodeKind) (n : ℕ) → IsIndex n → length (numbered_text kind n) ≤ 21
node_short node.Manager n index = omega arith
node_short node.Client n index = omega (arith, decimal_short n (wide n index))
node_short node.Master n index = omega (arith, decimal_short n (wide n index))
node_short node.Backup n index = omega (arith, decimal_short n (wide n index))
node_short node.Witness n index = omega (arith, decimal_short n (wide n index))

step_weight : (step : Step) → StepInRange step → weight (step_data step) ≤ line_limit
step_weight (Invoke client command) range = omega (arith, command_weight command range.1)
step_weight (Deliver message) range = omega arith
step_weight (Retry client seq) range = omega arith
step_weight (Fetch client) range = omega arith
step_weight (Sync master) range = omega arith
step_weight (Collect master) range = omega arith
step_weight (Recover part backup witness) range = omega arith
step_weight (Replace keeper part place) range = omega (arith, keeper_short keeper)
step_weight (Migrate lo hi to) range = omega (arith, hex_length (to_be_bytes w64 hi), hex_length (to_be_bytes w64 lo))
step_weight Nudge range = omega arith
step_weight (Expire client) range = omega arith
step_weight (Stop id) range = omega (arith, node_short id.kind id.number range)

-- ---- its text is that of its data

pairs_written : (pairs : List Pair) → of_items (items_outline (items_of (flat_map pair_data pairs))) ≡ Some (items_of (flat_map pair_data pairs))
pairs_written [] = refl
pairs_written (p ∷ pairs) = rw (pairs_written pairs) refl

pub command_written : (command : Command) → of_items (items_outline (items_of (command_parts command))) ≡ Some (items_of (command_parts command))
command_written (CondPut key None value) = refl
command_written (CondPut key (Some expected) value) = refl
command_written (Multi pairs) = rw (pairs_written pairs) refl
command_written _ = refl

step_written : (step : Step) → StepInRange step → of_json (outline (step_data step)) ≡ Some (step_data step)
step_written (Invoke client command) range = rw (number_of-decimal client (wide client range.0), command_written command) refl
step_written (Deliver message) range = rw (number_of-decimal message range) refl
step_written (Retry client seq) range = rw (number_of-decimal client (wide client range.0), number_of-decimal seq (wide seq range.1)) refl
step_written (Fetch client) range = rw (number_of-decimal client (wide client range)) refl
step_written (Sync master) range = rw (number_of-decimal master (wide master range)) refl
step_written (Collect master) range = rw (number_of-decimal master (wide master range)) refl
step_written (Recover part backup witness) range =
    rw (number_of-decimal backup (wide backup range.1), number_of-decimal part (wide part range.0), number_of-decimal witness (wide witness range.2)) refl
step_written (Replace keeper part place) range = rw (number_of-decimal part (wide part range.0), number_of-decimal place (wide place range.1)) refl
step_written (Migrate lo hi to) range = rw (number_of-decimal to (wide to range.2)) refl
step_written Nudge range = refl
step_written (Expire client) range = rw (number_of-decimal client (wide client range)) refl
step_written (Stop id) range = refl

-- ---- its data is read as the step

key_reads : (key : List ℕ) → IsKey key → key_in (bytes_data key) ≡ Some key
key_reads key is = key_in-bytes key is.least is.most is.range

pub value_reads : (value : List ℕ) → IsValue value → value_in (bytes_data value) ≡ Some value
value_reads value is = value_in-bytes value is.most is.range

pairs_read : (pairs : List Pair) → Each IsPair pairs → AllByRecursion PairReads pairs
pairs_read [] each = tt
pairs_read (p ∷ pairs) each = ((key_reads p.0 each.0.0, value_reads p.1 each.0.1), pairs_read pairs each.1)

pub command_reads : (command : Command) → CommandInRange command → CommandReadsBack command
command_reads (Get key) range = rw (key_reads key range) refl
command_reads (Put key value) range = rw (key_reads key range.0, value_reads value range.1) refl
command_reads (Delete key) range = rw (key_reads key range) refl
command_reads (Incr key) range = rw (key_reads key range) refl
command_reads (Append key more) range = rw (key_reads key range.0, value_reads more range.1) refl
command_reads (CondPut key None value) range = rw (key_reads key range.0.0, value_reads value range.0.1) refl
command_reads (CondPut key (Some expected) value) range =
    rw (key_reads key range.0.0, value_reads expected range.1, value_reads value range.0.1) refl
command_reads (Multi pairs) range =
    multi_reads pairs range.least range.most range.distinct (All-from_recursion PairReads pairs (pairs_read pairs range.each))

count_within : (most n : ℕ) → n ≤ most → number_within 0 most (count n) ≡ Some n
count_within most n small =
    let fits : is_within 0 most n ≡ true = grind (arith, nat_tests) in
    rw fits refl

index_within : (n : ℕ) → IsIndex n → number_within 0 (2 ^ 32 - 1) (count n) ≡ Some n
index_within n index = count_within (2 ^ 32 - 1) n (omega (arith, index))

keeper_reads : (keeper : Keeper) → keeper_of (keeper_text keeper) ≡ Some keeper
keeper_reads keeper.Backup = refl
keeper_reads keeper.Witness = refl

step_reads : (step : Step) → NamesNode step → StepInRange step → ReadsBack step
step_reads (Invoke client command) names range = invoke_reads client command range.0 (command_reads command range.1)
step_reads (Deliver message) names range = rw (count_within (2 ^ 64 - 1) message (omega (arith, range))) refl
step_reads (Retry client seq) names range = rw (index_within client range.0, index_within seq range.1) refl
step_reads (Fetch client) names range = rw (index_within client range) refl
step_reads (Sync master) names range = rw (index_within master range) refl
step_reads (Collect master) names range = rw (index_within master range) refl
step_reads (Recover part backup witness) names range =
    rw (index_within backup range.1, index_within part range.0, index_within witness range.2) refl
step_reads (Replace keeper part place) names range =
    rw (keeper_reads keeper, index_within part range.0, index_within place range.1) refl
step_reads (Migrate lo hi to) names range = migrate_reads lo hi to range.0 range.1 range.2
step_reads Nudge names range = refl
step_reads (Expire client) names range = rw (index_within client range) refl
step_reads (Stop id) names range = stop_reads id range names

-- ---- so it is a line

step_is_line : (step : Step) → NamesNode step → StepInRange step → IsLine step
step_is_line step names range =
    let plain = step_plain step range in
    record {
      all_shown = shown (step_data step) plain;
      fits = omega (arith, short (step_data step) plain, step_weight step range);
      read = reads_as step_of (step_data step) plain (step_depth step) (step_is_object step) (step_written step range) ∙ step_reads step names range;
    }

pub steps_are_lines : (steps : List Step) → Each NamesNode steps → Each StepInRange steps → Each IsLine steps
steps_are_lines [] names range = tt
steps_are_lines (step ∷ steps) names range = (step_is_line step names.0 range.0, steps_are_lines steps names.1 range.1)
