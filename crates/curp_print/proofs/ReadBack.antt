-- What is printed reads as what it was printed for.
use Rattle.std.proofs.Common.{◌≡◌, ◌≤◌, ◌<◌, ◌+◌, ◌-◌, ◌*◌, ◌==◌, ◌≢◌, ◌/◌, ◌%◌, ◌^◌, ◌↔◌, ◌++◌, ◌∙◌, ℕ, List, [], ◌∷◌, length, flat_map, true, false, Some, None, option_and_then, if◌then◌else◌, All, decimal, refl, ap, arith, append_assoc}
use Rattle.std.proofs.lemmas.Bool.Decides.{nat_tests}
use Rattle.std.proofs.lemmas.List.{flat_map_more}
use Rattle.std.proofs.lemmas.List.Elements.{All-head, All-tail, All-from_recursion}
use Rattle.std.proofs.lemmas.Nat.{from_be_bytes-to_be_bytes_8}
use Rattle.std.specs.Fmt.{digit_glyph}
use Rattle.std.specs.Int.{w64, to_be_bytes, from_be_bytes}
use Rattle.serde_json.specs.Data.{Data}
use Rattle.serde_json.specs.View.{items_of}
use Rattle.curp_base.specs.Words.{AreBytes}
use Rattle.curp_cmd.specs.Pairs.{Pair, names_twice}
use Rattle.curp_cmd.specs.declared.command.Command.{Command}
use Rattle.curp_cmd.specs.declared.command.Command.TheVariants.{Multi}
use Rattle.curp_cmd.specs.declared.node.NodeId.{NodeId}
use Rattle.curp_cmd.specs.declared.node.NodeKind.{NodeKind}
use Rattle.curp_cmd.specs.declared.node.NodeKind.TheVariants.{Manager, Client, Master, Backup, Witness}
use Rattle.curp_script.specs.Digits.{digit_of, by_twos, byte_of, bytes_of, at_least, at_most, hash_of, counted, hex}
use Rattle.curp_script.specs.Grammar.{number_within, key_in, value_in, pair_in, multi_put, listed}
use Rattle.curp_script.specs.Headers.{is_within}
use Rattle.curp_script.specs.Printed.{command_parts, bytes_data, pair_data, count, CommandReadsBack, ReadsBack}
use Rattle.curp_msg.specs.declared.script.Step.TheVariants.{Invoke, Migrate, Stop}
use Rattle.curp_script.specs.Nodes.{node_of, node_text, numbered_text}
use Rattle.curp_script.proofs.Counting.{whole_of-decimal}

-- ---- bytes

digit_of-glyph : (value : ℕ) → value < 16 → digit_of (digit_glyph false value) ≡ Some value
digit_of-glyph value small = grind (arith, nat_tests)

byte_of-text : (byte : ℕ) → byte < 256 → byte_of (digit_glyph false (byte / 16)) (digit_glyph false (byte % 16)) ≡ Some byte
byte_of-text byte small =
    rw (digit_of-glyph (byte / 16) (omega arith), digit_of-glyph (byte % 16) (omega arith)) (let same : 16 * (byte / 16) + byte % 16 ≡ byte = omega arith in ap (λ n. Some n) same)

pub bytes_of-hex : (bytes : List ℕ) → AreBytes bytes → bytes_of (hex bytes) ≡ Some bytes
bytes_of-hex [] small = refl
bytes_of-hex (byte ∷ bytes) small =
    rw (byte_of-text byte (All-head (λ b. b < 256) byte bytes small), bytes_of-hex bytes (All-tail (λ b. b < 256) byte bytes small)) refl

-- ---- keys, values and hashes

within : (least most : ℕ) (bytes : List ℕ) → least ≤ length bytes → length bytes ≤ most
    → option_and_then (at_least least) (option_and_then (at_most most) (Some bytes)) ≡ Some bytes
within least most bytes long short = grind (arith, nat_tests)

pub key_in-bytes : (key : List ℕ) → 1 ≤ length key → length key ≤ 32 → AreBytes key → key_in (bytes_data key) ≡ Some key
key_in-bytes key long short small = rw (bytes_of-hex key small) (within 1 32 key long short)

pub value_in-bytes : (value : List ℕ) → length value ≤ 128 → AreBytes value → value_in (bytes_data value) ≡ Some value
value_in-bytes value short small = rw (bytes_of-hex value small) (within 0 128 value (omega arith) short)

byte_small : (n : ℕ) → n % 256 < 256
byte_small n = omega arith

bytes_small : (hash : ℕ) → AreBytes (to_be_bytes w64 hash)
bytes_small hash =
    All-from_recursion (λ b. b < 256) (to_be_bytes w64 hash)
    (byte_small _, (byte_small _, (byte_small _, (byte_small _, (byte_small _, (byte_small _, (byte_small _, (byte_small _, tt))))))))

pub hash_of-bytes : (hash : ℕ) → hash < 2 ^ 64 → hash_of (hex (to_be_bytes w64 hash)) ≡ Some hash
hash_of-bytes hash small =
    ap (option_and_then (λ bytes. if length bytes == 8 then Some (from_be_bytes w64 bytes) else None)) (bytes_of-hex (to_be_bytes w64 hash) (bytes_small hash))
    ∙ ap (λ n. Some n) (from_be_bytes-to_be_bytes_8 hash small)

-- ---- nodes

pub counted-decimal : (n : ℕ) → 0 < n → n < 2 ^ 32 → counted (decimal n) ≡ Some n
counted-decimal n some small =
    let fits : is_within 1 (2 ^ 32 - 1) n ≡ true = grind (arith, nat_tests) in
    rw (whole_of-decimal n some (omega arith), fits) refl

positive : (n : ℕ) → n ≢ 0 → 0 < n
positive n some = omega arith

node_of-kind : (kind : NodeKind) (n : ℕ) → n < 2 ^ 32 → (n ≡ 0) ↔ (kind ≡ Manager) → node_of (numbered_text kind n) ≡ Some (record { kind = kind; number = n })
node_of-kind Manager n small names = let none : n ≡ 0 = names.1 refl in rw none refl
node_of-kind Client n small names = rw (counted-decimal n (positive n (λ e. let wrong = names.0 e in cc)) small) refl
node_of-kind Master n small names = rw (counted-decimal n (positive n (λ e. let wrong = names.0 e in cc)) small) refl
node_of-kind Backup n small names = rw (counted-decimal n (positive n (λ e. let wrong = names.0 e in cc)) small) refl
node_of-kind Witness n small names = rw (counted-decimal n (positive n (λ e. let wrong = names.0 e in cc)) small) refl

pub node_of-text : (node : NodeId) → node.number < 2 ^ 32 → (node.number ≡ 0) ↔ (node.kind ≡ Manager) → node_of (node_text node) ≡ Some node
node_of-text node small names = node_of-kind node.kind node.number small names

-- ---- commands

-- what a key and its value are printed as reads as them
abbrev pub PairReads : Pair → Type 0
PairReads p = (key_in (bytes_data p.0) ≡ Some p.0) × (value_in (bytes_data p.1) ≡ Some p.1)

-- pairs that read as themselves, one by one, do so all together
pub pairs_in-data : (pairs : List Pair) → All PairReads pairs → by_twos pair_in (flat_map pair_data pairs) ≡ Some pairs
pairs_in-data [] all = refl
pairs_in-data (p ∷ pairs) all =
    let first = All-head PairReads p pairs all in
    rw (first.0, first.1, pairs_in-data pairs (All-tail PairReads p pairs all)) refl

multi_put-pairs : (pairs : List Pair) → 1 ≤ length pairs → length pairs ≤ 4 → names_twice pairs ≡ false → multi_put pairs ≡ Some (Multi pairs)
multi_put-pairs pairs least most distinct =
    let fits : is_within 1 4 (length pairs) ≡ true = grind (arith, nat_tests) in
    rw (fits, distinct) refl

pub multi_reads : (pairs : List Pair) → 1 ≤ length pairs → length pairs ≤ 4 → names_twice pairs ≡ false → All PairReads pairs → CommandReadsBack (Multi pairs)
multi_reads pairs least most distinct all = rw (pairs_in-data pairs all, multi_put-pairs pairs least most distinct) refl

-- the next of pairs that are printed one behind another
pub pairs_more : (printed before : List Data) (pairs : List Pair) (p : Pair)
    → printed ≡ before ++ flat_map pair_data pairs
    → (printed ++ bytes_data p.0 ∷ []) ++ bytes_data p.1 ∷ [] ≡ before ++ flat_map pair_data (pairs ++ p ∷ [])
pairs_more printed before pairs p is =
    rw is (append_assoc (before ++ flat_map pair_data pairs) (bytes_data p.0 ∷ []) (bytes_data p.1 ∷ []) ∙ flat_map_more pair_data before pairs p)

-- ---- steps

pub index_within : (n : ℕ) → n < 2 ^ 32 → number_within 0 (2 ^ 32 - 1) (count n) ≡ Some n
index_within n small =
    let fits : is_within 0 (2 ^ 32 - 1) n ≡ true = grind (arith, nat_tests) in
    rw fits refl

pub listed-items_of : (ds : List Data) → listed (items_of ds) ≡ ds
listed-items_of [] = refl
listed-items_of (d ∷ ds) = ap (λ (more : List Data). d ∷ more) (listed-items_of ds)

pub invoke_reads : (client : ℕ) (command : Command) → client < 2 ^ 32 → CommandReadsBack command → ReadsBack (Invoke client command)
invoke_reads client command small reads = rw (index_within client small, listed-items_of (command_parts command), reads) refl

pub stop_reads : (node : NodeId) → node.number < 2 ^ 32 → (node.number ≡ 0) ↔ (node.kind ≡ Manager) → ReadsBack (Stop node)
stop_reads node small names = rw (node_of-text node small names) refl

pub migrate_reads : (lo hi to : ℕ) → lo < 2 ^ 64 → hi < 2 ^ 64 → to < 2 ^ 32 → ReadsBack (Migrate lo hi to)
migrate_reads lo hi to lo_small hi_small to_small = rw (hash_of-bytes lo lo_small, hash_of-bytes hi hi_small, index_within to to_small) refl
