-- The table of items: the format of each thing that entries and messages are made of. All numbers have their highest byte
-- first (this project's own).
use Rattle.std.specs.Prelude.{◌≡◌, ℕ, ◌+◌, ◌<◌, ◌^◌, ◌==◌, nat_lt, nat_le, ◌&&◌, ◌||◌, not, if◌then◌else◌, Bool, true, false, List, [], ◌∷◌, ◌++◌, length, map, Option, Some, None, ⊤}
use Rattle.std.specs.Int.{w32, w64, from_be_bytes, to_be_bytes}
use Rattle.std.specs.List.{list_any}
use Rattle.std.specs.Ordering.{nat_cmp, is_lt}
use Rattle.std.specs.Str.{bytes_eq}
use Rattle.std.specs.Cmp.Lexicographic.{slice_cmp}
use Rattle.curp_base.specs.Cases.{◌>>=◌, only_if}
use Rattle.curp_cmd.specs.Node.{same_kind}
use Rattle.curp_cmd.specs.Pairs.{Pair, names_twice}
use Rattle.curp_cmd.specs.RequestId.{id_cmp}
use Rattle.curp_cmd.specs.declared.command.Answer.{Answer}
use Rattle.curp_cmd.specs.declared.command.Answer.TheVariants.{Done, Removed, Number, Length, Swapped, NotNumber, Overflow, TooLong, Found}
use Rattle.curp_cmd.specs.declared.command.Command.{Command}
use Rattle.curp_cmd.specs.declared.command.Command.TheVariants.{Get, Put, Delete, Incr, Append, CondPut, Multi}
use Rattle.curp_cmd.specs.declared.command.Request.{Request}
use Rattle.curp_cmd.specs.declared.command.RequestId.{RequestId}
use Rattle.curp_cmd.specs.declared.entry.Entry.{Entry}
use Rattle.curp_cmd.specs.declared.entry.Entry.TheVariants.{Op, Take, Give, Expire}
use Rattle.curp_cmd.specs.declared.migration.Package.{Package}
use Rattle.curp_cmd.specs.declared.migration.TablePart.{TablePart}
use Rattle.curp_cmd.specs.declared.node.NodeId.{NodeId}
use Rattle.curp_cmd.specs.declared.node.NodeKind.{NodeKind}
use Rattle.curp_cmd.specs.declared.node.NodeKind.TheVariants.{Manager, Client, Master, Backup, Witness}
use Rattle.curp_items.specs.Bounds.{bounds_of}
use Rattle.curp_items.specs.Format.{Format, Tagged, Variant, byte, found, number, string, item, only, nothing, then_by, ◌▸◌, shaped, tagged, variant, one_of, optional, listed, ascending_keys, ascending_pairs}
use Rattle.curp_items.specs.declared.bounds.Bounds.{Bounds}

-- ---- numbers and truth values

unfoldable pub u32 : Format ℕ
u32 = number w32 (2 ^ 32)

unfoldable pub u64 : Format ℕ
u64 = number w64 (2 ^ 64)

abbrev pub truth_parts : Bool → Tagged
truth_parts false = tagged 0 nothing tt
truth_parts true = tagged 1 nothing tt

abbrev pub truth_variants : List (Variant Bool)
truth_variants = variant 0 nothing (λ x. false) ∷ variant 1 nothing (λ x. true) ∷ []

unfoldable pub truth : Format Bool
truth = one_of truth_parts truth_variants

-- ---- names

-- the byte of a kind of node
abbrev pub kind_byte : NodeKind → ℕ
kind_byte Manager = 0
kind_byte Client = 1
kind_byte Master = 2
kind_byte Backup = 3
kind_byte Witness = 4

-- the kind of node of a byte
abbrev pub kind_of : ℕ → Option NodeKind
kind_of b =
    if b == 0 then Some Manager
    else if b == 1 then Some Client
    else if b == 2 then Some Master
    else if b == 3 then Some Backup
    else if b == 4 then Some Witness
    else None

-- the manager alone has the number 0
abbrev pub is_node : NodeId → Bool
is_node node = if node.number == 0 then same_kind node.kind Manager else not (same_kind node.kind Manager)

-- the node of a kind and a number, where there is one
abbrev pub node_named : Option NodeKind → ℕ → Option NodeId
node_named None n = None
node_named (Some kind) n = only_if (is_node (record { kind = kind; number = n })) (record { kind = kind; number = n })

abbrev pub node_in : List ℕ → Option NodeId
node_in [] = None
node_in (b ∷ rest) = node_named (kind_of b) (from_be_bytes w32 rest)

-- a node that there may be, whose number has 32 bits
pub record IsNodeName (node : NodeId) : Type 0 where
  pub named : is_node node ≡ true
  pub number : node.number < 2 ^ 32

unfoldable pub node : Format NodeId
node = item 5 IsNodeName (λ n. kind_byte n.kind ∷ to_be_bytes w32 n.number) node_in

-- the client, then its number
abbrev pub id_made : ℕ × ℕ → RequestId
id_made p = record { client = p.0; seq = p.1 }

abbrev pub id_parts : RequestId → ℕ × ℕ
id_parts id = (id.client, id.seq)

unfoldable pub id : Format RequestId
id = shaped id_made id_parts (u32 ▸ u32)

-- an id above another. The client decides where it is another one
abbrev pub seq_above : RequestId → ℕ → ℕ → Bool
seq_above last client seq = nat_lt last.client client || nat_lt last.seq seq

unfoldable pub id_above : RequestId → Format RequestId
id_above last = shaped id_made id_parts (then_by (only (λ client. nat_le last.client client) u32) (λ client. only (seq_above last client) u32))

-- a number above another
unfoldable pub u32_above : ℕ → Format ℕ
u32_above last = only (λ n. nat_lt last n) u32

-- ---- keys and values

unfoldable pub key : Format (List ℕ)
key = only (λ bytes. nat_le 1 (length bytes) && nat_le (length bytes) 32) string

-- a key above another
unfoldable pub key_above : List ℕ → Format (List ℕ)
key_above last = only (λ bytes. is_lt (slice_cmp nat_cmp last bytes)) key

-- one of the pairs has the key
abbrev pub names : List Pair → List ℕ → Bool
names pairs k = list_any (λ pair. bytes_eq k pair.0) pairs

-- a key that none of the pairs has
unfoldable pub key_beside : List Pair → Format (List ℕ)
key_beside others = only (λ k. not (names others k)) key

unfoldable pub value : Format (List ℕ)
value = only (λ bytes. nat_le (length bytes) 128) string

-- ---- commands

-- how many pairs a multi-put may have
unfoldable pub pair_count : Format ℕ
pair_count = only (λ n. nat_le 1 n && nat_le n 4) byte

-- the pairs of a multi-put, no key twice
abbrev pub Distinct : List Pair → Type 0
Distinct pairs = names_twice pairs ≡ false

unfoldable pub multi_pairs : Format (List Pair)
multi_pairs = listed pair_count (key ▸ value) Distinct (λ before. key_beside before ▸ value)

abbrev pub command_parts : Command → Tagged
command_parts (Get k) = tagged 1 key k
command_parts (Put k v) = tagged 2 (key ▸ value) (k, v)
command_parts (Delete k) = tagged 3 key k
command_parts (Incr k) = tagged 4 key k
command_parts (Append k more) = tagged 5 (key ▸ value) (k, more)
command_parts (CondPut k expected v) = tagged 6 (key ▸ optional value ▸ value) (k, (expected, v))
command_parts (Multi pairs) = tagged 7 multi_pairs pairs

abbrev pub command_variants : List (Variant Command)
command_variants =
    variant 1 key Get
    ∷ variant 2 (key ▸ value) (λ p. Put p.0 p.1)
    ∷ variant 3 key Delete
    ∷ variant 4 key Incr
    ∷ variant 5 (key ▸ value) (λ p. Append p.0 p.1)
    ∷ variant 6 (key ▸ optional value ▸ value) (λ p. CondPut p.0 p.1.0 p.1.1)
    ∷ variant 7 multi_pairs Multi
    ∷ []

unfoldable pub command : Format Command
command = one_of command_parts command_variants

-- ---- requests and answers

abbrev pub request_made : RequestId × (ℕ × Command) → Request
request_made p = record { id = p.0; first = p.1.0; command = p.1.1 }

abbrev pub request_parts : Request → RequestId × (ℕ × Command)
request_parts r = (r.id, (r.first, r.command))

unfoldable pub request : Format Request
request = shaped request_made request_parts (id ▸ u32 ▸ command)

abbrev pub answer_parts : Answer → Tagged
answer_parts Done = tagged 1 nothing tt
answer_parts (Removed was) = tagged 2 truth was
answer_parts (Number n) = tagged 3 u64 n
answer_parts (Length n) = tagged 4 u32 n
answer_parts (Swapped did) = tagged 5 truth did
answer_parts NotNumber = tagged 6 nothing tt
answer_parts Overflow = tagged 7 nothing tt
answer_parts TooLong = tagged 8 nothing tt
answer_parts (Found v) = tagged 9 (optional value) v

abbrev pub answer_variants : List (Variant Answer)
answer_variants =
    variant 1 nothing (λ x. Done)
    ∷ variant 2 truth Removed
    ∷ variant 3 u64 Number
    ∷ variant 4 u32 Length
    ∷ variant 5 truth Swapped
    ∷ variant 6 nothing (λ x. NotNumber)
    ∷ variant 7 nothing (λ x. Overflow)
    ∷ variant 8 nothing (λ x. TooLong)
    ∷ variant 9 (optional value) Found
    ∷ []

unfoldable pub answer : Format Answer
answer = one_of answer_parts answer_variants

-- ---- packages and entries

-- a range of hashes. Where its ends aren't in order, the fault is at the last
unfoldable pub bounds : Format Bounds
bounds = record {
  Fits = λ b. u64.Fits b.lo × u64.Fits b.hi;
  of = λ b. u64.of b.lo ++ u64.of b.hi;
  read = λ at. u64.read at >>= λ lo. u64.read lo.1 >>= λ hi. found lo.1.place (bounds_of lo.0 hi.0) hi.1;
}

unfoldable pub pairs : Format (List Pair)
pairs = ascending_pairs (slice_cmp nat_cmp) u32 key key_above value

unfoldable pub records : Format (List (RequestId × Answer))
records = ascending_pairs id_cmp u32 id id_above answer

unfoldable pub firsts : Format (List (ℕ × ℕ))
firsts = ascending_pairs nat_cmp u32 u32 u32_above u32

unfoldable pub gone : Format (List ℕ)
gone = ascending_keys nat_cmp u32 u32 u32_above

abbrev pub table_made : List (RequestId × Answer) × (List (ℕ × ℕ) × List ℕ) → TablePart
table_made p = record { records = p.0; firsts = p.1.0; gone = p.1.1 }

abbrev pub table_parts : TablePart → List (RequestId × Answer) × (List (ℕ × ℕ) × List ℕ)
table_parts t = (t.records, (t.firsts, t.gone))

unfoldable pub table : Format TablePart
table = shaped table_made table_parts (records ▸ firsts ▸ gone)

abbrev pub package_made : Bounds × (List Pair × TablePart) → Package
package_made p = record { lo = p.0.lo; hi = p.0.hi; pairs = p.1.0; table = p.1.1; ordered = p.0.ordered }

abbrev pub package_parts : Package → Bounds × (List Pair × TablePart)
package_parts m = (record { lo = m.lo; hi = m.hi; ordered = m.ordered }, (m.pairs, m.table))

unfoldable pub package_format : Format Package
package_format = shaped package_made package_parts (bounds ▸ pairs ▸ table)

abbrev pub entry_parts : Entry → Tagged
entry_parts (Op r acknowledge) = tagged 1 (request ▸ u32) (r, acknowledge)
entry_parts (Take migration taken) = tagged 2 (u32 ▸ package_format) (migration, taken)
entry_parts (Give migration given) = tagged 3 (u32 ▸ package_format) (migration, given)
entry_parts (Expire client) = tagged 4 u32 client

abbrev pub entry_variants : List (Variant Entry)
entry_variants =
    variant 1 (request ▸ u32) (λ p. Op p.0 p.1)
    ∷ variant 2 (u32 ▸ package_format) (λ p. Take p.0 p.1)
    ∷ variant 3 (u32 ▸ package_format) (λ p. Give p.0 p.1)
    ∷ variant 4 u32 Expire
    ∷ []

unfoldable pub entry : Format Entry
entry = one_of entry_parts entry_variants
