-- How long the encodings of items are at most.
use Rattle.std.proofs.Common.{◌≡◌, ℕ, zero, suc, ◌+◌, ◌*◌, ◌<◌, ◌≤◌, Bool, true, false, ◌&&◌, T, List, [], ◌∷◌, ◌++◌, length, map, Option, Some, None, refl, sym, ap, ◌∙◌, arith}
use Rattle.std.proofs.lemmas.Bool.{and_parts, leb-true}
use Rattle.std.proofs.lemmas.Cmp.{ranked}
use Rattle.std.proofs.lemmas.List.{length-append}
use Rattle.std.proofs.lemmas.List.Sums.{sum-map, sum_by-cons}
use Rattle.std.specs.FinMap.Entries.{below_all, is_sorted}
use Rattle.std.specs.List.{flat_map, list_all, sum, sum_by}
use Rattle.std.specs.Ordering.{nat_cmp}
use Rattle.std.specs.declared.cmp.Ordering.TheVariants.{Less}
use Rattle.curp_base.proofs.Rising.{is_less, keyed, left, length-keyed, right}
use Rattle.curp_base.specs.Words.{Ascend, Each, KeysAscend}
use Rattle.curp_cmd.specs.Entry.{pairs_put}
use Rattle.curp_cmd.specs.Pairs.{Pair}
use Rattle.curp_cmd.specs.declared.command.Answer.{Answer}
use Rattle.curp_cmd.specs.declared.command.Answer.TheVariants.{Done, Removed, Number, Length, Swapped, NotNumber, Overflow, TooLong, Found}
use Rattle.curp_cmd.specs.declared.command.Command.{Command}
use Rattle.curp_cmd.specs.declared.command.Command.TheVariants.{Get, Put, Delete, Incr, Append, CondPut, Multi}
use Rattle.curp_cmd.specs.declared.command.Request.{Request}
use Rattle.curp_cmd.specs.declared.command.RequestId.{RequestId}
use Rattle.curp_cmd.specs.declared.entry.Entry.{Entry}
use Rattle.curp_cmd.specs.declared.entry.Entry.TheVariants.{Op, Take, Give, Expire}
use Rattle.curp_cmd.specs.declared.migration.Package.{Package}
use Rattle.curp_cmd.specs.declared.node.NodeId.{NodeId}
use Rattle.curp_items.specs.Format.{Format, list_of, optional, ◌▸◌}
use Rattle.curp_items.specs.Items.{answer, bounds, command, entry, firsts, gone, id, key, multi_pairs, node, package_format, pair_count, pairs, records, request, table, truth, u32, u64, value}
use Rattle.curp_items.specs.declared.bounds.Bounds.{Bounds}
use Rattle.curp_msg.specs.Weight.{entries_weight, entry_weight}
use Rattle.curp_wire.specs.Light.{is_light_client, is_light_entry, is_light_id, is_light_package}

-- ---- lists

pub all_each : {A : Type 0} (p : A → Bool) (xs : List A) → list_all p xs ≡ true → Each (λ x. p x ≡ true) xs
all_each p [] e = tt
all_each p (x ∷ xs) e =
    let parts = and_parts (p x) (list_all p xs) e in
    (parts.0, all_each p xs parts.1)

pub flat_size : {A : Type 0} (f : A → List ℕ) (P : A → Type 0) (n : ℕ) → ((x : A) → P x → length (f x) ≤ n) → (xs : List A) → Each P xs → length (flat_map f xs) ≤ n * length xs
flat_size f P n h [] each = omega arith
flat_size f P n h (x ∷ xs) each =
    omega (arith, length-append (f x) (flat_map f xs), h x each.0, flat_size f P n h xs each.1)

-- ---- numbers and names

pub u32_size : (n : ℕ) → length (u32.of n) ≡ 4
unfolding u32
u32_size n = refl

pub u64_size : (n : ℕ) → length (u64.of n) ≡ 8
unfolding u64
u64_size n = refl

pub truth_size : (b : Bool) → length (truth.of b) ≡ 1
unfolding truth
truth_size true = refl
truth_size false = refl

pub id_size : (i : RequestId) → length (id.of i) ≡ 8
unfolding id
id_size i = omega (arith, length-append (u32.of i.client) (u32.of i.seq), u32_size i.client, u32_size i.seq)

pub node_size : (n : NodeId) → length (node.of n) ≡ 5
unfolding node
node_size n = refl

pub bounds_size : (b : Bounds) → length (bounds.of b) ≡ 16
unfolding bounds
bounds_size b = omega (arith, length-append (u64.of b.lo) (u64.of b.hi), u64_size b.lo, u64_size b.hi)

-- ---- commands

pub key_size : (k : List ℕ) → key.Fits k → length (key.of k) ≤ 33
unfolding key
key_size k f = omega (arith, leb-true (length k) 32 (and_parts _ _ f.1).1)

pub value_size : (v : List ℕ) → value.Fits v → length (value.of v) ≤ 129
unfolding value
value_size v f = omega (arith, leb-true (length v) 128 f.1)

pub option_size : (o : Option (List ℕ)) → (optional value).Fits o → length ((optional value).of o) ≤ 130
option_size None f = omega arith
option_size (Some v) f = omega (arith, value_size v f)

pair_size : (p : Pair) → (key ▸ value).Fits p → length ((key ▸ value).of p) ≤ 162
pair_size p f = omega (arith, length-append (key.of p.0) (value.of p.1), key_size p.0 f.0, value_size p.1 f.1)

multi_size : (ps : List Pair) → multi_pairs.Fits ps → length (multi_pairs.of ps) ≤ 1 + 162 * length ps
unfolding multi_pairs pair_count
multi_size ps f = omega (arith, flat_size (key ▸ value).of (key ▸ value).Fits 162 pair_size ps f.1)

multi_few : (ps : List Pair) → multi_pairs.Fits ps → length ps ≤ 4
unfolding multi_pairs pair_count
multi_few ps f = leb-true (length ps) 4 (and_parts _ _ f.0.1).1

command_more : (c : Command) → command.Fits c → length (command.of c) ≤ 293 + 162 * pairs_put c
unfolding command
command_more (Get k) f = omega (arith, key_size k f)
command_more (Put k v) f = omega (arith, length-append (key.of k) (value.of v), key_size k f.0, value_size v f.1)
command_more (Delete k) f = omega (arith, key_size k f)
command_more (Incr k) f = omega (arith, key_size k f)
command_more (Append k v) f = omega (arith, length-append (key.of k) (value.of v), key_size k f.0, value_size v f.1)
command_more (CondPut k o v) f =
    omega (arith, length-append (key.of k) ((optional value).of o ++ value.of v), length-append ((optional value).of o) (value.of v), key_size k f.0, option_size o f.1.0, value_size v f.1.1)
command_more (Multi ps) f = omega (arith, multi_size ps f)

command_most : (c : Command) → command.Fits c → length (command.of c) ≤ 650
unfolding command
command_most (Get k) f = omega (arith, key_size k f)
command_most (Put k v) f = omega (arith, length-append (key.of k) (value.of v), key_size k f.0, value_size v f.1)
command_most (Delete k) f = omega (arith, key_size k f)
command_most (Incr k) f = omega (arith, key_size k f)
command_most (Append k v) f = omega (arith, length-append (key.of k) (value.of v), key_size k f.0, value_size v f.1)
command_most (CondPut k o v) f =
    omega (arith, length-append (key.of k) ((optional value).of o ++ value.of v), length-append ((optional value).of o) (value.of v), key_size k f.0, option_size o f.1.0, value_size v f.1.1)
command_most (Multi ps) f = omega (arith, multi_size ps f, multi_few ps f)

request_length : (r : Request) → length (request.of r) ≡ 12 + length (command.of r.command)
unfolding request
request_length r =
    omega (arith, length-append (id.of r.id) (u32.of r.first ++ command.of r.command), length-append (u32.of r.first) (command.of r.command), id_size r.id, u32_size r.first)

request_command : (r : Request) → request.Fits r → command.Fits r.command
unfolding request
request_command r f = f.1.1

pub request_more : (r : Request) → request.Fits r → length (request.of r) ≤ 305 + 162 * pairs_put r.command
request_more r f = omega (arith, request_length r, command_more r.command (request_command r f))

pub request_most : (r : Request) → request.Fits r → length (request.of r) ≤ 662
request_most r f = omega (arith, request_length r, command_most r.command (request_command r f))

pub answer_size : (a : Answer) → answer.Fits a → length (answer.of a) ≤ 131
unfolding answer
answer_size Done f = omega arith
answer_size (Removed was) f = omega (arith, truth_size was)
answer_size (Number n) f = omega (arith, u64_size n)
answer_size (Length n) f = omega (arith, u32_size n)
answer_size (Swapped did) f = omega (arith, truth_size did)
answer_size NotNumber f = omega arith
answer_size Overflow f = omega arith
answer_size TooLong f = omega arith
answer_size (Found v) f = omega (arith, option_size v f)

-- ---- few clients

above_all : {V : Type 0} (k : ℕ) (es : List (ℕ × V)) → T (below_all nat_cmp k es) → Each (λ p. p.0 ≤ 64) es → Each (λ p. (k + 1 ≤ p.0) × (p.0 ≤ 64)) es
above_all k [] b each = tt
above_all k (e ∷ es) b each =
    let up : k < e.0 = ranked k e.0 Less (sym (is_less (nat_cmp k e.0) (left _ _ b))) in
    ((omega arith, each.0), above_all k es (right _ _ b) each.1)

weaker : {V : Type 0} (k : ℕ) (es : List (ℕ × V)) → Each (λ p. (k ≤ p.0) × (p.0 ≤ 64)) es → Each (λ p. p.0 ≤ 64) es
weaker k [] each = tt
weaker k (e ∷ es) each = (each.0.1, weaker k es each.1)

rising_few : {V : Type 0} (es : List (ℕ × V)) (least : ℕ) → least ≤ 65 → KeysAscend nat_cmp es → Each (λ p. (least ≤ p.0) × (p.0 ≤ 64)) es → length es + least ≤ 65
rising_few [] least h s each = omega arith
rising_few (e ∷ es) least h s each =
    let others = above_all e.0 es (left _ _ s) (weaker least es each.1) in
    omega (arith, each.0.0, each.0.1, rising_few es (e.0 + 1) (omega (arith, each.0.1)) (right _ _ s) others)

light_clients : {V : Type 0} (es : List (ℕ × V)) → Each (λ p. is_light_client p.0 ≡ true) es → Each (λ p. (0 ≤ p.0) × (p.0 ≤ 64)) es
light_clients [] each = tt
light_clients (e ∷ es) each = ((omega arith, leb-true e.0 64 each.0), light_clients es each.1)

pub few_clients : {V : Type 0} (es : List (ℕ × V)) → KeysAscend nat_cmp es → Each (λ p. is_light_client p.0 ≡ true) es → length es ≤ 65
few_clients es s each = omega (arith, rising_few es 0 (omega arith) s (light_clients es each))

keyed_each : (P : ℕ → Type 0) (keys : List ℕ) → Each P keys → Each (λ (p : ℕ × Unit {0}). P p.0) (keyed keys)
keyed_each P [] each = tt
keyed_each P (k ∷ keys) each = (each.0, keyed_each P keys each.1)

pub few_keys : (keys : List ℕ) → Ascend nat_cmp keys → Each (λ k. is_light_client k ≡ true) keys → length keys ≤ 65
few_keys keys s each = omega (arith, length-keyed keys, few_clients (keyed keys) s (keyed_each (λ k. is_light_client k ≡ true) keys each))

-- ---- packages and entries

record_size : (p : RequestId × Answer) → (id ▸ answer).Fits p → length ((id ▸ answer).of p) ≤ 139
record_size p f = omega (arith, length-append (id.of p.0) (answer.of p.1), id_size p.0, answer_size p.1 f.1)

first_size : (p : ℕ × ℕ) → (u32 ▸ u32).Fits p → length ((u32 ▸ u32).of p) ≤ 8
first_size p f = omega (arith, length-append (u32.of p.0) (u32.of p.1), u32_size p.0, u32_size p.1)

client_size : (n : ℕ) → u32.Fits n → length (u32.of n) ≤ 4
client_size n f = omega (arith, u32_size n)

pairs_size : (ps : List Pair) → pairs.Fits ps → length (pairs.of ps) ≤ 4 + 162 * length ps
unfolding pairs
pairs_size ps f = omega (arith, length-append (u32.of (length ps)) (flat_map (key ▸ value).of ps), u32_size (length ps), flat_size (key ▸ value).of (key ▸ value).Fits 162 pair_size ps f.1)

records_size : (rs : List (RequestId × Answer)) → records.Fits rs → length (records.of rs) ≤ 4 + 139 * length rs
unfolding records
records_size rs f = omega (arith, length-append (u32.of (length rs)) (flat_map (id ▸ answer).of rs), u32_size (length rs), flat_size (id ▸ answer).of (id ▸ answer).Fits 139 record_size rs f.1)

firsts_size : (fs : List (ℕ × ℕ)) → firsts.Fits fs → Each (λ p. is_light_client p.0 ≡ true) fs → length (firsts.of fs) ≤ 524
unfolding firsts
firsts_size fs f each = omega (arith, length-append (u32.of (length fs)) (flat_map (u32 ▸ u32).of fs), u32_size (length fs), flat_size (u32 ▸ u32).of (u32 ▸ u32).Fits 8 first_size fs f.1, few_clients fs f.2 each)

gone_size : (ks : List ℕ) → gone.Fits ks → Each (λ k. is_light_client k ≡ true) ks → length (gone.of ks) ≤ 264
unfolding gone
gone_size ks f each = omega (arith, length-append (u32.of (length ks)) (flat_map u32.of ks), u32_size (length ks), flat_size u32.of u32.Fits 4 client_size ks f.1, few_keys ks f.2 each)

pub package_size : (p : Package) → package_format.Fits p → is_light_package p ≡ true → length (package_format.of p) ≤ 812 + (162 * length p.pairs + 139 * length p.table.records)
unfolding package_format table
package_size p f e =
    let parts = and_parts (list_all (λ (r : RequestId × Answer). is_light_id r.0) p.table.records && list_all (λ (q : ℕ × ℕ). is_light_client q.0) p.table.firsts) (list_all is_light_client p.table.gone) e in
    let prefix = and_parts (list_all (λ (r : RequestId × Answer). is_light_id r.0) p.table.records) (list_all (λ (q : ℕ × ℕ). is_light_client q.0) p.table.firsts) parts.0 in
    let b : Bounds = record { lo = p.lo; hi = p.hi; ordered = p.ordered } in
    let t = records.of p.table.records ++ (firsts.of p.table.firsts ++ gone.of p.table.gone) in
    omega (
      arith,
      length-append (bounds.of b) (pairs.of p.pairs ++ t),
      length-append (pairs.of p.pairs) t,
      length-append (records.of p.table.records) (firsts.of p.table.firsts ++ gone.of p.table.gone),
      length-append (firsts.of p.table.firsts) (gone.of p.table.gone),
      bounds_size b,
      pairs_size p.pairs f.1.0,
      records_size p.table.records f.1.1.0,
      firsts_size p.table.firsts f.1.1.1.0 (all_each _ _ prefix.1),
      gone_size p.table.gone f.1.1.1.1 (all_each _ _ parts.1),
    )

pub entry_size : (e : Entry) → entry.Fits e → is_light_entry e ≡ true → length (entry.of e) ≤ 817 * entry_weight e
unfolding entry
entry_size (Op r acknowledge) f l = omega (arith, length-append (request.of r) (u32.of acknowledge), request_more r f.0, u32_size acknowledge)
entry_size (Take migration taken) f l = omega (arith, length-append (u32.of migration) (package_format.of taken), u32_size migration, package_size taken f.1 l)
entry_size (Give migration given) f l = omega (arith, length-append (u32.of migration) (package_format.of given), u32_size migration, package_size given f.1 l)
entry_size (Expire client) f l = omega (arith, u32_size client)

-- ---- lists of them

pub weights-cons : {A : Type 0} (f : A → ℕ) (x : A) (xs : List A) → sum (map f (x ∷ xs)) ≡ f x + sum (map f xs)
weights-cons f x xs = sum-map f (x ∷ xs) ∙ sum_by-cons f x xs ∙ ap (λ n. f x + n) (sym (sum-map f xs))

pub flat_entries : (es : List Entry) → Each entry.Fits es → Each (λ e. is_light_entry e ≡ true) es → length (flat_map entry.of es) ≤ 817 * entries_weight es
flat_entries [] f l = omega arith
flat_entries (e ∷ es) f l = omega (arith, length-append (entry.of e) (flat_map entry.of es), entry_size e f.0 l.0, flat_entries es f.1 l.1, weights-cons entry_weight e es)
