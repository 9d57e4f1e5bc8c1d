-- Each format of the table reads what it encodes, and encodes what it reads.
use Rattle.std.proofs.Common.{◌≡◌, ℕ, ◌+◌, ◌^◌, ◌<◌, ◌≤◌, Bool, true, false, ◌&&◌, ◌||◌, cond, eqb, List, [], ◌∷◌, ◌++◌, length, Option, Some, None, Result, Ok, Err, refl, sym, ap, subst, ◌∙◌, append_assoc, arith, rules, inl, inr}
use Rattle.std.proofs.Math.Bridge.{le_prop}
use Rattle.std.proofs.lemmas.Bool.{and_cases, cases_lt, eq-eqb, eqb-true, le-leb, leb-true, lt-ltb, ltb-true, not-true, not_from_false, or_cases, or_from, or_left, or_parts, or_right}
use Rattle.std.proofs.lemmas.Cmp.{nat_list_cmp_total, ranked}
use Rattle.std.proofs.lemmas.List.{length-append}
use Rattle.std.proofs.lemmas.List.Folds.{list_any-append}
use Rattle.std.proofs.lemmas.Nat.{be_bytes_4, be_bytes_8, from_be_bytes-to_be_bytes_4, from_be_bytes-to_be_bytes_8}
use Rattle.std.specs.Cmp.{IsTotalOrder, nat_cmp_is, nat_cmp_total}
use Rattle.std.specs.Cmp.Lexicographic.{slice_cmp}
use Rattle.std.specs.Cmp.Rules.{comparing}
use Rattle.std.specs.Int.{w32, w64, from_be_bytes, to_be_bytes}
use Rattle.std.specs.Ordering.{is_lt, nat_cmp, ordering_then}
use Rattle.std.specs.declared.cmp.Ordering.{Ordering}
use Rattle.std.specs.declared.cmp.Ordering.TheVariants.{Less, Equal, Greater}
use Rattle.curp_base.specs.Cases.{◌>>=◌}
use Rattle.curp_base.specs.Words.{AreBytes}
use Rattle.curp_cmd.specs.RequestId.{id_cmp}
use Rattle.curp_cmd.specs.declared.command.RequestId.{RequestId}
use Rattle.std.proofs.lemmas.List.Elements.{All-tail}
use Rattle.curp_cmd.specs.declared.command.Answer.TheVariants.{Done, Removed, Number, Length, Swapped, NotNumber, Overflow, TooLong, Found}
use Rattle.curp_cmd.specs.declared.command.Command.TheVariants.{Get, Put, Delete, Incr, Append, CondPut, Multi}
use Rattle.curp_cmd.specs.declared.entry.Entry.TheVariants.{Op, Take, Give, Expire}
use Rattle.curp_cmd.specs.declared.node.NodeId.{NodeId}
use Rattle.curp_cmd.specs.declared.node.NodeKind.{NodeKind}
use Rattle.curp_cmd.specs.declared.node.NodeKind.TheVariants.{Manager, Client, Master, Backup, Witness}
use Rattle.curp_items.specs.Bounds.{bounds_of}
use Rattle.curp_items.proofs.Distinct.{distinct-prefix, distinct-last, distinct-push}
use Rattle.curp_items.proofs.Combining.{Again, IsByte, IsFormat, IsOrder, SoundVariants, bind_ok, byte_in, byte_is, chosen, fields_again, found_ok, input, item_is, listed_is, nothing_is, one_of_is, only_is, optional_is, shaped_is, string_is, taken_bytes, then_by_is, then_is, variant_sound}
use Rattle.curp_items.proofs.Ranges.{ends_are, range_is}
use Rattle.curp_items.proofs.Orders.{IsAbove, ascending_keys_is, ascending_pairs_is}
use Rattle.curp_items.specs.Format.{Input, found, nothing, optional, ◌▸◌}
use Rattle.curp_items.specs.Items.{Distinct, IsNodeName, answer, answer_parts, answer_variants, bounds, command, command_parts, command_variants, entry, entry_parts, entry_variants, firsts, gone, id, id_above, id_made, id_parts, is_node, key, key_above, key_beside, kind_byte, kind_of, multi_pairs, node, node_in, node_named, package_format, package_made, package_parts, pair_count, pairs, records, request, request_made, request_parts, seq_above, table, table_made, table_parts, truth, truth_parts, truth_variants, u32, u32_above, u64, value}

-- ---- numbers and truth values

pub u32_is : IsFormat u32
unfolding u32
u32_is = item_is 4 (λ n. n < 2 ^ 32) (to_be_bytes w32) (λ bytes. Some (from_be_bytes w32 bytes))
    (λ n fits. (refl, ap Some (from_be_bytes-to_be_bytes_4 n fits)))
    (λ bytes n are len e.
    let fits = byte_in bytes are in
    let n_is : n ≡ from_be_bytes w32 bytes = cc in
    (omega (arith, n_is, fits 0, fits 1, fits 2, fits 3), be_bytes_4 bytes n len fits n_is))

pub u64_is : IsFormat u64
unfolding u64
u64_is = item_is 8 (λ n. n < 2 ^ 64) (to_be_bytes w64) (λ bytes. Some (from_be_bytes w64 bytes))
    (λ n fits. (refl, ap Some (from_be_bytes-to_be_bytes_8 n fits)))
    (λ bytes n are len e.
    let fits = byte_in bytes are in
    let n_is : n ≡ from_be_bytes w64 bytes = cc in
    (omega (arith, n_is, fits 0, fits 1, fits 2, fits 3, fits 4, fits 5, fits 6, fits 7), be_bytes_8 bytes n len fits n_is))

truth_again : Again truth_parts truth_variants
truth_again false start place rest fits = fields_again 0 nothing (λ x. false) nothing_is tt place rest tt
truth_again true start place rest fits = fields_again 1 nothing (λ x. true) nothing_is tt place rest tt

pub truth_is : IsFormat truth
unfolding truth
truth_is = one_of_is truth_parts truth_variants
    (variant_sound truth_parts 0 nothing (λ x. false) (λ y. refl) nothing_is, (variant_sound truth_parts 1 nothing (λ x. true) (λ y. refl) nothing_is, tt))
    truth_again

-- ---- names

pub id_is : IsFormat id
unfolding id
id_is = shaped_is id_made id_parts (u32 ▸ u32) (λ x. refl) (λ y. refl) (then_is u32 u32 u32_is u32_is)

-- ---- keys and values

pub key_is : IsFormat key
unfolding key
key_is = only_is _ _ string_is

pub value_is : IsFormat value
unfolding value
value_is = only_is _ _ string_is

-- ---- what stands above another

less_from : (a b : ℕ) → a < b → nat_cmp a b ≡ Less
less_from a b l = sym (nat_cmp_is a b Less l)

less_to : (a b : ℕ) → nat_cmp a b ≡ Less → a < b
less_to a b e = ranked a b Less (sym e)

is_lt_to : (r : Ordering) → is_lt r ≡ true → r ≡ Less
is_lt_to Less e = refl
is_lt_to Equal e = absurd cc
is_lt_to Greater e = absurd cc

pub u32_above_is : IsAbove nat_cmp u32 u32_above
unfolding u32_above
u32_above_is = record {
  asks = λ last n f. (f.0, less_from last n (ltb-true last n f.1));
  enough = λ last n f e. (f, lt-ltb last n (less_to last n e));
  alike = λ last n. refl;
  is = λ last. only_is _ _ u32_is;
}

pub key_above_is : IsAbove (slice_cmp nat_cmp) key key_above
unfolding key_above
key_above_is = record {
  asks = λ last k f. (f.0, is_lt_to (slice_cmp nat_cmp last k) f.1);
  enough = λ last k f e. (f, ap is_lt e);
  alike = λ last k. refl;
  is = λ last. only_is _ _ key_is;
}

-- the client decides, or else the number
id_less : (a b : RequestId) → (a.client ≤ b.client) → seq_above a b.client b.seq ≡ true → id_cmp a b ≡ Less
id_less a b l e = elim (or_cases _ _ e) [
  | inl c ↦ ap (λ (r : Ordering). ordering_then r (nat_cmp a.seq b.seq)) (less_from a.client b.client (ltb-true a.client b.client c))
  | inr s ↦ elim (cases_lt a.client b.client) [
    | inl c ↦ ap (λ (r : Ordering). ordering_then r (nat_cmp a.seq b.seq)) (less_from a.client b.client c)
    | inr c ↦
        let same : a.client ≡ b.client = omega arith in
        ap (λ (r : Ordering). ordering_then r (nat_cmp a.seq b.seq)) (sym (nat_cmp_is a.client b.client Equal same)) ∙ less_from a.seq b.seq (ltb-true a.seq b.seq s)
  ]
]

id_more : (a b : RequestId) (r : Ordering) → r ≡ nat_cmp a.client b.client → ordering_then r (nat_cmp a.seq b.seq) ≡ Less → (a.client ≤ b.client) × (seq_above a b.client b.seq ≡ true)
id_more a b Less e f =
    let l : a.client < b.client = ranked a.client b.client Less e in
    (omega arith, or_left _ _ (lt-ltb a.client b.client l))
id_more a b Equal e f =
    let same : a.client ≡ b.client = ranked a.client b.client Equal e in
    (omega arith, or_right _ _ (lt-ltb a.seq b.seq (less_to a.seq b.seq f)))
id_more a b Greater e f = absurd cc

pub id_above_is : IsAbove id_cmp id id_above
unfolding id_above id
id_above_is = record {
  asks = λ last k f. ((f.0.0, f.1.0), id_less last k (leb-true last.client k.client f.0.1) f.1.1);
  enough = λ last k f e.
      let m = id_more last k (nat_cmp last.client k.client) refl e in
      ((f.0, le-leb last.client k.client m.0), (f.1, m.1));
  alike = λ last k. refl;
  is = λ last. shaped_is id_made id_parts _ (λ x. refl) (λ y. refl) (then_by_is _ _ (only_is _ _ u32_is) (λ client. only_is _ _ u32_is));
}

id_total : IsTotalOrder id_cmp
id_total = search (comparing, rules)

-- ---- the lists of a package

pub records_are : IsFormat answer → IsFormat records
unfolding records
records_are answers = ascending_pairs_is id_cmp id id_above id_above_is id_total answer u32 u32_is id_is answers

pub pairs_are : IsFormat pairs
unfolding pairs
pairs_are = ascending_pairs_is (slice_cmp nat_cmp) key key_above key_above_is nat_list_cmp_total value u32 u32_is key_is value_is

pub firsts_are : IsFormat firsts
unfolding firsts
firsts_are = ascending_pairs_is nat_cmp u32 u32_above u32_above_is nat_cmp_total u32 u32 u32_is u32_is u32_is

pub gone_are : IsFormat gone
unfolding gone
gone_are = ascending_keys_is nat_cmp u32 u32_above u32_above_is nat_cmp_total u32 u32_is u32_is

-- ---- nodes

kind_again : (k : NodeKind) → kind_of (kind_byte k) ≡ Some k
kind_again Manager = refl
kind_again Client = refl
kind_again Master = refl
kind_again Backup = refl
kind_again Witness = refl

is_kind : (b m : ℕ) (known k : NodeKind) → eqb b m ≡ true → Some known ≡ Some k → kind_byte known ≡ m → kind_byte k ≡ b
is_kind b m known k e f g =
    let same : known ≡ k = cc in
    ap kind_byte (sym same) ∙ g ∙ sym (eqb-true b m e)

kind_back : (b : ℕ) (k : NodeKind) → kind_of b ≡ Some k → kind_byte k ≡ b
kind_back b k e = elim (chosen (eqb b 0) (Some Manager) _ (Some k) e) [
  | inl c ↦ is_kind b 0 Manager k c.0 c.1 refl
  | inr c ↦ elim (chosen (eqb b 1) (Some Client) _ (Some k) c.1) [
    | inl d ↦ is_kind b 1 Client k d.0 d.1 refl
    | inr d ↦ elim (chosen (eqb b 2) (Some Master) _ (Some k) d.1) [
      | inl f ↦ is_kind b 2 Master k f.0 f.1 refl
      | inr f ↦ elim (chosen (eqb b 3) (Some Backup) _ (Some k) f.1) [
        | inl g ↦ is_kind b 3 Backup k g.0 g.1 refl
        | inr g ↦ elim (chosen (eqb b 4) (Some Witness) None (Some k) g.1) [
          | inl h ↦ is_kind b 4 Witness k h.0 h.1 refl
          | inr h ↦ absurd cc
        ]
      ]
    ]
  ]
]

named_back : (o : Option NodeKind) (m : ℕ) (n : NodeId) → node_named o m ≡ Some n → (o ≡ Some n.kind) × (m ≡ n.number) × (is_node n ≡ true)
named_back None m n e = absurd cc
named_back (Some k) m n e = elim (chosen (is_node (record { kind = k; number = m })) (Some (record { kind = k; number = m })) None (Some n) e) [
  | inl c ↦
      let same : record { kind = k; number = m } ≡ n = cc in
      (ap (λ (x : NodeId). Some x.kind) same, ap (λ (x : NodeId). x.number) same, ap is_node (sym same) ∙ c.0)
  | inr c ↦ absurd cc
]

node_back : (bytes : List ℕ) (n : NodeId) → AreBytes bytes → length bytes ≡ 5 → node_in bytes ≡ Some n → IsNodeName n × (kind_byte n.kind ∷ to_be_bytes w32 n.number ≡ bytes)
node_back [] n are len e = absurd cc
node_back (b ∷ rest) n are len e =
    let parts = named_back (kind_of b) (from_be_bytes w32 rest) n e in
    let kind_is = kind_back b n.kind parts.0 in
    let behind = byte_in rest (All-tail IsByte b rest are) in
    let four : length rest ≡ 4 = omega arith in
    let number_is = be_bytes_4 rest n.number four behind (sym parts.1) in (
      record { named = parts.2; number = omega (arith, parts.1, behind 0, behind 1, behind 2, behind 3) },
      ap (λ (k : ℕ). k ∷ to_be_bytes w32 n.number) kind_is ∙ ap (λ (r : List ℕ). b ∷ r) number_is,
    )

node_again : (n : NodeId) → IsNodeName n → node_in (kind_byte n.kind ∷ to_be_bytes w32 n.number) ≡ Some n
node_again n is =
    ap (node_named (kind_of (kind_byte n.kind))) (from_be_bytes-to_be_bytes_4 n.number is.number)
    ∙ ap (λ (o : Option NodeKind). node_named o n.number) (kind_again n.kind)
    ∙ ap (λ (t : Bool). cond t (Some n) None) is.named

pub node_is : IsFormat node
unfolding node
node_is = item_is 5 IsNodeName (λ n. kind_byte n.kind ∷ to_be_bytes w32 n.number) node_in (λ n is. (refl, node_again n is)) node_back

-- ---- commands

pair_count_is : IsFormat pair_count
unfolding pair_count
pair_count_is = only_is _ _ byte_is

multi_order : IsOrder (key ▸ value) Distinct (λ before. key_beside before ▸ value)
unfolding key_beside
multi_order = record {
  empty = refl;
  prefix = distinct-prefix;
  grows = λ before p d f. ((f.0.0, f.1), distinct-push before p d (not-true _ f.0.1));
  shrinks = λ before p d f. ((f.0, not_from_false _ (distinct-last before p d)), f.1);
}

pub multi_pairs_are : IsFormat multi_pairs
unfolding multi_pairs key_beside
multi_pairs_are = listed_is (key ▸ value) Distinct (λ before. key_beside before ▸ value) multi_order (λ before. then_is _ _ (only_is _ _ key_is) value_is) (λ before p. refl) pair_count pair_count_is

pair_is : IsFormat (key ▸ value)
pair_is = then_is key value key_is value_is

conditional_is : IsFormat (key ▸ optional value ▸ value)
conditional_is = then_is key (optional value ▸ value) key_is (then_is (optional value) value (optional_is value value_is) value_is)

command_sound : SoundVariants command_parts command_variants
command_sound = (
  variant_sound command_parts 1 key Get (λ y. refl) key_is,
  (
    variant_sound command_parts 2 (key ▸ value) (λ p. Put p.0 p.1) (λ y. refl) pair_is,
    (
      variant_sound command_parts 3 key Delete (λ y. refl) key_is,
      (
        variant_sound command_parts 4 key Incr (λ y. refl) key_is,
        (
          variant_sound command_parts 5 (key ▸ value) (λ p. Append p.0 p.1) (λ y. refl) pair_is,
          (
            variant_sound command_parts 6 (key ▸ optional value ▸ value) (λ p. CondPut p.0 p.1.0 p.1.1) (λ y. refl) conditional_is,
            (
              variant_sound command_parts 7 multi_pairs Multi (λ y. refl) multi_pairs_are,
              tt,
            ),
          ),
        ),
      ),
    ),
  ),
)

command_again : Again command_parts command_variants
command_again (Get k) start place rest fits = fields_again 1 key Get key_is k place rest fits
command_again (Put k v) start place rest fits = fields_again 2 (key ▸ value) (λ p. Put p.0 p.1) pair_is (k, v) place rest fits
command_again (Delete k) start place rest fits = fields_again 3 key Delete key_is k place rest fits
command_again (Incr k) start place rest fits = fields_again 4 key Incr key_is k place rest fits
command_again (Append k more) start place rest fits = fields_again 5 (key ▸ value) (λ p. Append p.0 p.1) pair_is (k, more) place rest fits
command_again (CondPut k expected v) start place rest fits = fields_again 6 (key ▸ optional value ▸ value) (λ p. CondPut p.0 p.1.0 p.1.1) conditional_is (k, (expected, v)) place rest fits
command_again (Multi pairs) start place rest fits = fields_again 7 multi_pairs Multi multi_pairs_are pairs place rest fits

pub command_is : IsFormat command
unfolding command
command_is = one_of_is command_parts command_variants command_sound command_again

pub request_is : IsFormat request
unfolding request
request_is = shaped_is request_made request_parts (id ▸ u32 ▸ command) (λ x. refl) (λ y. refl) (then_is id (u32 ▸ command) id_is (then_is u32 command u32_is command_is))

-- ---- answers

answer_sound : SoundVariants answer_parts answer_variants
answer_sound = (
  variant_sound answer_parts 1 nothing (λ x. Done) (λ y. refl) nothing_is,
  (
    variant_sound answer_parts 2 truth Removed (λ y. refl) truth_is,
    (
      variant_sound answer_parts 3 u64 Number (λ y. refl) u64_is,
      (
        variant_sound answer_parts 4 u32 Length (λ y. refl) u32_is,
        (
          variant_sound answer_parts 5 truth Swapped (λ y. refl) truth_is,
          (
            variant_sound answer_parts 6 nothing (λ x. NotNumber) (λ y. refl) nothing_is,
            (
              variant_sound answer_parts 7 nothing (λ x. Overflow) (λ y. refl) nothing_is,
              (
                variant_sound answer_parts 8 nothing (λ x. TooLong) (λ y. refl) nothing_is,
                (
                  variant_sound answer_parts 9 (optional value) Found (λ y. refl) (optional_is value value_is),
                  tt,
                ),
              ),
            ),
          ),
        ),
      ),
    ),
  ),
)

answer_again : Again answer_parts answer_variants
answer_again Done start place rest fits = fields_again 1 nothing (λ x. Done) nothing_is tt place rest fits
answer_again (Removed was) start place rest fits = fields_again 2 truth Removed truth_is was place rest fits
answer_again (Number n) start place rest fits = fields_again 3 u64 Number u64_is n place rest fits
answer_again (Length n) start place rest fits = fields_again 4 u32 Length u32_is n place rest fits
answer_again (Swapped did) start place rest fits = fields_again 5 truth Swapped truth_is did place rest fits
answer_again NotNumber start place rest fits = fields_again 6 nothing (λ x. NotNumber) nothing_is tt place rest fits
answer_again Overflow start place rest fits = fields_again 7 nothing (λ x. Overflow) nothing_is tt place rest fits
answer_again TooLong start place rest fits = fields_again 8 nothing (λ x. TooLong) nothing_is tt place rest fits
answer_again (Found v) start place rest fits = fields_again 9 (optional value) Found (optional_is value value_is) v place rest fits

pub answer_is : IsFormat answer
unfolding answer
answer_is = one_of_is answer_parts answer_variants answer_sound answer_again

-- ---- packages and entries

pub bounds_is : IsFormat bounds
unfolding bounds
bounds_is = record {
  sound = λ at x after h e.
      let a = bind_ok (u64.read at) (λ lo. u64.read lo.1 >>= λ hi. found lo.1.place (bounds_of lo.0 hi.0) hi.1) (x, after) e in
      let b = bind_ok (u64.read a.0.1) (λ hi. found a.0.1.place (bounds_of a.0.0 hi.0) hi.1) (x, after) a.2 in
      let f = found_ok a.0.1.place (bounds_of a.0.0 b.0.0) b.0.1 x after b.2 in
      let ends = ends_are a.0.0 b.0.0 x f.0 in
      let lo = u64_is.sound at a.0.0 a.0.1 h a.1 in
      let hi = u64_is.sound a.0.1 b.0.0 b.0.1 (taken_bytes u64 at a.0.0 a.0.1 h lo) b.1 in
      let both : at.rest ≡ (u64.of a.0.0 ++ u64.of b.0.0) ++ b.0.1.rest = lo.rest ∙ ap (λ (r : List ℕ). u64.of a.0.0 ++ r) hi.rest ∙ sym (append_assoc (u64.of a.0.0) (u64.of b.0.0) b.0.1.rest) in
      record {
        fits = (subst u64.Fits (sym ends.0) lo.fits, subst u64.Fits (sym ends.1) hi.fits);
        rest = both ∙ ap (λ (i : Input). (u64.of a.0.0 ++ u64.of b.0.0) ++ i.rest) f.1 ∙ ap (λ (n : ℕ). (u64.of n ++ u64.of b.0.0) ++ after.rest) (sym ends.0) ∙ ap (λ (n : ℕ). (u64.of x.lo ++ u64.of n) ++ after.rest) (sym ends.1);
        place = omega (arith, ap (λ (i : Input). i.place) f.1, lo.place, hi.place, length-append (u64.of x.lo) (u64.of x.hi), ap (λ (n : ℕ). length (u64.of n)) ends.0, ap (λ (n : ℕ). length (u64.of n)) ends.1);
      };
  complete = λ x place rest fits.
      let lo = u64_is.complete x.lo place (u64.of x.hi ++ rest) fits.0 in
      let hi = u64_is.complete x.hi (place + length (u64.of x.lo)) rest fits.1 in
      let there : place + length (u64.of x.lo) + length (u64.of x.hi) ≡ place + length (u64.of x.lo ++ u64.of x.hi) = omega (arith, length-append (u64.of x.lo) (u64.of x.hi)) in
      ap (λ (r : List ℕ). bounds.read (input place r)) (append_assoc (u64.of x.lo) (u64.of x.hi) rest) ∙ rw (lo, hi, range_is x.lo x.hi x.ordered, there) refl;
}

pub table_is : IsFormat table
unfolding table
table_is = shaped_is table_made table_parts (records ▸ firsts ▸ gone) (λ x. refl) (λ y. refl) (then_is records (firsts ▸ gone) (records_are answer_is) (then_is firsts gone firsts_are gone_are))

pub package_is : IsFormat package_format
unfolding package_format
package_is = shaped_is package_made package_parts (bounds ▸ pairs ▸ table) (λ x. refl) (λ y. refl) (then_is bounds (pairs ▸ table) bounds_is (then_is pairs table pairs_are table_is))

op_is : IsFormat (request ▸ u32)
op_is = then_is request u32 request_is u32_is

moved_is : IsFormat (u32 ▸ package_format)
moved_is = then_is u32 package_format u32_is package_is

entry_sound : SoundVariants entry_parts entry_variants
entry_sound = (
  variant_sound entry_parts 1 (request ▸ u32) (λ p. Op p.0 p.1) (λ y. refl) op_is,
  (
    variant_sound entry_parts 2 (u32 ▸ package_format) (λ p. Take p.0 p.1) (λ y. refl) moved_is,
    (
      variant_sound entry_parts 3 (u32 ▸ package_format) (λ p. Give p.0 p.1) (λ y. refl) moved_is,
      (
        variant_sound entry_parts 4 u32 Expire (λ y. refl) u32_is,
        tt,
      ),
    ),
  ),
)

entry_again : Again entry_parts entry_variants
entry_again (Op r acknowledge) start place rest fits = fields_again 1 (request ▸ u32) (λ p. Op p.0 p.1) op_is (r, acknowledge) place rest fits
entry_again (Take migration taken) start place rest fits = fields_again 2 (u32 ▸ package_format) (λ p. Take p.0 p.1) moved_is (migration, taken) place rest fits
entry_again (Give migration given) start place rest fits = fields_again 3 (u32 ▸ package_format) (λ p. Give p.0 p.1) moved_is (migration, given) place rest fits
entry_again (Expire client) start place rest fits = fields_again 4 u32 Expire u32_is client place rest fits

pub entry_is : IsFormat entry
unfolding entry
entry_is = one_of_is entry_parts entry_variants entry_sound entry_again
