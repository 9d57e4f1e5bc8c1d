-- A light message has an encoding, and its frame is short enough.
use Rattle.std.proofs.Common.{◌≡◌, ℕ, suc, ◌+◌, ◌-◌, ◌*◌, ◌^◌, ◌<◌, ◌≤◌, Bool, true, ◌&&◌, List, [], ◌∷◌, ◌++◌, length, map, min, refl, sym, ap, ◌∙◌, arith}
use Rattle.std.proofs.lemmas.Bool.{and_parts, leb-true}
use Rattle.std.proofs.lemmas.List.{length-append}
use Rattle.std.specs.Prelude.{nat_le}
use Rattle.std.specs.List.{list_all, sum}
use Rattle.curp_base.specs.Words.{Each}
use Rattle.curp_cmd.specs.declared.command.RequestId.{RequestId}
use Rattle.curp_cmd.specs.declared.entry.Entry.{Entry}
use Rattle.curp_cmd.specs.declared.entry.Entry.TheVariants.{Op, Take, Give, Expire}
use Rattle.curp_cmd.specs.declared.migration.Package.{Package}
use Rattle.curp_cmd.specs.declared.node.NodeId.{NodeId}
use Rattle.curp_items.specs.Items.{is_node, node}
use Rattle.curp_items.specs.Encoding.{HasPackageEncoding, HasEncoding}
use Rattle.curp_msg.specs.Weight.{carried, collection_weight, entries_weight, entry_weight, fence_weight, package_weight, part_weight, weight_of}
use Rattle.curp_msg.specs.declared.answer.FenceReply.{FenceReply}
use Rattle.curp_msg.specs.declared.answer.FenceReply.TheVariants as fence
use Rattle.curp_msg.specs.declared.answer.GcAnswer.{GcAnswer}
use Rattle.curp_msg.specs.declared.answer.GcAnswer.TheVariants as collection
use Rattle.curp_msg.specs.declared.body.Body.{Body}
use Rattle.curp_msg.specs.declared.body.Body.TheVariants as body
use Rattle.curp_msg.specs.declared.config.PartConfig.{PartConfig}
use Rattle.curp_msg.specs.declared.message.Message.{Message}
use Rattle.curp_wire.proofs.ItemSizes.{all_each, few_clients, few_keys, node_size, weights-cons}
use Rattle.curp_wire.proofs.Sizes.{fields_size}
use Rattle.curp_fields.specs.Fields.{body_parts}
use Rattle.curp_wire.specs.Frame.{IsMessage, content, content_limit}
use Rattle.curp_wire.specs.Light.{are_light_nodes, is_light, is_light_body, is_light_client, is_light_collection, is_light_entry, is_light_id, is_light_package, is_light_part, is_light_reply}
use Rattle.curp_fields.specs.Encoding.{AreEntries, AreNodes, HasContent, HasFields, IsCollection, IsFenceReply, IsNamed, IsPart}

-- ---- lists that weigh little

package_encoded : (p : Package) → is_light_package p ≡ true → package_weight p ≤ 19999 → HasPackageEncoding p
package_encoded p l w =
    let parts = and_parts (list_all (λ (r : RequestId × _). is_light_id r.0) p.table.records && list_all (λ (q : ℕ × ℕ). is_light_client q.0) p.table.firsts) (list_all is_light_client p.table.gone) l in
    let prefix = and_parts (list_all (λ (r : RequestId × _). is_light_id r.0) p.table.records) (list_all (λ (q : ℕ × ℕ). is_light_client q.0) p.table.firsts) parts.0 in
    record {
      pairs = omega arith;
      table = record {
        records = omega arith;
        firsts = λ s. omega (arith, few_clients p.table.firsts s (all_each _ _ prefix.1));
        gone = λ s. omega (arith, few_keys p.table.gone s (all_each _ _ parts.1));
      };
    }

entry_encoded : (e : Entry) → is_light_entry e ≡ true → entry_weight e ≤ 19999 → HasEncoding e
entry_encoded (Op r acknowledge) l w = tt
entry_encoded (Take migration taken) l w = package_encoded taken l (omega arith)
entry_encoded (Give migration given) l w = package_encoded given l (omega arith)
entry_encoded (Expire client) l w = tt

entries_encoded : (es : List Entry) → Each (λ e. is_light_entry e ≡ true) es → entries_weight es ≤ 19999 → Each HasEncoding es
entries_encoded [] l w = tt
entries_encoded (e ∷ es) l w =
    let all = weights-cons entry_weight e es in
    (entry_encoded e l.0 (omega (arith, all)), entries_encoded es l.1 (omega (arith, all)))

entry_counts : (e : Entry) → 1 ≤ entry_weight e
entry_counts (Op r acknowledge) = omega arith
entry_counts (Take migration taken) = omega arith
entry_counts (Give migration given) = omega arith
entry_counts (Expire client) = omega arith

entries_count : (es : List Entry) → length es ≤ entries_weight es
entries_count [] = omega arith
entries_count (e ∷ es) = omega (arith, weights-cons entry_weight e es, entry_counts e, entries_count es)

are_entries : (es : List Entry) → list_all is_light_entry es ≡ true → entries_weight es ≤ 19999 → AreEntries es
are_entries es l w = record { short = omega (arith, entries_count es); encoded = entries_encoded es (all_each is_light_entry es l) w }

are_nodes : (ns : List NodeId) → are_light_nodes ns ≡ true → AreNodes ns
are_nodes ns l =
    let parts = and_parts (nat_le (length ns) 5) (list_all is_node ns) l in
    record { short = omega (arith, leb-true (length ns) 5 parts.0); named = all_each is_node ns parts.1 }

is_part : (p : PartConfig) → is_light_part p ≡ true → part_weight p ≤ 19999 → IsPart p
is_part p l w =
    let lists = and_parts (is_node p.master && are_light_nodes p.backups) (are_light_nodes p.witnesses) l in
    let first = and_parts (is_node p.master) (are_light_nodes p.backups) lists.0 in
    record { master = first.0; backups = are_nodes p.backups first.1; witnesses = are_nodes p.witnesses lists.1; ranges = omega arith }

are_parts : (ps : List PartConfig) → Each (λ p. is_light_part p ≡ true) ps → sum (map part_weight ps) ≤ 19999 → Each IsPart ps
are_parts [] l w = tt
are_parts (p ∷ ps) l w =
    let all = weights-cons part_weight p ps in
    (is_part p l.0 (omega (arith, all)), are_parts ps l.1 (omega (arith, all)))

-- ---- bodies

is_collection : (c : GcAnswer) → collection_weight c ≤ 19999 → IsCollection c
is_collection (collection.Suspects suspects) w = omega arith
is_collection (collection.Stranger epoch) w = tt

is_fence_reply : (r : FenceReply) → is_light_reply r ≡ true → fence_weight r ≤ 19999 → IsFenceReply r
is_fence_reply (fence.Log log) l w = are_entries log l w
is_fence_reply (fence.Fenced epoch) l w = tt

has_fields : (b : Body) → is_light_body b ≡ true → carried b ≤ 19999 → HasFields b
has_fields (body.Configuration config) l w =
    let parts = and_parts (nat_le (length config.parts) 16) (list_all is_light_part config.parts) l in
    record { short = omega (arith, leb-true (length config.parts) 16 parts.0); parts = are_parts config.parts (all_each is_light_part config.parts parts.1) w }
has_fields (body.Append append) l w = are_entries append.entries l w
has_fields (body.Gc gc) l w = omega arith
has_fields (body.Collected collected) l w = is_collection collected.answer w
has_fields (body.Recover recover) l w =
    let last = and_parts (is_node recover.backup && is_node recover.witness && are_light_nodes recover.backups) (are_light_nodes recover.witnesses) l in
    let first = and_parts (is_node recover.backup && is_node recover.witness) (are_light_nodes recover.backups) last.0 in
    let both = and_parts (is_node recover.backup) (is_node recover.witness) first.0 in
    record { backup = both.0; witness = both.1; backups = are_nodes recover.backups first.1; witnesses = are_nodes recover.witnesses last.1 }
has_fields (body.FenceAnswer answer) l w = is_fence_reply answer.answer l w
has_fields (body.FrozenAnswer requests) l w = omega arith
has_fields (body.Prepare prepare) l w =
    let lists = and_parts (are_light_nodes prepare.backups) (are_light_nodes prepare.witnesses) l in
    record { backups = are_nodes prepare.backups lists.0; witnesses = are_nodes prepare.witnesses lists.1 }
has_fields (body.Taken parcel) l w = package_encoded parcel.package l w
has_fields (body.GiveIn parcel) l w = package_encoded parcel.package l w
has_fields _ l w = tt

-- ---- messages

-- what is known of a light message
pub record LightParts (m : Message) : Type 0 where
  pub few : carried m.body ≤ 19999
  pub from : IsNamed m.from
  pub to : IsNamed m.to
  pub fields : is_light_body m.body ≡ true

few_carried : (m : Message) → weight_of m ≤ 20000 → carried m.body ≤ 19999
unfolding weight_of
few_carried m w = omega arith

pub light_parts : (m : Message) → is_light m ≡ true → LightParts m
light_parts m l =
    let last = and_parts _ (is_light_body m.body) l in
    let mid = and_parts _ (is_node m.to) last.0 in
    let first = and_parts _ (is_node m.from) mid.0 in
    record { few = few_carried m (leb-true (weight_of m) 20000 first.0); from = first.1; to = mid.1; fields = last.1 }

pub has_content : (m : Message) → is_light m ≡ true → HasContent m
has_content m l =
    let parts = light_parts m l in
    record { from = parts.from; to = parts.to; fields = has_fields m.body parts.fields parts.few }

pub content_size : (m : Message) → is_light m ≡ true → IsMessage m → length (content m) ≤ content_limit
content_size m l is =
    let parts = light_parts m l in
    omega (
      arith,
      parts.few,
      fields_size m.body is.fields parts.fields,
      node_size m.from,
      node_size m.to,
      length-append (node.of m.from) (node.of m.to ++ (body_parts m.body).text),
      length-append (node.of m.to) (body_parts m.body).text,
    )
