-- A body whose fields pass the test has an encoding, and one that has an encoding passes.
use Rattle.std.proofs.Common.{◌≡◌, ℕ, ◌^◌, ◌<◌, ◌≤◌, Bool, true, ◌&&◌, List, [], ◌∷◌, length, refl, arith}
use Rattle.std.proofs.lemmas.Bool.{and_from, and_parts, leb-true, le-leb}
use Rattle.std.specs.List.{list_all}
use Rattle.curp_base.specs.Words.{Each}
use Rattle.curp_cmd.specs.declared.entry.Entry.{Entry}
use Rattle.curp_cmd.specs.declared.entry.Entry.TheVariants.{Op, Take, Give, Expire}
use Rattle.curp_cmd.specs.declared.migration.Package.{Package}
use Rattle.curp_cmd.specs.declared.node.NodeId.{NodeId}
use Rattle.curp_items.specs.Items.{entry, firsts, gone, is_node, node, package_format, pairs, records, table, u32}
use Rattle.curp_items.specs.Encoding.{HasPackageEncoding, HasEncoding}
use Rattle.curp_msg.specs.declared.answer.FenceReply.{FenceReply}
use Rattle.curp_msg.specs.declared.answer.FenceReply.TheVariants as fence
use Rattle.curp_msg.specs.declared.answer.GcAnswer.{GcAnswer}
use Rattle.curp_msg.specs.declared.answer.GcAnswer.TheVariants as collection
use Rattle.curp_msg.specs.declared.body.Body.{Body}
use Rattle.curp_msg.specs.declared.body.Body.TheVariants as body
use Rattle.curp_msg.specs.declared.body.Recover.{Recover}
use Rattle.curp_msg.specs.declared.config.Config.{Config}
use Rattle.curp_msg.specs.declared.config.PartConfig.{PartConfig}
use Rattle.curp_fields.specs.Fields.{append_fields, body_parts, collected_fields, collection_answer, config_fields, entries, fence_answer_fields, fence_reply, gc_fields, ids, nodes, parcel_fields, part_fields, prepare_fields, recover_fields, requests, spans}
use Rattle.curp_fields.specs.Encoded.{are_encoded_entries, are_encoded_nodes, has_count, has_fields, is_encoded_collection, is_encoded_config, is_encoded_entry, is_encoded_package, is_encoded_part, is_encoded_recover, is_encoded_reply}
use Rattle.curp_fields.specs.Encoding.{AreEntries, AreNodes, HasFields, IsCollection, IsConfig, IsFenceReply, IsNamed, IsPart, IsRecover}

-- ---- what passes has an encoding

counts : (n : ℕ) → has_count n ≡ true → n < 2 ^ 32
counts n h = omega (arith, leb-true n 4294967295 h)

each_of : {A : Type 0} (p : A → Bool) (Q : A → Type 0) → ((x : A) → p x ≡ true → Q x) → (xs : List A) → list_all p xs ≡ true → Each Q xs
each_of p Q h [] e = tt
each_of p Q h (x ∷ xs) e =
    let parts = and_parts (p x) (list_all p xs) e in
    (h x parts.0, each_of p Q h xs parts.1)

nodes_of : (ns : List NodeId) → are_encoded_nodes ns ≡ true → AreNodes ns
nodes_of ns h =
    let parts = and_parts (has_count (length ns)) (list_all is_node ns) h in
    record { short = counts (length ns) parts.0; named = each_of is_node IsNamed (λ n e. e) ns parts.1 }

package_of : (p : Package) → is_encoded_package p ≡ true → HasPackageEncoding p
package_of p h =
    let last = and_parts (has_count (length p.pairs) && has_count (length p.table.records) && has_count (length p.table.firsts)) (has_count (length p.table.gone)) h in
    let mid = and_parts (has_count (length p.pairs) && has_count (length p.table.records)) (has_count (length p.table.firsts)) last.0 in
    let first = and_parts (has_count (length p.pairs)) (has_count (length p.table.records)) mid.0 in
    record {
      pairs = counts (length p.pairs) first.0;
      table = record {
        records = counts (length p.table.records) first.1;
        firsts = λ s. counts (length p.table.firsts) mid.1;
        gone = λ s. counts (length p.table.gone) last.1;
      };
    }

entry_of : (e : Entry) → is_encoded_entry e ≡ true → HasEncoding e
entry_of (Op request acknowledge) h = tt
entry_of (Take migration taken) h = package_of taken h
entry_of (Give migration given) h = package_of given h
entry_of (Expire client) h = tt

entries_of : (es : List Entry) → are_encoded_entries es ≡ true → AreEntries es
entries_of es h =
    let parts = and_parts (has_count (length es)) (list_all is_encoded_entry es) h in
    record { short = counts (length es) parts.0; encoded = each_of is_encoded_entry HasEncoding entry_of es parts.1 }

part_of : (p : PartConfig) → is_encoded_part p ≡ true → IsPart p
part_of p h =
    let last = and_parts (is_node p.master && are_encoded_nodes p.backups && are_encoded_nodes p.witnesses) (has_count (length p.ranges)) h in
    let mid = and_parts (is_node p.master && are_encoded_nodes p.backups) (are_encoded_nodes p.witnesses) last.0 in
    let first = and_parts (is_node p.master) (are_encoded_nodes p.backups) mid.0 in
    record { master = first.0; backups = nodes_of p.backups first.1; witnesses = nodes_of p.witnesses mid.1; ranges = counts (length p.ranges) last.1 }

config_of : (c : Config) → is_encoded_config c ≡ true → IsConfig c
config_of c h =
    let parts = and_parts (has_count (length c.parts)) (list_all is_encoded_part c.parts) h in
    record { short = counts (length c.parts) parts.0; parts = each_of is_encoded_part IsPart part_of c.parts parts.1 }

recover_of : (r : Recover) → is_encoded_recover r ≡ true → IsRecover r
recover_of r h =
    let last = and_parts (is_node r.backup && is_node r.witness && are_encoded_nodes r.backups) (are_encoded_nodes r.witnesses) h in
    let mid = and_parts (is_node r.backup && is_node r.witness) (are_encoded_nodes r.backups) last.0 in
    let first = and_parts (is_node r.backup) (is_node r.witness) mid.0 in
    record { backup = first.0; witness = first.1; backups = nodes_of r.backups mid.1; witnesses = nodes_of r.witnesses last.1 }

collection_of : (c : GcAnswer) → is_encoded_collection c ≡ true → IsCollection c
collection_of (collection.Suspects suspects) h = counts (length suspects) h
collection_of (collection.Stranger epoch) h = tt

reply_of : (r : FenceReply) → is_encoded_reply r ≡ true → IsFenceReply r
reply_of (fence.Log log) h = entries_of log h
reply_of (fence.Fenced epoch) h = tt

pub fields_of : (b : Body) → has_fields b ≡ true → HasFields b
fields_of (body.Configuration config) h = config_of config h
fields_of (body.Append append) h = entries_of append.entries h
fields_of (body.Gc gc) h = counts (length gc.ids) h
fields_of (body.Collected collected) h = collection_of collected.answer h
fields_of (body.Recover recover) h = recover_of recover h
fields_of (body.FenceAnswer answer) h = reply_of answer.answer h
fields_of (body.FrozenAnswer held) h = counts (length held) h
fields_of (body.Prepare prepare) h =
    let lists = and_parts (are_encoded_nodes prepare.backups) (are_encoded_nodes prepare.witnesses) h in
    record { backups = nodes_of prepare.backups lists.0; witnesses = nodes_of prepare.witnesses lists.1 }
fields_of (body.Taken parcel) h = package_of parcel.package h
fields_of (body.GiveIn parcel) h = package_of parcel.package h
fields_of _ h = tt

-- ---- what has an encoding passes

counted : (n : ℕ) → u32.Fits n → has_count n ≡ true
unfolding u32
counted n f = le-leb n 4294967295 (omega (arith, f))

each_passes : {A : Type 0} (p : A → Bool) (Q : A → Type 0) → ((x : A) → Q x → p x ≡ true) → (xs : List A) → Each Q xs → list_all p xs ≡ true
each_passes p Q h [] each = refl
each_passes p Q h (x ∷ xs) each = and_from (p x) (list_all p xs) (h x each.0) (each_passes p Q h xs each.1)

pub node_passes : (n : NodeId) → node.Fits n → is_node n ≡ true
unfolding node
node_passes n f = f.named

nodes_pass : (ns : List NodeId) → nodes.Fits ns → are_encoded_nodes ns ≡ true
unfolding nodes
nodes_pass ns f = and_from (has_count (length ns)) (list_all is_node ns) (counted (length ns) f.0) (each_passes is_node node.Fits node_passes ns f.1)

package_passes : (p : Package) → package_format.Fits p → is_encoded_package p ≡ true
unfolding package_format pairs table records firsts gone
package_passes p f =
    let a = and_from (has_count (length p.pairs)) (has_count (length p.table.records)) (counted (length p.pairs) f.1.0.0) (counted (length p.table.records) f.1.1.0.0) in
    let b = and_from (has_count (length p.pairs) && has_count (length p.table.records)) (has_count (length p.table.firsts)) a (counted (length p.table.firsts) f.1.1.1.0.0) in
    and_from (has_count (length p.pairs) && has_count (length p.table.records) && has_count (length p.table.firsts)) (has_count (length p.table.gone)) b (counted (length p.table.gone) f.1.1.1.1.0)

entry_passes : (e : Entry) → entry.Fits e → is_encoded_entry e ≡ true
unfolding entry
entry_passes (Op request acknowledge) f = refl
entry_passes (Take migration taken) f = package_passes taken f.1
entry_passes (Give migration given) f = package_passes given f.1
entry_passes (Expire client) f = refl

entries_pass : (es : List Entry) → entries.Fits es → are_encoded_entries es ≡ true
unfolding entries
entries_pass es f = and_from (has_count (length es)) (list_all is_encoded_entry es) (counted (length es) f.0) (each_passes is_encoded_entry entry.Fits entry_passes es f.1)

part_passes : (p : PartConfig) → part_fields.Fits p → is_encoded_part p ≡ true
unfolding part_fields spans
part_passes p f =
    let a = and_from (is_node p.master) (are_encoded_nodes p.backups) (node_passes p.master f.1.1.1.0) (nodes_pass p.backups f.1.1.1.1.0) in
    let b = and_from (is_node p.master && are_encoded_nodes p.backups) (are_encoded_nodes p.witnesses) a (nodes_pass p.witnesses f.1.1.1.1.1.0) in
    and_from (is_node p.master && are_encoded_nodes p.backups && are_encoded_nodes p.witnesses) (has_count (length p.ranges)) b (counted (length p.ranges) f.1.1.1.1.1.1.0)

config_passes : (c : Config) → config_fields.Fits c → is_encoded_config c ≡ true
unfolding config_fields
config_passes c f = and_from (has_count (length c.parts)) (list_all is_encoded_part c.parts) (counted (length c.parts) f.1.0) (each_passes is_encoded_part part_fields.Fits part_passes c.parts f.1.1)

recover_passes : (r : Recover) → recover_fields.Fits r → is_encoded_recover r ≡ true
unfolding recover_fields
recover_passes r f =
    let a = and_from (is_node r.backup) (is_node r.witness) (node_passes r.backup f.1.1.1.0) (node_passes r.witness f.1.1.1.1.0) in
    let b = and_from (is_node r.backup && is_node r.witness) (are_encoded_nodes r.backups) a (nodes_pass r.backups f.1.1.1.1.1.0) in
    and_from (is_node r.backup && is_node r.witness && are_encoded_nodes r.backups) (are_encoded_nodes r.witnesses) b (nodes_pass r.witnesses f.1.1.1.1.1.1.0)

collection_passes : (c : GcAnswer) → collection_answer.Fits c → is_encoded_collection c ≡ true
unfolding collection_answer requests
collection_passes (collection.Suspects suspects) f = counted (length suspects) f.0
collection_passes (collection.Stranger epoch) f = refl

reply_passes : (r : FenceReply) → fence_reply.Fits r → is_encoded_reply r ≡ true
unfolding fence_reply
reply_passes (fence.Log log) f = entries_pass log f
reply_passes (fence.Fenced epoch) f = refl

pub fields_pass : (b : Body) → (body_parts b).Fits → has_fields b ≡ true
unfolding append_fields gc_fields ids collected_fields fence_answer_fields requests prepare_fields parcel_fields
fields_pass (body.Configuration config) f = config_passes config f
fields_pass (body.Append append) f = entries_pass append.entries f.1.1.1
fields_pass (body.Gc gc) f = counted (length gc.ids) f.1.0
fields_pass (body.Collected collected) f = collection_passes collected.answer f.1
fields_pass (body.Recover recover) f = recover_passes recover f
fields_pass (body.FenceAnswer answer) f = reply_passes answer.answer f.1
fields_pass (body.FrozenAnswer held) f = counted (length held) f.0
fields_pass (body.Prepare prepare) f =
    and_from (are_encoded_nodes prepare.backups) (are_encoded_nodes prepare.witnesses) (nodes_pass prepare.backups f.1.0) (nodes_pass prepare.witnesses f.1.1)
fields_pass (body.Taken parcel) f = package_passes parcel.package f.1
fields_pass (body.GiveIn parcel) f = package_passes parcel.package f.1
fields_pass _ f = refl
