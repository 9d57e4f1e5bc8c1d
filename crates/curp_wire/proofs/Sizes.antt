-- How long the fields of a light message are at most.
use Rattle.std.proofs.Common.{◌≡◌, ℕ, ◌+◌, ◌-◌, ◌*◌, ◌^◌, ◌<◌, ◌≤◌, Bool, true, ◌&&◌, List, [], ◌∷◌, ◌++◌, length, map, min, Option, Some, None, refl, sym, ap, subst, ◌∙◌, arith}
use Rattle.std.proofs.lemmas.Bool.{and_parts, leb-true}
use Rattle.std.proofs.lemmas.List.{length-append}
use Rattle.std.specs.List.{flat_map, list_all, sum}
use Rattle.curp_base.specs.Words.{Each}
use Rattle.curp_cmd.specs.declared.command.Request.{Request}
use Rattle.curp_cmd.specs.declared.command.RequestId.{RequestId}
use Rattle.curp_cmd.specs.declared.entry.Entry.{Entry}
use Rattle.curp_cmd.specs.declared.node.NodeId.{NodeId}
use Rattle.curp_items.specs.Format.{list_of, optional, ◌▸◌}
use Rattle.curp_items.specs.Items.{answer, bounds, entry, id, is_node, node, package_format, request, truth, u32, u64}
use Rattle.curp_items.specs.declared.bounds.Bounds.{Bounds}
use Rattle.curp_msg.specs.Weight.{carried, collection_weight, entries_weight, fence_weight, package_weight, part_weight}
use Rattle.curp_msg.specs.declared.answer.AppendAnswer.{AppendAnswer}
use Rattle.curp_msg.specs.declared.answer.AppendAnswer.TheVariants as append
use Rattle.curp_msg.specs.declared.answer.FenceReply.{FenceReply}
use Rattle.curp_msg.specs.declared.answer.FenceReply.TheVariants as fence
use Rattle.curp_msg.specs.declared.answer.GcAnswer.{GcAnswer}
use Rattle.curp_msg.specs.declared.answer.GcAnswer.TheVariants as collection
use Rattle.curp_msg.specs.declared.answer.Reason.{Reason}
use Rattle.curp_msg.specs.declared.answer.Reason.TheVariants as reason
use Rattle.curp_msg.specs.declared.answer.Refusal.{Refusal}
use Rattle.curp_msg.specs.declared.answer.Refusal.TheVariants as refusal
use Rattle.curp_msg.specs.declared.body.Accepted.{Accepted}
use Rattle.curp_msg.specs.declared.body.Adopted.{Adopted}
use Rattle.curp_msg.specs.declared.body.Append.{Append}
use Rattle.curp_msg.specs.declared.body.Appended.{Appended}
use Rattle.curp_msg.specs.declared.body.Ask.{Ask}
use Rattle.curp_msg.specs.declared.body.Body.{Body}
use Rattle.curp_msg.specs.declared.body.Body.TheVariants as body
use Rattle.curp_msg.specs.declared.body.Collected.{Collected}
use Rattle.curp_msg.specs.declared.body.FenceAnswer.{FenceAnswer}
use Rattle.curp_msg.specs.declared.body.Gc.{Gc}
use Rattle.curp_msg.specs.declared.body.Parcel.{Parcel}
use Rattle.curp_msg.specs.declared.body.Prepare.{Prepare}
use Rattle.curp_msg.specs.declared.body.Probe.{Probe}
use Rattle.curp_msg.specs.declared.body.Probed.{Probed}
use Rattle.curp_msg.specs.declared.body.Quick.{Quick}
use Rattle.curp_msg.specs.declared.body.Record.{Record}
use Rattle.curp_msg.specs.declared.body.Recover.{Recover}
use Rattle.curp_msg.specs.declared.body.Recovered.{Recovered}
use Rattle.curp_msg.specs.declared.body.Refuse.{Refuse}
use Rattle.curp_msg.specs.declared.body.Rejected.{Rejected}
use Rattle.curp_msg.specs.declared.body.Reply.{Reply}
use Rattle.curp_msg.specs.declared.body.Start.{Start}
use Rattle.curp_msg.specs.declared.body.TakeOut.{TakeOut}
use Rattle.curp_msg.specs.declared.body.Worth.{Worth}
use Rattle.curp_msg.specs.declared.config.Config.{Config}
use Rattle.curp_msg.specs.declared.config.PartConfig.{PartConfig}
use Rattle.curp_range.specs.Spans.{Span}
use Rattle.curp_wire.proofs.ItemSizes.{all_each, answer_size, bounds_size, flat_entries, flat_size, id_size, node_size, package_size, request_most, truth_size, u32_size, u64_size, weights-cons}
use Rattle.curp_fields.specs.Fields.{accepted_fields, adopted_fields, append_answer, append_fields, appended_fields, ask_fields, body_parts, collected_fields, collection_answer, config_fields, entries, fence_answer_fields, fence_reply, gc_fields, ids, nodes, parcel_fields, part_fields, prepare_fields, probe_fields, probed_fields, quick_fields, reason_format, record_fields, recover_fields, recovered_fields, refusal_format, refuse_fields, rejected_fields, reply_fields, requests, spans, start_fields, take_out_fields, worth_fields}
use Rattle.curp_wire.specs.Light.{are_light_nodes, is_light_body, is_light_collection, is_light_entry, is_light_package, is_light_part, is_light_reply}

-- ---- answers that say why or what

refusal_size : (r : Refusal) → refusal_format.Fits r → length (refusal_format.of r) ≤ 5
unfolding refusal_format
refusal_size (refusal.Version current) f = omega (arith, u32_size current)
refusal_size (refusal.Epoch current) f = omega (arith, u32_size current)
refusal_size refusal.NotOwner f = omega arith
refusal_size (refusal.Stale first) f = omega (arith, u32_size first)
refusal_size refusal.InProgress f = omega arith
refusal_size refusal.Expired f = omega arith
refusal_size refusal.Switching f = omega arith

reason_size : (r : Reason) → reason_format.Fits r → length (reason_format.of r) ≤ 9
unfolding reason_format
reason_size (reason.Conflict held) f = omega (arith, id_size held)
reason_size (reason.SetFull set) f = omega (arith, u32_size set)
reason_size reason.Frozen f = omega arith
reason_size (reason.Stranger epoch) f = omega (arith, u32_size epoch)
reason_size reason.Idle f = omega arith

append_answer_size : (a : AppendAnswer) → append_answer.Fits a → length (append_answer.of a) ≤ 9
unfolding append_answer
append_answer_size (append.Stored n) f = omega (arith, u64_size n)
append_answer_size (append.Fenced epoch) f = omega (arith, u32_size epoch)
append_answer_size (append.Gap n) f = omega (arith, u64_size n)
append_answer_size append.NotInstalled f = omega arith

-- ---- lists

id_fits_size : (i : RequestId) → id.Fits i → length (id.of i) ≤ 8
id_fits_size i f = omega (arith, id_size i)

node_fits_size : (n : NodeId) → node.Fits n → length (node.of n) ≤ 5
node_fits_size n f = omega (arith, node_size n)

span_size : (s : Span) → (u64 ▸ u64).Fits s → length ((u64 ▸ u64).of s) ≤ 16
span_size s f = omega (arith, length-append (u64.of s.0) (u64.of s.1), u64_size s.0, u64_size s.1)

ids_size : (is : List RequestId) → ids.Fits is → length (ids.of is) ≤ 4 + 8 * length is
unfolding ids
ids_size is f = omega (arith, length-append (u32.of (length is)) (flat_map id.of is), u32_size (length is), flat_size id.of id.Fits 8 id_fits_size is f.1)

requests_size : (rs : List Request) → requests.Fits rs → length (requests.of rs) ≤ 4 + 662 * length rs
unfolding requests
requests_size rs f = omega (arith, length-append (u32.of (length rs)) (flat_map request.of rs), u32_size (length rs), flat_size request.of request.Fits 662 request_most rs f.1)

entries_size : (es : List Entry) → entries.Fits es → list_all is_light_entry es ≡ true → length (entries.of es) ≤ 4 + 817 * entries_weight es
unfolding entries
entries_size es f l = omega (arith, length-append (u32.of (length es)) (flat_map entry.of es), u32_size (length es), flat_entries es f.1 (all_each is_light_entry es l))

nodes_size : (ns : List NodeId) → nodes.Fits ns → are_light_nodes ns ≡ true → length (nodes.of ns) ≤ 29
unfolding nodes
nodes_size ns f l =
    omega (arith, length-append (u32.of (length ns)) (flat_map node.of ns), u32_size (length ns), flat_size node.of node.Fits 5 node_fits_size ns f.1, leb-true (length ns) 5 (and_parts _ _ l).0)

spans_size : (ss : List Span) → spans.Fits ss → length (spans.of ss) ≤ 4 + 16 * length ss
unfolding spans
spans_size ss f = omega (arith, length-append (u32.of (length ss)) (flat_map (u64 ▸ u64).of ss), u32_size (length ss), flat_size (u64 ▸ u64).of (u64 ▸ u64).Fits 16 span_size ss f.1)

-- ---- bodies that carry nothing

ask_fields_size : (a : Ask) → ask_fields.Fits a → length (ask_fields.of a) ≤ 1000
unfolding ask_fields
ask_fields_size a f = omega (arith, length-append (request.of a.request) (u32.of a.epoch ++ u32.of a.version), length-append (u32.of a.epoch) (u32.of a.version), request_most a.request f.0, u32_size a.epoch, u32_size a.version)

record_fields_size : (r : Record) → record_fields.Fits r → length (record_fields.of r) ≤ 1000
unfolding record_fields
record_fields_size r f = omega (arith, length-append (request.of r.request) (u32.of r.epoch), request_most r.request f.0, u32_size r.epoch)

reply_fields_size : (r : Reply) → reply_fields.Fits r → length (reply_fields.of r) ≤ 1000
unfolding reply_fields
reply_fields_size r f = omega (arith, length-append (id.of r.id) (truth.of r.synced ++ (u32.of r.epoch ++ (u32.of r.version ++ answer.of r.answer))), length-append (truth.of r.synced) (u32.of r.epoch ++ (u32.of r.version ++ answer.of r.answer)), length-append (u32.of r.epoch) (u32.of r.version ++ answer.of r.answer), length-append (u32.of r.version) (answer.of r.answer), id_size r.id, truth_size r.synced, u32_size r.epoch, u32_size r.version, answer_size r.answer f.1.1.1.1)

worth_fields_size : (w : Worth) → worth_fields.Fits w → length (worth_fields.of w) ≤ 1000
unfolding worth_fields
worth_fields_size w f = omega (arith, length-append (id.of w.id) (u32.of w.epoch ++ (u64.of w.capture ++ answer.of w.answer)), length-append (u32.of w.epoch) (u64.of w.capture ++ answer.of w.answer), length-append (u64.of w.capture) (answer.of w.answer), id_size w.id, u32_size w.epoch, u64_size w.capture, answer_size w.answer f.1.1.1)

refuse_fields_size : (r : Refuse) → refuse_fields.Fits r → length (refuse_fields.of r) ≤ 1000
unfolding refuse_fields
refuse_fields_size r f = omega (arith, length-append (id.of r.id) (refusal_format.of r.refusal), id_size r.id, refusal_size r.refusal f.1)

accepted_fields_size : (a : Accepted) → accepted_fields.Fits a → length (accepted_fields.of a) ≤ 1000
unfolding accepted_fields
accepted_fields_size a f = omega (arith, length-append (id.of a.id) (u32.of a.epoch), id_size a.id, u32_size a.epoch)

rejected_fields_size : (r : Rejected) → rejected_fields.Fits r → length (rejected_fields.of r) ≤ 1000
unfolding rejected_fields
rejected_fields_size r f = omega (arith, length-append (id.of r.id) (reason_format.of r.reason), id_size r.id, reason_size r.reason f.1)

probe_fields_size : (p : Probe) → probe_fields.Fits p → length (probe_fields.of p) ≤ 1000
unfolding probe_fields
probe_fields_size p f = omega (arith, length-append (id.of p.id) (u32.of p.epoch), id_size p.id, u32_size p.epoch)

probed_fields_size : (p : Probed) → probed_fields.Fits p → length (probed_fields.of p) ≤ 1000
unfolding probed_fields
probed_fields_size p f = omega (arith, length-append (id.of p.id) (u32.of p.epoch ++ truth.of p.live), length-append (u32.of p.epoch) (truth.of p.live), id_size p.id, u32_size p.epoch, truth_size p.live)

quick_fields_size : (q : Quick) → quick_fields.Fits q → length (quick_fields.of q) ≤ 1000
unfolding quick_fields
quick_fields_size q f = omega (arith, length-append (id.of q.id) (u32.of q.epoch ++ (u32.of q.version ++ (u64.of q.capture ++ answer.of q.answer))), length-append (u32.of q.epoch) (u32.of q.version ++ (u64.of q.capture ++ answer.of q.answer)), length-append (u32.of q.version) (u64.of q.capture ++ answer.of q.answer), length-append (u64.of q.capture) (answer.of q.answer), id_size q.id, u32_size q.epoch, u32_size q.version, u64_size q.capture, answer_size q.answer f.1.1.1.1)

appended_fields_size : (a : Appended) → appended_fields.Fits a → length (appended_fields.of a) ≤ 1000
unfolding appended_fields
appended_fields_size a f = omega (arith, length-append (u32.of a.epoch) (u64.of a.round ++ append_answer.of a.answer), length-append (u64.of a.round) (append_answer.of a.answer), u32_size a.epoch, u64_size a.round, append_answer_size a.answer f.1.1)

start_fields_size : (s : Start) → start_fields.Fits s → length (start_fields.of s) ≤ 1000
unfolding start_fields
start_fields_size s f = omega (arith, length-append (u32.of s.part) (u32.of s.epoch), u32_size s.part, u32_size s.epoch)

recovered_fields_size : (r : Recovered) → recovered_fields.Fits r → length (recovered_fields.of r) ≤ 1000
unfolding recovered_fields
recovered_fields_size r f = omega (arith, length-append (u32.of r.part) (u32.of r.epoch), u32_size r.part, u32_size r.epoch)

adopted_fields_size : (a : Adopted) → adopted_fields.Fits a → length (adopted_fields.of a) ≤ 1000
unfolding adopted_fields
adopted_fields_size a f = omega (arith, length-append (u32.of a.part) (u32.of a.epoch ++ u32.of a.version), length-append (u32.of a.epoch) (u32.of a.version), u32_size a.part, u32_size a.epoch, u32_size a.version)

take_out_fields_size : (t : TakeOut) → take_out_fields.Fits t → length (take_out_fields.of t) ≤ 1000
unfolding take_out_fields
take_out_fields_size t f = omega (arith, length-append (u32.of t.migration) (bounds.of (record { lo = t.lo; hi = t.hi; ordered = t.ordered })), u32_size t.migration, bounds_size (record { lo = t.lo; hi = t.hi; ordered = t.ordered }))

-- ---- bodies that carry something

append_fields_size : (a : Append) → append_fields.Fits a → list_all is_light_entry a.entries ≡ true → length (append_fields.of a) ≤ 1000 + 817 * entries_weight a.entries
unfolding append_fields
append_fields_size a f l =
    omega (
      arith,
      length-append (u32.of a.epoch) (u64.of a.base ++ (u64.of a.round ++ entries.of a.entries)),
      length-append (u64.of a.base) (u64.of a.round ++ entries.of a.entries),
      length-append (u64.of a.round) (entries.of a.entries),
      u32_size a.epoch,
      u64_size a.base,
      u64_size a.round,
      entries_size a.entries f.1.1.1 l,
    )

gc_fields_size : (g : Gc) → gc_fields.Fits g → length (gc_fields.of g) ≤ 1000 + 817 * length g.ids
unfolding gc_fields
gc_fields_size g f = omega (arith, length-append (u32.of g.epoch) (ids.of g.ids), u32_size g.epoch, ids_size g.ids f.1)

collection_size : (c : GcAnswer) (n : ℕ) → collection_answer.Fits c → n ≡ collection_weight c → length (collection_answer.of c) ≤ 6 + 817 * n
unfolding collection_answer
collection_size (collection.Suspects suspects) n f e = omega (arith, e, requests_size suspects f)
collection_size (collection.Stranger None) n f e = omega arith
collection_size (collection.Stranger (Some epoch)) n f e = omega (arith, u32_size epoch)

collected_fields_size : (c : Collected) → collected_fields.Fits c → length (collected_fields.of c) ≤ 1000 + 817 * collection_weight c.answer
unfolding collected_fields
collected_fields_size c f = omega (arith, length-append (u32.of c.epoch) (collection_answer.of c.answer), u32_size c.epoch, collection_size c.answer (collection_weight c.answer) f.1 refl)

fence_reply_size : (r : FenceReply) (n : ℕ) → fence_reply.Fits r → is_light_reply r ≡ true → n ≡ fence_weight r → length (fence_reply.of r) ≤ 6 + 817 * n
unfolding fence_reply
fence_reply_size (fence.Log log) n f l e = omega (arith, e, entries_size log f l)
fence_reply_size (fence.Fenced epoch) n f l e = omega (arith, u32_size epoch)

fence_answer_fields_size : (a : FenceAnswer) → fence_answer_fields.Fits a → is_light_reply a.answer ≡ true → length (fence_answer_fields.of a) ≤ 1000 + 817 * fence_weight a.answer
unfolding fence_answer_fields
fence_answer_fields_size a f l = omega (arith, length-append (u32.of a.epoch) (fence_reply.of a.answer), u32_size a.epoch, fence_reply_size a.answer (fence_weight a.answer) f.1 l refl)

parcel_fields_size : (p : Parcel) → parcel_fields.Fits p → is_light_package p.package ≡ true → length (parcel_fields.of p) ≤ 1000 + 817 * package_weight p.package
unfolding parcel_fields
parcel_fields_size p f l = omega (arith, length-append (u32.of p.migration) (package_format.of p.package), u32_size p.migration, package_size p.package f.1 l)

recover_fields_size : (r : Recover) → recover_fields.Fits r → are_light_nodes r.backups ≡ true → are_light_nodes r.witnesses ≡ true → length (recover_fields.of r) ≤ 1000
unfolding recover_fields
recover_fields_size r f l m =
    let range : Bounds = record { lo = r.lo; hi = r.hi; ordered = r.ordered } in
    omega (
      arith,
      length-append (u32.of r.part) (u32.of r.epoch ++ (u32.of r.version ++ (node.of r.backup ++ (node.of r.witness ++ (nodes.of r.backups ++ (nodes.of r.witnesses ++ bounds.of range)))))),
      length-append (u32.of r.epoch) (u32.of r.version ++ (node.of r.backup ++ (node.of r.witness ++ (nodes.of r.backups ++ (nodes.of r.witnesses ++ bounds.of range))))),
      length-append (u32.of r.version) (node.of r.backup ++ (node.of r.witness ++ (nodes.of r.backups ++ (nodes.of r.witnesses ++ bounds.of range)))),
      length-append (node.of r.backup) (node.of r.witness ++ (nodes.of r.backups ++ (nodes.of r.witnesses ++ bounds.of range))),
      length-append (node.of r.witness) (nodes.of r.backups ++ (nodes.of r.witnesses ++ bounds.of range)),
      length-append (nodes.of r.backups) (nodes.of r.witnesses ++ bounds.of range),
      length-append (nodes.of r.witnesses) (bounds.of range),
      u32_size r.part,
      u32_size r.epoch,
      u32_size r.version,
      node_size r.backup,
      node_size r.witness,
      nodes_size r.backups f.1.1.1.1.1.0 l,
      nodes_size r.witnesses f.1.1.1.1.1.1.0 m,
      bounds_size range,
    )

prepare_fields_size : (p : Prepare) → prepare_fields.Fits p → are_light_nodes p.backups ≡ true → are_light_nodes p.witnesses ≡ true → length (prepare_fields.of p) ≤ 1000
unfolding prepare_fields
prepare_fields_size p f l m =
    omega (arith, length-append (u32.of p.version) (nodes.of p.backups ++ nodes.of p.witnesses), length-append (nodes.of p.backups) (nodes.of p.witnesses), u32_size p.version, nodes_size p.backups f.1.0 l, nodes_size p.witnesses f.1.1 m)

part_fields_size : (p : PartConfig) → part_fields.Fits p → is_light_part p ≡ true → length (part_fields.of p) ≤ 817 * part_weight p
unfolding part_fields
part_fields_size p f l =
    let lists = and_parts (is_node p.master && are_light_nodes p.backups) (are_light_nodes p.witnesses) l in
    let first = and_parts (is_node p.master) (are_light_nodes p.backups) lists.0 in
    omega (
      arith,
      length-append (u32.of p.part) (u32.of p.epoch ++ (u32.of p.version ++ (node.of p.master ++ (nodes.of p.backups ++ (nodes.of p.witnesses ++ spans.of p.ranges))))),
      length-append (u32.of p.epoch) (u32.of p.version ++ (node.of p.master ++ (nodes.of p.backups ++ (nodes.of p.witnesses ++ spans.of p.ranges)))),
      length-append (u32.of p.version) (node.of p.master ++ (nodes.of p.backups ++ (nodes.of p.witnesses ++ spans.of p.ranges))),
      length-append (node.of p.master) (nodes.of p.backups ++ (nodes.of p.witnesses ++ spans.of p.ranges)),
      length-append (nodes.of p.backups) (nodes.of p.witnesses ++ spans.of p.ranges),
      length-append (nodes.of p.witnesses) (spans.of p.ranges),
      u32_size p.part,
      u32_size p.epoch,
      u32_size p.version,
      node_size p.master,
      nodes_size p.backups f.1.1.1.1.0 first.1,
      nodes_size p.witnesses f.1.1.1.1.1.0 lists.1,
      spans_size p.ranges f.1.1.1.1.1.1,
    )

flat_parts : (ps : List PartConfig) → Each part_fields.Fits ps → Each (λ p. is_light_part p ≡ true) ps → length (flat_map part_fields.of ps) ≤ 817 * sum (map part_weight ps)
flat_parts [] f l = omega arith
flat_parts (p ∷ ps) f l = omega (arith, length-append (part_fields.of p) (flat_map part_fields.of ps), part_fields_size p f.0 l.0, flat_parts ps f.1 l.1, weights-cons part_weight p ps)

config_fields_size : (c : Config) → config_fields.Fits c → list_all is_light_part c.parts ≡ true → length (config_fields.of c) ≤ 1000 + 817 * sum (map part_weight c.parts)
unfolding config_fields
config_fields_size c f l =
    omega (arith, length-append (u32.of c.serial) (u32.of (length c.parts) ++ flat_map part_fields.of c.parts), length-append (u32.of (length c.parts)) (flat_map part_fields.of c.parts), u32_size c.serial, u32_size (length c.parts), flat_parts c.parts f.1.1 (all_each is_light_part c.parts l))

-- ---- all bodies

pub fields_size : (b : Body) → (body_parts b).Fits → is_light_body b ≡ true → length (body_parts b).text ≤ 1000 + 817 * carried b
fields_size (body.Update ask) f l = omega (arith, ask_fields_size ask f)
fields_size (body.Sync ask) f l = omega (arith, ask_fields_size ask f)
fields_size (body.Read ask) f l = omega (arith, ask_fields_size ask f)
fields_size (body.Record r) f l = omega (arith, record_fields_size r f)
fields_size body.Fetch f l = omega arith
fields_size (body.Configuration config) f l = config_fields_size config f (and_parts _ _ l).1
fields_size (body.Reply reply) f l = omega (arith, reply_fields_size reply f)
fields_size (body.Worth worth) f l = omega (arith, worth_fields_size worth f)
fields_size (body.Refuse refuse) f l = omega (arith, refuse_fields_size refuse f)
fields_size (body.Accepted accepted) f l = omega (arith, accepted_fields_size accepted f)
fields_size (body.Rejected rejected) f l = omega (arith, rejected_fields_size rejected f)
fields_size (body.Append a) f l = append_fields_size a f l
fields_size (body.Appended appended) f l = omega (arith, appended_fields_size appended f)
fields_size (body.Gc gc) f l = gc_fields_size gc f
fields_size (body.Collected collected) f l = collected_fields_size collected f
fields_size (body.Install epoch) f l = omega (arith, u32_size epoch)
fields_size (body.Start s) f l = omega (arith, start_fields_size s f)
fields_size (body.Recover recover) f l =
    let last = and_parts (is_node recover.backup && is_node recover.witness && are_light_nodes recover.backups) (are_light_nodes recover.witnesses) l in
    let first = and_parts (is_node recover.backup && is_node recover.witness) (are_light_nodes recover.backups) last.0 in
    omega (arith, recover_fields_size recover f first.1 last.1)
fields_size (body.Fence epoch) f l = omega (arith, u32_size epoch)
fields_size (body.FenceAnswer answer) f l = fence_answer_fields_size answer f l
fields_size (body.Freeze epoch) f l = omega (arith, u32_size epoch)
fields_size (body.FrozenAnswer held) f l = omega (arith, requests_size held f)
fields_size (body.Recovered recovered) f l = omega (arith, recovered_fields_size recovered f)
fields_size (body.Adopted adopted) f l = omega (arith, adopted_fields_size adopted f)
fields_size (body.Prepare prepare) f l =
    let lists = and_parts (are_light_nodes prepare.backups) (are_light_nodes prepare.witnesses) l in
    omega (arith, prepare_fields_size prepare f lists.0 lists.1)
fields_size (body.Prepared version) f l = omega (arith, u32_size version)
fields_size (body.TakeOut take) f l = omega (arith, take_out_fields_size take f)
fields_size (body.Taken parcel) f l = parcel_fields_size parcel f l
fields_size (body.GiveIn parcel) f l = parcel_fields_size parcel f l
fields_size (body.Given migration) f l = omega (arith, u32_size migration)
fields_size (body.ExpireClient client) f l = omega (arith, u32_size client)
fields_size (body.Probe probe) f l = omega (arith, probe_fields_size probe f)
fields_size (body.Probed probed) f l = omega (arith, probed_fields_size probed f)
fields_size (body.Glance ask) f l = omega (arith, ask_fields_size ask f)
fields_size (body.Quick quick) f l = omega (arith, quick_fields_size quick f)
