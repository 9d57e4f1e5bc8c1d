-- The table of messages: a tag and the fields of each body, in order, over the formats of items (this project's own).
use Rattle.std.specs.Prelude.{◌≡◌, ℕ, ◌+◌, ◌≤◌, ◌^◌, nat_le, Bool, List, [], ◌∷◌, Option, Some, None, ⊤}
use Rattle.curp_base.specs.Words.{last_of}
use Rattle.curp_cmd.specs.declared.command.Answer.{Answer}
use Rattle.curp_cmd.specs.declared.command.Request.{Request}
use Rattle.curp_cmd.specs.declared.command.RequestId.{RequestId}
use Rattle.curp_cmd.specs.declared.entry.Entry.{Entry}
use Rattle.curp_cmd.specs.declared.migration.Package.{Package}
use Rattle.curp_cmd.specs.declared.node.NodeId.{NodeId}
use Rattle.curp_items.specs.Format.{Format, Tagged, Variant, list_of, listed, nothing, one_of, only, optional, shaped, tagged, then_by, variant, ◌▸◌}
use Rattle.curp_items.specs.Items.{answer, bounds, entry, id, node, package_format, request, truth, u32, u64}
use Rattle.curp_items.specs.declared.bounds.Bounds.{Bounds}
use Rattle.curp_msg.specs.declared.answer.AppendAnswer.{AppendAnswer}
use Rattle.curp_msg.specs.declared.answer.AppendAnswer.TheVariants as append
use Rattle.curp_msg.specs.declared.answer.FenceReply.{FenceReply}
use Rattle.curp_msg.specs.declared.answer.FenceReply.TheVariants as fence
use Rattle.curp_msg.specs.declared.answer.GcAnswer.{GcAnswer}
use Rattle.curp_msg.specs.declared.answer.GcAnswer.TheVariants as collection
use Rattle.curp_msg.specs.declared.answer.Reason.{Reason}
use Rattle.curp_msg.specs.declared.answer.Reason.TheVariants as reason
use Rattle.curp_msg.specs.declared.answer.Refusal.{Refusal}
use Rattle.curp_msg.specs.declared.answer.Refusal.TheVariants as refusal
use Rattle.curp_msg.specs.declared.body.Accepted.{Accepted}
use Rattle.curp_msg.specs.declared.body.Adopted.{Adopted}
use Rattle.curp_msg.specs.declared.body.Append.{Append}
use Rattle.curp_msg.specs.declared.body.Appended.{Appended}
use Rattle.curp_msg.specs.declared.body.Ask.{Ask}
use Rattle.curp_msg.specs.declared.body.Body.{Body}
use Rattle.curp_msg.specs.declared.body.Body.TheVariants as body
use Rattle.curp_msg.specs.declared.body.Collected.{Collected}
use Rattle.curp_msg.specs.declared.body.FenceAnswer.{FenceAnswer}
use Rattle.curp_msg.specs.declared.body.Gc.{Gc}
use Rattle.curp_msg.specs.declared.body.Parcel.{Parcel}
use Rattle.curp_msg.specs.declared.body.Prepare.{Prepare}
use Rattle.curp_msg.specs.declared.body.Probe.{Probe}
use Rattle.curp_msg.specs.declared.body.Probed.{Probed}
use Rattle.curp_msg.specs.declared.body.Quick.{Quick}
use Rattle.curp_msg.specs.declared.body.Record.{Record}
use Rattle.curp_msg.specs.declared.body.Recover.{Recover}
use Rattle.curp_msg.specs.declared.body.Recovered.{Recovered}
use Rattle.curp_msg.specs.declared.body.Refuse.{Refuse}
use Rattle.curp_msg.specs.declared.body.Rejected.{Rejected}
use Rattle.curp_msg.specs.declared.body.Reply.{Reply}
use Rattle.curp_msg.specs.declared.body.Start.{Start}
use Rattle.curp_msg.specs.declared.body.TakeOut.{TakeOut}
use Rattle.curp_msg.specs.declared.body.Worth.{Worth}
use Rattle.curp_msg.specs.declared.config.Config.{Config}
use Rattle.curp_msg.specs.declared.config.PartConfig.{PartConfig}
use Rattle.curp_range.specs.Spans.{Span, SpansAscend}

-- ---- lists

unfoldable pub ids : Format (List RequestId)
ids = list_of u32 id

unfoldable pub requests : Format (List Request)
requests = list_of u32 request

unfoldable pub entries : Format (List Entry)
entries = list_of u32 entry

unfoldable pub nodes : Format (List NodeId)
nodes = list_of u32 node

-- ---- answers that say why or what

abbrev pub refusal_parts : Refusal → Tagged
refusal_parts (refusal.Version current) = tagged 1 u32 current
refusal_parts (refusal.Epoch current) = tagged 2 u32 current
refusal_parts refusal.NotOwner = tagged 3 nothing tt
refusal_parts (refusal.Stale first) = tagged 4 u32 first
refusal_parts refusal.InProgress = tagged 5 nothing tt
refusal_parts refusal.Expired = tagged 6 nothing tt
refusal_parts refusal.Switching = tagged 7 nothing tt

abbrev pub refusal_variants : List (Variant Refusal)
refusal_variants =
    variant 1 u32 refusal.Version
    ∷ variant 2 u32 refusal.Epoch
    ∷ variant 3 nothing (λ x. refusal.NotOwner)
    ∷ variant 4 u32 refusal.Stale
    ∷ variant 5 nothing (λ x. refusal.InProgress)
    ∷ variant 6 nothing (λ x. refusal.Expired)
    ∷ variant 7 nothing (λ x. refusal.Switching)
    ∷ []

unfoldable pub refusal_format : Format Refusal
refusal_format = one_of refusal_parts refusal_variants

abbrev pub reason_parts : Reason → Tagged
reason_parts (reason.Conflict held) = tagged 1 id held
reason_parts (reason.SetFull set) = tagged 2 u32 set
reason_parts reason.Frozen = tagged 3 nothing tt
reason_parts (reason.Stranger epoch) = tagged 4 u32 epoch
reason_parts reason.Idle = tagged 5 nothing tt

abbrev pub reason_variants : List (Variant Reason)
reason_variants =
    variant 1 id reason.Conflict
    ∷ variant 2 u32 reason.SetFull
    ∷ variant 3 nothing (λ x. reason.Frozen)
    ∷ variant 4 u32 reason.Stranger
    ∷ variant 5 nothing (λ x. reason.Idle)
    ∷ []

unfoldable pub reason_format : Format Reason
reason_format = one_of reason_parts reason_variants

abbrev pub append_parts : AppendAnswer → Tagged
append_parts (append.Stored length) = tagged 0 u64 length
append_parts (append.Fenced epoch) = tagged 1 u32 epoch
append_parts (append.Gap length) = tagged 2 u64 length
append_parts append.NotInstalled = tagged 3 nothing tt

abbrev pub append_variants : List (Variant AppendAnswer)
append_variants =
    variant 0 u64 append.Stored
    ∷ variant 1 u32 append.Fenced
    ∷ variant 2 u64 append.Gap
    ∷ variant 3 nothing (λ x. append.NotInstalled)
    ∷ []

unfoldable pub append_answer : Format AppendAnswer
append_answer = one_of append_parts append_variants

abbrev pub collection_parts : GcAnswer → Tagged
collection_parts (collection.Suspects suspects) = tagged 0 requests suspects
collection_parts (collection.Stranger epoch) = tagged 1 (optional u32) epoch

abbrev pub collection_variants : List (Variant GcAnswer)
collection_variants = variant 0 requests collection.Suspects ∷ variant 1 (optional u32) collection.Stranger ∷ []

unfoldable pub collection_answer : Format GcAnswer
collection_answer = one_of collection_parts collection_variants

abbrev pub fence_parts : FenceReply → Tagged
fence_parts (fence.Log log) = tagged 0 entries log
fence_parts (fence.Fenced epoch) = tagged 1 u32 epoch

abbrev pub fence_variants : List (Variant FenceReply)
fence_variants = variant 0 entries fence.Log ∷ variant 1 u32 fence.Fenced ∷ []

unfoldable pub fence_reply : Format FenceReply
fence_reply = one_of fence_parts fence_variants

-- ---- configurations

-- a span whose first hash is at least this, and not above its last
unfoldable pub span_from : ℕ → Format Span
span_from least = then_by (only (λ lo. nat_le least lo) u64) (λ lo. only (λ hi. nat_le lo hi) u64)

-- the least first hash of a span behind another: one that touches neither
abbrev pub least_after : Option Span → ℕ
least_after None = 0
least_after (Some span) = span.1 + 2

-- what is kept of that hash: there is none from 2^64 on
abbrev pub IsLeast : Option ℕ → ℕ → Type 0
IsLeast None from = 2 ^ 64 ≤ from
IsLeast (Some least) from = least ≡ from

unfoldable pub spans : Format (List Span)
spans = listed u32 (u64 ▸ u64) SpansAscend (λ before. span_from (least_after (last_of before)))

abbrev pub part_made : ℕ × (ℕ × (ℕ × (NodeId × (List NodeId × (List NodeId × List Span))))) → PartConfig
part_made p = record { part = p.0; epoch = p.1.0; version = p.1.1.0; master = p.1.1.1.0; backups = p.1.1.1.1.0; witnesses = p.1.1.1.1.1.0; ranges = p.1.1.1.1.1.1 }

abbrev pub part_parts : PartConfig → ℕ × (ℕ × (ℕ × (NodeId × (List NodeId × (List NodeId × List Span)))))
part_parts p = (p.part, (p.epoch, (p.version, (p.master, (p.backups, (p.witnesses, p.ranges))))))

unfoldable pub part_fields : Format PartConfig
part_fields = shaped part_made part_parts (u32 ▸ u32 ▸ u32 ▸ node ▸ nodes ▸ nodes ▸ spans)

abbrev pub config_made : ℕ × List PartConfig → Config
config_made p = record { serial = p.0; parts = p.1 }

abbrev pub config_parts : Config → ℕ × List PartConfig
config_parts c = (c.serial, c.parts)

unfoldable pub config_fields : Format Config
config_fields = shaped config_made config_parts (u32 ▸ list_of u32 part_fields)

-- ---- requests and their answers

abbrev pub ask_made : Request × (ℕ × ℕ) → Ask
ask_made p = record { request = p.0; epoch = p.1.0; version = p.1.1 }

abbrev pub ask_parts : Ask → Request × (ℕ × ℕ)
ask_parts a = (a.request, (a.epoch, a.version))

unfoldable pub ask_fields : Format Ask
ask_fields = shaped ask_made ask_parts (request ▸ u32 ▸ u32)

abbrev pub record_made : Request × ℕ → Record
record_made p = record { request = p.0; epoch = p.1 }

abbrev pub record_parts : Record → Request × ℕ
record_parts r = (r.request, r.epoch)

unfoldable pub record_fields : Format Record
record_fields = shaped record_made record_parts (request ▸ u32)

abbrev pub reply_made : RequestId × (Bool × (ℕ × (ℕ × Answer))) → Reply
reply_made p = record { id = p.0; synced = p.1.0; epoch = p.1.1.0; version = p.1.1.1.0; answer = p.1.1.1.1 }

abbrev pub reply_parts : Reply → RequestId × (Bool × (ℕ × (ℕ × Answer)))
reply_parts r = (r.id, (r.synced, (r.epoch, (r.version, r.answer))))

unfoldable pub reply_fields : Format Reply
reply_fields = shaped reply_made reply_parts (id ▸ truth ▸ u32 ▸ u32 ▸ answer)

abbrev pub worth_made : RequestId × (ℕ × (ℕ × Answer)) → Worth
worth_made p = record { id = p.0; epoch = p.1.0; capture = p.1.1.0; answer = p.1.1.1 }

abbrev pub worth_parts : Worth → RequestId × (ℕ × (ℕ × Answer))
worth_parts w = (w.id, (w.epoch, (w.capture, w.answer)))

unfoldable pub worth_fields : Format Worth
worth_fields = shaped worth_made worth_parts (id ▸ u32 ▸ u64 ▸ answer)

abbrev pub refuse_made : RequestId × Refusal → Refuse
refuse_made p = record { id = p.0; refusal = p.1 }

abbrev pub refuse_parts : Refuse → RequestId × Refusal
refuse_parts r = (r.id, r.refusal)

unfoldable pub refuse_fields : Format Refuse
refuse_fields = shaped refuse_made refuse_parts (id ▸ refusal_format)

abbrev pub accepted_made : RequestId × ℕ → Accepted
accepted_made p = record { id = p.0; epoch = p.1 }

abbrev pub accepted_parts : Accepted → RequestId × ℕ
accepted_parts a = (a.id, a.epoch)

unfoldable pub accepted_fields : Format Accepted
accepted_fields = shaped accepted_made accepted_parts (id ▸ u32)

abbrev pub rejected_made : RequestId × Reason → Rejected
rejected_made p = record { id = p.0; reason = p.1 }

abbrev pub rejected_parts : Rejected → RequestId × Reason
rejected_parts r = (r.id, r.reason)

unfoldable pub rejected_fields : Format Rejected
rejected_fields = shaped rejected_made rejected_parts (id ▸ reason_format)

abbrev pub probe_made : RequestId × ℕ → Probe
probe_made p = record { id = p.0; epoch = p.1 }

abbrev pub probe_parts : Probe → RequestId × ℕ
probe_parts p = (p.id, p.epoch)

unfoldable pub probe_fields : Format Probe
probe_fields = shaped probe_made probe_parts (id ▸ u32)

abbrev pub probed_made : RequestId × (ℕ × Bool) → Probed
probed_made p = record { id = p.0; epoch = p.1.0; live = p.1.1 }

abbrev pub probed_parts : Probed → RequestId × (ℕ × Bool)
probed_parts p = (p.id, (p.epoch, p.live))

unfoldable pub probed_fields : Format Probed
probed_fields = shaped probed_made probed_parts (id ▸ u32 ▸ truth)

abbrev pub quick_made : RequestId × (ℕ × (ℕ × (ℕ × Answer))) → Quick
quick_made p = record { id = p.0; epoch = p.1.0; version = p.1.1.0; capture = p.1.1.1.0; answer = p.1.1.1.1 }

abbrev pub quick_parts : Quick → RequestId × (ℕ × (ℕ × (ℕ × Answer)))
quick_parts q = (q.id, (q.epoch, (q.version, (q.capture, q.answer))))

unfoldable pub quick_fields : Format Quick
quick_fields = shaped quick_made quick_parts (id ▸ u32 ▸ u32 ▸ u64 ▸ answer)

-- ---- masters with backups and witnesses

abbrev pub append_made : ℕ × (ℕ × (ℕ × List Entry)) → Append
append_made p = record { epoch = p.0; base = p.1.0; round = p.1.1.0; entries = p.1.1.1 }

abbrev pub append_fields_of : Append → ℕ × (ℕ × (ℕ × List Entry))
append_fields_of a = (a.epoch, (a.base, (a.round, a.entries)))

unfoldable pub append_fields : Format Append
append_fields = shaped append_made append_fields_of (u32 ▸ u64 ▸ u64 ▸ entries)

abbrev pub appended_made : ℕ × (ℕ × AppendAnswer) → Appended
appended_made p = record { epoch = p.0; round = p.1.0; answer = p.1.1 }

abbrev pub appended_parts : Appended → ℕ × (ℕ × AppendAnswer)
appended_parts a = (a.epoch, (a.round, a.answer))

unfoldable pub appended_fields : Format Appended
appended_fields = shaped appended_made appended_parts (u32 ▸ u64 ▸ append_answer)

abbrev pub gc_made : ℕ × List RequestId → Gc
gc_made p = record { epoch = p.0; ids = p.1 }

abbrev pub gc_parts : Gc → ℕ × List RequestId
gc_parts g = (g.epoch, g.ids)

unfoldable pub gc_fields : Format Gc
gc_fields = shaped gc_made gc_parts (u32 ▸ ids)

abbrev pub collected_made : ℕ × GcAnswer → Collected
collected_made p = record { epoch = p.0; answer = p.1 }

abbrev pub collected_parts : Collected → ℕ × GcAnswer
collected_parts c = (c.epoch, c.answer)

unfoldable pub collected_fields : Format Collected
collected_fields = shaped collected_made collected_parts (u32 ▸ collection_answer)

abbrev pub fence_answer_made : ℕ × FenceReply → FenceAnswer
fence_answer_made p = record { epoch = p.0; answer = p.1 }

abbrev pub fence_answer_parts : FenceAnswer → ℕ × FenceReply
fence_answer_parts f = (f.epoch, f.answer)

unfoldable pub fence_answer_fields : Format FenceAnswer
fence_answer_fields = shaped fence_answer_made fence_answer_parts (u32 ▸ fence_reply)

-- ---- the manager with all

abbrev pub start_made : ℕ × ℕ → Start
start_made p = record { part = p.0; epoch = p.1 }

abbrev pub start_parts : Start → ℕ × ℕ
start_parts s = (s.part, s.epoch)

unfoldable pub start_fields : Format Start
start_fields = shaped start_made start_parts (u32 ▸ u32)

abbrev pub recover_made : ℕ × (ℕ × (ℕ × (NodeId × (NodeId × (List NodeId × (List NodeId × Bounds)))))) → Recover
recover_made p = record {
  part = p.0;
  epoch = p.1.0;
  version = p.1.1.0;
  backup = p.1.1.1.0;
  witness = p.1.1.1.1.0;
  backups = p.1.1.1.1.1.0;
  witnesses = p.1.1.1.1.1.1.0;
  lo = p.1.1.1.1.1.1.1.lo;
  hi = p.1.1.1.1.1.1.1.hi;
  ordered = p.1.1.1.1.1.1.1.ordered;
}

abbrev pub recover_parts : Recover → ℕ × (ℕ × (ℕ × (NodeId × (NodeId × (List NodeId × (List NodeId × Bounds))))))
recover_parts r = (r.part, (r.epoch, (r.version, (r.backup, (r.witness, (r.backups, (r.witnesses, record { lo = r.lo; hi = r.hi; ordered = r.ordered })))))))

unfoldable pub recover_fields : Format Recover
recover_fields = shaped recover_made recover_parts (u32 ▸ u32 ▸ u32 ▸ node ▸ node ▸ nodes ▸ nodes ▸ bounds)

abbrev pub recovered_made : ℕ × ℕ → Recovered
recovered_made p = record { part = p.0; epoch = p.1 }

abbrev pub recovered_parts : Recovered → ℕ × ℕ
recovered_parts r = (r.part, r.epoch)

unfoldable pub recovered_fields : Format Recovered
recovered_fields = shaped recovered_made recovered_parts (u32 ▸ u32)

abbrev pub adopted_made : ℕ × (ℕ × ℕ) → Adopted
adopted_made p = record { part = p.0; epoch = p.1.0; version = p.1.1 }

abbrev pub adopted_parts : Adopted → ℕ × (ℕ × ℕ)
adopted_parts a = (a.part, (a.epoch, a.version))

unfoldable pub adopted_fields : Format Adopted
adopted_fields = shaped adopted_made adopted_parts (u32 ▸ u32 ▸ u32)

abbrev pub prepare_made : ℕ × (List NodeId × List NodeId) → Prepare
prepare_made p = record { version = p.0; backups = p.1.0; witnesses = p.1.1 }

abbrev pub prepare_parts : Prepare → ℕ × (List NodeId × List NodeId)
prepare_parts p = (p.version, (p.backups, p.witnesses))

unfoldable pub prepare_fields : Format Prepare
prepare_fields = shaped prepare_made prepare_parts (u32 ▸ nodes ▸ nodes)

abbrev pub take_out_made : ℕ × Bounds → TakeOut
take_out_made p = record { migration = p.0; lo = p.1.lo; hi = p.1.hi; ordered = p.1.ordered }

abbrev pub take_out_parts : TakeOut → ℕ × Bounds
take_out_parts t = (t.migration, record { lo = t.lo; hi = t.hi; ordered = t.ordered })

unfoldable pub take_out_fields : Format TakeOut
take_out_fields = shaped take_out_made take_out_parts (u32 ▸ bounds)

abbrev pub parcel_made : ℕ × Package → Parcel
parcel_made p = record { migration = p.0; «package» = p.1 }

abbrev pub parcel_parts : Parcel → ℕ × Package
parcel_parts p = (p.migration, p.package)

unfoldable pub parcel_fields : Format Parcel
parcel_fields = shaped parcel_made parcel_parts (u32 ▸ package_format)

-- ---- bodies

abbrev pub body_parts : Body → Tagged
body_parts (body.Update ask) = tagged 1 ask_fields ask
body_parts (body.Sync ask) = tagged 2 ask_fields ask
body_parts (body.Read ask) = tagged 3 ask_fields ask
body_parts (body.Record r) = tagged 4 record_fields r
body_parts body.Fetch = tagged 5 nothing tt
body_parts (body.Configuration config) = tagged 6 config_fields config
body_parts (body.Reply reply) = tagged 7 reply_fields reply
body_parts (body.Worth worth) = tagged 8 worth_fields worth
body_parts (body.Refuse refuse) = tagged 9 refuse_fields refuse
body_parts (body.Accepted accepted) = tagged 10 accepted_fields accepted
body_parts (body.Rejected rejected) = tagged 11 rejected_fields rejected
body_parts (body.Append a) = tagged 12 append_fields a
body_parts (body.Appended appended) = tagged 13 appended_fields appended
body_parts (body.Gc gc) = tagged 14 gc_fields gc
body_parts (body.Collected collected) = tagged 15 collected_fields collected
body_parts (body.Install epoch) = tagged 16 u32 epoch
body_parts (body.Start start) = tagged 17 start_fields start
body_parts (body.Recover recover) = tagged 18 recover_fields recover
body_parts (body.Fence epoch) = tagged 19 u32 epoch
body_parts (body.FenceAnswer f) = tagged 20 fence_answer_fields f
body_parts (body.Freeze epoch) = tagged 21 u32 epoch
body_parts (body.FrozenAnswer held) = tagged 22 requests held
body_parts (body.Recovered recovered) = tagged 23 recovered_fields recovered
body_parts (body.Adopted adopted) = tagged 24 adopted_fields adopted
body_parts (body.Prepare prepare) = tagged 25 prepare_fields prepare
body_parts (body.Prepared version) = tagged 26 u32 version
body_parts (body.TakeOut take) = tagged 27 take_out_fields take
body_parts (body.Taken parcel) = tagged 28 parcel_fields parcel
body_parts (body.GiveIn parcel) = tagged 29 parcel_fields parcel
body_parts (body.Given migration) = tagged 30 u32 migration
body_parts (body.ExpireClient client) = tagged 31 u32 client
body_parts (body.Probe probe) = tagged 32 probe_fields probe
body_parts (body.Probed probed) = tagged 33 probed_fields probed
body_parts (body.Glance ask) = tagged 34 ask_fields ask
body_parts (body.Quick quick) = tagged 35 quick_fields quick

-- of what the manager says and asks, and of reads in one round trip
abbrev pub last_variants : List (Variant Body)
last_variants =
    variant 23 recovered_fields body.Recovered
    ∷ variant 24 adopted_fields body.Adopted
    ∷ variant 25 prepare_fields body.Prepare
    ∷ variant 26 u32 body.Prepared
    ∷ variant 27 take_out_fields body.TakeOut
    ∷ variant 28 parcel_fields body.Taken
    ∷ variant 29 parcel_fields body.GiveIn
    ∷ variant 30 u32 body.Given
    ∷ variant 31 u32 body.ExpireClient
    ∷ variant 32 probe_fields body.Probe
    ∷ variant 33 probed_fields body.Probed
    ∷ variant 34 ask_fields body.Glance
    ∷ variant 35 quick_fields body.Quick
    ∷ []

-- and of what masters, backups and witnesses say to each other
abbrev pub later_variants : List (Variant Body)
later_variants =
    variant 12 append_fields body.Append
    ∷ variant 13 appended_fields body.Appended
    ∷ variant 14 gc_fields body.Gc
    ∷ variant 15 collected_fields body.Collected
    ∷ variant 16 u32 body.Install
    ∷ variant 17 start_fields body.Start
    ∷ variant 18 recover_fields body.Recover
    ∷ variant 19 u32 body.Fence
    ∷ variant 20 fence_answer_fields body.FenceAnswer
    ∷ variant 21 u32 body.Freeze
    ∷ variant 22 requests body.FrozenAnswer
    ∷ last_variants

-- and of what clients ask, and are answered
abbrev pub body_variants : List (Variant Body)
body_variants =
    variant 1 ask_fields body.Update
    ∷ variant 2 ask_fields body.Sync
    ∷ variant 3 ask_fields body.Read
    ∷ variant 4 record_fields body.Record
    ∷ variant 5 nothing (λ x. body.Fetch)
    ∷ variant 6 config_fields body.Configuration
    ∷ variant 7 reply_fields body.Reply
    ∷ variant 8 worth_fields body.Worth
    ∷ variant 9 refuse_fields body.Refuse
    ∷ variant 10 accepted_fields body.Accepted
    ∷ variant 11 rejected_fields body.Rejected
    ∷ later_variants
