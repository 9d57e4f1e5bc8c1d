-- The texts of messages, of what completes, and of how steps went.
use Rattle.std.specs.Prelude.{ℕ, ◌-◌, ◌==◌, if◌then◌else◌, true, false, List, [], ◌∷◌, ◌++◌, length, replicate, flat_map, codes, Bool, Option, Some, None}
use Rattle.std.specs.Fmt.{decimal, digits}
use Rattle.std.specs.List.{join_by}
use Rattle.curp_cmd.specs.Text.{answer_text, command_text, id_text, labelled, node_label, separated, words}
use Rattle.curp_cmd.specs.declared.command.Request.{Request}
use Rattle.curp_cmd.specs.declared.command.RequestId.{RequestId}
use Rattle.curp_cmd.specs.declared.node.NodeId.{NodeId}
use Rattle.curp_cmd.specs.declared.node.Keeper.{Keeper}
use Rattle.curp_cmd.specs.declared.node.Keeper.TheVariants as keeper
use Rattle.curp_msg.specs.declared.answer.AppendAnswer.{AppendAnswer}
use Rattle.curp_msg.specs.declared.answer.AppendAnswer.TheVariants as appended
use Rattle.curp_msg.specs.declared.answer.FenceReply.{FenceReply}
use Rattle.curp_msg.specs.declared.answer.FenceReply.TheVariants as fence
use Rattle.curp_msg.specs.declared.answer.GcAnswer.{GcAnswer}
use Rattle.curp_msg.specs.declared.answer.GcAnswer.TheVariants as collected
use Rattle.curp_msg.specs.declared.answer.Reason.{Reason}
use Rattle.curp_msg.specs.declared.answer.Reason.TheVariants.{Conflict, SetFull, Frozen, Stranger, Idle}
use Rattle.curp_msg.specs.declared.answer.Refusal.{Refusal}
use Rattle.curp_msg.specs.declared.answer.Refusal.TheVariants.{Version, Epoch, NotOwner, Stale, InProgress, Expired, Switching}
use Rattle.curp_msg.specs.declared.body.Ask.{Ask}
use Rattle.curp_msg.specs.declared.body.Body.{Body}
use Rattle.curp_msg.specs.declared.body.Body.TheVariants as body
use Rattle.curp_msg.specs.declared.body.Parcel.{Parcel}
use Rattle.curp_msg.specs.declared.config.PartConfig.{PartConfig}
use Rattle.curp_msg.specs.declared.machine.Capture.{Capture}
use Rattle.curp_msg.specs.declared.machine.Completed.{Completed}
use Rattle.curp_msg.specs.declared.machine.Done.{Done}
use Rattle.curp_msg.specs.Input.{Input}
use Rattle.curp_msg.specs.Input as input
use Rattle.curp_msg.specs.declared.machine.Local.{Local}
use Rattle.curp_msg.specs.declared.machine.Local.TheVariants as local
use Rattle.curp_msg.specs.declared.message.Message.{Message}
use Rattle.curp_msg.specs.declared.outcome.StepResult.{StepResult}
use Rattle.curp_msg.specs.declared.outcome.StepResult.TheVariants as step

-- ---- lists

-- nodes with a plus between
abbrev pub nodes_text : List NodeId → List ℕ
nodes_text nodes = join_by node_label (codes "+") nodes

-- the number of a request, with a space before
abbrev pub spaced_id : RequestId → List ℕ
spaced_id id = codes " " ++ id_text id

-- the number of a request that is there whole, with a space before
abbrev pub spaced_request : Request → List ℕ
spaced_request r = spaced_id r.id

-- ---- hashes

-- a hash, as 16 lower-case hexadecimal digits: zeros, which are 48, stand before its own
abbrev pub hash_text : ℕ → List ℕ
hash_text h = replicate (16 - length (digits 16 false h)) 48 ++ digits 16 false h

-- the hashes from the first to the second, both counted
abbrev pub span_text : ℕ × ℕ → List ℕ
span_text span = hash_text span.0 ++ codes "-" ++ hash_text span.1

-- spans with a plus between
abbrev pub spans_text : List (ℕ × ℕ) → List ℕ
spans_text spans = join_by span_text (codes "+") spans

-- ---- messages

-- an epoch, as `e1`
abbrev pub epoch_text : ℕ → List ℕ
epoch_text n = labelled (codes "e") n

-- a version of the lists of a partition, as `v1`
abbrev pub version_text : ℕ → List ℕ
version_text n = labelled (codes "v") n

-- the first request that its client has not acknowledged, as `f1`
abbrev pub first_text : ℕ → List ℕ
first_text n = labelled (codes "f") n

-- a partition, as `p1`
abbrev pub part_text : ℕ → List ℕ
part_text n = labelled (codes "p") n

-- a migration, as `g1`
abbrev pub migration_text : ℕ → List ℕ
migration_text n = labelled (codes "g") n

-- a round of appends, or a capture, as `r1`
abbrev pub round_text : ℕ → List ℕ
round_text n = labelled (codes "r") n

-- how many entries there are, as `n1`
abbrev pub count_text : ℕ → List ℕ
count_text n = labelled (codes "n") n

-- how long a log is, as `l1`
abbrev pub length_text : ℕ → List ℕ
length_text n = labelled (codes "l") n

-- why a master doesn't answer
abbrev pub refusal_text : Refusal → List ℕ
refusal_text (Version current) = words (codes "version" ∷ version_text current ∷ [])
refusal_text (Epoch current) = words (codes "epoch" ∷ epoch_text current ∷ [])
refusal_text NotOwner = codes "not-owner"
refusal_text (Stale first) = words (codes "stale" ∷ first_text first ∷ [])
refusal_text InProgress = codes "in-progress"
refusal_text Expired = codes "expired"
refusal_text Switching = codes "switching"

-- why a witness doesn't hold a request
abbrev pub rejection_text : Reason → List ℕ
rejection_text (Conflict held) = words (codes "conflict" ∷ id_text held ∷ [])
rejection_text (SetFull set) = words (codes "full" ∷ decimal set ∷ [])
rejection_text Frozen = codes "frozen"
rejection_text (Stranger epoch) = words (codes "stranger" ∷ epoch_text epoch ∷ [])
rejection_text Idle = codes "idle"

-- a request, with the epoch and the version that its client knows
abbrev pub ask_text : Ask → List ℕ
ask_text a =
    words (id_text a.request.id ∷ first_text a.request.first ∷ epoch_text a.epoch ∷ version_text a.version ∷ command_text a.request.command ∷ [])

-- a partition of a configuration: after its last comma stand the ranges that it owns, if it owns any
abbrev pub part_config_text : PartConfig → List ℕ
part_config_text p =
    decimal p.part ++ codes "="
    ++ separated (codes ",") (epoch_text p.epoch ∷ version_text p.version ∷ node_label p.master ∷ nodes_text p.backups ∷ nodes_text p.witnesses ∷ spans_text p.ranges ∷ [])

-- a partition of a configuration, with a space before
abbrev pub spaced_part : PartConfig → List ℕ
spaced_part p = codes " " ++ part_config_text p

-- whether an update is stored on all backups
abbrev pub synced_text : Bool → List ℕ
synced_text true = codes "synced"
synced_text false = codes "unsynced"

-- what a backup answers to an append of that epoch and round
abbrev pub appended_text : ℕ → ℕ → AppendAnswer → List ℕ
appended_text epoch round (appended.Stored size) =
    words (codes "stored" ∷ epoch_text epoch ∷ length_text size ∷ round_text round ∷ [])
appended_text epoch round (appended.Fenced fence) = words (codes "fenced" ∷ epoch_text fence ∷ [])
appended_text epoch round (appended.Gap size) = words (codes "gap" ∷ length_text size ∷ [])
appended_text epoch round appended.NotInstalled = codes "not-installed"

-- what a witness answers to a collection of that epoch: a stranger tells its own epoch, if it was ever started
abbrev pub collected_text : ℕ → GcAnswer → List ℕ
collected_text epoch (collected.Suspects requests) = words (codes "suspects" ∷ epoch_text epoch ∷ []) ++ flat_map spaced_request requests
collected_text epoch (collected.Stranger None) = codes "stranger"
collected_text epoch (collected.Stranger (Some own)) = words (codes "stranger" ∷ epoch_text own ∷ [])

-- what a backup answers to a fence of that epoch
abbrev pub fenced_text : ℕ → FenceReply → List ℕ
fenced_text epoch (fence.Log entries) = words (codes "log" ∷ epoch_text epoch ∷ count_text (length entries) ∷ [])
fenced_text epoch (fence.Fenced above) = words (codes "fenced" ∷ epoch_text above ∷ [])

-- a migration, with how many pairs and how many records its package has
abbrev pub parcel_text : Parcel → List ℕ
parcel_text b =
    words (migration_text b.migration ∷ labelled (codes "p") (length b.package.pairs) ∷ labelled (codes "r") (length b.package.table.records) ∷ [])

-- whether a witness takes requests of the epoch that it was asked of
abbrev pub live_text : Bool → List ℕ
live_text true = codes "live"
live_text false = codes "not-live"

-- what a message says: its kind, then what it carries
abbrev pub body_text : Body → List ℕ
body_text (body.Update a) = words (codes "update" ∷ ask_text a ∷ [])
body_text (body.Sync a) = words (codes "sync" ∷ ask_text a ∷ [])
body_text (body.Read a) = words (codes "read" ∷ ask_text a ∷ [])
body_text (body.Record b) =
    words (codes "record" ∷ id_text b.request.id ∷ first_text b.request.first ∷ epoch_text b.epoch ∷ command_text b.request.command ∷ [])
body_text body.Fetch = codes "fetch"
body_text (body.Configuration c) = words (codes "config" ∷ labelled (codes "s") c.serial ∷ []) ++ flat_map spaced_part c.parts
body_text (body.Reply b) =
    words (codes "reply" ∷ id_text b.id ∷ synced_text b.synced ∷ epoch_text b.epoch ∷ version_text b.version ∷ answer_text b.answer ∷ [])
body_text (body.Worth b) =
    words (codes "value" ∷ id_text b.id ∷ epoch_text b.epoch ∷ round_text b.capture ∷ answer_text b.answer ∷ [])
body_text (body.Refuse b) = words (codes "refuse" ∷ id_text b.id ∷ refusal_text b.refusal ∷ [])
body_text (body.Accepted b) = words (codes "accepted" ∷ id_text b.id ∷ epoch_text b.epoch ∷ [])
body_text (body.Rejected b) = words (codes "rejected" ∷ id_text b.id ∷ rejection_text b.reason ∷ [])
body_text (body.Append b) =
    words (codes "append" ∷ epoch_text b.epoch ∷ labelled (codes "b") b.base ∷ count_text (length b.entries) ∷ round_text b.round ∷ [])
body_text (body.Appended b) = appended_text b.epoch b.round b.answer
body_text (body.Gc b) = words (codes "gc" ∷ epoch_text b.epoch ∷ []) ++ flat_map spaced_id b.ids
body_text (body.Collected b) = collected_text b.epoch b.answer
body_text (body.Install epoch) = words (codes "install" ∷ epoch_text epoch ∷ [])
body_text (body.Start b) = words (codes "start" ∷ part_text b.part ∷ epoch_text b.epoch ∷ [])
body_text (body.Recover b) =
    words (codes "recover" ∷ part_text b.part ∷ epoch_text b.epoch ∷ version_text b.version ∷ node_label b.backup ∷ node_label b.witness ∷ nodes_text b.backups ∷ nodes_text b.witnesses ∷ [])
body_text (body.Fence epoch) = words (codes "fence" ∷ epoch_text epoch ∷ [])
body_text (body.FenceAnswer b) = fenced_text b.epoch b.answer
body_text (body.Freeze epoch) = words (codes "freeze" ∷ epoch_text epoch ∷ [])
body_text (body.FrozenAnswer requests) = codes "frozen" ++ flat_map spaced_request requests
body_text (body.Recovered b) = words (codes "recovered" ∷ part_text b.part ∷ epoch_text b.epoch ∷ [])
body_text (body.Adopted b) = words (codes "adopted" ∷ part_text b.part ∷ epoch_text b.epoch ∷ version_text b.version ∷ [])
body_text (body.Prepare b) = words (codes "prepare" ∷ version_text b.version ∷ nodes_text b.backups ∷ nodes_text b.witnesses ∷ [])
body_text (body.Prepared version) = words (codes "prepared" ∷ version_text version ∷ [])
body_text (body.TakeOut b) = words (codes "take" ∷ migration_text b.migration ∷ span_text (b.lo, b.hi) ∷ [])
body_text (body.Taken b) = words (codes "taken" ∷ parcel_text b ∷ [])
body_text (body.GiveIn b) = words (codes "give" ∷ parcel_text b ∷ [])
body_text (body.Given migration) = words (codes "given" ∷ migration_text migration ∷ [])
body_text (body.ExpireClient client) = words (codes "expire" ∷ labelled (codes "c") client ∷ [])
body_text (body.Probe b) = words (codes "probe" ∷ id_text b.id ∷ epoch_text b.epoch ∷ [])
body_text (body.Probed b) = words (live_text b.live ∷ id_text b.id ∷ epoch_text b.epoch ∷ [])
body_text (body.Glance a) = words (codes "glance" ∷ ask_text a ∷ [])
body_text (body.Quick b) =
    words (codes "quick" ∷ id_text b.id ∷ epoch_text b.epoch ∷ version_text b.version ∷ round_text b.capture ∷ answer_text b.answer ∷ [])

-- who sent a message, whom it goes to, and what it says
abbrev pub message_text : Message → List ℕ
message_text m = words (node_label m.from ∷ node_label m.to ∷ body_text m.body ∷ [])

-- ---- steps

-- how a step went
abbrev pub result_text : StepResult → List ℕ
result_text step.Done = codes "done"
result_text step.NoMessage = codes "refused no-message"
result_text step.NoNode = codes "refused no-node"
result_text step.Gone = codes "refused gone"
result_text step.Manager = codes "refused manager"
result_text (step.Full weight) = words (codes "refused full" ∷ decimal weight ∷ [])
result_text (step.Refused number) = words (codes "refused call" ∷ decimal number ∷ [])

-- ---- what nodes are ordered and what they do

-- what completed: the request, then its answer
abbrev pub completed_text : Completed → List ℕ
completed_text c = words (id_text c.id ∷ answer_text c.answer ∷ [])

-- a capture: the master, its epoch, and the number there
abbrev pub capture_text : Capture → List ℕ
capture_text c = words (node_label c.master ∷ epoch_text c.epoch ∷ round_text c.number ∷ [])

-- a keeper
abbrev pub keeper_text : Keeper → List ℕ
keeper_text keeper.Backup = codes "backup"
keeper_text keeper.Witness = codes "witness"

-- an order, by its word in a script, then what it carries
abbrev pub local_text : Local → List ℕ
local_text (local.Invoke command) = words (codes "invoke" ∷ command_text command ∷ [])
local_text (local.Retry seq) = words (codes "retry" ∷ decimal seq ∷ [])
local_text local.Fetch = codes "fetch"
local_text local.Sync = codes "sync"
local_text local.Collect = codes "collect"
local_text (local.Recover part backup witness) = words (codes "recover" ∷ part_text part ∷ decimal backup ∷ decimal witness ∷ [])
local_text (local.Replace keeper part place) = words (codes "replace" ∷ keeper_text keeper ∷ part_text part ∷ decimal place ∷ [])
local_text (local.Migrate lo hi to) = words (codes "migrate" ∷ span_text (lo, hi) ∷ part_text to ∷ [])
local_text local.Nudge = codes "nudge"
local_text (local.Expire client) = words (codes "expire" ∷ labelled (codes "c") client ∷ [])

-- what a node reacts to
abbrev pub input_text : Input → List ℕ
input_text (input.Local order) = local_text order
input_text (input.Message message) = message_text message

-- whether a node refused an order, and by which number
abbrev pub refused_text : ℕ → List ℕ
refused_text number = if number == 0 then codes "done" else words (codes "refused call" ∷ decimal number ∷ [])

-- a message that is sent, behind what was told before
abbrev pub sent_text : Message → List ℕ
sent_text m = codes "; " ++ message_text m

-- what completed, behind what was told before
abbrev pub then_completed : Option Completed → List ℕ
then_completed None = []
then_completed (Some c) = codes "; c " ++ completed_text c

-- what a node does: whether it refused an order, what it sends, and what completes
abbrev pub done_text : Done → List ℕ
done_text d = refused_text d.refused ++ flat_map sent_text d.sent ++ then_completed d.completed
