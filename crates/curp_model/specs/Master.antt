-- The serving master (after CURP's master). It keeps the log, answers an update at once where no entry that isn't synced
-- touches its hashes, and everything else when all backups have it. Where a line names neither CURP nor RIFL, the form is this
-- project's own.
use Rattle.std.specs.Prelude.{ℕ, ◌+◌, ◌-◌, ◌^◌, ◌==◌, ◌&&◌, ◌||◌, nat_le, nat_lt, min, max, if◌then◌else◌, Bool, true, false, not, List, [], ◌∷◌, ◌++◌, length, map, take, drop, slice_get, flat_map, Option, Some, None, option_map}
use Rattle.std.specs.BTreeSet.{insert_key}
use Rattle.std.specs.FinMap as store
use Rattle.std.specs.List.{filter, list_any, list_all}
use Rattle.std.specs.Ordering.{nat_cmp}
use Rattle.curp_base.specs.Cases.{first_case, first_there, only_if}
use Rattle.curp_base.specs.Words.{rises_past}
use Rattle.curp_cmd.specs.Hash.{hashes}
use Rattle.curp_cmd.specs.Node.{manager_node, client_node, master_node, is_among, same_node}
use Rattle.curp_cmd.specs.RequestId.{same_id}
use Rattle.curp_cmd.specs.declared.command.Answer.{Answer}
use Rattle.curp_cmd.specs.declared.command.Answer.TheVariants.{Found}
use Rattle.curp_cmd.specs.declared.command.Command.{Command}
use Rattle.curp_cmd.specs.declared.command.Command.TheVariants.{Get}
use Rattle.curp_cmd.specs.declared.command.Request.{Request}
use Rattle.curp_cmd.specs.declared.command.RequestId.{RequestId}
use Rattle.curp_cmd.specs.declared.entry.Entry.{Entry}
use Rattle.curp_cmd.specs.declared.entry.Entry.TheVariants.{Op, Take, Give, Expire}
use Rattle.curp_cmd.specs.declared.node.NodeId.{NodeId}
use Rattle.curp_msg.specs.Moved.{Moved, quiet, sends, says, says_each}
use Rattle.curp_msg.specs.declared.answer.AppendAnswer.{AppendAnswer}
use Rattle.curp_msg.specs.declared.answer.AppendAnswer.TheVariants.{Stored}
use Rattle.curp_msg.specs.declared.answer.GcAnswer.{GcAnswer}
use Rattle.curp_msg.specs.declared.answer.GcAnswer.TheVariants.{Suspects}
use Rattle.curp_msg.specs.declared.answer.Refusal.{Refusal}
use Rattle.curp_msg.specs.declared.answer.Refusal.TheVariants as refusal
use Rattle.curp_msg.specs.declared.body.Ask.{Ask}
use Rattle.curp_msg.specs.declared.body.Body.{Body}
use Rattle.curp_msg.specs.declared.body.Body.TheVariants as body
use Rattle.curp_msg.specs.declared.body.Prepare.{Prepare}
use Rattle.curp_msg.specs.declared.body.TakeOut.{TakeOut}
use Rattle.curp_msg.specs.declared.body.Parcel.{Parcel}
use Rattle.curp_msg.specs.declared.machine.Local.{Local}
use Rattle.curp_msg.specs.declared.machine.Local.TheVariants as local
use Rattle.curp_msg.specs.declared.message.Message.{Message}
use Rattle.curp_range.specs.Spans.{is_covered}
use Rattle.curp_model.specs.declared.Check.{Check}
use Rattle.curp_model.specs.declared.Check.TheVariants.{Expired, Stale, Known, New}
use Rattle.curp_model.specs.declared.Verdict.{Verdict}
use Rattle.curp_model.specs.declared.Verdict.TheVariants.{Deny, Tell, TellAgain, HoldBack, Execute}
use Rattle.curp_model.specs.declared.Wish.{Wish}
use Rattle.curp_model.specs.declared.Wish.TheVariants.{AtOnce, WhenSynced}
use Rattle.curp_model.specs.Log.{LogState, LastTake, LastGive, meaning, answer_after, is_touched, package_of}
use Rattle.curp_model.specs.Ranges.{owns_all}
use Rattle.curp_model.specs.Table.{check, is_gone}

-- ---- the state

-- the greatest length and the last round that a backup has acknowledged
pub record Acknowledged : Type 0 where
  pub backup : NodeId
  pub length : ℕ
  pub round : ℕ

-- a read that waits: its value and the log's length at its arrival, and the round that was begun for it
pub record Captured : Type 0 where
  pub number : ℕ
  pub id : RequestId
  pub command : Command
  pub answer : Answer
  pub length : ℕ
  pub round : ℕ

-- an id that may be collected once so many entries are synced
pub record Queued : Type 0 where
  pub id : RequestId
  pub length : ℕ

-- the lists that a switching master takes up next, the round that they wait for, and whether Prepared was sent
pub record Switch : Type 0 where
  pub version : ℕ
  pub backups : List NodeId
  pub witnesses : List NodeId
  pub round : ℕ
  pub prepared : Bool

-- it is open to requests, or switches to new lists
pub data Phase : Type 0 where
  Open : Phase
  Switching : Switch → Phase

-- Indexes of entries count from 0, and ascend. `held` are those whose requests wait for a synced reply, `free` those that no
-- entry touched which wasn't synced as they were pushed
pub record MasterState : Type 0 where
  pub part : ℕ
  pub epoch : ℕ
  pub version : ℕ
  pub backups : List NodeId
  pub witnesses : List NodeId
  pub lo : ℕ
  pub hi : ℕ
  pub log : List Entry
  pub acknowledged : List Acknowledged
  pub settled : ℕ
  pub round : ℕ
  pub captures : List Captured
  pub captured : ℕ
  pub held : List ℕ
  pub free : List ℕ
  pub queue : List Queued
  pub phase : Phase

-- a master that begins with a log which every backup of its list has, as of that round
abbrev pub beginning : ℕ → ℕ → ℕ → List NodeId → List NodeId → ℕ → ℕ → List Entry → ℕ → MasterState
beginning part epoch version backups witnesses lo hi entries round = record {
  part = part;
  epoch = epoch;
  version = version;
  backups = backups;
  witnesses = witnesses;
  lo = lo;
  hi = hi;
  log = entries;
  acknowledged = map (λ b. record { backup = b; length = length entries; round = round }) backups;
  settled = length entries;
  round = round;
  captures = [];
  captured = 0;
  held = [];
  free = [];
  queue = [];
  phase = Open;
}

-- it is open to requests
abbrev pub is_open : Phase → Bool
is_open Open = true
is_open (Switching s) = false

-- what the log means
abbrev pub state_of : MasterState → LogState
state_of m = meaning m.lo m.hi m.log

-- the answer to the Op at an index, in the log's fold
abbrev pub answer_at : MasterState → ℕ → Request → Answer
answer_at m index r = answer_after m.lo m.hi (take index m.log) r.command

-- a number is among others
abbrev pub has : ℕ → List ℕ → Bool
has n numbers = list_any (λ k. k == n) numbers

-- ---- what is synced

-- a backup that has acknowledged nothing
abbrev pub nothing_from : NodeId → Acknowledged
nothing_from backup = record { backup = backup; length = 0; round = 0 }

-- what a backup has acknowledged, at first nothing
abbrev pub from_backup : List Acknowledged → NodeId → Acknowledged
from_backup [] backup = nothing_from backup
from_backup (a ∷ rest) backup = if same_node a.backup backup then a else from_backup rest backup

-- the least of numbers, 0 where there is none
abbrev pub least : List ℕ → ℕ
least [] = 0
least (n ∷ []) = n
least (n ∷ k ∷ rest) = min n (least (k ∷ rest))

-- entries below it are stored on all backups of the list
abbrev pub synced : MasterState → ℕ
synced m = least (map (λ b. (from_backup m.acknowledged b).length) m.backups)

-- each backup of a list has acknowledged at least a length and a round
abbrev pub all_have : List Acknowledged → List NodeId → ℕ → ℕ → Bool
all_have acks backups long round =
    list_all (λ b. nat_le long (from_backup acks b).length && nat_le round (from_backup acks b).round) backups

-- no entry that isn't synced touches the command
abbrev pub is_clean : MasterState → Command → Bool
is_clean m command = not (is_touched (drop (synced m) m.log) command)

-- ---- rounds

-- the fresh backups that a switching master stores on too
abbrev pub fresh_backups : Phase → List NodeId → List NodeId
fresh_backups Open backups = []
fresh_backups (Switching s) backups = filter (λ b. not (is_among b backups)) s.backups

-- the backups to which a round goes
abbrev pub stored_on : MasterState → List NodeId
stored_on m = m.backups ++ fresh_backups m.phase m.backups

-- a backup gets the entries from its acknowledged length on, possibly none
abbrev pub append_to : ℕ → MasterState → NodeId → Message
append_to n m b =
    let base = (from_backup m.acknowledged b).length in
    says (master_node n) b (body.Append (record { epoch = m.epoch; base = base; round = m.round; entries = drop base m.log }))

-- what a round sends
abbrev pub appends : ℕ → MasterState → List Message
appends n m = map (append_to n m) (stored_on m)

-- the number of the last round rises
abbrev pub next_round : MasterState → MasterState
next_round m = record m { round = m.round + 1 }

-- a round begins
abbrev pub begins_round : ℕ → MasterState → Moved MasterState
begins_round n m = sends (next_round m) (appends n (next_round m))

-- ---- what it says to clients

-- a refusal to the client of a request
abbrev pub refuse : ℕ → RequestId → Refusal → Message
refuse n id why = says (master_node n) (client_node id.client) (body.Refuse (record { id = id; refusal = why }))

-- a reply bears the master's own epoch and version
abbrev pub reply : ℕ → MasterState → Bool → RequestId → Answer → Message
reply n m is_synced id a = says (master_node n) (client_node id.client)
    (body.Reply (record { id = id; synced = is_synced; epoch = m.epoch; version = m.version; answer = a }))

-- a refusal is all that happens
abbrev pub answers_with : ℕ → MasterState → RequestId → Refusal → Moved MasterState
answers_with n m id why = sends m (refuse n id why ∷ [])

-- ---- the queue of collections

-- an id stands in the queue once, at the larger length
abbrev pub queued : List Queued → RequestId → ℕ → List Queued
queued [] id long = record { id = id; length = long } ∷ []
queued (q ∷ rest) id long =
    if same_id q.id id then record { id = id; length = max q.length long } ∷ rest else q ∷ queued rest id long

-- an id is queued for collection
abbrev pub queue_id : MasterState → RequestId → ℕ → MasterState
queue_id m id long = record m { queue = queued m.queue id long }

-- ---- updates

-- ---- what becomes of a request, by the first of six rules that holds

-- rule 1: the client knows another epoch
abbrev pub by_epoch : MasterState → Ask → Option Refusal
by_epoch m ask = only_if (not (ask.epoch == m.epoch)) (refusal.Epoch m.epoch)

-- rule 2: the master isn't open to requests
abbrev pub by_phase : MasterState → Option Refusal
by_phase m = only_if (not (is_open m.phase)) refusal.Switching

-- rule 4: the client knows another version of the lists
abbrev pub by_version : MasterState → Ask → Option Refusal
by_version m ask = only_if (not (ask.version == m.version)) (refusal.Version m.version)

-- rule 5: a hash of the command isn't owned
abbrev pub by_owner : MasterState → Ask → Option Refusal
by_owner m ask = only_if (not (owns_all (state_of m).owned (hashes ask.request.command))) refusal.NotOwner

-- the entry at an index is an Op, and waits for no synced reply yet
abbrev pub is_idle_op : MasterState → ℕ → Option Entry → Bool
is_idle_op m index (Some (Op r acknowledged)) = not (has index m.held)
is_idle_op m index _ = false

-- a client that wants its answer at once gets it again where the op is free (CURP)
abbrev pub known_again : MasterState → Wish → Answer → ℕ → Verdict
known_again m AtOnce a index = if has index m.free then TellAgain a else HoldBack index
known_again m WhenSynced a index = HoldBack index

-- of a known request: stored on all backups, or still on its way there
abbrev pub known_at : MasterState → Wish → Answer → ℕ → Verdict
known_at m wish a index =
    if nat_lt index (synced m) then Tell a
    else if is_idle_op m index (slice_get m.log index) then known_again m wish a index
    else Deny refusal.InProgress

-- rule 3: the duplicate check knows the request (RIFL)
abbrev pub by_check : MasterState → Wish → Check → Option Verdict
by_check m wish Expired = Some (Deny refusal.Expired)
by_check m wish (Stale first) = Some (Deny (refusal.Stale first))
by_check m wish (Known a index) = Some (known_at m wish a index)
by_check m wish New = None

-- the first of the rules that holds; rule 6: by none of them, so it is new
abbrev pub verdict : MasterState → Wish → Ask → Verdict
verdict m wish ask = first_case (
    option_map Deny (by_epoch m ask)
    ∷ option_map Deny (by_phase m)
    ∷ by_check m wish (check (state_of m).table ask.request.id)
    ∷ option_map Deny (by_version m ask)
    ∷ option_map Deny (by_owner m ask)
    ∷ []) Execute

-- ---- what each verdict does

-- a request waits for its synced reply, and a round begins
abbrev pub holds_back : ℕ → MasterState → ℕ → Moved MasterState
holds_back n m index = begins_round n (record m { held = insert_key nat_cmp m.held index })

-- the request stands at the end of the log, and is queued for collection
abbrev pub pushed : MasterState → Request → ℕ → MasterState
pushed m r acknowledged = queue_id (record m { log = m.log ++ Op r acknowledged ∷ [] }) r.id (length m.log + 1)

-- an op that nothing touched is free (CURP: it commutes with all that is not synced)
abbrev pub marked_free : MasterState → ℕ → Bool → MasterState
marked_free m index true = record m { free = m.free ++ index ∷ [] }
marked_free m index false = m

-- a new request is pushed. A free update gets its reply at once; any other is held back
abbrev pub executes : ℕ → MasterState → Wish → Request → Bool → Moved MasterState
executes n m AtOnce r true =
    let after = marked_free (pushed m r r.first) (length m.log) true in
    sends after (reply n after false r.id (answer_at m (length m.log) r) ∷ [])
executes n m AtOnce r false = holds_back n (pushed m r r.first) (length m.log)
executes n m WhenSynced r clean = holds_back n (marked_free (pushed m r r.first) (length m.log) clean) (length m.log)

-- by the verdict
abbrev pub carries_out : ℕ → MasterState → Wish → Request → Verdict → Moved MasterState
carries_out n m wish r (Deny why) = answers_with n m r.id why
carries_out n m wish r (Tell a) = sends m (reply n m true r.id a ∷ [])
carries_out n m wish r (TellAgain a) = sends m (reply n m false r.id a ∷ [])
carries_out n m wish r (HoldBack index) = holds_back n m index
carries_out n m wish r Execute = executes n m wish r (is_clean m r.command)

-- an update or a sync comes
unfoldable pub on_update : ℕ → MasterState → Wish → Ask → Moved MasterState
on_update n m wish ask = carries_out n m wish ask.request (verdict m wish ask)

-- ---- reads

-- rule 3 of a read: one that is expired or stale is refused
abbrev pub by_read_check : Check → Option Refusal
by_read_check Expired = Some refusal.Expired
by_read_check (Stale first) = Some (refusal.Stale first)
by_read_check _ = None

-- why a read isn't captured: the first of the rules that holds
abbrev pub read_refusal : MasterState → Ask → Option Refusal
read_refusal m ask = first_there (
    by_epoch m ask
    ∷ by_phase m
    ∷ by_read_check (check (state_of m).table ask.request.id)
    ∷ by_version m ask
    ∷ by_owner m ask
    ∷ [])

-- a read is captured with its value and the log's length, and a round begins
abbrev pub captures_read : ℕ → MasterState → Request → List ℕ → Moved MasterState
captures_read n m r key =
    let capture : Captured = record {
      number = m.captured + 1;
      id = r.id;
      command = r.command;
      answer = Found (store.get (state_of m).store key);
      length = length m.log;
      round = m.round + 1;
    } in
    begins_round n (record m { captures = m.captures ++ capture ∷ []; captured = m.captured + 1 })

-- it is refused, or captured
abbrev pub read_of : ℕ → MasterState → Request → List ℕ → Option Refusal → Moved MasterState
read_of n m r key (Some why) = answers_with n m r.id why
read_of n m r key None = captures_read n m r key

-- only a Get is read
abbrev pub read_command : ℕ → MasterState → Ask → Command → Moved MasterState
read_command n m ask (Get key) = read_of n m ask.request key (read_refusal m ask)
read_command n m ask _ = quiet m

-- a client asks to read
unfoldable pub on_read : ℕ → MasterState → Ask → Moved MasterState
on_read n m ask = read_command n m ask ask.request.command

-- a value that leaves at once bears the master's own epoch and version, and the number of its capture
abbrev pub quick_value : ℕ → MasterState → Request → ℕ → List ℕ → Message
quick_value n m r number key = says (master_node n) (client_node r.id.client)
    (body.Quick (record { id = r.id; epoch = m.epoch; version = m.version; capture = number; answer = Found (store.get (state_of m).store key) }))

-- a read takes the next capture number and is answered at once; no round begins
abbrev pub answers_at_once : ℕ → MasterState → Request → List ℕ → Moved MasterState
answers_at_once n m r key = sends (record m { captured = m.captured + 1 }) (quick_value n m r (m.captured + 1) key ∷ [])

-- it is refused, or answered at once where no entry that isn't synced touches its key, or captured
abbrev pub glance_of : ℕ → MasterState → Request → List ℕ → Option Refusal → Moved MasterState
glance_of n m r key (Some why) = answers_with n m r.id why
glance_of n m r key None = if is_clean m r.command then answers_at_once n m r key else captures_read n m r key

-- only a Get is glanced at
abbrev pub glance_command : ℕ → MasterState → Ask → Command → Moved MasterState
glance_command n m ask (Get key) = glance_of n m ask.request key (read_refusal m ask)
glance_command n m ask _ = quiet m

-- a client asks to read, and for an answer at once
unfoldable pub on_glance : ℕ → MasterState → Ask → Moved MasterState
on_glance n m ask = glance_command n m ask ask.request.command

-- ---- settling

-- the synced reply to a held Op, with its answer in the fold
abbrev pub synced_reply : ℕ → MasterState → ℕ → Option Entry → List Message
synced_reply n m index (Some (Op r acknowledged)) = reply n m true r.id (answer_at m index r) ∷ []
synced_reply n m index _ = []

-- held entries below `synced`, in order of index
abbrev pub synced_replies : ℕ → MasterState → List ℕ → List Message
synced_replies n m indexes = flat_map (λ index. synced_reply n m index (slice_get m.log index)) indexes

-- every backup has acknowledged the capture
abbrev pub is_ready : MasterState → Captured → Bool
is_ready m c = all_have m.acknowledged m.backups c.length c.round

-- the value of a capture, on its way to its client
abbrev pub value_of : ℕ → MasterState → Captured → Message
value_of n m c = says (master_node n) (client_node c.id.client)
    (body.Worth (record { id = c.id; epoch = m.epoch; capture = c.number; answer = c.answer }))

-- LastTake and LastGive of the entries that have come below `synced`
abbrev pub moved_entry : ℕ → Entry → List Message
moved_entry n (Take migration taken) = says (master_node n) manager_node (body.Taken (record { migration = migration; «package» = taken })) ∷ []
moved_entry n (Give migration given) = says (master_node n) manager_node (body.Given migration) ∷ []
moved_entry n _ = []

-- entries from one index on, below another
abbrev pub between : ℕ → ℕ → List Entry → List Entry
between low high entries = take (high - low) (drop low entries)

-- first held requests, then captures, then migrations
unfoldable pub settle : ℕ → MasterState → Moved MasterState
settle n m =
    let due = filter (λ index. nat_lt index (synced m)) m.held in
    sends
    (record m {
      held = filter (λ index. not (nat_lt index (synced m))) m.held;
      captures = filter (λ c. not (is_ready m c)) m.captures;
      settled = synced m;
    })
    (synced_replies n m due ++ map (value_of n m) (filter (is_ready m) m.captures) ++ flat_map (moved_entry n) (between m.settled (synced m) m.log))

-- ---- what backups say

-- what is acknowledged never falls
abbrev pub raised : List Acknowledged → NodeId → ℕ → ℕ → List Acknowledged
raised [] backup long round = record { backup = backup; length = long; round = round } ∷ []
raised (a ∷ rest) backup long round =
    if same_node a.backup backup
    then record { backup = backup; length = max a.length long; round = max a.round round } ∷ rest
    else a ∷ raised rest backup long round

-- the new list has the log
abbrev pub prepared_message : ℕ → ℕ → Message
prepared_message n version = says (master_node n) manager_node (body.Prepared version)

-- Prepared is sent once, when every backup of the prepared list has the whole log as of the round begun at Prepare
abbrev pub prepares : ℕ → MasterState → Switch → Moved MasterState
prepares n m s =
    if not s.prepared && all_have m.acknowledged s.backups (length m.log) s.round
    then sends (record m { phase = Switching (record s { prepared = true }) }) (prepared_message n s.version ∷ [])
    else quiet m

-- after an acknowledgement it settles, or looks whether the new list is prepared
abbrev pub goes_on : ℕ → MasterState → Phase → Moved MasterState
goes_on n m Open = settle n m
goes_on n m (Switching s) = prepares n m s

-- a backup of the list, or a fresh one, has a length as of a round
abbrev pub on_stored : ℕ → MasterState → NodeId → ℕ → ℕ → Moved MasterState
on_stored n m from long round =
    if is_among from (stored_on m)
    then goes_on n (record m { acknowledged = raised m.acknowledged from long round }) m.phase
    else quiet m

-- a backup answers an append
unfoldable pub on_appended : ℕ → MasterState → NodeId → ℕ → AppendAnswer → Moved MasterState
on_appended n m from round (Stored long) = on_stored n m from long round
on_appended n m from round _ = quiet m

-- ---- collections and suspects

-- an id may be collected
abbrev pub is_due : MasterState → Queued → Bool
is_due m q = nat_le q.length (synced m)

-- the due ids leave the queue, and go to each witness, also when there are none
abbrev pub collects : ℕ → MasterState → Moved MasterState
collects n m = sends
    (record m { queue = filter (λ q. not (is_due m q)) m.queue })
    (says_each (master_node n) m.witnesses (body.Gc (record { epoch = m.epoch; ids = map (λ q. q.id) (filter (is_due m) m.queue) })))

-- a suspect, by the duplicate check of its id
abbrev pub treated : MasterState → Request → Check → MasterState
treated m r (Known a index) = queue_id m r.id (index + 1)
treated m r (Stale first) = queue_id m r.id (length m.log)
treated m r Expired = queue_id m r.id (length m.log)
treated m r New = if owns_all (state_of m).owned (hashes r.command) then pushed m r 0 else m

-- each in turn
abbrev pub treat : MasterState → List Request → MasterState
treat m [] = m
treat m (r ∷ rs) = treat (treated m r (check (state_of m).table r.id)) rs

-- where something was pushed, a round begins after the last one
abbrev pub treats : ℕ → MasterState → List Request → Moved MasterState
treats n m rs =
    let after = treat m rs in
    if length after.log == length m.log then quiet after else begins_round n after

-- a witness answers a collection
unfoldable pub on_collected : ℕ → MasterState → GcAnswer → Moved MasterState
on_collected n m (Suspects rs) = if is_open m.phase then treats n m rs else quiet m
on_collected n m _ = quiet m

-- ---- new lists

-- the lists that it takes up next
abbrev pub switch_to : MasterState → Prepare → Switch
switch_to m p = record { version = p.version; backups = p.backups; witnesses = p.witnesses; round = m.round + 1; prepared = false }

-- a version above its own, while it serves; the same version again begins a round
abbrev pub prepare_in : ℕ → MasterState → Prepare → Phase → Moved MasterState
prepare_in n m p Open = if nat_lt m.version p.version then begins_round n (record m { phase = Switching (switch_to m p) }) else quiet m
prepare_in n m p (Switching s) = if s.version == p.version then begins_round n m else quiet m

-- the lists and the version change, and it serves and settles
abbrev pub adopted_in : ℕ → MasterState → ℕ → Phase → Moved MasterState
adopted_in n m version Open = quiet m
adopted_in n m version (Switching s) =
    if s.version == version
    then settle n (record m { version = s.version; backups = s.backups; witnesses = s.witnesses; phase = Open })
    else quiet m

-- ---- migrations

-- an entry that is synced is told again; one that isn't waits for a round
abbrev pub told_again : ℕ → MasterState → ℕ → Message → Moved MasterState
told_again n m index message = if nat_lt index (synced m) then sends m (message ∷ []) else begins_round n m

-- the take is pushed where the range is owned, and a round begins
abbrev pub push_take : ℕ → MasterState → TakeOut → Moved MasterState
push_take n m t =
    if is_covered (state_of m).owned t.lo t.hi
    then begins_round n (record m { log = m.log ++ Take t.migration (package_of (state_of m) t.lo t.hi t.ordered) ∷ [] })
    else quiet m

-- a take behind the last one; the last one is told again
abbrev pub take_after : ℕ → MasterState → TakeOut → Option LastTake → Moved MasterState
take_after n m t None = push_take n m t
take_after n m t (Some last) =
    if t.migration == last.migration
    then told_again n m last.index (says (master_node n) manager_node (body.Taken (record { migration = last.migration; «package» = last.taken })))
    else if nat_lt last.migration t.migration then push_take n m t
    else quiet m

-- the give is pushed, and a round begins
abbrev pub push_give : ℕ → MasterState → Parcel → Moved MasterState
push_give n m g = begins_round n (record m { log = m.log ++ Give g.migration g.package ∷ [] })

-- a give behind the last one; an earlier one is told again
abbrev pub give_after : ℕ → MasterState → Parcel → Option LastGive → Moved MasterState
give_after n m g None = push_give n m g
give_after n m g (Some last) =
    if nat_le g.migration last.migration
    then told_again n m last.index (says (master_node n) manager_node (body.Given g.migration))
    else push_give n m g

-- the manager lets it give a range away
abbrev pub on_take : ℕ → MasterState → TakeOut → Moved MasterState
on_take n m t = if is_open m.phase then take_after n m t (state_of m).taken else quiet m

-- the manager gives it a range
abbrev pub on_give : ℕ → MasterState → Parcel → Moved MasterState
on_give n m g = if is_open m.phase then give_after n m g (state_of m).given else quiet m

-- a client is gone, in both phases
abbrev pub on_expire : ℕ → MasterState → ℕ → Moved MasterState
on_expire n m client =
    if is_gone (state_of m).table client then quiet m
    else begins_round n (record m { log = m.log ++ Expire client ∷ [] })

-- ---- orders

-- a round begins; while it switches, Prepared is sent first where it was sent before
abbrev pub sync_in : ℕ → MasterState → Phase → Moved MasterState
sync_in n m Open = begins_round n m
sync_in n m (Switching s) =
    let round = begins_round n m in
    if s.prepared then record round { messages = prepared_message n s.version ∷ round.messages } else round

-- only a serving master collects
abbrev pub collect_in : ℕ → MasterState → Phase → Moved MasterState
collect_in n m Open = collects n m
collect_in n m (Switching s) = quiet m

-- ---- inputs

-- the greatest round and capture number
abbrev pub last_round : ℕ
last_round = 2 ^ 64 - 1

-- an input by which the round or the capture number would rise past its end changes nothing and sends nothing
abbrev pub unless_it_ends : MasterState → Moved MasterState → Moved MasterState
unless_it_ends m r = if rises_past last_round m.round r.state.round || rises_past last_round m.captured r.state.captured then quiet m else r

-- what a message does, by its kind
abbrev pub by_message : ℕ → MasterState → NodeId → Body → Moved MasterState
by_message n m from (body.Update ask) = on_update n m AtOnce ask
by_message n m from (body.Sync ask) = on_update n m WhenSynced ask
by_message n m from (body.Read ask) = on_read n m ask
by_message n m from (body.Glance ask) = on_glance n m ask
by_message n m from (body.Appended a) = on_appended n m from a.round a.answer
by_message n m from (body.Collected c) = on_collected n m c.answer
by_message n m from (body.Prepare p) = prepare_in n m p m.phase
by_message n m from (body.Adopted a) = adopted_in n m a.version m.phase
by_message n m from (body.TakeOut t) = on_take n m t
by_message n m from (body.GiveIn g) = on_give n m g
by_message n m from (body.ExpireClient client) = on_expire n m client
by_message n m from _ = quiet m

-- a message comes to the serving master n
unfoldable pub on_serving : ℕ → MasterState → NodeId → Body → Moved MasterState
on_serving n m from b = unless_it_ends m (by_message n m from b)

-- an order comes to the serving master n
unfoldable pub serving_ordered : ℕ → MasterState → Local → Moved MasterState
serving_ordered n m local.Sync = unless_it_ends m (sync_in n m m.phase)
serving_ordered n m local.Collect = collect_in n m m.phase
serving_ordered n m _ = quiet m
