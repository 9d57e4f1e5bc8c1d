-- The client (after CURP's client and RIFL's numbers): it sends an update to the master and to all witnesses, and completes
-- it by one synced reply, or by an unsynced one with the accepts of all witnesses.
use Rattle.std.specs.Prelude.{◌≤◌, ◌<◌, ℕ, ◌+◌, ◌-◌, ◌^◌, ◌==◌, ◌&&◌, nat_le, nat_lt, min, if◌then◌else◌, Bool, true, false, not, List, [], ◌∷◌, ◌++◌, length, map, fold, Option, Some, None, Result, Ok, ⊤}
use Rattle.std.specs.List.{filter, list_any, list_all}
use Rattle.std.specs.Option.{ok_or}
use Rattle.curp_base.specs.Cases.{◌>>=◌, refuse_if}
use Rattle.curp_base.specs.Words.{Each, first_of, last_of}
use Rattle.curp_cmd.specs.Hash.{hashes}
use Rattle.curp_cmd.specs.Node.{client_node, manager_node, same_node}
use Rattle.curp_cmd.specs.RequestId.{same_id}
use Rattle.curp_cmd.specs.Store.{is_update}
use Rattle.curp_cmd.specs.declared.command.Answer.{Answer}
use Rattle.curp_cmd.specs.declared.command.Command.{Command}
use Rattle.curp_cmd.specs.declared.command.Request.{Request}
use Rattle.curp_cmd.specs.declared.command.RequestId.{RequestId}
use Rattle.curp_cmd.specs.declared.node.NodeId.{NodeId}
use Rattle.curp_msg.specs.Moved.{Moved, quiet, sends, invokes, completes, unless_refused, says, says_each}
use Rattle.curp_msg.specs.declared.body.Accepted.{Accepted}
use Rattle.curp_msg.specs.declared.body.Body.{Body}
use Rattle.curp_msg.specs.declared.body.Body.TheVariants as body
use Rattle.curp_msg.specs.declared.body.Reply.{Reply}
use Rattle.curp_msg.specs.declared.body.Worth.{Worth}
use Rattle.curp_msg.specs.declared.config.Config.{Config}
use Rattle.curp_msg.specs.declared.config.PartConfig.{PartConfig}
use Rattle.curp_msg.specs.declared.machine.Capture.{Capture}
use Rattle.curp_msg.specs.Input.{Input}
use Rattle.curp_msg.specs.Input as input
use Rattle.curp_msg.specs.declared.machine.Local.{Local}
use Rattle.curp_msg.specs.declared.machine.Local.TheVariants as local
use Rattle.curp_msg.specs.declared.message.Message.{Message}
use Rattle.curp_model.specs.Ranges.{owns_all}
use Rattle.curp_msg.specs.declared.body.Probe.{Probe}
use Rattle.curp_msg.specs.declared.body.Probed.{Probed}
use Rattle.curp_msg.specs.declared.body.Quick.{Quick}
use Rattle.curp_msg.specs.declared.script.Protocol.{Protocol}
use Rattle.curp_msg.specs.declared.script.Protocol.TheVariants.{One, Two}

-- ---- the state

-- one sending of a request: to whom, and what was known of it
pub record Attempt : Type 0 where
  pub master : NodeId
  pub epoch : ℕ
  pub version : ℕ
  pub witnesses : List NodeId

-- an unsynced reply that was delivered
pub record Early : Type 0 where
  pub master : NodeId
  pub epoch : ℕ
  pub version : ℕ
  pub answer : Answer

-- an accept, or a Live, that was delivered
pub record Accept : Type 0 where
  pub witness : NodeId
  pub epoch : ℕ

-- a Quick that was delivered
pub record Glimpse : Type 0 where
  pub master : NodeId
  pub epoch : ℕ
  pub version : ℕ
  pub capture : ℕ
  pub answer : Answer

-- A request that isn't completed: its sendings, the newest last, whether a synced reply, or a value, was asked for since the
-- last of them, and what was delivered for it, each once: for an update unsynced replies and accepts, for a read what was
-- answered at once, and Lives
pub record Pending : Type 0 where
  pub request : Request
  pub attempts : List Attempt
  pub asked : Bool
  pub early : List Early
  pub accepts : List Accept
  pub glimpses : List Glimpse
  pub lives : List Accept

-- the numbers of pending requests strictly rise
abbrev pub NumbersRise : List Pending → Type 0
NumbersRise [] = ⊤
NumbersRise (p ∷ rest) = Each (λ (q : Pending). p.request.id.seq < q.request.id.seq) rest × NumbersRise rest

-- `fast` clients use the witnesses for updates, those of protocol 2 for reads; `last` is the number of the last request, at
-- first 0; pending requests ascend
pub record ClientState : Type 0 where
  pub fast : Bool
  pub protocol : Protocol
  pub config : Config
  pub last : ℕ
  pub pending : List Pending

-- no request that is pending has a number behind the client's last one
abbrev pub NumbersAreUsed : ClientState → Type 0
NumbersAreUsed c = Each (λ (p : Pending). p.request.id.seq ≤ c.last) c.pending

-- before it invokes anything
abbrev pub fresh_client : Bool → Protocol → Config → ClientState
fresh_client fast protocol config = record { fast = fast; protocol = protocol; config = config; last = 0; pending = [] }

-- how many requests may be pending
abbrev pub most_pending : ℕ
most_pending = 8

-- ---- sending

-- the first partition that owns all hashes of the command
abbrev pub owner_of : Config → Command → Option PartConfig
owner_of config command = first_of (filter (λ p. owns_all p.ranges (hashes command)) config.parts)

-- a sending to the nodes of a partition
abbrev pub attempt_at : PartConfig → Attempt
attempt_at p = record { master = p.master; epoch = p.epoch; version = p.version; witnesses = p.witnesses }

-- An update goes to the master and to each witness, or alone as a Sync where the client isn't fast. A read goes to the master,
-- and in protocol 2 a probe to each witness
abbrev pub sent_by : ℕ → Bool → Protocol → Bool → Request → PartConfig → List Message
sent_by n true protocol true r p =
    says (client_node n) p.master (body.Update (record { request = r; epoch = p.epoch; version = p.version }))
    ∷ says_each (client_node n) p.witnesses (body.Record (record { request = r; epoch = p.epoch }))
sent_by n false protocol true r p = says (client_node n) p.master (body.Sync (record { request = r; epoch = p.epoch; version = p.version })) ∷ []
sent_by n fast One false r p = says (client_node n) p.master (body.Read (record { request = r; epoch = p.epoch; version = p.version })) ∷ []
sent_by n fast Two false r p =
    says (client_node n) p.master (body.Glance (record { request = r; epoch = p.epoch; version = p.version }))
    ∷ says_each (client_node n) p.witnesses (body.Probe (record { id = r.id; epoch = p.epoch }))

-- ---- invoking

-- the least number that is pending, the new one counted
abbrev pub first_pending : ClientState → ℕ → ℕ
first_pending c seq = fold (λ least p. min least p.request.id.seq) seq c.pending

-- the id of its next request (RIFL)
abbrev pub next_id : ℕ → ClientState → RequestId
next_id n c = record { client = n; seq = c.last + 1 }

-- the next request, with the first number that is pending (RIFL)
abbrev pub next_request : ℕ → ClientState → Command → Request
next_request n c command = record { id = next_id n c; first = first_pending c (c.last + 1); command = command }

-- a new request is pending, and is sent for the first time
abbrev pub sends_first : ℕ → ClientState → Request → PartConfig → Moved ClientState
sends_first n c r p = invokes
    (record c { last = r.id.seq; pending = c.pending ++ record { request = r; attempts = attempt_at p ∷ []; asked = false; early = []; accepts = []; glimpses = []; lives = [] } ∷ [] })
    r
    (sent_by n c.fast c.protocol (is_update r.command) r p)

-- where a new request goes, or the number of the refusal: 1 (TooMany) where 8 are pending, 2 (Numbers) where the numbers are at
-- their end, and 3 (Split) where no one partition owns all its hashes
abbrev pub invocation_for : ClientState → Command → Result PartConfig ℕ
invocation_for c command = do
  _ ← refuse_if (nat_le most_pending (length c.pending)) 1
  _ ← refuse_if (nat_le (2 ^ 32 - 1) c.last) 2
  ok_or (owner_of c.config command) 3

-- a command is invoked
unfoldable pub invoke : ℕ → ClientState → Command → Moved ClientState
invoke n c command = unless_refused c (sends_first n c (next_request n c command)) (invocation_for c command)

-- ---- retrying

-- the pending request of that id
abbrev pub with_id : RequestId → List Pending → Option Pending
with_id id pending = first_of (filter (λ p. same_id p.request.id id) pending)

-- one pending request is replaced
abbrev pub replaced : Pending → List Pending → List Pending
replaced new pending = map (λ p. if same_id p.request.id new.request.id then new else p) pending

-- one pending request has changed
abbrev pub with_pending : ClientState → Pending → ClientState
with_pending c p = record c { pending = replaced p c.pending }

-- a pending request, with where it goes
abbrev pub Resent : Type 0
Resent = Pending × PartConfig

-- which request is sent again and where it goes, or the number of the refusal: 1 (NotPending) where it isn't pending, and
-- 2 (Split) where no one partition owns all its hashes
abbrev pub retry_for : ℕ → ClientState → ℕ → Result Resent ℕ
retry_for n c seq = do
  p ← ok_or (with_id (record { client = n; seq = seq }) c.pending) 1
  part ← ok_or (owner_of c.config p.request.command) 2
  Ok (p, part)

-- a pending request is sent once more
abbrev pub sends_again : ℕ → ClientState → Resent → Moved ClientState
sends_again n c r = sends
    (with_pending c (record r.0 { attempts = r.0.attempts ++ attempt_at r.1 ∷ []; asked = false }))
    (sent_by n c.fast c.protocol (is_update r.0.request.command) r.0.request r.1)

-- a pending request is sent again, by its number
unfoldable pub retry : ℕ → ClientState → ℕ → Moved ClientState
retry n c seq = unless_refused c (sends_again n c) (retry_for n c seq)

-- it asks the manager for the configuration
abbrev pub fetch : ℕ → ClientState → Moved ClientState
fetch n c = sends c (says (client_node n) manager_node body.Fetch ∷ [])

-- ---- evidence

-- some witness of that name has accepted at the epoch
abbrev pub has_accepted : List Accept → ℕ → NodeId → Bool
has_accepted accepts epoch witness = list_any (λ a. (a.epoch == epoch) && same_node a.witness witness) accepts

-- all witnesses of the attempt have accepted, at its epoch (CURP)
abbrev pub all_accepted : Pending → Attempt → Bool
all_accepted p a = list_all (has_accepted p.accepts a.epoch) a.witnesses

-- the unsynced reply is that of an attempt whose witnesses have all accepted
abbrev pub proves : Pending → Early → Attempt → Bool
proves p e a = same_node e.master a.master && (e.epoch == a.epoch) && (e.version == a.version) && all_accepted p a

-- the answer of the first unsynced reply that is enough
abbrev pub proved_answer : Pending → Option Early
proved_answer p = first_of (filter (λ e. list_any (proves p e) p.attempts) p.early)

-- a request is pending no longer
abbrev pub without_id : RequestId → List Pending → List Pending
without_id id pending = filter (λ p. not (same_id p.request.id id)) pending

-- a request completes with an answer
abbrev pub completes_with : ClientState → RequestId → Answer → Option Capture → Moved ClientState
completes_with c id a by =
    completes (record c { pending = without_id id c.pending }) (record { id = id; answer = a; by = by })

-- it completes where an unsynced reply is proved
abbrev pub if_proved : ClientState → Pending → Option Early → Moved ClientState
if_proved c p None = quiet (with_pending c p)
if_proved c p (Some e) = completes_with c p.request.id e.answer None

-- evidence is kept, and an update completes once it is enough
abbrev pub with_evidence : ClientState → Pending → Moved ClientState
with_evidence c p = if_proved c p (proved_answer p)

-- all witnesses of the attempt have said Live, at its epoch
abbrev pub all_live : Pending → Attempt → Bool
all_live p a = list_all (has_accepted p.lives a.epoch) a.witnesses

-- what was answered at once is that of an attempt whose witnesses have all said Live
abbrev pub is_seen : Pending → Glimpse → Attempt → Bool
is_seen p g a = same_node g.master a.master && (g.epoch == a.epoch) && (g.version == a.version) && all_live p a

-- the first that is enough of what was answered at once
abbrev pub seen_glimpse : Pending → Option Glimpse
seen_glimpse p = first_of (filter (λ g. list_any (is_seen p g) p.attempts) p.glimpses)

-- it completes where such a one is there, by its capture
abbrev pub if_seen : ClientState → Pending → Option Glimpse → Moved ClientState
if_seen c p None = quiet (with_pending c p)
if_seen c p (Some g) = completes_with c p.request.id g.answer (Some (record { master = g.master; epoch = g.epoch; number = g.capture }))

-- evidence is kept, and a read completes once it is enough
abbrev pub with_sight : ClientState → Pending → Moved ClientState
with_sight c p = if_seen c p (seen_glimpse p)

-- ---- deliveries

-- an unsynced reply, as evidence
abbrev pub early_reply : NodeId → Reply → Early
early_reply from r = record { master = from; epoch = r.epoch; version = r.version; answer = r.answer }

-- the same master has replied, at the same epoch and version
abbrev pub is_told : Early → Early → Bool
is_told e told = same_node told.master e.master && (told.epoch == e.epoch) && (told.version == e.version)

-- one more unsynced reply. Of those of a master, an epoch and a version the first is kept
abbrev pub with_early : List Early → Early → List Early
with_early early e = if list_any (is_told e) early then early else early ++ e ∷ []

-- one more accept, unless it came before
abbrev pub with_accept : List Accept → Accept → List Accept
with_accept accepts a = if has_accepted accepts a.epoch a.witness then accepts else accepts ++ a ∷ []

-- a pending update completes with a synced reply
abbrev pub replied : ClientState → NodeId → Reply → Option Pending → Moved ClientState
replied c from r None = quiet c
replied c from r (Some p) =
    if not (is_update p.request.command) then quiet c
    else if r.synced then completes_with c r.id r.answer None
    else with_evidence c (record p { early = with_early p.early (early_reply from r) })

-- a witness's accept is kept as evidence of a pending update
abbrev pub accepted : ClientState → NodeId → Accepted → Option Pending → Moved ClientState
accepted c from a None = quiet c
accepted c from a (Some p) =
    if is_update p.request.command
    then with_evidence c (record p { accepts = with_accept p.accepts (record { witness = from; epoch = a.epoch }) })
    else quiet c

-- a pending read completes with the first value
abbrev pub valued : ClientState → NodeId → Worth → Option Pending → Moved ClientState
valued c from v None = quiet c
valued c from v (Some p) =
    if is_update p.request.command then quiet c
    else completes_with c v.id v.answer (Some (record { master = from; epoch = v.epoch; number = v.capture }))

-- a Quick, as evidence
abbrev pub glimpse : NodeId → Quick → Glimpse
glimpse from q = record { master = from; epoch = q.epoch; version = q.version; capture = q.capture; answer = q.answer }

-- the same master has answered at once, at the same epoch and version
abbrev pub is_glimpsed : Glimpse → Glimpse → Bool
is_glimpsed g seen = same_node seen.master g.master && (seen.epoch == g.epoch) && (seen.version == g.version)

-- one more Quick. Of those of a master, an epoch and a version the first is kept
abbrev pub with_glimpse : List Glimpse → Glimpse → List Glimpse
with_glimpse glimpses g = if list_any (is_glimpsed g) glimpses then glimpses else glimpses ++ g ∷ []

-- a Quick is kept as evidence of a pending read
abbrev pub glimpsed : ClientState → NodeId → Quick → Option Pending → Moved ClientState
glimpsed c from q None = quiet c
glimpsed c from q (Some p) =
    if is_update p.request.command then quiet c
    else with_sight c (record p { glimpses = with_glimpse p.glimpses (glimpse from q) })

-- it asks the master of the latest attempt to read, with what it knew then
abbrev pub asks_value : ℕ → ClientState → Pending → Option Attempt → Moved ClientState
asks_value n c p None = quiet c
asks_value n c p (Some a) = sends (with_pending c (record p { asked = true }))
    (says (client_node n) a.master (body.Read (record { request = p.request; epoch = a.epoch; version = a.version })) ∷ [])

-- a Live is kept as evidence; a NotLive lets it ask for a value, once an attempt
abbrev pub probed_read : ℕ → ClientState → NodeId → Probed → Pending → Moved ClientState
probed_read n c from a p =
    if a.live then with_sight c (record p { lives = with_accept p.lives (record { witness = from; epoch = a.epoch }) })
    else if p.asked then quiet c
    else asks_value n c p (last_of p.attempts)

-- the same of a pending read alone
abbrev pub probed : ℕ → ClientState → NodeId → Probed → Option Pending → Moved ClientState
probed n c from a None = quiet c
probed n c from a (Some p) = if is_update p.request.command then quiet c else probed_read n c from a p

-- it asks the master of the latest attempt, with what it knew then
abbrev pub asks : ℕ → ClientState → Pending → Option Attempt → Moved ClientState
asks n c p None = quiet c
asks n c p (Some a) = sends (with_pending c (record p { asked = true }))
    (says (client_node n) a.master (body.Sync (record { request = p.request; epoch = a.epoch; version = a.version })) ∷ [])

-- a rejection lets it ask for a synced reply to a pending update, once an attempt
abbrev pub rejected : ℕ → ClientState → Option Pending → Moved ClientState
rejected n c None = quiet c
rejected n c (Some p) =
    if not (is_update p.request.command) then quiet c
    else if p.asked then quiet c
    else asks n c p (last_of p.attempts)

-- a configuration is taken where its serial is above the client's
abbrev pub configured : ClientState → Config → ClientState
configured c config = if nat_lt c.config.serial config.serial then record c { config = config } else c

-- ---- inputs

-- a message comes to client n
unfoldable pub on_client : ℕ → ClientState → NodeId → Body → Moved ClientState
on_client n c from (body.Reply r) = replied c from r (with_id r.id c.pending)
on_client n c from (body.Accepted a) = accepted c from a (with_id a.id c.pending)
on_client n c from (body.Worth v) = valued c from v (with_id v.id c.pending)
on_client n c from (body.Quick q) = glimpsed c from q (with_id q.id c.pending)
on_client n c from (body.Probed a) = probed n c from a (with_id a.id c.pending)
on_client n c from (body.Rejected r) = rejected n c (with_id r.id c.pending)
on_client n c from (body.Configuration config) = quiet (configured c config)
on_client n c from _ = quiet c

-- client n gets an order
unfoldable pub client_ordered : ℕ → ClientState → Local → Moved ClientState
client_ordered n c (local.Invoke command) = invoke n c command
client_ordered n c (local.Retry seq) = retry n c seq
client_ordered n c local.Fetch = fetch n c
client_ordered n c _ = quiet c

-- an input comes to client n
abbrev pub client_input : ℕ → ClientState → Input → Moved ClientState
client_input n c (input.Local order) = client_ordered n c order
client_input n c (input.Message m) = on_client n c m.from m.body
