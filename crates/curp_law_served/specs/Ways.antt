-- What is on its way while a world is led to quiet: of each request that isn't completed, of each entry that is held and
-- of each capture that waits, some message that will bring it on was sent and isn't delivered, or what that message does
-- is done.
use Rattle.std.specs.Prelude.{◌≡◌, ◌≤◌, ◌<◌, ◌⊎◌, ℕ, ◌+◌, true, false, List, [], ◌∷◌, length, None, ⊤}
use Rattle.curp_base.specs.Words.{At, Each}
use Rattle.curp_cmd.specs.Node.{client_node, master_node}
use Rattle.curp_cmd.specs.Store.{is_update}
use Rattle.curp_cmd.specs.declared.command.Request.{Request}
use Rattle.curp_cmd.specs.declared.command.RequestId.{RequestId}
use Rattle.curp_cmd.specs.declared.entry.Entry.TheVariants.{Op}
use Rattle.curp_cmd.specs.declared.node.NodeId.{NodeId}
use Rattle.curp_msg.specs.declared.answer.AppendAnswer.{AppendAnswer}
use Rattle.curp_msg.specs.declared.answer.AppendAnswer.TheVariants.{Stored}
use Rattle.curp_msg.specs.declared.body.Ask.{Ask}
use Rattle.curp_msg.specs.declared.body.Body.{Body}
use Rattle.curp_msg.specs.declared.body.Body.TheVariants as body
use Rattle.curp_msg.specs.declared.config.PartConfig.{PartConfig}
use Rattle.curp_msg.specs.declared.message.Message.{Message}
use Rattle.curp_facts.specs.Facts.{IsAmong}
use Rattle.curp_model.specs.Client.{Early, Pending, attempt_at, has_accepted, proved_answer}
use Rattle.curp_model.specs.Master.{Acknowledged, Captured, MasterState, from_backup, is_ready, synced}

-- a kind of message
abbrev pub Kind : Type 1
Kind = NodeId → NodeId → Body → Type 0

-- the message is of that kind
abbrev pub IsOfKind : Kind → Message → Type 0
IsOfKind P x = P x.from x.to x.body

-- a message of that kind is on its way, where D says which are
abbrev pub OnWay : (Message → Type 0) → Kind → Type 0
OnWay D P = (x : Message) × D x × IsOfKind P x

-- ---- kinds

-- an append of an epoch to that backup, that reaches so far, of a round not before that one
abbrev pub Appends : ℕ → NodeId → ℕ → ℕ → Kind
Appends epoch b long round from to (body.Append a) =
    (to ≡ b) × (a.epoch ≡ epoch) × (long ≤ a.base + length a.entries) × (round ≤ a.round)
Appends epoch b long round from to _ = ⊥

-- the backup has so many, as of a round not before that one
abbrev pub AnswersStored : ℕ → ℕ → ℕ → AppendAnswer → Type 0
AnswersStored long round its (Stored l) = (long ≤ l) × (round ≤ its)
AnswersStored long round its _ = ⊥

-- that backup tells master n so
abbrev pub Stores : ℕ → NodeId → ℕ → ℕ → Kind
Stores n b long round from to (body.Appended a) =
    (from ≡ b) × (to ≡ master_node n) × AnswersStored long round a.round a.answer
Stores n b long round from to _ = ⊥

-- a synced reply to the request of that id
abbrev pub SyncedReply : RequestId → Kind
SyncedReply id from to (body.Reply r) = (to ≡ client_node id.client) × (r.id ≡ id) × (r.synced ≡ true)
SyncedReply id from to _ = ⊥

-- an unsynced one by that master, at that epoch and version
abbrev pub EarlyReply : NodeId → ℕ → ℕ → RequestId → Kind
EarlyReply master epoch version id from to (body.Reply r) =
    (from ≡ master) × (to ≡ client_node id.client) × (r.id ≡ id) × (r.synced ≡ false) × (r.epoch ≡ epoch)
    × (r.version ≡ version)
EarlyReply master epoch version id from to _ = ⊥

-- a value of the read of that id
abbrev pub ValueOf : RequestId → Kind
ValueOf id from to (body.Worth v) = (to ≡ client_node id.client) × (v.id ≡ id)
ValueOf id from to _ = ⊥

-- what is asked of a master is this request, at that epoch and version
abbrev pub Asks : PartConfig → Request → NodeId → Ask → Type 0
Asks c r to ask = (to ≡ c.master) × (ask.request ≡ r) × (ask.epoch ≡ c.epoch) × (ask.version ≡ c.version)

-- the update of a request to the master
abbrev pub Updates : PartConfig → Request → Kind
Updates c r from to (body.Update ask) = Asks c r to ask
Updates c r from to _ = ⊥

-- its sync
abbrev pub Syncs : PartConfig → Request → Kind
Syncs c r from to (body.Sync ask) = Asks c r to ask
Syncs c r from to _ = ⊥

-- its read
abbrev pub Reads : PartConfig → Request → Kind
Reads c r from to (body.Read ask) = Asks c r to ask
Reads c r from to _ = ⊥

-- its record to a witness
abbrev pub Records : PartConfig → Request → NodeId → Kind
Records c r x from to (body.Record k) =
    (from ≡ client_node r.id.client) × (to ≡ x) × (k.request ≡ r) × (k.epoch ≡ c.epoch)
Records c r x from to _ = ⊥

-- the witness's accept
abbrev pub Accepts : PartConfig → RequestId → NodeId → Kind
Accepts c id x from to (body.Accepted a) = (from ≡ x) × (to ≡ client_node id.client) × (a.id ≡ id) × (a.epoch ≡ c.epoch)
Accepts c id x from to _ = ⊥

-- a rejection
abbrev pub Rejects : RequestId → Kind
Rejects id from to (body.Rejected r) = (to ≡ client_node id.client) × (r.id ≡ id)
Rejects id from to _ = ⊥

-- ---- rounds

-- a backup has acknowledged so many entries as of a round; or an append that reaches so far is on its way to it, or its
-- answer
pub data WillCover (D : Message → Type 0) (acks : List Acknowledged) (epoch n : ℕ) (b : NodeId) (long round : ℕ)
    : Type 0 where
  Known : long ≤ (from_backup acks b).length → round ≤ (from_backup acks b).round → WillCover D acks epoch n b long round
  Goes : OnWay D (Appends epoch b long round) → WillCover D acks epoch n b long round
  Comes : OnWay D (Stores n b long round) → WillCover D acks epoch n b long round

-- of each backup of its list
abbrev pub Covered : (Message → Type 0) → ℕ → MasterState → ℕ → ℕ → Type 0
Covered D n m long round = Each (λ b. WillCover D m.acknowledged m.epoch n b long round) m.backups

-- an entry that is held isn't synced, and a round is under way that covers it
pub record HeldGoes (D : Message → Type 0) (n : ℕ) (m : MasterState) (index : ℕ) : Type 0 where
  pub unsynced : synced m ≤ index
  pub within : index < length m.log
  pub covered : Covered D n m (index + 1) 0

-- a capture that waits isn't ready, and its round is under way
pub record CaptureGoes (D : Message → Type 0) (n : ℕ) (m : MasterState) (c : Captured) : Type 0 where
  pub unready : is_ready m c ≡ false
  pub within : c.length ≤ length m.log
  pub covered : Covered D n m c.length c.round

-- all that a serving master waits for
pub record MasterGoes (D : Message → Type 0) (n : ℕ) (m : MasterState) : Type 0 where
  pub held : Each (HeldGoes D n m) m.held
  pub captures : Each (CaptureGoes D n m) m.captures

-- ---- requests at the master

-- the op of the request is held
pub record IsHeldFor (m : MasterState) (id : RequestId) : Type 0 where
  pub index : ℕ
  pub held : IsAmong index m.held
  pub request : Request
  pub acknowledged : ℕ
  pub stands : At m.log index (Op request acknowledged)
  pub its_id : request.id ≡ id

-- a synced reply is on its way, or the op is held
abbrev pub Answers : (Message → Type 0) → MasterState → RequestId → Type 0
Answers D m id = OnWay D (SyncedReply id) ⊎ IsHeldFor m id

-- or an unsynced one is on its way
abbrev pub WillTell : (Message → Type 0) → PartConfig → MasterState → RequestId → Type 0
WillTell D c m id = Answers D m id ⊎ OnWay D (EarlyReply c.master c.epoch c.version id)

-- a read waits for its round
pub record IsCaptured (m : MasterState) (id : RequestId) : Type 0 where
  pub capture : Captured
  pub waits : IsAmong capture m.captures
  pub its_id : capture.id ≡ id

-- or its value is on its way
abbrev pub Gives : (Message → Type 0) → MasterState → RequestId → Type 0
Gives D m id = OnWay D (ValueOf id) ⊎ IsCaptured m id

-- ---- requests at the client

-- an unsynced reply by that master, at that epoch and version, has come
pub record HasEarly (p : Pending) (c : PartConfig) : Type 0 where
  pub early : Early
  pub came : IsAmong early p.early
  pub master : early.master ≡ c.master
  pub epoch : early.epoch ≡ c.epoch
  pub version : early.version ≡ c.version

-- a witness was asked, and will have accepted, or the request is, or will be, asked for again
abbrev pub GetsRecorded : (Message → Type 0) → PartConfig → Pending → NodeId → Type 0
GetsRecorded D c p x =
    (has_accepted p.accepts c.epoch x ≡ true) ⊎ ((p.asked ≡ true)
    ⊎ (OnWay D (Records c p.request x) ⊎ (OnWay D (Accepts c p.request.id x) ⊎ OnWay D (Rejects p.request.id))))

-- an update that isn't completed
pub record UpdateGoes (D : Message → Type 0) (m : MasterState) (c : PartConfig) (p : Pending) : Type 0 where
  pub unproved : proved_answer p ≡ None
  pub told : HasEarly p c ⊎ (OnWay D (Updates c p.request) ⊎ WillTell D c m p.request.id)
  pub asked : p.asked ≡ true → OnWay D (Syncs c p.request) ⊎ Answers D m p.request.id
  pub recorded : Each (GetsRecorded D c p) c.witnesses

-- a read that isn't completed
abbrev pub ReadGoes : (Message → Type 0) → MasterState → PartConfig → Pending → Type 0
ReadGoes D m c p = OnWay D (Reads c p.request) ⊎ Gives D m p.request.id

-- a request that isn't completed was sent once, and goes on by its kind
pub record PendingGoes (D : Message → Type 0) (m : MasterState) (c : PartConfig) (p : Pending) : Type 0 where
  pub sent_once : p.attempts ≡ attempt_at c ∷ []
  pub update : is_update p.request.command ≡ true → UpdateGoes D m c p
  pub read : is_update p.request.command ≡ false → ReadGoes D m c p

-- at most one request pends
abbrev pub PendsOne : (Message → Type 0) → MasterState → PartConfig → List Pending → Type 0
PendsOne D m c [] = ⊤
PendsOne D m c (p ∷ []) = PendingGoes D m c p
PendsOne D m c (p ∷ q ∷ rest) = ⊥
