-- The small machine of the order, and the facts that its moves keep. It has the adopted logs, the migration in work, the
-- migrations that were told, the marks and the history: no node, no message (this project's own).
use Rattle.std.specs.FinMap as store
use Rattle.std.specs.List.{filter, list_any}
use Rattle.std.specs.Prelude.{◌≡◌, ◌≢◌, ◌⊎◌, ◌<◌, ◌≤◌, ℕ, true, false, List, [], ◌∷◌, take, Option, Some, ⊤}
use Rattle.curp_base.specs.Words.{At, numbered}
use Rattle.curp_range.specs.Spans.{is_in}
use Rattle.curp_cmd.specs.Hash.{hash_of, touches}
use Rattle.curp_cmd.specs.Store.{applied, is_update, nothing}
use Rattle.curp_cmd.specs.declared.command.Answer.{Answer}
use Rattle.curp_cmd.specs.declared.command.Command.{Command}
use Rattle.curp_cmd.specs.declared.command.Request.{Request}
use Rattle.curp_cmd.specs.declared.command.RequestId.{RequestId}
use Rattle.curp_cmd.specs.declared.entry.Entry.{Entry}
use Rattle.curp_cmd.specs.declared.entry.Entry.TheVariants.{Op, Take}
use Rattle.curp_cmd.specs.declared.migration.Package.{Package}
use Rattle.curp_order.specs.Order.{IsHistory, answers, store_after, Asked}
use Rattle.curp_order.specs.declared.Event.{Event}
use Rattle.curp_order.specs.declared.Event.TheVariants.{Complete, Invoke}
use Rattle.curp_msg.specs.declared.machine.Capture.{Capture}
use Rattle.curp_model.specs.Log.{answer_after, entry_touches}
use Rattle.curp_model.specs.Manager.{Migration}
use Rattle.curp_facts.specs.Marked.{is_completed}
use Rattle.curp_model.specs.Marks.{Cut, Executed, Looked, Mark, Quick, adoptions, is_cut, is_open_cut, is_timed, is_update_mark, shown}
use Rattle.curp_facts.specs.Facts.{IsAmong}
use Rattle.curp_law_kept.specs.Hashes.{updates, value}
use Rattle.curp_law_linear.specs.Hashes.{HashesOk, Part, has_take, is_give, is_take, owns, state_of}

-- What a superseded master's log is: the prefix that was recovered when its partition was adopted anew, with the partition's
-- range, and behind it what didn't come along, and what the master has pushed since
pub record Left : Type 0 where
  pub prefix : Part
  pub back : List Entry

-- the adopted log of each partition, the migration in work, the migrations whose package was told, the marks, the history, and
-- the superseded logs by partition and number of adoption
pub record LineState : Type 0 where
  pub parts : List Part
  pub moving : Option Migration
  pub told : List ℕ
  pub marks : List Mark
  pub history : List Event
  pub left : ℕ → ℕ → Left

-- ---- words

-- an op of that request stands at the index of the partition's log
pub record OpAt (parts : List Part) (part index : ℕ) (id : RequestId) (command : Command) : Type 0 where
  pub p : Part
  pub here : numbered parts part ≡ Some p
  pub request : Request
  pub acknowledged : ℕ
  pub stands : At p.log index (Op request acknowledged)
  pub its_id : request.id ≡ id
  pub its_command : request.command ≡ command

-- the request has completed
pub record IsCompleted (history : List Event) (id : RequestId) : Type 0 where
  pub event : ℕ
  pub answer : Answer
  pub stands : At history event (Complete id answer)

-- the request was invoked with that command
pub record WasInvoked (history : List Event) (id : RequestId) (command : Command) : Type 0 where
  pub event : ℕ
  pub stands : At history event (Invoke id command)

-- a request stands in the order, and one thread gives it that answer there
pub record AnsweredInOrder (order : List Asked) (x : Asked) (a : Answer) : Type 0 where
  pub place : ℕ
  pub stands : At order place x
  pub answer : At (answers order) place a

-- no adopted log has the give of the migration
abbrev pub Ungiven : List Part → ℕ → Type 0
Ungiven parts number = (k : ℕ) (q : Part) → numbered parts k ≡ Some q → list_any (is_give number) q.log ≡ false

-- ---- marks of updates, ops and completions

-- an uncompleted update's mark gives the place of its op
abbrev pub WaitingOk : List Part → List Mark → Type 0
WaitingOk parts marks = (k i : ℕ) (m : Mark) → At marks k m → m.place ≡ Executed i → m.completed ≡ false
    → OpAt parts m.part i m.id m.command

-- each update's mark, completed or not, has its op somewhere in its partition's log
abbrev pub StandingOk : List Part → List Mark → Type 0
StandingOk parts marks = (k i : ℕ) (m : Mark) → At marks k m → m.place ≡ Executed i → (j : ℕ) × OpAt parts m.part j m.id m.command

-- a flagged mark is of a completed request
abbrev pub FlagsOk : List Mark → List Event → Type 0
FlagsOk marks history = (k : ℕ) (m : Mark) → At marks k m → m.completed ≡ true → IsCompleted history m.id

-- an update's mark that isn't flagged is of a request that hasn't completed
abbrev pub UnflaggedOk : List Mark → List Event → Type 0
UnflaggedOk marks history = (k i : ℕ) (m : Mark) → At marks k m → m.place ≡ Executed i → m.completed ≡ false
    → IsCompleted history m.id → ⊥

-- each mark but those of adoptions is of a request that was invoked with that command
abbrev pub InvokedOk : List Mark → List Event → Type 0
InvokedOk marks history = (k : ℕ) (m : Mark) → At marks k m → is_open_cut m ≡ false → WasInvoked history m.id m.command

-- a completed update stands in the order with the answer that it completed with
abbrev pub MarkedOk : List Asked → List Event → Type 0
MarkedOk order history = (e : ℕ) (id : RequestId) (c : Command) (a : Answer) → At history e (Complete id a)
    → WasInvoked history id c → is_update c ≡ true
    → AnsweredInOrder order (id, c) a

-- an update's mark is that of an op, and a read's that of a look
abbrev pub KindsOk : List Mark → Type 0
KindsOk marks = (k : ℕ) (m : Mark) → At marks k m → is_update m.command ≡ is_update_mark m.place

-- a flagged mark of the request
pub record FlagOf (marks : List Mark) (id : RequestId) : Type 0 where
  pub place : ℕ
  pub m : Mark
  pub stands : At marks place m
  pub its_id : m.id ≡ id
  pub is_flagged : m.completed ≡ true

-- a completed read has a flagged mark
abbrev pub ReadsOk : List Mark → List Event → Type 0
ReadsOk marks history = (id : RequestId) (c : Command) → IsCompleted history id → WasInvoked history id c → is_update c ≡ false
    → FlagOf marks id

-- no two flagged marks are of one request
abbrev pub OneFlagOk : List Mark → Type 0
OneFlagOk marks = (j k : ℕ) (m o : Mark) → At marks j m → At marks k o → m.completed ≡ true → o.completed ≡ true → m.id ≡ o.id
    → j ≡ k

-- no request stands in the order twice
abbrev pub DistinctOk : List Asked → Type 0
DistinctOk order = (j k : ℕ) (x y : Asked) → At order j x → At order k y → x.0 ≡ y.0 → j ≡ k

-- each op of an adopted log stands in the order, and one thread gives it there the answer that the log gives
abbrev pub AnswersOk : List Part → List Asked → Type 0
AnswersOk parts order = (n : ℕ) (p : Part) (i : ℕ) (r : Request) (a : ℕ) → numbered parts n ≡ Some p → At p.log i (Op r a)
    → AnsweredInOrder order (r.id, r.command) (answer_after p.lo p.hi (take i p.log) r.command)

-- a request is an op at one place of one adopted log
abbrev pub OnceOk : List Part → Type 0
OnceOk parts = (n m : ℕ) (p q : Part) (i j : ℕ) (r s : Request) (a b : ℕ) → numbered parts n ≡ Some p → numbered parts m ≡ Some q
    → At p.log i (Op r a) → At q.log j (Op s b) → r.id ≡ s.id → (n ≡ m) × (i ≡ j)

-- the request was invoked before what is flagged behind the place completed
abbrev pub EarlyAt : List Mark → List Event → ℕ → RequestId → Command → Type 0
EarlyAt marks history place id command = (j e : ℕ) (m : Mark) (a : Answer) → place < j → At marks j m → m.completed ≡ true
    → At history e (Complete m.id a)
    → (i : ℕ) × (i < e) × At history i (Invoke id command)

-- What stands before a flagged mark was invoked before the mark's request completed. Nothing is said of quick marks that
-- aren't flagged, since late ones came between others
abbrev pub InTimeOk : List Mark → List Event → Type 0
InTimeOk marks history = (k : ℕ) (o : Mark) → At marks k o → is_timed o ≡ true → EarlyAt marks history k o.id o.command

-- what is kept of the updates' order: its equation at each hash, its marks, its answers
pub record OrderOk (s : LineState) : Type 0 where
  pub history : IsHistory s.history
  pub hashes : HashesOk s.moving s.parts (updates s.marks)
  pub waiting : WaitingOk s.parts s.marks
  pub standing : StandingOk s.parts s.marks
  pub flags : FlagsOk s.marks s.history
  pub unflagged : UnflaggedOk s.marks s.history
  pub invoked : InvokedOk s.marks s.history
  pub marked : MarkedOk (updates s.marks) s.history
  pub kinds : KindsOk s.marks
  pub reads : ReadsOk s.marks s.history
  pub one_flag : OneFlagOk s.marks
  pub distinct : DistinctOk (updates s.marks)
  pub answered : AnswersOk s.parts (updates s.marks)
  pub once : OnceOk s.parts
  pub in_time : InTimeOk s.marks s.history

-- ---- who owns a hash

-- One partition owns a hash at most. Where a take is out, its source doesn't own the hash, and an owner is the target with
-- the give. The entries of the migration in work stand at its source and at its target
pub record Owned (moving : Option Migration) (parts : List Part) : Type 0 where
  pub one : (n k : ℕ) (p q : Part) (h : ℕ) → numbered parts n ≡ Some p → numbered parts k ≡ Some q → owns p h ≡ true
      → owns q h ≡ true → n ≡ k
  pub gone : (n : ℕ) (p : Part) (h : ℕ) → numbered parts n ≡ Some p → owns p h ≡ true → has_take moving h p.log ≡ true → ⊥
  pub moved : (n k : ℕ) (p q : Part) (h : ℕ) (m : Migration) → moving ≡ Some m → numbered parts n ≡ Some p
      → numbered parts k ≡ Some q → owns p h ≡ true
      → has_take moving h q.log ≡ true → (n ≡ m.target) × (list_any (is_give m.number) p.log ≡ true)
  pub source : (n : ℕ) (p : Part) (m : Migration) → moving ≡ Some m → numbered parts n ≡ Some p
      → list_any (is_take m.number) p.log ≡ true → n ≡ m.source
  pub target : (n : ℕ) (p : Part) (m : Migration) → moving ≡ Some m → numbered parts n ≡ Some p
      → list_any (is_give m.number) p.log ≡ true → n ≡ m.target
  pub apart : (m : Migration) → moving ≡ Some m → m.source ≡ m.target → ⊥

-- ---- reads

-- what one thread answers to the command at that place of the marks
abbrev pub answer_at : List Mark → ℕ → Command → Answer
answer_at marks place command = (applied (store_after nothing (shown (take place marks))) command).answer

-- a take of the hash that was told stands behind the index
pub record ToldTake (told : List ℕ) (log : List Entry) (i h : ℕ) : Type 0 where
  pub place : ℕ
  pub number : ℕ
  pub taken : Package
  pub stands : At log place (Take number taken)
  pub behind : i < place
  pub covers : is_in taken.lo taken.hi h ≡ true
  pub is_told : IsAmong number told

-- An uncompleted update that is marked before a look, on one of its hashes, stands below the look's length in the same
-- partition's log, or in another partition's log before a told take of the hash. So no adoption drops it and keeps the look
abbrev pub LooksOk : List Part → List ℕ → List Mark → Type 0
LooksOk parts told marks = (j k i number long h : ℕ) (m u : Mark) → At marks j m → m.place ≡ Looked number long → At marks k u
    → k < j → u.place ≡ Executed i → u.completed ≡ false
    → touches m.command h ≡ true → touches u.command h ≡ true
    → ((u.part ≡ m.part) × (i < long))
    ⊎ ((u.part ≢ m.part) × (p : Part) × (numbered parts u.part ≡ Some p) × ToldTake told p.log i h)

-- the take is that of the migration in work, with its range, and no log has the give
pub record IsTakeInWork (parts : List Part) (moving : Option Migration) (number : ℕ) (taken : Package) : Type 0 where
  pub m : Migration
  pub in_work : moving ≡ Some m
  pub its_number : m.number ≡ number
  pub lo : taken.lo ≡ m.range.lo
  pub hi : taken.hi ≡ m.range.hi
  pub ungiven : Ungiven parts number

-- each take in an adopted log was told, or is that of the migration in work
abbrev pub TakesOk : List Part → Option Migration → List ℕ → Type 0
TakesOk parts moving told = (n : ℕ) (p : Part) (i number : ℕ) (taken : Package) → numbered parts n ≡ Some p
    → At p.log i (Take number taken)
    → IsAmong number told ⊎ IsTakeInWork parts moving number taken

-- one thread gives a flagged look the answer that its request completed with
abbrev pub ValuesOk : List Mark → List Event → Type 0
ValuesOk marks history = (k e : ℕ) (m : Mark) (a : Answer) → At marks k m → is_update_mark m.place ≡ false → m.completed ≡ true
    → At history e (Complete m.id a)
    → answer_at marks k m.command ≡ a

-- ---- reads that are answered at once

-- the update's op stands in another partition's log before a told take of the hash
abbrev pub ToldAway : List Part → List ℕ → Mark → ℕ → ℕ → Type 0
ToldAway parts told u i h = (p : Part) × (numbered parts u.part ≡ Some p) × ToldTake told p.log i h

-- each uncompleted update of another partition that is marked before the place, on the hash, does so
abbrev pub AwayOk : List Part → List ℕ → List Mark → ℕ → ℕ → ℕ → Type 0
AwayOk parts told marks place part h = (k i : ℕ) (u : Mark) → At marks k u → k < place → u.place ≡ Executed i
    → u.completed ≡ false → touches u.command h ≡ true → u.part ≢ part
    → ToldAway parts told u i h

-- what a superseded log has of the hash is what its prefix has: the prefix owns it, and nothing behind touches it
pub record IsFirm (l : Left) (h : ℕ) : Type 0 where
  pub owned : owns l.prefix h ≡ true
  pub quiet : list_any (λ (e : Entry). entry_touches e h) l.back ≡ false

-- so it is before a quick mark, on each of its hashes
abbrev pub QuicksOk : List Part → List ℕ → List Mark → Type 0
QuicksOk parts told marks = (j number h : ℕ) (m : Mark) → At marks j m → m.place ≡ Quick number → touches m.command h ≡ true
    → AwayOk parts told marks j m.part h

-- and before the mark of an adoption, on each hash that the superseded log has of its prefix
abbrev pub CutsOk : List Part → List ℕ → (ℕ → ℕ → Left) → List Mark → Type 0
CutsOk parts told left marks = (j number long h : ℕ) (m : Mark) → At marks j m → m.place ≡ Cut number long
    → IsFirm (left m.part number) h → AwayOk parts told marks j m.part h

-- an uncompleted update of the partition that is marked before an adoption stands in the log that was recovered
abbrev pub CutsLow : List Mark → Type 0
CutsLow marks = (j k i number long : ℕ) (m u : Mark) → At marks j m → m.place ≡ Cut number long → At marks k u → k < j
    → u.place ≡ Executed i → u.completed ≡ false → u.part ≡ m.part
    → i < long

-- adoptions of a partition have numbers up to their count
abbrev pub CutsNumbered : List Mark → Type 0
CutsNumbered marks = (j number long : ℕ) (m : Mark) → At marks j m → m.place ≡ Cut number long → number ≤ adoptions m.part marks

-- each once
abbrev pub CutsOnce : List Mark → Type 0
CutsOnce marks = (j k number long other : ℕ) (m o : Mark) → At marks j m → At marks k o → m.place ≡ Cut number long
    → o.place ≡ Cut number other → m.part ≡ o.part → j ≡ k

-- the mark of that adoption of the partition
pub record CutAt (marks : List Mark) (part number : ℕ) : Type 0 where
  pub place : ℕ
  pub mark : Mark
  pub long : ℕ
  pub stands : At marks place mark
  pub its_part : mark.part ≡ part
  pub is_cut : mark.place ≡ Cut number long

-- each of those numbers is one of a mark
abbrev pub CutsThere : List Mark → Type 0
CutsThere marks = (part number : ℕ) → 1 ≤ number → number ≤ adoptions part marks → CutAt marks part number

-- none is flagged
abbrev pub CutsOpen : List Mark → Type 0
CutsOpen marks = (k : ℕ) (m : Mark) → At marks k m → is_cut m.place ≡ true → m.completed ≡ false

-- on each hash that a superseded log has of its prefix, the order before the mark of the adoption has what the prefix has
abbrev pub CutValues : (ℕ → ℕ → Left) → List Mark → Type 0
CutValues left marks = (j number long : ℕ) (m : Mark) → At marks j m → m.place ≡ Cut number long → (key : List ℕ)
    → IsFirm (left m.part number) (hash_of key)
    → value key (updates (take j marks)) ≡ store.get (state_of (left m.part number).prefix).store key

-- what is kept of quick marks and adoptions
pub record QuickKept (parts : List Part) (told : List ℕ) (left : ℕ → ℕ → Left) (marks : List Mark) : Type 0 where
  pub quicks : QuicksOk parts told marks
  pub cuts : CutsOk parts told left marks
  pub low : CutsLow marks
  pub numbers : CutsNumbered marks
  pub once : CutsOnce marks
  pub there : CutsThere marks
  pub plain : CutsOpen marks
  pub values : CutValues left marks

-- the quick mark is kept, and one thread gives the answer at that mark
pub record QuickGives (marks : List Mark) (by : Capture) (part : ℕ) (id : RequestId) (a : Answer) : Type 0 where
  pub place : ℕ
  pub mark : Mark
  pub stands : At marks place mark
  pub its_master : mark.master ≡ by.master
  pub its_epoch : mark.epoch ≡ by.epoch
  pub its_part : mark.part ≡ part
  pub its_id : mark.id ≡ id
  pub is_quick : mark.place ≡ Quick by.number
  pub gives : answer_at marks place mark.command ≡ a

-- and its request was invoked before what is flagged behind it completed
pub record QuickEarly (s : LineState) (by : Capture) (part : ℕ) (id : RequestId) (a : Answer) : Type 0 where
  pub its : QuickGives s.marks by part id a
  pub early : EarlyAt s.marks s.history its.place its.mark.id its.mark.command

-- what is uncompleted before the quick mark, on its hashes and of its partition, stands in the log below the length
pub record QuickLow (marks : List Mark) (by : Capture) (part long : ℕ) (id : RequestId) : Type 0 where
  pub place : ℕ
  pub mark : Mark
  pub stands : At marks place mark
  pub its_master : mark.master ≡ by.master
  pub its_epoch : mark.epoch ≡ by.epoch
  pub its_part : mark.part ≡ part
  pub its_id : mark.id ≡ id
  pub is_quick : mark.place ≡ Quick by.number
  pub low : (k i h : ℕ) (u : Mark) → At marks k u → k < place → u.place ≡ Executed i → u.completed ≡ false → u.part ≡ part
      → touches mark.command h ≡ true → touches u.command h ≡ true → i < long

-- the mark of that adoption is kept, and the request was invoked before what is flagged behind it completed
pub record CutEarly (s : LineState) (part number : ℕ) (id : RequestId) (command : Command) : Type 0 where
  pub place : ℕ
  pub mark : Mark
  pub stands : At s.marks place mark
  pub its_part : mark.part ≡ part
  pub long : ℕ
  pub is_cut : mark.place ≡ Cut number long
  pub early : EarlyAt s.marks s.history place id command

-- ---- what is kept of reads

pub record LooksKept (s : LineState) : Type 0 where
  pub looks : LooksOk s.parts s.told s.marks
  pub takes : TakesOk s.parts s.moving s.told
  pub values : ValuesOk s.marks s.history

-- the mark of a look is kept, and one thread gives the answer at that mark
pub record LookGives (marks : List Mark) (by : Capture) (part length : ℕ) (id : RequestId) (a : Answer) : Type 0 where
  pub place : ℕ
  pub mark : Mark
  pub stands : At marks place mark
  pub its_master : mark.master ≡ by.master
  pub its_epoch : mark.epoch ≡ by.epoch
  pub its_part : mark.part ≡ part
  pub its_id : mark.id ≡ id
  pub is_look : mark.place ≡ Looked by.number length
  pub gives : answer_at marks place mark.command ≡ a

-- ---- what the order shows

-- the completed requests of the order
abbrev pub completed_order : LineState → List Asked
completed_order s = filter (λ (x : Asked). is_completed s.history x.0) (shown s.marks)

-- the items of the one list stand in the other, in the same order
abbrev pub StandsIn : {A : Type 0} → List A → List A → Type 0
StandsIn [] ys = ⊤
StandsIn (x ∷ xs) [] = ⊥
StandsIn (x ∷ xs) (y ∷ ys) = ((x ≡ y) × StandsIn xs ys) ⊎ StandsIn (x ∷ xs) ys

-- ---- all together

-- what every move keeps
pub record LineOk (s : LineState) : Type 0 where
  pub order : OrderOk s
  pub owned : Owned s.moving s.parts
  pub looks : LooksKept s
  pub quick : QuickKept s.parts s.told s.left s.marks
