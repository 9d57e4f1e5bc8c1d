-- The moves of the small machine, with what each needs and what it does.
use Rattle.std.specs.List.{IsDistinct, filter, list_any}
use Rattle.std.specs.Prelude.{◌≡◌, ◌≢◌, ◌≤◌, ◌<◌, ◌-◌, ◌+◌, ◌==◌, ◌&&◌, if◌then◌else◌, ℕ, Bool, true, false, List, [], ◌∷◌, ◌++◌, set, map, length, take, drop, Some, None, ⊤}
use Rattle.curp_base.specs.Words.{At, numbered}
use Rattle.curp_range.specs.Spans.{is_covered, is_in}
use Rattle.curp_cmd.specs.Hash.{touches}
use Rattle.curp_cmd.specs.Store.{is_update}
use Rattle.curp_cmd.specs.declared.command.Answer.{Answer}
use Rattle.curp_cmd.specs.declared.command.Command.{Command}
use Rattle.curp_cmd.specs.declared.command.Request.{Request}
use Rattle.curp_cmd.specs.declared.command.RequestId.{RequestId}
use Rattle.curp_cmd.specs.declared.entry.Entry.{Entry}
use Rattle.curp_cmd.specs.declared.entry.Entry.TheVariants.{Expire, Give, Op, Take}
use Rattle.curp_cmd.specs.declared.migration.Package.{Package}
use Rattle.curp_cmd.specs.declared.node.NodeId.{NodeId}
use Rattle.curp_order.specs.declared.Event.TheVariants.{Complete, Invoke}
use Rattle.curp_msg.specs.declared.machine.Capture.{Capture}
use Rattle.curp_model.specs.Laws.{clash}
use Rattle.curp_model.specs.Log.{IsDone, entry_touches, meaning, package_of}
use Rattle.curp_model.specs.Manager.{Migration}
use Rattle.curp_model.specs.Marks.{Cut, Executed, Looked, Mark, Quick, adopted, adoptions, executed, flagged, is_flagged, is_quick, is_update_mark, looked, quick}
use Rattle.curp_model.specs.Recovery.{replays}
use Rattle.curp_model.specs.Table.{check}
use Rattle.curp_model.specs.declared.Check.TheVariants.{New}
use Rattle.curp_facts.specs.Facts.{IsAmong}
use Rattle.curp_law_kept.specs.Hashes.{gives}
use Rattle.curp_law_linear.specs.Hashes.{Part, is_give, is_take, owns, state_of}
use Rattle.curp_law_linear.specs.Line.{EarlyAt, IsCompleted, IsFirm, Left, LineState, Ungiven, WasInvoked, answer_at}

-- ---- words

-- the partition has another log
abbrev pub relogged : List Part → ℕ → Part → List Entry → List Part
relogged parts n p log = set parts (n - 1) (record p { log = log })

-- one more entry in a partition's log
abbrev pub pushed : List Part → ℕ → Part → Entry → List Part
pushed parts n p e = relogged parts n p (p.log ++ e ∷ [])

-- requests as ops that acknowledge nothing
abbrev pub ops : List Request → List Entry
ops rs = map (λ (r : Request). Op r 0) rs

-- ---- an adopted master pushes an entry

-- an op goes to the log p of that partition
pub record PushOp : Type 0 where
  pub part : ℕ
  pub p : Part
  pub node : NodeId
  pub epoch : ℕ
  pub request : Request
  pub acknowledged : ℕ

-- the request is an invoked update, new to the log, whose hashes the partition owns
pub record PushOpFits (s : LineState) (o : PushOp) : Type 0 where
  pub here : numbered s.parts o.part ≡ Some o.p
  pub new : check (state_of o.p).table o.request.id ≡ New
  pub owned : (h : ℕ) → touches o.request.command h ≡ true → owns o.p h ≡ true
  pub hash : ℕ
  pub has_hash : touches o.request.command hash ≡ true
  pub updates : is_update o.request.command ≡ true
  pub was_invoked : WasInvoked s.history o.request.id o.request.command

-- its mark comes to the end
abbrev pub op_pushed : LineState → PushOp → LineState
op_pushed s o = record s {
  parts = pushed s.parts o.part o.p (Op o.request o.acknowledged);
  marks = s.marks ++ executed o.node o.part o.epoch (length o.p.log) o.request.id o.request.command ∷ [];
}

-- the take of a migration goes to the log p of that partition
pub record PushTake : Type 0 where
  pub part : ℕ
  pub p : Part
  pub m : Migration
  pub ordered : m.range.lo ≤ m.range.hi

-- the package that it takes
abbrev pub taken_by : PushTake → Package
taken_by o = package_of (state_of o.p) o.m.range.lo o.m.range.hi o.ordered

-- the migration is in work, from a partition that owns its range and has no take of it, and no log has its give
pub record PushTakeFits (s : LineState) (o : PushTake) : Type 0 where
  pub here : numbered s.parts o.part ≡ Some o.p
  pub in_work : s.moving ≡ Some o.m
  pub its_source : o.m.source ≡ o.part
  pub covered : is_covered (state_of o.p).owned o.m.range.lo o.m.range.hi ≡ true
  pub first : list_any (is_take o.m.number) o.p.log ≡ false
  pub ungiven : Ungiven s.parts o.m.number

-- the take stands at the end
abbrev pub take_pushed : LineState → PushTake → LineState
take_pushed s o = record s { parts = pushed s.parts o.part o.p (Take o.m.number (taken_by o)) }

-- the give of a migration goes to the log p of that partition
pub record PushGive : Type 0 where
  pub part : ℕ
  pub p : Part
  pub m : Migration
  pub brought : Package

-- The package of a migration is on its way: it is that of the take in the source's log, the source owned the range before the
-- take and nothing behind it touches the range, and no log has the give
pub record IsOnItsWay (parts : List Part) (m : Migration) (carried : Package) : Type 0 where
  pub source : Part
  pub its_source : numbered parts m.source ≡ Some source
  pub before : List Entry
  pub after : List Entry
  pub taken : source.log ≡ before ++ Take m.number carried ∷ after
  pub lo : carried.lo ≡ m.range.lo
  pub hi : carried.hi ≡ m.range.hi
  pub its_package : carried ≡ package_of (meaning source.lo source.hi before) carried.lo carried.hi carried.ordered
  pub covered : (h : ℕ) → is_in m.range.lo m.range.hi h ≡ true → owns (record source { log = before }) h ≡ true
  pub quiet : (h : ℕ) → is_in m.range.lo m.range.hi h ≡ true → list_any (λ (e : Entry). entry_touches e h) after ≡ false
  pub ungiven : Ungiven parts m.number

-- the migration is in work, to that partition, and what it brings is on its way and was told
pub record PushGiveFits (s : LineState) (o : PushGive) : Type 0 where
  pub here : numbered s.parts o.part ≡ Some o.p
  pub in_work : s.moving ≡ Some o.m
  pub its_target : o.m.target ≡ o.part
  pub other : o.m.source ≢ o.m.target
  pub way : IsOnItsWay s.parts o.m o.brought
  pub told : IsAmong o.m.number s.told

-- the give stands at the end
abbrev pub give_pushed : LineState → PushGive → LineState
give_pushed s o = record s { parts = pushed s.parts o.part o.p (Give o.m.number o.brought) }

-- the expiry of a client goes to the log p of that partition
pub record PushExpire : Type 0 where
  pub part : ℕ
  pub p : Part
  pub client : ℕ

-- it may always be pushed
pub record PushExpireFits (s : LineState) (o : PushExpire) : Type 0 where
  pub here : numbered s.parts o.part ≡ Some o.p

-- the expiry stands at the end
abbrev pub expire_pushed : LineState → PushExpire → LineState
expire_pushed s o = record s { parts = pushed s.parts o.part o.p (Expire o.client) }

-- ---- the migration in work

-- a master tells of a take that stands in its log, of the migration in work or of an older one, again and again
pub record TellFits (s : LineState) (number : ℕ) : Type 0 where
  pub part : ℕ
  pub source : Part
  pub here : numbered s.parts part ≡ Some source
  pub stands : list_any (is_take number) source.log ≡ true

-- its number is among the told
abbrev pub take_told : LineState → ℕ → LineState
take_told s number = record s { told = s.told ++ number ∷ [] }

-- a migration begins where none is in work: between two partitions, and no log has its entries
pub record MigrateFits (s : LineState) (m : Migration) : Type 0 where
  pub none : s.moving ≡ None
  pub untaken : (k : ℕ) (q : Part) → numbered s.parts k ≡ Some q → list_any (is_take m.number) q.log ≡ false
  pub ungiven : Ungiven s.parts m.number
  pub other : m.source ≢ m.target

-- it is in work
abbrev pub migrating : LineState → Migration → LineState
migrating s m = record s { moving = Some m }

-- it is done once its take and its give stand in the logs
pub record GivenFits (s : LineState) (m : Migration) : Type 0 where
  pub in_work : s.moving ≡ Some m
  pub source : Part
  pub its_source : numbered s.parts m.source ≡ Some source
  pub taken : list_any (is_take m.number) source.log ≡ true
  pub target : Part
  pub its_target : numbered s.parts m.target ≡ Some target
  pub given : list_any (is_give m.number) target.log ≡ true

-- none is in work
abbrev pub given_done : LineState → LineState
given_done s = record s { moving = None }

-- ---- invocations, completions and looks

-- a request is invoked that wasn't yet
pub record InvokeFits (s : LineState) (id : RequestId) : Type 0 where
  pub new : (i : ℕ) (c : Command) → At s.history i (Invoke id c) → ⊥

-- the history has it
abbrev pub invoking : LineState → RequestId → Command → LineState
invoking s id command = record s { history = s.history ++ Invoke id command ∷ [] }

-- an update completes: some adopted log has its op with that answer
pub record CompleteFits (s : LineState) (id : RequestId) (a : Answer) : Type 0 where
  pub part : ℕ
  pub p : Part
  pub here : numbered s.parts part ≡ Some p
  pub done : IsDone p.lo p.hi p.log id a
  pub was_invoked : (i : ℕ) × (c : Command) × At s.history i (Invoke id c)
  pub waits : IsCompleted s.history id → ⊥

-- its mark is flagged, and the history has the completion
abbrev pub completing : LineState → RequestId → Answer → LineState
completing s id a = record s { marks = flagged (record { id = id; answer = a; by = None }) s.marks; history = s.history ++ Complete id a ∷ [] }

-- an adopted master takes the value of a read at its log p, under the number of a capture
pub record Look : Type 0 where
  pub part : ℕ
  pub p : Part
  pub node : NodeId
  pub epoch : ℕ
  pub capture : ℕ
  pub id : RequestId
  pub command : Command

-- the request is an invoked read, whose hashes the partition owns
pub record LookFits (s : LineState) (o : Look) : Type 0 where
  pub here : numbered s.parts o.part ≡ Some o.p
  pub owned : (h : ℕ) → touches o.command h ≡ true → owns o.p h ≡ true
  pub reads : is_update o.command ≡ false
  pub was_invoked : WasInvoked s.history o.id o.command

-- its mark comes to the end
abbrev pub looking : LineState → Look → LineState
looking s o = record s { marks = s.marks ++ looked o.node o.part o.epoch o.capture (length o.p.log) o.id o.command ∷ [] }

-- ---- reads that are answered at once

-- an adopted master answers a read at once by its log: a quick mark comes to the end. What it needs is that of a look
abbrev pub quickly : LineState → Look → LineState
quickly s o = record s { marks = s.marks ++ quick o.node o.part o.epoch o.capture o.id o.command ∷ [] }

-- a superseded master answers a read at once: its partition's adoption of that number, the first one after its own, has its
-- mark at that place
pub record Late : Type 0 where
  pub part : ℕ
  pub number : ℕ
  pub place : ℕ
  pub node : NodeId
  pub epoch : ℕ
  pub capture : ℕ
  pub id : RequestId
  pub command : Command

-- the request is an invoked read, of whose hashes its log has what the recovered prefix has
pub record LateFits (s : LineState) (o : Late) : Type 0 where
  pub mark : Mark
  pub stands : At s.marks o.place mark
  pub its_part : mark.part ≡ o.part
  pub long : ℕ
  pub is_cut : mark.place ≡ Cut o.number long
  pub firm : (h : ℕ) → touches o.command h ≡ true → IsFirm (s.left o.part o.number) h
  pub reads : is_update o.command ≡ false
  pub was_invoked : WasInvoked s.history o.id o.command

-- a mark comes directly before the place
abbrev pub put_before : ℕ → Mark → List Mark → List Mark
put_before place m marks = take place marks ++ m ∷ drop place marks

-- its quick mark comes directly before that of the adoption
abbrev pub late_quickly : LineState → Late → LineState
late_quickly s o = record s { marks = put_before o.place (quick o.node o.part o.epoch o.capture o.id o.command) s.marks }

-- the same log, or the one of that number with more behind it
abbrev pub longer_left : (ℕ → ℕ → Left) → ℕ → ℕ → List Entry → ℕ → ℕ → Left
longer_left left part number more p n =
    if (p == part) && (n == number) then record (left part number) { back = (left part number).back ++ more } else left p n

-- a superseded master pushes entries
abbrev pub straying : LineState → ℕ → ℕ → List Entry → LineState
straying s part number more = record s { left = longer_left s.left part number more }

-- ---- completions of reads

-- a completion by a capture flags the mark
abbrev pub flags_mark : Capture → RequestId → Answer → Mark → Bool
flags_mark by id a m = is_flagged (record { id = id; answer = a; by = Some by }) (Some by) m

-- A read completes by one mark, and with the answer that one thread gives at that mark. Where it is a quick mark, the read was
-- invoked before what is flagged behind the mark completed
pub record FlagFits (s : LineState) (by : Capture) (id : RequestId) (a : Answer) : Type 0 where
  pub place : ℕ
  pub m : Mark
  pub stands : At s.marks place m
  pub looks : is_update_mark m.place ≡ false
  pub hits : flags_mark by id a m ≡ true
  pub only : (k : ℕ) (o : Mark) → At s.marks k o → flags_mark by id a o ≡ true → k ≡ place
  pub waits : IsCompleted s.history id → ⊥
  pub gives : answer_at s.marks place m.command ≡ a
  pub early : is_quick m.place ≡ true → EarlyAt s.marks s.history place m.id m.command

-- the mark is flagged, and the history has the completion
abbrev pub flagging : LineState → Capture → RequestId → Answer → LineState
flagging s by id a = record s { marks = flagged (record { id = id; answer = a; by = Some by }) s.marks; history = s.history ++ Complete id a ∷ [] }

-- ---- adoption

-- Of the log p of that partition a beginning stays and the rest goes, and of what the witness held the requests that fit
-- are replayed behind it
pub record Adopt : Type 0 where
  pub part : ℕ
  pub p : Part
  pub node : NodeId
  pub epoch : ℕ
  pub stays : List Entry
  pub goes : List Entry
  pub held : List Request

-- the requests that are replayed
abbrev pub replayed_of : Adopt → List Request
replayed_of o = filter (replays (meaning o.p.lo o.p.hi o.stays)) o.held

-- a take or a give that goes is of the migration in work and has its range; where its take goes, no log has its give
abbrev pub OnlyMoving : LineState → Entry → Type 0
OnlyMoving s (Take migration taken) = (m : Migration) × (s.moving ≡ Some m) × (m.number ≡ migration)
    × Ungiven s.parts migration × (taken.lo ≡ m.range.lo) × (taken.hi ≡ m.range.hi)
OnlyMoving s (Give migration given) = (m : Migration) × (s.moving ≡ Some m) × (m.number ≡ migration) × (given.lo ≡ m.range.lo)
    × (given.hi ≡ m.range.hi)
OnlyMoving s _ = ⊤

-- a request that was held: an invoked update that names a key
pub record IsHeldUpdate (s : LineState) (r : Request) : Type 0 where
  pub was_invoked : WasInvoked s.history r.id r.command
  pub updates : is_update r.command ≡ true
  pub hash : ℕ
  pub has_hash : touches r.command hash ≡ true

-- a request of the same id and command is replayed
pub record IsReplayedAs (o : Adopt) (r : Request) : Type 0 where
  pub request : Request
  pub replayed : IsAmong request (replayed_of o)
  pub its_id : request.id ≡ r.id
  pub its_command : request.command ≡ r.command

-- What goes is of the migration in work, and where a give goes, what stays doesn't own its hashes. What was held are
-- invoked updates of which no two clash. Each completed op that goes is replayed, and nothing before it there touches its
-- hashes. No completed look is longer than what stays, nor is a log that was recovered before and that a superseded log has
-- on some hash to its end; what is uncompleted before a quick mark on its hashes stays; and each take that was told stays
pub record AdoptFits (s : LineState) (o : Adopt) : Type 0 where
  pub here : numbered s.parts o.part ≡ Some o.p
  pub is : o.p.log ≡ o.stays ++ o.goes
  pub moving : (k : ℕ) (e : Entry) → At o.goes k e → OnlyMoving s e
  pub unowned : (h : ℕ) → list_any (gives h) o.goes ≡ true → owns (record o.p { log = o.stays }) h ≡ false
  pub apart : IsDistinct clash o.held
  pub asked : (k : ℕ) (r : Request) → At o.held k r → IsHeldUpdate s r
  pub done : (k : ℕ) (r : Request) (a : ℕ) → At o.goes k (Op r a) → IsCompleted s.history r.id
      → IsReplayedAs o r × ((h : ℕ) → touches r.command h ≡ true
      → list_any (λ (e : Entry). entry_touches e h) (take k o.goes) ≡ false)
  pub looks : (k : ℕ) (m : Mark) (number long : ℕ) → At s.marks k m → m.part ≡ o.part → m.place ≡ Looked number long
      → m.completed ≡ true → long ≤ length o.stays
  pub told : (number : ℕ) → IsAmong number s.told → list_any (is_take number) o.p.log ≡ true
      → list_any (is_take number) o.stays ≡ true
  pub quicks : (j k i number h : ℕ) (m u : Mark) → At s.marks j m → m.place ≡ Quick number → m.part ≡ o.part → At s.marks k u
      → k < j → u.place ≡ Executed i → u.completed ≡ false → u.part ≡ o.part
      → touches m.command h ≡ true → touches u.command h ≡ true → i < length o.stays
  pub cuts : (j number long h : ℕ) (m : Mark) → At s.marks j m → m.place ≡ Cut number long → m.part ≡ o.part
      → IsFirm (s.left m.part number) h → long ≤ length o.stays

-- the superseded logs after an adoption: the log as it was is one more
abbrev pub left_after : LineState → Adopt → ℕ → ℕ → Left
left_after s o p n =
    if (p == o.part) && (n == adoptions o.part s.marks + 1) then record { prefix = record o.p { log = o.stays }; back = o.goes }
    else s.left p n

-- the log is what stays and the replayed requests behind it, and the marks follow
abbrev pub adopting : LineState → Adopt → LineState
adopting s o = record s {
  parts = relogged s.parts o.part o.p (o.stays ++ ops (replayed_of o));
  marks = adopted o.node o.part o.epoch (length o.stays) (replayed_of o) s.marks;
  left = left_after s o;
}

-- ---- all of them

-- a move of the machine
pub data LineMove : Type 0 where
  OpPush : PushOp → LineMove
  TakePush : PushTake → LineMove
  GivePush : PushGive → LineMove
  ExpirePush : PushExpire → LineMove
  Told : ℕ → LineMove
  Migrates : Migration → LineMove
  GivenDone : Migration → LineMove
  Invokes : RequestId → Command → LineMove
  Completes : RequestId → Answer → LineMove
  Looks : Look → LineMove
  Flags : Capture → RequestId → Answer → LineMove
  Adopts : Adopt → LineMove
  Quicks : Look → LineMove
  Lates : Late → LineMove
  Strays : (part number : ℕ) → List Entry → LineMove

-- the move can be made
abbrev pub Fits : LineState → LineMove → Type 0
Fits s (OpPush o) = PushOpFits s o
Fits s (TakePush o) = PushTakeFits s o
Fits s (GivePush o) = PushGiveFits s o
Fits s (ExpirePush o) = PushExpireFits s o
Fits s (Told number) = TellFits s number
Fits s (Migrates m) = MigrateFits s m
Fits s (GivenDone m) = GivenFits s m
Fits s (Invokes id command) = InvokeFits s id
Fits s (Completes id a) = CompleteFits s id a
Fits s (Looks o) = LookFits s o
Fits s (Flags by id a) = FlagFits s by id a
Fits s (Adopts o) = AdoptFits s o
Fits s (Quicks o) = LookFits s o
Fits s (Lates o) = LateFits s o
Fits s (Strays part number more) = ⊤

-- the state after it
abbrev pub after : LineState → LineMove → LineState
after s (OpPush o) = op_pushed s o
after s (TakePush o) = take_pushed s o
after s (GivePush o) = give_pushed s o
after s (ExpirePush o) = expire_pushed s o
after s (Told number) = take_told s number
after s (Migrates m) = migrating s m
after s (GivenDone m) = given_done s
after s (Invokes id command) = invoking s id command
after s (Completes id a) = completing s id a
after s (Looks o) = looking s o
after s (Flags by id a) = flagging s by id a
after s (Adopts o) = adopting s o
after s (Quicks o) = quickly s o
after s (Lates o) = late_quickly s o
after s (Strays part number more) = straying s part number more

-- the state after moves
abbrev pub all_after : LineState → List LineMove → LineState
all_after s [] = s
all_after s (m ∷ ms) = all_after (after s m) ms

-- each move can be made in its turn, with what is given of the logs
abbrev pub AllFit : (List Part → Type 0) → LineState → List LineMove → Type 0
AllFit Given s [] = ⊤
AllFit Given s (m ∷ ms) = Fits s m × Given s.parts × AllFit Given (after s m) ms

-- the move drops the looks of that length in that partition: it adopts a log of which less stays
abbrev pub IsDropped : LineMove → ℕ → ℕ → Type 0
IsDropped (Adopts o) part long = (o.part ≡ part) × (length o.stays < long)
IsDropped _ part long = ⊥
