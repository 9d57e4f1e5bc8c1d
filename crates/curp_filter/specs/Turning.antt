-- How a process goes on, and how it ends.
use Rattle.std.specs.Prelude.{◌≡◌, ◌≢◌, ℕ, ◌-◌, ◌^◌, ◌≤◌, Bool, true, false, List, [], ◌++◌, ◌⊎◌, ⊤}
use Rattle.curp_durable.specs.Answering.{RefusesBatch}
use Rattle.curp_durable.specs.Standing.{Standing, after, taken}
use Rattle.curp_durable.specs.Value.{DurableParts}
use Rattle.curp_io.specs.Streams.{HoldsPart, Rose, SameCount}
use Rattle.curp_journal.specs.declared.arrived.Arrived.{Arrived}
use Rattle.curp_msg.specs.Moved.{Moved}
use Rattle.curp_msg.specs.Input.{Input}
use Rattle.curp_parcels.specs.Reading.{ParcelsRead, StandsNot, StandsTooLong, nothing_read}
use Rattle.curp_filter.specs.Coming.{Comes, arrivals_of, number_behind}
use Rattle.curp_filter.specs.Keeping.{DiskKind, Keeps, Outlasts}
use Rattle.curp_filter.specs.Saying.{text_of}
use Rattle.curp_filter.specs.Taking.{AreJudged}
use Rattle.curp_filter.specs.declared.came.Came.{Came}
use Rattle.curp_filter.specs.declared.came.Role.{Role}
use Rattle.curp_base.specs.declared.failed.Failed.{Failed}
use Rattle.curp_durable.specs.declared.error.DurableError.{DurableError}
use Rattle.curp_filter.specs.declared.end.FilterEnd.{FilterEnd}
use Rattle.curp_filter.specs.declared.end.FilterEnd.TheVariants as end

-- ---- where a process stands

-- the bytes that are due, those read ahead and those left, how many were passed over, and what the source says of
-- itself
pub record Intake : Type 0 where
  pub bytes : List ℕ
  pub passed : ℕ
  pub tells : Bool
  pub faults : ℕ

abbrev pub intake : ParcelsRead → List ℕ → Bool → ℕ → Intake
intake read left tells faults = record { bytes = read.ahead ++ left; passed = read.passed; tells = tells; faults = faults }

-- what the sink holds, and what it says of itself
pub record Outlet : Type 0 where
  pub held : List ℕ
  pub tells : Bool
  pub faults : ℕ
  pub flushed : Bool

abbrev pub outlet : List ℕ → Bool → ℕ → Bool → Outlet
outlet held tells faults flushed = record { held = held; tells = tells; faults = faults; flushed = flushed }

-- both, with the node and the number of the next input
pub record Point (N D : Type 0) : Type 0 where
  pub source : Intake
  pub number : ℕ
  pub node : DurableParts N D
  pub sink : Outlet

abbrev pub point : {N D : Type 0} → Intake → ℕ → DurableParts N D → Outlet → Point N D
point source number node sink = record { source = source; number = number; node = node; sink = sink }

-- ---- what came was answered

-- the source's part: these came
pub record Took (cames : List Came) (old new : Intake) : Type 0 where
  pub comes : old.tells ≡ true → Comes cames old.bytes old.passed new.bytes new.passed
  pub tells : old.tells ≡ true → new.tells ≡ true
  pub same_faults : SameCount old.faults new.faults

-- the node's part: those that it takes are in its journal, and they led it on
pub record MovesBy {N D : Type 0} (machine : N → Input → Moved N) (disk : DiskKind D) (inputs : List Arrived) (old new : DurableParts N D) : Type 0 where
  pub stand_is : new.stand ≡ after machine old.stand inputs
  pub keeps : Keeps machine disk (taken machine old.stand inputs) old new
  pub outlasts : Outlasts machine disk (taken machine old.stand inputs) old new
  pub goes_on : old.spent ≡ false → new.spent ≡ false
  pub same_limit : new.size_limit ≡ old.size_limit
  pub disk_faults : disk.faults old.disk ≤ disk.faults new.disk

-- the sink's part: this text was written, and passed on
pub record Wrote (text : List ℕ) (old new : Outlet) : Type 0 where
  pub holds : old.tells ≡ true → new.held ≡ old.held ++ text
  pub tells : old.tells ≡ true → new.tells ≡ true
  pub same_faults : SameCount old.faults new.faults
  pub passed_on : old.flushed ≡ true → new.flushed ≡ true

-- So many came, the node was led on by those that it may take, and all that is to be said of them was written
pub record Turned {N D : Type 0} (machine : N → Input → Moved N) (disk : DiskKind D) (role : Role) (old new : Point N D) : Type 0 where
  pub cames : List Came
  pub judged : AreJudged machine role old.node.stand cames
  pub took : Took cames old.source new.source
  pub moved : MovesBy machine disk (arrivals_of cames) old.node new.node
  pub wrote : Wrote (text_of machine old.node.stand old.number cames) old.sink new.sink
  pub counted : new.number ≡ number_behind old.number cames

-- ---- the end of a process

-- a process asks its source no more, where these bytes were due, so many were passed over, and these are left
abbrev pub EndsInput : (bytes : List ℕ) (passed : ℕ) → FilterEnd → (rest : List ℕ) → Type 0
EndsInput bytes passed end.End rest = (bytes ≡ []) × (rest ≡ [])
EndsInput bytes passed (end.Inside at) rest = (bytes ≢ []) × StandsNot bytes × (at ≡ passed) × (rest ≡ bytes)
EndsInput bytes passed (end.TooLong at) rest = StandsTooLong bytes × (at ≡ passed) × (rest ≡ bytes)
EndsInput bytes passed end.ReadFault rest = rest ≡ bytes
EndsInput bytes passed end.NoMemory rest = ⊤
EndsInput bytes passed _ rest = ⊥

-- what a source can end a process by
abbrev pub IsOfGathering : FilterEnd → Type 0
IsOfGathering end.End = ⊤
IsOfGathering (end.Inside at) = ⊤
IsOfGathering (end.TooLong at) = ⊤
IsOfGathering end.ReadFault = ⊤
IsOfGathering end.NoMemory = ⊤
IsOfGathering _ = ⊥

-- a count of faults is as it was where the end is another
abbrev pub SameBut : FilterEnd → FilterEnd → (old new : ℕ) → Type 0
SameBut fault it old new = it ≢ fault → SameCount old new

-- what a sink can end a process by
abbrev pub IsOfWriting : FilterEnd → Type 0
IsOfWriting end.WriteFault = ⊤
IsOfWriting end.NoMemory = ⊤
IsOfWriting _ = ⊥

-- the node's journal doesn't take these, of which there are some
abbrev pub KeepsNot : {N D : Type 0} → (D → ℕ) → (inputs : List Arrived) → (old new : DurableParts N D) → Failed DurableError → Type 0
KeepsNot faults inputs old new why = (inputs ≢ []) × RefusesBatch faults old new inputs why

-- why the node answered nothing, or what it answered has no text
abbrev pub EndsSaying : {N D : Type 0} → (D → ℕ) → (inputs : List Arrived) → (old new : DurableParts N D) → FilterEnd → Type 0
EndsSaying faults inputs old new (end.NotKept why) = KeepsNot faults inputs old new why
EndsSaying faults inputs old new end.NoMemory = ⊤
EndsSaying faults inputs old new _ = ⊥

-- why the inputs that came last have no answer
abbrev pub EndsAnswering : {N D : Type 0} → DiskKind D → (cames : List Came) → (old new : DurableParts N D) → (before behind : Outlet) → FilterEnd → Type 0
EndsAnswering disk cames old new before behind end.WriteFault = Rose before.faults behind.faults
EndsAnswering disk cames old new before behind (end.NotKept why) =
    KeepsNot disk.faults (arrivals_of cames) old new why × (behind ≡ before)
EndsAnswering disk cames old new before behind end.NoMemory = ⊤
EndsAnswering disk cames old new before behind _ = ⊥

-- Of what is to be said of these a part may be written, and some of it is only if the journal has all that the node
-- took
pub record Unanswered {N D : Type 0} (machine : N → Input → Moved N) (disk : DiskKind D) (cames : List Came) (number : ℕ) (old new : DurableParts N D) (before behind : Outlet) (it : FilterEnd) : Type 0 where
  pub part : before.tells ≡ true → HoldsPart before.held behind.held (text_of machine old.stand number cames)
  pub kept : (behind ≡ before) ⊎ MovesBy machine disk (arrivals_of cames) old new
  pub outlasts : Outlasts machine disk (taken machine old.stand (arrivals_of cames)) old new
  pub tells : before.tells ≡ true → behind.tells ≡ true
  pub faults : SameBut end.WriteFault it before.faults behind.faults
  pub disk_faults : disk.faults old.disk ≤ disk.faults new.disk

-- only the source was asked: nothing came, and nothing was done
pub record AsksOnly {N D : Type 0} (cames : List Came) (old new : Point N D) (it : FilterEnd) : Type 0 where
  pub nothing : cames ≡ []
  pub same_node : new.node ≡ old.node
  pub same_sink : new.sink ≡ old.sink
  pub input : old.source.tells ≡ true → EndsInput old.source.bytes old.source.passed it new.source.bytes

-- why no more is answered, by each end
abbrev pub EndsBy : {N D : Type 0} → DiskKind D → (cames : List Came) → (old new : Point N D) → FilterEnd → Type 0
EndsBy disk cames old new end.End = AsksOnly cames old new end.End
EndsBy disk cames old new (end.Inside at) = AsksOnly cames old new (end.Inside at)
EndsBy disk cames old new (end.TooLong at) = AsksOnly cames old new (end.TooLong at)
EndsBy disk cames old new end.ReadFault = AsksOnly cames old new end.ReadFault × Rose old.source.faults new.source.faults
EndsBy disk cames old new end.TooManyInputs = (new ≡ old) × (old.number ≡ 2 ^ 64 - 1)
EndsBy disk cames old new end.WriteFault = Rose old.sink.faults new.sink.faults
EndsBy disk cames old new (end.NotKept why) =
    KeepsNot disk.faults (arrivals_of cames) old.node new.node why × (new.sink ≡ old.sink)
EndsBy disk cames old new end.NoMemory = ⊤

-- these stand first in the bytes that were due
pub record ComesFirst (cames : List Came) (source : Intake) : Type 0 where
  pub rest : List ℕ
  pub passed : ℕ
  pub comes : Comes cames source.bytes source.passed rest passed

-- No more is answered: these came last
pub record Breaks {N D : Type 0} (machine : N → Input → Moved N) (disk : DiskKind D) (role : Role) (old new : Point N D) (it : FilterEnd) : Type 0 where
  pub cames : List Came
  pub judged : AreJudged machine role old.node.stand cames
  pub came : old.source.tells ≡ true → ComesFirst cames old.source
  pub source_tells : old.source.tells ≡ true → new.source.tells ≡ true
  pub source_faults : SameBut end.ReadFault it old.source.faults new.source.faults
  pub unanswered : Unanswered machine disk cames old.number old.node new.node old.sink new.sink it
  pub cause : EndsBy disk cames old new it

-- A process ran until it ended so: up to some input each was answered, and then no more
pub record Ran {N D : Type 0} (machine : N → Input → Moved N) (disk : DiskKind D) (role : Role) (old new : Point N D) (it : FilterEnd) : Type 0 where
  pub reached : Point N D
  pub turned : Turned machine disk role old reached
  pub breaks : Breaks machine disk role reached new it

-- the same, where nothing was read before, and the bytes read ahead and the inputs' number are no longer seen
pub record Filters {N D : Type 0} (machine : N → Input → Moved N) (disk : DiskKind D) (role : Role) (old new : DurableParts N D) (left left_then : List ℕ) (tells tells_then : Bool) (faults faults_then : ℕ) (sink sink_then : Outlet) (it : FilterEnd) : Type 0 where
  pub read : ParcelsRead
  pub number : ℕ
  pub ran : Ran machine disk role (point (intake nothing_read left tells faults) 1 old sink) (point (intake read left_then tells_then faults_then) number new sink_then) it

-- ---- the whole input

-- all bytes came as inputs, and all that is to be said of them was written
pub record AnswersAll {N : Type 0} (machine : N → Input → Moved N) (role : Role) (stand : Standing N) (bytes held held_then : List ℕ) : Type 0 where
  pub cames : List Came
  pub passed : ℕ
  pub judged : AreJudged machine role stand cames
  pub comes : Comes cames bytes 0 [] passed
  pub written : held_then ≡ held ++ text_of machine stand 1 cames

-- Whatever ended it: these came first, a part of what is to be said of them was written, and a crash at any moment
-- leaves the journal that was there, and the first of those that the node took
pub record AnswersFirst {N D : Type 0} (machine : N → Input → Moved N) (disk : DiskKind D) (role : Role) (old new : DurableParts N D) (source : Intake) (sink sink_then : Outlet) : Type 0 where
  pub cames : List Came
  pub judged : AreJudged machine role old.stand cames
  pub came : source.tells ≡ true → ComesFirst cames source
  pub part : sink.tells ≡ true → HoldsPart sink.held sink_then.held (text_of machine old.stand 1 cames)
  pub outlasts : Outlasts machine disk (taken machine old.stand (arrivals_of cames)) old new
