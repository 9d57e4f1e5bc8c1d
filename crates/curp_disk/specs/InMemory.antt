-- Disks in memory, whose calls fail where a list says so, or from an armed call on.
use Rattle.std.specs.Prelude.{◌≡◌, ℕ, ◌-◌, nat_lt, Bool, true, false, [], Option, Some, None, if◌then◌else◌}
use Rattle.curp_io.specs.Streams.{one_more}
use Rattle.curp_io.specs.Memory.{Calls, called, fails}
use Rattle.curp_disk.specs.Calls.{Played, more, seen_of, kept_of}
use Rattle.curp_disk.specs.declared.disk.Did.{Did}
use Rattle.curp_disk.specs.declared.disk.Did.TheVariants as did
use Rattle.curp_disk.specs.declared.medium.Call.{Call}

-- What a write or a sync, which was to fail or not, did to the list of calls: it stands at the end where it was done,
-- and nothing is changed where it wasn't
abbrev pub Ran : Bool → Played → Call → Did → Played → Type 0
Ran fails old call (did.Done n) new = (fails ≡ false) × (new ≡ more old call)
Ran fails old call did.Failed new = (fails ≡ true) × (new ≡ old)
Ran fails old call did.NoMemory new = (fails ≡ false) × (new ≡ old)

-- what is there once the writes since the last sync are all kept, or all lost
abbrev pub crashed : Bool → Played → Played
crashed kept p = record { first = if kept then seen_of p else kept_of p; calls = [] }

-- a disk whose listed calls fail: its writes and syncs, and all its calls
pub record MemoryParts : Type 0 where
  pub played : Played
  pub calls : Calls

-- what a write or a sync did to it
abbrev pub MemoryRan : MemoryParts → Call → Did → MemoryParts → Type 0
MemoryRan old call result new = Ran (fails old.calls) old.played call result new.played × (new.calls ≡ called old.calls)

-- a disk that may be armed: in how many calls it stops, if it is armed, and how many calls it refused
pub record StopParts : Type 0 where
  pub played : Played
  pub armed : Option ℕ
  pub faults : ℕ

-- it stops at the next call
abbrev pub stops : Option ℕ → Bool
stops None = false
stops (Some n) = nat_lt n 2

-- in how many calls it stops, after that call
abbrev pub one_less : Option ℕ → Option ℕ
one_less None = None
one_less (Some n) = if nat_lt n 2 then Some n else Some (n - 1)

-- how many calls it refused, after that call
abbrev pub stopped : StopParts → ℕ
stopped d = if stops d.armed then one_more d.faults else d.faults

-- what a write or a sync did to it
abbrev pub StopRan : StopParts → Call → Did → StopParts → Type 0
StopRan old call result new = Ran (stops old.armed) old.played call result new.played × (new.armed ≡ one_less old.armed) × (new.faults ≡ stopped old)
