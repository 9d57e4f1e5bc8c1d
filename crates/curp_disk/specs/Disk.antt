-- What the calls of a disk do to what it reads as, and what a crash may do between two syncs.
use Rattle.std.specs.Prelude.{◌≡◌, ◌⊎◌, ℕ, ◌+◌, ◌-◌, ◌≤◌, min, max, List, ◌++◌, length, take, drop, ⊤}
use Rattle.curp_disk.specs.declared.disk.Did.{Did}
use Rattle.curp_disk.specs.declared.disk.Did.TheVariants as did
use Rattle.curp_disk.specs.declared.disk.Long.{Long}
use Rattle.curp_disk.specs.declared.disk.Long.TheVariants as long

-- these bytes over those that were there, from a place on
abbrev pub over : List ℕ → ℕ → List ℕ → List ℕ
over old at bytes = take at old ++ bytes ++ drop (at + length bytes) old

-- After a write of n bytes that isn't synced: any bytes in the range and past the old end, the same elsewhere
pub record Torn (at n : ℕ) (old new : List ℕ) : Type 0 where
  pub before : take at new ≡ take at old
  pub after : drop (at + n) new ≡ drop (at + n) old
  pub no_shorter : length old ≤ length new
  pub no_longer : length new ≤ max (length old) (at + n)

-- each new outcome of a crash is an old outcome after a step
abbrev pub CrashesFollow : (List ℕ → List ℕ → Type 0) → (List ℕ → Type 0) → (List ℕ → Type 0) → Type 0
CrashesFollow step old new = (c : List ℕ) → new c → (d : List ℕ) × old d × step d c

-- no outcome of a crash is new
abbrev pub Narrows : (List ℕ → Type 0) → (List ℕ → Type 0) → Type 0
Narrows old new = (c : List ℕ) → new c → old c

-- a crash leaves this and nothing else
abbrev pub Only : List ℕ → (List ℕ → Type 0) → Type 0
Only content outcomes = (c : List ℕ) → outcomes c → c ≡ content

-- as many bytes as there are from a place on, up to the buffer's length, stand at the buffer's prefix
abbrev pub GivesBytes : List ℕ → ℕ → Did → List ℕ → Type 0
GivesBytes content at (did.Done n) buffer = (n ≡ min (length buffer) (length content - at)) × (take n buffer ≡ take n (drop at content))
GivesBytes content at did.Failed buffer = ⊤
GivesBytes content at did.NoMemory buffer = ⊤

-- no more bytes than there is room for
abbrev pub IsWithin : Did → ℕ → Type 0
IsWithin (did.Done n) room = n ≤ room
IsWithin did.Failed room = ⊤
IsWithin did.NoMemory room = ⊤

-- so many bytes are there
abbrev pub HasLength : List ℕ → Long → Type 0
HasLength content (long.Bytes n) = n ≡ length content
HasLength content long.Failed = ⊤

-- all bytes stand where they were to be written, and the rest is as before; after a refusal nothing is said
abbrev pub Wrote : List ℕ → ℕ → List ℕ → Did → List ℕ → Type 0
Wrote old at bytes (did.Done n) new = (n ≡ length bytes) × (new ≡ over old at bytes)
Wrote old at bytes did.Failed new = ⊤
Wrote old at bytes did.NoMemory new = ⊤

-- a crash leaves what is there, and nothing else
abbrev pub Synced : List ℕ → Did → (List ℕ → Type 0) → Type 0
Synced content (did.Done n) outcomes = (n ≡ 0) × Only content outcomes
Synced content did.Failed outcomes = ⊤
Synced content did.NoMemory outcomes = ⊤

-- Time goes on: a crash since t may have left what it may have left before, or what it may leave now.
pub record Elapses (before now : ℕ) (past since : ℕ → List ℕ → Type 0) (may_leave : List ℕ → Type 0) : Type 0 where
  pub later : before ≤ now
  pub nothing_else : (t : ℕ) (c : List ℕ) → t ≤ before → since t c → past t c ⊎ may_leave c
  pub keeps : (t : ℕ) (c : List ℕ) → t ≤ before → past t c → since t c

-- A crash at any moment since old leaves what has P.
pub record LeavesOnly {D : Type 0} (moment : D → ℕ) (left_since : D → ℕ → List ℕ → Type 0) (old new : D) (P : List ℕ → Type 0) : Type 0 where
  pub later : moment old ≤ moment new
  pub each : (c : List ℕ) → left_since new (moment old) c → P c
  -- for a run that began earlier
  pub before : (t : ℕ) (c : List ℕ) → t ≤ moment old → left_since new t c → left_since old t c ⊎ P c
