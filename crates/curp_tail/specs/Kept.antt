-- What is kept beside the entries that aren't synced: the last one that names each hash, and the ranges that are moved.
use Rattle.std.specs.Prelude.{◌≡◌, ℕ, ◌==◌, ◌&&◌, if◌then◌else◌, Bool, true, false, List, [], ◌∷◌, ◌++◌, Option, Some, None}
use Rattle.std.specs.List.{list_any}
use Rattle.curp_tail.specs.Tail.{IndexesRise}
use Rattle.curp_tail.specs.declared.tail.TailEntry.{TailEntry}
use Rattle.curp_tail.specs.declared.touched.Touched.{Touched}
use Rattle.curp_tail.specs.declared.touched.Touched.TheVariants.{Hashes, Range, Nothing}
use Rattle.curp_tail.specs.declared.tail.Moved.{Moved}

-- the entries that are kept, in the order of their places, and for how many more hashes there is room
pub record TailContent : Type 0 where
  pub entries : List TailEntry
  pub spare : ℕ

-- a command names the hash
abbrev pub names : ℕ → Touched → Bool
names hash (Hashes hashes) = list_any (λ h. h == hash) hashes
names hash (Range lo hi) = false
names hash Nothing = false

-- the last one that there is, or this one if it counts
abbrev pub last_or : Bool → ℕ → Option ℕ → Option ℕ
last_or counts index (Some last) = Some last
last_or true index None = Some index
last_or false index None = None

-- the last entry that names the hash
abbrev pub last_with : ℕ → List TailEntry → Option ℕ
last_with hash [] = None
last_with hash (e ∷ es) = last_or (names hash e.touched) e.index (last_with hash es)

-- that is told of each hash
abbrev pub LastsAre : (ℕ → Option ℕ) → List TailEntry → Type 0
LastsAre last tail = (hash : ℕ) → last hash ≡ last_with hash tail

-- it is this one
abbrev pub is_this : ℕ → Option ℕ → Bool
is_this index None = false
is_this index (Some last) = last == index

-- the last one, if it isn't this one, or this one doesn't count
abbrev pub without_last : Bool → ℕ → Option ℕ → Option ℕ
without_last counts index last = if counts && is_this index last then None else last

-- the whole range that an entry moves, if it moves one
abbrev pub moved_of : ℕ → Touched → List Moved
moved_of index (Hashes hashes) = []
moved_of index (Range lo hi) = record { index = index; lo = lo; hi = hi } ∷ []
moved_of index Nothing = []

-- the whole ranges that entries move
abbrev pub ranges_in : List TailEntry → List Moved
ranges_in [] = []
ranges_in (e ∷ es) = moved_of e.index e.touched ++ ranges_in es

-- the entries rise, and what is kept beside them is told by them
pub record IsTail (tail : List TailEntry) (last : ℕ → Option ℕ) (ranges : List Moved) : Type 0 where
  pub rise : IndexesRise tail
  pub lasts : LastsAre last tail
  pub ranges_are : ranges ≡ ranges_in tail
