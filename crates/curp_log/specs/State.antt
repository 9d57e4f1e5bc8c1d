-- What a log means, as a master keeps it.
use Rattle.std.specs.Prelude.{◌≡◌, ℕ, ◌+◌, ◌<◌, ◌≤◌, min, List, [], ◌∷◌, length, slice_get, Option, Some, None, ⊤, fold}
use Rattle.std.specs.FinMap as map
use Rattle.curp_cmd.specs.Pairs.{Pair}
use Rattle.curp_cmd.specs.Store.{Contents}
use Rattle.curp_cmd.specs.declared.command.Answer.{Answer}
use Rattle.curp_cmd.specs.declared.entry.Entry.{Entry}
use Rattle.curp_cmd.specs.declared.entry.Entry.TheVariants.{Op, Take, Give, Expire}
use Rattle.curp_model.specs.Log.{IsLog, LastGive, LastTake, LogState, after_entry, log_opening, meaning}
use Rattle.curp_log.specs.Ops.{answer_of}
use Rattle.curp_log.specs.declared.state.LatestGive.{LatestGive}
use Rattle.curp_log.specs.declared.state.State.{State}
use Rattle.curp_log.specs.declared.taken.LatestTake.{LatestTake}
use Rattle.curp_log.specs.declared.taken.LatestTake.TheVariants.{Never, Newest, Copied}

-- the last migration that was given
abbrev pub given_of : Option LatestGive → Option LastGive
given_of None = None
given_of (Some g) = Some (record { migration = g.migration; index = g.index })

-- what a state says, of a log of which no package is known
abbrev pub meant_by : State → LogState
meant_by s = record { store = s.store.map; table = s.table.table; owned = s.ranges.spans; taken = None; given = given_of s.given }

-- a meaning without the last package taken
abbrev pub untaken : LogState → LogState
untaken s = record s { taken = None }

-- how much more a state has room for
abbrev pub room_in : State → ℕ
room_in s = min s.store.spare (min s.table.spare s.ranges.spare)

-- the store without the keys of these pairs
abbrev pub without_pairs : Contents → List Pair → Contents
without_pairs s pairs = fold (λ (kept : Contents) (p : Pair). map.remove kept p.0) s pairs

-- the package of a Take that stands at that index
abbrev pub take_of : ℕ → Option Entry → Option LastTake
take_of index (Some (Take migration p)) = Some (record { migration = migration; taken = p; index = index })
take_of index _ = None

-- the last package taken, where it is found
abbrev pub take_told : List Entry → LatestTake → Option LastTake
take_told entries Never = None
take_told entries (Newest index) = take_of index (slice_get entries index)
take_told entries (Copied index migration p) = Some (record { migration = migration; taken = p; index = index })

-- it is found without the log
abbrev pub IsKept : LatestTake → Type 0
IsKept Never = ⊤
IsKept (Newest index) = ⊥
IsKept (Copied index migration p) = ⊤

-- where it is found in the log, it isn't packed there
abbrev pub IsNewest : ℕ → List Entry → LatestTake → Type 0
IsNewest count entries Never = ⊤
IsNewest count entries (Newest index) = (count ≤ index) × (index < length entries)
IsNewest count entries (Copied index migration p) = ⊤

-- where it is found once an entry with that index comes
abbrev pub take_after : LatestTake → ℕ → Entry → LatestTake
take_after before index (Op request acknowledge) = before
take_after before index (Take migration p) = Newest index
take_after before index (Give migration p) = before
take_after before index (Expire client) = before

-- the answer to each entry, which only Ops have
abbrev pub answers_in : LogState → ℕ → List Entry → List (Option Answer)
answers_in s index [] = []
answers_in s index (e ∷ es) = answer_of s.store (Some e) ∷ answers_in (after_entry s index e) (index + 1) es

-- entries that a master of that range could have pushed, of which so many are packed, with their answers, their meaning, and
-- where the last Take is found
pub record IsKeptLog (lo hi : ℕ) (entries : List Entry) (count : ℕ) (answered : List (Option Answer)) (state : State) (taken : LatestTake) : Type 0 where
  pub ordered : lo ≤ hi
  pub is_log : IsLog lo hi entries
  pub answers : answered ≡ answers_in (log_opening lo hi) 0 entries
  pub means : meant_by state ≡ untaken (meaning lo hi entries)
  pub last : take_told entries taken ≡ (meaning lo hi entries).taken
  pub newest : IsNewest count entries taken
