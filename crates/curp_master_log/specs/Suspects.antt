-- Suspects of a witness, each in turn, at a master's log and queue.
use Rattle.std.specs.Prelude.{◌≡◌, ℕ, ◌*◌, ◌+◌, if◌then◌else◌, List, [], ◌∷◌, ◌++◌, length}
use Rattle.curp_cmd.specs.declared.command.Request.{Request}
use Rattle.curp_cmd.specs.declared.entry.Entry.{Entry}
use Rattle.curp_cmd.specs.declared.entry.Entry.TheVariants.{Op}
use Rattle.curp_model.specs.Log.{fits_at, meaning}
use Rattle.curp_model.specs.Master.{MasterState, Queued, state_of, treated}
use Rattle.curp_model.specs.Table.{check}
use Rattle.curp_master_log.specs.MasterLog.{HasRoom, MasterLogState, KeptLog}

-- what a suspect brings behind a log: an Op by which nothing is acknowledged, where it can come next
abbrev pub brings : ℕ → ℕ → List Entry → Request → List Entry
brings lo hi entries r = if fits_at (meaning lo hi entries) (Op r 0) then Op r 0 ∷ [] else []

-- what suspects bring, each behind those before it
abbrev pub news : ℕ → ℕ → List Entry → List Request → List Entry
news lo hi entries [] = []
news lo hi entries (r ∷ rs) = let more = brings lo hi entries r in more ++ news lo hi (entries ++ more) rs

-- the master with that log and that queue
abbrev pub keeping : MasterState → KeptLog → List Queued → MasterState
keeping m j queue = record m { lo = j.lo; hi = j.hi; log = j.entries; free = j.free; queue = queue }

-- what becomes of one suspect
abbrev pub one_treated : MasterState → Request → MasterState
one_treated m r = treated m r (check (state_of m).table r.id)

-- there is room for so many Ops: each takes one unit, and one more for each of at most four pairs
abbrev pub HasOpRoom : MasterLogState → ℕ → Type 0
HasOpRoom j ops = HasRoom j (5 * ops)

-- a log and a queue before and after a suspect, which takes no more room than for what it brings
pub record IsTreated (r : Request) (before : MasterLogState) (was : List Queued) (after : MasterLogState) (is : List Queued) : Type 0 where
  pub treated : (m : MasterState) → one_treated (keeping m before.kept was) r ≡ keeping m after.kept is
  pub synced : after.kept.synced ≡ before.kept.synced
  pub room : (more : ℕ) → HasOpRoom before (length (brings before.kept.lo before.kept.hi before.kept.entries r) + more) → HasOpRoom after more
