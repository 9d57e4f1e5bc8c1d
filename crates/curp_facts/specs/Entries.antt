-- Requests and entries: where each of them comes from.
use Rattle.std.specs.Prelude.{◌≡◌, ◌≤◌, ◌<◌, ℕ, true, List}
use Rattle.curp_base.specs.Words.{At, Each}
use Rattle.curp_cmd.specs.Store as cmd
use Rattle.curp_cmd.specs.declared.command.Request.{Request}
use Rattle.curp_cmd.specs.declared.entry.Entry.{Entry}
use Rattle.curp_cmd.specs.declared.entry.Entry.TheVariants.{Op, Take, Give, Expire}
use Rattle.curp_cmd.specs.declared.migration.Package.{Package}
use Rattle.curp_msg.specs.declared.body.Body.TheVariants as body
use Rattle.curp_msg.specs.declared.body.TakeOut.{TakeOut}
use Rattle.curp_order.specs.declared.Event.TheVariants.{Invoke}
use Rattle.curp_model.specs.Log.{IsLog}
use Rattle.curp_model.specs.World.{World}
use Rattle.curp_facts.specs.Facts.{WasOrdered, hi_of, lo_of}
use Rattle.curp_facts.specs.Kept.{AllCompletedBelow, HasCompletedBelow, RequestFirstOk}

-- ---- requests

-- the request was invoked with its command, and its client has completed all below the first number that it carries
pub record RequestOk (w : World) (r : Request) : Type 0 where
  pub place : ℕ
  pub invoked : At w.history place (Invoke r.id r.command)
  pub first : r.first ≤ r.id.seq
  pub completed : RequestFirstOk w r

-- and it is an update
pub record UpdateOk (w : World) (r : Request) : Type 0 where
  pub request : RequestOk w r
  pub updates : cmd.is_update r.command ≡ true

-- ---- entries

-- the range of the package was ordered to be taken out under that number
pub record WasTakenOut (w : World) (part migration : ℕ) (taken : Package) : Type 0 where
  pub order : TakeOut
  pub ordered : WasOrdered w part (body.TakeOut order)
  pub its_number : order.migration ≡ migration
  pub lo : taken.lo ≡ order.lo
  pub hi : taken.hi ≡ order.hi

-- an Op is of an update, and what it acknowledges is completed; the others were ordered, and each first number of a package
-- is one below which its client has completed all
abbrev pub EntryOk : World → ℕ → Entry → Type 0
EntryOk w part (Op r acknowledged) = UpdateOk w r × (acknowledged ≤ r.id.seq) × HasCompletedBelow w r.id.client acknowledged
EntryOk w part (Take migration taken) = WasTakenOut w part migration taken × Each (AllCompletedBelow w) taken.table.firsts
EntryOk w part (Give migration given) =
    WasOrdered w part (body.GiveIn (record { migration = migration; «package» = given })) × Each (AllCompletedBelow w) given.table.firsts
EntryOk w part (Expire client) = WasOrdered w part (body.ExpireClient client)

-- the numbers of what was taken rise
abbrev pub TakesRise : List Entry → Type 0
TakesRise log = (j k before after : ℕ) (p q : Package) → j < k → At log j (Take before p) → At log k (Take after q) → before < after

-- the numbers of what was given rise
abbrev pub GivesRise : List Entry → Type 0
GivesRise log = (j k before after : ℕ) (p q : Package) → j < k → At log j (Give before p) → At log k (Give after q) → before < after

-- a log of a master of the partition
pub record LogOk (w : World) (part : ℕ) (log : List Entry) : Type 0 where
  pub is_log : IsLog (lo_of w part) (hi_of w part) log
  pub takes : TakesRise log
  pub gives : GivesRise log
  pub entries : Each (EntryOk w part) log
