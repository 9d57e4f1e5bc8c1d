-- Where a request stands in a log, and what a migration takes along of it.
use Rattle.std.specs.Prelude.{◌≡◌, ◌⊎◌, ◌≤◌, ◌<◌, ℕ, ◌==◌, true, false, List, unwrap_or}
use Rattle.std.specs.FinMap.Entries.{find}
use Rattle.std.specs.List.{list_any}
use Rattle.std.specs.Ordering.{nat_cmp}
use Rattle.curp_base.specs.Words.{At, Each}
use Rattle.curp_cmd.specs.Hash.{hashes}
use Rattle.curp_cmd.specs.declared.command.Answer.{Answer}
use Rattle.curp_cmd.specs.declared.command.Request.{Request}
use Rattle.curp_cmd.specs.declared.command.RequestId.{RequestId}
use Rattle.curp_cmd.specs.declared.entry.Entry.{Entry}
use Rattle.curp_cmd.specs.declared.entry.Entry.TheVariants.{Op}
use Rattle.curp_cmd.specs.declared.migration.TablePart.{TablePart}
use Rattle.curp_facts.specs.Facts.{IsAmong}
use Rattle.curp_facts.specs.Reach.{Tells}
use Rattle.curp_model.specs.Log.{entry_touches}

-- the request stands at this index with this answer
pub record StandsHere (lo hi : ℕ) (log : List Entry) (index : ℕ) (id : RequestId) (a : Answer) : Type 0 where
  pub entry : Entry
  pub stands : At log index entry
  pub tells : Tells lo hi log index id a entry

-- what a migration takes along knows of a request: its client is gone, or acknowledged it, or there is its record
abbrev pub Carries : TablePart → RequestId → Type 0
Carries part id = (list_any (λ c. c == id.client) part.gone ≡ true)
    ⊎ ((id.seq < unwrap_or (find nat_cmp id.client part.firsts) 0)
    ⊎ ((a : Answer) × IsAmong {A = RequestId × Answer} (id, a) part.records))

-- no entry touches the hash
abbrev pub Untouched : ℕ → List Entry → Type 0
Untouched h es = (k : ℕ) (e : Entry) → At es k e → entry_touches e h ≡ false

-- an op of the request behind the first so many entries, with nothing on its hashes in between
pub record IsFree (log : List Entry) (count index : ℕ) (r : Request) : Type 0 where
  pub acknowledged : ℕ
  pub stands : At log index (Op r acknowledged)
  pub behind : count ≤ index
  pub apart : (k : ℕ) (e : Entry) → count ≤ k → k < index → At log k e → Each (λ h. entry_touches e h ≡ false) (hashes r.command)
