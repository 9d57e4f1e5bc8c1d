-- A master's log with what stands beside it.
use Rattle.std.specs.Prelude.{◌≡◌, ℕ, ◌*◌, ◌<◌, ◌≤◌, Bool, true, false, List, [], ◌∷◌, ◌++◌, length}
use Rattle.curp_base.specs.Words.{Each}
use Rattle.curp_cmd.specs.declared.command.Request.{Request}
use Rattle.curp_cmd.specs.declared.entry.Entry.{Entry}
use Rattle.curp_cmd.specs.declared.entry.Entry.TheVariants.{Op}
use Rattle.curp_log.specs.Content.{Content}
use Rattle.curp_model.specs.Log.{LogState, fits_at}
use Rattle.curp_tail.specs.declared.tail.TailEntry.{TailEntry}
use Rattle.curp_tail.specs.Tail.{tail_of}

-- a log, how far it is synced, and its ops that were free as they were pushed
pub record KeptLog : Type 0 where
  pub lo : ℕ
  pub hi : ℕ
  pub entries : List Entry
  pub synced : ℕ
  pub free : List ℕ

-- by its parts
abbrev pub kept_log_of : Content → ℕ → List ℕ → KeptLog
kept_log_of log synced free = record { lo = log.lo; hi = log.hi; entries = log.entries; synced = synced; free = free }

-- with it, for how much more there is room: in the units of entries, in hashes that aren't synced, and in free ops
pub record MasterLogState : Type 0 where
  pub kept : KeptLog
  pub units : ℕ
  pub hashes : ℕ
  pub marks : ℕ

-- there is room for entries that take so much; each takes one unit at least, and names four hashes at most
pub record HasRoom (j : MasterLogState) (units : ℕ) : Type 0 where
  pub in_log : units ≤ j.units
  pub in_tail : 4 * units ≤ j.hashes
  pub in_marks : units ≤ j.marks

-- a request can come next: it is new, and its hashes are owned
abbrev pub CanPush : LogState → Request → Type 0
CanPush s r = fits_at s (Op r r.first) ≡ true

-- an index more, if it is free
abbrev pub free_with : List ℕ → ℕ → Bool → List ℕ
free_with free index true = free ++ index ∷ []
free_with free index false = free

-- an entry more, which is free or not
abbrev pub with_entry : KeptLog → Entry → Bool → KeptLog
with_entry j entry is_free = record j {
  entries = j.entries ++ entry ∷ [];
  free = free_with j.free (length j.entries) is_free;
}

-- the tail tells of the log from a place on that stands no earlier than what is synced, and the free indexes stand in the log
pub record IsBeside (j : KeptLog) (told : ℕ) (tail : List TailEntry) : Type 0 where
  pub its_tail : tail ≡ tail_of j.entries told
  pub covers : j.synced ≤ told
  pub stand : Each (λ index. index < length j.entries) j.free
