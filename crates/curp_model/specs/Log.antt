-- The log, and what it means: the fold of its entries (after RIFL's kept records; takes and gives are this project's own).
use Rattle.std.specs.Prelude.{◌≡◌, ◌≤◌, ℕ, ◌+◌, ◌==◌, nat_eq, not, ◌&&◌, if◌then◌else◌, Bool, true, false, IsTrue, List, [], ◌∷◌, fold, take, Option, Some, None, ◌⊎◌, ⊤}
use Rattle.std.specs.FinMap as map
use Rattle.std.specs.List.{filter, list_any}
use Rattle.std.specs.Option.{option_eq}
use Rattle.std.specs.Str.{bytes_eq}
use Rattle.curp_base.specs.Words.{At}
use Rattle.curp_cmd.specs.Hash.{hash_of, hashes, touches}
use Rattle.curp_cmd.specs.Pairs.{Pair}
use Rattle.curp_cmd.specs.RequestId.{same_id}
use Rattle.curp_cmd.specs.Store.{Contents, nothing, applied, with_pairs}
use Rattle.curp_cmd.specs.declared.command.Answer.{Answer}
use Rattle.curp_cmd.specs.declared.command.Answer.TheVariants as answer
use Rattle.curp_cmd.specs.declared.command.Command.{Command}
use Rattle.curp_cmd.specs.declared.command.Request.{Request}
use Rattle.curp_cmd.specs.declared.command.RequestId.{RequestId}
use Rattle.curp_cmd.specs.declared.entry.Entry.{Entry}
use Rattle.curp_cmd.specs.declared.entry.Entry.TheVariants.{Op, Take, Give, Expire}
use Rattle.curp_cmd.specs.declared.migration.Package.{Package}
use Rattle.curp_range.specs.Spans.{Span, is_in, is_covered, without, with_range}
use Rattle.curp_model.specs.declared.Check.{Check}
use Rattle.curp_model.specs.declared.Check.TheVariants.{New}
use Rattle.curp_model.specs.Ranges.{owns_all}
use Rattle.curp_model.specs.Table as table
use Rattle.curp_model.specs.Table.{Table, no_records}

-- the last package that was taken, with its migration and the index of its entry
pub record LastTake : Type 0 where
  pub migration : ℕ
  pub taken : Package
  pub index : ℕ

-- the last migration that was given, with the index of its entry
pub record LastGive : Type 0 where
  pub migration : ℕ
  pub index : ℕ

-- the store, the reply table, the owned hashes, the last package taken, and the last migration given
pub record LogState : Type 0 where
  pub store : Contents
  pub table : Table
  pub owned : List Span
  pub taken : Option LastTake
  pub given : Option LastGive

-- before any entry, with that range
abbrev pub log_opening : ℕ → ℕ → LogState
log_opening lo hi = record { store = nothing; table = no_records; owned = (lo, hi) ∷ []; taken = None; given = None }

-- ---- packages

-- the key of the pair lies in the range
abbrev pub is_pair_in : ℕ → ℕ → Pair → Bool
is_pair_in lo hi p = is_in lo hi (hash_of p.0)

-- the store without the keys of a range
abbrev pub without_keys : Contents → ℕ → ℕ → Contents
without_keys s lo hi = fold (λ (kept : Contents) (p : Pair). map.remove kept p.0) s (filter (is_pair_in lo hi) (map.entries s))

-- what a migration carries: the pairs of the range, and the whole table
abbrev pub package_of : LogState → (lo hi : ℕ) → lo ≤ hi → Package
package_of s lo hi ordered = record { lo = lo; hi = hi; pairs = filter (is_pair_in lo hi) (map.entries s.store); table = table.packed s.table; ordered = ordered }

-- ---- entries

-- the entry is an Op
abbrev pub IsOp : Entry → Type 0
IsOp (Op request acknowledged) = ⊤
IsOp (Take migration taken) = ⊥
IsOp (Give migration given) = ⊥
IsOp (Expire client) = ⊥

-- an op is executed, and its answer recorded (RIFL)
abbrev pub after_op : LogState → ℕ → Request → ℕ → LogState
after_op s index r acknowledged =
    let a = applied s.store r.command in
    record s { store = a.after; table = table.acknowledge (table.note s.table r.id a.answer index) r.id.client acknowledged }

-- a range leaves with a migration
abbrev pub after_take : LogState → ℕ → ℕ → Package → LogState
after_take s index migration p = record s {
  store = without_keys s.store p.lo p.hi;
  owned = without s.owned p.lo p.hi;
  taken = Some (record { migration = migration; taken = p; index = index });
}

-- a range comes with a migration
abbrev pub after_give : LogState → ℕ → ℕ → Package → LogState
after_give s index migration p = record s {
  store = with_pairs s.store p.pairs;
  table = table.merge s.table p.table index;
  owned = with_range s.owned p.lo p.hi;
  given = Some (record { migration = migration; index = index });
}

-- one entry, which stands at that index
unfoldable pub after_entry : LogState → ℕ → Entry → LogState
after_entry s index (Op r acknowledged) = after_op s index r acknowledged
after_entry s index (Take migration taken) = after_take s index migration taken
after_entry s index (Give migration given) = after_give s index migration given
after_entry s index (Expire client) = record s { table = table.expire s.table client }

-- entries that stand from an index on
abbrev pub after_entries : LogState → ℕ → List Entry → LogState
after_entries s index [] = s
after_entries s index (e ∷ es) = after_entries (after_entry s index e) (index + 1) es

-- what a log means that began with the range from lo to hi
abbrev pub meaning : ℕ → ℕ → List Entry → LogState
meaning lo hi entries = after_entries (log_opening lo hi) 0 entries

-- the answer to an Op with these entries before it
abbrev pub answer_after : ℕ → ℕ → List Entry → Command → Answer
answer_after lo hi before command = (applied (meaning lo hi before).store command).answer

-- ---- touching

-- what an entry has to do with a hash: an Op with those of its command, a Take and a Give with their whole range
abbrev pub entry_touches : Entry → ℕ → Bool
entry_touches (Op r acknowledged) h = touches r.command h
entry_touches (Take migration taken) h = is_in taken.lo taken.hi h
entry_touches (Give migration given) h = is_in given.lo given.hi h
entry_touches (Expire client) h = false

-- some entry touches a hash of the command
abbrev pub is_touched : List Entry → Command → Bool
is_touched entries command = list_any (λ e. list_any (entry_touches e) (hashes command)) entries

-- ---- which lists are logs

-- the same truth value
abbrev pub bool_eq : Bool → Bool → Bool
bool_eq a b = if a then b else not b

-- the same answer
abbrev pub answer_eq : Answer → Answer → Bool
answer_eq answer.Done answer.Done = true
answer_eq (answer.Removed a) (answer.Removed b) = bool_eq a b
answer_eq (answer.Number a) (answer.Number b) = a == b
answer_eq (answer.Length a) (answer.Length b) = a == b
answer_eq (answer.Swapped a) (answer.Swapped b) = bool_eq a b
answer_eq answer.NotNumber answer.NotNumber = true
answer_eq answer.Overflow answer.Overflow = true
answer_eq answer.TooLong answer.TooLong = true
answer_eq (answer.Found a) (answer.Found b) = option_eq bytes_eq a b
answer_eq _ _ = false

-- the same items, in the same order
abbrev pub list_eq : {A : Type 0} → (A → A → Bool) → List A → List A → Bool
list_eq eq [] [] = true
list_eq eq (x ∷ xs) (y ∷ ys) = eq x y && list_eq eq xs ys
list_eq eq _ _ = false

-- the same package
abbrev pub package_eq : Package → Package → Bool
package_eq a b =
    (a.lo == b.lo) && (a.hi == b.hi)
    && list_eq (λ (p q : Pair). bytes_eq p.0 q.0 && bytes_eq p.1 q.1) a.pairs b.pairs
    && list_eq (λ (p q : RequestId × Answer). same_id p.0 q.0 && answer_eq p.1 q.1) a.table.records b.table.records
    && list_eq (λ (p q : ℕ × ℕ). (p.0 == q.0) && (p.1 == q.1)) a.table.firsts b.table.firsts
    && list_eq nat_eq a.table.gone b.table.gone

-- the check finds nothing of the request
abbrev pub is_new : Check → Bool
is_new New = true
is_new _ = false

-- at its place each Op is new and its hashes are owned; each Take's range is owned and its package is that of the state
abbrev pub fits_at : LogState → Entry → Bool
fits_at s (Op r acknowledged) = is_new (table.check s.table r.id) && owns_all s.owned (hashes r.command)
fits_at s (Take migration taken) = is_covered s.owned taken.lo taken.hi && package_eq taken (package_of s taken.lo taken.hi taken.ordered)
fits_at s (Give migration given) = true
fits_at s (Expire client) = true

-- each entry fits at its place, from an index on
abbrev pub all_fit : LogState → ℕ → List Entry → Bool
all_fit s index [] = true
all_fit s index (e ∷ es) = fits_at s e && all_fit (after_entry s index e) (index + 1) es

-- entries that a master of that range could have pushed
abbrev pub is_log : ℕ → ℕ → List Entry → Bool
is_log lo hi entries = all_fit (log_opening lo hi) 0 entries

-- the same as a fact
abbrev pub IsLog : ℕ → ℕ → List Entry → Type 0
IsLog lo hi entries = IsTrue (is_log lo hi entries)

-- ---- what stands in a log

-- an Op of the request with that answer in the fold
pub record IsDone (lo hi : ℕ) (entries : List Entry) (id : RequestId) (a : Answer) : Type 0 where
  pub index : ℕ
  pub request : Request
  pub acknowledged : ℕ
  pub stands : At entries index (Op request acknowledged)
  pub its_id : request.id ≡ id
  pub its_answer : answer_after lo hi (take index entries) request.command ≡ a

-- or a Give whose package has its record
pub record IsBrought (entries : List Entry) (id : RequestId) (a : Answer) : Type 0 where
  pub index : ℕ
  pub migration : ℕ
  pub brought : Package
  pub stands : At entries index (Give migration brought)
  pub place : ℕ
  pub its_record : At brought.table.records place (id, a)

-- a request stands in the log with that answer
abbrev pub Stands : ℕ → ℕ → List Entry → RequestId → Answer → Type 0
Stands lo hi entries id a = IsDone lo hi entries id a ⊎ IsBrought entries id a
