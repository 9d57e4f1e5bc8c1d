-- The reply table and the duplicate check (after RIFL's kept records).
use Rattle.std.specs.Prelude.{ℕ, zero, suc, ◌==◌, ◌&&◌, max, nat_lt, nat_le, if◌then◌else◌, Bool, not, List, [], map, fold, Option, Some, None, unwrap_or}
use Rattle.std.specs.BTreeSet.{insert_key}
use Rattle.std.specs.FinMap.Entries.{find, put}
use Rattle.std.specs.List.{filter, list_any}
use Rattle.std.specs.Ordering.{nat_cmp}
use Rattle.curp_cmd.specs.RequestId.{id_cmp}
use Rattle.curp_cmd.specs.declared.command.Answer.{Answer}
use Rattle.curp_cmd.specs.declared.command.RequestId.{RequestId}
use Rattle.curp_cmd.specs.declared.migration.TablePart.{TablePart}
use Rattle.curp_model.specs.declared.Check.{Check}
use Rattle.curp_model.specs.declared.Check.TheVariants.{Expired, Stale, Known, New}

-- the answer to a request, and the index of its entry
pub record Noted : Type 0 where
  pub answer : Answer
  pub index : ℕ

-- The record of each request that is done and not acknowledged, the first numbers that clients haven't acknowledged, and
-- the clients that are expired. All three ascend.
pub record Table : Type 0 where
  pub records : List (RequestId × Noted)
  pub firsts : List (ℕ × ℕ)
  pub gone : List ℕ

-- before anything was done
abbrev pub no_records : Table
no_records = record { records = []; firsts = []; gone = [] }

-- the client is expired
abbrev pub is_gone : Table → ℕ → Bool
is_gone t client = list_any (λ c. c == client) t.gone

-- a client's first number that isn't acknowledged, at first 0
abbrev pub first_number : Table → ℕ → ℕ
first_number t client = unwrap_or (find nat_cmp client t.firsts) 0

-- ---- the duplicate check

-- what a record says of its request
abbrev pub known : Option Noted → Check
known None = New
known (Some r) = Known r.answer r.index

-- the first that holds
unfoldable pub check : Table → RequestId → Check
check t id =
    if is_gone t id.client then Expired
    else if nat_lt id.seq (first_number t id.client) then Stale (first_number t id.client)
    else known (find id_cmp id t.records)

-- ---- what is done

-- a request is done
abbrev pub note : Table → RequestId → Answer → ℕ → Table
note t id answer index = record t { records = put id_cmp id (record { answer = answer; index = index }) t.records }

-- the larger first number counts. A number 0 makes no line
abbrev pub raise_first : List (ℕ × ℕ) → ℕ → ℕ → List (ℕ × ℕ)
raise_first firsts client zero = firsts
raise_first firsts client (suc n) = put nat_cmp client (max (suc n) (unwrap_or (find nat_cmp client firsts) 0)) firsts

-- the request is that client's, and below the number
abbrev pub is_below : ℕ → ℕ → RequestId → Bool
is_below client first id = (id.client == client) && nat_lt id.seq first

-- a client acknowledges all its requests below a number: their records are dropped (RIFL)
abbrev pub acknowledge : Table → ℕ → ℕ → Table
acknowledge t client first = record t {
  records = filter (λ (e : RequestId × Noted). not (is_below client first e.0)) t.records;
  firsts = raise_first t.firsts client first;
}

-- a client is gone for good, and its records with it
abbrev pub expire : Table → ℕ → Table
expire t client = record t {
  records = filter (λ (e : RequestId × Noted). not (e.0.client == client)) t.records;
  gone = insert_key nat_cmp t.gone client;
}

-- ---- migrations

-- what a migration takes along
abbrev pub packed : Table → TablePart
packed t = record { records = map (λ (e : RequestId × Noted). (e.0, e.1.answer)) t.records; firsts = t.firsts; gone = t.gone }

-- an id that has a record keeps it
abbrev pub note_once : ℕ → Option Noted → Table → RequestId → Answer → Table
note_once index (Some noted) t id answer = t
note_once index None t id answer = note t id answer index

-- a record is of no use where its client is expired or has acknowledged it
abbrev pub is_of_use : Table → RequestId → Bool
is_of_use t id = not (is_gone t id.client) && nat_le (first_number t id.client) id.seq

-- the table without records of no use
abbrev pub of_use : Table → Table
of_use t = record t { records = filter (λ (e : RequestId × Noted). is_of_use t e.0) t.records }

-- what a migration brings, in the entry of that index: records that weren't there, the larger first numbers, and the clients
-- that are expired; what is of no use then is dropped
unfoldable pub merge : Table → TablePart → ℕ → Table
merge t part index =
    let noted = fold (λ (u : Table) (e : RequestId × Answer). note_once index (find id_cmp e.0 u.records) u e.0 e.1) t part.records in
    let raised = fold (λ (firsts : List (ℕ × ℕ)) (e : ℕ × ℕ). raise_first firsts e.0 e.1) noted.firsts part.firsts in
    let gone = fold (insert_key nat_cmp) noted.gone part.gone in
    of_use (record { records = noted.records; firsts = raised; gone = gone })
