-- What a log's table knows stands in the log.
use Rattle.std.proofs.Common.{◌≡◌, ℕ, ◌+◌, ◌<◌, ◌==◌, not, Bool, true, false, cond, List, [], ◌∷◌, length, fold, Option, Some, None, refl, ap, sym, ◌∙◌, subst, arith}
use Rattle.std.specs.BTreeSet.{insert_key}
use Rattle.std.specs.FinMap.Entries.{find, find-put, find-where_key, put}
use Rattle.std.specs.List.{filter}
use Rattle.std.specs.Ordering.{eq_by_cmp, nat_cmp}
use Rattle.curp_cmd.specs.RequestId.{id_cmp}
use Rattle.curp_cmd.specs.Store.{applied}
use Rattle.curp_cmd.specs.declared.command.Answer.{Answer}
use Rattle.curp_cmd.specs.declared.command.RequestId.{RequestId}
use Rattle.curp_cmd.specs.declared.entry.Entry.{Entry}
use Rattle.curp_cmd.specs.declared.entry.Entry.TheVariants.{Op, Take, Give, Expire}
use Rattle.curp_cmd.specs.declared.migration.TablePart.{TablePart}
use Rattle.curp_model.specs.declared.Check.{Check}
use Rattle.curp_model.specs.declared.Check.TheVariants.{Known}
use Rattle.curp_model.specs.Log.{LogState, after_entries, after_entry, log_opening, meaning}
use Rattle.curp_model.specs.Table.{Noted, Table, check, is_below, is_of_use, known, merge, note_once, raise_first}
use Rattle.curp_model.proofs.Tables.{by_check, ids_same, ids_total}

-- the records are of entries below a place
abbrev Below : ℕ → List (RequestId × Noted) → Type 0
Below n records = (id : RequestId) (x : Noted) → find id_cmp id records ≡ Some x → x.index < n

below_more : (n : ℕ) (records : List (RequestId × Noted)) → Below n records → Below (n + 1) records
below_more n records below id x found = let low : x.index < n = below id x found in omega arith

below_where : (n : ℕ) (test : RequestId → Bool) (records : List (RequestId × Noted)) → Below n records → Below n (filter (λ (e : RequestId × Noted). test e.0) records)
below_where n test records below id x found =
    below id x (there (test id) (find id_cmp id records) (sym (find-where_key id_cmp test id (λ y e. ap test (sym (ids_same id y e))) records) ∙ found))
  where
    there : (b : Bool) (o : Option Noted) → cond b o None ≡ Some x → o ≡ Some x
    there true o e = e
    there false o e = absurd cc

below_put : (n : ℕ) (records : List (RequestId × Noted)) (other : RequestId) (a : Answer) (index : ℕ) → index < n → Below n records
    → Below n (put id_cmp other (record { answer = a; index = index }) records)
below_put n records other a index low below id x found =
    go (eq_by_cmp id_cmp id other) (sym (find-put id_cmp ids_total id other (record { answer = a; index = index }) records) ∙ found)
  where
    go : (b : Bool) → cond b (Some (record { answer = a; index = index })) (find id_cmp id records) ≡ Some x → x.index < n
    go true e = let same : index ≡ x.index = cc in subst (λ (k : ℕ). k < n) same low
    go false e = below id x e

below_once : (index : ℕ) (t : Table) (id : RequestId) (a : Answer) (o : Option Noted) → Below (index + 1) t.records → Below (index + 1) (note_once index o t id a).records
below_once index t id a (Some x) below = below
below_once index t id a None below = below_put (index + 1) t.records id a index (omega arith) below

below_all : (index : ℕ) (es : List (RequestId × Answer)) (t : Table) → Below (index + 1) t.records
    → Below (index + 1) (fold (λ (u : Table) (e : RequestId × Answer). note_once index (find id_cmp e.0 u.records) u e.0 e.1) t es).records
below_all index [] t below = below
below_all index (e ∷ es) t below =
    below_all index es (note_once index (find id_cmp e.0 t.records) t e.0 e.1) (below_once index t e.0 e.1 (find id_cmp e.0 t.records) below)

below_merge : (index : ℕ) (t : Table) (part : TablePart) → Below (index + 1) t.records → Below (index + 1) (merge t part index).records
unfolding merge
below_merge index t part below =
    let noted : Table = fold (λ (u : Table) (e : RequestId × Answer). note_once index (find id_cmp e.0 u.records) u e.0 e.1) t part.records in
    let raised : List (ℕ × ℕ) = fold (λ (firsts : List (ℕ × ℕ)) (e : ℕ × ℕ). raise_first firsts e.0 e.1) noted.firsts part.firsts in
    let merged : Table = record { records = noted.records; firsts = raised; gone = fold (insert_key nat_cmp) noted.gone part.gone } in
    below_where (index + 1) (is_of_use merged) noted.records (below_all index part.records t below)

below_entry : (s : LogState) (index : ℕ) (e : Entry) → Below index s.table.records → Below (index + 1) (after_entry s index e).table.records
unfolding after_entry
below_entry s index (Op r acknowledged) below =
    below_where (index + 1) (λ id. not (is_below r.id.client acknowledged id)) _
    (below_put (index + 1) s.table.records r.id (applied s.store r.command).answer index (omega arith) (below_more index s.table.records below))
below_entry s index (Take migration taken) below = below_more index s.table.records below
below_entry s index (Give migration given) below = below_merge index s.table given.table (below_more index s.table.records below)
below_entry s index (Expire client) below =
    below_where (index + 1) (λ id. not (id.client == client)) s.table.records (below_more index s.table.records below)

below_entries : (es : List Entry) (s : LogState) (index n : ℕ) → n ≡ index + length es → Below index s.table.records → Below n (after_entries s index es).table.records
below_entries [] s index n last below = let same : index ≡ n = omega arith in subst (λ (k : ℕ). Below k s.table.records) same below
below_entries (e ∷ es) s index n last below = below_entries es (after_entry s index e) (index + 1) n (omega arith) (below_entry s index e below)

none_below : Below 0 []
none_below id x found = absurd cc

pub known_below : (lo hi : ℕ) (log : List Entry) (id : RequestId) (a : Answer) (index : ℕ) → check (meaning lo hi log).table id ≡ Known a index → index < length log
known_below lo hi log id a index =
    by_check (meaning lo hi log).table id (λ (c : Check). c ≡ Known a index → index < length log) (λ e. absurd cc) (λ first e. absurd cc)
    (λ kept. found (find id_cmp id (meaning lo hi log).table.records) refl)
  where
    found : (o : Option Noted) → find id_cmp id (meaning lo hi log).table.records ≡ o → known o ≡ Known a index → index < length log
    found None is e = absurd cc
    found (Some x) is e =
        let same : x.index ≡ index = cc in
        subst (λ (k : ℕ). k < length log) same (below_entries log (log_opening lo hi) 0 (length log) (omega arith) none_below id x is)
