-- What a log means computes with the pairs of its store as a list.
use Rattle.std.proofs.Common.{◌≡◌, ◌≤◌, ℕ, ◌+◌, ◌&&◌, Bool, true, List, [], ◌∷◌, fold, filter, Option, Some, None, refl, ap, ◌∙◌}
use Rattle.std.specs.FinMap as map
use Rattle.curp_range.specs.Spans.{Span, is_covered, without, with_range}
use Rattle.curp_cmd.specs.Hash.{hashes}
use Rattle.curp_cmd.specs.Pairs.{Pair}
use Rattle.curp_cmd.specs.Store.{Contents, applied}
use Rattle.curp_cmd.specs.declared.command.Answer.{Answer}
use Rattle.curp_cmd.specs.declared.command.Command.{Command}
use Rattle.curp_cmd.specs.declared.command.Request.{Request}
use Rattle.curp_cmd.specs.declared.command.RequestId.{RequestId}
use Rattle.curp_cmd.specs.declared.entry.Entry.{Entry}
use Rattle.curp_cmd.specs.declared.entry.Entry.TheVariants.{Op, Take, Give, Expire}
use Rattle.curp_cmd.specs.declared.migration.Package.{Package}
use Rattle.curp_order.specs.Order.{answers_from, answers}
use Rattle.curp_model.specs.Log.{LogState, log_opening, is_pair_in, after_entry, after_entries, meaning, answer_after, package_eq, is_new, fits_at, all_fit, is_log, LastTake, LastGive}
use Rattle.curp_model.specs.Ranges.{owns_all}
use Rattle.curp_model.specs.Table as table
use Rattle.curp_model.specs.Table.{Table, no_records}
use Rattle.curp_rows.proofs.ListedStore.{Listed, listed, taken_from, all_put_in, entries_nothing, entries_remove, entries_put_all, same_applied}

-- ---- what entries do

-- a state of the log with the pairs of its store
pub record ListedState : Type 0 where
  pub pairs : List Pair
  pub table : Table
  pub owned : List Span
  pub taken : Option LastTake
  pub given : Option LastGive

abbrev pub listed_opening : ℕ → ℕ → ListedState
listed_opening lo hi = record { pairs = []; table = no_records; owned = (lo, hi) ∷ []; taken = None; given = None }

abbrev pub all_taken_from : List Pair → List Pair → List Pair
all_taken_from pairs gone = fold (λ (kept : List Pair) (p : Pair). taken_from kept p.0) pairs gone

abbrev pub listed_package : ListedState → (lo hi : ℕ) → lo ≤ hi → Package
listed_package s lo hi ordered = record { lo = lo; hi = hi; pairs = filter (is_pair_in lo hi) s.pairs; table = table.packed s.table; ordered = ordered }

abbrev pub listed_op : ListedState → ℕ → Request → ℕ → Listed → ListedState
listed_op s index r acknowledged a =
    record s { pairs = a.pairs; table = table.acknowledge (table.note s.table r.id a.answer index) r.id.client acknowledged }

abbrev pub listed_take : ListedState → ℕ → ℕ → Package → List Pair → ListedState
listed_take s index migration p pairs = record s {
  pairs = pairs;
  owned = without s.owned p.lo p.hi;
  taken = Some (record { migration = migration; taken = p; index = index });
}

abbrev pub listed_give : ListedState → ℕ → ℕ → Package → List Pair → ListedState
listed_give s index migration p pairs = record s {
  pairs = pairs;
  table = table.merge s.table p.table index;
  owned = with_range s.owned p.lo p.hi;
  given = Some (record { migration = migration; index = index });
}

abbrev pub listed_entry : ListedState → ℕ → Entry → ListedState
listed_entry s index (Op r acknowledged) = listed_op s index r acknowledged (listed s.pairs r.command)
listed_entry s index (Take migration p) = listed_take s index migration p (all_taken_from s.pairs (filter (is_pair_in p.lo p.hi) s.pairs))
listed_entry s index (Give migration p) = listed_give s index migration p (all_put_in s.pairs p.pairs)
listed_entry s index (Expire client) = record s { table = table.expire s.table client }

abbrev pub listed_entries : ListedState → ℕ → List Entry → ListedState
listed_entries s index [] = s
listed_entries s index (e ∷ es) = listed_entries (listed_entry s index e) (index + 1) es

abbrev pub listed_meaning : ℕ → ℕ → List Entry → ListedState
listed_meaning lo hi entries = listed_entries (listed_opening lo hi) 0 entries

abbrev pub listed_answer : ℕ → ℕ → List Entry → Command → Answer
listed_answer lo hi before command = (listed (listed_meaning lo hi before).pairs command).answer

-- ---- that is what the log means

abbrev pub seen_state : LogState → ListedState
seen_state s = record { pairs = map.entries s.store; table = s.table; owned = s.owned; taken = s.taken; given = s.given }

entries_take : (s : Contents) (gone : List Pair) → map.entries (fold (λ (kept : Contents) (p : Pair). map.remove kept p.0) s gone) ≡ all_taken_from (map.entries s) gone
entries_take s [] = refl
entries_take s (p ∷ ps) = entries_take (map.remove s p.0) ps ∙ ap (λ now. all_taken_from now ps) (entries_remove s p.0)

same_entry : (s : LogState) (index : ℕ) (e : Entry) → seen_state (after_entry s index e) ≡ listed_entry (seen_state s) index e
unfolding after_entry
same_entry s index (Op r acknowledged) = ap (listed_op (seen_state s) index r acknowledged) (same_applied s.store r.command)
same_entry s index (Take migration p) =
    ap (listed_take (seen_state s) index migration p) (entries_take s.store (filter (is_pair_in p.lo p.hi) (map.entries s.store)))
same_entry s index (Give migration p) = ap (listed_give (seen_state s) index migration p) (entries_put_all s.store p.pairs)
same_entry s index (Expire client) = refl

same_entries : (s : LogState) (index : ℕ) (es : List Entry) → seen_state (after_entries s index es) ≡ listed_entries (seen_state s) index es
same_entries s index [] = refl
same_entries s index (e ∷ es) = same_entries (after_entry s index e) (index + 1) es ∙ ap (λ now. listed_entries now (index + 1) es) (same_entry s index e)

same_opening : (lo hi : ℕ) → seen_state (log_opening lo hi) ≡ listed_opening lo hi
same_opening lo hi = λ i. record { pairs = entries_nothing i; table = no_records; owned = (lo, hi) ∷ []; taken = None; given = None }

pub same_meaning : (lo hi : ℕ) (es : List Entry) → seen_state (meaning lo hi es) ≡ listed_meaning lo hi es
same_meaning lo hi es = same_entries (log_opening lo hi) 0 es ∙ ap (λ now. listed_entries now 0 es) (same_opening lo hi)

pub same_answer : (lo hi : ℕ) (before : List Entry) (command : Command) → answer_after lo hi before command ≡ listed_answer lo hi before command
same_answer lo hi before command =
    ap (λ (a : Listed). a.answer) (same_applied (meaning lo hi before).store command)
    ∙ ap (λ (now : ListedState). (listed now.pairs command).answer) (same_meaning lo hi before)

-- ---- which lists are logs

abbrev pub listed_fits : ListedState → Entry → Bool
listed_fits s (Op r acknowledged) = is_new (table.check s.table r.id) && owns_all s.owned (hashes r.command)
listed_fits s (Take migration taken) = is_covered s.owned taken.lo taken.hi && package_eq taken (listed_package s taken.lo taken.hi taken.ordered)
listed_fits s (Give migration given) = true
listed_fits s (Expire client) = true

abbrev pub listed_all_fit : ListedState → ℕ → List Entry → Bool
listed_all_fit s index [] = true
listed_all_fit s index (e ∷ es) = listed_fits s e && listed_all_fit (listed_entry s index e) (index + 1) es

abbrev pub is_listed_log : ℕ → ℕ → List Entry → Bool
is_listed_log lo hi entries = listed_all_fit (listed_opening lo hi) 0 entries

same_fits : (s : LogState) (e : Entry) → fits_at s e ≡ listed_fits (seen_state s) e
same_fits s (Op r acknowledged) = refl
same_fits s (Take migration taken) = refl
same_fits s (Give migration given) = refl
same_fits s (Expire client) = refl

same_all_fit : (s : LogState) (index : ℕ) (es : List Entry) → all_fit s index es ≡ listed_all_fit (seen_state s) index es
same_all_fit s index [] = refl
same_all_fit s index (e ∷ es) =
    let rest = same_all_fit (after_entry s index e) (index + 1) es ∙ ap (λ now. listed_all_fit now (index + 1) es) (same_entry s index e) in
    λ i. same_fits s e i && rest i

pub same_log : (lo hi : ℕ) (es : List Entry) → is_log lo hi es ≡ is_listed_log lo hi es
same_log lo hi es = same_all_fit (log_opening lo hi) 0 es ∙ ap (λ now. listed_all_fit now 0 es) (same_opening lo hi)

-- ---- the answers of one thread

abbrev pub listed_answers : List Pair → List (RequestId × Command) → List Answer
listed_answers pairs [] = []
listed_answers pairs (o ∷ os) = (listed pairs o.1).answer ∷ listed_answers (listed pairs o.1).pairs os

same_answers_from : (s : Contents) (os : List (RequestId × Command)) → answers_from s os ≡ listed_answers (map.entries s) os
same_answers_from s [] = refl
same_answers_from s (o ∷ os) =
    ap (λ rest. (applied s o.1).answer ∷ rest) (same_answers_from (applied s o.1).after os)
    ∙ ap (λ (a : Listed). a.answer ∷ listed_answers a.pairs os) (same_applied s o.1)

pub same_answers : (os : List (RequestId × Command)) → answers os ≡ listed_answers [] os
same_answers os = same_answers_from _ os ∙ ap (λ pairs. listed_answers pairs os) entries_nothing
