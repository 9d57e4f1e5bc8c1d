-- What a log keeps beside its entries, as an entry comes.
use Rattle.std.proofs.Common.{◌≡◌, ℕ, zero, suc, ◌+◌, ◌<◌, ◌≤◌, true, List, [], ◌∷◌, ◌++◌, length, take, slice_get, Option, Some, None, refl, ap, sym, ◌∙◌, arith}
use Rattle.std.specs.FinMap as map
use Rattle.std.specs.List.{filter}
use Rattle.std.proofs.lemmas.Bool.{and_from, and_parts}
use Rattle.curp_base.proofs.Lists.{at_push}
use Rattle.curp_cmd.specs.declared.command.Answer.{Answer}
use Rattle.curp_cmd.specs.declared.entry.Entry.{Entry}
use Rattle.curp_cmd.specs.declared.entry.Entry.TheVariants.{Op, Take, Give, Expire}
use Rattle.curp_cmd.specs.declared.migration.Package.{Package}
use Rattle.curp_model.proofs.Logs.{meaning_append}
use Rattle.curp_model.proofs.Packages.{package_eq-Decides}
use Rattle.curp_range.specs.Spans.{is_covered}
use Rattle.curp_model.specs.Log.{LogState, after_entries, after_entry, fits_at, is_pair_in, log_opening, meaning, package_of}
use Rattle.curp_log.specs.Ops.{answer_of, answer_at}
use Rattle.curp_log.specs.State.{IsKept, IsKeptLog, IsNewest, answers_in, meant_by, take_after, take_of, take_told, untaken}
use Rattle.curp_log.specs.declared.state.State.{State}
use Rattle.curp_log.specs.declared.taken.LatestTake.{LatestTake}
use Rattle.curp_log.specs.declared.taken.LatestTake.TheVariants.{Never, Newest, Copied}
use Rattle.curp_log.proofs.Grows.{is_log_more}

-- ---- what the last package taken is no matter to

pub untaken_after : (s : LogState) (k : ℕ) (e : Entry) → untaken (after_entry (untaken s) k e) ≡ untaken (after_entry s k e)
unfolding after_entry
untaken_after s k (Op r acknowledged) = refl
untaken_after s k (Take migration p) = refl
untaken_after s k (Give migration p) = refl
untaken_after s k (Expire client) = refl

pub untaken_fits : (s : LogState) (e : Entry) → fits_at (untaken s) e ≡ fits_at s e
untaken_fits s (Op r acknowledged) = refl
untaken_fits s (Take migration p) = refl
untaken_fits s (Give migration p) = refl
untaken_fits s (Expire client) = refl

-- ---- answers

answers_push : (es : List Entry) (s : LogState) (k : ℕ) (e : Entry) → answers_in s k (es ++ e ∷ []) ≡ answers_in s k es ++ answer_of (after_entries s k es).store (Some e) ∷ []
answers_push [] s k e = refl
answers_push (x ∷ es) s k e = ap (λ (xs : List (Option Answer)). answer_of s.store (Some x) ∷ xs) (answers_push es (after_entry s k x) (k + 1) e)

-- an answer that may be none, of a place that may be none
abbrev pub flat : Option (Option Answer) → Option Answer
flat None = None
flat (Some a) = a

flat_at : (es : List Entry) (s : LogState) (k j : ℕ) → flat (slice_get (answers_in s k es) j) ≡ answer_of (after_entries s k (take j es)).store (slice_get es j)
flat_at [] s k j = refl
flat_at (x ∷ es) s k zero = refl
flat_at (x ∷ es) s k (suc j) = flat_at es (after_entry s k x) (k + 1) j

pub answer_kept : (lo hi : ℕ) (log : List Entry) (answered : List (Option Answer)) (index : ℕ) → answered ≡ answers_in (log_opening lo hi) 0 log → flat (slice_get answered index) ≡ answer_at lo hi log index
answer_kept lo hi log answered index e = ap (λ (xs : List (Option Answer)). flat (slice_get xs index)) e ∙ flat_at log (log_opening lo hi) 0 index

-- ---- the last package

get_push : {A : Type 0} (xs : List A) (x : A) (k : ℕ) → k < length xs → slice_get (xs ++ x ∷ []) k ≡ slice_get xs k
get_push [] x k l = absurd (omega arith)
get_push (y ∷ xs) x zero l = refl
get_push (y ∷ xs) x (suc k) l = get_push xs x k (omega arith)

last_push : (log : List Entry) (e : Entry) (count : ℕ) (taken : LatestTake) → IsNewest count log taken → take_told (log ++ e ∷ []) taken ≡ take_told log taken
last_push log e count Never w = refl
last_push log e count (Newest index) w = ap (take_of index) (get_push log e index w.1)
last_push log e count (Copied index migration p) w = refl

taken_more : (log : List Entry) (e : Entry) (count : ℕ) (taken : LatestTake) (s : LogState) → IsNewest count log taken → take_told log taken ≡ s.taken
    → take_told (log ++ e ∷ []) (take_after taken (length log) e) ≡ (after_entry s (length log) e).taken
unfolding after_entry
taken_more log (Op r acknowledged) count taken s w is = last_push log (Op r acknowledged) count taken w ∙ is
taken_more log (Take migration p) count taken s w is = ap (take_of (length log)) (at_push log (Take migration p) (length log) refl)
taken_more log (Give migration p) count taken s w is = last_push log (Give migration p) count taken w ∙ is
taken_more log (Expire client) count taken s w is = last_push log (Expire client) count taken w ∙ is

later : (log : List Entry) (e : Entry) (count : ℕ) (taken : LatestTake) → length (log ++ e ∷ []) ≡ length log + 1 → IsNewest count log taken → IsNewest count (log ++ e ∷ []) taken
later log e count Never size w = tt
later log e count (Newest index) size w = (w.0, omega (arith, w.1, size))
later log e count (Copied index migration p) size w = tt

newest_more : (log : List Entry) (e : Entry) (count : ℕ) (taken : LatestTake) → count ≤ length log → length (log ++ e ∷ []) ≡ length log + 1 → IsNewest count log taken
    → IsNewest count (log ++ e ∷ []) (take_after taken (length log) e)
newest_more log (Op r acknowledged) count taken some size w = later log (Op r acknowledged) count taken size w
newest_more log (Take migration p) count taken some size w = (some, omega (arith, size))
newest_more log (Give migration p) count taken some size w = later log (Give migration p) count taken size w
newest_more log (Expire client) count taken some size w = later log (Expire client) count taken size w

pub pushed_length : (log : List Entry) (e : Entry) → length (log ++ e ∷ []) ≡ length log + 1
pushed_length [] e = refl
pushed_length (x ∷ log) e = omega (arith, pushed_length log e)

-- the same log, told otherwise
pub kept_as : (lo hi : ℕ) (xs ys : List Entry) (n m : ℕ) (answered others : List (Option Answer)) (state : State) (t u : LatestTake) → xs ≡ ys → n ≡ m → answered ≡ others → t ≡ u
    → IsKeptLog lo hi ys m others state u → IsKeptLog lo hi xs n answered state t
kept_as lo hi xs ys n m answered others state t u a b d e is = rw (a, b, d, e) is

-- ---- an entry more

pub kept_more : (lo hi : ℕ) (log : List Entry) (count : ℕ) (answered : List (Option Answer)) (state after : State) (taken : LatestTake) (e : Entry) → IsKeptLog lo hi log count answered state taken
    → count ≤ length log
    → length (log ++ e ∷ []) ≡ length log + 1
    → fits_at (meaning lo hi log) e ≡ true
    → meant_by after ≡ untaken (after_entry (meant_by state) (length log) e)
    → IsKeptLog lo hi (log ++ e ∷ []) count (answered ++ answer_of state.store.map (Some e) ∷ []) after (take_after taken (length log) e)
kept_more lo hi log count answered state after taken e is some size fits means =
    let grown : meaning lo hi (log ++ e ∷ []) ≡ after_entry (meaning lo hi log) (length log) e = meaning_append lo hi log (e ∷ []) in
    record {
      ordered = is.ordered;
      is_log = is_log_more lo hi log e ∙ and_from _ _ is.is_log fits;
      answers =
          (λ i. is.answers i ++ answer_of (ap (λ (s : LogState). s.store) is.means i) (Some e) ∷ [])
          ∙ sym (answers_push log (log_opening lo hi) 0 e);
      means =
          means
          ∙ ap (λ (s : LogState). untaken (after_entry s (length log) e)) is.means
          ∙ untaken_after (meaning lo hi log) (length log) e
          ∙ sym (ap untaken grown);
      last = taken_more log e count taken (meaning lo hi log) is.newest is.last ∙ sym (ap (λ (s : LogState). s.taken) grown);
      newest = newest_more log e count taken some size is.newest;
    }

-- ---- what a Take that fits carries

pub take_fits : (s : LogState) (migration : ℕ) (p : Package) → fits_at s (Take migration p) ≡ true
    → (is_covered s.owned p.lo p.hi ≡ true) × (p.pairs ≡ filter (is_pair_in p.lo p.hi) (map.entries s.store))
take_fits s migration p fits =
    let parts = and_parts (is_covered s.owned p.lo p.hi) _ fits in
    (parts.0, ap (λ (q : Package). q.pairs) ((package_eq-Decides p (package_of s p.lo p.hi p.ordered)).0 parts.1))
