-- An entry more behind a log.
use Rattle.std.proofs.Common.{◌≡◌, ◌≢◌, ℕ, zero, suc, ◌+◌, ◌&&◌, not, nat_le, nat_lt, Bool, true, false, List, [], ◌∷◌, ◌++◌, length, take, Option, Some, None, refl, ap, sym, ◌∙◌, subst, arith}
use Rattle.std.specs.FinMap.Entries.{find}
use Rattle.std.proofs.lemmas.Bool.{and_parts, not-true}
use Rattle.std.proofs.lemmas.Bool.Decides.{nat_tests}
use Rattle.std.proofs.Math.Bool.{and_assoc}
use Rattle.std.specs.Option.{IsSomeAnd}
use Rattle.std.specs.Bool.{⊤}
use Rattle.curp_base.specs.Words.{At}
use Rattle.curp_cmd.specs.RequestId.{id_cmp}
use Rattle.curp_cmd.specs.declared.command.RequestId.{RequestId}
use Rattle.curp_cmd.specs.declared.entry.Entry.{Entry}
use Rattle.curp_model.specs.declared.Check.TheVariants.{New}
use Rattle.curp_model.specs.Log.{LogState, after_entries, after_entry, all_fit, fits_at, is_log, log_opening, meaning}
use Rattle.curp_model.specs.Table.{Noted, Table, check, first_number, is_gone, known}
use Rattle.curp_model.proofs.Tables.{Has, not_new}
use Rattle.curp_model.proofs.Logs.{meaning_append, seen_entries}

-- ---- it is a log where the entry fits

fit_more : (es : List Entry) (s : LogState) (k : ℕ) (e : Entry) → all_fit s k (es ++ e ∷ []) ≡ (all_fit s k es && fits_at (after_entries s k es) e)
fit_more [] s k e = go (fits_at s e)
  where
    go : (b : Bool) → (b && true) ≡ b
    go true = refl
    go false = refl
fit_more (x ∷ es) s k e = ap (λ (b : Bool). fits_at s x && b) (fit_more es (after_entry s k x) (k + 1) e) ∙ sym (and_assoc (fits_at s x) (all_fit (after_entry s k x) (k + 1) es) (fits_at (after_entries (after_entry s k x) (k + 1) es) e))

pub is_log_more : (lo hi : ℕ) (log : List Entry) (e : Entry) → is_log lo hi (log ++ e ∷ []) ≡ (is_log lo hi log && fits_at (meaning lo hi log) e)
is_log_more lo hi log e = fit_more log (log_opening lo hi) 0 e

-- where one doesn't fit, the list is no log
fit_fails : (es : List Entry) (s : LogState) (k j : ℕ) (e : Entry) → At es j e → fits_at (after_entries s k (take j es)) e ≡ false → all_fit s k es ≡ false
fit_fails [] s k j e h fails = absurd cc
fit_fails (x ∷ es) s k zero e h fails = let same : x ≡ e = cc in let f : fits_at s x ≡ false = cc in rw f refl
fit_fails (x ∷ es) s k (suc j) e h fails = let f = fit_fails es (after_entry s k x) (k + 1) j e h fails in rw f (none (fits_at s x))
  where
    none : (b : Bool) → (b && false) ≡ false
    none true = refl
    none false = refl

pub no_log : (lo hi : ℕ) (log : List Entry) (j : ℕ) (e : Entry) → At log j e → fits_at (meaning lo hi (take j log)) e ≡ false → is_log lo hi log ≡ false
no_log lo hi log = fit_fails log (log_opening lo hi) 0

-- ---- what was seen

seen : (o : Option Noted) → known o ≢ New → IsSomeAnd o (λ n. ⊤)
seen None h = h refl
seen (Some n) h = tt

has_seen : (t : Table) (id : RequestId) → check t id ≢ New → Has t id (λ n. ⊤)
unfolding check
has_seen t id h kept =
    let parts = and_parts (not (is_gone t id.client)) (nat_le (first_number t id.client) id.seq) kept in
    let here : is_gone t id.client ≡ false = not-true _ parts.0 in
    let low : nat_lt id.seq (first_number t id.client) ≡ false = grind (arith, nat_tests) in
    seen (find id_cmp id t.records) (λ e. h (rw (here, low) e))

pub seen_stays : (lo hi : ℕ) (log more : List Entry) (id : RequestId) → check (meaning lo hi log).table id ≢ New → check (meaning lo hi (log ++ more)).table id ≢ New
seen_stays lo hi log more id h =
    subst (λ (s : LogState). check s.table id ≢ New) (sym (meaning_append lo hi log more))
    (not_new _ id (λ n. ⊤) (seen_entries id more (meaning lo hi log) (length log) (has_seen (meaning lo hi log).table id h)))
