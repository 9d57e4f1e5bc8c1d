-- What a log has known, as it grows.
use Rattle.std.proofs.Common.{◌≡◌, true, refl, ℕ, zero, suc, ◌+◌, List, [], ◌∷◌, ◌++◌, length, ap, sym, subst, arith}
use Rattle.std.specs.Bool.{⊤}
use Rattle.std.specs.Ordering.{is_eq}
use Rattle.std.proofs.lemmas.Bool.{and_parts}
use Rattle.std.proofs.lemmas.Cmp.{tied_itself}
use Rattle.curp_base.specs.Words.{At}
use Rattle.curp_cmd.specs.declared.command.Answer.{Answer}
use Rattle.curp_cmd.specs.declared.command.Request.{Request}
use Rattle.curp_cmd.specs.declared.command.RequestId.{RequestId}
use Rattle.curp_cmd.specs.declared.entry.Entry.{Entry}
use Rattle.curp_cmd.specs.declared.entry.Entry.TheVariants.{Op, Take, Give, Expire}
use Rattle.curp_cmd.specs.Store.{applied}
use Rattle.curp_model.specs.declared.Check.{Check}
use Rattle.curp_model.specs.declared.Check.TheVariants.{Expired, Stale, Known, New}
use Rattle.curp_model.specs.Laws.{IsStillKnown}
use Rattle.curp_model.specs.Log.{LogState, log_opening, after_entry, after_entries, meaning, all_fit, fits_at, is_new, IsLog}
use Rattle.curp_model.specs.Table.{Noted, check, note}
use Rattle.curp_model.proofs.Tables.{ids_total, Is, Has, another, still_known, not_new, has_from, has_note, has_acknowledge, has_expire, has_merge}

pub after_append : (xs ys : List Entry) (s : LogState) (k n : ℕ) → n ≡ k + length xs → after_entries s k (xs ++ ys) ≡ after_entries (after_entries s k xs) n ys
after_append [] ys s k n e = let same : k ≡ n = omega arith in ap (λ (m : ℕ). after_entries s m ys) same
after_append (x ∷ xs) ys s k n e = after_append xs ys (after_entry s k x) (k + 1) n (omega arith)

fit_append : (xs ys : List Entry) (s : LogState) (k n : ℕ) → n ≡ k + length xs → all_fit s k (xs ++ ys) ≡ true → all_fit (after_entries s k xs) n ys ≡ true
fit_append [] ys s k n e fits = let same : k ≡ n = omega arith in subst (λ (m : ℕ). all_fit s m ys ≡ true) same fits
fit_append (x ∷ xs) ys s k n e fits = fit_append xs ys (after_entry s k x) (k + 1) n (omega arith) (and_parts (fits_at s x) _ fits).1

-- what a log means with entries behind it
pub meaning_append : (lo hi : ℕ) (xs ys : List Entry) → meaning lo hi (xs ++ ys) ≡ after_entries (meaning lo hi xs) (length xs) ys
meaning_append lo hi xs ys = after_append xs ys (log_opening lo hi) 0 (length xs) (omega arith)

-- ---- what is known in a log

pub new_by_test : (c : Check) → is_new c ≡ true → c ≡ New
new_by_test New e = refl
new_by_test (Known a index) e = absurd cc
new_by_test (Stale first) e = absurd cc
new_by_test Expired e = absurd cc

known_entry : (id : RequestId) (P : Noted → Type 0) (s : LogState) (k : ℕ) (e : Entry) → fits_at s e ≡ true → Has s.table id P → Has (after_entry s k e).table id P
unfolding after_entry
known_entry id P s k (Op r acknowledged) fits has =
    let a = (applied s.store r.command).answer in
    has_acknowledge id P (note s.table r.id a k) r.id.client acknowledged
    (has_note id P s.table r.id a k (λ same. absurd (cc (same, another s.table id r.id (not_new s.table id P has) (new_by_test (check s.table r.id) (and_parts (is_new (check s.table r.id)) _ fits).0)))) (λ apart. has))
known_entry id P s k (Take migration taken) fits has = has
known_entry id P s k (Give migration given) fits has = has_merge id P s.table given.table k has
known_entry id P s k (Expire client) fits has = has_expire id P s.table client has

pub known_entries : (id : RequestId) (P : Noted → Type 0) (es : List Entry) (s : LogState) (k : ℕ) → all_fit s k es ≡ true → Has s.table id P → Has (after_entries s k es).table id P
known_entries id P [] s k fits has = has
known_entries id P (e ∷ es) s k fits has = known_entries id P es (after_entry s k e) (k + 1) (and_parts (fits_at s e) _ fits).1 (known_entry id P s k e (and_parts (fits_at s e) _ fits).0 has)

pub known_stays : (lo hi : ℕ) (before after : List Entry) (id : RequestId) (a : Answer) (index : ℕ) → IsLog lo hi (before ++ after)
    → check (meaning lo hi before).table id ≡ Known a index → IsStillKnown a index (check (meaning lo hi (before ++ after)).table id)
known_stays lo hi before after id a index fits is_known =
    let rest : all_fit (meaning lo hi before) (length before) after ≡ true = fit_append before after (log_opening lo hi) 0 (length before) (omega arith) fits in
    let has : Has (meaning lo hi before).table id (Is a index) = has_from (meaning lo hi before).table id a index is_known in
    subst (λ (s : LogState). IsStillKnown a index (check s.table id)) (sym (meaning_append lo hi before after))
    (still_known _ id a index (known_entries id (Is a index) after (meaning lo hi before) (length before) rest has))

-- ---- what stands in a log isn't new behind it, log or not

abbrev Any : Noted → Type 0
Any n = ⊤

seen_entry : (id : RequestId) (s : LogState) (k : ℕ) (e : Entry) → Has s.table id Any → Has (after_entry s k e).table id Any
unfolding after_entry
seen_entry id s k (Op r acknowledged) has =
    let a = (applied s.store r.command).answer in
    has_acknowledge id Any (note s.table r.id a k) r.id.client acknowledged (has_note id Any s.table r.id a k (λ same. tt) (λ apart. has))
seen_entry id s k (Take migration taken) has = has
seen_entry id s k (Give migration given) has = has_merge id Any s.table given.table k has
seen_entry id s k (Expire client) has = has_expire id Any s.table client has

pub seen_entries : (id : RequestId) (es : List Entry) (s : LogState) (k : ℕ) → Has s.table id Any → Has (after_entries s k es).table id Any
seen_entries id [] s k has = has
seen_entries id (e ∷ es) s k has = seen_entries id es (after_entry s k e) (k + 1) (seen_entry id s k e has)

seen_own : (s : LogState) (k : ℕ) (r : Request) (acknowledged : ℕ) → Has (after_entry s k (Op r acknowledged)).table r.id Any
unfolding after_entry
seen_own s k r acknowledged =
    let a = (applied s.store r.command).answer in
    has_acknowledge r.id Any (note s.table r.id a k) r.id.client acknowledged
    (has_note r.id Any s.table r.id a k (λ same. tt) (λ apart. absurd (cc (apart, ap is_eq (tied_itself ids_total r.id)))))

seen_op : (es : List Entry) (s : LogState) (k i : ℕ) (r : Request) (acknowledged : ℕ) → At es i (Op r acknowledged) → Has (after_entries s k es).table r.id Any
seen_op [] s k i r acknowledged h = absurd cc
seen_op (e ∷ es) s k zero r acknowledged h =
    let same : Op r acknowledged ≡ e = cc in
    seen_entries r.id es (after_entry s k e) (k + 1) (subst (λ (x : Entry). Has (after_entry s k x).table r.id Any) same (seen_own s k r acknowledged))
seen_op (e ∷ es) s k (suc i) r acknowledged h = seen_op es (after_entry s k e) (k + 1) i r acknowledged h

pub op_not_new : (lo hi : ℕ) (entries : List Entry) (i : ℕ) (r : Request) (acknowledged : ℕ) → At entries i (Op r acknowledged) → ¬ (check (meaning lo hi entries).table r.id ≡ New)
op_not_new lo hi entries i r acknowledged h = not_new _ r.id Any (seen_op entries (log_opening lo hi) 0 i r acknowledged h)
