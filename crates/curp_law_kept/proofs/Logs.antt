-- Logs as they grow: what fits at each place, and what stays known.
use Rattle.std.proofs.Common.{◌≡◌, ◌≤◌, ◌<◌, ◌&&◌, ℕ, zero, suc, ◌+◌, Bool, true, false, List, [], ◌∷◌, ◌++◌, length, take, drop, refl, ap, sym, ◌∙◌, subst, arith}
use Rattle.std.proofs.lemmas.Bool.{and_parts, and_from}
use Rattle.std.proofs.lemmas.List.{take-append-drop, take-append-le}
use Rattle.curp_base.specs.Words.{At, IsPrefix}
use Rattle.curp_base.proofs.Lists.{drop_at, take_one}
use Rattle.curp_cmd.specs.declared.command.Request.{Request}
use Rattle.curp_cmd.specs.declared.command.RequestId.{RequestId}
use Rattle.curp_cmd.specs.declared.entry.Entry.{Entry}
use Rattle.curp_cmd.specs.declared.entry.Entry.TheVariants.{Op, Give}
use Rattle.curp_cmd.specs.declared.migration.Package.{Package}
use Rattle.curp_cmd.specs.declared.migration.TablePart.{TablePart}
use Rattle.curp_model.specs.declared.Check.{Check}
use Rattle.curp_model.specs.declared.Check.TheVariants.{Expired, Stale, Known, New}
use Rattle.curp_model.specs.Log.{LogState, IsLog, log_opening, after_entry, after_entries, meaning, all_fit, fits_at, is_new}
use Rattle.curp_model.specs.Ranges.{owns_all}
use Rattle.curp_cmd.specs.Hash.{hashes}
use Rattle.curp_model.specs.Table.{check, packed}
use Rattle.curp_model.proofs.Logs.{meaning_append, new_by_test, op_not_new, seen_entries}
use Rattle.curp_law_kept.specs.Hashes.{NotNew}
use Rattle.curp_law_kept.specs.Standing.{Carries}
use Rattle.curp_law_kept.proofs.Tables.{Seen, merge_known, packed_carries, seen_from, seen_old}

-- ---- beginnings

pub take_grows : {A : Type 0} {xs ys : List A} (n : ℕ) → IsPrefix xs ys → n ≤ length xs → take n ys ≡ take n xs
take_grows {xs = xs} n p l = ap (take n) (sym p.is) ∙ take-append-le n xs p.rest l

-- the first so many begin the list
pub prefix_take : {A : Type 0} (n : ℕ) (xs : List A) → IsPrefix (take n xs) xs
prefix_take n xs = record { rest = drop n xs; is = take-append-drop n xs }

pub prefix_takes : {A : Type 0} (m n : ℕ) (xs : List A) → m ≤ n → IsPrefix (take m xs) (take n xs)
prefix_takes zero n xs l = record { rest = take n xs; is = refl }
prefix_takes (suc m) zero xs l = absurd (omega arith)
prefix_takes (suc m) (suc n) [] l = record { rest = []; is = refl }
prefix_takes (suc m) (suc n) (x ∷ xs) l = let p = prefix_takes m n xs (omega arith) in record { rest = p.rest; is = ap (λ w. x ∷ w) p.is }

-- ---- what fits

pub fit_parts : (xs ys : List Entry) (s : LogState) (k n : ℕ) → n ≡ k + length xs → all_fit s k (xs ++ ys) ≡ (all_fit s k xs && all_fit (after_entries s k xs) n ys)
fit_parts [] ys s k n e = let same : k ≡ n = omega arith in ap (λ (m : ℕ). all_fit s m ys) same
fit_parts (x ∷ xs) ys s k n e =
    ap (λ (b : Bool). fits_at s x && b) (fit_parts xs ys (after_entry s k x) (k + 1) n (omega arith)) ∙ regroup (fits_at s x) (all_fit (after_entry s k x) (k + 1) xs) _
  where
    regroup : (a b c : Bool) → (a && (b && c)) ≡ ((a && b) && c)
    regroup true b c = refl
    regroup false b c = refl

log_parts : (lo hi : ℕ) (xs ys : List Entry) → IsLog lo hi (xs ++ ys) → IsLog lo hi xs × (all_fit (meaning lo hi xs) (length xs) ys ≡ true)
log_parts lo hi xs ys fits =
    let p = and_parts (all_fit (log_opening lo hi) 0 xs) _ (sym (fit_parts xs ys (log_opening lo hi) 0 (length xs) (omega arith)) ∙ fits) in (p.0, p.1)

-- a log's beginning is a log
pub prefix_of_log : (lo hi : ℕ) (xs ys : List Entry) → IsLog lo hi (xs ++ ys) → IsLog lo hi xs
prefix_of_log lo hi xs ys fits = (log_parts lo hi xs ys fits).0

-- the rest fits behind it
pub log_back : (lo hi : ℕ) (xs ys : List Entry) → IsLog lo hi (xs ++ ys) → all_fit (meaning lo hi xs) (length xs) ys ≡ true
log_back lo hi xs ys fits = (log_parts lo hi xs ys fits).1

-- and so is each list that it begins with
pub log_prefix : (lo hi : ℕ) (xs ys : List Entry) → IsPrefix xs ys → IsLog lo hi ys → IsLog lo hi xs
log_prefix lo hi xs ys p fits = prefix_of_log lo hi xs p.rest (subst (IsLog lo hi) (sym p.is) fits)

-- and what fits behind a log makes a longer one
pub log_more : (lo hi : ℕ) (xs ys : List Entry) → IsLog lo hi xs → all_fit (meaning lo hi xs) (length xs) ys ≡ true → IsLog lo hi (xs ++ ys)
log_more lo hi xs ys fits more = fit_parts xs ys (log_opening lo hi) 0 (length xs) (omega arith) ∙ and_from _ _ fits more

-- one entry more
pub log_push : (lo hi : ℕ) (xs : List Entry) (e : Entry) → IsLog lo hi xs → fits_at (meaning lo hi xs) e ≡ true → IsLog lo hi (xs ++ e ∷ [])
log_push lo hi xs e fits here = log_more lo hi xs (e ∷ []) fits (and_from _ _ here refl)

-- each entry fits at its place
pub fits_place : (lo hi : ℕ) (log : List Entry) (i : ℕ) (e : Entry) → IsLog lo hi log → At log i e → fits_at (meaning lo hi (take i log)) e ≡ true
fits_place lo hi log i e fits at =
    let is : take i log ++ e ∷ drop (i + 1) log ≡ log = ap (λ w. take i log ++ w) (sym (drop_at log i e at)) ∙ take-append-drop i log in
    (and_parts (fits_at (meaning lo hi (take i log)) e) _ (log_back lo hi (take i log) (e ∷ drop (i + 1) log) (subst (IsLog lo hi) (sym is) fits))).0

-- an op is new at its place, and its hashes are owned
pub op_new : (lo hi : ℕ) (log : List Entry) (i : ℕ) (r : Request) (acknowledged : ℕ) → IsLog lo hi log → At log i (Op r acknowledged) → check (meaning lo hi (take i log)).table r.id ≡ New
op_new lo hi log i r acknowledged fits at = new_by_test _ (and_parts (is_new (check (meaning lo hi (take i log)).table r.id)) _ (fits_place lo hi log i (Op r acknowledged) fits at)).0

-- its hashes are owned
pub op_owned : (lo hi : ℕ) (log : List Entry) (i : ℕ) (r : Request) (acknowledged : ℕ) → IsLog lo hi log → At log i (Op r acknowledged) → owns_all (meaning lo hi (take i log)).owned (hashes r.command) ≡ true
op_owned lo hi log i r acknowledged fits at = (and_parts (is_new (check (meaning lo hi (take i log)).table r.id)) _ (fits_place lo hi log i (Op r acknowledged) fits at)).1

-- ---- what isn't new stays so

pub known_mono : (lo hi : ℕ) (xs ys : List Entry) (id : RequestId) → IsPrefix xs ys → NotNew lo hi xs id → NotNew lo hi ys id
known_mono lo hi xs ys id p old =
    let seen : Seen (after_entries (meaning lo hi xs) (length xs) p.rest).table id = seen_entries id p.rest (meaning lo hi xs) (length xs) (seen_from (meaning lo hi xs).table id old) in
    let whole : after_entries (meaning lo hi xs) (length xs) p.rest ≡ meaning lo hi ys = sym (meaning_append lo hi xs p.rest) ∙ ap (meaning lo hi) p.is in
    seen_old (meaning lo hi ys).table id (subst (λ (s : LogState). Seen s.table id) whole seen)

-- the same along one log
pub known_mono_take : (lo hi i j : ℕ) (log : List Entry) (id : RequestId) → i ≤ j → NotNew lo hi (take i log) id → NotNew lo hi (take j log) id
known_mono_take lo hi i j log id l old = known_mono lo hi (take i log) (take j log) id (prefix_takes i j log l) old

-- what is new was new before
pub new_before : (lo hi : ℕ) (xs ys : List Entry) (id : RequestId) → IsPrefix xs ys → check (meaning lo hi ys).table id ≡ New → check (meaning lo hi xs).table id ≡ New
new_before lo hi xs ys id p new = by_cases (check (meaning lo hi xs).table id) refl
  where
    by_cases : (c : Check) → check (meaning lo hi xs).table id ≡ c → c ≡ New
    by_cases New e = refl
    by_cases (Known a index) e = absurd (known_mono lo hi xs ys id p (λ n. cc (e, n)) new)
    by_cases (Stale first) e = absurd (known_mono lo hi xs ys id p (λ n. cc (e, n)) new)
    by_cases Expired e = absurd (known_mono lo hi xs ys id p (λ n. cc (e, n)) new)

-- an op isn't new behind its place
pub op_old : (lo hi : ℕ) (log : List Entry) (i n : ℕ) (r : Request) (acknowledged : ℕ) → At log i (Op r acknowledged) → i < n → NotNew lo hi (take n log) r.id
op_old lo hi log i n r acknowledged at l = op_not_new lo hi (take n log) i r acknowledged (at_take_below log n i (Op r acknowledged) l at)
  where
    at_take_below : (xs : List Entry) (n k : ℕ) (x : Entry) → k < n → At xs k x → At (take n xs) k x
    at_take_below xs zero k x l at = absurd (omega arith)
    at_take_below [] (suc n) k x l at = absurd cc
    at_take_below (y ∷ xs) (suc n) zero x l at = at
    at_take_below (y ∷ xs) (suc n) (suc k) x l at = at_take_below xs n k x (omega arith) at

given_new : (s : LogState) (k migration : ℕ) (p : Package) (id : RequestId) → Carries p.table id → check (after_entry s k (Give migration p)).table id ≡ New → ⊥
unfolding after_entry
given_new s k migration p id carries = merge_known s.table p.table k id carries

-- what a give carries isn't new behind it
pub give_old : (lo hi : ℕ) (log : List Entry) (i n migration : ℕ) (p : Package) (id : RequestId) → At log i (Give migration p) → i < n → Carries p.table id → NotNew lo hi (take n log) id
give_old lo hi log i n migration p id at l carries =
    known_mono_take lo hi (i + 1) n log id (omega arith) (λ new. here (subst (λ (s : LogState). check s.table id ≡ New) next new))
  where
    next : meaning lo hi (take (i + 1) log) ≡ after_entry (meaning lo hi (take i log)) (length (take i log)) (Give migration p)
    next = ap (meaning lo hi) (take_one log i (Give migration p) at) ∙ meaning_append lo hi (take i log) (Give migration p ∷ [])

    here : check (after_entry (meaning lo hi (take i log)) (length (take i log)) (Give migration p)).table id ≡ New → ⊥
    here new = given_new (meaning lo hi (take i log)) (length (take i log)) migration p id carries new

-- and what a log knew isn't new behind a give of its table
pub packed_known : (lo hi : ℕ) (before : List Entry) (id : RequestId) → NotNew lo hi before id → (l h : ℕ) (log : List Entry) (number : ℕ) (k : Package) → k.table ≡ packed (meaning lo hi before).table
    → NotNew l h (log ++ Give number k ∷ []) id
packed_known lo hi before id old l h log number k same new =
    given_new (meaning l h log) (length log) number k id (subst (λ (part : TablePart). Carries part id) (sym same) (packed_carries (meaning lo hi before).table id old))
    (ap (λ (s : LogState). check s.table id) (sym (meaning_append l h log (Give number k ∷ []))) ∙ new)
