-- What a tail keeps, as entries are added and forgotten.
use Rattle.std.proofs.Common.{◌≡◌, ℕ, zero, suc, ◌+◌, ◌-◌, ◌<◌, ◌≤◌, ◌||◌, inl, inr, Bool, true, false, nat_le, nat_lt, List, [], ◌∷◌, ◌++◌, length, get_or, take, drop, refl, ap, sym, ◌∙◌, append_assoc, subst, length-take-le, arith}
use Rattle.std.specs.List.{filter, list_any}
use Rattle.std.specs.List.Sorted.{IsPartitionedBy, IsPartitionPoint}
use Rattle.std.proofs.lemmas.Bool.{cases_lt}
use Rattle.std.proofs.lemmas.Bool.Decides.{nat_tests}
use Rattle.std.proofs.lemmas.Option.{slice_get-get_or}
use Rattle.std.proofs.Math.Seq.{drop-length}
use Rattle.std.proofs.Math.ListN.{drop_of_length-le}
use Rattle.std.proofs.lemmas.List.{append-nil, drop-append-le, drop-drop, length-drop, take_more}
use Rattle.std.proofs.lemmas.List.Quantifiers.{all_pairs_push}
use Rattle.curp_base.proofs.Lists.{Each-append, Each-at, Each-weaker}
use Rattle.curp_base.specs.Words.{Each}
use Rattle.curp_cmd.specs.declared.entry.Entry.{Entry}
use Rattle.curp_cmd.specs.declared.entry.Entry.TheVariants.{Op, Take, Give, Expire}
use Rattle.curp_model.specs.Log.{entry_touches}
use Rattle.curp_model.proofs.Clashes.{any_none, any_or}
use Rattle.curp_tail.specs.declared.tail.TailEntry.{TailEntry}
use Rattle.curp_tail.specs.Tail.{IndexesRise, is_dirty, tail_from, tail_of, touched_of, touches}

-- what is kept of lists put together
tail_appended : (index : ℕ) (xs ys : List Entry) → tail_from index (xs ++ ys) ≡ tail_from index xs ++ tail_from (index + length xs) ys
tail_appended index [] ys = let here : index + 0 ≡ index = omega arith in rw here refl
tail_appended index (x ∷ xs) ys =
    let there : index + length (x ∷ xs) ≡ (index + 1) + length xs = omega arith in
    rw there (ap (λ tail. record { index = index; touched = touched_of x } ∷ tail) (tail_appended (index + 1) xs ys))

-- as many are kept as there are entries
pub tail_length : (index : ℕ) (entries : List Entry) → length (tail_from index entries) ≡ length entries
tail_length index [] = refl
tail_length index (e ∷ es) = ap suc (tail_length (index + 1) es)

-- one more entry is added
pub added_more : (old tail : List TailEntry) (index : ℕ) (entries : List Entry) (at : ℕ) (e : Entry) → at < length entries → e ≡ get_or entries at e → tail ≡ old ++ tail_from index (take at entries)
    → tail ++ record { index = index + at; touched = touched_of e } ∷ [] ≡ old ++ tail_from index (take (at + 1) entries)
added_more old tail index entries at e below is so_far =
    let more : take (at + 1) entries ≡ take at entries ++ e ∷ [] = take_more entries at e below ∙ ap (λ x. take at entries ++ x ∷ []) (sym is) in
    let taken : length (take at entries) ≡ at = length-take-le at entries (omega arith) in
    rw (more, tail_appended, taken, so_far) (append_assoc old (tail_from index (take at entries)) (record { index = index + at; touched = touched_of e } ∷ []))

abbrev Below : ℕ → TailEntry → Type 0
Below n e = e.index < n

below_next : (tail : List TailEntry) (e : TailEntry) (index : ℕ) → e.index ≡ index → Each (Below index) tail → Each (Below (index + 1)) (tail ++ e ∷ [])
below_next tail e index here below =
    Each-append (Below (index + 1)) tail (e ∷ []) (Each-weaker (Below index) (Below (index + 1)) (λ d l. omega arith) tail below) (omega arith, tt)

-- added behind entries that all stand below them, they rise
pub rise_added : (tail : List TailEntry) (index : ℕ) (entries : List Entry) → IndexesRise tail → Each (Below index) tail → IndexesRise (tail ++ tail_from index entries)
rise_added tail index [] rise below = rw append-nil rise
rise_added tail index (e ∷ es) rise below =
    let last : TailEntry = record { index = index; touched = touched_of e } in
    let first : IndexesRise (tail ++ last ∷ []) =
    all_pairs_push (λ (d : TailEntry) (e : TailEntry). d.index < e.index) tail last rise
    (λ k d l. Each-at (Below index) tail below k (get_or tail k d) (slice_get-get_or tail k d l)) in
    let all : IndexesRise ((tail ++ last ∷ []) ++ tail_from (index + 1) es) = rise_added (tail ++ last ∷ []) (index + 1) es first (below_next tail last index refl below) in
    subst IndexesRise (append_assoc tail (last ∷ []) (tail_from (index + 1) es)) all

abbrev pub is_below : ℕ → TailEntry → Bool
is_below length entry = nat_lt entry.index length

-- those below a length stand in front
pub parted : (tail : List TailEntry) (length : ℕ) → IndexesRise tail → IsPartitionedBy (is_below length) tail
parted xs n rise i j d le within below = elim (cases_lt i j) [
  | inl l ↦ let apart = rise i j d l within in grind (arith, nat_tests)
  | inr l ↦ let same : i ≡ j = omega arith in rw same below
]

-- so the others are what stands from there on
pub not_below : (tail : List TailEntry) (n at : ℕ) → IsPartitionPoint (λ (e : TailEntry). is_below n e ≡ true) (λ (e : TailEntry). is_below n e ≡ false) tail at
    → drop at tail ≡ filter (λ (e : TailEntry). nat_le n e.index) tail
not_below [] n zero point = refl
not_below [] n (suc at) point = refl
not_below (x ∷ xs) n zero point =
    let e : is_below n x ≡ false = point.1 0 x (omega arith) (omega arith) in
    let test : nat_le n x.index ≡ true = grind (arith, nat_tests) in
    rw test (ap (λ ys. x ∷ ys) (not_below xs n zero (λ k d l m. absurd (omega arith), λ k d l m. point.1 (suc k) d (omega arith) (omega arith))))
not_below (x ∷ xs) n (suc at) point =
    let e : is_below n x ≡ true = point.0 0 x (omega arith) (omega arith) in
    let test : nat_le n x.index ≡ false = grind (arith, nat_tests) in
    rw test (not_below xs n at (λ k d l m. point.0 (suc k) d (omega arith) (omega arith), λ k d l m. point.1 (suc k) d (omega arith) (omega arith)))

-- ---- a log's tail

pub empty_tail : (log : List Entry) → tail_of log (length log) ≡ []
empty_tail log = rw drop-length refl

below_from : (index n : ℕ) (entries : List Entry) → index + length entries ≡ n → Each (Below n) (tail_from index entries)
below_from index n [] whole = tt
below_from index n (e ∷ es) whole = (omega arith, below_from (index + 1) n es (omega arith))

pub tail_below : (log : List Entry) (synced : ℕ) → Each (Below (length log)) (tail_of log synced)
tail_below log synced = elim (cases_lt synced (length log)) [
  | inl l ↦ below_from synced (length log) (drop synced log) (let left : length (drop synced log) ≡ length log - synced = length-drop synced log in omega arith)
  | inr m ↦ rw (drop_of_length-le log m) tt
]

pub tail_added : (log entries : List Entry) (synced : ℕ) → synced ≤ length log → tail_of log synced ++ tail_from (length log) entries ≡ tail_of (log ++ entries) synced
tail_added log entries synced within =
    let left : length (drop synced log) ≡ length log - synced = length-drop synced log in
    let end : synced + length (drop synced log) ≡ length log = omega arith in
    rw (drop-append-le synced log entries within, tail_appended synced (drop synced log) entries, end) refl

none_forgotten : (next index : ℕ) (entries : List Entry) → next ≤ index → filter (λ (e : TailEntry). nat_le next e.index) (tail_from index entries) ≡ tail_from index entries
none_forgotten next index [] past = refl
none_forgotten next index (e ∷ es) past =
    let test : nat_le next index ≡ true = grind (arith, nat_tests) in
    rw test (ap (λ tail. record { index = index; touched = touched_of e } ∷ tail) (none_forgotten next (index + 1) es (omega arith)))

forgotten_from : (count next index : ℕ) (entries : List Entry) → index + count ≡ next → filter (λ (e : TailEntry). nat_le next e.index) (tail_from index entries) ≡ tail_from next (drop count entries)
forgotten_from zero next index entries whole = let here : next ≡ index = omega arith in none_forgotten next index entries (omega arith) ∙ ap (λ i. tail_from i entries) (sym here)
forgotten_from (suc count) next index [] whole = refl
forgotten_from (suc count) next index (e ∷ es) whole =
    let test : nat_le next index ≡ false = grind (arith, nat_tests) in
    rw test (forgotten_from count next (index + 1) es (omega arith))

pub tail_forgotten : (log : List Entry) (synced next : ℕ) → synced ≤ next → filter (λ (e : TailEntry). nat_le next e.index) (tail_of log synced) ≡ tail_of log next
tail_forgotten log synced next on =
    let whole : synced + (next - synced) ≡ next = omega arith in
    forgotten_from (next - synced) next synced (drop synced log) whole ∙ ap (tail_from next) (drop-drop (next - synced) synced log ∙ ap (λ n. drop n log) whole)

-- ---- what it tells

pub touches_alike : (e : Entry) (hash : ℕ) → touches (touched_of e) hash ≡ entry_touches e hash
touches_alike (Op r acknowledged) hash = refl
touches_alike (Take migration taken) hash = refl
touches_alike (Give migration given) hash = refl
touches_alike (Expire client) hash = refl

pub dirty_from : (index : ℕ) (entries : List Entry) (hash : ℕ) → is_dirty (tail_from index entries) hash ≡ list_any (λ e. entry_touches e hash) entries
dirty_from index [] hash = refl
dirty_from index (e ∷ es) hash = λ i. touches_alike e hash i || dirty_from (index + 1) es hash i

pub covers_from : (index : ℕ) (entries : List Entry) (asked : List ℕ) → list_any (is_dirty (tail_from index entries)) asked ≡ list_any (λ e. list_any (entry_touches e) asked) entries
covers_from index [] asked = any_none asked
covers_from index (e ∷ es) asked =
    any_or (touches (touched_of e)) (is_dirty (tail_from (index + 1) es)) asked
    ∙ λ i. list_any (λ h. touches_alike e h i) asked || covers_from (index + 1) es asked i
