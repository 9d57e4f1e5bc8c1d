-- What one more call does to a disk that is a list of calls.
use Rattle.std.specs.Prelude.{◌≡◌, ℕ, ◌+◌, ◌<◌, ◌≤◌, min, List, [], ◌∷◌, ◌++◌, length, take, drop, get_or, refl}
use Rattle.std.proofs.Common.{sym, ◌∙◌, ap, subst, inl, inr, arith, length-append}
use Rattle.std.proofs.lemmas.List.{take_all, take-append-le, take-append-drop, take_more}
use Rattle.std.proofs.lemmas.Bool.{cases_lt}
use Rattle.curp_disk.specs.Disk.{Torn, over, Elapses, CrashesFollow, Narrows, Only}
use Rattle.curp_disk.specs.Calls.{Played, more, seen_after, seen_through, kept_after, kept_through, LeftAfter, LeftThrough, LeftNow, LeftSince, kept_of, seen_of}
use Rattle.curp_disk.specs.Moments.{reads_now, length-over}
use Rattle.curp_disk.specs.declared.medium.Call.{Call}
use Rattle.curp_disk.specs.declared.medium.Call.TheVariants.{Write, Sync}

pub seen_more : (calls : List Call) (seen : List ℕ) (call : Call) → seen_through seen (calls ++ call ∷ []) ≡ seen_after (seen_through seen calls) call
seen_more [] seen call = refl
seen_more (x ∷ calls) seen call = seen_more calls (seen_after seen x) call

pub kept_more : (calls : List Call) (seen kept : List ℕ) (call : Call) → kept_through seen kept (calls ++ call ∷ []) ≡ kept_after (seen_through seen calls) (kept_through seen kept calls) call
kept_more [] seen kept call = refl
kept_more (x ∷ calls) seen kept call = kept_more calls (seen_after seen x) (kept_after seen kept x) call

left_more : (calls : List Call) (seen : List ℕ) (P : List ℕ → Type 0) (call : Call) (c : List ℕ) → LeftThrough seen P (calls ++ call ∷ []) c → LeftAfter (seen_through seen calls) (LeftThrough seen P calls) call c
left_more [] seen P call c left = left
left_more (x ∷ calls) seen P call c left = left_more calls (seen_after seen x) (LeftAfter seen P x) call c left

-- what a crash after these calls may leave
abbrev Left : Played → List Call → List ℕ → Type 0
Left p l c = LeftThrough p.first (λ d. d ≡ p.first) l c

pub elapses_more : (p : Played) (call : Call) → Elapses (length p.calls) (length (p.calls ++ call ∷ [])) (LeftSince p) (LeftSince (more p call)) (LeftNow (more p call))
elapses_more p call =
    let len : length (p.calls ++ call ∷ []) ≡ length p.calls + 1 = length-append p.calls (call ∷ []) in
    record {
      later = omega (arith, len);
      nothing_else = λ t c le since. elim (cases_lt (length p.calls) since.0) [
        | inl past ↦ inr (subst (λ (l : List Call). Left p l c) (take_all since.0 (p.calls ++ call ∷ []) (omega (arith, len, past))) since.3)
        | inr within ↦ inl (since.0, since.1, within, subst (λ (l : List Call). Left p l c) (take-append-le since.0 p.calls (call ∷ []) within) since.3)
      ];
      keeps = λ t c le since. (since.0, since.1, omega (arith, len, since.2), subst (λ (l : List Call). Left p l c) (sym (take-append-le since.0 p.calls (call ∷ []) since.2)) since.3);
    }

pub elapses_same : (p : Played) → Elapses (length p.calls) (length p.calls) (LeftSince p) (LeftSince p) (LeftNow p)
elapses_same p = record { later = omega arith; nothing_else = λ t c le since. inl since; keeps = λ t c le since. since }

-- nothing was done
pub still : (p q : Played) → q ≡ p → Elapses (length p.calls) (length q.calls) (LeftSince p) (LeftSince q) (LeftNow q)
still p q is = subst (λ (r : Played). Elapses (length p.calls) (length r.calls) (LeftSince p) (LeftSince r) (LeftNow r)) (sym is) (elapses_same p)

pub went_on : (p q : Played) (call : Call) → q ≡ more p call → Elapses (length p.calls) (length q.calls) (LeftSince p) (LeftSince q) (LeftNow q)
went_on p q call is = subst (λ (r : Played). Elapses (length p.calls) (length r.calls) (LeftSince p) (LeftSince r) (LeftNow r)) (sym is) (elapses_more p call)

torn_same : (at n : ℕ) (c : List ℕ) → Torn at n c c
torn_same at n c = record { before = refl; after = refl; no_shorter = omega arith; no_longer = omega arith }

pub follows_same : (p q : Played) (at n : ℕ) → q ≡ p → CrashesFollow (Torn at n) (LeftNow p) (LeftNow q)
follows_same p q at n is c left = (c, subst (λ (r : Played). LeftNow r c) is left, torn_same at n c)

pub follows_write : (p q : Played) (at : ℕ) (bytes : List ℕ) → at ≤ length (seen_of p) → q ≡ more p (Write at bytes) → CrashesFollow (Torn at (length bytes)) (LeftNow p) (LeftNow q)
follows_write p q at bytes le is c left =
    let from = left_more p.calls p.first (λ d. d ≡ p.first) (Write at bytes) c (subst (λ (r : Played). LeftNow r c) is left) in
    let place : min at (length (seen_of p)) ≡ at = omega (arith, le) in
    (from.0, from.1, subst (λ (k : ℕ). Torn k (length bytes) from.0 c) place from.2)

pub sees_write : (p q : Played) (at : ℕ) (bytes : List ℕ) → at ≤ length (seen_of p) → q ≡ more p (Write at bytes) → seen_of q ≡ over (seen_of p) at bytes
sees_write p q at bytes le is =
    let place : min at (length (seen_of p)) ≡ at = omega (arith, le) in
    ap seen_of is ∙ seen_more p.calls p.first (Write at bytes) ∙ ap (λ (k : ℕ). over (seen_of p) k bytes) place

pub sees_sync : (p q : Played) → q ≡ more p Sync → seen_of q ≡ seen_of p
sees_sync p q is = ap seen_of is ∙ seen_more p.calls p.first Sync

pub only_synced : (p q : Played) → q ≡ more p Sync → Only (seen_of p) (LeftNow q)
only_synced p q is c left = left_more p.calls p.first (λ d. d ≡ p.first) Sync c (subst (λ (r : Played). LeftNow r c) is left)

pub narrows_same : (p q : Played) → q ≡ p → Narrows (LeftNow p) (LeftNow q)
narrows_same p q is c left = subst (λ (r : Played). LeftNow r c) is left

pub narrows_sync : (p q : Played) → q ≡ more p Sync → Narrows (LeftNow p) (LeftNow q)
narrows_sync p q is c left = subst (LeftNow p) (sym (only_synced p q is c left)) (reads_now p)

-- ---- what a disk in memory keeps of the list

pub written_seen : (first seen seen' : List ℕ) (calls calls' : List Call) (at : ℕ) (bytes copy : List ℕ) → at ≤ length seen → copy ≡ bytes → seen ≡ seen_through first calls → calls' ≡ calls ++ Write at copy ∷ [] → seen' ≡ over seen at bytes → seen' ≡ seen_through first calls'
written_seen first seen seen' calls calls' at bytes copy le same was more now =
    let place : min at (length (seen_through first calls)) ≡ at = omega (arith, le, ap length was) in
    now
    ∙ ap (λ (l : List ℕ). over l at bytes) was
    ∙ ap (λ (k : ℕ). over (seen_through first calls) k bytes) (sym place)
    ∙ ap (λ (l : List ℕ). over (seen_through first calls) (min at (length (seen_through first calls))) l) (sym same)
    ∙ sym (seen_more calls first (Write at copy))
    ∙ ap (seen_through first) (sym more)

pub longer : (old : List ℕ) (at : ℕ) (bytes : List ℕ) → at ≤ length old → length old ≤ length (over old at bytes)
longer old at bytes le = omega (arith, length-over old at bytes le)

pub written_kept : (first : List ℕ) (calls calls' : List Call) (at synced : ℕ) (copy : List ℕ) → synced ≤ length calls → kept_through first first calls ≡ seen_through first (take synced calls) → calls' ≡ calls ++ Write at copy ∷ [] → kept_through first first calls' ≡ seen_through first (take synced calls')
written_kept first calls calls' at synced copy le was more =
    ap (kept_through first first) more ∙ kept_more calls first first (Write at copy) ∙ was
    ∙ ap (seen_through first) (sym (take-append-le synced calls (Write at copy ∷ []) le)) ∙ ap (λ (l : List Call). seen_through first (take synced l)) (sym more)

pub synced_kept : (first : List ℕ) (calls calls' : List Call) (synced : ℕ) → calls' ≡ calls ++ Sync ∷ [] → synced ≡ length calls' → kept_through first first calls' ≡ seen_through first (take synced calls')
synced_kept first calls calls' synced more whole =
    ap (kept_through first first) more ∙ kept_more calls first first Sync ∙ sym (seen_more calls first Sync) ∙ ap (seen_through first) (sym more)
    ∙ ap (seen_through first) (sym (take_all synced calls' (omega (arith, whole))))

-- what calls lead to doesn't shrink
grows : (calls : List Call) (seen : List ℕ) → length seen ≤ length (seen_through seen calls)
grows [] seen = omega arith
grows (Write at bytes ∷ calls) seen =
    omega (arith, longer seen (min at (length seen)) bytes (omega arith), grows calls (over seen (min at (length seen)) bytes))
grows (Sync ∷ calls) seen = grows calls seen

split : (calls more : List Call) (seen : List ℕ) → seen_through seen (calls ++ more) ≡ seen_through (seen_through seen calls) more
split [] more seen = refl
split (x ∷ calls) more seen = split calls more (seen_after seen x)

pub prefix_shorter : (k : ℕ) (calls : List Call) (seen : List ℕ) → length (seen_through seen (take k calls)) ≤ length (seen_through seen calls)
prefix_shorter k calls seen =
    omega (arith, grows (drop k calls) (seen_through seen (take k calls)), ap length (ap (seen_through seen) (sym (take-append-drop k calls)) ∙ split (take k calls) (drop k calls) seen))

pub not_much : (old : List ℕ) (at : ℕ) (bytes : List ℕ) → at ≤ length old → length (over old at bytes) ≤ length old + length bytes
not_much old at bytes le = omega (arith, length-over old at bytes le)

-- one call made again
pub made_more : (calls : List Call) (first x y : List ℕ) (i : ℕ) (call : Call) → i < length calls → call ≡ get_or calls i call → x ≡ seen_through first (take i calls) → y ≡ seen_after x call → y ≡ seen_through first (take (i + 1) calls)
made_more calls first x y i call within is so_far now =
    now ∙ ap (λ (l : List ℕ). seen_after l call) so_far ∙ sym (seen_more (take i calls) first call)
    ∙ ap (λ (k : Call). seen_through first (take i calls ++ k ∷ [])) is ∙ ap (seen_through first) (sym (take_more calls i call within))

pub fits_over : (old : List ℕ) (at : ℕ) (bytes : List ℕ) → min at (length old) + length bytes ≤ length (over old (min at (length old)) bytes)
fits_over old at bytes = omega (arith, length-over old (min at (length old)) bytes (omega arith))

-- ---- what the last sync kept may be left

left_kept : (calls : List Call) (seen kept : List ℕ) (P : List ℕ → Type 0) → P kept → LeftThrough seen P calls (kept_through seen kept calls)
left_kept [] seen kept P p = p
left_kept (Write at bytes ∷ calls) seen kept P p = left_kept calls (seen_after seen (Write at bytes)) kept (LeftAfter seen P (Write at bytes)) (kept, p, torn_same (min at (length seen)) (length bytes) kept)
left_kept (Sync ∷ calls) seen kept P p = left_kept calls seen seen (LeftAfter seen P Sync) refl

pub kept_now : (p : Played) → LeftNow p (kept_of p)
kept_now p = left_kept p.calls p.first p.first (λ d. d ≡ p.first) refl
