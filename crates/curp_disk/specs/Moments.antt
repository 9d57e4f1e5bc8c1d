-- The laws of a disk that is a list of calls.
use Rattle.std.specs.Prelude.{◌≡◌, ℕ, ◌+◌, ◌-◌, ◌≤◌, min, List, [], ◌∷◌, ◌++◌, length, take, drop, refl}
use Rattle.std.proofs.Common.{sym, ◌∙◌, ap, subst, arith, append_assoc, length-append, length-drop}
use Rattle.std.proofs.lemmas.List.{length-take-le, take_at, drop_at, take_all}
use Rattle.curp_disk.specs.Disk.{Torn, over}
use Rattle.curp_disk.specs.Calls.{Played, seen_after, seen_through, LeftAfter, LeftThrough, LeftNow, LeftSince, seen_of}
use Rattle.curp_disk.specs.declared.medium.Call.{Call}
use Rattle.curp_disk.specs.declared.medium.Call.TheVariants.{Write, Sync}

pub length-over : (old : List ℕ) (at : ℕ) (bytes : List ℕ) → at ≤ length old → length (over old at bytes) ≡ at + length bytes + (length old - (at + length bytes))
length-over old at bytes le =
    omega (arith, length-append (take at old ++ bytes) (drop (at + length bytes) old), length-append (take at old) bytes, length-take-le at old le, length-drop (at + length bytes) old)

-- a write that was done is one of the outcomes of a torn one
pub torn_over : (old : List ℕ) (at : ℕ) (bytes : List ℕ) → at ≤ length old → Torn at (length bytes) old (over old at bytes)
torn_over old at bytes le =
    let prefix : length (take at old) ≡ at = length-take-le at old le in
    let both : length (take at old ++ bytes) ≡ at + length bytes = omega (arith, prefix, length-append (take at old) bytes) in
    record {
      before = ap (λ (l : List ℕ). take at l) (append_assoc (take at old) bytes (drop (at + length bytes) old)) ∙ take_at (take at old) (bytes ++ drop (at + length bytes) old) at prefix;
      after = drop_at (take at old ++ bytes) (drop (at + length bytes) old) (at + length bytes) both;
      no_shorter = omega (arith, length-over old at bytes le);
      no_longer = omega (arith, length-over old at bytes le);
    }

left_seen : (calls : List Call) (seen : List ℕ) (P : List ℕ → Type 0) → P seen → LeftThrough seen P calls (seen_through seen calls)
left_seen [] seen P p = p
left_seen (Write at bytes ∷ calls) seen P p = left_seen calls (seen_after seen (Write at bytes)) (LeftAfter seen P (Write at bytes)) (seen, p, torn_over seen (min at (length seen)) bytes (omega arith))
left_seen (Sync ∷ calls) seen P p = left_seen calls seen (LeftAfter seen P Sync) refl

-- what it reads as may be left
pub reads_now : (p : Played) → LeftNow p (seen_of p)
reads_now p = left_seen p.calls p.first (λ d. d ≡ p.first) refl

-- this moment is one of those since an earlier one
pub counts_now : (p : Played) (t : ℕ) (c : List ℕ) → t ≤ length p.calls → LeftNow p c → LeftSince p t c
counts_now p t c le left = (length p.calls, le, omega arith, subst (λ (l : List Call). LeftThrough p.first (λ d. d ≡ p.first) l c) (sym (take_all (length p.calls) p.calls (omega arith))) left)

-- since this moment there is no other
pub only_now : (p : Played) (c : List ℕ) → LeftSince p (length p.calls) c → LeftNow p c
only_now p c since =
    let whole : take since.0 p.calls ≡ p.calls = take_all since.0 p.calls (omega (arith, since.1)) in
    subst (λ (l : List Call). LeftThrough p.first (λ d. d ≡ p.first) l c) whole since.3
