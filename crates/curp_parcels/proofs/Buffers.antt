-- Bytes that are read behind others.
use Rattle.std.specs.Prelude.{◌≡◌, ℕ, ◌+◌, ◌≤◌, Bool, true, false, List, ◌++◌, length, take, drop}
use Rattle.std.proofs.Common.{cond, sym, ◌∙◌, ap, arith, append_assoc, length-append}
use Rattle.std.proofs.Math.Seq.{take-add}
use Rattle.std.proofs.lemmas.List.{drop-append-le, length-take-le, take-append-le, take_all}
use Rattle.curp_parcels.specs.Buffer.{Adds, AddsBytes}
use Rattle.curp_parcels.specs.declared.buffer.Filled.{Filled}
use Rattle.curp_parcels.specs.declared.buffer.Filled.TheVariants as filled

-- the bytes from before stand where room was made, if it was
pub kept_prefix : (b : Bool) (old zeros resized : List ℕ) (n : ℕ) → length old ≤ n → resized ≡ cond b (take n old ++ zeros) old → take (length old) resized ≡ old
kept_prefix true old zeros resized n long is =
    ap (take (length old)) (is ∙ ap (λ (l : List ℕ). l ++ zeros) (take_all n old long)) ∙ take-append-le (length old) old zeros (omega arith) ∙ take_all (length old) old (omega arith)
kept_prefix false old zeros resized n long is = ap (take (length old)) is ∙ take_all (length old) old (omega arith)

pub added : (old resized read new : List ℕ) (len count : ℕ) → len ≡ length old → take (length old) resized ≡ old → take len read ≡ take len resized → count ≤ length (drop len read) → new ≡ take (len + count) read → AddsBytes old new count
added old resized read new len count long kept same fits is = record {
  more = take count (drop len read);
  is = is ∙ take-add len count read ∙ ap (λ (l : List ℕ). l ++ take count (drop len read)) (same ∙ ap (λ (n : ℕ). take n resized) long ∙ kept);
  many = length-take-le count (drop len read) fits;
}

pub added_due : (old resized read new left left_now : List ℕ) (len count : ℕ) → len ≡ length old → take (length old) resized ≡ old → take len read ≡ take len resized → new ≡ take (len + count) read → left ≡ take count (drop len read) ++ left_now
    → new ++ left_now ≡ old ++ left
added_due old resized read new left left_now len count long kept same is from =
    ap (λ (l : List ℕ). l ++ left_now) (is ∙ take-add len count read ∙ ap (λ (l : List ℕ). l ++ take count (drop len read)) (same ∙ ap (λ (n : ℕ). take n resized) long ∙ kept))
    ∙ append_assoc old (take count (drop len read)) left_now
    ∙ ap (λ (l : List ℕ). old ++ l) (sym from)

pub adds_length : (old new : List ℕ) (count : ℕ) → AddsBytes old new count → length new ≡ length old + count
adds_length old new count a = omega (arith, ap length a.is, length-append old a.more, a.many)

no_fewer : (answer : Filled) (old new : List ℕ) → Adds old new answer → length old ≤ length new
no_fewer (filled.Bytes count) old new a = omega (arith, adds_length old new count a)
no_fewer filled.Failed old new is = omega (arith, ap length is)
no_fewer filled.NoMemory old new is = omega (arith, ap length is)

-- the same behind those that were passed over
pub due_behind : (answer : Filled) (old new left left_now : List ℕ) (start : ℕ) → start ≤ length old → Adds old new answer → new ++ left_now ≡ old ++ left → drop start new ++ left_now ≡ drop start old ++ left
due_behind answer old new left left_now start within a is =
    sym (drop-append-le start new left_now (omega (arith, within, no_fewer answer old new a))) ∙ ap (drop start) is ∙ drop-append-le start old left within
