-- Lemmas on what is put and taken.
use Rattle.std.proofs.Common.{◌≡◌, ℕ, ◌+◌, ◌-◌, List, ◌++◌, length, take, drop, ap, sym, ◌∙◌, append_assoc}
use Rattle.std.proofs.Math.Seq.{take-add}
use Rattle.std.proofs.lemmas.List.{take_rest, take-append-drop}
use Rattle.curp_io.specs.Streams.{HoldsPart}

-- the next n bytes of a piece, put after its first bytes
pub put_more : (old held new piece : List ℕ) (done n : ℕ) → held ≡ old ++ take done piece → new ≡ held ++ take n (take (length piece - done) (drop done piece)) → new ≡ old ++ take (done + n) piece
put_more old held new piece done n h e =
    e ∙ ap (λ w. held ++ take n w) (take_rest piece done)
    ∙ ap (λ w. w ++ take n (drop done piece)) h
    ∙ append_assoc old (take done piece) (take n (drop done piece))
    ∙ ap (λ w. old ++ w) (sym (take-add done n piece))

pub holds_prefix : (old held new piece : List ℕ) (done : ℕ) → held ≡ old ++ take done piece → new ≡ held → HoldsPart old new piece
holds_prefix old held new piece done h e = record {
  part = take done piece;
  prefix = record { rest = drop done piece; is = take-append-drop done piece };
  added = e ∙ h;
}
