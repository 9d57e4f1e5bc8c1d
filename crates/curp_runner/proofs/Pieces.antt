-- A text that is written piece by piece.
use Rattle.std.proofs.Common.{◌≡◌, List, ℕ, [], ◌++◌, Result, Ok, Err, OnOk, refl, ap, sym, ◌∙◌, subst, append_assoc, append-nil}
use Rattle.curp_io.specs.Streams.{HoldsPart}
use Rattle.curp_runner.proofs.SoFar.{SoFar}

-- nothing is written
pub nothing : (old piece : List ℕ) → HoldsPart old old piece
nothing old piece = record { part = []; prefix = record { rest = piece; is = refl }; added = sym (append-nil old) }

-- of two pieces a prefix of the first is written
pub first_of_two : (old new first second : List ℕ) → HoldsPart old new first → HoldsPart old new (first ++ second)
first_of_two old new first second h = record {
  part = h.part;
  prefix = record {
    rest = h.prefix.rest ++ second;
    is = sym (append_assoc h.part h.prefix.rest second) ∙ ap (λ w. w ++ second) h.prefix.is;
  };
  added = h.added;
}

-- the first is written, and a prefix of the second
pub second_of_two : (old mid new first second : List ℕ) → mid ≡ old ++ first → HoldsPart mid new second → HoldsPart old new (first ++ second)
second_of_two old mid new first second whole h = record {
  part = first ++ h.part;
  prefix = record { rest = h.prefix.rest; is = append_assoc first h.part h.prefix.rest ∙ ap (λ w. first ++ w) h.prefix.is };
  added = h.added ∙ ap (λ w. w ++ h.part) whole ∙ append_assoc old first h.part;
}

-- both are written
pub both_of_two : (old mid new first second : List ℕ) → mid ≡ old ++ first → new ≡ mid ++ second → new ≡ old ++ (first ++ second)
both_of_two old mid new first second whole more = more ∙ ap (λ w. w ++ second) whole ∙ append_assoc old first second

-- both are written, where the second one was
pub both_if_ok : {A E : Type 0} (outcome : Result A E) (old mid new first second : List ℕ)
    → mid ≡ old ++ first → OnOk outcome (new ≡ mid ++ second) → OnOk outcome (new ≡ old ++ (first ++ second))
both_if_ok (Ok _) old mid new first second whole more = both_of_two old mid new first second whole more
both_if_ok (Err _) old mid new first second whole more = tt

-- a prefix of the next piece is written
pub still_prefix : (text old now new piece rest : List ℕ) → SoFar text old now (piece ++ rest) → HoldsPart now new piece → HoldsPart old new text
still_prefix text old now new piece rest s h =
    subst (λ t. HoldsPart old new t) s.goes_on (second_of_two old now new s.done (piece ++ rest) s.is (first_of_two now new piece rest h))

-- the next piece is written
pub goes_further : (text old now new piece rest : List ℕ) → SoFar text old now (piece ++ rest) → new ≡ now ++ piece → SoFar text old new rest
goes_further text old now new piece rest s more = record {
  done = s.done ++ piece;
  is = both_of_two old now new s.done piece s.is more;
  goes_on = append_assoc s.done piece rest ∙ s.goes_on;
}

-- nothing is due any more
pub is_whole : (text old now due : List ℕ) → SoFar text old now due → due ≡ [] → now ≡ old ++ text
is_whole text old now due s none =
    s.is ∙ ap (λ w. old ++ w) (sym (append-nil s.done) ∙ ap (λ w. s.done ++ w) (sym none) ∙ s.goes_on)

-- what was written so far is a prefix
pub written_part : (text old now due : List ℕ) → SoFar text old now due → HoldsPart old now text
written_part text old now due s = record { part = s.done; prefix = record { rest = due; is = s.goes_on }; added = s.is }

-- what is held stays
pub written_so_far : (text old before now due : List ℕ) → now ≡ before → SoFar text old before due → SoFar text old now due
written_so_far text old before now due same s = record { done = s.done; is = same ∙ s.is; goes_on = s.goes_on }
