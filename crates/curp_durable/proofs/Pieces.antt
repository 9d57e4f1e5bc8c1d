-- What a batch leads to.
use Rattle.std.specs.Prelude.{◌≡◌, ℕ, ◌+◌, ◌<◌, ◌≤◌, ◌^◌, ◌==◌, true, false, List, [], ◌∷◌, ◌++◌, length, refl}
use Rattle.std.proofs.Common.{inl, inr, sym, ◌∙◌, ap, subst, arith, length-append}
use Rattle.std.proofs.lemmas.Bool.{eqb-true}
use Rattle.curp_batches.specs.Arrivals.{arrival}
use Rattle.curp_batches.specs.Batches.{IsEncoding, batch_of}
use Rattle.curp_base.specs.Words.{Each}
use Rattle.curp_journal.specs.declared.arrived.Arrived.{Arrived}
use Rattle.curp_msg.specs.Moved.{Moved}
use Rattle.curp_msg.specs.Input.{Input}
use Rattle.curp_durable.specs.Answering.{Decides, HaveNoEncoding, IsPiece, IsRecord, end_of, record_of}
use Rattle.curp_durable.specs.Journal.{HasEncoding, behind_length, framed}
use Rattle.curp_durable.specs.Standing.{Standing, answers_of, made_inputs, taken}
use Rattle.curp_durable.specs.declared.stand.Answered.{Answered}
use Rattle.curp_durable.proofs.Parsing.{length-framed}
use Rattle.curp_durable.proofs.Standings.{all_taken, made_taken, none_there}

pub record-length : (b : List Arrived) → length (record_of b) ≡ 5 + length (batch_of b)
record-length b = omega (arith, length-append (framed b) (0 ∷ []), length-framed b)

pub too_long : (b : List Arrived) (bytes : List ℕ) → IsEncoding b bytes → 2 ^ 32 ≤ length bytes → HaveNoEncoding b
too_long b bytes s long = inr (omega (arith, long, ap length s.is))

pub none_of_one : (b : List Arrived) → (Each arrival.Fits b → ⊥) → HaveNoEncoding b
none_of_one b none = inl none

pub encoded : (b : List Arrived) (bytes : List ℕ) → IsEncoding b bytes → length bytes < 2 ^ 32 → HasEncoding b
encoded b bytes s short = record { fits = s.fits; short = omega (arith, short, ap length s.is) }

-- a record for which there is room
pub record_is : (commit size_limit : ℕ) (b : List Arrived) (bytes piece : List ℕ) → IsEncoding b bytes → length bytes < 2 ^ 32 → commit + 6 + length bytes ≤ size_limit → piece ≡ behind_length bytes ++ 0 ∷ [] → IsRecord commit size_limit b piece
record_is commit size_limit b bytes piece s short room is =
    let whole : piece ≡ record_of b = is ∙ ap (λ (l : List ℕ). behind_length l ++ 0 ∷ []) s.is in
    let long = ap length s.is in
    (encoded b bytes s short, whole, omega (arith, room, ap length whole, record-length b, long))

pub full : (commit size_limit : ℕ) (b : List Arrived) (bytes : List ℕ) → IsEncoding b bytes → size_limit < commit + 6 + length bytes → size_limit < end_of commit b
full commit size_limit b bytes s room = omega (arith, room, record-length b, ap length s.is)

module _ {N : Type 0} (machine : N → Input → Moved N) (s : Standing N) (commit size_limit : ℕ) (inputs : List Arrived) (answers : List Answered) (are : answers ≡ answers_of machine s inputs) where
  made_are : made_inputs answers ≡ taken machine s inputs
  made_are = ap made_inputs are ∙ made_taken machine inputs s

  -- none was taken
  pub decides_none : length (made_inputs answers) ≡ 0 → Decides machine s commit size_limit inputs [] answers
  decides_none none = record { answers_are = are; piece_is = inl (none_there (taken machine s inputs) (ap length (sym made_are) ∙ none), refl) }

  pub none_made : taken machine s inputs ≡ [] → length (made_inputs answers) ≡ 0
  none_made none = ap length (made_are ∙ none)

  -- all were
  pub decides_all : (piece : List ℕ) → length (made_inputs answers) ≡ length inputs → IsRecord commit size_limit inputs piece → Decides machine s commit size_limit inputs piece answers
  decides_all piece all is =
      let same : taken machine s inputs ≡ inputs = all_taken machine inputs s (ap length (sym made_are) ∙ all) in
      record { answers_are = are; piece_is = inr (subst (λ (b : List Arrived). IsRecord commit size_limit b piece) (sym same) is) }

  pub decides_some : (piece : List ℕ) → IsRecord commit size_limit (made_inputs answers) piece → Decides machine s commit size_limit inputs piece answers
  decides_some piece is = record { answers_are = are; piece_is = inr (subst (λ (b : List Arrived). IsRecord commit size_limit b piece) made_are is) }

pub true_not : true ≡ false → ⊥
true_not e = absurd cc

-- there is a record
pub piece_there : (commit size_limit : ℕ) (b : List Arrived) (piece : List ℕ) (n : ℕ) → IsPiece commit size_limit b piece → n ≡ length piece → (n == 0) ≡ false → IsRecord commit size_limit b piece
piece_there commit size_limit b piece n (inl none) is e =
    let zero : n ≡ 0 = is ∙ ap length none.1 in
    absurd (true_not (subst (λ (k : ℕ). (k == 0) ≡ false) zero e))
piece_there commit size_limit b piece n (inr some) is e = some

-- there is none
pub piece_none : (commit size_limit : ℕ) (b : List Arrived) (piece : List ℕ) (n : ℕ) → IsPiece commit size_limit b piece → n ≡ length piece → (n == 0) ≡ true → b ≡ []
piece_none commit size_limit b piece n (inl none) is e = none.0
piece_none commit size_limit b piece n (inr some) is e = absurd (omega (arith, eqb-true n 0 e, is, ap length some.1, record-length b))
