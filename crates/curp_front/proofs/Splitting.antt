-- Requests at the front of an input, where more comes behind it, and where one more is taken.
use Rattle.std.proofs.Common.{◌≢◌, ℕ, List, [], ◌∷◌, ◌++◌, length, take, drop, refl, ap, sym, ◌∙◌, subst, arith, append_assoc, take-append-drop}
use Rattle.curp_resp.specs.First.{BeginsWithRequest, IsBroken}
use Rattle.curp_resp.specs.Input.{StandsFirst}
use Rattle.curp_resp.specs.declared.asked.Asked.{Asked}
use Rattle.curp_front.specs.Talk.{Splits}

pub splits_more : (requests : List (List (List ℕ))) (input rest more : List ℕ) → Splits requests input rest → Splits requests (input ++ more) (rest ++ more)
splits_more [] input rest more h = ap (λ w. w ++ more) h
splits_more (arguments ∷ requests) input rest more h = (
  h.0 ++ more,
  record { spelled = h.1.spelled; request = h.1.request; is = sym (append_assoc h.1.spelled h.0 more) ∙ ap (λ w. w ++ more) h.1.is },
  splits_more requests h.0 rest more h.2,
)

pub splits_next : (requests : List (List (List ℕ))) (input rest : List ℕ) (arguments : List (List ℕ)) (behind : List ℕ) → Splits requests input rest → StandsFirst rest arguments behind
    → Splits (requests ++ arguments ∷ []) input behind
splits_next [] input rest arguments behind h first = (behind, subst (λ w. StandsFirst w arguments behind) (sym h) first, refl)
splits_next (its ∷ requests) input rest arguments behind h first = (h.0, h.1, splits_next requests h.0 rest arguments behind h.2 first)

-- a request of so many bytes stands first, and the others behind it
pub stands_first : (bytes : List ℕ) (asked : Asked) (len : ℕ) (h : BeginsWithRequest bytes asked len) → StandsFirst bytes h.arguments (drop len bytes)
stands_first bytes asked len h = record { spelled = take len bytes; request = h.request; is = take-append-drop len bytes }

pub broken_some : (bytes : List ℕ) → IsBroken bytes → bytes ≢ []
broken_some bytes h = λ none. absurd (omega (arith, h.within, ap length none))
