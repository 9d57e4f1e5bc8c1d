-- One post of a list changed.
use Rattle.std.proofs.Common.{◌≡◌, ◌<◌, ◌≤◌, ℕ, zero, suc, List, [], ◌∷◌, length, get_or, set, refl, ap, sym, ◌∙◌, arith}
use Rattle.curp_ruled.specs.Posting.{at_place}
use Rattle.curp_ruled.specs.declared.posts.Slot.{Slot}

there : (change : Slot → Slot) (place : ℕ) (slots : List Slot) (slot : Slot) → place < length slots → slot ≡ get_or slots place slot
    → set slots place (change slot) ≡ at_place place change slots
there change place [] slot within is = absurd (omega arith)
there change zero (x ∷ slots) slot within is = ap (λ (s : Slot). change s ∷ slots) is
there change (suc place) (x ∷ slots) slot within is = ap (λ l. x ∷ l) (there change place slots slot (omega arith) is)

past : (change : Slot → Slot) (place : ℕ) (slots : List Slot) → length slots ≤ place → slots ≡ at_place place change slots
past change place [] out = refl
past change zero (x ∷ slots) out = absurd (omega arith)
past change (suc place) (x ∷ slots) out = ap (λ l. x ∷ l) (past change place slots (omega arith))

-- where there is a post
pub changed_there : (change : Slot → Slot) (place at : ℕ) (slots : List Slot) (slot new : Slot) → place ≡ at → place < length slots
    → slot ≡ get_or slots place slot → new ≡ change (get_or slots place slot) → set slots place new ≡ at_place at change slots
changed_there change place at slots slot new same within is new_is =
    ap (set slots place) (new_is ∙ ap change (sym is)) ∙ there change place slots slot within is ∙ ap (λ (n : ℕ). at_place n change slots) same

-- past the end there is none
pub changed_past : (change : Slot → Slot) (place at : ℕ) (slots : List Slot) → place ≡ at → length slots ≤ place → slots ≡ at_place at change slots
changed_past change place at slots same out = past change place slots out ∙ ap (λ (n : ℕ). at_place n change slots) same
