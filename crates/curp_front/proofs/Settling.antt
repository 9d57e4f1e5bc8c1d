-- The first that was given is settled where it stands.
use Rattle.std.proofs.Common.{◌≡◌, true, false, List, [], ◌∷◌, Some, None, refl, ap, ◌∙◌}
use Rattle.std.specs.Prelude.{option_map, if◌then◌else◌}
use Rattle.curp_front.specs.Conversation.{is_given, settled_due}
use Rattle.curp_front.specs.Finding.{Found, found_behind, found_by, in_place}
use Rattle.curp_front.specs.declared.due.DueReply.{DueReply}

pub settled_found : (new : DueReply) (dues : List DueReply) (found : Found DueReply) → found_by is_given dues ≡ Some found → settled_due new dues ≡ in_place (new ∷ []) found
settled_found new [] found e = absurd cc
settled_found new (d ∷ rest) found e =
    elim (is_given d) as (λ b. (if b then Some (record { before = []; it = d; behind = rest }) else option_map (found_behind d) (found_by is_given rest)) ≡ Some found
    → (if b then new ∷ rest else d ∷ settled_due new rest) ≡ in_place (new ∷ []) found) [
      | true ↦ λ here.
          let same : record { before = []; it = d; behind = rest } ≡ found = cc in
          ap (in_place (new ∷ [])) same
      | false ↦ λ later.
          elim (found_by is_given rest) as (λ o. found_by is_given rest ≡ o → option_map (found_behind d) o ≡ Some found → d ∷ settled_due new rest ≡ in_place (new ∷ []) found) [
            | None ↦ λ none h. absurd cc
            | Some it ↦ λ is h.
                let same : found_behind d it ≡ found = cc in
                ap (λ w. d ∷ w) (settled_found new rest it is) ∙ ap (in_place (new ∷ [])) same
          ] refl later
    ] e

pub settled_none : (new : DueReply) (dues : List DueReply) → found_by is_given dues ≡ None → settled_due new dues ≡ dues
settled_none new [] e = refl
settled_none new (d ∷ rest) e =
    elim (is_given d) as (λ b. (if b then Some (record { before = []; it = d; behind = rest }) else option_map (found_behind d) (found_by is_given rest)) ≡ None
    → (if b then new ∷ rest else d ∷ settled_due new rest) ≡ d ∷ rest) [
      | true ↦ λ here. absurd cc
      | false ↦ λ later.
          elim (found_by is_given rest) as (λ o. found_by is_given rest ≡ o → option_map (found_behind d) o ≡ None → d ∷ settled_due new rest ≡ d ∷ rest) [
            | None ↦ λ none h. ap (λ w. d ∷ w) (settled_none new rest none)
            | Some it ↦ λ is h. absurd cc
          ] refl later
    ] e
