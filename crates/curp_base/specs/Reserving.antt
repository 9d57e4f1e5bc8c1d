-- A list with reserved room.
use Rattle.std.specs.Prelude.{ℕ, List, length, max, refl}
use Rattle.std.specs.Coded.{Coded, code_by, coded×, coded_list, coded_ℕ}

-- the items, and how many more have room
pub record Reserving (T : Type 0) : Type 0 where
  pub items : List T
  pub spare : ℕ

-- such a list is stored as the pair of both
abbrev pub reserving_code : {T : Type 0} → Coded T → Coded (Reserving T)
reserving_code {T} code =
    code_by (List T × ℕ) (coded× (coded_list code) coded_ℕ) (λ r. (r.items, r.spare)) (λ p. record { items = p.0; spare = p.1 }) (λ _. refl)

-- the most room that is left once room is made: what there was, what was asked for, or as much as the items take
abbrev pub most_spare : {T : Type 0} → Reserving T → ℕ → ℕ
most_spare list asked = max list.spare (max asked (length list.items))
