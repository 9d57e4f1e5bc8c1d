-- Slots that are taken, and the room for more.
use Rattle.std.proofs.Common.{◌≡◌, ◌≢◌, ◌⊎◌, inl, inr, ℕ, ◌+◌, ◌%◌, ◌==◌, ◌<◌, ◌≤◌, Bool, true, false, cond, not, List, [], ◌∷◌, ◌++◌, length, get_or, map, replicate, refl, arith}
use Rattle.std.specs.List.{filter}
use Rattle.std.proofs.lemmas.Bool.Decides.{nat_tests}
use Rattle.std.proofs.lemmas.Bool.{cases_eq}
use Rattle.std.proofs.lemmas.List.{get_or-map, length-map, length-replicate, get_or-replicate, get_or-set_same, get_or-set_other}
use Rattle.std.proofs.lemmas.List.Sums.{count_by-le-length, length-filter}
use Rattle.curp_cmd.specs.RequestId.{has_id}
use Rattle.curp_cmd.specs.declared.command.RequestId.{RequestId}
use Rattle.curp_model.specs.Witness.{in_set}
use Rattle.curp_slots.specs.declared.set.Slot.{Slot}
use Rattle.curp_slots.specs.Slots.{IsSlotTable, slots_left, with_slot_in}

pub fresh_table : (ways sets : ℕ) → 1 ≤ sets → sets ≤ 1024 → 1 ≤ ways → ways ≤ 16 → IsSlotTable ways (replicate sets [])
fresh_table ways sets some_sets sets_fit some_ways ways_fit =
    let fresh : List (List Slot) = replicate sets [] in
    let size : length fresh ≡ sets = length-replicate sets [] in
    record {
      some_sets = omega arith;
      sets_fit = omega arith;
      some_ways = some_ways;
      ways_fit = ways_fit;
      within = λ s l. let none : get_or fresh s [] ≡ [] = get_or-replicate sets s [] [] (omega arith) in rw none (omega arith);
    }

-- a hash goes to the set, or to another
pub in_set_cases : (n s h : ℕ) (hs : List ℕ) → ((h % n ≡ s) × (in_set n s (h ∷ hs) ≡ in_set n s hs + 1)) ⊎ ((h % n ≢ s) × (in_set n s (h ∷ hs) ≡ in_set n s hs))
in_set_cases n s h hs = go (h % n == s) refl
  where
    go : (b : Bool) → (h % n == s) ≡ b
        → ((h % n ≡ s) × (length (cond b (h ∷ filter (λ x. x % n == s) hs) (filter (λ x. x % n == s) hs)) ≡ in_set n s hs + 1))
        ⊎ ((h % n ≢ s) × (length (cond b (h ∷ filter (λ x. x % n == s) hs) (filter (λ x. x % n == s) hs)) ≡ in_set n s hs))
    go true e = inl (grind (arith, nat_tests), omega arith)
    go false e = inr (grind (arith, nat_tests), refl)

pub slots_in_set : (sets : List (List Slot)) (k s : ℕ) (slot : Slot) → k < length sets
    → ((k ≡ s) × (get_or (with_slot_in sets k slot) s [] ≡ get_or sets s [] ++ slot ∷ [])) ⊎ ((k ≢ s) × (get_or (with_slot_in sets k slot) s [] ≡ get_or sets s []))
slots_in_set sets k s slot within = elim (cases_eq k s) [
  | inl e ↦ inl (e, rw (← e) (get_or-set_same sets k (get_or sets k [] ++ slot ∷ []) [] within))
  | inr e ↦ inr (e, get_or-set_other sets k s (get_or sets k [] ++ slot ∷ []) [] (omega arith))
]

-- fewer slots are taken after a collection
pub left_in : (listed : List RequestId) (sets : List (List Slot)) (s : ℕ) → s < length sets → length (get_or (map (slots_left listed) sets) s []) ≤ length (get_or sets s [])
left_in listed sets s l =
    let here = get_or-map (slots_left listed) sets s [] [] l in
    let count = length-filter (λ (s : Slot). not (has_id s.id listed)) (get_or sets s []) in
    let most = count_by-le-length (λ (s : Slot). not (has_id s.id listed)) (get_or sets s []) in
    rw here (omega (arith, count, most))

pub table_left : (listed : List RequestId) (ways : ℕ) (sets : List (List Slot)) → IsSlotTable ways sets → IsSlotTable ways (map (slots_left listed) sets)
table_left listed ways sets t =
    let size = length-map sets (slots_left listed) in
    record {
      some_sets = omega (arith, size, t.some_sets);
      sets_fit = omega (arith, size, t.sets_fit);
      some_ways = t.some_ways;
      ways_fit = t.ways_fit;
      within = λ s l. let below : s < length sets = omega (arith, size) in let fewer = left_in listed sets s below in let all = t.within s below in omega (arith, fewer, all);
    }
