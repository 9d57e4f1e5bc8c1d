-- Requests of which no two have one hash: their least hashes are apart.
use Rattle.std.proofs.Common.{◌≡◌, ℕ, zero, suc, ◌+◌, ◌*◌, ◌%◌, ◌==◌, ◌≤◌, Bool, true, false, cond, List, [], ◌∷◌, length, get_or, map, replicate, unwrap_or, Option, Some, None, refl, ap, sym, ◌∙◌, subst, arith}
use Rattle.std.specs.List.{filter, list_any}
use Rattle.std.specs.Option.{option_to_list}
use Rattle.std.proofs.lemmas.Bool.{or_left}
use Rattle.std.proofs.lemmas.Bool.Decides.{nat_tests}
use Rattle.std.proofs.lemmas.List.{length-replicate}
use Rattle.curp_base.specs.Words.{Each, first_of}
use Rattle.curp_cmd.specs.Hash.{hashes, touches}
use Rattle.curp_cmd.specs.declared.command.Request.{Request}
use Rattle.curp_cmd.specs.declared.command.RequestId.{RequestId}
use Rattle.curp_model.specs.Witness.{least_hash}
use Rattle.curp_slots.specs.Hashed.{LeastHashesApart, requests_of}
use Rattle.curp_slots.specs.Holding.{SlotsTell, TakeSlots, chosen_of, ids_with, slots_of}
use Rattle.curp_slots.specs.Register.{Registered}
use Rattle.curp_slots.specs.Slots.{SlotTable, owner}
use Rattle.curp_slots.specs.declared.set.Slot.{Slot}
use Rattle.curp_slots.proofs.Filters.{filter_all}
use Rattle.curp_slots.proofs.Touching.{touches_among}

abbrev pub IsHashed : Request → Type 0
IsHashed r = 1 ≤ length (hashes r.command)

least_touches : (r : Request) → IsHashed r → touches r.command (least_hash r) ≡ true
least_touches r some = touches_among r.command (least_hash r) ∙ go (hashes r.command) some
  where
    self : (n : ℕ) → (n == n) ≡ true
    self n = grind (arith, nat_tests)

    go : (hs : List ℕ) → 1 ≤ length hs → list_any (λ x. x == unwrap_or (first_of hs) 0) hs ≡ true
    go [] some = absurd (omega arith)
    go (h ∷ hs) some = or_left (h == h) (list_any (λ x. x == h) hs) (self h)

-- what no request has is the least hash of none
least_of_none : (h : ℕ) (rs : List Request) → length (ids_with h rs) ≡ 0 → Each IsHashed rs → Each (λ (s : Request). h ≡ least_hash s → ⊥) rs
least_of_none h [] none some = tt
least_of_none h (s ∷ rs) none some = go (touches s.command h) refl none (λ rest. least_of_none h rs rest some.1)
  where
    go : (b : Bool) → touches s.command h ≡ b → length (map (λ r. r.id) (cond b (s ∷ filter (λ r. touches r.command h) rs) (filter (λ r. touches r.command h) rs))) ≡ 0
        → (length (ids_with h rs) ≡ 0 → Each (λ (t : Request). h ≡ least_hash t → ⊥) rs) → (h ≡ least_hash s → ⊥) × Each (λ (t : Request). h ≡ least_hash t → ⊥) rs
    go true has none later = absurd (omega arith)
    go false has none later = (
      (λ same.
          let own : touches s.command h ≡ true = subst (λ (n : ℕ). touches s.command n ≡ true) (sym same) (least_touches s some.0) in
          let wrong : false ≡ true = sym has ∙ own in
          absurd cc),
      later none,
    )

counted : (h : ℕ) (r : Request) (rs : List Request) → touches r.command h ≡ true → length (ids_with h (r ∷ rs)) ≡ length (ids_with h rs) + 1
counted h r rs has = rw has (omega arith)

fewer : (h : ℕ) (r : Request) (rs : List Request) → length (ids_with h rs) ≤ length (ids_with h (r ∷ rs))
fewer h r rs = go (touches r.command h)
  where
    go : (b : Bool) → length (ids_with h rs) ≤ length (map (λ r. r.id) (cond b (r ∷ filter (λ r. touches r.command h) rs) (filter (λ r. touches r.command h) rs)))
    go true = omega arith
    go false = omega arith

one_each : (rs : List Request) → ((h : ℕ) → length (ids_with h rs) ≤ 1) → Each IsHashed rs → LeastHashesApart rs
one_each [] one some = tt
one_each (r ∷ rs) one some =
    let more = counted (least_hash r) r rs (least_touches r some.0) in
    let most = one (least_hash r) in
    (least_of_none (least_hash r) rs (omega (arith, more, most)) some.1, one_each rs (λ h. let all = one h in omega (arith, all, fewer h r rs)) some.1)

-- where all are chosen
pub takes_all : (t : SlotTable) (register : Registered) → SlotsTell t register → TakeSlots t.sets (requests_of register.held)
takes_all t register w =
    subst (λ (rs : List Request). TakeSlots t.sets rs) (filter_all (requests_of register.held))
    (subst (λ (sets : List (List Slot)). TakeSlots sets (chosen_of (λ id. true) (requests_of register.held))) (each_same t.sets) (w.takes (λ id. true)))
  where
    each_same : (sets : List (List Slot)) → map (slots_of (λ id. true)) sets ≡ sets
    each_same [] = refl
    each_same (ss ∷ sets) = λ i. filter_all ss i ∷ each_same sets i

pub least_apart : (t : SlotTable) (register : Registered) → SlotsTell t register → LeastHashesApart (requests_of register.held)
least_apart t register w = one_each (requests_of register.held) (λ h. subst (λ (ids : List RequestId). length ids ≤ 1) (sym ((takes_all t register w).owners h)) (at_most (owner t.sets h))) w.hashed
  where
    at_most : (o : Option RequestId) → length (option_to_list o) ≤ 1
    at_most None = omega arith
    at_most (Some id) = omega arith

none_at : (k : ℕ) → get_or {A = List Slot} [] k [] ≡ []
none_at zero = refl
none_at (suc k) = refl

none_taken : (k n : ℕ) → get_or {A = List Slot} (replicate n []) k [] ≡ []
none_taken k zero = none_at k
none_taken zero (suc n) = refl
none_taken (suc k) (suc n) = none_taken k n

-- nothing takes no slots
pub takes_nothing : (ways sets room : ℕ) → 1 ≤ sets → sets * ways ≤ room → SlotsTell (record { ways = ways; sets = replicate sets [] }) (record { room = room; held = [] })
takes_nothing ways sets room some fits =
    let fresh : List (List Slot) = replicate sets [] in
    let size : length fresh ≡ sets = length-replicate sets [] in
    let empty : (k : ℕ) → get_or fresh k [] ≡ [] = λ k. none_taken k sets in
    record {
      some_sets = omega (arith, size);
      within = λ s l. rw (empty s) (omega arith);
      room = rw size fits;
      ascend = tt;
      takes = λ c. rw (none_there c sets) (record { owners = λ h. rw size (rw (empty (h % sets)) refl); sizes = λ s l. rw (empty s) refl; filled = omega arith });
      hashed = tt;
    }
  where
    none_there : (c : RequestId → Bool) (n : ℕ) → map (slots_of c) (replicate n []) ≡ replicate n []
    none_there c zero = refl
    none_there c (suc n) = ap (λ (sets : List (List Slot)). [] ∷ sets) (none_there c n)
