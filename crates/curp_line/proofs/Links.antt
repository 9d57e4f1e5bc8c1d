-- The links of the slots, as marks come, are flagged and are dropped.
use Rattle.std.proofs.Common.{◌≡◌, ℕ, ◌==◌, ◌<◌, inl, inr, if◌then◌else◌, List, [], ◌∷◌, ◌++◌, length, take, map, Option, Some, ap, sym, ◌∙◌, subst, arith}
use Rattle.std.proofs.lemmas.List.{take-append-le, take-map, take_at}
use Rattle.curp_base.proofs.Lists.{at_push_cases, at_within}
use Rattle.std.proofs.lemmas.Bool.Decides.{nat_tests}
use Rattle.curp_cmd.proofs.Ids.{same_id-true}
use Rattle.curp_cmd.specs.RequestId.{same_id}
use Rattle.curp_cmd.specs.declared.command.RequestId.{RequestId}
use Rattle.curp_line.specs.Slots.{IsLinked, RequestsLinked, PartsLinked, is_of_part, is_of_request, last_place}
use Rattle.curp_line.specs.declared.slot.MarkSlot.{MarkSlot}
use Rattle.curp_line.proofs.Places.{IsChain, at_map_back, last_place_map, last_place_push}

-- what becomes of a slot leaves its request, its partition and its links
pub record KeepsLinks (f : MarkSlot → MarkSlot) : Type 0 where
  pub id : (s : MarkSlot) → (f s).mark.id ≡ s.mark.id
  pub part : (s : MarkSlot) → (f s).mark.part ≡ s.mark.part
  pub of_request : (s : MarkSlot) → (f s).earlier_of_request ≡ s.earlier_of_request
  pub of_part : (s : MarkSlot) → (f s).earlier_of_part ≡ s.earlier_of_part

-- ---- slots that change

same_test : (f : MarkSlot → MarkSlot) → KeepsLinks f → (id : RequestId) (s : MarkSlot) → is_of_request id (f s) ≡ is_of_request id s
same_test f keeps id s = ap (λ (i : RequestId). same_id i id) (keeps.id s)

pub last_request_map : (f : MarkSlot → MarkSlot) → KeepsLinks f → (id : RequestId) (slots : List MarkSlot) → last_place (is_of_request id) (map f slots) ≡ last_place (is_of_request id) slots
last_request_map f keeps id slots = last_place_map (is_of_request id) f (same_test f keeps id) slots

pub last_part_map : (f : MarkSlot → MarkSlot) → KeepsLinks f → (part : ℕ) (slots : List MarkSlot) → last_place (is_of_part part) (map f slots) ≡ last_place (is_of_part part) slots
last_part_map f keeps part slots = last_place_map (is_of_part part) f (λ s. ap (λ (n : ℕ). n == part) (keeps.part s)) slots

pub requests_linked_map : (f : MarkSlot → MarkSlot) → KeepsLinks f → (slots : List MarkSlot) → RequestsLinked slots → RequestsLinked (map f slots)
requests_linked_map f keeps slots linked k s h =
    let b = at_map_back f slots k s h in
    let its : s.earlier_of_request ≡ b.0.earlier_of_request = sym (ap (λ (t : MarkSlot). t.earlier_of_request) b.2) ∙ keeps.of_request b.0 in
    let id : b.0.mark.id ≡ s.mark.id = sym (keeps.id b.0) ∙ ap (λ (t : MarkSlot). t.mark.id) b.2 in
    its ∙ linked k b.0 b.1 ∙ ap (λ (i : RequestId). last_place (is_of_request i) (take k slots)) id
    ∙ sym (ap (last_place (is_of_request s.mark.id)) (take-map f k slots) ∙ last_request_map f keeps s.mark.id (take k slots))

pub parts_linked_map : (f : MarkSlot → MarkSlot) → KeepsLinks f → (slots : List MarkSlot) → PartsLinked slots → PartsLinked (map f slots)
parts_linked_map f keeps slots linked k s h =
    let b = at_map_back f slots k s h in
    let its : s.earlier_of_part ≡ b.0.earlier_of_part = sym (ap (λ (t : MarkSlot). t.earlier_of_part) b.2) ∙ keeps.of_part b.0 in
    let part : b.0.mark.part ≡ s.mark.part = sym (keeps.part b.0) ∙ ap (λ (t : MarkSlot). t.mark.part) b.2 in
    its ∙ linked k b.0 b.1 ∙ ap (λ (n : ℕ). last_place (is_of_part n) (take k slots)) part
    ∙ sym (ap (last_place (is_of_part s.mark.part)) (take-map f k slots) ∙ last_part_map f keeps s.mark.part (take k slots))

pub linked_map : (g : RequestId → Option ℕ) (h : ℕ → Option ℕ) (f : MarkSlot → MarkSlot) → KeepsLinks f → (slots : List MarkSlot) → IsLinked g h slots → IsLinked g h (map f slots)
linked_map g h f keeps slots l = record {
  requests = requests_linked_map f keeps slots l.requests;
  parts = parts_linked_map f keeps slots l.parts;
  latest_of_request = λ id. l.latest_of_request id ∙ sym (last_request_map f keeps id slots);
  latest_of_part = λ part. l.latest_of_part part ∙ sym (last_part_map f keeps part slots);
}

-- ---- one slot more

take_push : (slots : List MarkSlot) (s : MarkSlot) (k : ℕ) → k < length slots → take k (slots ++ s ∷ []) ≡ take k slots
take_push slots s k l = take-append-le k slots (s ∷ []) (omega arith)

pub linked_push : (g g' : RequestId → Option ℕ) (h h' : ℕ → Option ℕ) (slots : List MarkSlot) (s : MarkSlot)
    → s.earlier_of_request ≡ g s.mark.id → s.earlier_of_part ≡ h s.mark.part
    → ((id : RequestId) → g' id ≡ (if is_of_request id s then Some (length slots) else g id))
    → ((part : ℕ) → h' part ≡ (if is_of_part part s then Some (length slots) else h part))
    → IsLinked g h slots → IsLinked g' h' (slots ++ s ∷ [])
linked_push g g' h h' slots s of_request of_part later_request later_part l = record {
  requests = λ k t at. elim (at_push_cases slots s k t at) [
    | inl old ↦ rw (take_push slots s k (at_within slots k t old)) (l.requests k t old)
    | inr new ↦ subst (λ (t : MarkSlot). t.earlier_of_request ≡ last_place (is_of_request t.mark.id) (take k (slots ++ s ∷ []))) new.1
        (of_request ∙ l.latest_of_request s.mark.id ∙ sym (ap (last_place (is_of_request s.mark.id)) (take_at slots (s ∷ []) k (sym new.0))))
  ];
  parts = λ k t at. elim (at_push_cases slots s k t at) [
    | inl old ↦ rw (take_push slots s k (at_within slots k t old)) (l.parts k t old)
    | inr new ↦ subst (λ (t : MarkSlot). t.earlier_of_part ≡ last_place (is_of_part t.mark.part) (take k (slots ++ s ∷ []))) new.1
        (of_part ∙ l.latest_of_part s.mark.part ∙ sym (ap (last_place (is_of_part s.mark.part)) (take_at slots (s ∷ []) k (sym new.0))))
  ];
  latest_of_request = λ id. later_request id ∙ ap (λ r. if is_of_request id s then Some (length slots) else r) (l.latest_of_request id) ∙ sym (last_place_push (is_of_request id) slots s);
  latest_of_part = λ part. later_part part ∙ ap (λ r. if is_of_part part s then Some (length slots) else r) (l.latest_of_part part) ∙ sym (last_place_push (is_of_part part) slots s);
}

-- ---- the same last places

pub linked_same : (g g' : RequestId → Option ℕ) (h h' : ℕ → Option ℕ) (slots : List MarkSlot) → ((id : RequestId) → g' id ≡ g id) → ((part : ℕ) → h' part ≡ h part) → IsLinked g h slots → IsLinked g' h' slots
linked_same g g' h h' slots e f l = record {
  requests = l.requests;
  parts = l.parts;
  latest_of_request = λ id. e id ∙ l.latest_of_request id;
  latest_of_part = λ part. f part ∙ l.latest_of_part part;
}

-- ---- chains

pub requests_chain : (id : RequestId) (slots : List MarkSlot) → RequestsLinked slots → IsChain (is_of_request id) (λ (s : MarkSlot). s.earlier_of_request) slots
requests_chain id slots linked k s here passes =
    linked k s here ∙ ap (λ (i : RequestId). last_place (is_of_request i) (take k slots)) (same_id-true s.mark.id id passes)

pub parts_chain : (part : ℕ) (slots : List MarkSlot) → PartsLinked slots → IsChain (is_of_part part) (λ (s : MarkSlot). s.earlier_of_part) slots
parts_chain part slots linked k s here passes =
    let same : s.mark.part ≡ part = grind (arith, nat_tests) in
    linked k s here ∙ ap (λ (n : ℕ). last_place (is_of_part n) (take k slots)) same
