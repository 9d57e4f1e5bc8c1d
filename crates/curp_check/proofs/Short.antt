-- An order has no more requests than its history has events: each was invoked, and none stands twice.
use Rattle.std.proofs.Common.{◌≡◌, ◌≤◌, ◌∙◌, rules, ℕ, zero, suc, List, [], ◌∷◌, length, map, true, false, Some, refl, ap, sym, subst, arith}
use Rattle.std.specs.Cmp.{IsEquivalence}
use Rattle.std.specs.Cmp.Rules.{comparing}
use Rattle.std.specs.List.{AllByRecursion, IsDistinct, list_any}
use Rattle.std.proofs.lemmas.List.{length-map}
use Rattle.std.proofs.lemmas.Map.Made.{length-le_from_is_member}
use Rattle.curp_base.specs.Words.{At}
use Rattle.curp_base.proofs.Numbered.{any_at}
use Rattle.curp_cmd.proofs.Ids.{same_id-self, same_id-true}
use Rattle.curp_cmd.specs.RequestId.{same_id}
use Rattle.curp_cmd.specs.declared.command.RequestId.{RequestId}
use Rattle.curp_order.specs.Order.{IsOrder, Asked}
use Rattle.curp_order.specs.declared.Event.{Event}
use Rattle.curp_order.specs.declared.Event.TheVariants.{Invoke}
use Rattle.curp_check.proofs.Stages.{any_from, apart_test}
use Rattle.curp_check.specs.Stages.{request_of}

ids_alike : IsEquivalence same_id
ids_alike = search (comparing, rules)

ids_of : List Asked → List RequestId
ids_of order = map (λ x. x.0) order

-- none stands twice
Once : List Asked → Type 0
Once order = (j k : ℕ) (x y : Asked) → At order j x → At order k y → x.0 ≡ y.0 → j ≡ k

apart_from : (x : Asked) (order : List Asked) → ((k : ℕ) (y : Asked) → At order k y → x.0 ≡ y.0 → ⊥) → AllByRecursion (λ id. same_id x.0 id ≡ false) (ids_of order)
unfolding ids_of
apart_from x [] none = tt
apart_from x (y ∷ order) none = (apart_test x.0 y.0 (λ e. none 0 y refl (sym e)), apart_from x order (λ k z at. none (suc k) z at))

distinct : (order : List Asked) → Once order → IsDistinct same_id (ids_of order)
unfolding ids_of Once IsDistinct
distinct [] once = tt
distinct (x ∷ order) once = (
  apart_from x order (λ k y at same. let wrong : 0 ≡ suc k = once 0 (suc k) x y refl at same in cc),
  distinct order (λ j k y z at_y at_z same. let next : suc j ≡ suc k = once (suc j) (suc k) y z at_y at_z same in omega (arith, next)),
)

at_ids : (order : List Asked) (k : ℕ) (id : RequestId) → At (ids_of order) k id → (x : Asked) × At order k x × (x.0 ≡ id)
unfolding ids_of
at_ids [] k id at = absurd cc
at_ids (x ∷ order) zero id at = (x, refl, cc)
at_ids (x ∷ order) (suc k) id at = at_ids order k id at

at_requests : (events : List Event) (i : ℕ) (e : Event) → At events i e → At (map request_of events) i (request_of e)
at_requests [] i e at = absurd cc
at_requests (x ∷ events) zero e at = let same : x ≡ e = cc in ap (λ (y : Event). Some (request_of y)) same
at_requests (x ∷ events) (suc i) e at = at_requests events i e at

pub short : (events : List Event) (order : List Asked) → IsOrder events order → length order ≤ length events
unfolding ids_of Once IsDistinct
short events order o =
    let within = length-le_from_is_member ids_alike (ids_of order) (map request_of events) (distinct order o.once) among in
    omega (arith, within, length-map order (λ (x : Asked). x.0), length-map events request_of)
  where
    among : (id : RequestId) → list_any (same_id id) (ids_of order) ≡ true → list_any (same_id id) (map request_of events) ≡ true
    among id is =
        let found = any_at (same_id id) (ids_of order) is in
        let there = at_ids order found.0 found.1 found.2 in
        let invoked = o.invoked found.0 there.0 there.1 in
        let same : there.0.0 ≡ id = there.2 ∙ sym (same_id-true id found.1 found.3) in
        any_from (same_id id) (map request_of events) invoked.0 there.0.0 (at_requests events invoked.0 (Invoke there.0.0 there.0.1) invoked.1)
        (subst (λ (r : RequestId). same_id id r ≡ true) (sym same) (same_id-self id))
