-- The manager's journal of a header, before any line.
use Rattle.std.proofs.Common.{◌≡◌, ◌-◌, ◌*◌, ◌<◌, ◌≤◌, ◌^◌, if◌then◌else◌, Bool, true, false, not, ℕ, List, Option, Some, None, [], refl, ap, ◌∙◌, arith}
use Rattle.std.proofs.lemmas.Bool.Decides.{nat_tests}
use Rattle.std.proofs.Math.Nat.{mul-le-mul}
use Rattle.curp_cmd.specs.Node.{manager_node}
use Rattle.curp_cmd.specs.declared.node.NodeId.{NodeId}
use Rattle.curp_disk.specs.InMemory.{StopParts}
use Rattle.curp_durable.specs.Standing.{Standing, begun}
use Rattle.curp_durable.specs.Value.{DurableParts}
use Rattle.curp_manage.specs.Kept.{HasFewNodes, IsManaged, IsOpenedAgain, title_for}
use Rattle.curp_manage.specs.Managed.{Managed, managed_opening}
use Rattle.curp_model.specs.Manager.{ManagerState, opening_manager}
use Rattle.curp_model.specs.World.{shape_of}
use Rattle.curp_msg.specs.declared.script.Header.{Header}
use Rattle.curp_script.specs.Headers.{bad_field, is_within}
use Rattle.curp_script.specs.declared.error.FieldName.{FieldName}
use Rattle.curp_script.specs.declared.error.FieldName.TheVariants as field
use Rattle.curp_title.specs.Title.{title_bytes}

none_behind : (bad : Bool) (name : FieldName) (rest : Option FieldName) → (if bad then Some name else rest) ≡ None → (bad ≡ false) × (rest ≡ None)
none_behind true name rest e = absurd cc
none_behind false name rest e = (refl, e)

at_most : (low high n : ℕ) → not (is_within low high n) ≡ false → n ≤ high
at_most low high n e = grind (arith, nat_tests)

pub few_nodes : (h : Header) → bad_field h ≡ None → HasFewNodes h
few_nodes h none =
    let clients = none_behind _ field.Clients _ none in
    let f = none_behind _ field.F _ clients.1 in
    let parts = none_behind _ field.Parts _ f.1 in
    record { f = at_most 1 5 h.f f.0; parts = at_most 1 16 h.parts parts.0 }

-- there are at most eighty backups, and as many witnesses
pub few_keepers : (h : Header) → HasFewNodes h → h.parts * h.f < 2 ^ 32 - 1
few_keepers h few =
    let most : h.parts * h.f ≤ 16 * 5 = mul-le-mul few.parts few.f in
    omega (arith, most)

pub title_is : (h : Header) (node : NodeId) (title : List ℕ) → title ≡ title_bytes (record { node = node; header = h }) → node ≡ manager_node → title ≡ title_for h
title_is h node title is manager = is ∙ ap (λ (n : NodeId). title_bytes (record { node = n; header = h })) manager

module _ (h : Header) (d : DurableParts ManagerState StopParts) (opened : IsOpenedAgain h d [] 36) where
  stands : d.stand ≡ begun (opening_manager (shape_of h))
  stands = opened.keeps.stand_is

  pub managed_first : HasFewNodes h → IsManaged h d None
  managed_first few = record {
    few = few;
    inputs = [];
    fresh = opened.fresh;
    limit = opened.limit;
    keeps = opened.keeps;
    short = omega (arith, opened.commit_is);
    stamps = omega (arith, ap (λ (s : Standing ManagerState). s.last) stands, ap (λ (s : Standing ManagerState). s.count) stands);
    armed = opened.disarmed;
    at_call = tt;
  }

  pub opens_so : record { state = d.stand.node; decisions = d.stand.count; next = 1; crash = None } ≡ managed_opening h
  opens_so = ap (λ (s : Standing ManagerState). let m : Managed = record { state = s.node; decisions = s.count; next = 1; crash = None } in m) stands
