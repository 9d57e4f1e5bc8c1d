use Rattle.std.proofs.Common.{◌≡◌, IfOk, List, map, subst}
use Rattle.std.specs.BTreeMap.{values}
use Rattle.curp_cmd.specs.declared.command.Request.{Request}
use Rattle.curp_model.specs.Witness.{by_least_hash}
use Rattle.curp_slots.specs.Hashed.{request_at, requests_of}
use Rattle.curp_slots.proofs.Sortings.{requests_sorted}
use Rattle.curp_slots.proofs.register.Register.by_least_hash.Goals as goal

pub returns : goal.returns
returns c =
    let sorted : map (request_at c.deref-2.result.now) (values c.in_ok-sorted.sorted) ≡ by_least_hash (requests_of c.args.self.now.held) =
    rw (c.deref-2.ensures.value, c.in_ok-sorted.ensures.sorted, c.deref.ensures.value, c.as_slice.ensures.value, ← c.self.view_is)
    (requests_sorted c.self.inside.kept.items c.self.inside.index.items (rw (← c.self.view_is) at c.requires)) in
    subst (λ (rs : List Request). IfOk c.requests_at.result (λ requests. requests.items ≡ rs)) sorted c.requests_at.ensures
