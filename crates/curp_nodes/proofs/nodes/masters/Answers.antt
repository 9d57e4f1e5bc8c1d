use Rattle.std.proofs.Common.{◌≡◌, ◌+◌, ◌∷◌, [], ℕ, length, length-append, map, ap, sym, ◌∙◌, arith}
use Rattle.std.proofs.lemmas.List.{map-append}
use Rattle.curp_base.specs.Words.{numbers_from}
use Rattle.curp_model.specs.Manager.{opening_part}
use Rattle.curp_model.specs.Recovery.{MasterStage}
use Rattle.curp_model.specs.World.{opening_master, shape_of}
use Rattle.curp_msg.specs.Moved.{Node}
use Rattle.curp_msg.specs.declared.config.Config.{Config}
use Rattle.curp_msg.specs.declared.config.PartConfig.{PartConfig}
use Rattle.curp_nodes.specs.Nodes.{begins, states}
use Rattle.curp_nodes.proofs.Numbers.{named_length, named_part, named_push, numbers_push}
use Rattle.curp_nodes.proofs.nodes.masters.Goals as goal

pub master-requires-clause-first : goal.master-requires-clause-first
master-requires-clause-first c =
    let s = shape_of c.args.header.now in
    let same : c.as_slice-part-items.result.now ≡ map (opening_part s) (numbers_from 1 s.parts) = c.as_slice-part-items.ensures ∙ ap (λ (g : Config). g.parts) c.requires in
    let named = named_part (opening_part s) s.parts c.as_slice-part-items.result.now c.loop-part.part-index c.part-item.result same c.loop-part-test.true c.part-item.is in
    omega (arith, ap (λ (p : PartConfig). p.part) named.0)

pub master-requires-clause-last : goal.master-requires-clause-last
master-requires-clause-last c =
    let s = shape_of c.args.header.now in
    let same : c.as_slice-part-items.result.now ≡ map (opening_part s) (numbers_from 1 s.parts) = c.as_slice-part-items.ensures ∙ ap (λ (g : Config). g.parts) c.requires in
    let named = named_part (opening_part s) s.parts c.as_slice-part-items.result.now c.loop-part.part-index c.part-item.result same c.loop-part-test.true c.part-item.is in
    omega (arith, ap (λ (p : PartConfig). p.part) named.0, named.1)

pub loop-part-preserved : goal.loop-part-preserved
loop-part-preserved c =
    let s = shape_of c.args.header.now in
    let k = c.loop-part.part-index in
    let y = c.in_ok-master.field-0 in
    let so_far = c.loop-part.invariant in
    let same : c.as_slice-part-items.result.now ≡ map (opening_part s) (numbers_from 1 s.parts) = c.as_slice-part-items.ensures ∙ ap (λ (g : Config). g.parts) c.requires in
    let named = named_part (opening_part s) s.parts c.as_slice-part-items.result.now k c.part-item.result same c.loop-part-test.true c.part-item.is in
    let state : y.state ≡ opening_master s (k + 1) = c.in_ok-master.ensures.state ∙ ap (begins s.parts) named.0 in
    let number : y.number ≡ length c.loop-part.nodes.items + 1
    = c.in_ok-master.ensures.number ∙ ap (λ (p : PartConfig). p.part) named.0 ∙ ap (λ (n : ℕ). n + 1) (sym so_far.many) in
    rw c.in_ok-push.ensures.items (record {
      states = named_push (opening_master s) k (states c.loop-part.nodes.items) _ y.state (map-append (λ (x : Node MasterStage). x.state) c.loop-part.nodes.items (y ∷ [])) so_far.states state;
      numbers = numbers_push c.loop-part.nodes.items y so_far.numbers number;
      many = omega (arith, length-append c.loop-part.nodes.items (y ∷ []), so_far.many);
    })

pub returns-clause-states : goal.returns-clause-states
returns-clause-states c =
    let s = shape_of c.args.header.now in
    let same : c.as_slice-part-items.result.now ≡ map (opening_part s) (numbers_from 1 s.parts) = c.as_slice-part-items.ensures ∙ ap (λ (g : Config). g.parts) c.requires in
    let long : length c.as_slice-part-items.result.now ≡ s.parts = ap length same ∙ named_length (opening_part s) s.parts in
    let all : c.loop-part.part-index ≡ s.parts = omega (arith, long) in
    c.loop-part.invariant.states ∙ ap (λ (n : ℕ). map (opening_master s) (numbers_from 1 n)) all
