use Rattle.std.proofs.Common.{◌≡◌, ◌<◌, ◌+◌, ℕ, length, ap, sym, ◌∙◌, refl, arith, rules}
use Rattle.std.proofs.lemmas.List.{length-map}
use Rattle.curp_model.specs.Recovery.{Fresh, MasterStage}
use Rattle.curp_msg.specs.Moved.{Node}
use Rattle.curp_nodes.specs.Nodes.{states}
use Rattle.curp_nodes.proofs.Additions.{fresh_more, grown_none}
use Rattle.curp_nodes.proofs.growing.add_masters.Goals as goal

pub loop-number-init : goal.loop-number-init
loop-number-init c =
    let there : length c.args.masters.now.items + 1 ≡ c.len.result + 1 = search rules in
    let long : length (states c.args.masters.now.items) ≡ length c.args.masters.now.items = length-map c.args.masters.now.items (λ (x : Node MasterStage). x.state) in
    record {
      states = sym (grown_none (states c.args.masters.now.items) Fresh (c.len.result + 1) (sym there ∙ ap (λ (k : ℕ). k + 1) (sym long)));
      numbers = c.requires.numbers;
      there = there;
      below = omega (arith, there, c.requires.there);
      room = refl;
    }

pub loop-number-preserved : goal.loop-number-preserved
loop-number-preserved c =
    let there : length c.args.masters.now.items + 1 ≡ c.len.result + 1 = search rules in
    let long : length (states c.args.masters.now.items) ≡ length c.args.masters.now.items = length-map c.args.masters.now.items (λ (x : Node MasterStage). x.state) in
    let behind : length (states c.args.masters.now.items) < c.loop-number.number = omega (arith, long, there, c.loop-number.auto.number) in
    let more = fresh_more (states c.args.masters.now.items) Fresh c.loop-number.masters.items c.push_reserved.new.self.items c.fresh.result c.loop-number.number
    behind c.loop-number.invariant.states c.loop-number.invariant.numbers c.loop-number.invariant.there c.push_reserved.ensures.items c.fresh.ensures.number c.fresh.ensures.state in
    record {
      states = more.0;
      numbers = more.1;
      there = more.2;
      below = omega (arith, c.loop-number-test.true);
      room = c.push_reserved.ensures.capacity ∙ c.loop-number.invariant.room;
    }
