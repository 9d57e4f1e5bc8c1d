use Rattle.std.proofs.Common.{◌≡◌, ◌<◌, ◌+◌, ◌∙◌, ℕ, List, Ok, length, vec_len, ap, sym, subst, arith, rules}
use Rattle.std.proofs.lemmas.List.{length-map}
use Rattle.std.specs.declared.alloc.AllocError.{AllocError}
use Rattle.curp_cmd.specs.Node.{manager_node}
use Rattle.curp_model.specs.Backup.{BackupState, fresh_backup}
use Rattle.curp_model.specs.Recovery.{Fresh, MasterStage}
use Rattle.curp_model.specs.Witness.{WitnessState, fresh_witness}
use Rattle.curp_model.specs.World.{grown, moves}
use Rattle.curp_msg.specs.Moved.{Moves, Node, within}
use Rattle.curp_msg.specs.Input.{input_of}
use Rattle.curp_nodes.specs.Nodes.{IsAhead, states}
use Rattle.curp_cluster.specs.Nodes.{NodeStates, most_fresh, nodes_of, with_nodes}
use Rattle.curp_cluster.specs.contracts.nodes.Nodes.{the_view}
use Rattle.curp_cluster.proofs.ByKind.{grew, made_grows, manager_gives, none_came}
use Rattle.curp_nodes.proofs.Additions.{taken_up}
use Rattle.curp_cluster.proofs.nodes.Nodes.give_manager.Goals as goal

-- ---- room for those that come

pub add_masters-requires-clause-there : goal.add_masters-requires-clause-there
add_masters-requires-clause-there c =
    let given = input_of c.args.input in
    let g = c.self.inside.manager in
    let k = c.give_one.new.node in
    let grows = made_grows g k given c.in_ok-done.done c.in_ok-done.ensures.moves in
    omega (arith, ap length c.reserve.ensures.items, c.self.invariant.next_master, c.next_master.ensures, grows.master_rises)

pub add_masters-requires-clause-room : goal.add_masters-requires-clause-room
add_masters-requires-clause-room c =
    let given = input_of c.args.input in
    let g = c.self.inside.manager in
    let k = c.give_one.new.node in
    let grows = made_grows g k given c.in_ok-done.done c.in_ok-done.ensures.moves in
    let most : c.most_fresh-most.result.masters ≡ (most_fresh g.shape.f given).masters
    = c.most_fresh-most.ensures.masters ∙ ap (λ (f : ℕ). (most_fresh f given).masters) c.keepers.ensures in
    let long : vec_len c.reserve.new.self ≡ length c.reserve.new.self.items = search rules in
    omega (arith, ap length c.reserve.ensures.items, c.self.invariant.next_master, c.next_master.ensures, grows.master_most, most, long, c.in_ok-reserve.ensures.ok)

pub add_backups-requires-clause-there : goal.add_backups-requires-clause-there
add_backups-requires-clause-there c =
    let given = input_of c.args.input in
    let g = c.self.inside.manager in
    let k = c.give_one.new.node in
    let grows = made_grows g k given c.in_ok-done.done c.in_ok-done.ensures.moves in
    omega (arith, ap length c.reserve-2.ensures.items, c.self.invariant.next_backup, c.next_backup.ensures, grows.backup_rises)

pub add_backups-requires-clause-room : goal.add_backups-requires-clause-room
add_backups-requires-clause-room c =
    let given = input_of c.args.input in
    let g = c.self.inside.manager in
    let k = c.give_one.new.node in
    let grows = made_grows g k given c.in_ok-done.done c.in_ok-done.ensures.moves in
    let most : c.most_fresh-most.result.backups ≡ (most_fresh g.shape.f given).backups
    = c.most_fresh-most.ensures.backups ∙ ap (λ (f : ℕ). (most_fresh f given).backups) c.keepers.ensures in
    let long : vec_len c.reserve-2.new.self ≡ length c.reserve-2.new.self.items = search rules in
    omega (arith, ap length c.reserve-2.ensures.items, c.self.invariant.next_backup, c.next_backup.ensures, grows.backup_most, most, long, c.in_ok-reserve-2.ensures.ok)

pub take_up-requires-clause-there : goal.take_up-requires-clause-there
take_up-requires-clause-there c =
    let given = input_of c.args.input in
    let g = c.self.inside.manager in
    let k = c.give_one.new.node in
    let grows = made_grows g k given c.in_ok-done.done c.in_ok-done.ensures.moves in
    omega (arith, ap length c.reserve-3.ensures.items, c.self.invariant.next_witness, c.next_witness-2.ensures, grows.witness_rises)

pub take_up-requires-clause-room : goal.take_up-requires-clause-room
take_up-requires-clause-room c =
    let given = input_of c.args.input in
    let g = c.self.inside.manager in
    let k = c.give_one.new.node in
    let grows = made_grows g k given c.in_ok-done.done c.in_ok-done.ensures.moves in
    let most : c.most_fresh-most.result.witnesses ≡ (most_fresh g.shape.f given).witnesses
    = c.most_fresh-most.ensures.witnesses ∙ ap (λ (f : ℕ). (most_fresh f given).witnesses) c.keepers.ensures in
    let long : vec_len c.reserve-3.new.self ≡ length c.reserve-3.new.self.items = search rules in
    omega (arith, ap length c.reserve-3.ensures.items, c.self.invariant.next_witness, c.next_witness-2.ensures, grows.witness_most, most, long, c.in_ok-reserve-3.ensures.ok)

pub take_up-requires-clause-made : goal.take_up-requires-clause-made
take_up-requires-clause-made c =
    let given = input_of c.args.input in
    let g = c.self.inside.manager in
    let k = c.give_one.new.node in
    let grows = made_grows g k given c.in_ok-done.done c.in_ok-done.ensures.moves in
    let most : c.most_fresh-most.result.witnesses ≡ (most_fresh g.shape.f given).witnesses
    = c.most_fresh-most.ensures.witnesses ∙ ap (λ (f : ℕ). (most_fresh f given).witnesses) c.keepers.ensures in
    omega (
      arith,
      ap length c.reserve-3.ensures.items,
      c.self.invariant.next_witness,
      c.next_witness.ensures,
      c.next_witness-2.ensures,
      c.next_witness-2.type_inv,
      grows.witness_most,
      most,
      c.in_ok-make_ahead.ensures.made,
      c.min-count.ensures,
    )

-- ---- what has come

pub invariant_of-self-2 : goal.invariant_of-self-2
invariant_of-self-2 c =
    let given = input_of c.args.input in
    let g = c.self.inside.manager in
    let k = c.give_one.new.node in
    let grows = made_grows g k given c.in_ok-done.done c.in_ok-done.ensures.moves in
    let is = subst (λ (xs : List (Node WitnessState)). IsAhead xs c.make_ahead.new.ahead.items c.self.inside.sets c.self.inside.ways) c.deref.ensures.value c.make_ahead.ensures.ahead in
    let behind : length c.reserve-3.new.self.items < c.next_witness-2.result
    = omega (arith, ap length c.reserve-3.ensures.items, c.self.invariant.next_witness, c.next_witness-2.ensures, grows.witness_rises) in
    let taken = taken_up c.reserve-3.new.self.items c.make_ahead.new.ahead.items c.take_up.new.witnesses.items c.take_up.new.ahead.items
    c.self.inside.sets c.self.inside.ways c.next_witness-2.result is c.take_up.ensures.all behind c.take_up.ensures.there in
    record {
      clients_are = c.self.invariant.clients_are;
      masters_are = c.add_masters.ensures.numbers;
      backups_are = c.add_backups.ensures.numbers;
      witnesses_are = taken.1;
      next_master = sym (c.add_masters.ensures.there ∙ c.next_master.ensures);
      next_backup = sym (c.add_backups.ensures.there ∙ c.next_backup.ensures);
      next_witness = sym (c.take_up.ensures.there ∙ c.next_witness-2.ensures);
    }

pub returns-clause-moves : goal.returns-clause-moves
returns-clause-moves c = λ w.
    let given = input_of c.args.input in
    let g = c.self.inside.manager in
    let k = c.give_one.new.node in
    let grows = made_grows g k given c.in_ok-done.done c.in_ok-done.ensures.moves in
    let is = subst (λ (xs : List (Node WitnessState)). IsAhead xs c.make_ahead.new.ahead.items c.self.inside.sets c.self.inside.ways) c.deref.ensures.value c.make_ahead.ensures.ahead in
    let behind : length c.reserve-3.new.self.items < c.next_witness-2.result
    = omega (arith, ap length c.reserve-3.ensures.items, c.self.invariant.next_witness, c.next_witness-2.ensures, grows.witness_rises) in
    let taken = taken_up c.reserve-3.new.self.items c.make_ahead.new.ahead.items c.take_up.new.witnesses.items c.take_up.new.ahead.items
    c.self.inside.sets c.self.inside.ways c.next_witness-2.result is c.take_up.ensures.all behind c.take_up.ensures.there in
    let nodes : NodeStates = the_view c.self.inside in
    let masters : states c.add_masters.new.masters.items ≡ grown nodes.masters Fresh k.next.master
    = c.add_masters.ensures.states ∙ (λ i. grown (states (c.reserve.ensures.items i)) Fresh (c.next_master.ensures i)) in
    let backups : states c.add_backups.new.backups.items ≡ grown nodes.backups fresh_backup k.next.backup
    = c.add_backups.ensures.states ∙ (λ i. grown (states (c.reserve-2.ensures.items i)) fresh_backup (c.next_backup.ensures i)) in
    let witnesses : states c.take_up.new.witnesses.items ≡ grown nodes.witnesses (fresh_witness nodes.sets nodes.ways) k.next.witness
    = taken.0 ∙ (λ i. grown (states (c.reserve-3.ensures.items i)) (fresh_witness nodes.sets nodes.ways) (c.next_witness-2.ensures i)) in
    let came = grew nodes k (states c.add_masters.new.masters.items) (states c.add_backups.new.backups.items) (states c.take_up.new.witnesses.items) masters backups witnesses in
    let after : NodeStates = record {
      clients = nodes.clients;
      manager = k;
      masters = states c.add_masters.new.masters.items;
      backups = states c.add_backups.new.backups.items;
      witnesses = states c.take_up.new.witnesses.items;
      sets = nodes.sets;
      ways = nodes.ways;
    } in
    subst
    (λ (n : NodeStates). Moves {E = AllocError} n after (Ok c.in_ok-done.done) (within nodes_of (moves (with_nodes w n) manager_node given)))
    c.self.view_is
    (manager_gives nodes after w given 0 k c.in_ok-done.done c.in_ok-done.ensures.moves came)

pub returns-clause-refused : goal.returns-clause-refused
returns-clause-refused c = λ refused.
    let given = input_of c.args.input in
    let g = c.self.inside.manager in
    let k = c.give_one.new.node in
    let grows = made_grows g k given c.in_ok-done.done c.in_ok-done.ensures.moves in
    let is = subst (λ (xs : List (Node WitnessState)). IsAhead xs c.make_ahead.new.ahead.items c.self.inside.sets c.self.inside.ways) c.deref.ensures.value c.make_ahead.ensures.ahead in
    let behind : length c.reserve-3.new.self.items < c.next_witness-2.result
    = omega (arith, ap length c.reserve-3.ensures.items, c.self.invariant.next_witness, c.next_witness-2.ensures, grows.witness_rises) in
    let taken = taken_up c.reserve-3.new.self.items c.make_ahead.new.ahead.items c.take_up.new.witnesses.items c.take_up.new.ahead.items
    c.self.inside.sets c.self.inside.ways c.next_witness-2.result is c.take_up.ensures.all behind c.take_up.ensures.there in
    let nodes : NodeStates = the_view c.self.inside in
    let masters : states c.add_masters.new.masters.items ≡ grown nodes.masters Fresh k.next.master
    = c.add_masters.ensures.states ∙ (λ i. grown (states (c.reserve.ensures.items i)) Fresh (c.next_master.ensures i)) in
    let backups : states c.add_backups.new.backups.items ≡ grown nodes.backups fresh_backup k.next.backup
    = c.add_backups.ensures.states ∙ (λ i. grown (states (c.reserve-2.ensures.items i)) fresh_backup (c.next_backup.ensures i)) in
    let witnesses : states c.take_up.new.witnesses.items ≡ grown nodes.witnesses (fresh_witness nodes.sets nodes.ways) k.next.witness
    = taken.0 ∙ (λ i. grown (states (c.reserve-3.ensures.items i)) (fresh_witness nodes.sets nodes.ways) (c.next_witness-2.ensures i)) in
    let came = grew nodes k (states c.add_masters.new.masters.items) (states c.add_backups.new.backups.items) (states c.take_up.new.witnesses.items) masters backups witnesses in
    let next_master : g.next.master ≡ length nodes.masters + 1
    = c.self.invariant.next_master ∙ ap (λ (n : ℕ). n + 1) (sym (length-map c.self.inside.masters.items (λ (x : Node MasterStage). x.state))) in
    let next_backup : g.next.backup ≡ length nodes.backups + 1
    = c.self.invariant.next_backup ∙ ap (λ (n : ℕ). n + 1) (sym (length-map c.self.inside.backups.items (λ (x : Node BackupState). x.state))) in
    let next_witness : g.next.witness ≡ length nodes.witnesses + 1
    = c.self.invariant.next_witness ∙ ap (λ (n : ℕ). n + 1) (sym (length-map c.self.inside.witnesses.items (λ (x : Node WitnessState). x.state))) in
    came ∙ none_came nodes k (c.in_ok-done.ensures.refused refused) next_master next_backup next_witness ∙ c.self.view_is
