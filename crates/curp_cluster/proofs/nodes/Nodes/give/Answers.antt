use Rattle.std.proofs.Common.{◌≢◌, ◌≤◌, ◌-◌, List, length, refl, ap, sym, ◌∙◌, subst}
use Rattle.std.specs.Vec.{with_items}
use Rattle.curp_cmd.specs.declared.node.NodeKind.TheVariants.{Client, Master, Backup, Witness, Manager}
use Rattle.curp_client.specs.Machine.{client_machine}
use Rattle.curp_nodes.specs.Machines.{backup_machine, master_machine, witness_machine}
use Rattle.curp_model.specs.Backup.{BackupState}
use Rattle.curp_model.specs.Client.{ClientState}
use Rattle.curp_model.specs.Recovery.{MasterStage}
use Rattle.curp_model.specs.Witness.{WitnessState}
use Rattle.curp_msg.specs.Moved.{Node}
use Rattle.curp_msg.specs.Input.{input_of}
use Rattle.curp_cluster.specs.Nodes.{NodeStates}
use Rattle.curp_cluster.specs.contracts.nodes.Nodes.{the_view}
use Rattle.curp_cluster.proofs.Giving.{in_range, vec_moves}
use Rattle.curp_nodes.proofs.Additions.{ahead_numbers}
use Rattle.curp_cluster.proofs.ByKind.{backup_keeps, backups_give, client_keeps, clients_give, few_elsewhere, is_here, master_keeps, masters_few, masters_give, seen_few, seen_moves, witness_keeps, witnesses_give}
use Rattle.curp_cluster.proofs.nodes.Nodes.give.Goals as goal

-- ---- a client

pub give-requires-clause-low : goal.give-requires-clause-low
give-requires-clause-low c = (in_range (λ (x : Node ClientState). x.state) c.self.inside.clients.items c.args.to.number (is_here _ _ _ Client c.self.view_is c.in-Client.is c.requires.there).1).0

pub give-requires-clause-high : goal.give-requires-clause-high
give-requires-clause-high c =
    subst (λ (list : List (Node ClientState)). c.args.to.number ≤ length list) (sym c.deref_mut.ensures.value)
    (in_range (λ (x : Node ClientState). x.state) c.self.inside.clients.items c.args.to.number (is_here _ _ _ Client c.self.view_is c.in-Client.is c.requires.there).1).1

pub invariant_of-self : goal.invariant_of-self
invariant_of-self c =
    let low = (in_range (λ (x : Node ClientState). x.state) c.self.inside.clients.items c.args.to.number (is_here _ _ _ Client c.self.view_is c.in-Client.is c.requires.there).1).0 in
    let made = vec_moves c.self.inside.clients c.deref_mut.result.now c.give.new.nodes (c.args.to.number - 1) c.give.result
    (λ node. client_machine node (input_of c.args.input)) c.deref_mut.ensures.value (c.give.auto.nodes ∙ c.deref_mut.ensures.len) c.give.ensures.moves in
    let after = (with_items c.self.inside.clients c.give.new.nodes).items in
    client_keeps _ c.self.inside.clients.items c.self.inside.masters.items c.self.inside.backups.items c.self.inside.witnesses.items c.self.inside.ahead.items
    c.self.inside.sets c.self.inside.ways c.self.invariant (input_of c.args.input) c.args.to.number c.give.result low after made

pub returns-in-Client-clause-moves : goal.returns-in-Client-clause-moves
returns-in-Client-clause-moves c = λ w.
    let low = (in_range (λ (x : Node ClientState). x.state) c.self.inside.clients.items c.args.to.number (is_here _ _ _ Client c.self.view_is c.in-Client.is c.requires.there).1).0 in
    let made = vec_moves c.self.inside.clients c.deref_mut.result.now c.give.new.nodes (c.args.to.number - 1) c.give.result
    (λ node. client_machine node (input_of c.args.input)) c.deref_mut.ensures.value (c.give.auto.nodes ∙ c.deref_mut.ensures.len) c.give.ensures.moves in
    let after = (with_items c.self.inside.clients c.give.new.nodes).items in
    seen_moves _ _ _ c.args.to Client (input_of c.args.input) c.give.result w c.self.view_is c.in-Client.is
    (clients_give (input_of c.args.input) c.self.inside.clients.items after c.args.to.number c.give.result c.self.invariant.clients_are low made w (the_view c.self.inside))

pub returns-in-Client-clause-few : goal.returns-in-Client-clause-few
returns-in-Client-clause-few c =
    let other : Client ≢ Master = λ same. absurd cc in
    few_elsewhere c.args.to Client _ _ _ c.in-Client.is other

-- ---- a master

pub give-requires-in-Master-clause-low : goal.give-requires-in-Master-clause-low
give-requires-in-Master-clause-low c = (in_range (λ (x : Node MasterStage). x.state) c.self-in-Master.inside.masters.items c.args.to.number (is_here _ _ _ Master c.self-in-Master.view_is c.in-Master.is c.requires.there).1).0

pub give-requires-in-Master-clause-high : goal.give-requires-in-Master-clause-high
give-requires-in-Master-clause-high c =
    subst (λ (list : List (Node MasterStage)). c.args.to.number ≤ length list) (sym c.deref_mut-in-Master.ensures.value)
    (in_range (λ (x : Node MasterStage). x.state) c.self-in-Master.inside.masters.items c.args.to.number (is_here _ _ _ Master c.self-in-Master.view_is c.in-Master.is c.requires.there).1).1

pub invariant_of-self-in-Master : goal.invariant_of-self-in-Master
invariant_of-self-in-Master c =
    let low = (in_range (λ (x : Node MasterStage). x.state) c.self-in-Master.inside.masters.items c.args.to.number (is_here _ _ _ Master c.self-in-Master.view_is c.in-Master.is c.requires.there).1).0 in
    let made = vec_moves c.self-in-Master.inside.masters c.deref_mut-in-Master.result.now c.give-in-Master.new.nodes (c.args.to.number - 1) c.give-in-Master.result
    (λ node. master_machine node (input_of c.args.input)) c.deref_mut-in-Master.ensures.value (c.give-in-Master.auto.nodes ∙ c.deref_mut-in-Master.ensures.len) c.give-in-Master.ensures.moves in
    let after = (with_items c.self-in-Master.inside.masters c.give-in-Master.new.nodes).items in
    master_keeps _ c.self-in-Master.inside.clients.items c.self-in-Master.inside.masters.items c.self-in-Master.inside.backups.items c.self-in-Master.inside.witnesses.items c.self-in-Master.inside.ahead.items
    c.self-in-Master.inside.sets c.self-in-Master.inside.ways c.self-in-Master.invariant (input_of c.args.input) c.args.to.number c.give-in-Master.result low after made

pub returns-in-Master-clause-moves : goal.returns-in-Master-clause-moves
returns-in-Master-clause-moves c = λ w.
    let low = (in_range (λ (x : Node MasterStage). x.state) c.self-in-Master.inside.masters.items c.args.to.number (is_here _ _ _ Master c.self-in-Master.view_is c.in-Master.is c.requires.there).1).0 in
    let made = vec_moves c.self-in-Master.inside.masters c.deref_mut-in-Master.result.now c.give-in-Master.new.nodes (c.args.to.number - 1) c.give-in-Master.result
    (λ node. master_machine node (input_of c.args.input)) c.deref_mut-in-Master.ensures.value (c.give-in-Master.auto.nodes ∙ c.deref_mut-in-Master.ensures.len) c.give-in-Master.ensures.moves in
    let after = (with_items c.self-in-Master.inside.masters c.give-in-Master.new.nodes).items in
    seen_moves _ _ _ c.args.to Master (input_of c.args.input) c.give-in-Master.result w c.self-in-Master.view_is c.in-Master.is
    (masters_give (input_of c.args.input) c.self-in-Master.inside.masters.items after c.args.to.number c.give-in-Master.result c.self-in-Master.invariant.masters_are low made w (the_view c.self-in-Master.inside))

pub returns-in-Master-clause-few : goal.returns-in-Master-clause-few
returns-in-Master-clause-few c =
    let low = (in_range (λ (x : Node MasterStage). x.state) c.self-in-Master.inside.masters.items c.args.to.number (is_here _ _ _ Master c.self-in-Master.view_is c.in-Master.is c.requires.there).1).0 in
    let made = vec_moves c.self-in-Master.inside.masters c.deref_mut-in-Master.result.now c.give-in-Master.new.nodes (c.args.to.number - 1) c.give-in-Master.result
    (λ node. master_machine node (input_of c.args.input)) c.deref_mut-in-Master.ensures.value (c.give-in-Master.auto.nodes ∙ c.deref_mut-in-Master.ensures.len) c.give-in-Master.ensures.moves in
    let after = (with_items c.self-in-Master.inside.masters c.give-in-Master.new.nodes).items in
    seen_few _ _ _ c.args.to Master _ (ap (λ (n : NodeStates). n.masters) c.self-in-Master.view_is) c.in-Master.is
    (masters_few (input_of c.args.input) c.self-in-Master.inside.masters.items after c.args.to.number c.give-in-Master.result c.self-in-Master.invariant.masters_are low made)

-- ---- a backup

pub give-requires-in-Backup-clause-low : goal.give-requires-in-Backup-clause-low
give-requires-in-Backup-clause-low c = (in_range (λ (x : Node BackupState). x.state) c.self-in-Backup.inside.backups.items c.args.to.number (is_here _ _ _ Backup c.self-in-Backup.view_is c.in-Backup.is c.requires.there).1).0

pub give-requires-in-Backup-clause-high : goal.give-requires-in-Backup-clause-high
give-requires-in-Backup-clause-high c =
    subst (λ (list : List (Node BackupState)). c.args.to.number ≤ length list) (sym c.deref_mut-in-Backup.ensures.value)
    (in_range (λ (x : Node BackupState). x.state) c.self-in-Backup.inside.backups.items c.args.to.number (is_here _ _ _ Backup c.self-in-Backup.view_is c.in-Backup.is c.requires.there).1).1

pub invariant_of-self-in-Backup : goal.invariant_of-self-in-Backup
invariant_of-self-in-Backup c =
    let low = (in_range (λ (x : Node BackupState). x.state) c.self-in-Backup.inside.backups.items c.args.to.number (is_here _ _ _ Backup c.self-in-Backup.view_is c.in-Backup.is c.requires.there).1).0 in
    let made = vec_moves c.self-in-Backup.inside.backups c.deref_mut-in-Backup.result.now c.give-in-Backup.new.nodes (c.args.to.number - 1) c.give-in-Backup.result
    (λ node. backup_machine node (input_of c.args.input)) c.deref_mut-in-Backup.ensures.value (c.give-in-Backup.auto.nodes ∙ c.deref_mut-in-Backup.ensures.len) c.give-in-Backup.ensures.moves in
    let after = (with_items c.self-in-Backup.inside.backups c.give-in-Backup.new.nodes).items in
    backup_keeps _ c.self-in-Backup.inside.clients.items c.self-in-Backup.inside.masters.items c.self-in-Backup.inside.backups.items c.self-in-Backup.inside.witnesses.items c.self-in-Backup.inside.ahead.items
    c.self-in-Backup.inside.sets c.self-in-Backup.inside.ways c.self-in-Backup.invariant (input_of c.args.input) c.args.to.number c.give-in-Backup.result low after made

pub returns-in-Backup-clause-moves : goal.returns-in-Backup-clause-moves
returns-in-Backup-clause-moves c = λ w.
    let low = (in_range (λ (x : Node BackupState). x.state) c.self-in-Backup.inside.backups.items c.args.to.number (is_here _ _ _ Backup c.self-in-Backup.view_is c.in-Backup.is c.requires.there).1).0 in
    let made = vec_moves c.self-in-Backup.inside.backups c.deref_mut-in-Backup.result.now c.give-in-Backup.new.nodes (c.args.to.number - 1) c.give-in-Backup.result
    (λ node. backup_machine node (input_of c.args.input)) c.deref_mut-in-Backup.ensures.value (c.give-in-Backup.auto.nodes ∙ c.deref_mut-in-Backup.ensures.len) c.give-in-Backup.ensures.moves in
    let after = (with_items c.self-in-Backup.inside.backups c.give-in-Backup.new.nodes).items in
    seen_moves _ _ _ c.args.to Backup (input_of c.args.input) c.give-in-Backup.result w c.self-in-Backup.view_is c.in-Backup.is
    (backups_give (input_of c.args.input) c.self-in-Backup.inside.backups.items after c.args.to.number c.give-in-Backup.result c.self-in-Backup.invariant.backups_are low made w (the_view c.self-in-Backup.inside))

pub returns-in-Backup-clause-few : goal.returns-in-Backup-clause-few
returns-in-Backup-clause-few c =
    let other : Backup ≢ Master = λ same. absurd cc in
    few_elsewhere c.args.to Backup _ _ _ c.in-Backup.is other

-- ---- a witness

pub give-requires-in-Witness-clause-low : goal.give-requires-in-Witness-clause-low
give-requires-in-Witness-clause-low c = (in_range (λ (x : Node WitnessState). x.state) c.self-in-Witness.inside.witnesses.items c.args.to.number (is_here _ _ _ Witness c.self-in-Witness.view_is c.in-Witness.is c.requires.there).1).0

pub give-requires-in-Witness-clause-high : goal.give-requires-in-Witness-clause-high
give-requires-in-Witness-clause-high c =
    subst (λ (list : List (Node WitnessState)). c.args.to.number ≤ length list) (sym c.deref_mut-in-Witness.ensures.value)
    (in_range (λ (x : Node WitnessState). x.state) c.self-in-Witness.inside.witnesses.items c.args.to.number (is_here _ _ _ Witness c.self-in-Witness.view_is c.in-Witness.is c.requires.there).1).1

pub invariant_of-self-in-Witness : goal.invariant_of-self-in-Witness
invariant_of-self-in-Witness c =
    let low = (in_range (λ (x : Node WitnessState). x.state) c.self-in-Witness.inside.witnesses.items c.args.to.number (is_here _ _ _ Witness c.self-in-Witness.view_is c.in-Witness.is c.requires.there).1).0 in
    let made = vec_moves c.self-in-Witness.inside.witnesses c.deref_mut-in-Witness.result.now c.give-in-Witness.new.nodes (c.args.to.number - 1) c.give-in-Witness.result
    (λ node. witness_machine node (input_of c.args.input)) c.deref_mut-in-Witness.ensures.value (c.give-in-Witness.auto.nodes ∙ c.deref_mut-in-Witness.ensures.len) c.give-in-Witness.ensures.moves in
    let after = (with_items c.self-in-Witness.inside.witnesses c.give-in-Witness.new.nodes).items in
    witness_keeps _ c.self-in-Witness.inside.clients.items c.self-in-Witness.inside.masters.items c.self-in-Witness.inside.backups.items c.self-in-Witness.inside.witnesses.items c.self-in-Witness.inside.ahead.items
    c.self-in-Witness.inside.sets c.self-in-Witness.inside.ways c.self-in-Witness.invariant (input_of c.args.input) c.args.to.number c.give-in-Witness.result low after made

pub returns-in-Witness-clause-moves : goal.returns-in-Witness-clause-moves
returns-in-Witness-clause-moves c = λ w.
    let low = (in_range (λ (x : Node WitnessState). x.state) c.self-in-Witness.inside.witnesses.items c.args.to.number (is_here _ _ _ Witness c.self-in-Witness.view_is c.in-Witness.is c.requires.there).1).0 in
    let made = vec_moves c.self-in-Witness.inside.witnesses c.deref_mut-in-Witness.result.now c.give-in-Witness.new.nodes (c.args.to.number - 1) c.give-in-Witness.result
    (λ node. witness_machine node (input_of c.args.input)) c.deref_mut-in-Witness.ensures.value (c.give-in-Witness.auto.nodes ∙ c.deref_mut-in-Witness.ensures.len) c.give-in-Witness.ensures.moves in
    let after = (with_items c.self-in-Witness.inside.witnesses c.give-in-Witness.new.nodes).items in
    seen_moves _ _ _ c.args.to Witness (input_of c.args.input) c.give-in-Witness.result w c.self-in-Witness.view_is c.in-Witness.is
    (witnesses_give (input_of c.args.input) c.self-in-Witness.inside.witnesses.items after c.args.to.number c.give-in-Witness.result (ahead_numbers c.self-in-Witness.inside.witnesses.items c.self-in-Witness.inside.ahead.items c.self-in-Witness.inside.sets c.self-in-Witness.inside.ways c.self-in-Witness.invariant.witnesses_are) low made w (the_view c.self-in-Witness.inside))

pub returns-in-Witness-clause-few : goal.returns-in-Witness-clause-few
returns-in-Witness-clause-few c =
    let other : Witness ≢ Master = λ same. absurd cc in
    few_elsewhere c.args.to Witness _ _ _ c.in-Witness.is other

-- ---- the manager

pub returns-in-Manager-clause-moves : goal.returns-in-Manager-clause-moves
returns-in-Manager-clause-moves c = λ w.
    seen_moves _ _ _ c.args.to Manager (input_of c.args.input) c.give_manager.result w refl c.in-Manager.is (c.give_manager.ensures.moves w)

pub returns-in-Manager-clause-few : goal.returns-in-Manager-clause-few
returns-in-Manager-clause-few c =
    let other : Manager ≢ Master = λ same. absurd cc in
    few_elsewhere c.args.to Manager _ _ _ c.in-Manager.is other
