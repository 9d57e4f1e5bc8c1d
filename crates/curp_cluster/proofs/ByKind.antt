-- Each kind of node moves in a world as its machine does.
use Rattle.std.proofs.Common.{◌≡◌, ◌≢◌, ℕ, ◌+◌, ◌-◌, ◌≤◌, List, length, slice_set, Option, Some, Bor, Result, Ok, true, arith, refl, ap, sym, ◌∙◌, subst}
use Rattle.std.specs.Option.{option_copied, option_map}
use Rattle.curp_base.specs.Words.{numbered}
use Rattle.std.specs.declared.alloc.AllocError.{AllocError}
use Rattle.curp_cmd.specs.Node.{backup_node, client_node, master_node, witness_node}
use Rattle.curp_cmd.specs.declared.node.NodeId.{NodeId}
use Rattle.curp_cmd.specs.declared.node.NodeKind.{NodeKind}
use Rattle.curp_cmd.specs.declared.node.NodeKind.TheVariants as kind
use Rattle.curp_client.specs.Machine.{client_machine}
use Rattle.curp_config.specs.Machine.{manager_machine}
use Rattle.curp_nodes.specs.Machines.{backup_machine, master_machine, witness_machine}
use Rattle.curp_model.specs.Backup.{BackupState, backup_input, fresh_backup}
use Rattle.curp_model.specs.Client.{ClientState, client_input}
use Rattle.curp_model.specs.Manager.{ManagerState, Next}
use Rattle.curp_model.specs.Recovery.{Fresh, MasterStage, master_input}
use Rattle.curp_model.specs.Witness.{WitnessState, fresh_witness, witness_input}
use Rattle.curp_model.specs.World.{World, grown, has_node, is_there, moves, moves_kind, with_backup, with_client, with_master, with_witness}
use Rattle.curp_msg.specs.Moved.{Moves, MovesAt, Node, numbered_move, within}
use Rattle.curp_msg.specs.declared.machine.Done.{Done}
use Rattle.curp_msg.specs.Input.{Input}
use Rattle.curp_nodes.specs.Nodes.{HasNumbers, states}
use Rattle.curp_line.specs.Due.{IsFewOf, master_at, most_marks}
use Rattle.curp_line.proofs.Pushing.{moves_few}
use Rattle.curp_cluster.specs.Nodes.{AreNumbered, NodeStates, most_fresh, nodes_of, with_nodes}
use Rattle.curp_cluster.proofs.Giving.{many_stay, node_moves, numbers_stay, one_moves, set_there, world_moves}
use Rattle.curp_nodes.proofs.Additions.{ahead_numbers, ahead_stays, grown_none}
use Rattle.curp_cluster.proofs.Grown.{Grows, manager_grows}
use Rattle.curp_cluster.proofs.Numbered.{lent_numbered, map_set, numbered_at}

-- ---- nodes of each kind

module _ (given : Input) where
  client_moves : (x : Node ClientState) → client_machine x given ≡ numbered_move x.number (client_input x.number x.state given)
  unfolding client_machine
  client_moves x = refl

  master_moves : (x : Node MasterStage) → master_machine x given ≡ numbered_move x.number (master_input x.number x.state given)
  unfolding master_machine
  master_moves x = refl

  backup_moves : (x : Node BackupState) → backup_machine x given ≡ numbered_move x.number (backup_input x.number x.state given)
  unfolding backup_machine
  backup_moves x = refl

  witness_moves : (x : Node WitnessState) → witness_machine x given ≡ numbered_move x.number (witness_input x.number x.state given)
  unfolding witness_machine
  witness_moves x = refl

module _ (given : Input) (nodes nodes' : List (Node ClientState)) (n : ℕ) (r : Result Done AllocError)
    (numbers : HasNumbers nodes) (low : 1 ≤ n) (made : MovesAt (n - 1) nodes nodes' r (λ node. client_machine node given)) where
  pub clients_stay : HasNumbers nodes'
  clients_stay = numbers_stay (λ (s : ClientState). s) nodes nodes' n r (λ node. client_machine node given) (λ i s. client_input i s given)
      (λ s. client_input n s given) (client_moves given) numbers low made

  pub clients_give : (w : World) (others : NodeStates)
      → Moves (record others { clients = states nodes }) (record others { clients = states nodes' }) r
      (within nodes_of (moves (with_nodes w (record others { clients = states nodes })) (client_node n) given))
  clients_give w others =
      let v : World = with_nodes w (record others { clients = states nodes }) in
      world_moves (λ (list : List ClientState). record others { clients = list }) (states nodes) (states nodes') n r
      (λ s. client_input n s given) (λ s. within (with_client v n) (client_input n s given)) v (λ s. refl)
      (one_moves (λ (s : ClientState). s) nodes nodes' n r (λ node. client_machine node given) (λ i s. client_input i s given)
      (λ s. client_input n s given) (client_moves given) numbers low made (λ s. refl))

module _ (given : Input) (nodes nodes' : List (Node MasterStage)) (n : ℕ) (r : Result Done AllocError)
    (numbers : HasNumbers nodes) (low : 1 ≤ n) (made : MovesAt (n - 1) nodes nodes' r (λ node. master_machine node given)) where
  pub masters_stay : HasNumbers nodes'
  masters_stay = numbers_stay (λ (s : MasterStage). s) nodes nodes' n r (λ node. master_machine node given) (λ i s. master_input i s given)
      (λ s. master_input n s given) (master_moves given) numbers low made

  pub masters_give : (w : World) (others : NodeStates)
      → Moves (record others { masters = states nodes }) (record others { masters = states nodes' }) r
      (within nodes_of (moves (with_nodes w (record others { masters = states nodes })) (master_node n) given))
  masters_give w others =
      let v : World = with_nodes w (record others { masters = states nodes }) in
      world_moves (λ (list : List MasterStage). record others { masters = list }) (states nodes) (states nodes') n r
      (λ s. master_input n s given) (λ s. within (with_master v n given s) (master_input n s given)) v (λ s. refl)
      (one_moves (λ (s : MasterStage). s) nodes nodes' n r (λ node. master_machine node given) (λ i s. master_input i s given)
      (λ s. master_input n s given) (master_moves given) numbers low made (λ s. refl))

  -- and pushes no more than the bound of the input
  pub masters_few : IsFewOf (numbered (states nodes) n) (numbered (states nodes') n) (most_marks given)
  masters_few =
      let stage = λ (x : Node MasterStage). x.state in
      let was : numbered (states nodes) n ≡ Some made.before.state = numbered_at stage nodes n (n - 1) made.before (omega arith) made.was in
      let is : states nodes' ≡ slice_set (states nodes) (n - 1) made.after.state
      = ap states made.is ∙ sym (map_set stage nodes (n - 1) made.after) in
      let now : numbered (states nodes') n ≡ Some made.after.state
      = ap (λ (xs : List MasterStage). numbered xs n) is ∙ set_there (states nodes) n made.before.state made.after.state was in
      rw (now, was) (moves_few n made.before made.after r given
      (node_moves (λ (s : MasterStage). s) nodes nodes' n r (λ node. master_machine node given) (λ i s. master_input i s given)
      (λ s. master_input n s given) (master_moves given) numbers low made))

module _ (given : Input) (nodes nodes' : List (Node BackupState)) (n : ℕ) (r : Result Done AllocError)
    (numbers : HasNumbers nodes) (low : 1 ≤ n) (made : MovesAt (n - 1) nodes nodes' r (λ node. backup_machine node given)) where
  pub backups_stay : HasNumbers nodes'
  backups_stay = numbers_stay (λ (s : BackupState). s) nodes nodes' n r (λ node. backup_machine node given) (λ i s. backup_input i s given)
      (λ s. backup_input n s given) (backup_moves given) numbers low made

  pub backups_give : (w : World) (others : NodeStates)
      → Moves (record others { backups = states nodes }) (record others { backups = states nodes' }) r
      (within nodes_of (moves (with_nodes w (record others { backups = states nodes })) (backup_node n) given))
  backups_give w others =
      let v : World = with_nodes w (record others { backups = states nodes }) in
      world_moves (λ (list : List BackupState). record others { backups = list }) (states nodes) (states nodes') n r
      (λ s. backup_input n s given) (λ s. within (with_backup v n) (backup_input n s given)) v (λ s. refl)
      (one_moves (λ (s : BackupState). s) nodes nodes' n r (λ node. backup_machine node given) (λ i s. backup_input i s given)
      (λ s. backup_input n s given) (backup_moves given) numbers low made (λ s. refl))

module _ (given : Input) (nodes nodes' : List (Node WitnessState)) (n : ℕ) (r : Result Done AllocError)
    (numbers : HasNumbers nodes) (low : 1 ≤ n) (made : MovesAt (n - 1) nodes nodes' r (λ node. witness_machine node given)) where
  pub witnesses_stay : HasNumbers nodes'
  witnesses_stay = numbers_stay (λ (s : WitnessState). s) nodes nodes' n r (λ node. witness_machine node given) (λ i s. witness_input i s given)
      (λ s. witness_input n s given) (witness_moves given) numbers low made

  pub witnesses_give : (w : World) (others : NodeStates)
      → Moves (record others { witnesses = states nodes }) (record others { witnesses = states nodes' }) r
      (within nodes_of (moves (with_nodes w (record others { witnesses = states nodes })) (witness_node n) given))
  witnesses_give w others =
      let v : World = with_nodes w (record others { witnesses = states nodes }) in
      world_moves (λ (list : List WitnessState). record others { witnesses = list }) (states nodes) (states nodes') n r
      (λ s. witness_input n s given) (λ s. within (with_witness v n) (witness_input n s given)) v (λ s. refl)
      (one_moves (λ (s : WitnessState). s) nodes nodes' n r (λ node. witness_machine node given) (λ i s. witness_input i s given)
      (λ s. witness_input n s given) (witness_moves given) numbers low made (λ s. refl))

-- ---- all nodes keep their numbers

module _ (next : Next) (clients : List (Node ClientState)) (masters : List (Node MasterStage)) (backups : List (Node BackupState))
    (witnesses ahead : List (Node WitnessState)) (sets ways : ℕ) (are : AreNumbered next clients masters backups witnesses ahead sets ways)
    (given : Input) (n : ℕ) (r : Result Done AllocError) (low : 1 ≤ n) where
  pub client_keeps : (after : List (Node ClientState)) → MovesAt (n - 1) clients after r (λ node. client_machine node given)
      → AreNumbered next after masters backups witnesses ahead sets ways
  client_keeps after made = record {
    clients_are = clients_stay given clients after n r are.clients_are low made;
    masters_are = are.masters_are;
    backups_are = are.backups_are;
    witnesses_are = are.witnesses_are;
    next_master = are.next_master;
    next_backup = are.next_backup;
    next_witness = are.next_witness;
  }

  pub master_keeps : (after : List (Node MasterStage)) → MovesAt (n - 1) masters after r (λ node. master_machine node given)
      → AreNumbered next clients after backups witnesses ahead sets ways
  master_keeps after made = record {
    clients_are = are.clients_are;
    masters_are = masters_stay given masters after n r are.masters_are low made;
    backups_are = are.backups_are;
    witnesses_are = are.witnesses_are;
    next_master = are.next_master ∙ ap (λ (k : ℕ). k + 1) (sym (many_stay masters after (n - 1) r (λ node. master_machine node given) made));
    next_backup = are.next_backup;
    next_witness = are.next_witness;
  }

  pub backup_keeps : (after : List (Node BackupState)) → MovesAt (n - 1) backups after r (λ node. backup_machine node given)
      → AreNumbered next clients masters after witnesses ahead sets ways
  backup_keeps after made = record {
    clients_are = are.clients_are;
    masters_are = are.masters_are;
    backups_are = backups_stay given backups after n r are.backups_are low made;
    witnesses_are = are.witnesses_are;
    next_master = are.next_master;
    next_backup = are.next_backup ∙ ap (λ (k : ℕ). k + 1) (sym (many_stay backups after (n - 1) r (λ node. backup_machine node given) made));
    next_witness = are.next_witness;
  }

  pub witness_keeps : (after : List (Node WitnessState)) → MovesAt (n - 1) witnesses after r (λ node. witness_machine node given)
      → AreNumbered next clients masters backups after ahead sets ways
  witness_keeps after made =
      let long = many_stay witnesses after (n - 1) r (λ node. witness_machine node given) made in
      let numbers = witnesses_stay given witnesses after n r (ahead_numbers witnesses ahead sets ways are.witnesses_are) low made in
      record {
        clients_are = are.clients_are;
        masters_are = are.masters_are;
        backups_are = are.backups_are;
        witnesses_are = ahead_stays witnesses after ahead sets ways are.witnesses_are numbers long;
        next_master = are.next_master;
        next_backup = are.next_backup;
        next_witness = are.next_witness ∙ ap (λ (k : ℕ). k + 1) (sym long);
      }

-- ---- by the name of the node

-- what is there of all nodes, is there of what is seen of them
pub is_here : (nodes all : NodeStates) (to : NodeId) (k : NodeKind) → all ≡ nodes → to.kind ≡ k
    → ((w : World) × (has_node (with_nodes w nodes) to ≡ true)) → (w : World) × (is_there (with_nodes w all) k to.number ≡ true)
is_here nodes all to k same is there = (
  there.0,
  subst (λ (n : NodeStates). is_there (with_nodes there.0 n) k to.number ≡ true) (sym same)
      (subst (λ (kind : NodeKind). is_there (with_nodes there.0 nodes) kind to.number ≡ true) is there.1),
)

-- and moves alike
pub seen_moves : (nodes all after : NodeStates) (to : NodeId) (k : NodeKind) (given : Input) (r : Result Done AllocError) (w : World) → all ≡ nodes → to.kind ≡ k
    → Moves all after r (within nodes_of (moves_kind (with_nodes w all) k to.number given))
    → Moves nodes after r (within nodes_of (moves (with_nodes w nodes) to given))
seen_moves nodes all after to k given r w same is moved =
    subst (λ (n : NodeStates). Moves n after r (within nodes_of (moves (with_nodes w n) to given))) same
    (subst (λ (kind : NodeKind). Moves all after r (within nodes_of (moves_kind (with_nodes w all) kind to.number given))) (sym is) moved)

-- and no more comes to a master's log than what is bounded
pub seen_few : (masters all after : List MasterStage) (to : NodeId) (k : NodeKind) (most : ℕ) → all ≡ masters → to.kind ≡ k
    → IsFewOf (master_at k to.number all) (master_at k to.number after) most
    → IsFewOf (master_at to.kind to.number masters) (master_at to.kind to.number after) most
seen_few masters all after to k most same is few =
    subst (λ (xs : List MasterStage). IsFewOf (master_at to.kind to.number xs) (master_at to.kind to.number after) most) same
    (subst (λ (kind : NodeKind). IsFewOf (master_at kind to.number all) (master_at kind to.number after) most) (sym is) few)

-- a node that is no master has no marks
pub few_elsewhere : (to : NodeId) (k : NodeKind) (masters after : List MasterStage) (most : ℕ) → to.kind ≡ k → k ≢ kind.Master
    → IsFewOf (master_at to.kind to.number masters) (master_at to.kind to.number after) most
few_elsewhere to k masters after most is other = subst (λ (kind : NodeKind). IsFewOf (master_at kind to.number masters) (master_at kind to.number after) most) (sym is) (go k other)
  where
    go : (k : NodeKind) → k ≢ kind.Master → IsFewOf (master_at k to.number masters) (master_at k to.number after) most
    go kind.Master other = absurd (other refl)
    go kind.Manager other = tt
    go kind.Client other = tt
    go kind.Backup other = tt
    go kind.Witness other = tt

-- the master of a number, as it is lent
pub seen_master : (masters : List (Node MasterStage)) (all : List MasterStage) (number : ℕ) (r : Option (Bor (Node MasterStage))) → states masters ≡ all
    → option_copied r ≡ numbered masters number
    → option_map (λ (m : Bor (Node MasterStage)). m.now.state) r ≡ numbered all number
seen_master masters all number r same lent =
    lent_numbered (λ (x : Node MasterStage). x.state) masters number r lent ∙ ap (λ (xs : List MasterStage). numbered xs number) same

-- ---- the manager

-- nodes among which the manager has that state, with the fresh ones that it names
abbrev pub grown_by : NodeStates → ManagerState → NodeStates
grown_by nodes g = record nodes {
  manager = g;
  masters = grown nodes.masters Fresh g.next.master;
  backups = grown nodes.backups fresh_backup g.next.backup;
  witnesses = grown nodes.witnesses (fresh_witness nodes.sets nodes.ways) g.next.witness;
}

-- it moves in a world as its machine does, and the fresh nodes that it names are there
pub manager_gives : (nodes after : NodeStates) (w : World) (given : Input) (n : ℕ) (g : ManagerState) (done : Done)
    → Moves {E = AllocError} nodes.manager g (Ok done) (manager_machine nodes.manager given) → after ≡ grown_by nodes g
    → Moves {E = AllocError} nodes after (Ok done) (within nodes_of (moves_kind (with_nodes w nodes) kind.Manager n given))
unfolding manager_machine
manager_gives nodes after w given n g done moved grew = (grew ∙ ap (grown_by nodes) moved.0, moved.1)

-- the fresh nodes that it names are bounded
pub made_grows : (g k : ManagerState) (given : Input) (done : Done) → Moves {E = AllocError} g k (Ok done) (manager_machine g given) → Grows g k (most_fresh g.shape.f given)
unfolding manager_machine
made_grows g k given done moved = subst (λ (x : ManagerState). Grows g x (most_fresh g.shape.f given)) (sym moved.0) (manager_grows g given)

-- nodes of which the fresh ones came
pub grew : (nodes : NodeStates) (g : ManagerState) (masters : List MasterStage) (backups : List BackupState) (witnesses : List WitnessState)
    → masters ≡ grown nodes.masters Fresh g.next.master
    → backups ≡ grown nodes.backups fresh_backup g.next.backup
    → witnesses ≡ grown nodes.witnesses (fresh_witness nodes.sets nodes.ways) g.next.witness
    → record { clients = nodes.clients; manager = g; masters = masters; backups = backups; witnesses = witnesses; sets = nodes.sets; ways = nodes.ways } ≡ grown_by nodes g
grew nodes g masters backups witnesses of_masters of_backups of_witnesses =
    λ i. record { clients = nodes.clients; manager = g; masters = of_masters i; backups = of_backups i; witnesses = of_witnesses i; sets = nodes.sets; ways = nodes.ways }

-- where the manager stays none comes
pub none_came : (nodes : NodeStates) (g : ManagerState) → g ≡ nodes.manager
    → nodes.manager.next.master ≡ length nodes.masters + 1 → nodes.manager.next.backup ≡ length nodes.backups + 1
    → nodes.manager.next.witness ≡ length nodes.witnesses + 1 → grown_by nodes g ≡ nodes
none_came nodes g same next_master next_backup next_witness =
    let masters : grown nodes.masters Fresh g.next.master ≡ nodes.masters
    = grown_none nodes.masters Fresh g.next.master (ap (λ (k : ManagerState). k.next.master) same ∙ next_master) in
    let backups : grown nodes.backups fresh_backup g.next.backup ≡ nodes.backups
    = grown_none nodes.backups fresh_backup g.next.backup (ap (λ (k : ManagerState). k.next.backup) same ∙ next_backup) in
    let witnesses : grown nodes.witnesses (fresh_witness nodes.sets nodes.ways) g.next.witness ≡ nodes.witnesses
    = grown_none nodes.witnesses (fresh_witness nodes.sets nodes.ways) g.next.witness (ap (λ (k : ManagerState). k.next.witness) same ∙ next_witness) in
    λ i. record { clients = nodes.clients; manager = same i; masters = masters i; backups = backups i; witnesses = witnesses i; sets = nodes.sets; ways = nodes.ways }
