-- One step grows the world.
use Rattle.std.proofs.Common.{◌≡◌, ◌≢◌, Bool, true, false, arith, ℕ, zero, suc, ◌-◌, ◌==◌, List, ◌++◌, set, refl, Option, Some, None, sym, subst, inl, inr}
use Rattle.std.specs.Prelude.{replicate, slice_get}
use Rattle.std.proofs.lemmas.Bool.Decides.{nat_tests}
use Rattle.curp_base.specs.Words.{At, IsPrefix, all_of, numbered}
use Rattle.curp_base.proofs.Lists.{at_append, at_append_cases, at_replicate, prefix_at, prefix_self, prefix_push, prefix_trans}
use Rattle.curp_cmd.specs.Node.{witness_node}
use Rattle.curp_cmd.specs.RequestId.{same_id}
use Rattle.curp_cmd.specs.declared.command.RequestId.{RequestId}
use Rattle.curp_cmd.specs.declared.node.NodeId.{NodeId}
use Rattle.curp_cmd.specs.declared.node.NodeKind.{NodeKind}
use Rattle.curp_cmd.specs.declared.node.NodeKind.TheVariants as kind
use Rattle.curp_cmd.proofs.Ids.{same_id-true}
use Rattle.curp_msg.specs.Moved.{Moved, says, within}
use Rattle.curp_msg.specs.declared.body.Body.{Body}
use Rattle.curp_msg.specs.declared.body.Body.TheVariants as body
use Rattle.curp_msg.specs.Input.{Input}
use Rattle.curp_msg.specs.Input as input
use Rattle.curp_msg.specs.declared.message.Message.{Message}
use Rattle.curp_msg.specs.declared.outcome.StepResult.{StepResult}
use Rattle.curp_msg.specs.declared.outcome.StepResult.TheVariants as result
use Rattle.curp_msg.specs.declared.script.Step.{Step}
use Rattle.curp_order.specs.declared.Event.{Event}
use Rattle.curp_model.specs.Backup.{BackupState, backup_input, fresh_backup}
use Rattle.curp_model.specs.Client.{ClientState, client_input}
use Rattle.curp_model.specs.Manager.{Attempted, ManagerState, adoption, manager_input}
use Rattle.curp_model.specs.Recovery.{MasterStage, Fresh, master_input}
use Rattle.curp_model.specs.Witness.{WitnessState, fresh_witness, witness_input}
use Rattle.curp_model.specs.World.{Deed, Nothing, Gives, Stops, World, completion, deed_of, effect, events_of, kept, messages, moves_kind, moves_one, result_of, step, steps_by, with_backup, with_batch, with_client, with_manager, with_master, with_witness}
use Rattle.curp_facts.specs.Facts.{WasSent}
use Rattle.curp_facts.specs.Growth.{AllNew, NewFresh, AllGrow, BackupGrows, Dropped, Grows, ManagerGrows, MasterGrows, WitnessGrows}
use Rattle.curp_law_kept.specs.Deeds.{IsFor, IsMeant}
use Rattle.curp_law_kept.proofs.Deeds.{deed_meant}
use Rattle.curp_law_kept.proofs.KeepersGrow.{Drops, Lets, backup_input_grows, backup_self, witness_input_grows, witness_self, witness_weaker}
use Rattle.curp_law_kept.proofs.ManagersGrow.{manager_input_grows, manager_self}
use Rattle.curp_base.proofs.Numbered.{any_at, numbered_same, numbered_set_cases, numbered_set_other, numbered_set_same}
use Rattle.curp_model.proofs.Batches.{all_of-kept}
use Rattle.curp_law_kept.proofs.RecoveriesGrow.{master_input_grows, master_self}

-- ---- lists of nodes

all_self : {S : Type 0} (G : ℕ → S → S → Type 0) → ((n : ℕ) (x : S) → G n x x) → (xs : List S) → AllGrow G xs xs
all_self G self xs n x here = (x, here, self n x)

-- one has moved
all_set : {S : Type 0} (G : ℕ → S → S → Type 0) → ((n : ℕ) (x : S) → G n x x) → (xs : List S) (n : ℕ) (old y : S) → numbered xs n ≡ Some old → G n old y → AllGrow G xs (set xs (n - 1) y)
all_set {S} G self xs n old y is g k x here = go (k == n) refl
  where
    moved : k ≡ n → (z : S) × (numbered (set xs (n - 1) y) k ≡ Some z) × G k x z
    moved same =
        let old_is_x : old ≡ x = numbered_same xs n old x is (subst (λ (i : ℕ). numbered xs i ≡ Some x) same here) in
        (y, subst (λ (i : ℕ). numbered (set xs (n - 1) y) i ≡ Some y) (sym same) (numbered_set_same xs n old y is), subst (λ (i : ℕ). G i x y) (sym same) (subst (λ (z : S). G n z y) old_is_x g))

    same : (k == n) ≡ true → k ≡ n
    same e = grind (arith, nat_tests)

    apart : (k == n) ≡ false → k ≢ n
    apart e f = grind (arith, nat_tests)

    go : (b : Bool) → (k == n) ≡ b → (z : S) × (numbered (set xs (n - 1) y) k ≡ Some z) × G k x z
    go true e = moved (same e)
    go false e = (x, numbered_set_other xs n old y is k x (apart e) here, self k x)

-- fresh ones stand behind those that are there
all_more : {S : Type 0} (G : ℕ → S → S → Type 0) → ((n : ℕ) (x : S) → G n x x) → (xs more : List S) → AllGrow G xs (xs ++ more)
all_more G self xs more zero x here = absurd cc
all_more G self xs more (suc k) x here = (x, at_append xs more k x here, self (suc k) x)

-- ---- new nodes

new_self : {S : Type 0} (fresh : S) (xs : List S) → AllNew fresh xs xs
new_self {S} fresh xs n y none here = absurd (no_two (numbered xs n) none here)
  where
    no_two : (o : Option S) → o ≡ None → o ≡ Some y → ⊥
    no_two o a b = cc

new_set : {S : Type 0} (fresh : S) (xs : List S) (n : ℕ) (old z : S) → numbered xs n ≡ Some old → AllNew fresh xs (set xs (n - 1) z)
new_set {S} fresh xs n old z is k y none here = elim (numbered_set_cases xs n old z is k y here) [
  | inl o ↦ absurd (no_two (numbered xs k) y none o.1)
  | inr o ↦ absurd (no_two (numbered xs n) old (subst (λ (i : ℕ). numbered xs i ≡ None) o.0 none) is)
]
  where
    no_two : (o : Option S) (x : S) → o ≡ None → o ≡ Some x → ⊥
    no_two o x a b = cc

new_more : {S : Type 0} (fresh : S) (xs : List S) (count : ℕ) → AllNew fresh xs (xs ++ replicate count fresh)
new_more fresh xs count zero y none here = absurd cc
new_more {S} fresh xs count (suc k) y none here = elim (at_append_cases xs (replicate count fresh) k y here) [
  | inl o ↦ absurd (no_two (slice_get xs k) none o)
  | inr o ↦ sym (at_replicate count fresh o.0 y o.2).1
]
  where
    no_two : (o : Option S) → o ≡ None → o ≡ Some y → ⊥
    no_two o a b = cc

-- ---- what a move leaves of the nodes

record NodesGrow (w v : World) : Type 0 where
  manager : ManagerGrows w.manager v.manager
  masters : AllGrow (λ n. MasterGrows) w.masters v.masters
  backups : AllGrow (λ n. BackupGrows) w.backups v.backups
  witnesses : AllGrow (λ n x. WitnessGrows (Dropped w n x) x) w.witnesses v.witnesses
  fresh : NewFresh w v

masters_self : (xs : List MasterStage) → AllGrow (λ n. MasterGrows) xs xs
masters_self xs = all_self (λ n. MasterGrows) (λ n. master_self) xs

backups_self : (xs : List BackupState) → AllGrow (λ n. BackupGrows) xs xs
backups_self xs = all_self (λ n. BackupGrows) (λ n. backup_self) xs

abbrev OneGrows : World → ℕ → WitnessState → WitnessState → Type 0
OneGrows w n x y = WitnessGrows (Dropped w n x) x y

witnesses_self : (w : World) (xs : List WitnessState) → AllGrow (OneGrows w) xs xs
witnesses_self w xs = all_self (OneGrows w) (λ n x. witness_self (Dropped w n x) x) xs

-- what was sent stays sent
sent_later : {w v : World} {m : Message} → IsPrefix (messages w) (messages v) → WasSent w m → WasSent v m
sent_later {w} {v} {m} p s = record { place = s.place; stands = prefix_at p s.place m s.stands }

dropped_later : {w v : World} → IsPrefix (messages w) (messages v) → (n : ℕ) (x : WitnessState) (id : RequestId) → Dropped w n x id → Dropped v n x id
dropped_later p n x id d = record { from = d.from; gc = d.gc; sent = sent_later p d.sent; its_epoch = d.its_epoch; listed = d.listed }

one_later : {w v : World} → IsPrefix (messages w) (messages v) → (n : ℕ) (x y : WitnessState) → OneGrows w n x y → OneGrows v n x y
one_later {w} {v} p n x y g = witness_weaker (Dropped w n x) (Dropped v n x) x y (dropped_later p n x) g

witnesses_later : {w v : World} → IsPrefix (messages w) (messages v) → (xs ys : List WitnessState) → AllGrow (OneGrows w) xs ys → AllGrow (OneGrows v) xs ys
witnesses_later p xs ys all n x here = let y = all n x here in (y.0, y.1, one_later p n x y.0 y.2)

-- what lets a witness drop the id was sent
drops_sent : (w : World) (n : ℕ) (x : WitnessState) (given : Input) → IsFor w (witness_node n) given → (id : RequestId) → Lets given x id → Dropped w n x id
drops_sent w n x (input.Local order) for id d = absurd d
drops_sent w n x (input.Message m) for id d = by_body m.from m.to m.body for.0 for.1 d
  where
    by_body : (from to : NodeId) (b : Body) → to ≡ witness_node n → WasSent w (says from to b) → Drops b x id → Dropped w n x id
    by_body from to (body.Gc g) same sent d =
        let f = any_at (same_id id) g.ids d.1 in
        record { from = from; gc = g; sent = subst (λ (y : NodeId). WasSent w (says from y (body.Gc g))) same sent; its_epoch = d.0; listed = record { place = f.0; stands = subst (At g.ids f.0) (sym (same_id-true id f.1 f.3)) f.2 } }
    by_body from to _ same sent d = absurd d

fresh_self : (w : World) → NewFresh w w
fresh_self w = (new_self Fresh w.masters, new_self fresh_backup w.backups, new_self (fresh_witness w.sets w.ways) w.witnesses)

-- a world that stays
pub grows_self : (w : World) → Grows w w
grows_self w = record {
  manager = manager_self w.manager;
  sent = prefix_self (messages w);
  history = prefix_self w.history;
  masters = masters_self w.masters;
  backups = backups_self w.backups;
  witnesses = witnesses_self w w.witnesses;
  fresh = fresh_self w;
}

abbrev On : World → Moved World → Type 0
On w r = NodesGrow w r.state

module _ (w : World) where
  nodes_self : NodesGrow w w
  nodes_self = record { manager = manager_self w.manager; masters = masters_self w.masters; backups = backups_self w.backups; witnesses = witnesses_self w w.witnesses; fresh = fresh_self w }

  -- ---- one node alone

  client_moves : (n : ℕ) (c : ClientState) → NodesGrow w (with_client w n c)
  client_moves n c = record { manager = manager_self w.manager; masters = masters_self w.masters; backups = backups_self w.backups; witnesses = witnesses_self w w.witnesses; fresh = fresh_self w }

  master_moves : (n : ℕ) (given : Input) (m k : MasterStage) → numbered w.masters n ≡ Some m → MasterGrows m k → NodesGrow w (with_master w n given m k)
  master_moves n given m k is g = record {
    manager = manager_self w.manager;
    masters = all_set (λ n. MasterGrows) (λ n. master_self) w.masters n m k is g;
    backups = backups_self w.backups;
    witnesses = witnesses_self w w.witnesses;
    fresh = (new_set Fresh w.masters n m k is, new_self fresh_backup w.backups, new_self (fresh_witness w.sets w.ways) w.witnesses);
  }

  backup_moves : (n : ℕ) (b c : BackupState) → numbered w.backups n ≡ Some b → BackupGrows b c → NodesGrow w (with_backup w n c)
  backup_moves n b c is g = record {
    manager = manager_self w.manager;
    masters = masters_self w.masters;
    backups = all_set (λ n. BackupGrows) (λ n. backup_self) w.backups n b c is g;
    witnesses = witnesses_self w w.witnesses;
    fresh = (new_self Fresh w.masters, new_set fresh_backup w.backups n b c is, new_self (fresh_witness w.sets w.ways) w.witnesses);
  }

  witness_moves : (n : ℕ) (x y : WitnessState) → numbered w.witnesses n ≡ Some x → OneGrows w n x y → NodesGrow w (with_witness w n y)
  witness_moves n x y is g = record {
    manager = manager_self w.manager;
    masters = masters_self w.masters;
    backups = backups_self w.backups;
    witnesses = all_set (OneGrows w) (λ n x. witness_self (Dropped w n x) x) w.witnesses n x y is g;
    fresh = (new_self Fresh w.masters, new_self fresh_backup w.backups, new_set (fresh_witness w.sets w.ways) w.witnesses n x y is);
  }

  manager_moves : (a : Option Attempted) (g : ManagerState) → ManagerGrows w.manager g → NodesGrow w (with_manager w a g)
  manager_moves a g grows = record {
    manager = grows;
    masters = all_more (λ n. MasterGrows) (λ n. master_self) w.masters _;
    backups = all_more (λ n. BackupGrows) (λ n. backup_self) w.backups _;
    witnesses = all_more (OneGrows w) (λ n x. witness_self (Dropped w n x) x) w.witnesses _;
    fresh = (new_more Fresh w.masters _, new_more fresh_backup w.backups _, new_more (fresh_witness w.sets w.ways) w.witnesses _);
  }

  -- ---- an input comes to a node

  client_gets : (n : ℕ) (given : Input) (o : Option ClientState) → On w (moves_one w (λ c. within (with_client w n) (client_input n c given)) o)
  client_gets n given None = nodes_self
  client_gets n given (Some c) = client_moves n (client_input n c given).state

  master_gets : (n : ℕ) (given : Input) (o : Option MasterStage) → numbered w.masters n ≡ o → On w (moves_one w (λ m. within (with_master w n given m) (master_input n m given)) o)
  master_gets n given None is = nodes_self
  master_gets n given (Some m) is = master_moves n given m (master_input n m given).state is (master_input_grows n m given)

  backup_gets : (n : ℕ) (given : Input) (o : Option BackupState) → numbered w.backups n ≡ o → On w (moves_one w (λ b. within (with_backup w n) (backup_input n b given)) o)
  backup_gets n given None is = nodes_self
  backup_gets n given (Some b) is = backup_moves n b (backup_input n b given).state is (backup_input_grows n b given)

  witness_gets : (n : ℕ) (given : Input) (o : Option WitnessState) → numbered w.witnesses n ≡ o → IsFor w (witness_node n) given → On w (moves_one w (λ x. within (with_witness w n) (witness_input n x given)) o)
  witness_gets n given None is for = nodes_self
  witness_gets n given (Some x) is for =
      let y = (witness_input n x given).state in
      witness_moves n x y is (witness_weaker (Lets given x) (Dropped w n x) x y (drops_sent w n x given for) (witness_input_grows n x given))

  node_gets : (k : NodeKind) (n : ℕ) (given : Input) → IsFor w (record { kind = k; number = n }) given → On w (moves_kind w k n given)
  node_gets kind.Manager n given for = manager_moves (adoption w.manager given) (manager_input w.manager given).state (manager_input_grows w.manager given)
  node_gets kind.Client n given for = client_gets n given (numbered w.clients n)
  node_gets kind.Master n given for = master_gets n given (numbered w.masters n) refl
  node_gets kind.Backup n given for = backup_gets n given (numbered w.backups n) refl
  node_gets kind.Witness n given for = witness_gets n given (numbered w.witnesses n) refl for

  -- ---- each of the twelve kinds of step

  deed_grows : (d : Deed) → IsMeant w d → On w (effect w d)
  deed_grows Nothing meant = nodes_self
  deed_grows (Gives to given) meant = node_gets to.kind to.number given meant
  deed_grows (Stops node) meant = record { manager = manager_self w.manager; masters = masters_self w.masters; backups = backups_self w.backups; witnesses = witnesses_self w w.witnesses; fresh = fresh_self w }

  kept_grows : (events : List Event) (moved : Moved World) → On w moved → Grows w (kept w events moved).world
  kept_grows events moved g = record {
    manager = g.manager;
    sent = longer;
    history = prefix_trans (prefix_push w.history events) (prefix_push (w.history ++ events) (completion moved.completed));
    masters = g.masters;
    backups = g.backups;
    witnesses = witnesses_later longer w.witnesses moved.state.witnesses g.witnesses;
    fresh = g.fresh;
  }
    where
      longer : IsPrefix (all_of w.sent) (all_of (with_batch w.sent moved.messages))
      longer = subst (IsPrefix (all_of w.sent)) (sym (all_of-kept w.sent moved.messages)) (prefix_push (all_of w.sent) moved.messages)

  by_result : (d : Deed) (r : StepResult) → IsMeant w d → Grows w (steps_by w d r).world
  by_result d result.Done meant = kept_grows (events_of w d) (effect w d) (deed_grows d meant)
  by_result d result.NoMessage meant = grows_self w
  by_result d result.NoNode meant = grows_self w
  by_result d result.Manager meant = grows_self w
  by_result d result.Gone meant = grows_self w
  by_result d (result.Full weight) meant = grows_self w
  by_result d (result.Refused number) meant = grows_self w

  -- nothing is taken back by a step
  pub step_grows : (s : Step) → Grows w (step w s).world
  unfolding step
  step_grows s = by_result (deed_of w s) (result_of w s) (deed_meant w s)
