-- One step: it is made where its node is there, runs, and takes what it is given, and then that node alone has moved.
use Rattle.std.proofs.Common.{◌≡◌, ◌≢◌, ℕ, ◌==◌, not, ltb, if◌then◌else◌, Bool, true, false, List, [], ◌++◌, Option, Some, None, is_some, refl, ap, sym, ◌∙◌, subst, arith}
use Rattle.std.specs.Prelude.{option_map}
use Rattle.std.specs.List.{list_all, list_any}
use Rattle.std.proofs.lemmas.Bool.Decides.{nat_tests}
use Rattle.curp_base.specs.Words.{numbered}
use Rattle.curp_base.proofs.Numbered.{numbered_set_same}
use Rattle.curp_cmd.specs.Node.{client_node, manager_node, same_node}
use Rattle.curp_cmd.specs.declared.node.NodeId.{NodeId}
use Rattle.curp_cmd.specs.declared.node.NodeKind.{NodeKind}
use Rattle.curp_cmd.specs.declared.node.NodeKind.TheVariants as kind
use Rattle.curp_msg.specs.Moved.{Moved}
use Rattle.curp_msg.specs.Input.{Input}
use Rattle.curp_msg.specs.declared.message.Message.{Message}
use Rattle.curp_msg.specs.declared.outcome.StepResult.{StepResult}
use Rattle.curp_msg.specs.declared.outcome.StepResult.TheVariants.{Done}
use Rattle.curp_msg.specs.declared.script.Header.{Header}
use Rattle.curp_msg.specs.declared.script.Step.{Step}
use Rattle.curp_msg.specs.declared.script.Step.TheVariants as steps
use Rattle.curp_order.specs.declared.Event.{Event}
use Rattle.curp_model.specs.Backup.{BackupState, backup_input}
use Rattle.curp_model.specs.Client.{ClientState, client_input}
use Rattle.curp_model.specs.Recovery.{MasterStage, master_input}
use Rattle.curp_model.specs.Witness.{WitnessState, witness_input}
use Rattle.curp_model.specs.World.{Deed, Gives, Stepped, Stops, World, deed_of, delivery, effect, events_of, has_node, is_lost, is_stopped, is_too_much, kept, messages, moves, moves_kind, moves_one, names_nobody, result_of, step, steps_by, stops_manager, subject, weight}
use Rattle.curp_msg.specs.Limits.{weight_limit}
use Rattle.curp_model.proofs.Batches.{all_of-kept}
use Rattle.curp_law_kept.specs.After.{After, ClientStays, ClientMoves, MasterStays, MasterMoves, MasterNew, BackupStays, BackupMoves, BackupNew, WitnessStays, WitnessMoves, WitnessNew}
use Rattle.curp_law_kept.proofs.Gives.{step_after}
use Rattle.curp_law_steps.specs.Named.{StopsNone}
use Rattle.curp_law_steps.proofs.Gives.{OnlyMoves, Spares, only_moves, stops_only_by_stop, done}
use Rattle.curp_law_weave.specs.NodeStates.{ABackup, AClient, AManager, AMaster, AWitness, NodeState, fresh_state, machine_by, machine_of, state_by, state_of}

-- ---- options

mapped : {A B : Type 0} (wrap : A → B) (o : Option A) (y : B) → option_map wrap o ≡ Some y → (x : A) × (o ≡ Some x) × (wrap x ≡ y)
mapped wrap None y e = absurd cc
mapped wrap (Some x) y e = (x, refl, cc)

unmapped : {A B : Type 0} (wrap : A → B) (o : Option A) → option_map wrap o ≡ None → o ≡ None
unmapped wrap None e = refl
unmapped wrap (Some x) e = absurd cc

no_two : {A : Type 0} (o : Option A) (x : A) → o ≡ None → o ≡ Some x → ⊥
no_two o x a b = cc

module _ (w : World) (s : Step) where
  -- ---- a step that gives a node something

  module _ (k : NodeId) (given : Input) (deed : deed_of w s ≡ Gives k given) where
    delivered : (o : Option Message) → delivery o ≡ Gives k given → not (is_some o) ≡ false
    delivered None e = absurd cc
    delivered (Some m) e = refl

    isnt_lost : (t : Step) → deed_of w t ≡ Gives k given → is_lost w t ≡ false
    isnt_lost (steps.Deliver number) e = delivered (numbered (messages w) number) e
    isnt_lost t e = refl

    its_subject : (P : Deed → Type 0) → P (Gives k given) → P (deed_of w s)
    its_subject P p = subst P (sym deed) p

    isnt_nobody : (t : Step) → deed_of w t ≡ Gives k given → has_node w k ≡ true → ((n : ℕ) → t ≡ steps.Expire n → has_node w (client_node n) ≡ true) → names_nobody w t ≡ false
    isnt_nobody (steps.Expire n) e here client = rw (client n refl) refl
    isnt_nobody t e here client = subst (λ (d : Deed). not (list_all (has_node w) (subject d)) ≡ false) (sym e) (rw here refl)

    isnt_manager : (t : Step) → deed_of w t ≡ Gives k given → stops_manager t ≡ false
    isnt_manager (steps.Stop node) e = absurd cc
    isnt_manager t e = refl

    pub gives_done : has_node w k ≡ true → ((n : ℕ) → s ≡ steps.Expire n → has_node w (client_node n) ≡ true) → is_stopped w k ≡ false → ltb weight_limit (weight w) ≡ false
        → (moves w k given).refused ≡ 0 → result_of w s ≡ Done
    gives_done here client runs light taken = (done w s).1 (
      record {
        running = record {
          spares = record { there = record { sent = isnt_lost s deed; named = isnt_nobody s deed here client }; other = isnt_manager s deed };
          runs = its_subject (λ (d : Deed). list_any (is_stopped w) (subject d) ≡ false) (rw runs refl);
        };
        light = its_subject (λ (d : Deed). is_too_much w d ≡ false) light;
      },
      its_subject (λ (d : Deed). (effect w d).refused ≡ 0) taken,
    )

    pub gives_stops_none : StopsNone s
    gives_stops_none node e = let f : deed_of w s ≡ Stops node = ap (deed_of w) e in absurd (cc (deed, f))

    pub gives_world : (P : Stepped → Type 0) → result_of w s ≡ Done → P (kept w (events_of w (Gives k given)) (moves w k given)) → P (step w s)
    unfolding step
    gives_world P made p = subst (λ (r : StepResult). P (steps_by w (deed_of w s) r)) (sym made) (its_subject (λ (d : Deed). P (steps_by w d Done)) p)

  -- ---- a step that stops one

  module _ (k : NodeId) where
    isnt_delivery : (o : Option Message) → delivery o ≡ Stops k → ⊥
    isnt_delivery None e = absurd cc
    isnt_delivery (Some m) e = absurd cc

    pub stop_is : (t : Step) → deed_of w t ≡ Stops k → t ≡ steps.Stop k
    stop_is (steps.Deliver number) e = absurd (isnt_delivery (numbered (messages w) number) e)
    stop_is (steps.Stop node) e = let same : node ≡ k = cc in ap steps.Stop same
    stop_is t e = absurd cc

    pub stop_done : has_node w k ≡ true → is_stopped w k ≡ false → same_node k manager_node ≡ false → result_of w (steps.Stop k) ≡ Done
    stop_done here runs other = (done w (steps.Stop k)).1 (
      record {
        running = record {
          spares = record { there = record { sent = refl; named = rw here refl }; other = other };
          runs = rw runs refl;
        };
        light = refl;
      },
      refl,
    )

    pub stop_world : (P : Stepped → Type 0) → result_of w (steps.Stop k) ≡ Done → P (kept w [] (effect w (Stops k))) → P (step w (steps.Stop k))
    unfolding step
    stop_world P made p = subst (λ (r : StepResult). P (steps_by w (Stops k) r)) (sym made) p

-- ---- the node's own move

-- the world's move says what the node's own does
pub record Says (m : Moved World) (r : Moved NodeState) : Type 0 where
  pub messages : m.messages ≡ r.messages
  pub completed : m.completed ≡ r.completed
  pub refused : m.refused ≡ r.refused

module _ (w : World) where
  pub manager_there : (n : ℕ) (y : NodeState) → state_by w kind.Manager n ≡ Some y → (n ≡ 0) × (AManager w.manager ≡ y)
  manager_there n y at = go (n == 0) refl at
    where
      go : (b : Bool) → (n == 0) ≡ b → (if b then Some (AManager w.manager) else None) ≡ Some y → (n ≡ 0) × (AManager w.manager ≡ y)
      go true e at = (grind (arith, nat_tests), cc)
      go false e at = absurd cc

  client_says : (n : ℕ) (given : Input) (c : ClientState) → numbered w.clients n ≡ Some c → Says (moves_kind w kind.Client n given) (machine_by n (AClient c) given)
  client_says n given c is = rw is (record { messages = refl; completed = refl; refused = refl })

  master_says : (n : ℕ) (given : Input) (m : MasterStage) → numbered w.masters n ≡ Some m → Says (moves_kind w kind.Master n given) (machine_by n (AMaster m) given)
  master_says n given m is = rw is (record { messages = refl; completed = refl; refused = refl })

  backup_says : (n : ℕ) (given : Input) (b : BackupState) → numbered w.backups n ≡ Some b → Says (moves_kind w kind.Backup n given) (machine_by n (ABackup b) given)
  backup_says n given b is = rw is (record { messages = refl; completed = refl; refused = refl })

  witness_says : (n : ℕ) (given : Input) (x : WitnessState) → numbered w.witnesses n ≡ Some x → Says (moves_kind w kind.Witness n given) (machine_by n (AWitness x) given)
  witness_says n given x is = rw is (record { messages = refl; completed = refl; refused = refl })

  says_by : (k : NodeKind) (n : ℕ) (given : Input) (x : NodeState) → state_by w k n ≡ Some x → Says (moves_kind w k n given) (machine_by n x given)
  says_by kind.Client n given x at =
      let c = mapped AClient (numbered w.clients n) x at in
      subst (λ (y : NodeState). Says (moves_kind w kind.Client n given) (machine_by n y given)) c.2 (client_says n given c.0 c.1)
  says_by kind.Master n given x at =
      let c = mapped AMaster (numbered w.masters n) x at in
      subst (λ (y : NodeState). Says (moves_kind w kind.Master n given) (machine_by n y given)) c.2 (master_says n given c.0 c.1)
  says_by kind.Backup n given x at =
      let c = mapped ABackup (numbered w.backups n) x at in
      subst (λ (y : NodeState). Says (moves_kind w kind.Backup n given) (machine_by n y given)) c.2 (backup_says n given c.0 c.1)
  says_by kind.Witness n given x at =
      let c = mapped AWitness (numbered w.witnesses n) x at in
      subst (λ (y : NodeState). Says (moves_kind w kind.Witness n given) (machine_by n y given)) c.2 (witness_says n given c.0 c.1)
  says_by kind.Manager n given x at =
      let g = manager_there n x at in
      subst (λ (y : NodeState). Says (moves_kind w kind.Manager n given) (machine_by n y given)) g.1 (record { messages = refl; completed = refl; refused = refl })

  pub move_says : (k : NodeId) (given : Input) (x : NodeState) → state_of w k ≡ Some x → Says (moves w k given) (machine_of k x given)
  move_says k given x at = says_by k.kind k.number given x at

  -- ---- where the node is then

  module _ (events : List Event) where
    client_here : (n : ℕ) (given : Input) (c : ClientState) → numbered w.clients n ≡ Some c
        → option_map AClient (numbered (kept w events (moves_kind w kind.Client n given)).world.clients n) ≡ Some (machine_by n (AClient c) given).state
    client_here n given c is = rw is (ap (λ (o : Option ClientState). option_map AClient o) (numbered_set_same w.clients n c (client_input n c given).state is))

    master_here : (n : ℕ) (given : Input) (m : MasterStage) → numbered w.masters n ≡ Some m
        → option_map AMaster (numbered (kept w events (moves_kind w kind.Master n given)).world.masters n) ≡ Some (machine_by n (AMaster m) given).state
    master_here n given m is = rw is (ap (λ (o : Option MasterStage). option_map AMaster o) (numbered_set_same w.masters n m (master_input n m given).state is))

    backup_here : (n : ℕ) (given : Input) (b : BackupState) → numbered w.backups n ≡ Some b
        → option_map ABackup (numbered (kept w events (moves_kind w kind.Backup n given)).world.backups n) ≡ Some (machine_by n (ABackup b) given).state
    backup_here n given b is = rw is (ap (λ (o : Option BackupState). option_map ABackup o) (numbered_set_same w.backups n b (backup_input n b given).state is))

    witness_here : (n : ℕ) (given : Input) (x : WitnessState) → numbered w.witnesses n ≡ Some x
        → option_map AWitness (numbered (kept w events (moves_kind w kind.Witness n given)).world.witnesses n) ≡ Some (machine_by n (AWitness x) given).state
    witness_here n given x is = rw is (ap (λ (o : Option WitnessState). option_map AWitness o) (numbered_set_same w.witnesses n x (witness_input n x given).state is))

    here_by : (k : NodeKind) (n : ℕ) (given : Input) (x : NodeState) → state_by w k n ≡ Some x → state_by (kept w events (moves_kind w k n given)).world k n ≡ Some (machine_by n x given).state
    here_by kind.Client n given x at =
        let c = mapped AClient (numbered w.clients n) x at in
        subst (λ (y : NodeState). state_by (kept w events (moves_kind w kind.Client n given)).world kind.Client n ≡ Some (machine_by n y given).state) c.2 (client_here n given c.0 c.1)
    here_by kind.Master n given x at =
        let c = mapped AMaster (numbered w.masters n) x at in
        subst (λ (y : NodeState). state_by (kept w events (moves_kind w kind.Master n given)).world kind.Master n ≡ Some (machine_by n y given).state) c.2 (master_here n given c.0 c.1)
    here_by kind.Backup n given x at =
        let c = mapped ABackup (numbered w.backups n) x at in
        subst (λ (y : NodeState). state_by (kept w events (moves_kind w kind.Backup n given)).world kind.Backup n ≡ Some (machine_by n y given).state) c.2 (backup_here n given c.0 c.1)
    here_by kind.Witness n given x at =
        let c = mapped AWitness (numbered w.witnesses n) x at in
        subst (λ (y : NodeState). state_by (kept w events (moves_kind w kind.Witness n given)).world kind.Witness n ≡ Some (machine_by n y given).state) c.2 (witness_here n given c.0 c.1)
    here_by kind.Manager n given x at =
        let g = manager_there n x at in
        subst (λ (y : NodeState). state_by (kept w events (moves_kind w kind.Manager n given)).world kind.Manager n ≡ Some (machine_by n y given).state) g.1 (rw g.0 refl)

    pub move_here : (k : NodeId) (given : Input) (x : NodeState) → state_of w k ≡ Some x → state_of (kept w events (moves w k given)).world k ≡ Some (machine_of k x given).state
    move_here k given x at = here_by k.kind k.number given x at

-- ---- the other nodes

stays_mapped : {A B : Type 0} (wrap : A → B) (o p : Option A) (y : B) → ((x : A) → o ≡ Some x → p ≡ Some x) → option_map wrap o ≡ Some y → option_map wrap p ≡ Some y
stays_mapped wrap o p y same at = let x = mapped wrap o y at in rw (same x.0 x.1) (ap (λ z. Some z) x.2)

-- a deed that gives another node something spares this one
module _ (d : Deed) (k : NodeId) (given : Input) (is : d ≡ Gives k given) where
  spared : (a : NodeKind) (n : ℕ) → record { kind = a; number = n } ≢ k → Spares d a n
  spared a n other g e = other cc

  module _ (w v : World) (x : NodeState) (at : state_of w k ≡ Some x) (only : OnlyMoves d w v) where
    no_manager : record { kind = kind.Manager; number = 0 } ≢ k → (n : ℕ) → Spares d kind.Manager n
    no_manager other n g e =
        let same : k ≡ record { kind = kind.Manager; number = n } = cc in
        let here : state_by w kind.Manager n ≡ Some x = subst (λ (j : NodeId). state_of w j ≡ Some x) same at in
        let zero = (manager_there w n x here).0 in
        other (sym (same ∙ ap (λ (m : ℕ). record { kind = kind.Manager; number = m }) zero))

    stays_by : (a : NodeKind) (n : ℕ) (y : NodeState) → record { kind = a; number = n } ≢ k → state_by w a n ≡ Some y → state_by v a n ≡ Some y
    stays_by kind.Client n y other h = stays_mapped AClient (numbered w.clients n) (numbered v.clients n) y (λ c g. only.clients n c (spared kind.Client n other) g) h
    stays_by kind.Master n y other h = stays_mapped AMaster (numbered w.masters n) (numbered v.masters n) y (λ c g. only.masters n c (spared kind.Master n other) g) h
    stays_by kind.Backup n y other h = stays_mapped ABackup (numbered w.backups n) (numbered v.backups n) y (λ c g. only.backups n c (spared kind.Backup n other) g) h
    stays_by kind.Witness n y other h = stays_mapped AWitness (numbered w.witnesses n) (numbered v.witnesses n) y (λ c g. only.witnesses n c (spared kind.Witness n other) g) h
    stays_by kind.Manager n y other h =
        let g = manager_there w n y h in
        let apart : record { kind = kind.Manager; number = 0 } ≢ k = subst (λ (m : ℕ). record { kind = kind.Manager; number = m } ≢ k) g.0 other in
        rw (only.manager (no_manager apart)) h

-- ---- nodes that come to be

module _ (w : World) (s : Step) (v : World) (after : After w s v) (h : Header) (sets : w.sets ≡ h.sets) (ways : w.ways ≡ h.ways) where
  fresh_by : (a : NodeKind) (n : ℕ) (y : NodeState) → state_by w a n ≡ None → state_by v a n ≡ Some y → y ≡ fresh_state h a
  fresh_by kind.Client n y none at =
      let c = mapped AClient (numbered v.clients n) y at in
      elim (after.clients n c.0 c.1) [
        | ClientStays was ↦ absurd (no_two (numbered w.clients n) c.0 (unmapped AClient (numbered w.clients n) none) was)
        | ClientMoves b given was gave taken is ↦ absurd (no_two (numbered w.clients n) b (unmapped AClient (numbered w.clients n) none) was)
      ]
  fresh_by kind.Master n y none at =
      let c = mapped AMaster (numbered v.masters n) y at in
      elim (after.masters n c.0 c.1) [
        | MasterStays was ↦ absurd (no_two (numbered w.masters n) c.0 (unmapped AMaster (numbered w.masters n) none) was)
        | MasterMoves b given was gave is ↦ absurd (no_two (numbered w.masters n) b (unmapped AMaster (numbered w.masters n) none) was)
        | MasterNew was is ↦ sym c.2 ∙ ap AMaster is
      ]
  fresh_by kind.Backup n y none at =
      let c = mapped ABackup (numbered v.backups n) y at in
      elim (after.backups n c.0 c.1) [
        | BackupStays was ↦ absurd (no_two (numbered w.backups n) c.0 (unmapped ABackup (numbered w.backups n) none) was)
        | BackupMoves b given was gave is ↦ absurd (no_two (numbered w.backups n) b (unmapped ABackup (numbered w.backups n) none) was)
        | BackupNew was is ↦ sym c.2 ∙ ap ABackup is
      ]
  fresh_by kind.Witness n y none at =
      let c = mapped AWitness (numbered v.witnesses n) y at in
      elim (after.witnesses n c.0 c.1) [
        | WitnessStays was ↦ absurd (no_two (numbered w.witnesses n) c.0 (unmapped AWitness (numbered w.witnesses n) none) was)
        | WitnessMoves b given was gave is ↦ absurd (no_two (numbered w.witnesses n) b (unmapped AWitness (numbered w.witnesses n) none) was)
        | WitnessNew was is ↦ sym c.2 ∙ (ap AWitness is ∙ (rw (sets, ways) refl))
      ]
  fresh_by kind.Manager n y none at =
      let g = manager_there v n y at in
      absurd (no_two (state_by w kind.Manager n) (AManager w.manager) none (rw g.0 refl))

-- ---- what every step keeps of the shape of witnesses

pub record SameShape (w v : World) : Type 0 where
  pub sets : v.sets ≡ w.sets
  pub ways : v.ways ≡ w.ways

module _ (w : World) where
  shape_one : {S : Type 0} (move : S → Moved World) (o : Option S) → ((x : S) → SameShape w (move x).state) → SameShape w (moves_one w move o).state
  shape_one move None same = record { sets = refl; ways = refl }
  shape_one move (Some x) same = same x

  shape_by : (a : NodeKind) (n : ℕ) (given : Input) → SameShape w (moves_kind w a n given).state
  shape_by kind.Manager n given = record { sets = refl; ways = refl }
  shape_by kind.Client n given = shape_one _ (numbered w.clients n) (λ c. record { sets = refl; ways = refl })
  shape_by kind.Master n given = shape_one _ (numbered w.masters n) (λ c. record { sets = refl; ways = refl })
  shape_by kind.Backup n given = shape_one _ (numbered w.backups n) (λ c. record { sets = refl; ways = refl })
  shape_by kind.Witness n given = shape_one _ (numbered w.witnesses n) (λ c. record { sets = refl; ways = refl })

-- ---- a step that gives a node something moves it alone

pub record Moves (h : Header) (w : World) (k : NodeId) (r : Moved NodeState) (v : Stepped) : Type 0 where
  pub sent : messages v.world ≡ messages w ++ r.messages
  pub completed : v.outcome.completed ≡ r.completed
  pub made : v.outcome.result ≡ Done
  pub here : state_of v.world k ≡ Some r.state
  pub there : (j : NodeId) → j ≢ k → (y : NodeState) → state_of w j ≡ Some y → state_of v.world j ≡ Some y
  pub fresh : (j : NodeId) (y : NodeState) → state_of w j ≡ None → state_of v.world j ≡ Some y → y ≡ fresh_state h j.kind
  pub stopped : v.world.stopped ≡ w.stopped
  pub shape : SameShape w v.world

pub moved : (h : Header) (w : World) (s : Step) (k : NodeId) (given : Input) (x : NodeState) → w.sets ≡ h.sets → w.ways ≡ h.ways → deed_of w s ≡ Gives k given → result_of w s ≡ Done
    → state_of w k ≡ Some x → Moves h w k (machine_of k x given) (step w s)
moved h w s k given x sets ways deed made at =
    let says = move_says w k given x at in
    let kept_shape = shape_by w k.kind k.number given in
    let events : List Event = events_of w (Gives k given) in
    let out : List Message = (moves w k given).messages in
    record {
      sent = gives_world w s k given deed (λ (v : Stepped). messages v.world ≡ messages w ++ (machine_of k x given).messages) made
          (all_of-kept w.sent out ∙ ap (λ ms. messages w ++ ms) says.messages);
      completed = gives_world w s k given deed (λ (v : Stepped). v.outcome.completed ≡ (machine_of k x given).completed) made says.completed;
      made = gives_world w s k given deed (λ (v : Stepped). v.outcome.result ≡ Done) made refl;
      here = gives_world w s k given deed (λ (v : Stepped). state_of v.world k ≡ Some (machine_of k x given).state) made (move_here w events k given x at);
      there = λ j other y was. stays_by (deed_of w s) k given deed w (step w s).world x at (only_moves w s) j.kind j.number y other was;
      fresh = λ j y none now. fresh_by w s (step w s).world (step_after w s) h sets ways j.kind j.number y none now;
      stopped = stops_only_by_stop w s (gives_stops_none w s k given deed);
      shape = gives_world w s k given deed (λ (v : Stepped). SameShape w v.world) made (record { sets = kept_shape.sets; ways = kept_shape.ways });
    }
