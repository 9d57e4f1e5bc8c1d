-- A step moves no other node than the one that it gives something.
use Rattle.std.proofs.Common.{◌≡◌, ◌≢◌, ℕ, zero, suc, ◌-◌, List, replicate, length, Option, Some, None, refl, ap, sym}
use Rattle.curp_base.specs.Words.{numbered}
use Rattle.curp_base.proofs.Lists.{at_append}
use Rattle.curp_cmd.specs.declared.node.NodeId.{NodeId}
use Rattle.curp_cmd.specs.declared.node.NodeKind.{NodeKind}
use Rattle.curp_cmd.specs.declared.node.NodeKind.TheVariants.{Manager, Client, Master, Backup, Witness}
use Rattle.curp_msg.specs.Input.{Input}
use Rattle.curp_msg.specs.declared.outcome.StepResult.{StepResult}
use Rattle.curp_msg.specs.declared.outcome.StepResult.TheVariants.{Done, NoMessage, NoNode, Gone, Full, Refused}
use Rattle.curp_msg.specs.declared.outcome.StepResult.TheVariants as result
use Rattle.curp_msg.specs.declared.script.Step.{Step}
use Rattle.curp_msg.specs.declared.script.Step.TheVariants.{Stop}
use Rattle.curp_msg.specs.declared.script.Step.TheVariants as steps
use Rattle.curp_model.specs.Backup.{BackupState, backup_input}
use Rattle.curp_model.specs.Client.{ClientState, client_input}
use Rattle.curp_model.specs.Recovery.{MasterStage, master_input}
use Rattle.curp_model.specs.Witness.{WitnessState, witness_input}
use Rattle.curp_model.specs.World.{World, Deed, Nothing, Gives, Stops, deed_of, delivery, effect, grown, messages, moves_kind, result_of, step, steps_by}
use Rattle.curp_law_steps.specs.Named.{StopsNone}
use Rattle.curp_base.proofs.Numbered.{numbered_set_other}

-- ---- lists that are numbered from 1

numbered_grown : {A : Type 0} (xs : List A) (fresh : A) (next m : ℕ) (x : A) → numbered xs m ≡ Some x → numbered (grown xs fresh next) m ≡ Some x
numbered_grown xs fresh next zero x h = absurd cc
numbered_grown xs fresh next (suc j) x h = at_append xs (replicate ((next - 1) - length xs) fresh) j x h

-- ---- what a deed leaves

-- the node of a kind with a number
abbrev pub node : NodeKind → ℕ → NodeId
node kind n = record { kind = kind; number = n }

-- the deed gives that node nothing
abbrev pub Spares : Deed → NodeKind → ℕ → Type 0
Spares deed kind n = (given : Input) → deed ≢ Gives (node kind n) given

-- all nodes that are there, but for the one that gets something, have the states that they had
pub record OnlyMoves (deed : Deed) (w v : World) : Type 0 where
  pub clients : (n : ℕ) (x : ClientState) → Spares deed Client n → numbered w.clients n ≡ Some x → numbered v.clients n ≡ Some x
  pub masters : (n : ℕ) (x : MasterStage) → Spares deed Master n → numbered w.masters n ≡ Some x → numbered v.masters n ≡ Some x
  pub backups : (n : ℕ) (x : BackupState) → Spares deed Backup n → numbered w.backups n ≡ Some x → numbered v.backups n ≡ Some x
  pub witnesses : (n : ℕ) (x : WitnessState) → Spares deed Witness n → numbered w.witnesses n ≡ Some x → numbered v.witnesses n ≡ Some x
  pub manager : ((n : ℕ) → Spares deed Manager n) → v.manager ≡ w.manager
  pub stopped : ((other : NodeId) → deed ≢ Stops other) → v.stopped ≡ w.stopped

module _ (w : World) where
  nothing_moves : (deed : Deed) → OnlyMoves deed w w
  nothing_moves deed = record {
    clients = λ n x ne h. h;
    masters = λ n x ne h. h;
    backups = λ n x ne h. h;
    witnesses = λ n x ne h. h;
    manager = λ ne. refl;
    stopped = λ ne. refl;
  }

  -- another number, since this one gets something
  other_number : (kind : NodeKind) (n m : ℕ) (given : Input) → Spares (Gives (node kind m) given) kind n → n ≢ m
  other_number kind n m given spared e = spared given (ap (λ (k : ℕ). Gives (node kind k) given) (sym e))

  client_moves : (m : ℕ) (given : Input) (o : Option ClientState) → numbered w.clients m ≡ o → OnlyMoves (Gives (node Client m) given) w (moves_kind w Client m given).state
  client_moves m given None is = rw is (nothing_moves (Gives (node Client m) given))
  client_moves m given (Some c) is = rw is (record {
    clients = λ n x ne h. numbered_set_other w.clients m c (client_input m c given).state is n x (other_number Client n m given ne) h;
    masters = λ n x ne h. h;
    backups = λ n x ne h. h;
    witnesses = λ n x ne h. h;
    manager = λ ne. refl;
    stopped = λ ne. refl;
  })

  master_moves : (m : ℕ) (given : Input) (o : Option MasterStage) → numbered w.masters m ≡ o → OnlyMoves (Gives (node Master m) given) w (moves_kind w Master m given).state
  master_moves m given None is = rw is (nothing_moves (Gives (node Master m) given))
  master_moves m given (Some c) is = rw is (record {
    clients = λ n x ne h. h;
    masters = λ n x ne h. numbered_set_other w.masters m c (master_input m c given).state is n x (other_number Master n m given ne) h;
    backups = λ n x ne h. h;
    witnesses = λ n x ne h. h;
    manager = λ ne. refl;
    stopped = λ ne. refl;
  })

  backup_moves : (m : ℕ) (given : Input) (o : Option BackupState) → numbered w.backups m ≡ o → OnlyMoves (Gives (node Backup m) given) w (moves_kind w Backup m given).state
  backup_moves m given None is = rw is (nothing_moves (Gives (node Backup m) given))
  backup_moves m given (Some c) is = rw is (record {
    clients = λ n x ne h. h;
    masters = λ n x ne h. h;
    backups = λ n x ne h. numbered_set_other w.backups m c (backup_input m c given).state is n x (other_number Backup n m given ne) h;
    witnesses = λ n x ne h. h;
    manager = λ ne. refl;
    stopped = λ ne. refl;
  })

  witness_moves : (m : ℕ) (given : Input) (o : Option WitnessState) → numbered w.witnesses m ≡ o → OnlyMoves (Gives (node Witness m) given) w (moves_kind w Witness m given).state
  witness_moves m given None is = rw is (nothing_moves (Gives (node Witness m) given))
  witness_moves m given (Some c) is = rw is (record {
    clients = λ n x ne h. h;
    masters = λ n x ne h. h;
    backups = λ n x ne h. h;
    witnesses = λ n x ne h. numbered_set_other w.witnesses m c (witness_input m c given).state is n x (other_number Witness n m given ne) h;
    manager = λ ne. refl;
    stopped = λ ne. refl;
  })

  moving : (kind : NodeKind) (m : ℕ) (given : Input) → OnlyMoves (Gives (node kind m) given) w (moves_kind w kind m given).state
  moving Client m given = client_moves m given (numbered w.clients m) refl
  moving Master m given = master_moves m given (numbered w.masters m) refl
  moving Backup m given = backup_moves m given (numbered w.backups m) refl
  moving Witness m given = witness_moves m given (numbered w.witnesses m) refl
  moving Manager m given = record {
    clients = λ n x ne h. h;
    masters = λ n x ne h. numbered_grown w.masters _ _ n x h;
    backups = λ n x ne h. numbered_grown w.backups _ _ n x h;
    witnesses = λ n x ne h. numbered_grown w.witnesses _ _ n x h;
    manager = λ ne. absurd (ne m given refl);
    stopped = λ ne. refl;
  }

  doing : (deed : Deed) → OnlyMoves deed w (effect w deed).state
  doing Nothing = nothing_moves Nothing
  doing (Gives to given) = moving to.kind to.number given
  doing (Stops other) = record {
    clients = λ n x ne h. h;
    masters = λ n x ne h. h;
    backups = λ n x ne h. h;
    witnesses = λ n x ne h. h;
    manager = λ ne. refl;
    stopped = λ ne. absurd (ne other refl);
  }

  stepping : (deed : Deed) (r : StepResult) → OnlyMoves deed w (steps_by w deed r).world
  stepping deed Done =
      let d = doing deed in
      record { clients = d.clients; masters = d.masters; backups = d.backups; witnesses = d.witnesses; manager = d.manager; stopped = d.stopped }
  stepping deed NoMessage = nothing_moves deed
  stepping deed NoNode = nothing_moves deed
  stepping deed Gone = nothing_moves deed
  stepping deed result.Manager = nothing_moves deed
  stepping deed (Full weight) = nothing_moves deed
  stepping deed (Refused number) = nothing_moves deed

  pub only_moves : (s : Step) → OnlyMoves (deed_of w s) w (step w s).world
  unfolding step
  only_moves s = stepping (deed_of w s) (result_of w s)

  -- ---- stops, and what wasn't done

  delivers_no_stop : (o : Option _) (other : NodeId) → delivery o ≢ Stops other
  delivers_no_stop None other e = absurd cc
  delivers_no_stop (Some m) other e = absurd cc

  stops_none : (s : Step) → StopsNone s → (other : NodeId) → deed_of w s ≢ Stops other
  stops_none (steps.Deliver number) none other e = delivers_no_stop (numbered (messages w) number) other e
  stops_none (Stop node) none other e = none node refl
  stops_none s none other e = absurd cc

  pub stops_only_by_stop : (s : Step) → StopsNone s → (step w s).world.stopped ≡ w.stopped
  stops_only_by_stop s none = (only_moves s).stopped (stops_none s none)

  pub undone : (deed : Deed) (r : StepResult) → (steps_by w deed r).outcome.result ≢ Done → (steps_by w deed r).world ≡ w
  undone deed Done ne = absurd (ne refl)
  undone deed NoMessage ne = refl
  undone deed NoNode ne = refl
  undone deed Gone ne = refl
  undone deed result.Manager ne = refl
  undone deed (Full weight) ne = refl
  undone deed (Refused number) ne = refl

  pub its_result : (deed : Deed) (r : StepResult) → (steps_by w deed r).outcome.result ≡ r
  its_result deed Done = refl
  its_result deed NoMessage = refl
  its_result deed NoNode = refl
  its_result deed Gone = refl
  its_result deed result.Manager = refl
  its_result deed (Full weight) = refl
  its_result deed (Refused number) = refl
