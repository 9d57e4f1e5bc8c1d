-- A step that gives a node of the world something, which isn't stopped and doesn't refuse it, is made, or the messages weigh too much.
use Rattle.std.proofs.Common.{◌≡◌, ◌⊎◌, ◌==◌, inl, inr, ℕ, zero, suc, ◌≤◌, not, Bool, true, false, List, [], ◌∷◌, length, Option, Some, None, is_some, refl, ap, sym, ◌∙◌, subst, arith}
use Rattle.std.specs.Bool.{⊤}
use Rattle.std.specs.List.{list_all, list_any}
use Rattle.curp_base.specs.Cases.{first_case, only_if}
use Rattle.curp_base.specs.Words.{At, numbered}
use Rattle.curp_base.proofs.Lists.{at_some}
use Rattle.curp_cmd.specs.declared.node.NodeId.{NodeId}
use Rattle.curp_cmd.specs.declared.node.NodeKind.{NodeKind}
use Rattle.curp_cmd.specs.declared.node.NodeKind.TheVariants as kind
use Rattle.curp_msg.specs.Moved.{within}
use Rattle.curp_msg.specs.Input.{Input}
use Rattle.curp_msg.specs.Input as input
use Rattle.curp_msg.specs.declared.message.Message.{Message}
use Rattle.curp_msg.specs.declared.outcome.StepResult.TheVariants.{Done, Full, Gone, Manager, NoMessage, NoNode, Refused}
use Rattle.curp_msg.specs.declared.script.Step.{Step}
use Rattle.curp_msg.specs.declared.script.Step.TheVariants as steps
use Rattle.curp_model.specs.Backup.{BackupState, backup_input}
use Rattle.curp_model.specs.Client.{ClientState, client_input}
use Rattle.curp_model.specs.Manager.{ManagerState, manager_input}
use Rattle.curp_model.specs.Named.{IsNode, IsNodeOf}
use Rattle.curp_model.specs.Recovery.{MasterStage, master_input}
use Rattle.curp_model.specs.Witness.{WitnessState, witness_input}
use Rattle.curp_model.specs.World.{Deed, Gives, World, deed_of, delivery, effect, has_node, is_lost, is_stopped, is_there, is_too_much, messages, moves, moves_kind, moves_one, names_nobody, names_stopped, refusal, result_of, step, stops_manager, subject, weight, with_backup, with_client, with_master, with_witness}
use Rattle.curp_law_kept.specs.After.{ManagerAfter, ManagerMoves, ManagerStays}
use Rattle.curp_law_kept.proofs.Gives.{step_after, backup_effect, witness_effect}
use Rattle.curp_law_steps.proofs.Gives.{its_result}
use Rattle.curp_law_served.proofs.Clients.{client_told}
use Rattle.curp_law_served.proofs.Followed.{Follows}
use Rattle.curp_law_served.proofs.Managers.{manager_takes}
use Rattle.curp_law_served.proofs.RoundsRise.{input_within}

-- it is made, or the messages weigh too much
abbrev pub IsMade : World → Step → Type 0
IsMade w s = ((step w s).outcome.result ≡ Done) ⊎ ((step w s).outcome.result ≡ Full (weight w))

by_causes : (lost nobody manager stopped much refused : Bool) (heavy number : ℕ) → lost ≡ false → nobody ≡ false
    → manager ≡ false → stopped ≡ false → refused ≡ false
    → let r = first_case (only_if lost NoMessage ∷ only_if nobody NoNode ∷ only_if manager Manager ∷ only_if stopped Gone ∷ only_if much (Full heavy) ∷ only_if refused (Refused number) ∷ []) Done in (r ≡ Done) ⊎ (r ≡ Full heavy)
by_causes false false false false true refused heavy number a b c d e = inr refl
by_causes false false false false false false heavy number a b c d e = inl refl
by_causes false false false false false true heavy number a b c d e = absurd cc
by_causes true nobody manager stopped much refused heavy number a b c d e = absurd cc
by_causes false true manager stopped much refused heavy number a b c d e = absurd cc
by_causes false false true stopped much refused heavy number a b c d e = absurd cc
by_causes false false false true much refused heavy number a b c d e = absurd cc

-- a step that a served run makes but for a stop, since that names one node alone
abbrev pub NamesOne : Step → Type 0
NamesOne (steps.Expire n) = ⊥
NamesOne _ = ⊤

module _ (w : World) (s : Step) (one : NamesOne s) (to : NodeId) (given : Input) (deed : deed_of w s ≡ Gives to given)
    (here : has_node w to ≡ true) (runs : is_stopped w to ≡ false) (taken : (moves w to given).refused ≡ 0) where
  delivered : (o : Option Message) → delivery o ≡ Gives to given → not (is_some o) ≡ false
  delivered None e = absurd cc
  delivered (Some m) e = refl

  not_lost : (t : Step) → deed_of w t ≡ Gives to given → is_lost w t ≡ false
  not_lost (steps.Deliver number) e = delivered (numbered (messages w) number) e
  not_lost t e = refl

  somebody : (t : Step) → NamesOne t → deed_of w t ≡ Gives to given → names_nobody w t ≡ false
  somebody (steps.Expire n) its e = absurd its
  somebody t its e = subst (λ (d : Deed). not (list_all (has_node w) (subject d)) ≡ false) (sym e) (rw here refl)

  not_manager : (t : Step) → deed_of w t ≡ Gives to given → stops_manager t ≡ false
  not_manager (steps.Stop node) e = absurd cc
  not_manager t e = refl

  pub gives_made : IsMade w s
  unfolding step
  gives_made =
      let r = by_causes (is_lost w s) (names_nobody w s) (stops_manager s) (names_stopped w s) (is_too_much w (deed_of w s)) (not (refusal w s == 0)) (weight w) (refusal w s)
      (not_lost s deed) (somebody s one deed) (not_manager s deed)
      (subst (λ (d : Deed). list_any (is_stopped w) (subject d) ≡ false) (sym deed) (rw runs refl))
      (subst (λ (d : Deed). not ((effect w d).refused == 0) ≡ false) (sym deed) (rw taken refl)) in
      elim r [ inl e ↦ inl (its_result w (deed_of w s) (result_of w s) ∙ e) | inr e ↦ inr (its_result w (deed_of w s) (result_of w s) ∙ e) ]

-- ---- a message

has_number : {A : Type 0} (xs : List A) (n : ℕ) → 1 ≤ n → n ≤ length xs → is_some (numbered xs n) ≡ true
has_number xs zero low high = absurd (omega (arith, low))
has_number {A} xs (suc k) low high = let x = at_some xs k (omega (arith, high)) in subst (λ (o : Option A). is_some o ≡ true) (sym x.1) refl

pub is_here : (w : World) (to : NodeId) → IsNode w to → has_node w to ≡ true
is_here w to is = by to.kind is
  where
    by : (k : NodeKind) → IsNodeOf w k to.number → is_there w k to.number ≡ true
    by kind.Manager is = rw is refl
    by kind.Client is = has_number w.clients to.number is.0 is.1
    by kind.Master is = has_number w.masters to.number is.0 is.1
    by kind.Backup is = has_number w.backups to.number is.0 is.1
    by kind.Witness is = has_number w.witnesses to.number is.0 is.1

-- no node refuses a message
pub message_taken : (w : World) (f n : ℕ) → Follows f w n → (to : NodeId) (x : Message)
    → (moves w to (input.Message x)).refused ≡ 0
message_taken w f n follows to x = by to.kind
  where
    by : (k : NodeKind) → (moves_kind w k to.number (input.Message x)).refused ≡ 0
    by kind.Manager = (manager_takes w.manager follows.still x.from x.body).0
    by kind.Client = client (numbered w.clients to.number)
      where
        client : (o : Option ClientState)
            → (moves_one w (λ c. within (with_client w to.number) (client_input to.number c (input.Message x))) o).refused ≡ 0
        client None = refl
        client (Some c) = (client_told to.number x.from x.body c).refused
    by kind.Master = master (numbered w.masters to.number) refl
      where
        master : (o : Option MasterStage) → numbered w.masters to.number ≡ o
            → (moves_one w (λ m. within (with_master w to.number (input.Message x) m) (master_input to.number m (input.Message x))) o).refused ≡ 0
        master None is = refl
        master (Some m) is = (input_within n to.number m (input.Message x) (follows.rounds to.number m is)).1
    by kind.Backup = backup (numbered w.backups to.number)
      where
        backup : (o : Option BackupState)
            → (moves_one w (λ b. within (with_backup w to.number) (backup_input to.number b (input.Message x))) o).refused ≡ 0
        backup None = refl
        backup (Some b) = (backup_effect to.number b (input.Message x)).obeys
    by kind.Witness = witness (numbered w.witnesses to.number)
      where
        witness : (o : Option WitnessState)
            → (moves_one w (λ y. within (with_witness w to.number) (witness_input to.number y (input.Message x))) o).refused ≡ 0
        witness None = refl
        witness (Some y) = (witness_effect to.number y (input.Message x)).obeys

-- a message that was sent comes, unless its addressee is stopped
pub delivery_made : (w : World) (f n : ℕ) → Follows f w n → (k : ℕ) (x : Message) → numbered (messages w) k ≡ Some x
    → IsNode w x.to → is_stopped w x.to ≡ false → IsMade w (steps.Deliver k)
delivery_made w f n follows k x at there runs =
    gives_made w (steps.Deliver k) tt x.to (input.Message x) (ap delivery at) (is_here w x.to there) runs (message_taken w f n follows x.to x)

-- a delivery takes no number of the manager
module _ (w : World) (f n : ℕ) (follows : Follows f w n) (done : ℕ) (x : Message) (at : At (messages w) done x) where
  given_is : (given : Input) (to : NodeId) (d : Deed) → d ≡ Gives x.to (input.Message x) → d ≡ Gives to given
      → given ≡ input.Message x
  given_is given to d p e = cc

  pub delivery_next : (step w (steps.Deliver (suc done))).world.manager.next ≡ w.manager.next
  delivery_next = by (step_after w (steps.Deliver (suc done))).manager
    where
      by : ManagerAfter w (steps.Deliver (suc done)) (step w (steps.Deliver (suc done))).world.manager
          → (step w (steps.Deliver (suc done))).world.manager.next ≡ w.manager.next
      by (ManagerStays e) = ap (λ (k : ManagerState). k.next) e
      by (ManagerMoves k given gave e) =
          ap (λ (k : ManagerState). k.next) e ∙ ap (λ (i : Input). (manager_input w.manager i).state.next) (given_is given _ (deed_of w (steps.Deliver (suc done))) (ap delivery at) gave.deed) ∙ (manager_takes w.manager follows.still x.from x.body).1
