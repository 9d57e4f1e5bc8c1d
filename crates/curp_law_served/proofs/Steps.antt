-- What a delivery does to the world, by its addressee.
use Rattle.std.proofs.Common.{◌≡◌, ◌≤◌, ◌<◌, ◌⊎◌, inl, inr, ℕ, zero, suc, ◌+◌, ◌-◌, Bool, true, false, List, [], ◌∷◌, ◌++◌, length, set, nat_lt, ◌&&◌, ◌||◌, cond, Option, Some, None, refl, ap, sym, ◌∙◌, subst, arith, append-nil}
use Rattle.std.proofs.lemmas.Bool.{cases_lt, ltb-true}
use Rattle.curp_base.specs.Words.{At, all_of, numbered, rises_past}
use Rattle.curp_base.proofs.Lists.{at_append, at_append_cases, at_append_right, at_same, at_within}
use Rattle.curp_base.proofs.Numbered.{all_of-push, numbered_set_same}
use Rattle.curp_cmd.specs.Node.{backup_node, client_node, manager_node, master_node, witness_node}
use Rattle.curp_cmd.specs.declared.node.NodeId.{NodeId}
use Rattle.curp_msg.specs.Moved.{Moved, quiet, says, sends, within}
use Rattle.curp_msg.specs.declared.body.Body.{Body}
use Rattle.curp_msg.specs.declared.body.Body.TheVariants as body
use Rattle.curp_msg.specs.Input as input
use Rattle.curp_msg.specs.declared.message.Message.{Message}
use Rattle.curp_msg.specs.declared.outcome.StepResult.{StepResult}
use Rattle.curp_msg.specs.declared.outcome.StepResult.TheVariants.{Done}
use Rattle.curp_msg.specs.declared.script.Step.TheVariants as steps
use Rattle.curp_facts.specs.Facts.{IsAmong}
use Rattle.curp_model.specs.Backup.{BackupState, backup_input, on_backup}
use Rattle.curp_model.specs.Client.{ClientState, client_input, on_client}
use Rattle.curp_model.specs.Manager.{ManagerState, adopted_by, counter_ends, last_number, on_manager}
use Rattle.curp_model.specs.Master.{MasterState, on_serving}
use Rattle.curp_model.specs.Recovery.{MasterStage, Serving, master_input, on_master}
use Rattle.curp_model.specs.Witness.{WitnessState, on_witness, witness_input}
use Rattle.curp_model.specs.World.{World, Deed, Gives, deed_of, delivery, messages, moves, result_of, moves_one, step, steps_by, with_backup, with_batch, with_client, with_manager, with_master, with_witness}
use Rattle.curp_law_steps.proofs.Gives.{its_result}
use Rattle.curp_law_served.specs.Calm.{IsUndelivered}

-- the world has moved by a message
pub record Delivered (w v : World) (x : Message) : Type 0 where
  pub clients : v.clients ≡ (moves w x.to (input.Message x)).state.clients
  pub manager : v.manager ≡ (moves w x.to (input.Message x)).state.manager
  pub masters : v.masters ≡ (moves w x.to (input.Message x)).state.masters
  pub backups : v.backups ≡ (moves w x.to (input.Message x)).state.backups
  pub witnesses : v.witnesses ≡ (moves w x.to (input.Message x)).state.witnesses
  pub said : messages v ≡ messages w ++ (moves w x.to (input.Message x)).messages

pub sent_more : (sent : List (List Message)) (ms : List Message) → all_of (with_batch sent ms) ≡ all_of sent ++ ms
sent_more sent [] = sym (append-nil (all_of sent))
sent_more sent (x ∷ xs) = all_of-push sent (x ∷ xs)

-- a delivery that is made
pub delivered : (w : World) (done : ℕ) (x : Message) → At (messages w) done x
    → (step w (steps.Deliver (suc done))).outcome.result ≡ Done
    → Delivered w (step w (steps.Deliver (suc done))).world x
unfolding step
delivered w done x at made = go (deed_of w (steps.Deliver (suc done))) (ap delivery at) (result_of w (steps.Deliver (suc done)))
    (sym (its_result w (deed_of w (steps.Deliver (suc done))) (result_of w (steps.Deliver (suc done)))) ∙ made)
  where
    is_made : Delivered w (steps_by w (Gives x.to (input.Message x)) Done).world x
    is_made = record { clients = refl; manager = refl; masters = refl; backups = refl; witnesses = refl; said = sent_more w.sent (moves w x.to (input.Message x)).messages }

    go : (deed : Deed) → deed ≡ Gives x.to (input.Message x) → (r : StepResult) → r ≡ Done
        → Delivered w (steps_by w deed r).world x
    go deed e r f = subst (λ (s : StepResult). Delivered w (steps_by w deed s).world x) (sym f) (subst (λ (d : Deed). Delivered w (steps_by w d Done).world x) (sym e) is_made)

-- ---- what is on its way then

module _ (w v : World) (done : ℕ) (x : Message) (at : At (messages w) done x) (more : List Message)
    (said : messages v ≡ messages w ++ more) where
  -- what was is what was delivered, or still is
  pub splits : (y : Message) → IsUndelivered w done y → (y ≡ x) ⊎ IsUndelivered v (suc done) y
  splits y due = by (due.0) due.1 due.2
    where
      later : (k : ℕ) → done < k → At (messages w) k y → IsUndelivered v (suc done) y
      later k low h = (k, omega (arith, low), subst (λ (l : List Message). At l k y) (sym said) (at_append (messages w) more k y h))

      by : (k : ℕ) → done ≤ k → At (messages w) k y → (y ≡ x) ⊎ IsUndelivered v (suc done) y
      by k low h = elim (cases_lt done k) [
        | inl less ↦ inr (later k less h)
        | inr more ↦ inl (let same : k ≡ done = omega (arith, low, more) in at_same (messages w) done y x (subst (λ (i : ℕ). At (messages w) i y) same h) at)
      ]

  -- what is sent is on its way
  pub new_due : (y : Message) → IsAmong y more → IsUndelivered v (suc done) y
  new_due y a = (length (messages w) + a.place, omega (arith, at_within (messages w) done x at), subst (λ (l : List Message). At l (length (messages w) + a.place) y) (sym said) (at_append_right (messages w) more a.place (length (messages w) + a.place) y refl a.stands))

  -- nothing else is
  pub due_from : (y : Message) → IsUndelivered v (suc done) y → IsUndelivered w done y ⊎ IsAmong y more
  due_from y due = elim (at_append_cases (messages w) more due.0 y (subst (λ (l : List Message). At l due.0 y) said due.2)) [
    | inl old ↦ inl (due.0, omega (arith, due.1), old)
    | inr new ↦ inr (record { place = new.0; stands = new.2 })
  ]

-- ---- by the addressee

-- master q has moved
pub record MasterDid (w v : World) (q : ℕ) (r : Moved MasterState) : Type 0 where
  pub clients : v.clients ≡ w.clients
  pub manager : v.manager ≡ w.manager
  pub backups : v.backups ≡ w.backups
  pub master : numbered v.masters q ≡ Some (Serving r.state)
  pub said : messages v ≡ messages w ++ r.messages

pub master_did : (w v : World) (x : Message) (q : ℕ) (m : MasterState) → Delivered w v x → x.to ≡ master_node q
    → numbered w.masters q ≡ Some (Serving m) → MasterDid w v q (on_serving q m x.from x.body)
unfolding on_master
master_did w v x q m did to is =
    let e : moves w x.to (input.Message x) ≡ moved = ap (λ (node : NodeId). moves w node (input.Message x)) to ∙ at_master in
    record {
      clients = did.clients ∙ ap (λ (r : Moved World). r.state.clients) e;
      manager = did.manager ∙ ap (λ (r : Moved World). r.state.manager) e;
      backups = did.backups ∙ ap (λ (r : Moved World). r.state.backups) e;
      master = subst (λ (l : List MasterStage). numbered l q ≡ Some (Serving (on_serving q m x.from x.body).state)) (sym (did.masters ∙ ap (λ (r : Moved World). r.state.masters) e))
          (numbered_set_same w.masters q (Serving m) (Serving (on_serving q m x.from x.body).state) is);
      said = did.said ∙ ap (λ (r : Moved World). messages w ++ r.messages) e;
    }
  where
    moved : Moved World
    moved = within (with_master w q (input.Message x) (Serving m)) (within Serving (on_serving q m x.from x.body))

    at_master : moves w (master_node q) (input.Message x) ≡ moved
    at_master = ap (λ (o : Option MasterStage). moves_one w (λ k. within (with_master w q (input.Message x) k) (master_input q k (input.Message x))) o) is

-- the only client has moved
pub record ClientDid (w v : World) (r : Moved ClientState) : Type 0 where
  pub clients : v.clients ≡ r.state ∷ []
  pub manager : v.manager ≡ w.manager
  pub backups : v.backups ≡ w.backups
  pub masters : v.masters ≡ w.masters
  pub said : messages v ≡ messages w ++ r.messages

pub client_did : (w v : World) (x : Message) (cl : ClientState) → Delivered w v x → x.to ≡ client_node 1
    → w.clients ≡ cl ∷ [] → ClientDid w v (on_client 1 cl x.from x.body)
client_did w v x cl did to is =
    let e : moves w x.to (input.Message x) ≡ moved = ap (λ (node : NodeId). moves w node (input.Message x)) to ∙ at_client in
    record {
      clients = did.clients ∙ ap (λ (r : Moved World). r.state.clients) e ∙ ap (λ (l : List ClientState). set l 0 (on_client 1 cl x.from x.body).state) is;
      manager = did.manager ∙ ap (λ (r : Moved World). r.state.manager) e;
      backups = did.backups ∙ ap (λ (r : Moved World). r.state.backups) e;
      masters = did.masters ∙ ap (λ (r : Moved World). r.state.masters) e;
      said = did.said ∙ ap (λ (r : Moved World). messages w ++ r.messages) e;
    }
  where
    moved : Moved World
    moved = within (with_client w 1) (on_client 1 cl x.from x.body)

    at_client : moves w (client_node 1) (input.Message x) ≡ moved
    at_client = ap (λ (l : List ClientState). moves_one w (λ k. within (with_client w 1) (client_input 1 k (input.Message x))) (numbered l 1)) is

-- a backup has moved
pub record BackupDid (w v : World) (number : ℕ) (r : Moved BackupState) : Type 0 where
  pub clients : v.clients ≡ w.clients
  pub manager : v.manager ≡ w.manager
  pub backups : v.backups ≡ set w.backups (number - 1) r.state
  pub masters : v.masters ≡ w.masters
  pub said : messages v ≡ messages w ++ r.messages

pub backup_did : (w v : World) (x : Message) (number : ℕ) (b : BackupState) → Delivered w v x
    → x.to ≡ backup_node number → numbered w.backups number ≡ Some b
    → BackupDid w v number (on_backup number b x.from x.body)
backup_did w v x number b did to is =
    let e : moves w x.to (input.Message x) ≡ moved = ap (λ (node : NodeId). moves w node (input.Message x)) to ∙ at_backup in
    record {
      clients = did.clients ∙ ap (λ (r : Moved World). r.state.clients) e;
      manager = did.manager ∙ ap (λ (r : Moved World). r.state.manager) e;
      backups = did.backups ∙ ap (λ (r : Moved World). r.state.backups) e;
      masters = did.masters ∙ ap (λ (r : Moved World). r.state.masters) e;
      said = did.said ∙ ap (λ (r : Moved World). messages w ++ r.messages) e;
    }
  where
    moved : Moved World
    moved = within (with_backup w number) (on_backup number b x.from x.body)

    at_backup : moves w (backup_node number) (input.Message x) ≡ moved
    at_backup = ap (λ (o : Option BackupState). moves_one w (λ k. within (with_backup w number) (backup_input number k (input.Message x))) o) is

-- a witness has moved
pub record WitnessDid (w v : World) (r : Moved WitnessState) : Type 0 where
  pub clients : v.clients ≡ w.clients
  pub manager : v.manager ≡ w.manager
  pub backups : v.backups ≡ w.backups
  pub masters : v.masters ≡ w.masters
  pub said : messages v ≡ messages w ++ r.messages

pub witness_did : (w v : World) (x : Message) (number : ℕ) (y : WitnessState) → Delivered w v x
    → x.to ≡ witness_node number → numbered w.witnesses number ≡ Some y
    → WitnessDid w v (on_witness number y x.from x.body)
witness_did w v x number y did to is =
    let e : moves w x.to (input.Message x) ≡ moved = ap (λ (node : NodeId). moves w node (input.Message x)) to ∙ at_witness in
    record {
      clients = did.clients ∙ ap (λ (r : Moved World). r.state.clients) e;
      manager = did.manager ∙ ap (λ (r : Moved World). r.state.manager) e;
      backups = did.backups ∙ ap (λ (r : Moved World). r.state.backups) e;
      masters = did.masters ∙ ap (λ (r : Moved World). r.state.masters) e;
      said = did.said ∙ ap (λ (r : Moved World). messages w ++ r.messages) e;
    }
  where
    moved : Moved World
    moved = within (with_witness w number) (on_witness number y x.from x.body)

    at_witness : moves w (witness_node number) (input.Message x) ≡ moved
    at_witness = ap (λ (o : Option WitnessState). moves_one w (λ k. within (with_witness w number) (witness_input number k (input.Message x))) o) is

-- ---- the manager answers a fetch

pub same_never : (last n : ℕ) → rises_past last n n ≡ false
same_never last n = by (nat_lt n n) refl
  where
    by : (t : Bool) → nat_lt n n ≡ t → (t && nat_lt last n) ≡ false
    by true e = absurd (omega (arith, ltb-true n n e))
    by false e = refl

pub or_none : (x y : Bool) → x ≡ false → y ≡ false → (x || y) ≡ false
or_none false y e f = f
or_none true y e f = absurd cc

pub fetched : (g : ManagerState) (from : NodeId)
    → on_manager g from body.Fetch ≡ sends g (says manager_node from (body.Configuration g.config) ∷ [])
unfolding on_manager
fetched g from = by (counter_ends g.next g.next || rises_past last_number g.config.serial g.config.serial)
    (or_none _ _ (or_none _ _ (or_none _ _ (or_none _ _ (or_none _ _ (or_none _ _ (same_never last_number g.next.epoch) (same_never last_number g.next.version)) (same_never last_number g.next.master)) (same_never last_number g.next.backup))
    (same_never last_number g.next.witness)) (same_never last_number g.next.migration)) (same_never last_number g.config.serial))
  where
    by : (t : Bool) → t ≡ false
        → cond t (quiet g) (sends g (says manager_node from (body.Configuration g.config) ∷ [])) ≡ sends g (says manager_node from (body.Configuration g.config) ∷ [])
    by false e = refl
    by true e = absurd cc

-- the manager has answered a fetch
pub record FetchDid (w v : World) (from : NodeId) : Type 0 where
  pub clients : v.clients ≡ w.clients
  pub manager : v.manager ≡ w.manager
  pub backups : (n : ℕ) (b : BackupState) → numbered w.backups n ≡ Some b → numbered v.backups n ≡ Some b
  pub masters : (n : ℕ) (b : MasterStage) → numbered w.masters n ≡ Some b → numbered v.masters n ≡ Some b
  pub said : messages v ≡ messages w ++ says manager_node from (body.Configuration w.manager.config) ∷ []

pub numbered_more : {A : Type 0} (xs ys : List A) (n : ℕ) (x : A) → numbered xs n ≡ Some x
    → numbered (xs ++ ys) n ≡ Some x
numbered_more xs ys zero x h = absurd cc
numbered_more xs ys (suc k) x h = at_append xs ys k x h

pub fetch_did : (w v : World) (x : Message) → Delivered w v x → x.to ≡ manager_node → x.body ≡ body.Fetch
    → FetchDid w v x.from
fetch_did w v x did to is =
    let e : moves w x.to (input.Message x) ≡ moved = ap (λ (node : NodeId). moves w node (input.Message x)) to ∙ at_manager in
    record {
      clients = did.clients ∙ ap (λ (r : Moved World). r.state.clients) e;
      manager = did.manager ∙ ap (λ (r : Moved World). r.state.manager) e;
      backups = λ n b h. subst (λ (l : List BackupState). numbered l n ≡ Some b) (sym (did.backups ∙ ap (λ (r : Moved World). r.state.backups) e)) (numbered_more w.backups _ n b h);
      masters = λ n b h. subst (λ (l : List MasterStage). numbered l n ≡ Some b) (sym (did.masters ∙ ap (λ (r : Moved World). r.state.masters) e)) (numbered_more w.masters _ n b h);
      said = did.said ∙ ap (λ (r : Moved World). messages w ++ r.messages) e;
    }
  where
    answer : Moved ManagerState
    answer = sends w.manager (says manager_node x.from (body.Configuration w.manager.config) ∷ [])

    moved : Moved World
    moved = within (with_manager w None) answer

    at_manager : moves w manager_node (input.Message x) ≡ moved
    at_manager = ap (λ (b : Body). within (with_manager w (adopted_by w.manager b)) (on_manager w.manager x.from b)) is ∙ ap (λ (r : Moved ManagerState). within (with_manager w None) r) (fetched w.manager x.from)
