-- The world of a served run while its master serves: what it keeps, and that each delivery, and each step that begins something, keeps
-- it.
use Rattle.std.proofs.Common.{◌≡◌, ◌≤◌, ◌<◌, ◌||◌, inl, inr, ℕ, suc, ◌+◌, ◌-◌, ◌^◌, Bool, true, false, List, [], ◌∷◌, ◌++◌, length, Option, Some, is_some, refl, ap, sym, ◌∙◌, subst, arith}
use Rattle.std.specs.List.{list_any}
use Rattle.curp_base.specs.Words.{At, numbered}
use Rattle.curp_base.proofs.Lists.{at_some}
use Rattle.curp_base.proofs.Numbered.{numbered_same}
use Rattle.curp_cmd.specs.Hash.{hashes}
use Rattle.curp_cmd.specs.Node.{client_node, manager_node, master_node, same_node}
use Rattle.curp_cmd.specs.Store.{NamesKey}
use Rattle.curp_cmd.specs.declared.command.Command.{Command}
use Rattle.curp_cmd.specs.declared.node.NodeId.{NodeId}
use Rattle.curp_cmd.specs.declared.node.NodeKind.{NodeKind}
use Rattle.curp_cmd.specs.declared.node.NodeKind.TheVariants as kind
use Rattle.curp_cmd.proofs.Nodes.{same_node-true}
use Rattle.curp_msg.specs.Moved.{Moved, says, within}
use Rattle.curp_msg.specs.declared.body.Body.{Body}
use Rattle.curp_msg.specs.declared.body.Body.TheVariants as body
use Rattle.curp_msg.specs.declared.config.Config.{Config}
use Rattle.curp_msg.specs.declared.config.PartConfig.{PartConfig}
use Rattle.curp_msg.specs.Input.{Input}
use Rattle.curp_msg.specs.Input as input
use Rattle.curp_msg.specs.declared.machine.Local.{Local}
use Rattle.curp_msg.specs.declared.machine.Local.TheVariants as local
use Rattle.curp_msg.specs.declared.message.Message.{Message}
use Rattle.curp_msg.specs.declared.outcome.StepResult.{StepResult}
use Rattle.curp_msg.specs.declared.outcome.StepResult.TheVariants.{Done}
use Rattle.curp_msg.specs.declared.script.Step.{Step}
use Rattle.curp_msg.specs.declared.script.Step.TheVariants as steps
use Rattle.curp_order.specs.declared.Event.TheVariants.{Invoke}
use Rattle.curp_facts.specs.Facts.{IsAmong}
use Rattle.curp_facts.specs.Fits.{addressee_kind}
use Rattle.curp_facts.specs.Growth.{Grows}
use Rattle.curp_facts.specs.Known.{Known}
use Rattle.curp_model.specs.Client.{ClientState, client_input, client_ordered, fetch, next_id, next_request, sends_first}
use Rattle.curp_model.specs.Manager.{ManagerState, Next}
use Rattle.curp_model.specs.Master.{MasterState}
use Rattle.curp_model.specs.Ranges.{owns_all}
use Rattle.curp_model.specs.Recovery.{MasterStage, Serving, master_input}
use Rattle.curp_range.specs.Spans.{Span}
use Rattle.curp_model.specs.Named.{IsNode, IsNodeOf}
use Rattle.curp_model.specs.World.{Gives, World, deed_of, invocation_of, is_stopped, kept, messages, moves, moves_one, result_of, step, steps_by, with_client, with_master}
use Rattle.curp_law_kept.specs.After.{ClientAfter, ClientMoves, ClientStays}
use Rattle.curp_law_kept.proofs.Gives.{step_after, step_grows, fits, known_step}
use Rattle.curp_law_steps.specs.Named.{StopsNone}
use Rattle.curp_law_steps.proofs.Gives.{its_result, only_moves, stops_only_by_stop}
use Rattle.curp_law_served.specs.Calm.{Calm, FitsIn}
use Rattle.curp_law_served.specs.Grounds.{Grounds, IsCalm}
use Rattle.curp_law_served.specs.Learns.{ClientLearns, IsBehindEntry}
use Rattle.curp_law_served.proofs.QuietLaws.{delivers_on, none_left}
use Rattle.curp_law_served.proofs.Learns.{learns_on, learnt_at_end}
use Rattle.curp_law_served.proofs.Starts.{Gave, collect_calm, fetch_calm, gave, invoke_calm, invoked, sent_due, sync_calm}
use Rattle.curp_law_served.proofs.Steps.{delivered}
use Rattle.curp_law_served.specs.Served.{most_steps}
use Rattle.curp_law_served.proofs.Clients.{client_goes}
use Rattle.curp_law_served.proofs.Followed.{Follows, IsServedStep, follows_step, served_input}
use Rattle.curp_law_served.proofs.Grounding.{Homes, grounds}
use Rattle.curp_law_served.proofs.Made.{IsMade, delivery_made, delivery_next, gives_made}
use Rattle.curp_law_served.proofs.Managers.{IsOlder}
use Rattle.curp_law_served.proofs.Owning.{whole_owns}
use Rattle.curp_law_served.proofs.RoundsRise.{input_within}

-- ---- who is stopped

-- none but masters below a number
abbrev pub StoppedBelow : World → ℕ → Type 0
StoppedBelow w q = (s : NodeId) → IsAmong s w.stopped → (k : ℕ) × (s ≡ master_node k) × (k < q)

-- so a node that is none of them isn't
pub runs : (w : World) (q : ℕ) → StoppedBelow w q → (to : NodeId) → ((k : ℕ) → to ≡ master_node k → q ≤ k)
    → is_stopped w to ≡ false
runs w q below to other = go w.stopped (λ s a. apart s (below s a))
  where
    apart : (s : NodeId) → (k : ℕ) × (s ≡ master_node k) × (k < q) → same_node to s ≡ true → ⊥
    apart s is e = (let high = other is.0 (same_node-true to s e ∙ is.1) in absurd (omega (arith, high, is.2)))

    go : (xs : List NodeId) → ((s : NodeId) → IsAmong s xs → same_node to s ≡ true → ⊥)
        → list_any (same_node to) xs ≡ false
    go [] none = refl
    go (s ∷ xs) none = by (same_node to s) refl (go xs (λ x a. none x (record { place = suc a.place; stands = a.stands })))
      where
        by : (t : Bool) → same_node to s ≡ t → list_any (same_node to) xs ≡ false
            → (t || list_any (same_node to) xs) ≡ false
        by false e rest = rest
        by true e rest = absurd (none s (record { place = 0; stands = refl }) e)

-- ---- what is kept

-- after so many steps, with so many messages delivered, its master q serves by the entry c, which owns all hashes
pub record Serves (f n : ℕ) (w : World) (done : ℕ) (c : PartConfig) (q : ℕ) : Type 0 where
  pub known : Known w
  pub follows : Follows f w n
  pub calm : IsCalm w done c q
  pub homes : Homes w c
  pub newest : w.manager.next.epoch ≡ c.epoch + 1
  pub ranges : c.ranges ≡ (0, 2 ^ 64 - 1) ∷ []
  pub stopped : StoppedBelow w q

module _ {f n : ℕ} {w : World} {done : ℕ} {c : PartConfig} {q : ℕ} (s : Serves f n w done c q) where
  abbrev pub its_master : MasterState
  its_master = s.calm.0

  abbrev pub its_client : ClientState
  its_client = s.calm.1

  pub calmly : Calm w done c q its_master its_client
  calmly = s.calm.2

  pub grounded : n ≤ most_steps → Grounds w done c its_master its_client
  grounded few = grounds s.known f n s.follows few done c q its_master its_client calmly s.homes s.newest

  pub behind : IsBehindEntry w c its_client
  behind = by (s.follows.configs 1 its_client (ap (λ (cs : List ClientState). numbered cs 1) calmly.client))
    where
      by : IsOlder w.manager.config its_client.config → IsBehindEntry w c its_client
      by (inl same) = inl (ap (λ (x : Config). x.parts) same ∙ calmly.manager)
      by (inr less) = inr less

  -- ---- after a step that keeps it calm

  module _ (x : Step) (its : IsServedStep x) where
    abbrev g : Grows w (step w x).world
    g = step_grows w x

    pub homes_stay : Homes (step w x).world c
    homes_stay k a =
        let home = s.homes k a in
        let later = g.backups k.number home.0 home.1 in
        (later.0, later.1, later.2.installed c.epoch home.2)

    pub serves_after : StopsNone x → (after : ℕ) → IsCalm (step w x).world after c q
        → (step w x).world.manager.next ≡ w.manager.next → Serves f (suc n) (step w x).world after c q
    serves_after none after calm next = record {
      known = known_step w s.known x;
      follows = follows_step s.known x its f n s.follows;
      calm = calm;
      homes = homes_stay;
      newest = ap (λ (k : Next). k.epoch) next ∙ s.newest;
      ranges = s.ranges;
      stopped = λ node a. s.stopped node (subst (λ (xs : List NodeId). IsAmong node xs) (stops_only_by_stop w x none) a);
    }

  -- ---- a delivery

  -- what is due goes to the present master, or to no master
  goes_to : (from to : NodeId) (b : Body) → FitsIn c from to b → to.kind ≡ addressee_kind b → (k : ℕ)
      → to ≡ master_node k → q ≤ k
  goes_to from to b fit of k is = by b fit of
    where
      at_master : to ≡ c.master → q ≤ k
      at_master e = let same : q ≡ k = ap (λ (x : NodeId). x.number) (sym calmly.its_master ∙ sym e ∙ is) in omega (arith, same)

      no_master : {y : NodeKind} → to.kind ≡ y → (y ≡ kind.Master → ⊥) → q ≤ k
      no_master e apart = absurd (apart (sym e ∙ ap (λ (x : NodeId). x.kind) is))

      by : (b : Body) → FitsIn c from to b → to.kind ≡ addressee_kind b → q ≤ k
      by (body.Update a) fit of = at_master fit
      by (body.Sync a) fit of = at_master fit
      by (body.Read a) fit of = at_master fit
      by (body.Appended a) fit of = at_master fit
      by (body.Collected a) fit of = at_master fit
      by (body.Record r) fit of = no_master of (λ e. absurd cc)
      by (body.Gc g) fit of = no_master of (λ e. absurd cc)
      by (body.Append a) fit of = no_master of (λ e. absurd cc)
      by (body.Reply r) fit of = no_master of (λ e. absurd cc)
      by (body.Worth r) fit of = no_master of (λ e. absurd cc)
      by (body.Refuse r) fit of = no_master of (λ e. absurd cc)
      by (body.Accepted r) fit of = no_master of (λ e. absurd cc)
      by (body.Rejected r) fit of = no_master of (λ e. absurd cc)
      by (body.Configuration g) fit of = no_master of (λ e. absurd cc)
      by body.Fetch fit of = no_master of (λ e. absurd cc)
      by _ fit of = absurd fit

  module _ (more : done < length (messages w)) where
    next_one : (x : Message) × At (messages w) done x
    next_one = at_some (messages w) done more

    pub deliver_made : IsMade w (steps.Deliver (suc done))
    deliver_made =
        let x = next_one.0 in
        let of = (fits s.known x (record { place = done; stands = next_one.1 })).addressee in
        let there : IsNode w x.to = subst (λ (k : NodeKind). IsNodeOf w k x.to.number) (sym of.0) of.1 in
        delivery_made w f n s.follows (suc done) x next_one.1 there
        (runs w q s.stopped x.to (goes_to x.from x.to x.body (calmly.fits x (done, omega arith, next_one.1)) of.0))

    -- the next delivery, where it is made
    module _ (few : n ≤ most_steps) (made : (step w (steps.Deliver (suc done))).outcome.result ≡ Done) where
      pub deliver_serves : Serves f (suc n) (step w (steps.Deliver (suc done))).world (suc done) c q
      deliver_serves =
          serves_after (steps.Deliver (suc done)) tt (λ node e. absurd cc) (suc done)
          (delivers_on w done next_one.0 next_one.1 made c q its_master its_client calmly (grounded few))
          (delivery_next w f n s.follows done next_one.0 next_one.1)

      pub deliver_learns : ClientLearns w done c → ClientLearns (step w (steps.Deliver (suc done))).world (suc done) c
      deliver_learns learns =
          learns_on w (step w (steps.Deliver (suc done))).world done next_one.0 next_one.1 (delivered w done next_one.0 next_one.1 made) c q its_master its_client calmly (grounded few) behind learns

-- ---- where every message is delivered

-- nothing pends
module _ {f n : ℕ} {w : World} {c : PartConfig} {q : ℕ} (s : Serves f n w (length (messages w)) c q) where
  pub rests : n ≤ most_steps → (its_client s).pending ≡ []
  rests few = none_left w c q (its_master s) (its_client s) (calmly s) (grounded s few).bounded.some

  pub learnt : ClientLearns w (length (messages w)) c → (its_client s).config.parts ≡ c ∷ []
  learnt learns = learnt_at_end w c (its_client s) (calmly s).client learns

-- ---- a step that begins something, where every message is delivered

module _ {f n : ℕ} {w : World} {c : PartConfig} {q : ℕ} (s : Serves f n w (length (messages w)) c q)
    (few : n ≤ most_steps) where
  abbrev done : ℕ
  done = length (messages w)

  abbrev cl : ClientState
  cl = its_client s

  abbrev m : MasterState
  m = its_master s

  low : done ≤ length (messages w)
  low = omega arith

  client_here : numbered w.clients 1 ≡ Some cl
  client_here = ap (λ (cs : List ClientState). numbered cs 1) (calmly s).client

  client_runs : is_stopped w (client_node 1) ≡ false
  client_runs = runs w q s.stopped (client_node 1) (λ k e. let own : kind.Client ≡ kind.Master = ap (λ (x : NodeId). x.kind) e in absurd cc)

  master_runs : is_stopped w (master_node q) ≡ false
  master_runs = runs w q s.stopped (master_node q) (λ k e. let own : q ≡ k = ap (λ (x : NodeId). x.number) e in omega (arith, own))

  -- an order to another node leaves the manager, and the configuration of the client
  module _ (x : Step) (its : IsServedStep x) (to : NodeId) (order : Local)
      (deed : deed_of w x ≡ Gives to (input.Local order)) (other : to.kind ≡ kind.Manager → ⊥) where
    manager_same : (step w x).world.manager ≡ w.manager
    manager_same = (only_moves w x).manager (λ k given e. other (sym (kind_of (sym e ∙ deed))))
      where
        kind_of : {a b : NodeId} {i j : Input} → Gives a i ≡ Gives b j → a.kind ≡ b.kind
        kind_of e = (let own = to_of e in ap (λ (x : NodeId). x.kind) own)
          where
            to_of : {a b : NodeId} {i j : Input} → Gives a i ≡ Gives b j → a ≡ b
            to_of e = cc

    config_same : (k : ClientState) → (step w x).world.clients ≡ k ∷ [] → k.config ≡ cl.config
    config_same k is = by ((step_after w x).clients 1 k (ap (λ (cs : List ClientState). numbered cs 1) is))
      where
        same : (old : ClientState) → numbered w.clients 1 ≡ Some old → old ≡ cl
        same old here = numbered_same w.clients 1 old cl here client_here

        given_is : (given : Input) → deed_of w x ≡ Gives (client_node 1) given → given ≡ input.Local order
        given_is given e = input_of (sym e ∙ deed)
          where
            input_of : {a b : NodeId} {i j : Input} → Gives a i ≡ Gives b j → i ≡ j
            input_of e = cc

        by : ClientAfter w x 1 k → k.config ≡ cl.config
        by (ClientStays here) = ap (λ (z : ClientState). z.config) (same k here)
        by (ClientMoves old given here gave made e) =
            let own = given_is given gave.deed in
            elim (client_goes 1 old given (served_input w x its (client_node 1) given gave.deed)).config [
              | inl stays ↦ ap (λ (z : ClientState). z.config) e ∙ stays ∙ ap (λ (z : ClientState). z.config) (same old here)
              | inr told ↦ absurd (local_apart told.0 (sym own ∙ told.1))
            ]
          where
            local_apart : (y : Message) → input.Local order ≡ input.Message y → ⊥
            local_apart y e = cc

  -- ---- a command is invoked

  module _ (command : Command) (keys : NamesKey command) (config : cl.config.parts ≡ c ∷ []) where
    owns : owns_all c.ranges (hashes command) ≡ true
    owns = subst (λ (spans : List Span). owns_all spans (hashes command) ≡ true) (sym s.ranges) (whole_owns command)

    numbers : cl.last < 2 ^ 32 - 1
    numbers = let low = s.follows.lasts 1 cl client_here in omega (arith, low, few)

    moved : moves w (client_node 1) (input.Local (local.Invoke command)) ≡ within (with_client w 1) (sends_first 1 cl (next_request 1 cl command) c)
    unfolding client_ordered
    moved = ap (λ (o : Option ClientState). moves_one w (λ k. within (with_client w 1) (client_input 1 k (input.Local (local.Invoke command)))) o) client_here
        ∙ ap (λ (k : Moved ClientState). within (with_client w 1) k) (invoked c cl command (rests s few) config numbers owns)

    pub invoke_made : IsMade w (steps.Invoke 1 command)
    invoke_made = gives_made w (steps.Invoke 1 command) tt (client_node 1) (input.Local (local.Invoke command)) refl
        (subst (λ (o : Option ClientState). is_some o ≡ true) (sym client_here) refl) client_runs (ap (λ (k : Moved World). k.refused) moved)

    module _ (made : (step w (steps.Invoke 1 command)).outcome.result ≡ Done) where
      pub invoke_serves : Serves f (suc n) (step w (steps.Invoke 1 command)).world done c q
      invoke_serves = serves_after s (steps.Invoke 1 command) keys (λ node e. absurd cc) done
          (invoke_calm w (step w (steps.Invoke 1 command)).world done low c q m cl (calmly s) command (rests s few) config numbers owns
          (gave w (steps.Invoke 1 command) (client_node 1) (input.Local (local.Invoke command)) refl made))
          (ap (λ (g : ManagerState). g.next) (manager_same (steps.Invoke 1 command) keys (client_node 1) (local.Invoke command) refl (λ e. absurd cc)))

      -- it goes into the history, and pends
      pub invoked_as : step w (steps.Invoke 1 command) ≡ kept w (Invoke (next_id 1 cl) command ∷ []) (within (with_client w 1) (sends_first 1 cl (next_request 1 cl command) c))
      unfolding step
      invoked_as =
          ap (λ (r : StepResult). steps_by w (deed_of w (steps.Invoke 1 command)) r) (sym (its_result w (deed_of w (steps.Invoke 1 command)) (result_of w (steps.Invoke 1 command))) ∙ made)
          ∙ ap (λ (o : Option ClientState). kept w (invocation_of (client_node 1) o (input.Local (local.Invoke command))) (moves w (client_node 1) (input.Local (local.Invoke command)))) client_here
          ∙ ap (kept w (Invoke (next_id 1 cl) command ∷ [])) moved

      pub invoke_learns : ClientLearns (step w (steps.Invoke 1 command)).world done c
      invoke_learns k is = inl (ap (λ (x : Config). x.parts) (config_same (steps.Invoke 1 command) keys (client_node 1) (local.Invoke command) refl (λ e. absurd cc) k is) ∙ config)

  -- ---- a round begins, ids are collected

  master_taken : (order : Local) → (moves w (master_node q) (input.Local order)).refused ≡ 0
  master_taken order = subst (λ (o : Option MasterStage). (moves_one w (λ k. within (with_master w q (input.Local order) k) (master_input q k (input.Local order))) o).refused ≡ 0) (sym (calmly s).master)
      (input_within n q (Serving m) (input.Local order) (s.follows.rounds q (Serving m) (calmly s).master)).1

  master_there : is_some (numbered w.masters q) ≡ true
  master_there = subst (λ (o : Option MasterStage). is_some o ≡ true) (sym (calmly s).master) refl

  pub sync_made : IsMade w (steps.Sync q)
  sync_made = gives_made w (steps.Sync q) tt (master_node q) (input.Local local.Sync) refl master_there master_runs (master_taken local.Sync)

  pub collect_made : IsMade w (steps.Collect q)
  collect_made = gives_made w (steps.Collect q) tt (master_node q) (input.Local local.Collect) refl master_there master_runs (master_taken local.Collect)

  pub sync_serves : (step w (steps.Sync q)).outcome.result ≡ Done
      → Serves f (suc n) (step w (steps.Sync q)).world done c q
  sync_serves made = serves_after s (steps.Sync q) tt (λ node e. absurd cc) done
      (sync_calm w (step w (steps.Sync q)).world done low c q m cl (calmly s) (grounded s few) (gave w (steps.Sync q) (master_node q) (input.Local local.Sync) refl made))
      (ap (λ (g : ManagerState). g.next) (manager_same (steps.Sync q) tt (master_node q) local.Sync refl (λ e. absurd cc)))

  pub collect_serves : (step w (steps.Collect q)).outcome.result ≡ Done
      → Serves f (suc n) (step w (steps.Collect q)).world done c q
  collect_serves made = serves_after s (steps.Collect q) tt (λ node e. absurd cc) done
      (collect_calm w (step w (steps.Collect q)).world done low c q m cl (calmly s) (grounded s few) (gave w (steps.Collect q) (master_node q) (input.Local local.Collect) refl made))
      (ap (λ (g : ManagerState). g.next) (manager_same (steps.Collect q) tt (master_node q) local.Collect refl (λ e. absurd cc)))

  pub sync_learns : cl.config.parts ≡ c ∷ [] → ClientLearns (step w (steps.Sync q)).world done c
  sync_learns config k is = inl (ap (λ (x : Config). x.parts) (config_same (steps.Sync q) tt (master_node q) local.Sync refl (λ e. absurd cc) k is) ∙ config)

  pub collect_learns : cl.config.parts ≡ c ∷ [] → ClientLearns (step w (steps.Collect q)).world done c
  collect_learns config k is = inl (ap (λ (x : Config). x.parts) (config_same (steps.Collect q) tt (master_node q) local.Collect refl (λ e. absurd cc) k is) ∙ config)

  -- ---- the client asks for the configuration

  fetched : moves w (client_node 1) (input.Local local.Fetch) ≡ within (with_client w 1) (fetch 1 cl)
  unfolding client_ordered
  fetched = ap (λ (o : Option ClientState). moves_one w (λ k. within (with_client w 1) (client_input 1 k (input.Local local.Fetch))) o) client_here

  pub fetch_made : IsMade w (steps.Fetch 1)
  fetch_made = gives_made w (steps.Fetch 1) tt (client_node 1) (input.Local local.Fetch) refl
      (subst (λ (o : Option ClientState). is_some o ≡ true) (sym client_here) refl) client_runs (ap (λ (k : Moved World). k.refused) fetched)

  module _ (made : (step w (steps.Fetch 1)).outcome.result ≡ Done) where
    did : Gave w (step w (steps.Fetch 1)).world (client_node 1) (input.Local local.Fetch)
    did = gave w (steps.Fetch 1) (client_node 1) (input.Local local.Fetch) refl made

    pub fetch_serves : Serves f (suc n) (step w (steps.Fetch 1)).world done c q
    fetch_serves = serves_after s (steps.Fetch 1) tt (λ node e. absurd cc) done
        (fetch_calm w (step w (steps.Fetch 1)).world done low c q m cl (calmly s) did)
        (ap (λ (g : ManagerState). g.next) (manager_same (steps.Fetch 1) tt (client_node 1) local.Fetch refl (λ e. absurd cc)))

    -- what it has sent is on its way
    pub fetch_learns : ClientLearns (step w (steps.Fetch 1)).world done c
    fetch_learns k is = inr (inl (
      says (client_node 1) manager_node body.Fetch,
      sent_due w (step w (steps.Fetch 1)).world done (fetch 1 cl).messages (did.said ∙ ap (λ (r : Moved World). messages w ++ r.messages) fetched) low _ (record { place = 0; stands = refl }),
      (refl, refl),
    ))
