-- The world of a served run while its partition is recovered: the master is stopped, a recovery is ordered, each delivery keeps it, and
-- where every message is delivered the fresh master serves.
use Rattle.std.proofs.Common.{◌≡◌, ◌≤◌, ◌<◌, inl, inr, ℕ, zero, suc, ◌+◌, ◌-◌, ◌^◌, true, false, List, [], ◌∷◌, ◌++◌, length, Option, None, is_some, append-nil, refl, ap, sym, ◌∙◌, subst, arith}
use Rattle.curp_base.specs.Words.{At, numbered}
use Rattle.curp_base.proofs.Lists.{at_append_right, at_push, at_push_cases, at_some, prefix_at}
use Rattle.curp_base.proofs.Numbered.{number_within}
use Rattle.curp_cmd.specs.Node.{manager_node, master_node, same_node}
use Rattle.curp_cmd.specs.declared.node.NodeId.{NodeId}
use Rattle.curp_cmd.specs.declared.node.NodeKind.{NodeKind}
use Rattle.curp_cmd.specs.declared.node.NodeKind.TheVariants as kind
use Rattle.curp_msg.specs.Moved.{Moved, says, within}
use Rattle.curp_msg.specs.declared.body.Body.{Body}
use Rattle.curp_msg.specs.declared.body.Body.TheVariants as body
use Rattle.curp_msg.specs.declared.body.Recover.{Recover}
use Rattle.curp_msg.specs.declared.config.PartConfig.{PartConfig}
use Rattle.curp_msg.specs.Input as input
use Rattle.curp_msg.specs.declared.machine.Local.TheVariants as local
use Rattle.curp_msg.specs.declared.message.Message.{Message}
use Rattle.curp_msg.specs.declared.outcome.StepResult.{StepResult}
use Rattle.curp_msg.specs.declared.outcome.StepResult.TheVariants.{Done}
use Rattle.curp_msg.specs.declared.script.Protocol.TheVariants.{One}
use Rattle.curp_msg.specs.declared.script.Step.{Step}
use Rattle.curp_msg.specs.declared.script.Step.TheVariants as steps
use Rattle.curp_facts.specs.Facts.{IsAmong, WasSent}
use Rattle.curp_facts.specs.Fits.{addressee_kind}
use Rattle.curp_facts.specs.Known.{Known}
use Rattle.curp_model.specs.Client.{ClientState}
use Rattle.curp_model.specs.Manager.{ManagerState, Next, install_on, recover_messages, recover_order, recovers, start_on}
use Rattle.curp_model.specs.Named.{IsNode, IsNodeOf}
use Rattle.curp_model.specs.Recovery.{MasterStage, Serving}
use Rattle.curp_model.specs.World.{Stops, World, deed_of, effect, has_node, is_stopped, kept, messages, moves, result_of, step, steps_by, stops_manager, with_manager}
use Rattle.curp_law_kept.proofs.Gives.{step_grows, fits, known_step}
use Rattle.curp_law_steps.proofs.Gives.{its_result, stops_only_by_stop}
use Rattle.curp_law_served.specs.Renews.{CanRecover, IsSteady, RenewFits, RenewGrounds, Renewing, renewed}
use Rattle.curp_law_served.proofs.RenewEnds.{renewed_calm}
use Rattle.curp_law_served.proofs.RenewStarts.{begins_renewal, ordered}
use Rattle.curp_law_served.proofs.Renews.{renewed_at_end, renewed_on}
use Rattle.curp_law_served.proofs.Starts.{Gave, gave}
use Rattle.curp_law_served.proofs.Steps.{delivered, sent_more}
use Rattle.curp_law_served.specs.Served.{StopsMaster, most_steps}
use Rattle.curp_law_served.proofs.Calm.{Serves, StoppedBelow, calmly, its_client, rests, runs}
use Rattle.curp_law_served.proofs.Followed.{Follows, follows_step}
use Rattle.curp_law_served.proofs.Made.{IsMade, delivery_made, delivery_next, gives_made}
use Rattle.curp_law_served.proofs.Renewing.{can_recover, renew_grounds}

-- ---- the client waits

-- the only client is fast, of protocol 1, and waits for nothing
pub record IsIdle (w : World) (cl : ClientState) : Type 0 where
  pub client : w.clients ≡ cl ∷ []
  pub fast : cl.fast ≡ true
  pub protocol : cl.protocol ≡ One
  pub pending : cl.pending ≡ []

-- ---- the master is stopped

-- all is delivered, and the present master is stopped
pub record Halted (f n : ℕ) (w : World) (c : PartConfig) (cl : ClientState) : Type 0 where
  pub known : Known w
  pub follows : Follows f w n
  pub idle : IsIdle w cl
  pub manager : w.manager.config.parts ≡ c ∷ []
  pub ranges : c.ranges ≡ (0, 2 ^ 64 - 1) ∷ []
  pub stopped : StoppedBelow w w.manager.next.master

module _ {f n : ℕ} {w : World} {c : PartConfig} {q : ℕ} (s : Serves f n w (length (messages w)) c q)
    (few : n ≤ most_steps) where
  there : is_some (numbered w.masters q) ≡ true
  there = subst (λ (o : Option MasterStage). is_some o ≡ true) (sym (calmly s).master) refl

  master_here : has_node w c.master ≡ true
  master_here = subst (λ (k : NodeId). has_node w k ≡ true) (sym (calmly s).its_master) there

  master_runs : is_stopped w c.master ≡ false
  master_runs = runs w q s.stopped c.master (λ k e. let own : q ≡ k = ap (λ (x : NodeId). x.number) (sym (calmly s).its_master ∙ e) in omega (arith, own))

  not_manager : stops_manager (steps.Stop c.master) ≡ false
  not_manager = subst (λ (k : NodeId). same_node k manager_node ≡ false) (sym (calmly s).its_master) refl

  pub is_master : StopsMaster (steps.Stop c.master)
  is_master = (ap (λ (k : NodeId). k.kind) (calmly s).its_master, first c.master.number (ap (λ (k : NodeId). k.number) (calmly s).its_master))
    where
      first : (n : ℕ) → n ≡ q → 1 ≤ n
      first zero e = absurd (no_zero (subst (λ (k : ℕ). is_some (numbered w.masters k) ≡ true) (sym e) there))
        where
          no_zero : false ≡ true → ⊥
          no_zero e = cc
      first (suc k) e = omega arith

  result_is : result_of w (steps.Stop c.master) ≡ Done
  result_is = rw (master_here, master_runs, not_manager) refl

  pub stop_made : (step w (steps.Stop c.master)).outcome.result ≡ Done
  unfolding step
  stop_made = its_result w (deed_of w (steps.Stop c.master)) (result_of w (steps.Stop c.master)) ∙ result_is

  stopped_world : (step w (steps.Stop c.master)).world ≡ (kept w [] (effect w (Stops c.master))).world
  unfolding step
  stopped_world = ap (λ (r : StepResult). (steps_by w (Stops c.master) r).world) result_is

  -- no message is sent
  pub stop_silent : messages (step w (steps.Stop c.master)).world ≡ messages w
  stop_silent = ap messages stopped_world ∙ sent_more w.sent [] ∙ append-nil (messages w)

  pub halts : Halted f (suc n) (step w (steps.Stop c.master)).world c (its_client s)
  halts = record {
    known = known_step w s.known (steps.Stop c.master);
    follows = follows_step s.known (steps.Stop c.master) is_master f n s.follows;
    idle = record { client = ap (λ (v : World). v.clients) stopped_world ∙ (calmly s).client; fast = (calmly s).fast; protocol = (calmly s).protocol; pending = rests s few };
    manager = ap (λ (v : World). v.manager.config.parts) stopped_world ∙ (calmly s).manager;
    ranges = s.ranges;
    stopped = λ node a. below node (subst (λ (xs : List NodeId). IsAmong node xs) (ap (λ (v : World). v.stopped) stopped_world) a);
  }
    where
      next_is : (step w (steps.Stop c.master)).world.manager.next.master ≡ w.manager.next.master
      next_is = ap (λ (v : World). v.manager.next.master) stopped_world

      within : q < w.manager.next.master
      within = let high = number_within w.masters q (Serving (s.calm.0)) (calmly s).master in omega (arith, high, s.known.names.numbers.masters)

      below : (node : NodeId) → IsAmong node (w.stopped ++ c.master ∷ [])
          → (k : ℕ) × (node ≡ master_node k) × (k < (step w (steps.Stop c.master)).world.manager.next.master)
      below node a = elim (at_push_cases w.stopped c.master a.place node a.stands) [
        | inl old ↦ (let b = s.stopped node (record { place = a.place; stands = old }) in (b.0, b.1, omega (arith, b.2, within, next_is)))
        | inr new ↦ (q, sym new.1 ∙ (calmly s).its_master, omega (arith, within, next_is))
      ]

-- ---- a recovery is ordered

-- while the partition of the entry c is recovered by master q
pub record Renews (f n : ℕ) (w : World) (done : ℕ) (c : PartConfig) (q : ℕ) (o : Recover) (cl : ClientState) : Type 0 where
  pub known : Known w
  pub follows : Follows f w n
  pub renewing : Renewing w done c q o cl
  pub ordered : WasSent w (says manager_node (master_node q) (body.Recover o))
  pub newest : w.manager.next.epoch ≡ o.epoch + 1
  pub idle : IsIdle w cl
  pub ranges : c.ranges ≡ (0, 2 ^ 64 - 1) ∷ []
  pub stopped : StoppedBelow w q

module _ {f n : ℕ} {w : World} {c : PartConfig} {cl : ClientState} (h : Halted f n w c cl) (few : n ≤ most_steps)
    (low : f ≤ 5) where
  abbrev can : (from : NodeId) × (other : NodeId) × CanRecover w c from other
  can = can_recover h.known f n h.follows few low c h.manager

  abbrev pub its_order : Recover
  its_order = recover_order w.manager c (can_recover h.known f n h.follows few low c h.manager).0 (can_recover h.known f n h.follows few low c h.manager).1

  moved : moves w manager_node (input.Local (local.Recover 1 1 1)) ≡ within (with_manager w None) (recovers w.manager 1 its_order)
  moved = ap (λ (k : Moved ManagerState). within (with_manager w None) k) (ordered w c can.0 can.1 can.2)

  manager_runs : is_stopped w manager_node ≡ false
  manager_runs = runs w w.manager.next.master h.stopped manager_node (λ k e. let own : kind.Manager ≡ kind.Master = ap (λ (x : NodeId). x.kind) e in absurd cc)

  pub recover_made : IsMade w (steps.Recover 1 1 1)
  recover_made = gives_made w (steps.Recover 1 1 1) tt manager_node (input.Local (local.Recover 1 1 1)) refl refl manager_runs (ap (λ (k : Moved World). k.refused) moved)

  module _ (made : (step w (steps.Recover 1 1 1)).outcome.result ≡ Done) where
    did : Gave w (step w (steps.Recover 1 1 1)).world manager_node (input.Local (local.Recover 1 1 1))
    did = gave w (steps.Recover 1 1 1) manager_node (input.Local (local.Recover 1 1 1)) refl made

    said : messages (step w (steps.Recover 1 1 1)).world ≡ messages w ++ recover_messages (master_node w.manager.next.master) its_order
    said = did.said ∙ ap (λ (k : Moved World). messages w ++ k.messages) moved

    was_sent : WasSent (step w (steps.Recover 1 1 1)).world (says manager_node (master_node w.manager.next.master) (body.Recover its_order))
    was_sent = record {
      place = length (messages w) + length ahead;
      stands = subst (λ (ms : List Message). At ms (length (messages w) + length ahead) last) (sym said)
          (at_append_right (messages w) (ahead ++ last ∷ []) (length ahead) _ last refl (at_push ahead last (length ahead) refl));
    }
      where
        ahead : List Message
        ahead = install_on its_order.epoch its_order.backups ++ start_on its_order.part its_order.epoch its_order.witnesses

        last : Message
        last = says manager_node (master_node w.manager.next.master) (body.Recover its_order)

    pub begins : Renews f (suc n) (step w (steps.Recover 1 1 1)).world (length (messages w)) c w.manager.next.master its_order cl
    begins = record {
      known = known_step w h.known (steps.Recover 1 1 1);
      follows = follows_step h.known (steps.Recover 1 1 1) tt f n h.follows;
      renewing = begins_renewal w c can.0 can.1 can.2 (step w (steps.Recover 1 1 1)).world cl h.idle.client did;
      ordered = was_sent;
      newest = ap (λ (g : ManagerState). g.next.epoch) (did.manager ∙ ap (λ (k : Moved World). k.state.manager) moved);
      idle = record { client = did.clients ∙ ap (λ (k : Moved World). k.state.clients) moved ∙ h.idle.client; fast = h.idle.fast; protocol = h.idle.protocol; pending = h.idle.pending };
      ranges = h.ranges;
      stopped = λ node a. h.stopped node (subst (λ (xs : List NodeId). IsAmong node xs) (stops_only_by_stop w (steps.Recover 1 1 1) (λ node e. absurd cc)) a);
    }

-- ---- deliveries

module _ {f n : ℕ} {w : World} {done : ℕ} {c : PartConfig} {q : ℕ} {o : Recover} {cl : ClientState}
    (r : Renews f n w done c q o cl) (few : n ≤ most_steps) where
  -- what is due goes to the fresh master, or to no master
  goes_to : (from to : NodeId) (b : Body) → RenewFits (IsSteady w) q o from to b → to.kind ≡ addressee_kind b
      → (k : ℕ) → to ≡ master_node k → q ≤ k
  goes_to from to b fit of k is = by b fit of
    where
      at_master : to ≡ master_node q → q ≤ k
      at_master e = let same : q ≡ k = ap (λ (x : NodeId). x.number) (sym e ∙ is) in omega (arith, same)

      no_master : {y : NodeKind} → to.kind ≡ y → (y ≡ kind.Master → ⊥) → q ≤ k
      no_master e apart = absurd (apart (sym e ∙ ap (λ (x : NodeId). x.kind) is))

      by : (b : Body) → RenewFits (IsSteady w) q o from to b → to.kind ≡ addressee_kind b → q ≤ k
      by (body.Install epoch) fit of = no_master of (λ e. absurd cc)
      by (body.Start s) fit of = no_master of (λ e. absurd cc)
      by (body.Recover x) fit of = at_master fit.0
      by (body.Fence epoch) fit of = no_master of (λ e. absurd cc)
      by (body.FenceAnswer a) fit of = at_master fit
      by (body.Freeze epoch) fit of = no_master of (λ e. absurd cc)
      by (body.FrozenAnswer requests) fit of = at_master fit
      by (body.Append a) fit of = no_master of (λ e. absurd cc)
      by (body.Appended a) fit of = at_master fit
      by (body.Recovered x) fit of = no_master of (λ e. absurd cc)
      by (body.Adopted a) fit of = at_master fit.0
      by _ fit of = absurd fit

  renewal_grounds : RenewGrounds w done q o
  renewal_grounds = renew_grounds r.known f n r.follows few done q o r.ordered r.newest

  module _ (more : done < length (messages w)) where
    next_one : (x : Message) × At (messages w) done x
    next_one = at_some (messages w) done more

    pub deliver_made : IsMade w (steps.Deliver (suc done))
    deliver_made =
        let x = next_one.0 in
        let of = (fits r.known x (record { place = done; stands = next_one.1 })).addressee in
        let here : IsNode w x.to = subst (λ (k : NodeKind). IsNodeOf w k x.to.number) (sym of.0) of.1 in
        delivery_made w f n r.follows (suc done) x next_one.1 here
        (runs w q r.stopped x.to (goes_to x.from x.to x.body (r.renewing.fits x (done, omega arith, next_one.1)) of.0))

    module _ (made : (step w (steps.Deliver (suc done))).outcome.result ≡ Done) where
      abbrev v : World
      v = (step w (steps.Deliver (suc done))).world

      after : Renewing (step w (steps.Deliver (suc done))).world (suc done) c q o cl
      after = renewed_on w (step w (steps.Deliver (suc done))).world done next_one.0 next_one.1 (delivered w done next_one.0 next_one.1 made) c q o cl r.renewing renewal_grounds

      pub deliver_renews : Renews f (suc n) (step w (steps.Deliver (suc done))).world (suc done) c q o cl
      deliver_renews = record {
        known = known_step w r.known (steps.Deliver (suc done));
        follows = follows_step r.known (steps.Deliver (suc done)) tt f n r.follows;
        renewing = after;
        ordered = record { place = r.ordered.place; stands = prefix_at (step_grows w (steps.Deliver (suc done))).sent r.ordered.place _ r.ordered.stands };
        newest = ap (λ (k : Next). k.epoch) (delivery_next w f n r.follows done next_one.0 next_one.1) ∙ r.newest;
        idle = record { client = after.client; fast = r.idle.fast; protocol = r.idle.protocol; pending = r.idle.pending };
        ranges = r.ranges;
        stopped = λ node a. r.stopped node (subst (λ (xs : List NodeId). IsAmong node xs) (stops_only_by_stop w (steps.Deliver (suc done)) (λ node e. absurd cc)) a);
      }

-- ---- the fresh master serves

module _ {f n : ℕ} {w : World} {c : PartConfig} {q : ℕ} {o : Recover} {cl : ClientState}
    (r : Renews f n w (length (messages w)) c q o cl) where
  pub renewed_serves : Serves f n w (length (messages w)) (renewed c q o) q
  renewed_serves =
      let re = renewed_at_end w c q o cl r.renewing in
      record {
        known = r.known;
        follows = r.follows;
        calm = (re.m, cl, renewed_calm w c q o re cl r.idle.client r.idle.fast r.idle.protocol r.idle.pending);
        homes = λ k a. let i = re.installed k a in (i.b, i.is, i.installed);
        newest = r.newest;
        ranges = r.ranges;
        stopped = r.stopped;
      }
