-- What a frozen witness has called live was invoked in time for the mark of its adoption: each step keeps that.
use Rattle.std.proofs.Common.{◌≡◌, inl, inr, ◌+◌, ℕ, suc, List, length, true, sym, subst, arith, ◌⊎◌}
use Rattle.curp_base.specs.Words.{At}
use Rattle.curp_model.specs.World.{World}
use Rattle.curp_cmd.specs.declared.node.NodeId.{NodeId}
use Rattle.curp_msg.specs.declared.body.Probed.{Probed}
use Rattle.curp_model.specs.Named.{IsWitness}
use Rattle.curp_facts.specs.Facts.{WasSent}
use Rattle.curp_msg.specs.Moved.{says}
use Rattle.curp_msg.specs.declared.body.Body.TheVariants as body
use Rattle.curp_facts.specs.Known.{Known}
use Rattle.curp_facts.specs.Predecessors.{Predecessors}
use Rattle.curp_law_linear.specs.Ordered.{Ordered, CutsTimed}
use Rattle.curp_law_kept.proofs.Gives.{Follows, sent_later, said}
use Rattle.curp_law_linear.specs.Refined.{Refines}
use Rattle.curp_cmd.specs.declared.command.RequestId.{RequestId}
use Rattle.curp_cmd.specs.declared.command.Command.{Command}
use Rattle.curp_law_linear.specs.Line.{WasInvoked, LineState, CutEarly}
use Rattle.curp_base.proofs.Lists.{prefix_at}
use Rattle.curp_model.specs.Marks.{Mark}
use Rattle.curp_msg.specs.declared.body.Recover.{Recover}
use Rattle.curp_cmd.specs.Node.{manager_node}
use Rattle.curp_law_linear.specs.OfWorld.{line_of, cuts}
use Rattle.curp_facts.specs.Said.{ProbedSaid}
use Rattle.curp_law_linear.proofs.Cuts.{cut_adoption}
use Rattle.curp_law_linear.proofs.QuickRuns.{cut_early_on}
use Rattle.curp_facts.specs.Kept.{AdoptionOk}
use Rattle.curp_order.specs.declared.Event.TheVariants.{Invoke}
use Rattle.curp_law_linear.proofs.ReadsPassed.{NoneLives}

module _ {w v : World} (known : Known w) (chain : Predecessors w) (ordered : Ordered w) (now : Known v) (s : Follows w v) (r : Refines w v) (lives : NoneLives w v) where
  -- what was invoked before
  invoked_on : (id : RequestId) (c : Command) → WasInvoked w.history id c → WasInvoked v.history id c
  invoked_on id c i = record { event = i.event; stands = prefix_at s.grows.history i.event (Invoke id c) i.stands }

  -- the mark of an adoption that was there
  pub timed_on : (part i : ℕ) (m : Mark) → At (cuts part w.marks) i m → (order : Recover) → WasSent v (says manager_node m.master (body.Recover order))
      → (to : NodeId) (a : Probed) → WasSent v (says order.witness to (body.Probed a)) → a.live ≡ true
      → (c : Command) × WasInvoked v.history a.id c × CutEarly (line_of v) part (suc i) a.id c
  timed_on part i m at order sent to a live is =
      let c = cut_adoption known chain part (cuts part w.marks) (ordered.cuts_follow part) i m at in
      let k : AdoptionOk w c.its.lists = c.ok in
      let told : WasSent w (says manager_node m.master (body.Recover k.order)) = subst (λ (node : NodeId). WasSent w (says manager_node node (body.Recover k.order))) c.its.its_master k.ordered in
      let same : order ≡ k.order = now.names.one_order m.master order k.order sent (sent_later s told) in
      let frozen : IsWitness w k.order.witness k.sources.x = subst (λ (node : NodeId). IsWitness w node k.sources.x) (sym k.its_other) k.sources.its_witness in
      let was = lives k.order.witness to k.sources.x a frozen k.sources.frozen is (subst (λ (o : Recover). WasSent v (says o.witness to (body.Probed a))) same live) in
      let t = ordered.cuts_timed part i m at k.order told to a was is in
      (t.0, invoked_on a.id t.0 t.1, subst (λ (l : LineState). CutEarly l part (suc i) a.id t.0) r.leads (cut_early_on r.moves (line_of w) r.fit ordered.line part (suc i) a.id t.0 t.1 t.2))

  pub timed_stay : ((part : ℕ) → cuts part v.marks ≡ cuts part w.marks) → CutsTimed v
  timed_stay same part i m at = timed_on part i m (subst (λ (cs : List Mark). At cs i m) (same part) at)

  -- with one more adoption in one partition, before which each request is early
  pub timed_more : (its : ℕ) → ((part i : ℕ) (m : Mark) → At (cuts part v.marks) i m → At (cuts part w.marks) i m ⊎ ((part ≡ its) × (i ≡ length (cuts its w.marks))))
      → ((id : RequestId) (c : Command) → CutEarly (line_of v) its (length (cuts its w.marks) + 1) id c) → CutsTimed v
  timed_more its cases early part i m at order sent to a live is = elim (cases part i m at) [
    | inl old ↦ timed_on part i m old order sent to a live is
    | inr new ↦
        let k : ProbedSaid v order.witness to a = said now order.witness to (body.Probed a) live in (
          k.command,
          record { event = k.place; stands = k.invoked },
          subst (λ (p : ℕ). CutEarly (line_of v) p (suc i) a.id k.command) (sym new.0) (subst (λ (n : ℕ). CutEarly (line_of v) its n a.id k.command) (number new.1) (early a.id k.command)),
        )
  ]
    where
      number : {n : ℕ} → i ≡ n → n + 1 ≡ suc i
      number e = omega (arith, e)
