-- A serving master that is open has the last lists that were adopted for its epoch.
use Rattle.std.proofs.Common.{◌≡◌, inl, inr, ℕ, ◌≤◌, sym, ◌∙◌, subst, arith}
use Rattle.curp_cmd.specs.Node.{manager_node}
use Rattle.curp_cmd.specs.declared.node.NodeId.{NodeId}
use Rattle.curp_msg.specs.Moved.{says}
use Rattle.curp_msg.specs.declared.body.Body.TheVariants as body
use Rattle.curp_model.specs.Master.{MasterState, Open, Switch, Switching}
use Rattle.curp_model.specs.Recovery.{Serving}
use Rattle.curp_model.specs.World.{World}
use Rattle.curp_facts.specs.Facts.{Lists, WasAdopted, WasSent}
use Rattle.curp_facts.specs.Invariant.{Invariant}
use Rattle.curp_facts.specs.Kept.{MastersFollow, lists_of_master}
use Rattle.curp_facts.specs.Nodes.{ServingOk, WasPrepared}
use Rattle.curp_facts.specs.Names.{Names}
use Rattle.curp_law_runs.proofs.Lists.{order_first, ready}

module _ {w : World} (names : Names w) (inv : Invariant w) where
  -- what was prepared is no later than the lists of a master that doesn't switch
  prepared_below : (m : MasterState) (version : ℕ) → m.phase ≡ Open → WasPrepared m version → version ≤ m.version
  prepared_below m version is_open was = elim was [
    | inl low ↦ low
    | inr s ↦ absurd (apart s.0 (sym is_open ∙ s.1))
  ]
    where
      apart : (s : Switch) → Open ≡ Switching s → ⊥
      apart s e = cc

  pub masters_follow : MastersFollow w
  masters_follow node m serves is_open = record { adopted = ok.adopted; last = last }
    where
      ok : ServingOk w node m
      ok = inv.masters node (Serving m) serves

      last : (l : Lists) → WasAdopted w l → l.master ≡ node → l.epoch ≡ m.epoch → l.version ≤ m.version
      last l was master epoch = elim (ready names inv l was).told [
        | inl one ↦ let its = names.given (lists_of_master node m) ok.adopted.given in omega (arith, one, its.version.0)
        | inr told ↦ elim told [
          | inl prepared ↦ prepared_below m l.version is_open (ok.prepared l.version (subst (λ (n : NodeId). WasSent w (says n manager_node (body.Prepared l.version))) master prepared))
          | inr r ↦
              let sent : WasSent w (says manager_node node (body.Recover r.order)) = subst (λ (n : NodeId). WasSent w (says manager_node n (body.Recover r.order))) master r.ordered in
              omega (arith, r.its_version, order_first names (lists_of_master node m) ok.adopted.given r.order sent)
        ]
      ]
