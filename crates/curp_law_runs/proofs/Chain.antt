-- Where lists are adopted behind the present ones, each adopted master came from the last lists before it, still.
use Rattle.std.proofs.Common.{◌≡◌, inl, inr, ◌<◌, ◌≤◌, refl, ap, sym, ◌∙◌, subst, arith}
use Rattle.curp_cmd.specs.Node.{manager_node}
use Rattle.curp_cmd.specs.declared.node.NodeId.{NodeId}
use Rattle.curp_msg.specs.Moved.{says}
use Rattle.curp_msg.specs.declared.body.Body.TheVariants as body
use Rattle.curp_msg.specs.declared.body.Recover.{Recover}
use Rattle.curp_msg.specs.declared.body.Recovered.{Recovered}
use Rattle.curp_model.specs.World.{World}
use Rattle.curp_facts.specs.Facts.{ByRecovery, IsGiven, Lists, WasAdopted, WasSent, lists_of_order}
use Rattle.curp_facts.specs.Invariant.{Invariant}
use Rattle.curp_facts.specs.Said.{RecoveredSaid}
use Rattle.curp_facts.specs.Names.{Names, RecoveringOk, Top}
use Rattle.curp_law_kept.proofs.Gives.{Later, adopted_later, given_later}
use Rattle.curp_law_runs.specs.Adopting.{Adopts, Comes, FromRecovery, FromReplacement}
use Rattle.curp_facts.specs.Predecessors.{Predecessor, Predecessors}
use Rattle.curp_law_runs.proofs.Words.{said}

module _ {w v : World} (names : Names w) (later_names : Names v) (inv : Invariant w) (s : Later w v) (IsNew : Lists → Type 0) (a : Adopts w v IsNew) (chain : Predecessors w) where
  -- what comes doesn't come below lists that were adopted
  comes_above : (l k : Lists) → WasAdopted w l → IsGiven v k → Comes w k → k.part ≡ l.part → l.epoch ≤ k.epoch
  comes_above l k was given (FromReplacement now top master) part =
      let same = (later_names.agree now k (given_later s now top.was.given) given).by_master master in
      omega (arith, top.epochs l was (sym part ∙ sym same.0), same.1)
  comes_above l k was given (FromRecovery now top order ok from told) part =
      let its : Lists = lists_of_order k.master order in
      let same = (later_names.agree its k (given_later s its (ByRecovery k.master order ok.sent)) given).by_master refl in
      omega (arith, top.epochs l was (sym part ∙ sym same.0 ∙ ok.its_part), same.1, ok.later)

  -- what was the last before lists that were adopted is so still
  last_later : (l : Lists) → WasAdopted w l → (before : Lists) → ((k : Lists) → WasAdopted w k → k.part ≡ l.part → k.epoch < l.epoch → k.version ≤ before.version)
      → (k : Lists) → WasAdopted v k → k.part ≡ l.part → k.epoch < l.epoch → k.version ≤ before.version
  last_later l was before last k adopted part earlier = elim (a.back k adopted) [
    | inl old ↦ last k old part earlier
    | inr new ↦ absurd (omega (arith, earlier, comes_above l k was adopted.given (a.comes k new) part))
  ]

  abbrev word : Lists → Recovered
  word l = record { part = l.part; epoch = l.epoch }

  -- later lists of a master came from where its earlier ones came from
  of_master : (now l : Lists) → WasAdopted w now → now.master ≡ l.master → now.part ≡ l.part → now.epoch ≡ l.epoch → Predecessor w now → Predecessor v l
  of_master now l was master part epoch p = record {
    order = p.order;
    ordered = s.sent _ (subst (λ (n : NodeId). WasSent w (says manager_node n (body.Recover p.order))) master p.ordered);
    told = s.sent _ (subst (λ (n : NodeId). WasSent w (says n manager_node (body.Recovered (word l)))) master
        (subst (λ (r : Recovered). WasSent w (says now.master manager_node (body.Recovered r))) same p.told));
    before = p.before;
    was = adopted_later s p.before p.was;
    its_part = p.its_part ∙ part;
    earlier = omega (arith, p.earlier, epoch);
    older = p.older;
    its_backup = p.its_backup;
    its_witness = p.its_witness;
    last = λ k adopted its earlier. last_later now was p.before p.last k adopted (its ∙ sym part) (omega (arith, earlier, epoch));
  }
    where
      same : word now ≡ word l
      same = λ i. record { part = part i; epoch = epoch i }

  -- a recovery came from the present lists
  of_recovery : (l : Lists) → WasAdopted v l → 1 < l.epoch → (now : Lists) → Top w now → (order : Recover) → RecoveringOk w now l.master order → (from : NodeId)
      → WasSent w (says from manager_node (body.Recovered (word l))) → IsNew l → Predecessor v l
  of_recovery l adopted late now top order ok from told new =
      let its : Lists = lists_of_order l.master order in
      let its_given : IsGiven w its = ByRecovery l.master order ok.sent in
      let same = (later_names.agree its l (given_later s its its_given) adopted.given).by_master refl in
      let r : RecoveredSaid w from (record { part = l.part; epoch = l.epoch }) = said inv from manager_node (body.Recovered (word l)) told in
      let sender : Lists = lists_of_order from r.holds.order in
      let epoch : sender.epoch ≡ its.epoch = r.holds.its_epoch ∙ sym same.1 in
      let is_sender : from ≡ l.master = (names.agree sender its (ByRecovery from r.holds.order r.holds.sent) its_given).by_late_epoch (omega (arith, late, r.holds.its_epoch)) epoch in
      record {
        order = order;
        ordered = s.sent _ ok.sent;
        told = s.sent _ (subst (λ (n : NodeId). WasSent w (says n manager_node (body.Recovered (word l)))) is_sender told);
        before = now;
        was = adopted_later s now top.was;
        its_part = sym ok.its_part ∙ same.0;
        earlier = omega (arith, ok.later, same.1);
        older = ok.newer;
        its_backup = ok.its_backup;
        its_witness = ok.its_witness;
        last = λ k other part earlier. elim (a.back k other) [
          | inl old ↦ top.versions k old (part ∙ sym same.0 ∙ ok.its_part)
          | inr too ↦ absurd (omega (arith, earlier, ap (λ (x : Lists). x.epoch) (a.one k l too new)))
        ];
      }

  -- what is new came so
  comes_from : (l : Lists) → WasAdopted v l → 1 < l.epoch → IsNew l → Comes w l → Predecessor v l
  comes_from l adopted late new (FromReplacement now top master) =
      let same = (later_names.agree now l (given_later s now top.was.given) adopted.given).by_master master in
      of_master now l top.was master same.0 same.1 (chain now top.was (omega (arith, late, same.1)))
  comes_from l adopted late new (FromRecovery now top order ok from told) = of_recovery l adopted late now top order ok from told new

  -- each adopted master came from the last lists before it
  pub chain_later : Predecessors v
  chain_later l adopted late = elim (a.back l adopted) [
    | inl was ↦ of_master l l was refl refl refl (chain l was late)
    | inr new ↦ comes_from l adopted late new (a.comes l new)
  ]
