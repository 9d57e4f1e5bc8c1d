-- Each completed update can complete with its answer, and the value of each completed read was sent.
use Rattle.std.proofs.Common.{◌≡◌, inl, inr, ℕ, true, false, subst, List}
use Rattle.curp_base.specs.Words.{At}
use Rattle.curp_base.proofs.Lists.{at_same}
use Rattle.curp_cmd.specs.Node.{client_node}
use Rattle.curp_cmd.specs.Store.{is_update}
use Rattle.curp_cmd.specs.declared.command.Answer.{Answer}
use Rattle.curp_cmd.specs.declared.command.Command.{Command}
use Rattle.curp_cmd.specs.declared.command.RequestId.{RequestId}
use Rattle.curp_msg.specs.declared.body.Body.TheVariants as body
use Rattle.curp_order.specs.declared.Event.TheVariants.{Invoke, Complete}
use Rattle.curp_model.specs.World.{World}
use Rattle.curp_facts.specs.Facts.{Completable}
use Rattle.curp_facts.specs.Invariant.{Invariant}
use Rattle.curp_facts.specs.Nodes.{WasRead}
use Rattle.curp_facts.specs.Said.{WorthSaid}
use Rattle.curp_law_runs.proofs.Words.{said}
use Rattle.curp_facts.specs.Reach.{QuickSaid}
use Rattle.curp_cmd.specs.declared.command.Command.TheVariants.{Get}

module _ {w : World} (inv : Invariant w) where
  -- an id was invoked with one command
  invoked_with : (i j : ℕ) (id : RequestId) (c d : Command) → At w.history i (Invoke id c) → At w.history j (Invoke id d) → c ≡ d
  invoked_with i j id c d at other =
      let place = inv.history.invoked_once i j id c d at other in
      let there : At w.history j (Invoke id c) = subst (λ (k : ℕ). At w.history k (Invoke id c)) place at in
      let same : Invoke id c ≡ Invoke id d = at_same w.history j _ _ there other in
      cc

  -- a completed update can complete with its answer
  pub completed_update : (i j : ℕ) (id : RequestId) (c : Command) (a : Answer) → At w.history i (Invoke id c) → is_update c ≡ true → At w.history j (Complete id a)
      → (part : ℕ) × Completable w part id a
  completed_update i j id c a invoked updates done = elim (inv.completed j id a done) [
    | inl completable ↦ completable
    | inr read ↦ elim read [
      | inl value ↦
          let v = value.1 in
          let ok : WorthSaid w value.0 (client_node id.client) v = said inv value.0 (client_node id.client) (body.Worth v) value.2 in
          let own : At w.history ok.place (Invoke id ok.command) = subst (λ (k : RequestId). At w.history ok.place (Invoke k ok.command)) value.3 ok.invoked in
          let same = invoked_with i ok.place id c ok.command invoked own in
          let reads = ok.reads in
          absurd cc
      | inr seen ↦
          let ok : QuickSaid w seen.sent.place seen.lists.master (client_node id.client) seen.quick = inv.messages seen.sent.place _ seen.sent.stands in
          let own : At w.history ok.event (Invoke id (Get ok.key)) = subst (λ (k : RequestId). At w.history ok.event (Invoke k (Get ok.key))) seen.its_id ok.invoked in
          absurd (no_get ok.key c (invoked_with i ok.event id c (Get ok.key) invoked own) updates)
    ]
  ]
    where
      no_get : (key : List ℕ) (c : Command) → c ≡ Get key → is_update c ≡ true → ⊥
      no_get key c same updates = get_reads key (subst (λ (d : Command). is_update d ≡ true) same updates)
        where
          get_reads : (key : List ℕ) → is_update (Get key) ≡ true → ⊥
          get_reads key e = cc

  -- a completed read was told its answer
  pub completed_read : (i j : ℕ) (id : RequestId) (c : Command) (a : Answer) → At w.history i (Invoke id c) → is_update c ≡ false → At w.history j (Complete id a) → WasRead w id a
  completed_read i j id c a invoked reads done = inv.reads i j id c a invoked reads done
