-- A step of any master keeps what is kept of reads.
use Rattle.std.proofs.Common.{◌≡◌, inl, inr, ℕ, Bool, true, false, if◌then◌else◌, List, [], ◌++◌, append-nil, refl, ◌∙◌, subst, Option, Some}
use Rattle.curp_base.specs.Words.{At, Each, numbered}
use Rattle.curp_cmd.specs.Node.{client_node, master_node}
use Rattle.curp_cmd.specs.declared.node.NodeId.{NodeId}
use Rattle.curp_msg.specs.Moved.{says, sends}
use Rattle.curp_msg.specs.declared.body.Body.{Body}
use Rattle.curp_msg.specs.declared.body.Body.TheVariants as body
use Rattle.curp_msg.specs.declared.body.Worth.{Worth}
use Rattle.curp_msg.specs.declared.message.Message.{Message}
use Rattle.curp_model.specs.Marks.{Mark}
use Rattle.curp_model.specs.Master.{MasterState}
use Rattle.curp_model.specs.Recovery.{Fresh, MasterStage, Recovering, Serving}
use Rattle.curp_model.specs.World.{World, is_adopted, master_marks}
use Rattle.curp_facts.specs.Facts.{IsAmong}
use Rattle.curp_facts.specs.Known.{Known}
use Rattle.curp_law_kept.proofs.Gives.{MasterStep, step_follows, sent_cases, among_each, one_state}
use Rattle.curp_law_linear.specs.Ordered.{CutsFollow, Ordered, CutsTimed}
use Rattle.curp_law_linear.specs.Refined.{Refines}
use Rattle.curp_law_linear.proofs.ReadsCaptures.{ReadsMove}
use Rattle.curp_law_linear.proofs.ReadsLater.{ReadsOk, reads_later}
use Rattle.curp_law_linear.proofs.ReadsMasters.{serving_step_reads}
use Rattle.curp_law_linear.specs.Refined.{NoAdoption}
use Rattle.curp_law_linear.proofs.ReadsMoves.{none_drops}
use Rattle.curp_law_linear.proofs.ReadsQuiet.{looks_same}
use Rattle.curp_law_kept.specs.Moves.{IsSaidBy, RecoverySays}
use Rattle.curp_law_kept.specs.Stages.{FreshSays}
use Rattle.curp_facts.specs.Predecessors.{Predecessors}
use Rattle.curp_law_linear.proofs.MastersCuts.{master_lives, master_entries, master_newer, master_late}
use Rattle.curp_msg.specs.declared.body.Quick.{Quick as QuickValue}
use Rattle.curp_cmd.proofs.Nodes.{either_node}

-- ---- a master that doesn't serve yet

-- where there is nothing to be marked the marks stay
unmarked : (b : Bool) (marks later : List Mark) → later ≡ (if b then marks ++ [] else marks) → later ≡ marks
unmarked true marks later e = e ∙ append-nil marks
unmarked false marks later e = e

module _ {w v : World} (known : Known w) (now : Known v) (chain : Predecessors w) (later : Predecessors v) (ordered : Ordered w) (r : Refines w v) (none : Each NoAdoption r.moves)
    {n : ℕ} {from : NodeId} {heard : Option Body} {out : List Message} where
  module _ {m k : MasterStage} (s : MasterStep w v n from heard m k out) where
    quick_none : (Say : NodeId → Body → Type 0) → ((to : NodeId) (q : QuickValue) → Say to (body.Quick q) → ⊥) → Each (IsSaidBy n Say) out → (node to : NodeId) (q : QuickValue) → IsAmong (says node to (body.Quick q)) out → ⊥
    quick_none Say never all node to q a = never to q (among_each (IsSaidBy n Say) out all _ a).says_so

    said_none : (Say : NodeId → Body → Type 0) → ((to : NodeId) (x : Worth) → Say to (body.Worth x) → ⊥) → Each (IsSaidBy n Say) out → (node to : NodeId) (x : Worth) → IsAmong (says node to (body.Worth x)) out → ⊥
    said_none Say never all node to x a = never to x (among_each (IsSaidBy n Say) out all _ a).says_so

    idle : CutsFollow v → CutsTimed v → v.marks ≡ w.marks → ((node to : NodeId) (x : Worth) → IsAmong (says node to (body.Worth x)) out → ⊥) → ((node to : NodeId) (q : QuickValue) → IsAmong (says node to (body.Quick q)) out → ⊥) → ((y : MasterState) → k ≡ Serving y → y.captures ≡ []) → ReadsOk v
    idle cuts_follow cuts_timed marks silent quickless own = reads_later known chain ordered (step_follows known s) now later r (record {
      cuts_follow = cuts_follow;
      cuts_timed = cuts_timed;
      looks = looks_same marks;
      entries = λ c here. inl (master_entries n from heard out m k s c here);
      newer = master_newer n from heard out m k s;
      late = master_late n from heard out m k s;
      keeps = λ part long stored. none_drops r.moves none part long;
      lives = master_lives n from heard out m k s;
      quicks = λ node q sent. elim (sent_cases w v out s.frame.sent _ sent) [
        | inl was ↦ was
        | inr new ↦ absurd (quickless node (client_node q.id.client) q new)
      ];
      worths = λ node x sent. elim (sent_cases w v out s.frame.sent _ sent) [
        | inl was ↦ was
        | inr new ↦ absurd (silent node (client_node x.id.client) x new)
      ];
      masters = λ node y is. elim (either_node node (master_node n)) [
        | inl same ↦ inr (own y (one_state _ k (Serving y) s.is.its_state (subst (λ (z : NodeId). numbered v.masters z.number ≡ Some (Serving y)) same is.its_state)))
        | inr apart ↦ inl (s.others node (Serving y) apart is)
      ];
      waits = λ node y is c ok. inl (none_drops r.moves none y.part c.length);
    })

  -- ---- all together

  -- an input to a master keeps what is kept of reads
  pub master_reads : (m k : MasterStage) → MasterStep w v n from heard m k out → v.marks ≡ (if is_adopted w.manager (master_node n) then w.marks ++ master_marks (master_node n) m k else w.marks)
      → ((x y : MasterState) → m ≡ Serving x → k ≡ Serving y → ReadsMove x from heard (sends y out)) → CutsFollow v → CutsTimed v → ReadsOk v
  master_reads (Serving x) (Serving y) s marks reads cuts_follow cuts_timed = serving_step_reads known now chain later ordered s (reads x y refl refl) r none marks cuts_follow cuts_timed
  master_reads Fresh Fresh s marks reads cuts_follow cuts_timed = idle s cuts_follow cuts_timed (unmarked (is_adopted w.manager (master_node n)) w.marks v.marks marks) (said_none s (FreshSays w) (λ to x e. e) s.move) (quick_none s (FreshSays w) (λ to q e. e) s.move) (λ y e. absurd cc)
  master_reads Fresh (Recovering t) s marks reads cuts_follow cuts_timed = idle s cuts_follow cuts_timed (unmarked (is_adopted w.manager (master_node n)) w.marks v.marks marks) (said_none s (RecoverySays w t) (λ to x e. e) s.move.move.says) (quick_none s (RecoverySays w t) (λ to q e. e) s.move.move.says) (λ y e. absurd cc)
  master_reads (Recovering a) (Recovering t) s marks reads cuts_follow cuts_timed = idle s cuts_follow cuts_timed (unmarked (is_adopted w.manager (master_node n)) w.marks v.marks marks) (said_none s (RecoverySays w t) (λ to x e. e) s.move.says) (quick_none s (RecoverySays w t) (λ to q e. e) s.move.says) (λ y e. absurd cc)
  master_reads (Recovering a) (Serving y) s marks reads cuts_follow cuts_timed = idle s cuts_follow cuts_timed (unmarked (is_adopted w.manager (master_node n)) w.marks v.marks marks) (λ node to x among. nothing s.move.silent among) (λ node to q among. nothing s.move.silent among) (λ z e. empty e s.move.begins.captures)
    where
      nothing : {x : Message} → out ≡ [] → IsAmong x out → ⊥
      nothing {x} silent among = let at : At [] among.place x = subst (λ (xs : List Message). At xs among.place x) silent among.stands in cc

      empty : {a b : MasterState} → Serving a ≡ Serving b → a.captures ≡ [] → b.captures ≡ []
      empty {a} {b} e none = let same : a ≡ b = cc in subst (λ (z : MasterState). z.captures ≡ []) same none
  master_reads (Serving x) Fresh s marks reads cuts_follow cuts_timed = absurd s.move
  master_reads (Serving x) (Recovering t) s marks reads cuts_follow cuts_timed = absurd s.move
  master_reads Fresh (Serving y) s marks reads cuts_follow cuts_timed = absurd s.move
  master_reads (Recovering a) Fresh s marks reads cuts_follow cuts_timed = absurd s.move
