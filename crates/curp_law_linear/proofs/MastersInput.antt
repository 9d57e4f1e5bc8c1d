-- Whatever comes to a master: it answers a read at once, or what it pushes and captures is marked, and nothing else.
use Rattle.std.proofs.Common.{◌≡◌, ◌+◌, ◌==◌, ◌&&◌, nat_lt, if◌then◌else◌, ℕ, Bool, true, List, [], ◌∷◌, fold, length, map, refl, ap, ap₂, sym, ◌∙◌, subst, Option, Some, None, arith, ◌≤◌, ◌++◌}
use Rattle.curp_msg.specs.Input.{Input}
use Rattle.curp_cmd.specs.declared.node.NodeId.{NodeId}
use Rattle.curp_msg.specs.declared.body.Body.{Body}
use Rattle.curp_model.specs.Recovery.{MasterStage, Serving, Fresh, Recovering, master_input}
use Rattle.curp_msg.specs.declared.message.Message.{Message}
use Rattle.curp_law_linear.proofs.MastersCaptures.{StageCaptures}
use Rattle.curp_model.specs.Master.{MasterState, serving_ordered, on_serving, Captured}
use Rattle.curp_law_linear.proofs.ReadsCaptures.{ReadsMove}
use Rattle.curp_msg.specs.Moved.{sends, Moved}
use Rattle.curp_model.specs.Marks.{Mark, with_quick}
use Rattle.curp_model.specs.World.{with_glance, glance_in, quick_mark, master_marks, op_marks, capture_mark, new_captures, World}
use Rattle.curp_cmd.specs.Node.{master_node}
use Rattle.curp_law_linear.proofs.MastersGlance.{AnswersAtOnce, ServingMoves, Slowly, AtOnce, serving_moves, order_moves}
use Rattle.curp_cmd.specs.declared.command.Request.{Request}
use Rattle.curp_msg.specs.declared.machine.Local.{Local}
use Rattle.curp_facts.specs.Known.{Known}
use Rattle.curp_law_kept.proofs.Gives.{speaker, heard_in}
use Rattle.curp_base.specs.Words.{Each}
use Rattle.curp_facts.specs.Nodes.{CapturedOk}
use Rattle.curp_cmd.specs.declared.entry.Entry.{Entry}
use Rattle.curp_law_linear.proofs.ReadsMarks.{none_new}
use Rattle.curp_base.proofs.Lists.{Each-weaker}
use Rattle.std.proofs.Math.Seq.{drop-length}
use Rattle.curp_model.specs.Recovery as recovery
use Rattle.curp_msg.specs.Input as input
use Rattle.std.proofs.lemmas.Bool.{eq-eqb}
use Rattle.std.proofs.lemmas.Bool.Decides.{nat_tests}

pub data StageInput (n : ℕ) (given : Input) (from : NodeId) (heard : Option Body) (m k : MasterStage) (out : List Message) : Type 0 where
  Slow : StageCaptures m k → ((x y : MasterState) → m ≡ Serving x → k ≡ Serving y → ReadsMove x from heard (sends y out))
      → ((marks : List Mark) → with_glance (master_node n) given m k marks ≡ marks) → StageInput n given from heard m k out
  Quickly : (x y : MasterState) → m ≡ Serving x → k ≡ Serving y → (a : AnswersAtOnce n x heard y out)
      → ((marks : List Mark) → with_glance (master_node n) given m k marks ≡ with_quick (quick_mark (master_node n) y a.ask.request) marks) → StageInput n given from heard m k out

-- the glance that is answered at once
glance_is : (n : ℕ) (m : MasterState) (b : Body) (k : MasterState) (out : List Message) (a : AnswersAtOnce n m (Some b) k out) → glance_in b m k ≡ a.ask.request ∷ []
glance_is n m b k out a = ap₂ (λ (x : Body) (z : MasterState). glance_in x m z) (same a.is_heard) a.state ∙ ap (λ (t : Bool). if t then a.ask.request ∷ [] else []) (passes m.captured m.round)
  where
    same : {x y : Body} → Some x ≡ Some y → x ≡ y
    same e = cc

    passes : (c r : ℕ) → (nat_lt c (c + 1) && (r == r)) ≡ true
    passes c r = ap₂ (λ (a b : Bool). a && b) (below c) (eq-eqb r r refl)
      where
        below : (c : ℕ) → nat_lt c (c + 1) ≡ true
        below c = grind (arith, nat_tests)

-- a message to one that serves
message_input : (n : ℕ) (m : MasterState) (x : Message) (r : Moved MasterState) → ServingMoves n m x.from (Some x.body) r → StageInput n (input.Message x) x.from (Some x.body) (Serving m) (Serving r.state) r.messages
message_input n m x r (Slowly caps reads none) = Slow caps (λ a b before after.
    subst (λ (z : MasterState). ReadsMove z x.from (Some x.body) (sends b r.messages)) (same before)
    (subst (λ (z : MasterState). ReadsMove m x.from (Some x.body) (sends z r.messages)) (same after) (record { captures = reads.captures; rounds = reads.rounds; values = reads.values })))
    (λ marks. ap (fold (λ (ms : List Mark) (q : Request). with_quick (quick_mark (master_node n) r.state q) ms) marks) (none x.body refl))
  where
    same : {a b : MasterState} → Serving a ≡ Serving b → a ≡ b
    same e = cc
message_input n m x r (AtOnce a) = Quickly m r.state refl refl a
    (λ marks. ap (fold (λ (ms : List Mark) (q : Request). with_quick (quick_mark (master_node n) r.state q) ms) marks) (glance_is n m x.body r.state r.messages a))

-- an order to one that serves
order_input : (n : ℕ) (m : MasterState) (order : Local) (from : NodeId) → from ≡ master_node n → (r : Moved MasterState) → ServingMoves n m (master_node n) None r
    → StageInput n (input.Local order) from None (Serving m) (Serving r.state) r.messages
order_input n m order from its r (Slowly caps reads none) = Slow caps (λ a b before after.
    subst (λ (z : MasterState). ReadsMove z from None (sends b r.messages)) (same before)
    (subst (λ (z : MasterState). ReadsMove m from None (sends z r.messages)) (same after)
    (subst (λ (node : NodeId). ReadsMove m node None (sends r.state r.messages)) (sym its) (record { captures = reads.captures; rounds = reads.rounds; values = reads.values }))))
    (λ marks. refl)
  where
    same : {a b : MasterState} → Serving a ≡ Serving b → a ≡ b
    same e = cc
order_input n m order from its r (AtOnce a) = absurd (nothing a.is_heard)
  where
    nothing : {b : Body} → None ≡ Some b → ⊥
    nothing e = cc

pub stage_input : {w : World} (known : Known w) (n : ℕ) (m : MasterStage) (given : Input)
    → StageInput n given (speaker known n given) (heard_in known n given) m (master_input n m given).state (master_input n m given).messages
unfolding recovery.on_master recovery.master_ordered
stage_input known n (Serving z) (input.Local order) = order_input n z order (speaker known n (input.Local order)) refl (serving_ordered n z order) (order_moves n z order)
stage_input known n (Serving z) (input.Message x) = message_input n z x (on_serving n z x.from x.body) (serving_moves n z x.from x.body)
stage_input known n Fresh (input.Local order) = Slow tt (λ x y was is. absurd cc) (λ marks. refl)
stage_input known n Fresh (input.Message x) = Slow tt (λ x y was is. absurd cc) (λ marks. refl)
stage_input known n (Recovering s) (input.Local order) = Slow tt (λ x y was is. absurd cc) (λ marks. refl)
stage_input known n (Recovering s) (input.Message x) = Slow tt (λ x y was is. absurd cc) (λ marks. refl)

-- ---- where a read is answered at once

-- nothing was pushed or captured
pub nothing_pushed : (w : World) (n : ℕ) (heard : Option Body) (x y : MasterState) (out : List Message) → Each (CapturedOk w x) x.captures → AnswersAtOnce n x heard y out → master_marks (master_node n) (Serving x) (Serving y) ≡ []
nothing_pushed w n heard x y out low a =
    ap (λ (z : MasterState). master_marks (master_node n) (Serving x) (Serving z)) a.state
    ∙ ap (λ (es : List Entry). op_marks (master_node n) x.part x.epoch (length x.log) es ++ map (capture_mark (master_node n) x.part x.epoch) (new_captures x.captured x.captures)) (drop-length x.log)
    ∙ ap (map (capture_mark (master_node n) x.part x.epoch)) (none_new x.captured x.captures (Each-weaker (CapturedOk w x) (λ (c : Captured). c.number ≤ x.captured) (λ c k. k.number) x.captures low))
