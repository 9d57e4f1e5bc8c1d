-- The text of a run computes with the pairs of each store as a list.
use Rattle.std.proofs.Common.{◌≡◌, ℕ, ◌+◌, ◌==◌, not, List, [], ◌∷◌, ◌++◌, refl, ap, ◌∙◌}
use Rattle.curp_base.specs.Cases.{first_case, only_if}
use Rattle.curp_base.specs.Words.{numbered}
use Rattle.curp_cmd.specs.declared.command.Answer.{Answer}
use Rattle.curp_cmd.specs.declared.node.NodeKind.{NodeKind}
use Rattle.curp_cmd.specs.declared.node.NodeKind.TheVariants as kind
use Rattle.curp_msg.specs.Moved.{Moved, within}
use Rattle.curp_msg.specs.Input.{Input}
use Rattle.curp_msg.specs.Input as input
use Rattle.curp_msg.specs.declared.outcome.StepResult.{StepResult}
use Rattle.curp_msg.specs.declared.outcome.StepResult.TheVariants as result
use Rattle.curp_msg.specs.declared.script.Header.{Header}
use Rattle.curp_msg.specs.declared.script.Step.{Step}
use Rattle.curp_report.specs.Text.{order_text}
use Rattle.curp_model.specs.Recovery.{MasterStage, master_input, master_ordered}
use Rattle.curp_model.specs.World.{World, Deed, Gives, Stepped, opening, weight, with_master, moves_one, moves_kind, deed_of, effect, events_of, is_lost, names_nobody, stops_manager, names_stopped, is_too_much, result_of, refused, kept, steps_by, step, order, with_answers}
use Rattle.curp_report.specs.RunText.{made_text, closing_order, steps_text, run_text}
use Rattle.curp_rows.proofs.ListedLog.{listed_answers, same_answers}
use Rattle.curp_rows.proofs.ListedMaster.{listed_master, same_master}

-- ---- what an input does

abbrev pub listed_input : ℕ → MasterStage → Input → Moved MasterStage
listed_input n m (input.Message message) = listed_master n m message.from message.body
listed_input n m (input.Local order) = master_ordered n m order

same_input : (n : ℕ) (m : MasterStage) (given : Input) → master_input n m given ≡ listed_input n m given
same_input n m (input.Message message) = same_master n m message.from message.body
same_input n m (input.Local order) = refl

abbrev pub listed_moves : World → NodeKind → ℕ → Input → Moved World
listed_moves w kind.Master n given = moves_one w (λ m. within (with_master w n given m) (listed_input n m given)) (numbered w.masters n)
listed_moves w k n given = moves_kind w k n given

same_moves : (w : World) (k : NodeKind) (n : ℕ) (given : Input) → moves_kind w k n given ≡ listed_moves w k n given
same_moves w kind.Master n given = λ i. moves_one w (λ m. within (with_master w n given m) (same_input n m given i)) (numbered w.masters n)
same_moves w k n given = refl

abbrev pub listed_effect : World → Deed → Moved World
listed_effect w (Gives to given) = listed_moves w to.kind to.number given
listed_effect w deed = effect w deed

same_effect : (w : World) (deed : Deed) → effect w deed ≡ listed_effect w deed
same_effect w (Gives to given) = same_moves w to.kind to.number given
same_effect w deed = refl

-- ---- a step, whose effect is found once

abbrev pub result_by : World → Step → Moved World → StepResult
result_by w s does = first_case (
    only_if (is_lost w s) result.NoMessage
    ∷ only_if (names_nobody w s) result.NoNode
    ∷ only_if (stops_manager s) result.Manager
    ∷ only_if (names_stopped w s) result.Gone
    ∷ only_if (is_too_much w (deed_of w s)) (result.Full (weight w))
    ∷ only_if (not (does.refused == 0)) (result.Refused does.refused)
    ∷ []) result.Done

abbrev pub listed_by : World → Deed → Moved World → StepResult → Stepped
listed_by w deed does result.Done = kept w (events_of w deed) does
listed_by w deed does why = refused w why

same_by : (w : World) (deed : Deed) (r : StepResult) → steps_by w deed r ≡ listed_by w deed (effect w deed) r
same_by w deed result.Done = refl
same_by w deed why = refl

abbrev pub steps_with : World → Step → Moved World → Stepped
steps_with w s does = listed_by w (deed_of w s) does (result_by w s does)

abbrev pub listed_step : World → Step → Stepped
listed_step w s = steps_with w s (listed_effect w (deed_of w s))

same_step : (w : World) (s : Step) → step w s ≡ listed_step w s
unfolding step
same_step w s = same_by w (deed_of w s) (result_of w s) ∙ ap (steps_with w s) (same_effect w (deed_of w s))

-- ---- the text

abbrev pub order_with : World → List Answer → List ℕ
order_with w answered = order_text (with_answers (order w) answered)

abbrev pub listed_closing : World → List ℕ
listed_closing w = order_with w (listed_answers [] (order w))

abbrev pub listed_steps : ℕ → World → List Step → List ℕ
listed_steps number w [] = listed_closing w
listed_steps number w (s ∷ ss) = made_text number (listed_step w s) ++ listed_steps (number + 1) (listed_step w s).world ss

abbrev pub listed_text : Header → List Step → List ℕ
listed_text h ss = listed_steps 1 (opening h) ss

same_steps : (number : ℕ) (w : World) (ss : List Step) → steps_text closing_order number w ss ≡ listed_steps number w ss
same_steps number w [] = ap (order_with w) (same_answers (order w))
same_steps number w (s ∷ ss) =
    ap (λ rest. made_text number (step w s) ++ rest) (same_steps (number + 1) (step w s).world ss)
    ∙ ap (λ (after : Stepped). made_text number after ++ listed_steps (number + 1) after.world ss) (same_step w s)

-- the text of a run is the one that computes
pub same_text : (h : Header) (ss : List Step) → run_text h ss ≡ listed_text h ss
same_text h ss = same_steps 1 (opening h) ss
