-- What `manage` writes for the bytes of its script.
use Rattle.std.specs.Prelude.{ℕ, Bool, true, false, List, [], ◌∷◌, length, codes, None, ⊤}
use Rattle.std.proofs.Common.{refl}
use Rattle.std.specs.Fmt.{decimal}
use Rattle.curp_manage.specs.declared.outcome.LineOutcome.{LineOutcome}
use Rattle.curp_manage.specs.declared.outcome.LineOutcome.TheVariants as outcome
use Rattle.curp_manage.specs.Lines.{manage_script_in}
use Rattle.curp_manage.specs.Managed.{Managed, line_done, managed_opening}
use Rattle.curp_msg.specs.declared.outcome.StepResult.TheVariants as step
use Rattle.curp_runner.specs.Reading.{HoldsRead, SaidScript}
use Rattle.curp_runner.specs.Run.{Rules, SaysOfBytes, line_texts_by, text_by}
use Rattle.curp_cmd.specs.Text.{labelled}
use Rattle.curp_report.specs.Text.{line, step_text}
use Rattle.curp_script.specs.Manage.{manage_in}
use Rattle.curp_script.specs.declared.manage.ManageLine.{ManageLine}

-- what became of an input that was stopped
abbrev pub kept_word : Bool → List ℕ
kept_word true = codes "kept"
kept_word false = codes "lost"

-- how step number `number` went, and the messages that it sent, the first of which has that number
abbrev pub outcome_text : ℕ → ℕ → LineOutcome → List ℕ
outcome_text number first (outcome.Done messages) =
    step_text number (record { result = step.Done; first = first; sent = length messages; completed = None }) messages
outcome_text number first (outcome.Refused n) = step_text number (record { result = step.Refused n; first = first; sent = 0; completed = None }) []
outcome_text number first (outcome.Stopped kept) = line (labelled (codes "s") number ∷ codes "stopped" ∷ kept_word kept ∷ [])

-- the text of a line. Messages are numbered through the whole run
unfoldable pub managed_text : ℕ → Managed → ManageLine → List ℕ
managed_text number m l = outcome_text number m.next (line_done m l).outcome

-- how many inputs are kept
abbrev pub decisions_text : Managed → List ℕ
decisions_text m = line (codes "decisions" ∷ decimal m.decisions ∷ [])

-- each line has a text, and behind them stands how many inputs are kept
abbrev pub managed : Rules ManageLine Managed
managed = record {
  opening = managed_opening;
  next = λ m l. (line_done m l).now;
  text = managed_text;
  closing = decisions_text;
}

-- the text of a script
abbrev pub managed_of : SaidScript ManageLine → List ℕ
managed_of s = text_by managed s

-- the texts of its steps alone
abbrev pub texts_of_managed : SaidScript ManageLine → List ℕ
texts_of_managed s = line_texts_by managed s

-- the texts of the steps on the whole lines that were taken of a script
abbrev pub HoldsManaged : (left_before left_after held_before held_after : List ℕ) → Type 0
HoldsManaged left_before left_after held_before held_after =
    HoldsRead (λ read. texts_of_managed (manage_script_in read)) left_before left_after held_before held_after

-- what `manage` is said to do of bytes is what its rules say
pub manage_says : SaysOfBytes manage_in managed (λ _. ⊤) (λ bytes. (manage_script_in bytes).body.ending) (λ bytes. managed_of (manage_script_in bytes))
    (λ bytes. texts_of_managed (manage_script_in bytes)) (λ _. ⊤)
manage_says = record {
  ending_is = λ bytes. refl;
  text_is = λ bytes. refl;
  line_texts_are = λ bytes. refl;
  stands_by = λ bytes h lines is holds. tt;
}
