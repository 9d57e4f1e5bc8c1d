-- Lines, each with a line feed behind it, and the steps that they are.
use Rattle.std.proofs.Common.{◌≡◌, ◌≤◌, ◌+◌, ◌-◌, ◌==◌, ◌++◌, nat_lt, ℕ, List, [], ◌∷◌, length, true, false, Some, Ok, refl, ap, ◌∙◌, arith, append_assoc}
use Rattle.std.proofs.lemmas.Bool.{and_parts}
use Rattle.std.proofs.lemmas.Bool.Decides.{nat_tests}
use Rattle.serde_json.specs.Written.{compact_text}
use Rattle.curp_base.specs.Words.{Each}
use Rattle.curp_io.specs.Text.{lines_of}
use Rattle.curp_msg.specs.declared.script.Header.{Header}
use Rattle.curp_msg.specs.declared.script.Step.{Step}
use Rattle.curp_script.specs.Grammar.{step_in}
use Rattle.curp_script.specs.Printed.{header_data, step_data}
use Rattle.curp_script.specs.Script.{Whole, script_of, steps_in}
use Rattle.curp_base.specs.Limits.{line_limit}
use Rattle.curp_msg.specs.Limits.{step_limit}
use Rattle.curp_law_print.proofs.Bytes.{are_shown, is_shown}
use Rattle.curp_law_print.proofs.Headers.{IsHeaderLine}
use Rattle.curp_script.specs.Texts.{header_line, line_text, lines_text, script_lines}

-- shown bytes up to a line feed are a line
first_line : (line rest : List ℕ) → are_shown line ≡ true → lines_of (line ++ 10 ∷ rest) ≡ line ∷ lines_of rest
first_line [] rest all = refl
first_line (byte ∷ bytes) rest all =
    let parts = and_parts (is_shown byte) (are_shown bytes) all in
    let other : (byte == 10) ≡ false = grind (arith, nat_tests, parts.0) in
    rw (other, first_line bytes rest parts.1) refl

pub line_first : (line rest : List ℕ) → are_shown line ≡ true → lines_of (line_text line ++ rest) ≡ line ∷ lines_of rest
line_first line rest all = ap lines_of (append_assoc line (10 ∷ []) rest) ∙ first_line line rest all

-- a step's text is a line that is read as the step
pub record IsLine (step : Step) : Type 0 where
  pub all_shown : are_shown (compact_text (step_data step)) ≡ true
  pub fits : length (compact_text (step_data step)) ≤ line_limit
  pub read : step_in (compact_text (step_data step)) ≡ Ok step

pub not_below : (n m : ℕ) → m ≤ n → nat_lt n m ≡ false
not_below n m most = grind (arith, nat_tests)

steps_read : (n : ℕ) (steps : List Step) → Each IsLine steps → n + length steps ≤ step_limit + 2
    → steps_in n (lines_of (lines_text steps)) ≡ record { steps = steps; ending = Whole }
steps_read n [] each fits = refl
steps_read n (step ∷ steps) each fits =
    let line = compact_text (step_data step) in
    let first = each.0 in
    ap (steps_in n) (line_first line (lines_text steps) first.all_shown)
    ∙ rw (not_below line_limit (length line) first.fits, first.read, not_below step_limit (n - 1) (omega arith), steps_read (n + 1) steps each.1 (omega arith)) refl

-- a script whose lines are read one by one is read whole
pub script_read : (h : Header) (steps : List Step) → IsHeaderLine h → Each IsLine steps → length steps ≤ step_limit
    → script_of (lines_of (script_lines h steps)) ≡ record { header = Some h; body = record { steps = steps; ending = Whole } }
unfolding header_line
script_read h steps first each fits =
    let line = compact_text (header_data h) in
    ap script_of (line_first line (lines_text steps) first.all_shown)
    ∙ rw (not_below line_limit (length line) first.fits, first.read, steps_read 2 steps each (omega (arith, fits))) refl
