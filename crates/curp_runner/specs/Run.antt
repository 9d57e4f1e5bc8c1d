-- What a player does with the lines of a script, and what it writes for them.
use Rattle.std.specs.Prelude.{◌≡◌, ℕ, ◌+◌, List, [], ◌∷◌, ◌++◌, Option, Some, None, Result}
use Rattle.curp_io.specs.Text.{lines_of}
use Rattle.curp_msg.specs.declared.script.Header.{Header}
use Rattle.curp_script.specs.declared.error.LineError.{LineError}
use Rattle.curp_script.specs.Script.{Ending, Whole, Bad, TooLong, TooMany}
use Rattle.curp_runner.specs.Reading.{Said, SaidScript, said_in, script_by}

-- what a header opens, what a line leads to, the text of the line of that number, and the closing text
pub record Rules (A W : Type 0) : Type 0 where
  pub opening : Header → W
  pub next : W → A → W
  pub text : ℕ → W → A → List ℕ
  pub closing : W → List ℕ

-- what lines lead to
abbrev pub after : {A W : Type 0} → Rules A W → W → List A → W
after rules w [] = w
after rules w (l ∷ ls) = after rules (rules.next w l) ls

-- the texts of lines, numbered from a number on, and a text behind them of what they lead to
abbrev pub texts : {A W : Type 0} → Rules A W → (W → List ℕ) → ℕ → W → List A → List ℕ
texts rules closing number w [] = closing w
texts rules closing number w (l ∷ ls) = rules.text number w l ++ texts rules closing (number + 1) (rules.next w l) ls

-- no text
abbrev pub no_text : {W : Type 0} → W → List ℕ
no_text w = []

-- the closing text, where the script was read to its end
abbrev pub closing_by : {A W : Type 0} → Rules A W → Ending → W → List ℕ
closing_by rules Whole w = rules.closing w
closing_by rules (Bad line reason) w = []
closing_by rules (TooLong line) w = []
closing_by rules TooMany w = []

-- the text of what is said behind a header, where the lines are numbered from a number on
abbrev pub text_due : {A W : Type 0} → Rules A W → ℕ → W → Said A → List ℕ
text_due rules number w body = texts rules (closing_by rules body.ending) number w body.lines

-- a script without a header has no text
abbrev pub text_behind_header : {A W : Type 0} → Rules A W → Option Header → Said A → List ℕ
text_behind_header rules None body = []
text_behind_header rules (Some header) body = text_due rules 1 (rules.opening header) body

abbrev pub text_by : {A W : Type 0} → Rules A W → SaidScript A → List ℕ
text_by rules s = text_behind_header rules s.header s.body

-- the texts of its lines alone
abbrev pub line_texts_behind : {A W : Type 0} → Rules A W → Option Header → List A → List ℕ
line_texts_behind rules None lines = []
line_texts_behind rules (Some header) lines = texts rules no_text 1 (rules.opening header) lines

abbrev pub line_texts_by : {A W : Type 0} → Rules A W → SaidScript A → List ℕ
line_texts_by rules s = line_texts_behind rules s.header s.body.lines

-- the texts of the lines that bytes behind a header are
abbrev pub line_texts_in : {A W : Type 0} → (List ℕ → Result A LineError) → Rules A W → W → List ℕ → List ℕ
line_texts_in meaning rules opened bytes = texts rules no_text 1 opened (said_in meaning 2 (lines_of bytes)).lines

-- How scripts end, their texts, those of their lines alone, and what stands once such a script was done to its end: said of
-- bytes, they are what the meaning of a line and the rules say of them.
pub record SaysOfBytes {A W : Type 0} (meaning : List ℕ → Result A LineError) (rules : Rules A W) (holds : W → Type 0)
    (ending : List ℕ → Ending) (text line_texts : List ℕ → List ℕ) (stands : List ℕ → Type 0) : Type 0 where
  pub ending_is : (bytes : List ℕ) → ending bytes ≡ (script_by meaning (lines_of bytes)).body.ending
  pub text_is : (bytes : List ℕ) → text bytes ≡ text_by rules (script_by meaning (lines_of bytes))
  pub line_texts_are : (bytes : List ℕ) → line_texts bytes ≡ line_texts_by rules (script_by meaning (lines_of bytes))
  pub stands_by : (bytes : List ℕ) (header : Header) (lines : List A)
      → script_by meaning (lines_of bytes) ≡ record { header = Some header; body = record { lines = lines; ending = Whole } }
      → holds (after rules (rules.opening header) lines) → stands bytes
