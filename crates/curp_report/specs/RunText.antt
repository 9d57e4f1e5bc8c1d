-- The text of a run: what every step did, and behind that what is told of the world at the end (this project's own).
use Rattle.std.specs.Prelude.{ℕ, ◌+◌, List, [], ◌∷◌, ◌++◌}
use Rattle.curp_msg.specs.declared.script.Header.{Header}
use Rattle.curp_msg.specs.declared.script.Step.{Step}
use Rattle.curp_report.specs.Text.{step_text, order_text}
use Rattle.curp_model.specs.World.{World, Stepped, step, opening, answered_order, sent_at}

-- the text of a step: how it went, the messages that it sent, and what it completed
abbrev pub made_text : ℕ → Stepped → List ℕ
made_text number s = step_text number s.outcome (sent_at 1 s.world.sent s.outcome.first)

-- the texts of steps in their order, numbered from a number on, and a closing text of the world that they lead to
abbrev pub steps_text : (World → List ℕ) → ℕ → World → List Step → List ℕ
steps_text closing number w [] = closing w
steps_text closing number w (s ∷ ss) = made_text number (step w s) ++ steps_text closing (number + 1) (step w s).world ss

-- one order of the requests, each with the answer of one thread
abbrev pub closing_order : World → List ℕ
closing_order w = order_text (answered_order w)

-- the text of a header's run
abbrev pub run_text : Header → List Step → List ℕ
run_text h steps = steps_text closing_order 1 (opening h) steps
