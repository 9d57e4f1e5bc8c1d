-- What a script does to a world, and what is written for it, by the rules of a player.
use Rattle.std.specs.Prelude.{◌≡◌, ℕ, ◌+◌, ◌-◌, nat_lt, Bool, true, false, List, [], ◌∷◌, ◌++◌, length, Option, Some, None, Result, Ok, Err}
use Rattle.std.proofs.Common.{refl, sym, ◌∙◌, ap, subst}
use Rattle.curp_base.specs.Limits.{line_limit}
use Rattle.curp_check.specs.Claim.{IsClaimOfOrder}
use Rattle.curp_io.specs.Text.{lines_of}
use Rattle.curp_model.specs.World.{World, opening, order, run, step}
use Rattle.curp_msg.specs.Limits.{step_limit}
use Rattle.curp_msg.specs.declared.script.Header.{Header}
use Rattle.curp_msg.specs.declared.script.Step.{Step}
use Rattle.curp_script.specs.EventTexts.{claim_lines}
use Rattle.curp_script.specs.Grammar.{header_in, step_in}
use Rattle.curp_script.specs.Script.{Ending, Whole, Bad, TooLong, TooMany, Script, Steps, begun_with, script_of, steps_in, with_step}
use Rattle.curp_script.specs.declared.error.LineError.{LineError}
use Rattle.curp_report.specs.RunText.{closing_order, made_text, steps_text}
use Rattle.curp_play.specs.Play.{HasAnOrder, LeadsToAnOrder, OrderStands, claim_behind, claim_of, claim_text, closing_text, no_order, text_behind, text_of, texts_of, texts_of_steps}
use Rattle.curp_runner.specs.Reading.{Said, SaidScript, said_behind, said_in, script_by, script_in, with_line}
use Rattle.curp_runner.specs.Run.{Rules, SaysOfBytes, after, closing_by, line_texts_behind, line_texts_by, no_text, text_behind_header, text_by, texts}

-- a world is played: each step has a text, and behind them stands the order
abbrev pub played : Rules Step World
played = record {
  opening = opening;
  next = λ w s. (step w s).world;
  text = λ number w s. made_text number (step w s);
  closing = closing_order;
}

-- a world is recorded: no step has a text, and behind them stand the lines of what clients saw and of the order
abbrev pub recorded : Rules Step World
recorded = record {
  opening = opening;
  next = λ w s. (step w s).world;
  text = λ number w s. [];
  closing = λ w. claim_lines w.history (order w);
}

-- the history of a world and its order are a claim that is right
abbrev pub HasClaim : World → Type 0
HasClaim w = IsClaimOfOrder (claim_lines w.history (order w))

-- ---- what is said in a script are its steps

abbrev pub as_said : Steps → Said Step
as_said s = record { lines = s.steps; ending = s.ending }

said_with : (n : ℕ) (r : Result Step LineError) (many : Bool) (more : Steps) (said : Said Step) → said ≡ as_said more → nat_lt step_limit (n - 1) ≡ many
    → with_line n r said ≡ as_said (with_step n r more)
said_with n (Err reason) many more said same is = refl
said_with n (Ok s) true more said same is = rw is refl
said_with n (Ok s) false more said same is = rw (is, same) refl

said_first : (n : ℕ) (line : List ℕ) (lines : List (List ℕ)) (long : Bool) → nat_lt line_limit (length line) ≡ long
    → said_in step_in (n + 1) lines ≡ as_said (steps_in (n + 1) lines) → said_in step_in n (line ∷ lines) ≡ as_said (steps_in n (line ∷ lines))
said_first n line lines true is more = rw is refl
said_first n line lines false is more = rw is (said_with n (step_in line) _ (steps_in (n + 1) lines) (said_in step_in (n + 1) lines) more refl)

steps_said : (n : ℕ) (lines : List (List ℕ)) → said_in step_in n lines ≡ as_said (steps_in n lines)
steps_said n [] = refl
steps_said n (line ∷ lines) = said_first n line lines _ refl (steps_said (n + 1) lines)

abbrev pub as_said_script : Script → SaidScript Step
as_said_script s = record { header = s.header; body = as_said s.body }

begun_said : (r : Result Header LineError) (more : Steps) (said : Said Step) → said ≡ as_said more → said_behind r said ≡ as_said_script (begun_with r more)
begun_said (Err reason) more said same = refl
begun_said (Ok h) more said same = rw same refl

headed_said : (line : List ℕ) (lines : List (List ℕ)) (long : Bool) → nat_lt line_limit (length line) ≡ long
    → script_by step_in (line ∷ lines) ≡ as_said_script (script_of (line ∷ lines))
headed_said line lines true is = rw is refl
headed_said line lines false is = rw is (begun_said (header_in line) (steps_in 2 lines) (said_in step_in 2 lines) (steps_said 2 lines))

script_said : (lines : List (List ℕ)) → script_by step_in lines ≡ as_said_script (script_of lines)
script_said [] = refl
script_said (line ∷ lines) = headed_said line lines _ refl

-- ---- played

texts_played : (c d : World → List ℕ) → ((w : World) → c w ≡ d w) → (n : ℕ) (w : World) (steps : List Step) → texts played c n w steps ≡ steps_text d n w steps
texts_played c d same n w [] = same w
texts_played c d same n w (s ∷ steps) = ap (λ t. made_text n (step w s) ++ t) (texts_played c d same (n + 1) (step w s).world steps)

after_played : (w : World) (steps : List Step) → after played w steps ≡ run w steps
after_played w [] = refl
after_played w (s ∷ steps) = after_played (step w s).world steps

closing_played : (ending : Ending) (w : World) → closing_by played ending w ≡ closing_text ending w
closing_played Whole w = refl
closing_played (Bad line reason) w = refl
closing_played (TooLong line) w = refl
closing_played TooMany w = refl

text_played : (header : Option Header) (body : Steps) → text_behind_header played header (as_said body) ≡ text_behind header body
text_played None body = refl
text_played (Some h) body = texts_played (closing_by played body.ending) (closing_text body.ending) (closing_played body.ending) 1 (opening h) body.steps

line_texts_played : (header : Option Header) (body : Steps) → line_texts_behind played header body.steps ≡ texts_of_steps header body.steps
line_texts_played None body = refl
line_texts_played (Some h) body = texts_played no_text no_order (λ w. refl) 1 (opening h) body.steps

order_played : (header : Option Header) (body : Steps) (h : Header) (steps : List Step) → header ≡ Some h → body.steps ≡ steps
    → OrderStands (after played (opening h) steps) → LeadsToAnOrder header body
order_played None body h steps headed same stands = absurd cc
order_played (Some x) body h steps headed same stands =
    let x_is : h ≡ x = cc headed in
    subst OrderStands (after_played (opening x) body.steps) (rw (x_is, ← same) at stands)

-- the rules of a world that is played say what `play` is said to do
pub play_says : SaysOfBytes step_in played OrderStands (λ bytes. (script_in bytes).body.ending) (λ bytes. text_of (script_in bytes))
    (λ bytes. texts_of (script_in bytes)) (λ bytes. HasAnOrder (script_in bytes))
play_says = record {
  ending_is = λ bytes. sym (ap (λ (s : SaidScript Step). s.body.ending) (script_said (lines_of bytes)));
  text_is = λ bytes.
      sym (ap (text_by played) (script_said (lines_of bytes)) ∙ text_played (script_in bytes).header (script_in bytes).body);
  line_texts_are = λ bytes.
      sym (ap (line_texts_by played) (script_said (lines_of bytes)) ∙ line_texts_played (script_in bytes).header (script_in bytes).body);
  stands_by = λ bytes h steps is stands.
      let said = sym (script_said (lines_of bytes)) ∙ is in
      order_played (script_in bytes).header (script_in bytes).body h steps (ap (λ (s : SaidScript Step). s.header) said)
      (ap (λ (s : SaidScript Step). s.body.lines) said) stands;
}

-- ---- recorded

texts_recorded : (c : World → List ℕ) (n : ℕ) (w : World) (steps : List Step) → texts recorded c n w steps ≡ c (run w steps)
texts_recorded c n w [] = refl
texts_recorded c n w (s ∷ steps) = texts_recorded c (n + 1) (step w s).world steps

after_recorded : (w : World) (steps : List Step) → after recorded w steps ≡ run w steps
after_recorded w [] = refl
after_recorded w (s ∷ steps) = after_recorded (step w s).world steps

closing_recorded : (ending : Ending) (w : World) → closing_by recorded ending w ≡ claim_behind ending w
closing_recorded Whole w = refl
closing_recorded (Bad line reason) w = refl
closing_recorded (TooLong line) w = refl
closing_recorded TooMany w = refl

text_recorded : (header : Option Header) (body : Steps) → text_behind_header recorded header (as_said body) ≡ claim_text header body
text_recorded None body = refl
text_recorded (Some h) body =
    texts_recorded (closing_by recorded body.ending) 1 (opening h) body.steps ∙ closing_recorded body.ending (run (opening h) body.steps)

line_texts_recorded : (header : Option Header) (steps : List Step) → line_texts_behind recorded header steps ≡ []
line_texts_recorded None steps = refl
line_texts_recorded (Some h) steps = texts_recorded no_text 1 (opening h) steps

claim_recorded : (header : Option Header) (body : Steps) (h : Header) (steps : List Step) → header ≡ Some h → body.steps ≡ steps → body.ending ≡ Whole
    → HasClaim (after recorded (opening h) steps) → IsClaimOfOrder (claim_text header body)
claim_recorded None body h steps headed same whole claim = absurd cc
claim_recorded (Some x) body h steps headed same whole claim =
    let x_is : h ≡ x = cc headed in
    rw whole (subst HasClaim (after_recorded (opening x) body.steps) (rw (x_is, ← same) at claim))

-- the rules of a world that is recorded say what `play --history` is said to do
pub record_says : SaysOfBytes step_in recorded HasClaim (λ bytes. (script_in bytes).body.ending) (λ bytes. claim_of (script_in bytes))
    (λ bytes. []) (λ bytes. IsClaimOfOrder (claim_of (script_in bytes)))
record_says = record {
  ending_is = λ bytes. sym (ap (λ (s : SaidScript Step). s.body.ending) (script_said (lines_of bytes)));
  text_is = λ bytes.
      sym (ap (text_by recorded) (script_said (lines_of bytes)) ∙ text_recorded (script_in bytes).header (script_in bytes).body);
  line_texts_are = λ bytes.
      sym (line_texts_recorded (script_by step_in (lines_of bytes)).header (script_by step_in (lines_of bytes)).body.lines);
  stands_by = λ bytes h steps is claim.
      let said = sym (script_said (lines_of bytes)) ∙ is in
      claim_recorded (script_in bytes).header (script_in bytes).body h steps (ap (λ (s : SaidScript Step). s.header) said)
      (ap (λ (s : SaidScript Step). s.body.lines) said) (ap (λ (s : SaidScript Step). s.body.ending) said) claim;
}
