-- A script with its next step.
use Rattle.std.proofs.Common.{◌≡◌, ◌<◌, ◌≤◌, ℕ, zero, suc, ◌+◌, ◌-◌, List, [], ◌++◌, length, Some, refl, ap, ◌∙◌, subst, arith}
use Rattle.serde_json.specs.Written.{compact_text}
use Rattle.curp_msg.specs.declared.script.Header.{Header}
use Rattle.curp_msg.specs.declared.script.Step.{Step}
use Rattle.curp_law_print.specs.Ranges.{StepInRange}
use Rattle.curp_run.specs.Run.{ArePrintable}
use Rattle.curp_script.specs.Printed.{NamesNode, header_data, step_data}
use Rattle.curp_base.specs.Words.{Each}
use Rattle.curp_gen.specs.Making.{Making, after, begun, made_steps, next_step, steps_from, with_next}
use Rattle.curp_gen.specs.Texts.{made_script, script_text}
use Rattle.curp_io.specs.Text.{lines_of}
use Rattle.curp_runner.specs.Reading.{script_in}
use Rattle.curp_msg.specs.Script.{IsHeader}
use Rattle.curp_msg.specs.Limits.{step_limit}
use Rattle.curp_script.specs.Script.{Whole, script_of}
use Rattle.curp_script.specs.Texts.{header_line, line_text, lines_text, script_lines, step_line}
use Rattle.curp_words.specs.Plan.{IsPlan, header_of}
use Rattle.curp_words.specs.declared.task.MakePlan.{MakePlan}
use Rattle.curp_gen.proofs.Made.{next_plan, next_made}

-- no step is made past the plan's last one
pub counted_more : (m new : Making) (i n : ℕ) → new ≡ with_next m → i < n → m.made + (n - i) ≤ m.plan.steps
    → (i + 1 ≤ n) × (new.made + (n - (i + 1)) ≤ new.plan.steps)
counted_more m new i n state below counted =
    let made : new.made ≡ m.made + 1 = ap (λ (x : Making). x.made) state ∙ next_made m in
    let steps : new.plan.steps ≡ m.plan.steps = ap (λ (x : Making). x.plan.steps) state ∙ ap (λ p. p.steps) (next_plan m) in
    (omega arith, omega arith)

-- the first of the steps that are left
pub next_line : (m : Making) (i n : ℕ) → i < n
    → lines_text (steps_from (n - i) m) ≡ step_line (next_step m) ++ lines_text (steps_from (n - (i + 1)) (with_next m))
unfolding steps_from
next_line m i n below =
    let e : n - i ≡ suc (n - (i + 1)) = omega arith in
    rw e refl

-- and where they lead to
pub after_more : (m : Making) (i n : ℕ) → i < n → after (n - i) m ≡ after (n - (i + 1)) (with_next m)
unfolding after
after_more m i n below =
    let e : n - i ≡ suc (n - (i + 1)) = omega arith in
    rw e refl

-- no step is left
pub no_line : (m : Making) (i n : ℕ) → n ≤ i → lines_text (steps_from (n - i) m) ≡ []
unfolding steps_from
no_line m i n past =
    let e : n - i ≡ 0 = omega arith in
    rw e refl

-- and it leads nowhere else
pub no_more : (m : Making) (i n : ℕ) → n ≤ i → after (n - i) m ≡ m
unfolding after
no_more m i n past =
    let e : n - i ≡ 0 = omega arith in
    rw e refl

-- what is printed for the next step is its line
pub printed_line : (m : Making) (s : Step) (line : List ℕ) → line ≡ compact_text (step_data s) → s ≡ next_step m → line_text line ≡ step_line (next_step m)
printed_line m s line printed is = ap line_text (printed ∙ ap (λ x. compact_text (step_data x)) is)

-- and for a header, its line
pub printed_header : (h header : Header) (line : List ℕ) → line ≡ compact_text (header_data h) → h ≡ header → line_text line ≡ header_line header
unfolding header_line
printed_header h header line printed is = ap line_text (printed ∙ ap (λ x. compact_text (header_data x)) is)

-- ---- each can be printed

-- the steps that are left, and the next one
pub printable_more : (m new : Making) (s : Step) (i n : ℕ) → i < n → s ≡ next_step m → new ≡ with_next m → NamesNode s → StepInRange s
    → ArePrintable (steps_from (n - (i + 1)) new) → ArePrintable (steps_from (n - i) m)
unfolding steps_from
printable_more m new s i n below is state names fits rest =
    let e : n - i ≡ suc (n - (i + 1)) = omega arith in
    let more = subst (λ (x : Making). ArePrintable (steps_from (n - (i + 1)) x)) state rest in
    rw e (record { names = (subst NamesNode is names, more.names); in_range = (subst StepInRange is fits, more.in_range) })

-- none
pub none_printable : (m : Making) (i n : ℕ) → n ≤ i → ArePrintable (steps_from (n - i) m)
unfolding steps_from
none_printable m i n past =
    let e : n - i ≡ 0 = omega arith in
    rw e (record { names = tt; in_range = tt })

-- as many as were asked for
pub as_many : (n : ℕ) (m : Making) → length (steps_from n m) ≡ n
unfolding steps_from
as_many zero m = refl
as_many (suc n) m = ap suc (as_many n (with_next m))

-- a made script is read whole, as every printed one is
pub made_is_read : (plan : MakePlan) (m : Making) (h : Header) → m ≡ begun plan → IsPlan plan → h ≡ header_of m.plan → IsHeader h
    → ((h : Header) (ss : List Step) → IsHeader h → Each NamesNode ss → Each StepInRange ss → length ss ≤ step_limit
    → script_of (lines_of (script_lines h ss)) ≡ record { header = Some h; body = record { steps = ss; ending = Whole } })
    → ArePrintable (steps_from plan.steps m) → script_in (script_text plan) ≡ made_script plan
made_is_read plan m h is fits opened valid reads printable =
    let steps = subst (λ (x : Making). ArePrintable (steps_from plan.steps x)) is printable in
    let header : h ≡ header_of plan = opened ∙ ap (λ (x : Making). header_of x.plan) is in
    reads (header_of plan) (made_steps plan) (subst IsHeader header valid) steps.names steps.in_range
    (omega (arith, as_many plan.steps (begun plan), fits.steps.1))
