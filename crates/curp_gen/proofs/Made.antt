-- One step more, and one command more.
use Rattle.std.proofs.Common.{◌≡◌, ◌≤◌, ◌<◌, ◌+◌, ◌-◌, ◌++◌, ℕ, suc, Bool, true, false, List, [], ◌∷◌, refl, sym, ap, ◌∙◌, arith, append_assoc, append-nil}
use Rattle.std.proofs.lemmas.Bool.Decides.{nat_tests}
use Rattle.std.specs.Prelude.{◌==◌, ◌%◌, ◌&&◌, nat_le, nat_lt, not, is_some}
use Rattle.rand_pcg.specs.Lcg.{Lcg}
use Rattle.curp_cmd.specs.declared.command.Command.{Command}
use Rattle.curp_model.specs.World.{World, step}
use Rattle.curp_msg.specs.declared.outcome.Outcome.{Outcome}
use Rattle.curp_msg.specs.declared.script.Step.{Step}
use Rattle.curp_gen.specs.Commands.{made_command, made_commands}
use Rattle.curp_gen.specs.Making.{Making, choice, interval, is_done, is_recovery_due, next_step, plus_if, steps_from, with_next}
use Rattle.curp_gen.specs.declared.choice.Choice.{Choice}

first_command : (count at : ℕ) (words : Lcg) → at < count
    → made_commands (count - at) words ≡ (made_command words).0 ∷ made_commands (count - (at + 1)) (made_command words).1
unfolding made_commands
first_command count at words below = let e : count - at ≡ suc (count - (at + 1)) = omega arith in rw e refl

-- a command more is made, and the others follow
pub commands_go_on : (before : List Command) (count at : ℕ) (words after : Lcg) (all : List Command) (command : Command) → at < count
    → (command, after) ≡ made_command words → before ++ made_commands (count - at) words ≡ all
    → (before ++ command ∷ []) ++ made_commands (count - (at + 1)) after ≡ all
commands_go_on before count at words after all command below is so =
    let here : command ∷ made_commands (count - (at + 1)) after ≡ made_commands (count - at) words
    = ap (λ (made : Command × Lcg). made.0 ∷ made_commands (count - (at + 1)) made.1) is ∙ sym (first_command count at words below) in
    append_assoc before (command ∷ []) (made_commands (count - (at + 1)) after)
    ∙ ap (λ (rest : List Command). before ++ rest) here ∙ so

first_step : (count at : ℕ) (m : Making) → at < count → steps_from (count - at) m ≡ next_step m ∷ steps_from (count - (at + 1)) (with_next m)
unfolding steps_from
first_step count at m below = let e : count - at ≡ suc (count - (at + 1)) = omega arith in rw e refl

-- a step more is made, and the others follow
pub steps_go_on : (before : List Step) (count at : ℕ) (m n : Making) (all : List Step) (s : Step) → at < count
    → s ≡ next_step m → n ≡ with_next m → before ++ steps_from (count - at) m ≡ all
    → (before ++ s ∷ []) ++ steps_from (count - (at + 1)) n ≡ all
steps_go_on before count at m n all s below is then so =
    let here : s ∷ steps_from (count - (at + 1)) n ≡ steps_from (count - at) m
    = rw (is, then) (sym (first_step count at m below)) in
    append_assoc before (s ∷ []) (steps_from (count - (at + 1)) n) ∙ ap (λ (rest : List Step). before ++ rest) here ∙ so

-- the plan stays, and one more is made
pub next_plan : (m : Making) → (with_next m).plan ≡ m.plan
unfolding with_next
next_plan m = refl

pub next_made : (m : Making) → (with_next m).made ≡ m.made + 1
unfolding with_next
next_made m = refl

-- the next step is the one that is chosen
pub step_is_next : (m : Making) (chosen : Choice) (after : Lcg) → (chosen, after) ≡ choice m m.words → chosen.step ≡ next_step m
unfolding next_step
step_is_next m chosen after is = ap (λ (made : Choice × Lcg). made.0.step) is

-- after it the script is the next one
pub state_is_next : (m : Making) (chosen : Choice) (after : Lcg) (w : World) (o : Outcome) (recoveries refused completed : ℕ)
    → (chosen, after) ≡ choice m m.words → w ≡ (step m.world chosen.step).world → o ≡ (step m.world chosen.step).outcome
    → recoveries ≡ plus_if (is_recovery_due m) m.recoveries → refused ≡ plus_if (not (is_done o.result)) m.refused
    → completed ≡ plus_if (is_some o.completed) m.completed
    → record m {
      world = w;
      words = after;
      cursor = chosen.cursor;
      made = m.made + 1;
      recoveries = recoveries;
      refused = refused;
      completed = completed;
    } ≡ with_next m
unfolding with_next
state_is_next m chosen after w o recoveries refused completed is world outcome more_recoveries more_refused more_completed =
    rw (more_completed, more_refused, more_recoveries, outcome, world, sym is) refl

-- a count that is one more where it is so
pub plus_if_most : (so : Bool) (count most : ℕ) → count ≤ most → plus_if so count ≤ most + 1
plus_if_most true count most below = omega arith
plus_if_most false count most below = omega arith

pub plus_if_within : (so : Bool) (count most : ℕ) → (so ≡ true → count < most) → count ≤ most → plus_if so count ≤ most
plus_if_within true count most room below = let above : count < most = room refl in omega arith
plus_if_within false count most room below = below

-- no more of them follow
pub no_commands : (before : List Command) (left : ℕ) (words : Lcg) (all : List Command) → left ≡ 0 → before ++ made_commands left words ≡ all → before ≡ all
unfolding made_commands
no_commands before left words all none so = sym (append-nil before) ∙ (rw none at so)

pub no_steps : (before : List Step) (left : ℕ) (m : Making) (all : List Step) → left ≡ 0 → before ++ steps_from left m ≡ all → before ≡ all
unfolding steps_from
no_steps before left m all none so = sym (append-nil before) ∙ (rw none at so)

second_holds : (a b : Bool) → a && b ≡ true → b ≡ true
second_holds true b both = both
second_holds false b both = absurd cc

-- a recovery is due only while fewer were made than the plan asks for
pub recovery_room : (m : Making) → is_recovery_due m ≡ true → m.recoveries < m.plan.recoveries
recovery_room m due =
    let later : ((m.made + 1) % interval m.plan == 0 && nat_lt m.recoveries m.plan.recoveries) ≡ true
    = second_holds (nat_le 1 (interval m.plan)) ((m.made + 1) % interval m.plan == 0 && nat_lt m.recoveries m.plan.recoveries) due in
    let fewer : nat_lt m.recoveries m.plan.recoveries ≡ true
    = second_holds ((m.made + 1) % interval m.plan == 0) (nat_lt m.recoveries m.plan.recoveries) later in
    grind (arith, nat_tests)
