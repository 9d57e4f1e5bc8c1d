-- What a run on threads shows.
use Rattle.std.proofs.Common.{◌≡◌, Result, Ok, Err, Option, Some, None, IfOk, IfSome, [], ◌∷◌, ◌++◌, ℕ, List, Global, Vec, length, map, ap, sym, ◌∙◌, subst, append_assoc}
use Rattle.std.proofs.lemmas.List.{length-map}
use Rattle.curp_cmd.specs.declared.command.Command.{Command}
use Rattle.curp_msg.specs.declared.script.Header.{Header}
use Rattle.curp_msg.specs.declared.script.Step.{Step}
use Rattle.curp_script.specs.Script.{Script}
use Rattle.curp_words.specs.Plan.{IsLivePlan, live_header}
use Rattle.curp_words.specs.declared.task.LivePlan.{LivePlan}
use Rattle.curp_gather.specs.Journals.{IsScriptOf, journals_of}
use Rattle.curp_gather.specs.declared.journals.Journals.{Journals}
use Rattle.curp_gen.specs.Commands.{workload_of}
use Rattle.curp_live.specs.Live.{IsLiveRun}
use Rattle.curp_nodes.proofs.Numbers.{named_length}
use Rattle.curp_run.specs.Live.{Shows, work_of}
use Rattle.curp_run.proofs.Shown.{shown}

-- vectors as lists
abbrev pub lists_of : List (Vec Command Global) → List (List Command)
lists_of work = map (λ (list : Vec Command Global). list.items) work

-- there is a list for each client
pub work_length : (plan : LivePlan) (work : List (Vec Command Global)) → lists_of work ≡ work_of plan → length work ≡ plan.clients
work_length plan work is =
    sym (length-map work (λ (list : Vec Command Global). list.items))
    ∙ (ap length is ∙ named_length (λ (n : ℕ). workload_of plan.number n plan.commands) plan.clients)

-- the script of a run shows the work
pub shows : (plan : LivePlan) (journals : Journals) (steps : List Step) → IsLivePlan plan → IsLiveRun plan (work_of plan) journals
    → IsScriptOf (live_header plan) (journals_of journals) steps → Shows plan steps
shows plan journals steps fits run script = shown plan journals steps run script

-- as the program has it: the work as vectors, and a header that is the plan's
pub run_shows : (plan : LivePlan) (h : Header) (work : List (Vec Command Global)) (journals : Journals) (steps : List Step) → IsLivePlan plan
    → h ≡ live_header plan → lists_of work ≡ work_of plan → IsLiveRun plan (lists_of work) journals → IsScriptOf h (journals_of journals) steps
    → Shows plan steps
run_shows plan h work journals steps fits header same run script =
    shows plan journals steps fits (subst (λ (w : List (List Command)). IsLiveRun plan w journals) same run)
    (subst (λ (x : Header). IsScriptOf x (journals_of journals) steps) header script)

-- what holds of one that was found
pub if_found : {T E : Type 0} (found : Result (Option T) E) (P Q : T → Type 0) → ((x : T) → P x → Q x)
    → IfOk found (λ (one : Option T). IfSome one P) → IfOk found (λ (one : Option T). IfSome one Q)
if_found (Ok (Some x)) P Q implies holds = implies x holds
if_found (Ok None) P Q implies holds = tt
if_found (Err _) P Q implies holds = tt
