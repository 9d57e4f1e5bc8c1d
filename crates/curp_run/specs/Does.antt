-- What a run of the program did, word by word: what it took of its source, what it wrote to its sink, and how it ended.
use Rattle.std.specs.Prelude.{◌≡◌, ◌≢◌, ◌⊎◌, ◌↔◌, ℕ, ◌-◌, ◌++◌, true, false, List, [], length, map, Option, Some, None}
use Rattle.curp_base.specs.Words.{IsPrefix}
use Rattle.curp_io.specs.Streaming.{TellsFault, Took, Wrote}
use Rattle.curp_gen.specs.Texts.{made_script, made_text}
use Rattle.curp_check.specs.Claim.{IsClaimOfOrder, claim_in}
use Rattle.curp_check.specs.declared.verdict.Clause.{Clause}
use Rattle.curp_law_served.specs.Served.{answered, header_of, in_turn}
use Rattle.curp_manage.specs.Lines.{manage_script_in}
use Rattle.curp_manage.specs.Text.{HoldsManaged, managed_of}
use Rattle.curp_model.specs.World.{world}
use Rattle.curp_play.specs.Play.{HasAnOrder, HoldsWholeLines, claim_of, text_of}
use Rattle.curp_runner.specs.Reading.{script_in}
use Rattle.curp_runner.specs.Status.{EndsWhole, code_of, is_cut_short, status_of}
use Rattle.curp_runner.specs.declared.status.Status.{Status}
use Rattle.curp_runner.specs.declared.status.Status.TheVariants as status
use Rattle.curp_runner.specs.Writing.{WritesText}
use Rattle.curp_runner.specs.Check.{EndsAs, EndsJudged, IsBrokenClaim, IsJudgedPrefix, is_verdict, verdict_text}
use Rattle.curp_resp.specs.Input.{Decomposes}
use Rattle.curp_resp.specs.Meaning.{meaning}
use Rattle.curp_run.specs.Live.{IsLive, IsLivePrefix}
use Rattle.curp_play.specs.Show.{EndsMade, IsOfMaking}
use Rattle.curp_script.specs.Script.{Ending, Whole}
use Rattle.curp_session.specs.Session.{EndsSession, HoldsAnswers, ShowsReplied, commands_in, replies_of_one_thread, session, session_text}
use Rattle.curp_words.specs.declared.task.LivePlan.{LivePlan}
use Rattle.curp_words.specs.declared.task.MakePlan.{MakePlan}
use Rattle.curp_words.specs.declared.task.Output.{Output}
use Rattle.curp_words.specs.declared.task.Output.TheVariants as output
use Rattle.curp_words.specs.declared.task.Report.TheVariants.{Steps, History}
use Rattle.curp_words.specs.declared.task.RespOutput.TheVariants as resp_output
use Rattle.curp_words.specs.declared.task.RespPlan.{RespPlan}
use Rattle.curp_words.specs.declared.task.Task.{Task}
use Rattle.curp_words.specs.declared.task.Task.TheVariants.{Play, Make, Live, Check, Manage, Resp}

-- ---- what each word does

-- what it wrote is passed on, or it wrote nothing
abbrev pub IsPassedOn : Wrote → Type 0
IsPassedOn wrote = (wrote.flushed ≡ true) ⊎ (wrote.after ≡ wrote.before)

-- a script is read line by line, and done: it ends so, and that is its whole text
pub record DoesScript (ending : Ending) (whole : List ℕ) (took : Took) (wrote : Wrote) (s : Status) : Type 0 where
  -- it ends as the script does, unless a fault or running out of memory cuts it short
  pub ends : took.tells ≡ true → is_cut_short s ≡ false → s ≡ status_of ending
  -- at status 0 nothing is left of it
  pub end : took.tells ≡ true → s ≡ status.Ok → took.after ≡ []
  -- where there is memory and no fault, a script within the grammar and its limits is done to its end
  pub complete : took.tells ≡ true → ending ≡ Whole
      → EndsWhole s took.faults_before took.faults_after wrote.faults_before wrote.faults_after
  -- the text of the script; where it is cut short, a prefix of the text
  pub text : took.tells ≡ true → WritesText whole wrote s

-- `play`: the text of the script
pub record PlaysScript (took : Took) (wrote : Wrote) (s : Status) : Type 0 where
  -- it plays the script
  pub does : DoesScript (script_in took.before).body.ending (text_of (script_in took.before)) took wrote s
  -- where reading failed, the text of the whole lines that were taken
  pub at_fault : took.tells ≡ true → wrote.tells ≡ true → s ≡ status.ReadFault
      → HoldsWholeLines took.before took.after wrote.before wrote.after
  -- before it waited for more input it had passed on what it wrote
  pub passed_on : s ≡ status.ReadFault → IsPassedOn wrote
  -- the order that it prints is one of the history
  pub order : took.tells ≡ true → s ≡ status.Ok → HasAnOrder (script_in took.before)

-- `play --history`: the lines of what clients saw and of the order, which `check` reads back and says yes to
pub record TellsHistory (took : Took) (wrote : Wrote) (s : Status) : Type 0 where
  -- it plays the script, and writes these lines
  pub does : DoesScript (script_in took.before).body.ending (claim_of (script_in took.before)) took wrote s
  -- they are read back as a history and an order of it
  pub order : took.tells ≡ true → s ≡ status.Ok → IsClaimOfOrder (claim_of (script_in took.before))

-- `make`: what the plan gives, or a prefix of it
pub record MakesScript (plan : MakePlan) (form : Output) (wrote : Wrote) (s : Status) : Type 0 where
  -- a write fault and running out of memory are the only failures
  pub of_making : IsOfMaking s
  -- without a fault it ends with status 0, or out of memory
  pub complete : EndsMade s wrote.faults_before wrote.faults_after
  -- the text of the plan; where it is cut short, a prefix of the text
  pub text : WritesText (made_text plan form) wrote s
  -- a made script is read whole, as the plan's
  pub reads : s ≡ status.Ok → form ≡ output.Script → script_in (made_text plan output.Script) ≡ made_script plan

-- `live`: a script, an empty line, and what `play` writes for that script. In the script each client invokes its workload in
-- order, and each of these requests completes
pub record RunsLive (plan : LivePlan) (wrote : Wrote) (s : Status) : Type 0 where
  -- a write fault and running out of memory are the only failures
  pub of_making : IsOfMaking s
  -- without a fault it ends with status 0, or out of memory
  pub complete : EndsMade s wrote.faults_before wrote.faults_after
  -- a script that shows the work, and its text; where it is cut short, nothing, or a prefix of that
  pub text : wrote.tells ≡ true → s ≡ status.Ok → IsLive plan wrote.before wrote.after
  pub prefix : wrote.tells ≡ true → IsLivePrefix plan wrote.before wrote.after

-- `check`: the verdict on the claim, read to its end, or on the first line that is refused, is too long or is one too many
pub record JudgesClaim (took : Took) (wrote : Wrote) (s : Status) : Type 0 where
  -- it ends so, unless a fault or running out of memory cuts it short
  pub ends : took.tells ≡ true → is_cut_short s ≡ false → EndsAs took.before s
  -- yes exactly where the order is one of the history, and else the first clause that fails
  pub yes : took.tells ≡ true → is_cut_short s ≡ false → (s ≡ status.Ok) ↔ IsClaimOfOrder took.before
  pub no : (clause : Clause) → took.tells ≡ true → is_cut_short s ≡ false
      → (s ≡ status.No clause) ↔ IsBrokenClaim took.before clause
  -- where there is a verdict, nothing is left
  pub end : took.tells ≡ true → is_verdict s ≡ true → took.after ≡ []
  -- where there is memory and no fault, a claim that is read to its end has a verdict
  pub complete : took.tells ≡ true → (claim_in took.before).ending ≡ Whole
      → EndsJudged s took.faults_before took.faults_after wrote.faults_before wrote.faults_after
  -- the verdict alone; where it is cut short, nothing, or a prefix of the claim's verdict
  pub text : wrote.tells ≡ true → is_cut_short s ≡ false → wrote.after ≡ wrote.before ++ verdict_text s
  pub prefix : took.tells ≡ true → wrote.tells ≡ true → IsJudgedPrefix took.before wrote.before wrote.after

-- `manage`: what the manager's definition says over the inputs that are kept
pub record ManagesOrders (took : Took) (wrote : Wrote) (s : Status) : Type 0 where
  -- it does the script
  pub does : DoesScript (manage_script_in took.before).body.ending (managed_of (manage_script_in took.before)) took wrote s
  -- where reading failed, the texts of the whole lines that were taken
  pub at_fault : took.tells ≡ true → wrote.tells ≡ true → s ≡ status.ReadFault
      → HoldsManaged took.before took.after wrote.before wrote.after
  -- before it waited for more input it had passed on what it wrote
  pub passed_on : s ≡ status.ReadFault → IsPassedOn wrote

-- `resp`: the replies to the requests, or the script of the steps that serve them
pub record AnswersRequests (plan : RespPlan) (took : Took) (wrote : Wrote) (s : Status) : Type 0 where
  -- it ends by the first limit that is met, or as the input does
  pub ends : (requests : List (List (List ℕ))) (rest : List ℕ) → took.tells ≡ true → Decomposes requests took.before rest
      → is_cut_short s ≡ false
      → EndsSession (session plan requests).served.stopped (length took.before - length rest) rest s
  -- the text of the session; where it is cut short, a prefix of the text
  pub text : (requests : List (List (List ℕ))) (rest : List ℕ) → took.tells ≡ true → Decomposes requests took.before rest
      → WritesText (session_text plan requests rest) wrote s
  -- where reading failed, what is due for the whole requests that were taken
  pub at_fault : took.tells ≡ true → wrote.tells ≡ true → s ≡ status.ReadFault
      → HoldsAnswers plan took.before took.after wrote.before wrote.after
  -- before it waited for more input it had passed on what it wrote
  pub passed_on : s ≡ status.ReadFault → wrote.flushed ≡ true
  -- the script is read whole, as the steps that serve
  pub plays : (requests : List (List (List ℕ))) (rest : List ℕ) → took.tells ≡ true → Decomposes requests took.before rest
      → is_cut_short s ≡ false → plan.output ≡ resp_output.Script
      → script_in (session_text plan requests rest) ≡ record {
        header = Some (header_of plan.f);
        body = record { steps = (session plan requests).served.steps; ending = Whole };
      }
  -- the replies are those of one thread, or, where a limit was met, a prefix of these
  pub as_one_thread : (requests : List (List (List ℕ))) → is_cut_short s ≡ false
      → (session plan requests).served.stopped ≡ None → (session plan requests).replies ≡ replies_of_one_thread requests
  pub prefix_of_one_thread : (requests : List (List (List ℕ))) → is_cut_short s ≡ false
      → IsPrefix (session plan requests).replies (replies_of_one_thread requests)
  -- also where a limit was met, its run shows what was replied
  pub shows_replied : (requests : List (List (List ℕ))) → is_cut_short s ≡ false
      → ShowsReplied plan.f (map meaning requests) (session plan requests)
  -- its run completes each command before the next, with the answer that one thread gives
  pub completes_in_turn : (requests : List (List (List ℕ))) → is_cut_short s ≡ false → (session plan requests).served.stopped ≡ None
      → (world (header_of plan.f) (session plan requests).served.steps).history
      ≡ in_turn (answered (commands_in (map meaning requests)))

-- what a task does
abbrev pub DoesTask : Task → Took → Wrote → Status → Type 0
DoesTask (Play Steps) took wrote s = PlaysScript took wrote s
DoesTask (Play History) took wrote s = TellsHistory took wrote s
DoesTask (Make plan form) took wrote s = MakesScript plan form wrote s
DoesTask (Live plan) took wrote s = RunsLive plan wrote s
DoesTask Check took wrote s = JudgesClaim took wrote s
DoesTask Manage took wrote s = ManagesOrders took wrote s
DoesTask (Resp plan) took wrote s = AnswersRequests plan took wrote s

-- words that ask for none are refused, unless there is no memory to read them
abbrev pub DoesAsked : Option Task → Took → Wrote → Status → Type 0
DoesAsked None took wrote s = (s ≡ status.Usage) ⊎ (s ≡ status.NoMemory)
DoesAsked (Some task) took wrote s = DoesTask task took wrote s

-- ---- a run

-- a run that was asked for that task, or for none
pub record DoesRun (asked : Option Task) (took : Took) (wrote : Wrote) (s : Status) : Type 0 where
  -- what the record of the word says
  pub did : DoesAsked asked took wrote s
  -- only words that ask for no task are no command line
  pub usage : s ≡ status.Usage → asked ≡ None
  -- what it wrote is passed on
  pub flushed : asked ≢ None → is_cut_short s ≡ false → wrote.flushed ≡ true
  -- a fault comes exactly where the count of faults rose first
  pub read_fault : TellsFault (s ≡ status.ReadFault) took.faults_before took.faults_after
  pub write_fault : TellsFault (s ≡ status.WriteFault) wrote.faults_before wrote.faults_after

-- such a run ended with a status of this number
pub record EndsWith (number : ℕ) (asked : Option Task) (took : Took) (wrote : Wrote) : Type 0 where
  pub status : Status
  pub ran : DoesRun asked took wrote status
  pub is : number ≡ code_of status
