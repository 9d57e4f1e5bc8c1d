-- What the end of a run says.
use Rattle.std.proofs.Common.{◌≡◌, ◌≢◌, ◌∙◌, ◌++◌, ℕ, List, Result, Ok, Err, IfErr, OnOk, IsErrAnd, true, false, true≢false, ap, sym, subst}
use Rattle.curp_io.specs.Streaming.{TellsFault, Wrote}
use Rattle.curp_io.specs.Streams.{HoldsPart}
use Rattle.curp_runner.specs.declared.status.Status.{Status}
use Rattle.curp_runner.specs.declared.status.Status.TheVariants as status
use Rattle.curp_runner.specs.Reading.{IsOfWriting}
use Rattle.curp_runner.specs.Status.{ended, is_cut_short, is_fault}
use Rattle.curp_runner.specs.Writing.{WritesText}

-- a stop that is passed on was that of the call
pub same_stop : {A B : Type 0} (r : Result A Status) (call : Result B Status) (stop other : Status) → call ≡ Err stop
    → IsErrAnd r (λ e. e ≡ stop) → r ≡ Err other → call ≡ Err other
same_stop (Ok _) call stop other was same is = absurd same
same_stop (Err e) call stop other was same is = cc

-- what was written holds where it isn't cut short
pub written_whole : {P : Type 0} (r : Result (Unit {0}) Status) → IfErr r IsOfWriting → is_cut_short (ended r) ≡ false → OnOk r P → P
written_whole (Ok _) writing cut p = p
written_whole (Err status.WriteFault) writing cut p = absurd cc
written_whole (Err status.NoMemory) writing cut p = absurd cc
written_whole (Err status.Ok) writing cut p = absurd writing
written_whole (Err (status.No clause)) writing cut p = absurd writing
written_whole (Err status.Usage) writing cut p = absurd writing
written_whole (Err (status.BadLine line reason)) writing cut p = absurd writing
written_whole (Err status.ReadFault) writing cut p = absurd writing
written_whole (Err status.TooManySteps) writing cut p = absurd writing
written_whole (Err status.TooManyLines) writing cut p = absurd writing
written_whole (Err (status.TooLarge weight)) writing cut p = absurd writing
written_whole (Err (status.LineTooLong line)) writing cut p = absurd writing
written_whole (Err (status.BadRequest at)) writing cut p = absurd writing

-- ---- a run that is closed

read_by : (r : Result (Unit {0}) Status) → ended r ≡ status.ReadFault → r ≡ Err status.ReadFault
read_by (Ok _) is = absurd cc
read_by (Err stop) is = ap Err is

-- it ends by a read fault exactly where the run did
pub closed_read_fault : (r : Result (Unit {0}) Status) (s : Status) (before after : ℕ) → (s ≢ status.WriteFault → s ≡ ended r)
    → (is_fault (ended r) ≡ true → s ≡ ended r) → TellsFault (r ≡ Err status.ReadFault) before after → TellsFault (s ≡ status.ReadFault) before after
closed_read_fault r s before after ends stays t = record {
  rose = λ is. t.rose (read_by r (sym (ends (λ other. absurd cc)) ∙ is));
  stands = λ other. t.stands (λ is. other (stays (ap (λ (x : Result (Unit {0}) Status). is_fault (ended x)) is) ∙ ap ended is));
}

-- it writes the text that the run wrote
pub closed_text : (text : List ℕ) (run closed : Wrote) (r : Result (Unit {0}) Status) (s : Status) → closed.tells ≡ run.tells
    → closed.before ≡ run.before → (run.tells ≡ true → closed.after ≡ run.after) → (s ≢ status.WriteFault → s ≡ ended r)
    → WritesText text run (ended r) → WritesText text closed s
closed_text text run closed r s same was held ends wrote = record {
  whole = λ tells cut.
      let told : run.tells ≡ true = sym same ∙ tells in
      let is : s ≡ ended r = ends (λ fault. true≢false (sym (ap is_cut_short fault) ∙ cut)) in
      held told ∙ wrote.whole told (sym (ap is_cut_short is) ∙ cut) ∙ ap (λ (b : List ℕ). b ++ text) (sym was);
  prefix = λ tells.
      let told : run.tells ≡ true = sym same ∙ tells in
      subst (λ (b : List ℕ). HoldsPart b closed.after text) (sym was) (subst (λ (a : List ℕ). HoldsPart run.before a text) (sym (held told)) (wrote.prefix told));
}
