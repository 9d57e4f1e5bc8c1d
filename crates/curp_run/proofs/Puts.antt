-- A text that is put piece by piece.
use Rattle.std.proofs.Common.{◌≡◌, ◌∙◌, ◌++◌, ℕ, List, Bool, true, Result, Ok, Err, IfErr, sym, ap, subst}
use Rattle.std.specs.Result.{IsErrAnd}
use Rattle.curp_io.specs.Streaming.{Wrote, wrote_of}
use Rattle.curp_io.specs.Streams.{HoldsPart, Rose}
use Rattle.curp_runner.specs.declared.status.Status.{Status}
use Rattle.curp_runner.specs.declared.status.Status.TheVariants as status
use Rattle.curp_runner.specs.Reading.{IsOfWriting}
use Rattle.curp_runner.specs.Status.{ended}
use Rattle.curp_runner.specs.Writing.{PutsText, WritesText}
use Rattle.curp_runner.proofs.Endings.{written_whole}
use Rattle.curp_runner.proofs.Pieces.{both_if_ok, nothing, second_of_two}

-- memory ran out before anything was put
pub none_put : {A : Type 0} (text : List ℕ) (sink : Wrote) (r : Result A Status) → IsErrAnd r (λ s. s ≡ status.NoMemory) → sink.after ≡ sink.before
    → (sink.tells ≡ true → sink.still_tells ≡ true) → sink.faults_after ≡ sink.faults_before → PutsText text sink r
none_put text sink (Ok _) err same tells faults = absurd err
none_put text sink (Err s) err same tells faults =
    let out : s ≡ status.NoMemory = err in
    record {
      whole = λ told. tt;
      prefix = λ told. subst (λ (now : List ℕ). HoldsPart sink.before now text) (sym same) (nothing sink.before text);
      writing = subst IsOfWriting (sym out) tt;
      tells = tells;
      fault = record { rose = λ is. absurd cc; stands = λ other. faults };
    }

-- a piece was put in part, and that error ends it
pub put_in_part : {A B : Type 0} (text piece : List ℕ) (sink : Wrote) (r : Result A Status) (w : Result B Status) (e : Status) → w ≡ Err e → IsErrAnd r (λ s. s ≡ e)
    → (sink.tells ≡ true → HoldsPart sink.before sink.after text) → PutsText piece sink w → PutsText text sink r
put_in_part text piece sink (Ok _) w e was err part puts = absurd err
put_in_part text piece sink (Err s) w e was err part puts =
    let it : s ≡ e = err in
    record {
      whole = λ told. tt;
      prefix = part;
      writing = subst IsOfWriting (sym it) (subst (λ x. IfErr x IsOfWriting) was puts.writing);
      tells = puts.tells;
      fault = record {
        rose = λ is. let same : e ≡ status.WriteFault = cc in puts.fault.rose (was ∙ ap Err same);
        stands = λ other. puts.fault.stands (λ is. let same : e ≡ status.WriteFault = cc in other (ap Err (it ∙ same)));
      };
    }

-- the same text
pub put_as : {A : Type 0} (text other : List ℕ) (sink : Wrote) (r : Result A Status) → text ≡ other → PutsText text sink r → PutsText other sink r
put_as text other sink r same puts = subst (λ (t : List ℕ). PutsText t sink r) same puts

-- one piece was put, and then the other
pub both_put : {A B K : Type 0} (tells : K → Bool) (held : K → List ℕ) (flushed : K → Bool) (faults : K → ℕ) (old mid new : K) (first second : List ℕ) (x : B) (r : Result A Status)
    → PutsText {A = B} first (wrote_of tells held flushed faults old mid) (Ok x) → PutsText second (wrote_of tells held flushed faults mid new) r
    → PutsText (first ++ second) (wrote_of tells held flushed faults old new) r
both_put tells held flushed faults old mid new first second x r one other =
    let none : faults mid ≡ faults old = one.fault.stands (λ is. absurd cc) in
    record {
      whole = λ told. both_if_ok r (held old) (held mid) (held new) first second (one.whole told) (other.whole (one.tells told));
      prefix = λ told. second_of_two (held old) (held mid) (held new) first second (one.whole told) (other.prefix (one.tells told));
      writing = other.writing;
      tells = λ told. other.tells (one.tells told);
      fault = record {
        rose = λ is. subst (λ (n : ℕ). Rose n (faults new)) none (other.fault.rose is);
        stands = λ is. other.fault.stands is ∙ none;
      };
    }

-- what was put is what a run wrote that ends so
pub put_writes : (text : List ℕ) (sink : Wrote) (r : Result (Unit {0}) Status) → PutsText text sink r → WritesText text sink (ended r)
put_writes text sink r puts = record { whole = λ told cut. written_whole r puts.writing cut (puts.whole told); prefix = puts.prefix }
