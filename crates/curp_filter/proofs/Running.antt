-- How a process ends.
use Rattle.std.specs.Prelude.{◌≡◌, ℕ, ◌-◌, ◌^◌, ◌<◌, ◌≤◌, true, List, [], ◌∷◌, ◌++◌, length, Result, Ok, Err, IfOk, IfErr, IsErrAnd, OnOk, refl}
use Rattle.std.proofs.Common.{sym, ◌∙◌, ap, subst, arith, append_assoc}
use Rattle.curp_durable.specs.Standing.{taken}
use Rattle.curp_durable.specs.Value.{DurableParts}
use Rattle.curp_io.specs.Streaming.{TellsFault}
use Rattle.curp_io.specs.Streams.{HoldsPart, Rose}
use Rattle.curp_journal.specs.declared.arrived.Arrived.{Arrived}
use Rattle.curp_msg.specs.Moved.{Moved}
use Rattle.curp_msg.specs.Input.{Input}
use Rattle.curp_filter.specs.Coming.{Comes, arrivals_of, number_behind}
use Rattle.curp_filter.specs.Keeping.{DiskKind, Outlasts}
use Rattle.curp_filter.specs.Saying.{text_of}
use Rattle.curp_filter.specs.Taking.{AreJudged}
use Rattle.curp_filter.specs.Turning.{AsksOnly, Breaks, ComesFirst, EndsAnswering, EndsBy, EndsInput, Intake, IsOfGathering, MovesBy, Outlet, Point, Ran, SameBut, Took, Turned, Unanswered, Wrote, point}
use Rattle.curp_filter.specs.declared.came.Came.{Came}
use Rattle.curp_filter.specs.declared.came.Role.{Role}
use Rattle.curp_filter.specs.declared.end.FilterEnd.{FilterEnd}
use Rattle.curp_filter.specs.declared.end.FilterEnd.TheVariants as end
use Rattle.curp_filter.proofs.Replies.{unanswered_silent}
use Rattle.curp_filter.proofs.Saying.{texts_again}
use Rattle.curp_filter.proofs.Coming.{comes_again, number_rises}
use Rattle.curp_filter.proofs.Judging.{judged_again}
use Rattle.curp_filter.proofs.Keeping.{outlasts_again, outlasts_none, takes_again}

pub nothing_behind : (xs ys : List ℕ) → xs ++ ys ≡ [] → ys ≡ []
nothing_behind [] ys none = none
nothing_behind (x ∷ xs) ys none = absurd cc

-- a part of a text behind a whole one
part_behind : (text rest old mid new : List ℕ) → mid ≡ old ++ text → HoldsPart mid new rest → HoldsPart old new (text ++ rest)
part_behind text rest old mid new whole h = record {
  part = text ++ h.part;
  prefix = record { rest = h.prefix.rest; is = append_assoc text h.part h.prefix.rest ∙ ap (λ (l : List ℕ). text ++ l) h.prefix.is };
  added = h.added ∙ ap (λ (l : List ℕ). l ++ h.part) whole ∙ append_assoc old text h.part;
}

-- an end that is passed on
pub passed_on : {A : Type 0} (P : FilterEnd → Type 0) (r : Result A FilterEnd) (it : FilterEnd) → IsErrAnd r (λ e. e ≡ it) → P it → IfErr r P
passed_on P (Ok x) it is p = tt
passed_on P (Err e) it is p = subst P (sym is) p

pub answered_counts : (r : Result ℕ FilterEnd) (number : ℕ) (cames : List Came) → 1 ≤ length cames → IfOk r (λ behind. behind ≡ number_behind number cames) → IfOk r (λ behind. number < 2 ^ 64 - 1 → number < behind)
answered_counts (Ok behind) number cames some counted = λ small. subst (λ (n : ℕ). number < n) (sym counted) (number_rises number cames small some)
answered_counts (Err it) number cames some counted = tt

module _ {N D : Type 0} (machine : N → Input → Moved N) (disk : DiskKind D) (role : Role) where
  asks_so : (it : FilterEnd) (old new : Point N D) → IsOfGathering it → AsksOnly [] old new it → (it ≡ end.ReadFault → Rose old.source.faults new.source.faults) → EndsBy disk [] old new it
  asks_so end.End old new h asks rose = asks
  asks_so (end.Inside at) old new h asks rose = asks
  asks_so (end.TooLong at) old new h asks rose = asks
  asks_so end.TooManyInputs old new h asks rose = absurd h
  asks_so end.ReadFault old new h asks rose = (asks, rose refl)
  asks_so end.WriteFault old new h asks rose = absurd h
  asks_so (end.NotKept why) old new h asks rose = absurd h
  asks_so end.NoMemory old new h asks rose = tt

  answers_so : (it : FilterEnd) (cames : List Came) (old new : Point N D) → EndsAnswering disk cames old.node new.node old.sink new.sink it → EndsBy disk cames old new it
  answers_so end.End cames old new h = absurd h
  answers_so (end.Inside at) cames old new h = absurd h
  answers_so (end.TooLong at) cames old new h = absurd h
  answers_so end.TooManyInputs cames old new h = absurd h
  answers_so end.ReadFault cames old new h = absurd h
  answers_so end.WriteFault cames old new h = h
  answers_so (end.NotKept why) cames old new h = h
  answers_so end.NoMemory cames old new h = tt

  -- it ended while it waited
  pub breaks_asking : (only_now : (d : D) (c : List ℕ) → disk.left_since d (disk.moment d) c → disk.may_leave d c) (it : FilterEnd) (old : Point N D) (source : Intake) → IsOfGathering it
      → (old.source.tells ≡ true → EndsInput old.source.bytes old.source.passed it source.bytes) → (old.source.tells ≡ true → source.tells ≡ true)
      → (it ≡ end.ReadFault → Rose old.source.faults source.faults) → SameBut end.ReadFault it old.source.faults source.faults
      → Breaks machine disk role old (point source old.number old.node old.sink) it
  breaks_asking only_now it old source h input tells rose same = record {
    cames = [];
    judged = tt;
    came = λ told. record { rest = old.source.bytes; passed = old.source.passed; comes = (refl, refl) };
    source_tells = tells;
    source_faults = same;
    unanswered = unanswered_silent machine disk [] old.number old.node old.node old.sink it (outlasts_none machine disk only_now old.node (taken machine old.node.stand [])) (omega arith);
    cause = asks_so it old (point source old.number old.node old.sink) h (record { nothing = refl; same_node = refl; same_sink = refl; input = input }) rose;
  }

  -- it ended while it answered
  pub breaks_answering : (it : FilterEnd) (cames : List Came) (old new : Point N D) → AreJudged machine role old.node.stand cames → Took cames old.source new.source
      → Unanswered machine disk cames old.number old.node new.node old.sink new.sink it → EndsAnswering disk cames old.node new.node old.sink new.sink it → Breaks machine disk role old new it
  breaks_answering it cames old new judged took unanswered cause = record {
    cames = cames;
    judged = judged;
    came = λ told. record { rest = new.source.bytes; passed = new.source.passed; comes = took.comes told };
    source_tells = took.tells;
    source_faults = λ other. took.same_faults;
    unanswered = unanswered;
    cause = answers_so it cames old new cause;
  }

  -- what was answered, or why it wasn't
  pub answered_breaks : (r : Result ℕ FilterEnd) (cames : List Came) (old new : Point N D) → AreJudged machine role old.node.stand cames → Took cames old.source new.source
      → IfErr r (Unanswered machine disk cames old.number old.node new.node old.sink new.sink) → IfErr r (EndsAnswering disk cames old.node new.node old.sink new.sink) → IfErr r (Breaks machine disk role old new)
  answered_breaks (Ok behind) cames old new judged took unanswered cause = tt
  answered_breaks (Err it) cames old new judged took unanswered cause = breaks_answering it cames old new judged took unanswered cause

  pub answered_turned : (r : Result ℕ FilterEnd) (cames : List Came) (old : Point N D) (source : Intake) (node : DurableParts N D) (sink : Outlet) → AreJudged machine role old.node.stand cames → Took cames old.source source
      → OnOk r (MovesBy machine disk (arrivals_of cames) old.node node) → OnOk r (Wrote (text_of machine old.node.stand old.number cames) old.sink sink)
      → IfOk r (λ behind. behind ≡ number_behind old.number cames) → IfOk r (λ behind. Turned machine disk role old (point source behind node sink))
  answered_turned (Ok behind) cames old source node sink judged took moved wrote counted = record { cames = cames; judged = judged; took = took; moved = moved; wrote = wrote; counted = counted }
  answered_turned (Err it) cames old source node sink judged took moved wrote counted = tt

  -- it ended since no number was left
  pub breaks_counted : (only_now : (d : D) (c : List ℕ) → disk.left_since d (disk.moment d) c → disk.may_leave d c) (p : Point N D) → p.number ≡ 2 ^ 64 - 1 → Breaks machine disk role p p end.TooManyInputs
  breaks_counted only_now p counted = record {
    cames = [];
    judged = tt;
    came = λ told. record { rest = p.source.bytes; passed = p.source.passed; comes = (refl, refl) };
    source_tells = λ told. told;
    source_faults = λ other. refl;
    unanswered = unanswered_silent machine disk [] p.number p.node p.node p.sink end.TooManyInputs (outlasts_none machine disk only_now p.node (taken machine p.node.stand [])) (omega arith);
    cause = (refl, counted);
  }

  pub ran_to : (old mid new : Point N D) (it : FilterEnd) → Turned machine disk role old mid → Breaks machine disk role mid new it → Ran machine disk role old new it
  ran_to old mid new it turned breaks = record { reached = mid; turned = turned; breaks = breaks }

  -- ---- faults

  pub read_fault : (old new : Point N D) (it : FilterEnd) → Ran machine disk role old new it → TellsFault (it ≡ end.ReadFault) old.source.faults new.source.faults
  read_fault old new it ran = record {
    rose = λ is.
        let cause = subst (λ (e : FilterEnd). EndsBy disk ran.breaks.cames ran.reached new e) is ran.breaks.cause in
        subst (λ (n : ℕ). Rose n new.source.faults) ran.turned.took.same_faults cause.1;
    stands = λ other. ran.breaks.source_faults other ∙ ran.turned.took.same_faults;
  }

  pub write_fault : (old new : Point N D) (it : FilterEnd) → Ran machine disk role old new it → TellsFault (it ≡ end.WriteFault) old.sink.faults new.sink.faults
  write_fault old new it ran = record {
    rose = λ is.
        let cause = subst (λ (e : FilterEnd). EndsBy disk ran.breaks.cames ran.reached new e) is ran.breaks.cause in
        subst (λ (n : ℕ). Rose n new.sink.faults) ran.turned.wrote.same_faults cause;
    stands = λ other. ran.breaks.unanswered.faults other ∙ ran.turned.wrote.same_faults;
  }

  -- ---- the whole input

  -- it ended with its input
  asked_only : (old new : Point N D) (it : FilterEnd) (ran : Ran machine disk role old new it) → it ≡ end.End → AsksOnly ran.breaks.cames ran.reached new end.End
  asked_only old new it ran is = subst (λ (e : FilterEnd). EndsBy disk ran.breaks.cames ran.reached new e) is ran.breaks.cause

  pub all_came : (old new : Point N D) (it : FilterEnd) (ran : Ran machine disk role old new it) → it ≡ end.End → old.source.tells ≡ true
      → Comes ran.turned.cames old.source.bytes old.source.passed [] ran.reached.source.passed
  all_came old new it ran is told =
      subst (λ (l : List ℕ). Comes ran.turned.cames old.source.bytes old.source.passed l ran.reached.source.passed)
      ((asked_only old new it ran is).input (ran.turned.took.tells told)).0 (ran.turned.took.comes told)

  pub all_written : (old new : Point N D) (it : FilterEnd) (ran : Ran machine disk role old new it) → it ≡ end.End → old.sink.tells ≡ true
      → new.sink.held ≡ old.sink.held ++ text_of machine old.node.stand old.number ran.turned.cames
  all_written old new it ran is told = ap (λ (o : Outlet). o.held) (asked_only old new it ran is).same_sink ∙ ran.turned.wrote.holds told

  pub none_left : (old new : Point N D) (it : FilterEnd) → Ran machine disk role old new it → it ≡ end.End → old.source.tells ≡ true → new.source.bytes ≡ []
  none_left old new it ran is told = ((asked_only old new it ran is).input (ran.turned.took.tells told)).1

  -- whatever ended it
  pub first_judged : (old new : Point N D) (it : FilterEnd) (ran : Ran machine disk role old new it) → AreJudged machine role old.node.stand (ran.turned.cames ++ ran.breaks.cames)
  first_judged old new it ran =
      judged_again machine role ran.turned.cames ran.breaks.cames old.node.stand ran.reached.node.stand ran.turned.moved.stand_is ran.turned.judged ran.breaks.judged

  pub first_came : (old new : Point N D) (it : FilterEnd) (ran : Ran machine disk role old new it) → old.source.tells ≡ true → ComesFirst (ran.turned.cames ++ ran.breaks.cames) old.source
  first_came old new it ran told =
      let last = ran.breaks.came (ran.turned.took.tells told) in
      record {
        rest = last.rest;
        passed = last.passed;
        comes = comes_again ran.turned.cames ran.breaks.cames old.source.bytes ran.reached.source.bytes last.rest old.source.passed ran.reached.source.passed last.passed
            (ran.turned.took.comes told) last.comes;
      }

  pub first_written : (old new : Point N D) (it : FilterEnd) (ran : Ran machine disk role old new it) → old.sink.tells ≡ true
      → HoldsPart old.sink.held new.sink.held (text_of machine old.node.stand old.number (ran.turned.cames ++ ran.breaks.cames))
  first_written old new it ran told =
      let xs = ran.turned.cames in
      let ys = ran.breaks.cames in
      subst (λ (t : List ℕ). HoldsPart old.sink.held new.sink.held t)
      (texts_again machine xs ys old.node.stand ran.reached.node.stand old.number ran.reached.number ran.turned.moved.stand_is ran.turned.counted)
      (part_behind (text_of machine old.node.stand old.number xs) (text_of machine ran.reached.node.stand ran.reached.number ys) old.sink.held ran.reached.sink.held new.sink.held
      (ran.turned.wrote.holds told) (ran.breaks.unanswered.part (ran.turned.wrote.tells told)))

  pub first_kept : (only_now : (d : D) (c : List ℕ) → disk.left_since d (disk.moment d) c → disk.may_leave d c) (old new : Point N D) (it : FilterEnd) (ran : Ran machine disk role old new it)
      → Outlasts machine disk (taken machine old.node.stand (arrivals_of (ran.turned.cames ++ ran.breaks.cames))) old.node new.node
  first_kept only_now old new it ran =
      let xs = ran.turned.cames in
      let ys = ran.breaks.cames in
      subst (λ (l : List Arrived). Outlasts machine disk l old.node new.node) (takes_again machine xs ys old.node.stand ran.reached.node.stand ran.turned.moved.stand_is)
      (outlasts_again machine disk only_now (taken machine old.node.stand (arrivals_of xs)) (taken machine ran.reached.node.stand (arrivals_of ys)) old.node ran.reached.node new.node
      ran.turned.moved.outlasts ran.turned.moved.keeps ran.turned.moved.goes_on ran.breaks.unanswered.outlasts)
