-- A process goes on from where it came to.
use Rattle.std.specs.Prelude.{◌≡◌, ℕ, List, [], ◌++◌, refl}
use Rattle.std.proofs.Common.{sym, ◌∙◌, ap, subst, arith, append_assoc}
use Rattle.std.proofs.lemmas.List.{append-nil}
use Rattle.curp_durable.proofs.Standings.{after-append}
use Rattle.curp_durable.specs.Standing.{Standing, after, taken}
use Rattle.curp_durable.specs.Value.{DurableParts}
use Rattle.curp_journal.specs.declared.arrived.Arrived.{Arrived}
use Rattle.curp_msg.specs.Moved.{Moved}
use Rattle.curp_msg.specs.Input.{Input}
use Rattle.curp_filter.specs.Coming.{arrivals_of, number_behind}
use Rattle.curp_filter.specs.Keeping.{DiskKind, Keeps, Outlasts}
use Rattle.curp_filter.specs.Saying.{text_of}
use Rattle.curp_filter.specs.Turning.{Intake, MovesBy, Outlet, Point, Took, Turned, Wrote}
use Rattle.curp_filter.specs.declared.came.Came.{Came}
use Rattle.curp_filter.specs.declared.came.Role.{Role}
use Rattle.curp_filter.proofs.Coming.{arrivals-append, comes_again, number-append}
use Rattle.curp_filter.proofs.Judging.{judged_again}
use Rattle.curp_filter.proofs.Keeping.{keeps_again, keeps_none, outlasts_again, outlasts_none, taken-append}
use Rattle.curp_filter.proofs.Saying.{texts_again}

-- ---- the source and the sink

took_none : (source : Intake) → Took [] source source
took_none source = record { comes = λ told. (refl, refl); tells = λ told. told; same_faults = refl }

took_again : (xs ys : List Came) (old mid new : Intake) → Took xs old mid → Took ys mid new → Took (xs ++ ys) old new
took_again xs ys old mid new first second = record {
  comes = λ told. comes_again xs ys old.bytes mid.bytes new.bytes old.passed mid.passed new.passed (first.comes told) (second.comes (first.tells told));
  tells = λ told. second.tells (first.tells told);
  same_faults = second.same_faults ∙ first.same_faults;
}

wrote_none : (sink : Outlet) → Wrote [] sink sink
wrote_none sink = record { holds = λ told. sym (append-nil sink.held); tells = λ told. told; same_faults = refl; passed_on = λ flushed. flushed }

pub wrote_again : (text rest : List ℕ) (old mid new : Outlet) → Wrote text old mid → Wrote rest mid new → Wrote (text ++ rest) old new
wrote_again text rest old mid new first second = record {
  holds = λ told. second.holds (first.tells told) ∙ ap (λ (l : List ℕ). l ++ rest) (first.holds told) ∙ append_assoc old.held text rest;
  tells = λ told. second.tells (first.tells told);
  same_faults = second.same_faults ∙ first.same_faults;
  passed_on = λ flushed. second.passed_on (first.passed_on flushed);
}

-- ---- the node

module _ {N D : Type 0} (machine : N → Input → Moved N) (disk : DiskKind D) (only_now : (d : D) (c : List ℕ) → disk.left_since d (disk.moment d) c → disk.may_leave d c) where
  moves_none : (node : DurableParts N D) → MovesBy machine disk [] node node
  moves_none node = record {
    stand_is = refl;
    keeps = keeps_none machine disk only_now node;
    outlasts = outlasts_none machine disk only_now node [];
    goes_on = λ fresh. fresh;
    same_limit = refl;
    disk_faults = omega arith;
  }

  moves_again : (xs ys : List Arrived) (old mid new : DurableParts N D) → MovesBy machine disk xs old mid → MovesBy machine disk ys mid new → MovesBy machine disk (xs ++ ys) old new
  moves_again xs ys old mid new first second =
      let all : taken machine old.stand xs ++ taken machine mid.stand ys ≡ taken machine old.stand (xs ++ ys) =
      ap (λ (s : Standing N). taken machine old.stand xs ++ taken machine s ys) first.stand_is ∙ sym (taken-append machine xs ys old.stand) in
      record {
        stand_is = second.stand_is ∙ ap (λ (s : Standing N). after machine s ys) first.stand_is ∙ sym (after-append machine xs ys old.stand);
        keeps = subst (λ (l : List Arrived). Keeps machine disk l old new) all
            (keeps_again machine disk only_now (taken machine old.stand xs) (taken machine mid.stand ys) old mid new first.keeps second.keeps);
        outlasts = subst (λ (l : List Arrived). Outlasts machine disk l old new) all
            (outlasts_again machine disk only_now (taken machine old.stand xs) (taken machine mid.stand ys) old mid new first.outlasts first.keeps first.goes_on second.outlasts);
        goes_on = λ fresh. second.goes_on (first.goes_on fresh);
        same_limit = second.same_limit ∙ first.same_limit;
        disk_faults = omega (arith, first.disk_faults, second.disk_faults);
      }

  pub turned_none : (role : Role) (p : Point N D) → Turned machine disk role p p
  turned_none role p = record {
    cames = [];
    judged = tt;
    took = took_none p.source;
    moved = moves_none p.node;
    wrote = wrote_none p.sink;
    counted = refl;
  }

  pub turned_again : (role : Role) (old mid new : Point N D) → Turned machine disk role old mid → Turned machine disk role mid new → Turned machine disk role old new
  turned_again role old mid new first second =
      let xs = first.cames in
      let ys = second.cames in
      let text = texts_again machine xs ys old.node.stand mid.node.stand old.number mid.number first.moved.stand_is first.counted in
      record {
        cames = xs ++ ys;
        judged = judged_again machine role xs ys old.node.stand mid.node.stand first.moved.stand_is first.judged second.judged;
        took = took_again xs ys old.source mid.source new.source first.took second.took;
        moved = subst (λ (l : List Arrived). MovesBy machine disk l old.node new.node) (sym (arrivals-append xs ys))
            (moves_again (arrivals_of xs) (arrivals_of ys) old.node mid.node new.node first.moved second.moved);
        wrote = subst (λ (l : List ℕ). Wrote l old.sink new.sink) text
            (wrote_again (text_of machine old.node.stand old.number xs) (text_of machine mid.node.stand mid.number ys) old.sink mid.sink new.sink first.wrote second.wrote);
        counted = second.counted ∙ ap (λ (n : ℕ). number_behind n ys) first.counted ∙ sym (number-append old.number xs ys);
      }
