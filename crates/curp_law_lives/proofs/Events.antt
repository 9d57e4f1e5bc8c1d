-- What the calls of a durable node are, as events.
use Rattle.std.specs.Prelude.{◌≡◌, ℕ, List, ◌++◌, Result, Ok, Err, IfOk, IfErr, IsOk, refl}
use Rattle.std.proofs.Common.{◌∙◌, ap}
use Rattle.curp_base.specs.Words.{all_of}
use Rattle.curp_journal.specs.declared.arrived.Arrived.{Arrived}
use Rattle.curp_msg.specs.Moved.{Moved}
use Rattle.curp_msg.specs.Input.{Input}
use Rattle.curp_durable.specs.Journal.{HoldsJournal, IsBeforeOrAfter, IsSettled}
use Rattle.curp_durable.specs.Opening.{IsOpened}
use Rattle.curp_durable.specs.Standing.{Standing, after, answers_of, taken}
use Rattle.curp_durable.specs.declared.stand.Answered.{Answered}
use Rattle.curp_law_lives.specs.Lives.{Answers, Crash, CutOff, Happens, Opening, down, running}

-- ---- facts on a result

pub if_both : {T E : Type 0} (r : Result T E) (P Q R : T → Type 0) → ((x : T) → P x → Q x → R x) → IfOk r P → IfOk r Q → IfOk r R
if_both (Ok x) P Q R from p q = from x p q
if_both (Err e) P Q R from p q = tt

pub where_ok : {T E : Type 0} (r : Result T E) (P : T → Type 0) → ((x : T) → r ≡ Ok x → P x) → IfOk r P
where_ok (Ok x) P from = from x refl
where_ok (Err e) P from = tt

pub is_ok : {T E : Type 0} (r : Result T E) (x : T) → r ≡ Ok x → IsOk r
is_ok (Ok y) x is = refl
is_ok (Err e) x is = absurd cc

pub where_err : {T E : Type 0} (r : Result T E) (P : Type 0) → P → IfErr r (λ (e : E). P)
where_err (Ok x) P p = tt
where_err (Err e) P p = p

-- ---- the calls

module _ {N : Type 0} (machine : N → Input → Moved N) (title : List ℕ) (opening : N) where
  -- a journal was opened, and the disk reads as before
  pub opens : (content now : List ℕ) (commit : ℕ) (stand : Standing N) (answered : List Answered) → IsOpened machine content title opening commit stand → now ≡ content → Happens machine title opening Opening (down content answered) (running now stand answered)
  opens content now commit stand answered o same = record {
    is_down = refl;
    held = all_of o.batches;
    there = record { batches = o.batches; commit = commit; all = refl; reads = o.reads };
    becomes = ap (λ (l : List ℕ). running l stand answered) same ∙ ap (λ (s : Standing N). running content s answered) o.stand_is;
  }

  module _ {D : Type 0} (seen : D → List ℕ) (may_leave : D → List ℕ → Type 0) where
    abbrev Settled : D → Standing N → ℕ → List Arrived → Type 0
    Settled disk stand commit held = IsSettled machine seen may_leave disk stand commit title opening held

    holds : (disk : D) (stand : Standing N) (commit : ℕ) (held : List Arrived) → Settled disk stand commit held → HoldsJournal (seen disk) title held
    holds disk stand commit held s = record { batches = s.batches; commit = commit; all = s.all; reads = s.reads }

    pub answers : (old new : D) (stand next : Standing N) (commit behind : ℕ) (held batch : List Arrived) (answered told : List Answered) → Settled old stand commit held → Settled new next behind (held ++ taken machine stand batch)
        → next ≡ after machine stand batch → told ≡ answers_of machine stand batch
        → Happens machine title opening (Answers batch) (running (seen old) stand answered) (running (seen new) next (answered ++ told))
    answers old new stand next commit behind held batch answered told s t next_is told_is = record {
      stand = stand;
      runs = refl;
      held = held;
      there = holds old stand commit held s;
      content = seen new;
      kept = holds new next behind (held ++ taken machine stand batch) t;
      becomes = ap (λ (u : Standing N). running (seen new) u (answered ++ told)) next_is ∙ ap (λ (l : List Answered). running (seen new) (after machine stand batch) (answered ++ l)) told_is;
    }

    pub cut_off : (old : D) (stand : Standing N) (commit : ℕ) (held batch : List Arrived) (answered : List Answered) (left : List ℕ) → Settled old stand commit held → IsBeforeOrAfter title held (taken machine stand batch) left
        → Happens machine title opening (CutOff batch) (running (seen old) stand answered) (down left answered)
    cut_off old stand commit held batch answered left s kept = record {
      stand = stand;
      runs = refl;
      held = held;
      there = holds old stand commit held s;
      content = left;
      kept = kept;
      becomes = refl;
    }

    pub crashes : (disk : D) (stand : Standing N) (commit : ℕ) (held : List Arrived) (answered : List Answered) (left : List ℕ) → Settled disk stand commit held → may_leave disk left
        → Happens machine title opening Crash (running (seen disk) stand answered) (down left answered)
    crashes disk stand commit held answered left s leaves = ap (λ (l : List ℕ). down l answered) (s.durable left leaves)
