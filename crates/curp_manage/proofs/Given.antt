-- An input that comes to a manager whose journal is kept on a disk that may stop.
use Rattle.std.proofs.Common.{◌≡◌, ℕ, ◌+◌, ◌*◌, ◌<◌, ◌≤◌, ◌==◌, ◌^◌, nat_lt, Bool, true, false, if◌then◌else◌, List, [], ◌∷◌, ◌++◌, length, Option, Some, None, refl, sym, ap, subst, ◌∙◌, arith}
use Rattle.std.proofs.lemmas.Bool.{cond-true, cond-false, lt-ltb}
use Rattle.curp_disk.specs.InMemory.{StopParts}
use Rattle.curp_disk.specs.declared.disk.Did.TheVariants as did
use Rattle.curp_durable.proofs.Standings.{after-append, after_taken}
use Rattle.curp_durable.specs.Journal.{HasEncoding}
use Rattle.curp_durable.specs.Lone.{done_by}
use Rattle.curp_durable.specs.Running.{AllMade, MadeUntil, calls_for, commit_behind}
use Rattle.curp_durable.specs.Standing.{Standing, after, begun, moved_by, number_of, stepped, taken}
use Rattle.curp_durable.specs.Stopping.{IsStopped, StopSynced, StopWrote, kept_commit, kept_inputs}
use Rattle.curp_durable.specs.Value.{DurableParts}
use Rattle.curp_journal.specs.Given.{given}
use Rattle.curp_journal.specs.Journal.{next_stamp}
use Rattle.curp_journal.specs.declared.arrived.Arrived.{Arrived}
use Rattle.curp_manage.specs.Kept.{IsAtCall, IsManaged, IsOpenedAgain, IsSmallInput, Keeps, done_told, stop_call}
use Rattle.curp_manage.specs.Managed.{LineDone, Managed, input_accepted, input_given, input_refused, input_stopped, keeps_input}
use Rattle.curp_manage.specs.declared.managing.Crash.{Crash}
use Rattle.curp_manage.specs.declared.outcome.LineOutcome.TheVariants as outcome
use Rattle.curp_manage.proofs.Stops.{not_all}
use Rattle.curp_model.specs.Manager.{ManagerState, opening_manager}
use Rattle.curp_model.specs.World.{shape_of}
use Rattle.curp_msg.specs.Limits.{step_limit}
use Rattle.curp_msg.specs.Moved.{Moved, done_of}
use Rattle.curp_msg.specs.declared.machine.Done.{Done}
use Rattle.curp_msg.specs.Input.{Input}
use Rattle.curp_msg.specs.declared.script.Header.{Header}
use Rattle.curp_config.specs.Machine.{manager_machine}

-- ---- the definition, by the manager's machine

pub given_accepted : (m : Managed) (i : Input) → ((manager_machine m.state i).refused == 0) ≡ true → input_given m i ≡ input_accepted m (manager_machine m.state i) m.crash
unfolding input_given manager_machine
given_accepted m i zero = cond-true _ (input_accepted m (manager_machine m.state i) m.crash) (input_refused m (manager_machine m.state i).refused) zero

pub given_refused : (m : Managed) (i : Input) → ((manager_machine m.state i).refused == 0) ≡ false → input_given m i ≡ input_refused m (manager_machine m.state i).refused
unfolding input_given manager_machine
given_refused m i some = cond-false _ (input_accepted m (manager_machine m.state i) m.crash) (input_refused m (manager_machine m.state i).refused) some

-- ---- a crash is to come

pub managed_armed : (h : Header) (d : DurableParts ManagerState StopParts) (crash : Option Crash) (c : Crash) → IsManaged h d crash → IsAtCall (Some c)
    → IsManaged h (record d { disk = record d.disk { armed = Some c.call } }) (Some c)
managed_armed h d crash c managed at = record {
  few = managed.few;
  inputs = managed.inputs;
  fresh = managed.fresh;
  limit = managed.limit;
  keeps = record { batches = managed.keeps.batches; all = managed.keeps.all; reads = managed.keeps.reads; stand_is = managed.keeps.stand_is; durable = managed.keeps.durable };
  short = managed.short;
  stamps = managed.stamps;
  armed = refl;
  at_call = at;
}

-- ---- the manager gets an input

module _ (h : Header) (old : DurableParts ManagerState StopParts) (crash : Option Crash) (next : ℕ) (a : Arrived) (managed : IsManaged h old crash) (few : old.stand.count < step_limit) (small : IsSmallInput a) where
  -- what its machine does
  abbrev move : Moved ManagerState
  move = manager_machine old.stand.node (given a)

  abbrev takes : List Arrived
  takes = taken manager_machine old.stand (a ∷ [])

  -- as callers see it
  abbrev seen_at : Standing ManagerState → Managed
  seen_at s = record { state = s.node; decisions = s.count; next = next; crash = crash }

  -- there is a stamp left
  fits : nat_lt (next_stamp old.stand.last a) (2 ^ 64) ≡ true
  fits = lt-ltb (next_stamp old.stand.last a) (2 ^ 64) (omega (arith, few, managed.stamps, small.unstamped))

  pub done_is : done_by manager_machine old.stand a ≡ done_of move
  done_is = cond-true (nat_lt (next_stamp old.stand.last a) (2 ^ 64)) (done_of move) _ fits

  number_is : number_of manager_machine old.stand a ≡ move.refused
  number_is = cond-true (nat_lt (next_stamp old.stand.last a) (2 ^ 64)) move.refused 255 fits

  as_number : (b : Bool) → (move.refused == 0) ≡ b → (number_of manager_machine old.stand a == 0) ≡ b
  as_number b is = ap (λ (n : ℕ). n == 0) number_is ∙ is

  takes_it : (move.refused == 0) ≡ true → takes ≡ a ∷ []
  takes_it zero = ap (λ (l : List Arrived). l ++ []) (cond-true (number_of manager_machine old.stand a == 0) (a ∷ []) [] (as_number true zero))

  takes_none : (move.refused == 0) ≡ false → takes ≡ []
  takes_none some = ap (λ (l : List Arrived). l ++ []) (cond-false (number_of manager_machine old.stand a == 0) (a ∷ []) [] (as_number false some))

  moves : (move.refused == 0) ≡ true → stepped manager_machine old.stand a ≡ moved_by manager_machine old.stand a
  moves zero = cond-true (number_of manager_machine old.stand a == 0) (moved_by manager_machine old.stand a) old.stand (as_number true zero)

  stays : (move.refused == 0) ≡ false → stepped manager_machine old.stand a ≡ old.stand
  stays some = cond-false (number_of manager_machine old.stand a == 0) (moved_by manager_machine old.stand a) old.stand (as_number false some)

  grows : (move.refused == 0) ≡ true → commit_behind old.commit takes ≤ old.commit + 128
  grows zero = omega (arith, small.short, ap (commit_behind old.commit) (takes_it zero))

  -- ---- and answers

  module _ (new : DurableParts ManagerState StopParts) (state : new.stand ≡ stepped manager_machine old.stand a) (commit : new.commit ≡ commit_behind old.commit takes)
      (ran : AllMade StopWrote StopSynced (calls_for old.commit takes) old.disk new.disk) (sound : old.disk.armed ≡ None → new.disk.armed ≡ None) where
    -- an input that is kept wasn't to be stopped
    no_crash : (move.refused == 0) ≡ true → crash ≡ None
    no_crash zero = by crash refl managed.at_call
      where
        all : AllMade StopWrote StopSynced (calls_for old.commit (a ∷ [])) old.disk new.disk
        all = subst (λ (l : List Arrived). AllMade StopWrote StopSynced (calls_for old.commit l) old.disk new.disk) (takes_it zero) ran

        by : (c : Option Crash) → crash ≡ c → IsAtCall c → c ≡ None
        by None is at = refl
        by (Some c) is at = absurd (not_all (calls_for old.commit (a ∷ [])) old.disk new.disk c.call (managed.armed ∙ ap stop_call is) at.0 at.1 all)

    short_after : (zero : Bool) → (move.refused == 0) ≡ zero → new.commit ≤ 36 + 128 * new.stand.count
    short_after true is = omega (arith, managed.short, commit, grows is, ap (λ (s : Standing ManagerState). s.count) (state ∙ moves is))
    short_after false is = omega (arith, managed.short, commit, ap (commit_behind old.commit) (takes_none is), ap (λ (s : Standing ManagerState). s.count) (state ∙ stays is))

    stamps_after : (zero : Bool) → (move.refused == 0) ≡ zero → new.stand.last ≡ new.stand.count
    stamps_after true is =
        omega (arith, managed.stamps, small.unstamped, ap (λ (s : Standing ManagerState). s.count) (state ∙ moves is), ap (λ (s : Standing ManagerState). s.last) (state ∙ moves is))
    stamps_after false is =
        omega (arith, managed.stamps, ap (λ (s : Standing ManagerState). s.count) (state ∙ stays is), ap (λ (s : Standing ManagerState). s.last) (state ∙ stays is))

    armed_after : (zero : Bool) → (move.refused == 0) ≡ zero → new.disk.armed ≡ stop_call crash
    armed_after true is = sound (managed.armed ∙ ap stop_call (no_crash is)) ∙ ap stop_call (sym (no_crash is))
    armed_after false is =
        let same : new.disk ≡ old.disk = subst (λ (l : List Arrived). AllMade StopWrote StopSynced (calls_for old.commit l) old.disk new.disk) (takes_none is) ran in
        ap (λ (d : StopParts). d.armed) same ∙ managed.armed

    pub managed_after : new.spent ≡ false → new.size_limit ≡ old.size_limit → Keeps h new (managed.inputs ++ takes) → IsManaged h new crash
    managed_after fresh limit keeps = record {
      few = managed.few;
      inputs = managed.inputs ++ takes;
      fresh = fresh;
      limit = limit ∙ managed.limit;
      keeps = keeps;
      short = short_after (move.refused == 0) refl;
      stamps = stamps_after (move.refused == 0) refl;
      armed = armed_after (move.refused == 0) refl;
      at_call = managed.at_call;
    }

    -- what goes out is what the definition says
    told_by : (zero : Bool) → (move.refused == 0) ≡ zero → done_told (seen_at new.stand) (done_of move) ≡ input_given (seen_at old.stand) (given a)
    told_by true is =
        let kept : Standing ManagerState → LineDone = λ s. record { now = record (seen_at s) { next = next + length move.messages }; outcome = outcome.Done move.messages } in
        cond-true (move.refused == 0) (kept new.stand) _ is
        ∙ ap kept (state ∙ moves is)
        ∙ sym (given_accepted (seen_at old.stand) (given a) is ∙ ap (λ (o : Option Crash). input_accepted (seen_at old.stand) move o) (no_crash is))
    told_by false is =
        let refused : Standing ManagerState → LineDone = λ s. record { now = seen_at s; outcome = outcome.Refused move.refused } in
        cond-false (move.refused == 0) _ (refused new.stand) is ∙ ap refused (state ∙ stays is) ∙ sym (given_refused (seen_at old.stand) (given a) is)

    pub told_is : (done : Done) → done ≡ done_by manager_machine old.stand a → done_told (seen_at new.stand) done ≡ input_given (seen_at old.stand) (given a)
    told_is done is = ap (done_told (seen_at new.stand)) (is ∙ done_is) ∙ told_by (move.refused == 0) refl

  -- ---- and is stopped

  module _ (disk : StopParts) (c : Crash) (at : crash ≡ Some c) (encodes : HasEncoding takes) (ran : MadeUntil StopWrote StopSynced did.Failed (calls_for old.commit takes) old.disk disk) where
    pub stopped_at : IsStopped old.disk disk old.commit c.call takes
    stopped_at =
        let there : IsAtCall (Some c) = subst IsAtCall at managed.at_call in
        record { armed = managed.armed ∙ ap stop_call at; first = there.0; last = there.1; encodes = encodes; ran = ran }

    -- only what is accepted is to be kept
    accepted : (zero : Bool) → (move.refused == 0) ≡ zero → zero ≡ true
    accepted true is = refl
    accepted false is = absurd (subst (λ (l : List Arrived). MadeUntil StopWrote StopSynced did.Failed (calls_for old.commit l) old.disk disk) (takes_none is) ran)

    is_accepted : (move.refused == 0) ≡ true
    is_accepted = accepted (move.refused == 0) refl

    module _ (again : DurableParts ManagerState StopParts) (opened : IsOpenedAgain h again (kept_inputs managed.inputs takes c.call c.kept) (kept_commit old.commit takes c.call c.kept)) where
      abbrev opening : Standing ManagerState
      opening = begun (opening_manager (shape_of h))

      -- where the inputs that are kept lead
      leads : (kept : Bool) → after manager_machine opening (if kept then managed.inputs ++ takes else managed.inputs) ≡ (if kept then moved_by manager_machine old.stand a else old.stand)
      leads true =
          after-append manager_machine managed.inputs takes opening ∙ ap (λ (s : Standing ManagerState). after manager_machine s takes) (sym managed.keeps.stand_is)
          ∙ after_taken manager_machine (a ∷ []) old.stand ∙ moves is_accepted
      leads false = sym managed.keeps.stand_is

      stands : again.stand ≡ (if keeps_input c then moved_by manager_machine old.stand a else old.stand)
      stands = opened.keeps.stand_is ∙ leads (keeps_input c)

      short_again : (kept : Bool) (s : Standing ManagerState) (commit : ℕ) → s ≡ (if kept then moved_by manager_machine old.stand a else old.stand)
          → commit ≡ (if kept then commit_behind old.commit takes else old.commit) → commit ≤ 36 + 128 * s.count
      short_again true s commit is ends = omega (arith, managed.short, ends, grows is_accepted, ap (λ (t : Standing ManagerState). t.count) is)
      short_again false s commit is ends = omega (arith, managed.short, ends, ap (λ (t : Standing ManagerState). t.count) is)

      stamps_again : (kept : Bool) (s : Standing ManagerState) → s ≡ (if kept then moved_by manager_machine old.stand a else old.stand) → s.last ≡ s.count
      stamps_again true s is = omega (arith, managed.stamps, small.unstamped, ap (λ (t : Standing ManagerState). t.count) is, ap (λ (t : Standing ManagerState). t.last) is)
      stamps_again false s is = omega (arith, managed.stamps, ap (λ (t : Standing ManagerState). t.count) is, ap (λ (t : Standing ManagerState). t.last) is)

      pub managed_again : IsManaged h again None
      managed_again = record {
        few = managed.few;
        inputs = kept_inputs managed.inputs takes c.call c.kept;
        fresh = opened.fresh;
        limit = opened.limit;
        keeps = opened.keeps;
        short = short_again (keeps_input c) again.stand again.commit stands opened.commit_is;
        stamps = stamps_again (keeps_input c) again.stand stands;
        armed = opened.disarmed;
        at_call = tt;
      }

      stopped_by : (kept : Bool) (s : Standing ManagerState) → s ≡ (if kept then moved_by manager_machine old.stand a else old.stand)
          → record { now = record { state = s.node; decisions = s.count; next = next; crash = None }; outcome = outcome.Stopped kept } ≡ input_stopped (seen_at old.stand) move kept
      stopped_by true s is = ap (λ (t : Standing ManagerState). let d : LineDone = record { now = record { state = t.node; decisions = t.count; next = next; crash = None }; outcome = outcome.Stopped true } in d) is
      stopped_by false s is = ap (λ (t : Standing ManagerState). let d : LineDone = record { now = record { state = t.node; decisions = t.count; next = next; crash = None }; outcome = outcome.Stopped false } in d) is

      pub stopped_is : (kept : Bool) → kept ≡ keeps_input c
          → record { now = record { state = again.stand.node; decisions = again.stand.count; next = next; crash = None }; outcome = outcome.Stopped kept } ≡ input_given (seen_at old.stand) (given a)
      stopped_is kept is =
          ap (λ (b : Bool). let d : LineDone = record { now = record { state = again.stand.node; decisions = again.stand.count; next = next; crash = None }; outcome = outcome.Stopped b } in d) is
          ∙ stopped_by (keeps_input c) again.stand stands
          ∙ sym (given_accepted (seen_at old.stand) (given a) is_accepted ∙ ap (λ (o : Option Crash). input_accepted (seen_at old.stand) move o) at)
