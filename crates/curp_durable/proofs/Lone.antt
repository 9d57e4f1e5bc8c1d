-- One input alone.
use Rattle.std.specs.Prelude.{◌≡◌, ◌≢◌, ◌+◌, ◌==◌, ◌^◌, nat_lt, Bool, true, false, refl}
use Rattle.std.proofs.Common.{cond}
use Rattle.std.proofs.lemmas.Bool.{eqb-false}
use Rattle.curp_journal.specs.Given.{given}
use Rattle.curp_journal.specs.Journal.{made, next_stamp}
use Rattle.curp_journal.specs.declared.arrived.Arrived.{Arrived}
use Rattle.curp_journal.specs.declared.arrived.Arrived.TheVariants as arrived
use Rattle.curp_msg.specs.Moved.{Moved, Refuses, done_of}
use Rattle.curp_msg.specs.Input.{Input}
use Rattle.curp_msg.specs.Input as input
use Rattle.curp_msg.specs.declared.machine.Local.{Local}
use Rattle.curp_msg.specs.declared.message.Message.{Message}
use Rattle.curp_durable.specs.Lone.{done_by, done_in, refusal}
use Rattle.curp_durable.specs.Standing.{Standing, answer_of}
use Rattle.curp_durable.specs.declared.stand.Answered.{Answered}
use Rattle.curp_durable.specs.declared.stand.Answered.TheVariants as answered

-- where the machine refuses, it does nothing else
refused_alone : {N : Type 0} (s : N) (m : Moved N) → Refuses s m → m.refused ≢ 0 → refusal m.refused ≡ done_of m
refused_alone s m refuses some = rw (refuses.silent some, refuses.uninvoked some, refuses.idle some) refl

module _ {N : Type 0} (m : Moved N) (item : Answered) (is : done_in item ≡ done_of m) (alone : m.refused ≢ 0 → refusal m.refused ≡ done_of m) where
  by_number : (none : Bool) → (m.refused == 0) ≡ none → done_in (cond none item (answered.Refused m.refused)) ≡ done_of m
  by_number true e = is
  by_number false e = alone (λ zero. eqb-false m.refused 0 e zero)

  told_by : (fits : Bool) → done_in (cond (cond fits m.refused 255 == 0) item (answered.Refused (cond fits m.refused 255))) ≡ cond fits (done_of m) (refusal 255)
  told_by true = by_number (m.refused == 0) refl
  told_by false = refl

module _ {N : Type 0} (machine : N → Input → Moved N) (refusals : (s : N) (order : Local) → Refuses s (machine s (input.Local order))) (taken : (s : N) (message : Message) → (machine s (input.Message message)).refused ≡ 0) where
  alone : (s : N) (a : Arrived) → (machine s (given a)).refused ≢ 0 → refusal (machine s (given a)).refused ≡ done_of (machine s (given a))
  alone s (arrived.Local order stamp) some = refused_alone s (machine s (input.Local order)) (refusals s order) some
  alone s (arrived.Message named) some = absurd (some (taken s named.message))

  -- the answer says what is done
  pub done_told : (s : Standing N) (a : Arrived) → done_in (answer_of machine s a) ≡ done_by machine s a
  done_told s a =
      told_by (machine s.node (given a)) (answered.Made (s.count + 1) (made machine s.node s.last a)) refl (alone s.node a) (nat_lt (next_stamp s.last a) (2 ^ 64))
