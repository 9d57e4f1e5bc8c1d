-- The others of a recovery: the fenced backup, the frozen witness, the manager that adopts, and the master that serves from then on.
use Rattle.std.proofs.Common.{◌≡◌, ◌≤◌, ◌<◌, ◌==◌, ◌&&◌, ◌||◌, ℕ, ◌+◌, Bool, true, false, cond, List, [], ◌∷◌, nat_lt, Option, Some, refl, ap, sym, ◌∙◌, arith}
use Rattle.std.specs.Prelude.{option_and_then}
use Rattle.std.proofs.lemmas.Bool.{eq-eqb, ltb-true}
use Rattle.curp_base.specs.Cases.{only_if}
use Rattle.curp_base.specs.Words.{numbered, rises_past}
use Rattle.curp_cmd.specs.Node.{backup_node, master_node, witness_node}
use Rattle.curp_cmd.specs.declared.node.NodeId.{NodeId}
use Rattle.curp_msg.specs.Moved.{quiet}
use Rattle.curp_msg.specs.declared.answer.FenceReply.TheVariants as reply
use Rattle.curp_msg.specs.declared.body.Body.TheVariants as body
use Rattle.curp_msg.specs.declared.body.Recover.{Recover}
use Rattle.curp_msg.specs.declared.body.Recovered.{Recovered}
use Rattle.curp_msg.specs.declared.config.PartConfig.{PartConfig}
use Rattle.curp_msg.specs.declared.message.Message.{Message}
use Rattle.curp_facts.specs.Facts.{IsAmong}
use Rattle.curp_model.specs.Backup.{AfterFence, BackupState, fence, on_backup}
use Rattle.curp_model.specs.Log.{is_log}
use Rattle.curp_model.specs.Manager as manager
use Rattle.curp_model.specs.Manager.{Attempted, Doing, ManagerState, adopts, attempt_at, counter_ends, finished, last_number, on_manager, on_recovered, part_at, recovered_in, recovered_part, unless_numbers_end}
use Rattle.curp_model.specs.Witness.{WitnessState, on_witness}
use Rattle.curp_law_served.specs.Recovers.{GivesLog, GivesRequests, IsGivenLog}
use Rattle.curp_law_served.specs.Ways.{OnWay}
use Rattle.curp_law_served.proofs.Lists.{among_first}
use Rattle.curp_law_served.proofs.Steps.{or_none, same_never}

-- the named backup tells its log, where it isn't fenced above and that is a log
pub fence_told : (E : Message → Type 0) (q : ℕ) (o : Recover) (number : ℕ) (b : BackupState)
    → o.backup ≡ backup_node number → b.fence ≤ o.epoch → is_log o.lo o.hi b.log ≡ true
    → ((x : Message) → IsAmong x (on_backup number b (master_node q) (body.Fence o.epoch)).messages → E x) → OnWay E (GivesLog q o)
unfolding on_backup fence
fence_told E q o number b named low its sent = (_, sent _ (among_first _ []), (sym named, refl, by (nat_lt o.epoch b.fence) refl))
  where
    by : (t : Bool) → nat_lt o.epoch b.fence ≡ t
        → IsGivenLog o (cond {A = AfterFence} t (record { state = b; answer = reply.Fenced b.fence }) (record { state = record b { fence = o.epoch }; answer = reply.Log b.log })).answer
    by true e = absurd (omega (arith, low, ltb-true o.epoch b.fence e))
    by false e = its

-- the named witness tells what it holds
pub freeze_told : (E : Message → Type 0) (q : ℕ) (o : Recover) (number : ℕ) (x : WitnessState)
    → o.witness ≡ witness_node number
    → ((y : Message) → IsAmong y (on_witness number x (master_node q) (body.Freeze o.epoch)).messages → E y) → OnWay E (GivesRequests q o)
unfolding on_witness
freeze_told E q o number x named sent = (_, sent _ (among_first _ []), (sym named, refl))

-- the manager adopts the attempt that is being made
module _ (g : ManagerState) (c : PartConfig) (q : ℕ) (o : Recover) (parts : g.config.parts ≡ c ∷ [])
    (doing : g.doing ≡ manager.Recovering (master_node q) o ∷ []) (serial : g.config.serial < last_number) where
  abbrev attempt : Attempted
  attempt = record { master = master_node q; order = o }

  its_part : part_at g 1 ≡ Some c
  its_part = ap (λ (l : List PartConfig). numbered l 1) parts

  is_finished : finished g (record { part = 1; epoch = o.epoch }) ≡ Some attempt
  is_finished = ap (λ (x : Option PartConfig). option_and_then (λ (k : PartConfig). attempt_at o.epoch (numbered g.doing 1)) x) its_part
      ∙ ap (λ (l : List Doing). attempt_at o.epoch (numbered l 1)) doing ∙ by (o.epoch == o.epoch) (eq-eqb o.epoch o.epoch refl)
    where
      by : (t : Bool) → t ≡ true → only_if t attempt ≡ Some attempt
      by true e = refl
      by false e = absurd cc

  pub adopts_it : (from : NodeId)
      → on_manager g from (body.Recovered (record { part = 1; epoch = o.epoch })) ≡ adopts g 1 (recovered_part c attempt)
  unfolding on_manager on_recovered
  adopts_it from = ap (unless_numbers_end g) (ap (λ (x : Option Attempted). recovered_in g (record { part = 1; epoch = o.epoch }) x (part_at g 1)) is_finished ∙ ap (λ (y : Option PartConfig). recovered_in g (record { part = 1; epoch = o.epoch }) (Some attempt) y) its_part)
      ∙ by (counter_ends g.next g.next || rises_past last_number g.config.serial (g.config.serial + 1)) (or_none _ _ counters (never (nat_lt g.config.serial (g.config.serial + 1)) (nat_lt last_number (g.config.serial + 1)) refl))
    where
      counters : counter_ends g.next g.next ≡ false
      counters = or_none _ _ (or_none _ _ (or_none _ _ (or_none _ _ (or_none _ _ (same_never last_number g.next.epoch) (same_never last_number g.next.version)) (same_never last_number g.next.master)) (same_never last_number g.next.backup))
          (same_never last_number g.next.witness)) (same_never last_number g.next.migration)

      never : (x y : Bool) → nat_lt last_number (g.config.serial + 1) ≡ y → (x && y) ≡ false
      never true true e = absurd (omega (arith, serial, ltb-true last_number (g.config.serial + 1) e))
      never true false e = refl
      never false y e = refl

      by : (t : Bool) → t ≡ false
          → cond t (quiet g) (adopts g 1 (recovered_part c attempt)) ≡ adopts g 1 (recovered_part c attempt)
      by false e = refl
      by true e = absurd cc
