-- An input to the manager that adopts no recovery is at most one move of the machine: a migration begins, or is done.
use Rattle.std.proofs.Common.{◌≡◌, ℕ, List, [], ◌∷◌, ◌++◌, append-nil, refl, ap, sym, ◌∙◌, Option, Some, None}
use Rattle.curp_msg.specs.Moved.{Moved}
use Rattle.curp_msg.specs.declared.machine.Completed.{Completed}
use Rattle.curp_order.specs.declared.Event.{Event}
use Rattle.curp_model.specs.Manager.{Attempted, ManagerState, Migration}
use Rattle.curp_model.specs.World.{World, completion, with_adoption, with_completion}
use Rattle.curp_law_kept.specs.ManagerEffect.{ManagerEffect}
use Rattle.curp_facts.specs.Known.{Known}
use Rattle.curp_law_linear.specs.Hashes.{Part}
use Rattle.curp_law_linear.specs.Line.{Left}
use Rattle.curp_law_linear.specs.Moves.{GivenDone, Migrates}
use Rattle.curp_law_linear.specs.OfWorld.{cuts, left_of, line_of, moving_of}
use Rattle.curp_law_linear.proofs.Given.{LogsOk}
use Rattle.curp_law_linear.specs.Ordered.{Ordered}
use Rattle.curp_law_linear.specs.Refined.{RefinesQuiet}
use Rattle.curp_law_linear.proofs.Left.{left_stays}
use Rattle.curp_law_linear.proofs.ManagersDeeds.{Begins, Ends, KeepsSeats, Leads, Rests}
use Rattle.curp_law_linear.proofs.ManagersLine.{entries_grown, same_seats, same_told, tells_none}
use Rattle.curp_law_linear.proofs.ManagersMoves.{given_fits, migrate_fits}
use Rattle.curp_law_linear.proofs.Parts.{line_logs}
use Rattle.curp_facts.specs.Names.{Names}
use Rattle.curp_law_kept.proofs.Gives.{Later, manager_moved, moved_messages, sent_now}
use Rattle.curp_facts.specs.Predecessors.{Predecessors}
use Rattle.curp_facts.specs.Migrated.{Migrated}
use Rattle.curp_facts.specs.Routes.{Routes}

-- ---- what is left of a world

module _ {w : World} (o : Option Attempted) (events : List Event) (none : events ≡ []) (r : Moved ManagerState) (does : ManagerEffect w r) where
  -- the manager completes nothing
  pub moved_history : (manager_moved w o events r).history ≡ w.history
  moved_history =
      ap (λ (c : Option Completed). (w.history ++ events) ++ completion c) does.idle
      ∙ append-nil (w.history ++ events)
      ∙ ap (λ (es : List Event). w.history ++ es) none ∙ append-nil w.history

  pub moved_marks : (manager_moved w o events r).marks ≡ with_adoption w.masters o w.marks
  moved_marks = ap (λ (c : Option Completed). with_completion c (with_adoption w.masters o w.marks)) does.idle

  -- and tells of no package
  pub moved_told : Names (manager_moved w o events r) → (line_of (manager_moved w o events r)).told ≡ (line_of w).told
  moved_told names =
      same_told w (manager_moved w o events r) r.messages (moved_messages w o events r)
      (tells_none w (manager_moved w o events r) names r.messages does.messages (λ m. sent_now w (manager_moved w o events r) r.messages (moved_messages w o events r) {m = m}))

  -- the machine's state by what changes in it
  pub moved_line : Names (manager_moved w o events r) → (parts : List Part) → (line_of (manager_moved w o events r)).parts ≡ parts → (moving : Option Migration) → moving_of r.state.moving ≡ moving
      → (left : ℕ → ℕ → Left) → ((part number : ℕ) → left_of (manager_moved w o events r) part number ≡ left part number)
      → line_of (manager_moved w o events r) ≡ record { parts = parts; moving = moving; told = (line_of w).told; marks = with_adoption w.masters o w.marks; history = w.history; left = left }
  moved_line names parts same_parts moving same_moving left same_left i = record {
    parts = same_parts i;
    moving = same_moving i;
    told = moved_told names i;
    marks = moved_marks i;
    history = moved_history i;
    left = λ part number. same_left part number i;
  }

-- ---- moves

module _ {w : World} (known : Known w) (chain : Predecessors w) (routes : Routes w) (migrated : Migrated w) (ordered : Ordered w) (events : List Event) (none : events ≡ []) (r : Moved ManagerState) (does : ManagerEffect w r) where
  abbrev v : World
  v = manager_moved w None events r

  logs : LogsOk (line_of w).parts
  logs = line_logs known ordered

  module _ (names : Names v) (later : Later w v) (after : Routes v) where
    -- what changes is the migration in work alone
    steady_line : KeepsSeats w r.state → (moving : Option Migration) → moving_of r.state.moving ≡ moving → line_of v ≡ record (line_of w) { moving = moving }
    steady_line seats moving same = moved_line None events none r does names (line_of w).parts (same_seats w v r.state.next.master later.shape refl seats) moving same (left_of w)
        (λ part number. left_stays w v later.shape part number (ap (cuts part) (moved_marks None events none r does)) (λ x m h. entries_grown w.masters r.state.next.master x.master.number))

    -- an input that adopts no recovery
    pub steady_refines : Leads w r.state None → RefinesQuiet w v
    steady_refines (Rests seats same) = record { its = record { moves = []; fit = tt; leads = sym (steady_line seats (line_of w).moving same) }; quiet = tt }
    steady_refines (Begins m seats free its number fresh) =
        let k : Migration = record m { moved = None } in
        record {
          its = record {
            moves = Migrates k ∷ [];
            fit = (migrate_fits known routes k free number (after.in_work m its).apart, logs, tt);
            leads = sym (steady_line seats (Some k) (ap moving_of its));
          };
          quiet = (tt, tt);
        }
    steady_refines (Ends m seats its done from sent) =
        let k : Migration = record m { moved = None } in
        record {
          its = record {
            moves = GivenDone k ∷ [];
            fit = (given_fits known routes chain migrated m its from sent k refl, logs, tt);
            leads = sym (steady_line seats None (ap moving_of done));
          };
          quiet = (tt, tt);
        }
