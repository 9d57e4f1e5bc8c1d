-- An adoption is a move of the machine, and leads to what the machine has of the world behind it.
use Rattle.std.proofs.Common.{◌≡◌, ◌+◌, ◌==◌, ◌&&◌, if◌then◌else◌, ℕ, zero, suc, ◌-◌, List, [], ◌∷◌, ◌++◌, map, drop, length, refl, ap, sym, ◌∙◌, Option, Some}
use Rattle.std.specs.Prelude.{set}
use Rattle.curp_base.specs.Words.{IsPrefix, numbered}
use Rattle.curp_cmd.specs.declared.command.Request.{Request}
use Rattle.curp_cmd.specs.declared.entry.Entry.{Entry}
use Rattle.curp_cmd.specs.declared.node.NodeId.{NodeId}
use Rattle.curp_msg.specs.Moved.{Moved}
use Rattle.curp_msg.specs.declared.config.PartConfig.{PartConfig}
use Rattle.curp_order.specs.declared.Event.{Event}
use Rattle.curp_model.specs.Manager.{Attempted, ManagerState, Shape, recovered_part}
use Rattle.curp_model.specs.Marks.{Mark, adoptions, cut_mark}
use Rattle.curp_model.specs.Marks as mark
use Rattle.curp_model.specs.Recovery.{MasterStage, RecoveryPhase}
use Rattle.curp_model.specs.Witness.{frozen_requests}
use Rattle.curp_model.specs.World.{World, marks_adopted, marks_after, op_requests, replayed_in, with_adoption}
use Rattle.curp_model.proofs.Replays.{replay_is}
use Rattle.curp_facts.specs.Facts.{phase_log}
use Rattle.curp_law_kept.specs.ManagerEffect.{ManagerEffect}
use Rattle.curp_facts.specs.Known.{Known}
use Rattle.curp_law_linear.specs.Hashes.{Part}
use Rattle.curp_law_linear.specs.Line.{Left}
use Rattle.curp_law_linear.specs.Moves.{Adopt, AdoptFits, adopting, left_after, ops, relogged, replayed_of}
use Rattle.curp_law_linear.specs.OfWorld.{cuts, entries_at, left_of, line_of, logged_entries, moving_of, part_of}
use Rattle.curp_law_linear.specs.Ordered.{Ordered}
use Rattle.curp_law_linear.proofs.AdoptDone.{adopt, done_replayed}
use Rattle.curp_law_linear.proofs.AdoptHeld.{cuts_short, held_apart, held_asked, looks_short, quicks_short}
use Rattle.curp_law_linear.proofs.AdoptLeft.{drop_prefix, left_adopted, left_prefix}
use Rattle.curp_law_linear.proofs.AdoptMigrations.{only_moving, told_stays, unowned}
use Rattle.curp_law_linear.proofs.AdoptRecovery.{Recovery}
use Rattle.curp_law_linear.proofs.CutMarks.{cuts_adopted}
use Rattle.curp_law_linear.proofs.Cuts.{last_reign}
use Rattle.curp_law_linear.proofs.Managers.{moved_line, moved_marks}
use Rattle.curp_law_linear.proofs.ManagersLine.{entries_grown, seat, seated, seated_grown, seated_parts}
use Rattle.curp_law_linear.proofs.Parts.{entry_part}
use Rattle.curp_facts.specs.Names.{Names}
use Rattle.curp_law_kept.proofs.Gives.{Later, manager_moved}
use Rattle.curp_facts.specs.Predecessors.{Predecessors}
use Rattle.curp_facts.specs.Migrated.{Migrated}
use Rattle.curp_facts.specs.Routes.{Routes}
use Rattle.curp_base.proofs.Lists.{map_alike}

-- what is made of items, one of which was replaced
map_set : {A B : Type 0} (f : A → B) (xs : List A) (i : ℕ) (y : A) → map f (set xs i y) ≡ set (map f xs) i (f y)
map_set f [] i y = refl
map_set f (x ∷ xs) zero y = refl
map_set f (x ∷ xs) (suc i) y = ap (λ ys. f x ∷ ys) (map_set f xs i y)

-- the requests of ops
requests_of_ops : (rs : List Request) → op_requests (ops rs) ≡ rs
requests_of_ops [] = refl
requests_of_ops (r ∷ rs) = ap (λ (qs : List Request). r ∷ qs) (requests_of_ops rs)

module _ {w : World} (known : Known w) (chain : Predecessors w) (routes : Routes w) (migrated : Migrated w) (ordered : Ordered w)
    (c : PartConfig) (a : Attempted) (o : Recovery w c a) (prefix : IsPrefix o.b.log (part_of w c).log) where
  abbrev it : Adopt
  it = adopt known chain routes migrated ordered c a o prefix

  -- it can be made
  pub adopt_fits : AdoptFits (line_of w) it
  adopt_fits = record {
    here = entry_part known c o.now;
    is = sym prefix.is;
    moving = only_moving known routes migrated c a o prefix;
    unowned = unowned known routes migrated c a o prefix ordered;
    apart = held_apart known c a o;
    asked = held_asked known c a o ordered;
    done = λ k r acknowledged at d. done_replayed known chain routes migrated ordered c a o prefix k r acknowledged at d;
    looks = λ k m number long at part place completed. looks_short known c a o ordered k m number long at part place completed;
    told = told_stays known routes migrated c a o prefix;
    quicks = λ j k i number h m u at is part there lt place waits its touched too. quicks_short known chain ordered c a o j k i number h m u at is part there lt place waits its touched too;
    cuts = λ j number long h m at is part firm. cuts_short known chain ordered c a o j m number long at part is;
  }

  -- the log that was replayed
  log_is : o.r.log ≡ o.b.log ++ ops (replayed_of it)
  log_is = o.log ∙ replay_is _ _ (frozen_requests o.x) o.b.log (held_apart known c a o)

  entries_are : entries_at (numbered w.masters a.master.number) ≡ o.b.log ++ ops (replayed_of it)
  entries_are = ap entries_at o.is.its_state ∙ ap (λ (p : RecoveryPhase). logged_entries (phase_log p)) o.phase ∙ log_is

  behind_cut : op_requests (drop o.r.cut o.r.log) ≡ replayed_of it
  behind_cut =
      ap (λ (n : ℕ). op_requests (drop n o.r.log)) o.cut
      ∙ ap (λ (es : List Entry). op_requests (drop (length o.b.log) es)) log_is
      ∙ ap op_requests (drop_prefix o.b.log (ops (replayed_of it)))
      ∙ requests_of_ops (replayed_of it)

  -- the marks follow
  marks_are : with_adoption w.masters (Some a) w.marks ≡ mark.adopted a.master c.part a.order.epoch (length o.b.log) (replayed_of it) w.marks
  marks_are =
      ap (λ (m : Option MasterStage). marks_adopted a m w.marks) o.is.its_state
      ∙ ap (λ (p : RecoveryPhase). marks_after a (replayed_in p) w.marks) o.phase
      ∙ ap (λ (n : ℕ). mark.adopted a.master n a.order.epoch o.r.cut (op_requests (drop o.r.cut o.r.log)) w.marks) o.ok.its_part
      ∙ ap (λ (n : ℕ). mark.adopted a.master c.part a.order.epoch n (op_requests (drop o.r.cut o.r.log)) w.marks) o.cut
      ∙ ap (λ (rs : List Request). mark.adopted a.master c.part a.order.epoch (length o.b.log) rs w.marks) behind_cut

  module _ (events : List Event) (none : events ≡ []) (r : Moved ManagerState) (does : ManagerEffect w r) where
    abbrev v : World
    v = manager_moved w (Some a) events r

    module _ (names : Names v) (later : Later w v) (parts : r.state.config.parts ≡ set w.manager.config.parts (c.part - 1) (recovered_part c a)) (moving : r.state.moving ≡ w.manager.moving) where
      -- the partition has the replayed log
      pub adopted_parts : (line_of v).parts ≡ relogged (line_of w).parts c.part (part_of w c) (o.b.log ++ ops (replayed_of it))
      adopted_parts =
          seated_parts v
          ∙ ap (λ (s : Shape). map (seated s v.masters) (map seat v.manager.config.parts)) later.shape
          ∙ ap (λ (cs : List PartConfig). map (seated w.manager.shape v.masters) (map seat cs)) parts
          ∙ map_alike (seated w.manager.shape v.masters) here (seated_grown w.manager.shape w.masters r.state.next.master) (map seat (set w.manager.config.parts (c.part - 1) (recovered_part c a)))
          ∙ ap (map here) (map_set seat w.manager.config.parts (c.part - 1) (recovered_part c a))
          ∙ map_set here (map seat w.manager.config.parts) (c.part - 1) (c.part, a.master)
          ∙ ap (λ (ps : List Part). set ps (c.part - 1) (here (c.part, a.master))) (sym (seated_parts w))
          ∙ ap (λ (es : List Entry). set (line_of w).parts (c.part - 1) (record (part_of w c) { log = es })) entries_are
        where
          here : ℕ × NodeId → Part
          here s = seated w.manager.shape w.masters s

      -- the log that it had is superseded
      adopted_left : (p n : ℕ) → left_of v p n ≡ left_after (line_of w) it p n
      adopted_left p n =
          left_adopted w v later.shape (λ node. entries_grown w.masters r.state.next.master node.number) c own (last_reign known ordered.cuts_follow c o.now)
          (λ q. ap (cuts q) (moved_marks (Some a) events none r does ∙ marks_are) ∙ cuts_adopted q a.master c.part a.order.epoch (length o.b.log) (replayed_of it) w.marks) p n
          ∙ ap (λ (l : Left). if (p == c.part) && (n == adoptions c.part w.marks + 1) then l else left_of w p n) (left_prefix (part_of w c) o.b.log prefix.rest prefix.is)
        where
          own : Mark
          own = cut_mark a.master c.part a.order.epoch (adoptions c.part w.marks + 1) (length o.b.log)

      -- so the move leads there
      pub adopt_leads : line_of v ≡ adopting (line_of w) it
      adopt_leads =
          moved_line (Some a) events none r does names (relogged (line_of w).parts c.part (part_of w c) (o.b.log ++ ops (replayed_of it))) adopted_parts (line_of w).moving (ap moving_of moving)
          (left_after (line_of w) it) adopted_left
          ∙ ap (λ (ms : List Mark). record (adopting (line_of w) it) { marks = ms }) marks_are
