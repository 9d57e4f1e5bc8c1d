-- A backup answers an append: the master settles, or finds that the lists to which it switches are prepared.
use Rattle.std.proofs.Common.{◌≡◌, ◌≤◌, ◌<◌, ◌&&◌, inl, inr, ℕ, Bool, true, false, not, List, [], ◌∷◌, length, Option, refl, sym, ◌∙◌, subst, arith}
use Rattle.std.proofs.lemmas.Bool.{and_parts, cond_both}
use Rattle.curp_base.specs.Words.{Each}
use Rattle.curp_base.proofs.Lists.{Each-weaker, at_within, prefix_self}
use Rattle.curp_cmd.specs.Node.{is_among, master_node}
use Rattle.curp_cmd.specs.declared.node.NodeId.{NodeId}
use Rattle.curp_msg.specs.Moved.{quiet, sends}
use Rattle.curp_msg.specs.declared.answer.AppendAnswer.{AppendAnswer}
use Rattle.curp_msg.specs.declared.answer.AppendAnswer.TheVariants.{Stored}
use Rattle.curp_msg.specs.declared.body.Body.{Body}
use Rattle.curp_model.specs.Master.{MasterState, Open, Phase, Switch, Switching, all_have, from_backup, goes_on, on_appended, on_stored, prepared_message, raised, settle, stored_on}
use Rattle.curp_model.specs.World.{World}
use Rattle.curp_facts.specs.Nodes.{IsOnEach, ServingOk}
use Rattle.curp_facts.specs.Reach.{HasStored}
use Rattle.curp_law_kept.specs.Moves.{HasAcknowledged, HearsAnswer, ListsMove}
use Rattle.curp_law_kept.specs.Moves.ListsMove.{Prepares, Stays}
use Rattle.curp_law_kept.proofs.Parts.{Grown, Parts, acknowledgements_grow, captures_grow, free_grows, parts_grow, queued_grow}
use Rattle.curp_law_kept.proofs.Serving.{Move, rests}
use Rattle.curp_law_kept.proofs.Settled.{settle_parts, settle_says}
use Rattle.curp_law_kept.proofs.Synced.{all_acknowledged, raised_ok, raised_rises, synced_rises}

-- one phase isn't the other
pub open_switches : (p : Phase) (s : Switch) → p ≡ Open → p ≡ Switching s → ⊥
open_switches p s serves switches = cc

-- lists that it switches to are those
pub one_switch : (p : Phase) (s t : Switch) → p ≡ Switching s → p ≡ Switching t → s ≡ t
one_switch p s t first second = let same : Switching s ≡ Switching t = sym first ∙ second in cc

module _ (w : World) (n : ℕ) (m : MasterState) (ok : ServingOk w (master_node n) m) (from : NodeId) (heard : Option Body) where
  -- an open master settles
  pub settles : (k : MasterState) → k.part ≡ m.part → Parts w m.part k → k.phase ≡ Open → ListsMove n m from heard (settle n k).state (settle n k).messages → Move w n m ok from heard (settle n k)
  unfolding settle
  settles k its p serves lists = record {
    log = (settle_parts w m.part n k p serves).log;
    acknowledged = (settle_parts w m.part n k p serves).acknowledged;
    free = (settle_parts w m.part n k p serves).free;
    held = (settle_parts w m.part n k p serves).held;
    queue = (settle_parts w m.part n k p serves).queue;
    captures = (settle_parts w m.part n k p serves).captures;
    lists = lists;
    reaches = λ s switches. absurd (open_switches k.phase s serves switches);
    since = λ s switches. absurd (open_switches k.phase s serves switches);
    says = settle_says w m.part n k p serves its;
    refused = refl;
    idle = refl;
  }

  lists_stay : (k : MasterState) → k.version ≡ m.version → k.backups ≡ m.backups → k.witnesses ≡ m.witnesses → k.phase ≡ m.phase → ListsMove n m from heard (settle n k).state (settle n k).messages
  unfolding settle
  lists_stay k version backups witnesses phase = Stays version backups witnesses phase

-- ---- a backup has so many entries

-- the master with what it has learnt
abbrev learnt : MasterState → NodeId → ℕ → ℕ → MasterState
learnt m from long round = record m { acknowledged = raised m.acknowledged from long round }

module _ (w : World) (n : ℕ) (m : MasterState) (ok : ServingOk w (master_node n) m) (from : NodeId) (heard : Option Body) (long round : ℕ)
    (stored : HasStored w long from) (within : long ≤ length m.log) (begun : round ≤ m.round) where
  learns : Grown m (learnt m from long round)
  learns = record {
    lo = refl;
    hi = refl;
    log = prefix_self m.log;
    round = omega arith;
    captured = omega arith;
    opens = λ o. (o, synced_rises m.acknowledged from long round m.backups);
  }

  parts_learnt : Parts w m.part (learnt m from long round)
  parts_learnt =
      let k : MasterState = learnt m from long round in
      record {
        lo = ok.lo;
        hi = ok.hi;
        log = ok.log;
        acknowledged = acknowledgements_grow w m k learns (raised m.acknowledged from long round)
            (raised_ok w m from long round (record { stored = stored; within = within; begun = begun }) m.acknowledged ok.acknowledged);
        free = λ index has_it. free_grows w m k learns index (ok.free index has_it);
        held = ok.held;
        queue = queued_grow w m k learns m.queue ok.queue;
        captures = captures_grow w m k learns m.captures ok.captures;
      }

  -- what was on each backup still is
  still_on_each : (backups : List NodeId) (index : ℕ) → IsOnEach m backups index → IsOnEach (learnt m from long round) backups index
  still_on_each backups index all = Each-weaker (λ b. index < (from_backup m.acknowledged b).length) (λ b. index < (from_backup (raised m.acknowledged from long round) b).length)
      (λ b l. omega (arith, l, raised_rises m.acknowledged from long round b)) backups all

  -- it isn't prepared yet
  waits : (s : Switch) → m.phase ≡ Switching s → Move w n m ok from heard (quiet (learnt m from long round))
  waits s is = record {
    log = parts_learnt.log;
    acknowledged = parts_learnt.acknowledged;
    free = parts_learnt.free;
    held = parts_learnt.held;
    queue = parts_learnt.queue;
    captures = parts_learnt.captures;
    lists = Stays refl refl refl refl;
    reaches = λ t switches. inl (refl, (t, switches));
    since = λ t switches prepared k e at. elim ((ok.switching t switches).since prepared k e at) [
      | inl expires ↦ inl expires
      | inr all ↦ inr (still_on_each t.backups k all)
    ];
    says = tt;
    refused = refl;
    idle = refl;
  }

  -- it is, and the manager is told
  abbrev ready : Switch → MasterState
  ready s = record (learnt m from long round) { phase = Switching (record s { prepared = true }) }

  ready_grows : (s : Switch) → Grown (learnt m from long round) (ready s)
  ready_grows s = record {
    lo = refl;
    hi = refl;
    log = prefix_self m.log;
    round = omega arith;
    captured = omega arith;
    opens = λ o. absurd (open_switches (Switching (record s { prepared = true })) (record s { prepared = true }) o refl);
  }

  is_ready : (s : Switch) → m.phase ≡ Switching s → s.prepared ≡ false → all_have (raised m.acknowledged from long round) s.backups (length m.log) s.round ≡ true
      → Move w n m ok from heard (sends (ready s) (prepared_message n s.version ∷ []))
  is_ready s is fresh all =
      let p : Parts w m.part (ready s) = parts_grow w (learnt m from long round) (ready s) (ready_grows s) m.part parts_learnt ok.log refl refl refl refl refl in
      let told : Each (HasAcknowledged (ready s) (length m.log)) s.backups = all_acknowledged (ready s) s.backups (length m.log) s.round all in
      record {
        log = p.log;
        acknowledged = p.acknowledged;
        free = p.free;
        held = p.held;
        queue = p.queue;
        captures = p.captures;
        lists = Prepares s is fresh refl told refl refl refl refl (record { x = prepared_message n s.version; stands = record { place = 0; stands = refl }; sender = refl; addressee = refl; is = refl });
        reaches = λ t switches. inl (refl, (s, is));
        since = λ t switches prepared k e at. inr (subst (λ (u : Switch). IsOnEach (ready s) u.backups k) (one_switch (ready s).phase (record s { prepared = true }) t refl switches)
            (Each-weaker (HasAcknowledged (ready s) (length m.log)) (λ b. k < (from_backup (raised m.acknowledged from long round) b).length) (λ b l. omega (arith, l, at_within m.log k e at)) s.backups told));
        says = (record { sender = refl; says_so = (record { s = record s { prepared = true }; switches = refl; its_version = refl; prepared = refl }, refl) }, tt);
        refused = refl;
        idle = refl;
      }

  not_prepared : (b : Bool) → not b ≡ true → b ≡ false
  not_prepared true e = absurd cc
  not_prepared false e = refl

  goes : (at : Phase) → m.phase ≡ at → Move w n m ok from heard (goes_on n (learnt m from long round) at)
  goes Open is = settles w n m ok from heard (learnt m from long round) refl parts_learnt is (lists_stay w n m ok from heard (learnt m from long round) refl refl refl refl)
  goes (Switching s) is = cond_both (not s.prepared && all_have (raised m.acknowledged from long round) s.backups (length m.log) s.round) _ _ (Move w n m ok from heard)
      (λ y. let both = and_parts (not s.prepared) (all_have (raised m.acknowledged from long round) s.backups (length m.log) s.round) y in is_ready s is (not_prepared s.prepared both.0) both.1)
      (λ y. waits s is)

  stored_moves : Move w n m ok from heard (on_stored n m from long round)
  stored_moves = cond_both (is_among from (stored_on m)) _ _ (Move w n m ok from heard) (λ y. goes m.phase refl) (λ y. rests w n m ok from heard)

-- a backup answers an append
pub appended_moves : (w : World) (n : ℕ) (m : MasterState) (ok : ServingOk w (master_node n) m) (from : NodeId) (heard : Option Body) (round : ℕ) (a : AppendAnswer) → HearsAnswer w m from round a
    → Move w n m ok from heard (on_appended n m from round a)
unfolding on_appended
appended_moves w n m ok from heard round (Stored long) hears = stored_moves w n m ok from heard long round hears.0 hears.1 hears.2
appended_moves w n m ok from heard round _ hears = rests w n m ok from heard
