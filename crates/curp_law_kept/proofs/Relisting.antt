-- New lists: a master begins to switch to them, and takes them up.
use Rattle.std.proofs.Common.{◌≡◌, ◌≤◌, ◌<◌, ◌==◌, inl, inr, ℕ, true, false, List, [], ◌∷◌, length, nat_lt, Some, refl, ◌∙◌, ap, arith}
use Rattle.std.proofs.lemmas.Bool.{cond_both, eqb-true, ltb-true}
use Rattle.curp_base.specs.Words.{Each}
use Rattle.curp_base.proofs.Lists.{Each-weaker, prefix_self}
use Rattle.curp_cmd.specs.Hash.{hashes}
use Rattle.curp_cmd.specs.Node.{master_node}
use Rattle.curp_cmd.specs.declared.entry.Entry.{Entry}
use Rattle.curp_cmd.specs.declared.entry.Entry.TheVariants.{Op, Take, Give, Expire}
use Rattle.curp_cmd.specs.declared.node.NodeId.{NodeId}
use Rattle.curp_msg.specs.declared.body.Adopted.{Adopted}
use Rattle.curp_msg.specs.declared.body.Body.TheVariants as body
use Rattle.curp_msg.specs.declared.body.Prepare.{Prepare}
use Rattle.curp_model.specs.Log.{entry_touches}
use Rattle.curp_model.specs.Master.{MasterState, Open, Phase, Switch, Switching, adopted_in, begins_round, next_round, prepare_in, settle, switch_to}
use Rattle.curp_model.specs.World.{World}
use Rattle.curp_facts.specs.Facts.{IsOnlyExpire}
use Rattle.curp_facts.specs.Nodes.{AcknowledgedOk, CapturedOk, FreeOp, QueuedOk, ServingOk, WasPrepared}
use Rattle.curp_law_kept.specs.Moves.{ListsMove}
use Rattle.curp_law_kept.specs.Moves.ListsMove.{Begins, TakesUp}
use Rattle.curp_law_kept.proofs.Acknowledging.{one_switch, open_switches, settles}
use Rattle.curp_law_kept.proofs.Parts.{Grown, Parts, parts_grow, parts_of, parts_round}
use Rattle.curp_law_kept.proofs.Serving.{Move, SameLog, appends_say, begins, itself, rests, says_all}
use Rattle.curp_law_kept.proofs.Synced.{on_each_synced}

-- ---- it begins to switch

module _ (w : World) (n : ℕ) (m : MasterState) (ok : ServingOk w (master_node n) m) (from : NodeId) (filled : 1 ≤ length m.backups) where
  -- the master as it switches
  abbrev switched : Prepare → MasterState
  switched p = record m { phase = Switching (switch_to m p) }

  switch_grows : (p : Prepare) → Grown m (switched p)
  switch_grows p = record {
    lo = refl;
    hi = refl;
    log = prefix_self m.log;
    round = omega arith;
    captured = omega arith;
    opens = λ o. absurd (open_switches (Switching (switch_to m p)) (switch_to m p) o refl);
  }

  begins_switch : (p : Prepare) → m.phase ≡ Open → m.version < p.version → Move w n m ok from (Some (body.Prepare p)) (begins_round n (switched p))
  begins_switch p serves above =
      let k : MasterState = next_round (switched p) in
      let parts : Parts w m.part k = parts_round w m.part (switched p) (parts_grow w m (switched p) (switch_grows p) m.part (parts_of w (master_node n) m ok) ok.log refl refl refl refl refl) in
      record {
        log = parts.log;
        acknowledged = parts.acknowledged;
        free = parts.free;
        held = parts.held;
        queue = parts.queue;
        captures = parts.captures;
        lists = Begins p.version p.backups p.witnesses refl serves above refl refl refl refl (omega arith);
        reaches = λ s switches. inr (says_all w m.part n k parts filled);
        since = λ s switches prepared j e at. absurd (unprepared (switch_to m p) s refl (one_switch k.phase (switch_to m p) s refl switches) prepared);
        says = appends_say w m.part n k parts;
        refused = refl;
        idle = refl;
      }
    where
      unprepared : (s t : Switch) → s.prepared ≡ false → s ≡ t → t.prepared ≡ true → ⊥
      unprepared s t fresh same prepared = let e : s.prepared ≡ t.prepared = ap (λ (x : Switch). x.prepared) same in cc

  -- it is ordered to
  pub prepare_moves : (p : Prepare) (at : Phase) → m.phase ≡ at → Move w n m ok from (Some (body.Prepare p)) (prepare_in n m p at)
  prepare_moves p Open is = cond_both (nat_lt m.version p.version) _ _ (Move w n m ok from (Some (body.Prepare p)))
      (λ y. begins_switch p is (ltb-true m.version p.version y)) (λ y. rests w n m ok from (Some (body.Prepare p)))
  prepare_moves p (Switching s) is = cond_both (s.version == p.version) _ _ (Move w n m ok from (Some (body.Prepare p)))
      (λ y. begins w n m ok from (Some (body.Prepare p)) filled m (itself w n m ok from (Some (body.Prepare p))) (SameLog refl) (parts_of w (master_node n) m ok)) (λ y. rests w n m ok from (Some (body.Prepare p)))

-- ---- it takes them up

-- an expiry touches nothing
expiry_touches : (e : Entry) → IsOnlyExpire e → (hs : List ℕ) → Each (λ h. entry_touches e h ≡ false) hs
expiry_touches (Expire client) only [] = tt
expiry_touches (Expire client) only (h ∷ hs) = (refl, expiry_touches (Expire client) only hs)
expiry_touches (Op r acknowledged) only hs = absurd only
expiry_touches (Take migration taken) only hs = absurd only
expiry_touches (Give migration given) only hs = absurd only

-- the master as it serves by the lists to which it switched
abbrev pub taken_up : MasterState → Switch → MasterState
taken_up m s = record m { version = s.version; backups = s.backups; witnesses = s.witnesses; phase = Open }

module _ (w : World) (n : ℕ) (m : MasterState) (ok : ServingOk w (master_node n) m) (from : NodeId) (a : Adopted) (s : Switch) (same : s.version ≡ a.version) (is : m.phase ≡ Switching s) (some : 1 ≤ length s.backups) (prepared : s.prepared ≡ true) where
  -- all its entries but expiries are synced by the new lists
  free_up : (index : ℕ) → FreeOp m index → FreeOp (taken_up m s) index
  free_up index f = record {
    op = f.op;
    apart = λ serves k e low less at. elim ((ok.switching s is).since prepared k e at) [
      | inl expires ↦ expiry_touches e expires (hashes f.op.request.command)
      | inr all ↦ absurd (omega (arith, low, on_each_synced m s.backups k some all))
    ];
  }

  parts_up : Parts w m.part (taken_up m s)
  parts_up = record {
    lo = ok.lo;
    hi = ok.hi;
    log = ok.log;
    acknowledged = Each-weaker (AcknowledgedOk w m) (AcknowledgedOk w (taken_up m s)) (λ a x. record { stored = x.stored; within = x.within; begun = x.begun }) m.acknowledged ok.acknowledged;
    free = λ index has_it. free_up index (ok.free index has_it);
    held = ok.held;
    queue = Each-weaker (QueuedOk m) (QueuedOk (taken_up m s)) (λ q x. record { within = x.within; checked = x.checked }) m.queue ok.queue;
    captures = Each-weaker (CapturedOk w m) (CapturedOk w (taken_up m s))
        (λ c x. record { place = x.place; invoked = x.invoked; reads = x.reads; number = x.number; within = x.within; begun = x.begun }) m.captures ok.captures;
  }

  lists_up : ListsMove n m from (Some (body.Adopted a)) (settle n (taken_up m s)).state (settle n (taken_up m s)).messages
  unfolding settle
  lists_up = TakesUp s a refl same is prepared refl refl refl refl

  takes_up : Move w n m ok from (Some (body.Adopted a)) (settle n (taken_up m s))
  takes_up = settles w n m ok from (Some (body.Adopted a)) (taken_up m s) refl parts_up refl lists_up

-- lists are adopted that it has said to be prepared: those to which it switches
pub adopted_moves : (w : World) (n : ℕ) (m : MasterState) (ok : ServingOk w (master_node n) m) (from : NodeId) → ((s : Switch) → m.phase ≡ Switching s → 1 ≤ length s.backups)
    → (a : Adopted) → WasPrepared m a.version → (at : Phase) → m.phase ≡ at → Move w n m ok from (Some (body.Adopted a)) (adopted_in n m a.version at)
adopted_moves w n m ok from some a was Open is = rests w n m ok from (Some (body.Adopted a))
adopted_moves w n m ok from some a was (Switching s) is = cond_both (s.version == a.version) _ _ (Move w n m ok from (Some (body.Adopted a)))
    (λ y. let same : s.version ≡ a.version = eqb-true s.version a.version y in takes_up w n m ok from a s same is (some s is) (prepared same)) (λ y. rests w n m ok from (Some (body.Adopted a)))
  where
    prepared : s.version ≡ a.version → s.prepared ≡ true
    prepared same = elim was [
      | inl low ↦ absurd (omega (arith, low, same, (ok.switching s is).above))
      | inr t ↦ ap (λ (x : Switch). x.prepared) (one_switch m.phase s t.0 is t.1) ∙ t.3
    ]
