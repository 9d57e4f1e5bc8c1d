-- What a serving master keeps beside its lists, and that it keeps it as it grows.
use Rattle.std.proofs.Common.{◌≡◌, ◌≤◌, ◌<◌, inl, inr, ℕ, ◌+◌, Bool, true, List, [], ◌∷◌, ◌++◌, length, take, refl, sym, ◌∙◌, subst, arith}
use Rattle.std.specs.BTreeSet.{insert_key}
use Rattle.std.specs.List.{filter}
use Rattle.std.specs.Ordering.{nat_cmp}
use Rattle.curp_base.specs.Words.{Each, IsPrefix}
use Rattle.curp_base.proofs.Lists.{Each-append, Each-weaker, at_within, prefix_at, prefix_back, prefix_length, prefix_push, prefix_self}
use Rattle.curp_cmd.specs.declared.command.RequestId.{RequestId}
use Rattle.curp_cmd.specs.declared.entry.Entry.{Entry}
use Rattle.curp_cmd.specs.declared.entry.Entry.TheVariants.{Op}
use Rattle.curp_facts.specs.Entries.{EntryOk, LogOk}
use Rattle.curp_facts.specs.Facts.{hi_of, lo_of}
use Rattle.curp_facts.specs.Kept.{IsCollectable}
use Rattle.curp_facts.specs.Nodes.{AcknowledgedOk, CapturedOk, FreeOp, IsOpAt, QueuedOk, ServingOk}
use Rattle.curp_model.specs.Log.{LogState, fits_at, meaning}
use Rattle.curp_model.specs.Master.{Acknowledged, Captured, MasterState, Open, Queued, has, next_round, queue_id, queued, state_of, synced}
use Rattle.curp_model.specs.Table.{check}
use Rattle.curp_model.specs.World.{World}
use Rattle.curp_law_kept.proofs.Logs.{take_grows}
use Rattle.curp_law_kept.proofs.MasterLists.{each_filtered, each_inserted, each_queued, has_pushed}
use Rattle.curp_law_kept.proofs.Pushed.{IsAbove, log_grows}

-- its log and all that is kept beside it
pub record Parts (w : World) (part : ℕ) (k : MasterState) : Type 0 where
  pub lo : k.lo ≡ lo_of w part
  pub hi : k.hi ≡ hi_of w part
  pub log : LogOk w part k.log
  pub acknowledged : Each (AcknowledgedOk w k) k.acknowledged
  pub free : (index : ℕ) → has index k.free ≡ true → FreeOp k index
  pub held : Each (IsOpAt k.log) k.held
  pub queue : Each (QueuedOk k) k.queue
  pub captures : Each (CapturedOk w k) k.captures

-- a serving master has them
pub parts_of : (w : World) (node : _) (m : MasterState) → ServingOk w node m → Parts w m.part m
parts_of w node m ok = record { lo = ok.lo; hi = ok.hi; log = ok.log; acknowledged = ok.acknowledged; free = ok.free; held = ok.held; queue = ok.queue; captures = ok.captures }

-- ---- growth

-- the log, the rounds and the captures grow; where it is open it was so, and what is synced doesn't fall
pub record Grown (m k : MasterState) : Type 0 where
  pub lo : k.lo ≡ m.lo
  pub hi : k.hi ≡ m.hi
  pub log : IsPrefix m.log k.log
  pub round : m.round ≤ k.round
  pub captured : m.captured ≤ k.captured
  pub opens : k.phase ≡ Open → (m.phase ≡ Open) × (synced m ≤ synced k)

-- an op that stands in a log stands in a longer one
abbrev pub op_grows : (xs ys : List Entry) (index : ℕ) → IsPrefix xs ys → IsOpAt xs index → IsOpAt ys index
op_grows xs ys index p op = record { request = op.request; acknowledged = op.acknowledged; stands = prefix_at p index (Op op.request op.acknowledged) op.stands }

module _ (w : World) (m k : MasterState) (g : Grown m k) where
  -- each thing that is kept beside the log is as it should be of the grown master
  pub acknowledged_grows : (a : Acknowledged) → AcknowledgedOk w m a → AcknowledgedOk w k a
  acknowledged_grows a ok = record { stored = ok.stored; within = omega (arith, ok.within, prefix_length g.log); begun = omega (arith, ok.begun, g.round) }

  pub free_grows : (index : ℕ) → FreeOp m index → FreeOp k index
  free_grows index f = record {
    op = op_grows m.log k.log index g.log f.op;
    apart = λ is j e low less at.
        let within : index < length m.log = at_within m.log index _ f.op.stands in
        f.apart (g.opens is).0 j e (omega (arith, low, (g.opens is).1)) less (prefix_back g.log j e (omega (arith, less, within)) at);
  }

  pub queue_grows : (q : Queued) → QueuedOk m q → QueuedOk k q
  queue_grows q ok = record {
    within = omega (arith, ok.within, prefix_length g.log);
    checked = subst (λ (s : LogState). IsCollectable (check s.table q.id)) same ok.checked;
  }
    where
      same : meaning m.lo m.hi (take q.length m.log) ≡ meaning k.lo k.hi (take q.length k.log)
      same i = meaning (sym g.lo i) (sym g.hi i) (sym (take_grows q.length g.log ok.within) i)

  pub capture_grows : (c : Captured) → CapturedOk w m c → CapturedOk w k c
  capture_grows c ok = record {
    place = ok.place;
    invoked = ok.invoked;
    reads = ok.reads;
    number = omega (arith, ok.number, g.captured);
    within = omega (arith, ok.within, prefix_length g.log);
    begun = omega (arith, ok.begun, g.round);
  }

  -- and so are all of them
  pub acknowledgements_grow : (xs : List Acknowledged) → Each (AcknowledgedOk w m) xs → Each (AcknowledgedOk w k) xs
  acknowledgements_grow xs all = Each-weaker (AcknowledgedOk w m) (AcknowledgedOk w k) acknowledged_grows xs all

  pub held_grow : (xs : List ℕ) → Each (IsOpAt m.log) xs → Each (IsOpAt k.log) xs
  held_grow xs all = Each-weaker (IsOpAt m.log) (IsOpAt k.log) (λ index. op_grows m.log k.log index g.log) xs all

  pub queued_grow : (xs : List Queued) → Each (QueuedOk m) xs → Each (QueuedOk k) xs
  queued_grow xs all = Each-weaker (QueuedOk m) (QueuedOk k) queue_grows xs all

  pub captures_grow : (xs : List Captured) → Each (CapturedOk w m) xs → Each (CapturedOk w k) xs
  captures_grow xs all = Each-weaker (CapturedOk w m) (CapturedOk w k) capture_grows xs all

  -- where what is kept beside the log stays
  pub parts_grow : (part : ℕ) → Parts w part m → LogOk w part k.log → k.acknowledged ≡ m.acknowledged → k.free ≡ m.free → k.held ≡ m.held → k.queue ≡ m.queue → k.captures ≡ m.captures → Parts w part k
  parts_grow part p log acks free held queue captures = record {
    lo = g.lo ∙ p.lo;
    hi = g.hi ∙ p.hi;
    log = log;
    acknowledged = subst (Each (AcknowledgedOk w k)) (sym acks) (acknowledgements_grow m.acknowledged p.acknowledged);
    free = λ index has_it. free_grows index (p.free index (subst (λ (xs : List ℕ). has index xs ≡ true) free has_it));
    held = subst (Each (IsOpAt k.log)) (sym held) (held_grow m.held p.held);
    queue = subst (Each (QueuedOk k)) (sym queue) (queued_grow m.queue p.queue);
    captures = subst (Each (CapturedOk w k)) (sym captures) (captures_grow m.captures p.captures);
  }

-- ---- one thing more

module _ (w : World) (part : ℕ) (m : MasterState) (p : Parts w part m) where
  -- what the log means, by the range of its partition
  pub state_here : state_of m ≡ meaning (lo_of w part) (hi_of w part) m.log
  state_here i = meaning (p.lo i) (p.hi i) m.log

  -- a round begins
  pub parts_round : Parts w part (next_round m)
  parts_round = parts_grow w m (next_round m) (record { lo = refl; hi = refl; log = prefix_self m.log; round = omega arith; captured = omega arith; opens = λ is. (is, omega arith) }) part p p.log refl refl refl refl refl

  -- an entry is pushed
  pub parts_push : (e : Entry) → fits_at (state_of m) e ≡ true → EntryOk w part e → IsAbove m.log e → Parts w part (record m { log = m.log ++ e ∷ [] })
  parts_push e fits is above =
      parts_grow w m (record m { log = m.log ++ e ∷ [] })
      (record { lo = refl; hi = refl; log = prefix_push m.log (e ∷ []); round = omega arith; captured = omega arith; opens = λ is. (is, omega arith) }) part p
      (log_grows w part m.log e p.log (subst (λ (s : LogState). fits_at s e ≡ true) state_here fits) is above) refl refl refl refl refl

  -- another of the lists beside the log, which stays
  same_log : (free held : List ℕ) (queue : List Queued) (captures : List Captured) (captured : ℕ) → m.captured ≤ captured → Grown m (record m { free = free; held = held; queue = queue; captures = captures; captured = captured })
  same_log free held queue captures captured more = record { lo = refl; hi = refl; log = prefix_self m.log; round = omega arith; captured = more; opens = λ is. (is, omega arith) }

  parts_with : (free held : List ℕ) (queue : List Queued) (captures : List Captured) (captured : ℕ) → m.captured ≤ captured
      → ((index : ℕ) → has index free ≡ true → FreeOp m index) → Each (IsOpAt m.log) held → Each (QueuedOk m) queue → Each (CapturedOk w (record m { free = free; held = held; queue = queue; captures = captures; captured = captured })) captures
      → Parts w part (record m { free = free; held = held; queue = queue; captures = captures; captured = captured })
  parts_with free held queue captures captured more f h q c =
      let k : MasterState = record m { free = free; held = held; queue = queue; captures = captures; captured = captured } in
      let g : Grown m k = same_log free held queue captures captured more in
      record {
        lo = p.lo;
        hi = p.hi;
        log = p.log;
        acknowledged = acknowledgements_grow w m k g m.acknowledged p.acknowledged;
        free = λ index has_it. free_grows w m k g index (f index has_it);
        held = held_grow w m k g held h;
        queue = queued_grow w m k g queue q;
        captures = c;
      }

  old_captures : (free held : List ℕ) (queue : List Queued) → Each (CapturedOk w (record m { free = free; held = held; queue = queue })) m.captures
  old_captures free held queue = captures_grow w m (record m { free = free; held = held; queue = queue }) (same_log free held queue m.captures m.captured (omega arith)) m.captures p.captures

  -- a request waits for its synced reply
  pub parts_held : (index : ℕ) → IsOpAt m.log index → Parts w part (record m { held = insert_key nat_cmp m.held index })
  parts_held index op =
      let held : List ℕ = insert_key nat_cmp m.held index in
      parts_with m.free held m.queue m.captures m.captured (omega arith) p.free (each_inserted (IsOpAt m.log) index op m.held p.held) p.queue (old_captures m.free held m.queue)

  -- an op is free
  pub parts_free : (index : ℕ) → FreeOp m index → Parts w part (record m { free = m.free ++ index ∷ [] })
  parts_free index own =
      let free : List ℕ = m.free ++ index ∷ [] in
      parts_with free m.held m.queue m.captures m.captured (omega arith)
      (λ i has_it. elim (has_pushed i index m.free has_it) [ inl old ↦ p.free i old | inr new ↦ subst (FreeOp m) new own ]) p.held p.queue (old_captures free m.held m.queue)

  -- an id is queued for collection
  pub parts_queue : (id : RequestId) (long : ℕ) → long ≤ length m.log → IsCollectable (check (meaning m.lo m.hi (take long m.log)).table id) → Parts w part (queue_id m id long)
  parts_queue id long within checked =
      let queue : List Queued = queued m.queue id long in
      parts_with m.free m.held queue m.captures m.captured (omega arith) p.free p.held
      (each_queued (QueuedOk m) id long (record { within = within; checked = checked }) m.queue p.queue) (old_captures m.free m.held queue)

  -- some that were queued are left
  pub parts_left : (test : Queued → Bool) → Parts w part (record m { queue = filter test m.queue })
  parts_left test =
      let queue : List Queued = filter test m.queue in
      parts_with m.free m.held queue m.captures m.captured (omega arith) p.free p.held
      (Each-weaker _ _ (λ q x. x.0) queue (each_filtered (QueuedOk m) test m.queue p.queue)) (old_captures m.free m.held queue)

-- a read is answered at once, which takes a capture number
pub parts_glance : (w : World) (part : ℕ) (m : MasterState) → Parts w part m → Parts w part (record m { captured = m.captured + 1 })
parts_glance w part m p =
    let k : MasterState = record m { captured = m.captured + 1 } in
    let g : Grown m k = record { lo = refl; hi = refl; log = prefix_self m.log; round = omega arith; captured = omega arith; opens = λ is. (is, omega arith) } in
    record {
      lo = p.lo;
      hi = p.hi;
      log = p.log;
      acknowledged = acknowledgements_grow w m k g m.acknowledged p.acknowledged;
      free = λ index has_it. free_grows w m k g index (p.free index has_it);
      held = held_grow w m k g m.held p.held;
      queue = queued_grow w m k g m.queue p.queue;
      captures = captures_grow w m k g m.captures p.captures;
    }

-- a read is captured, and a round begins for it
pub parts_capture : (w : World) (part : ℕ) (m : MasterState) → Parts w part m → (c : Captured) → CapturedOk w (record m { captures = m.captures ++ c ∷ []; captured = m.captured + 1; round = m.round + 1 }) c
    → Parts w part (record m { captures = m.captures ++ c ∷ []; captured = m.captured + 1; round = m.round + 1 })
parts_capture w part m p c own =
    let k : MasterState = record m { captures = m.captures ++ c ∷ []; captured = m.captured + 1; round = m.round + 1 } in
    let g : Grown m k = record { lo = refl; hi = refl; log = prefix_self m.log; round = omega arith; captured = omega arith; opens = λ is. (is, omega arith) } in
    record {
      lo = p.lo;
      hi = p.hi;
      log = p.log;
      acknowledged = acknowledgements_grow w m k g m.acknowledged p.acknowledged;
      free = λ index has_it. free_grows w m k g index (p.free index has_it);
      held = held_grow w m k g m.held p.held;
      queue = queued_grow w m k g m.queue p.queue;
      captures = Each-append (CapturedOk w k) m.captures (c ∷ []) (captures_grow w m k g m.captures p.captures) (own, tt);
    }
