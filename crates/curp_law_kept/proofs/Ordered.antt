-- How a serving master moves by an expired client, and by its own orders.
use Rattle.std.proofs.Common.{◌≡◌, ◌≤◌, ℕ, true, not, nat_le, List, ◌∷◌, length, map, take, Option, refl, sym, subst, arith}
use Rattle.std.specs.List.{filter}
use Rattle.std.proofs.lemmas.Bool.{cond_both}
use Rattle.std.proofs.lemmas.Bool.Decides.{nat_tests}
use Rattle.curp_base.proofs.Lists.{Each-map, Each-weaker}
use Rattle.curp_cmd.specs.Node.{master_node}
use Rattle.curp_cmd.specs.declared.command.RequestId.{RequestId}
use Rattle.curp_cmd.specs.declared.entry.Entry.TheVariants.{Expire}
use Rattle.curp_cmd.specs.declared.node.NodeId.{NodeId}
use Rattle.curp_msg.specs.Moved.{Moved, says, sends}
use Rattle.curp_msg.specs.declared.body.Body.{Body}
use Rattle.curp_msg.specs.declared.body.Body.TheVariants as body
use Rattle.curp_msg.specs.declared.machine.Local.{Local}
use Rattle.curp_msg.specs.declared.machine.Local.TheVariants as local
use Rattle.curp_facts.specs.Facts.{WasOrdered}
use Rattle.curp_facts.specs.Kept.{IsCollectable}
use Rattle.curp_facts.specs.Nodes.{QueuedOk, ServingOk}
use Rattle.curp_model.specs.Master.{MasterState, Open, Phase, Queued, Switching, appends, collect_in, collects, is_due, next_round, on_expire, prepared_message, serving_ordered, state_of, sync_in, synced}
use Rattle.curp_model.specs.Log.{LogState, meaning}
use Rattle.curp_model.specs.Table.{check, is_gone}
use Rattle.curp_model.specs.World.{World}
use Rattle.curp_law_kept.specs.Moves.{CollectableIn, IsSaidBy, ServingMove, ServingSays}
use Rattle.curp_law_kept.proofs.NumberedLists.{each_among}
use Rattle.curp_law_kept.proofs.MasterLists.{each_filtered}
use Rattle.curp_law_kept.proofs.Parts.{Parts, parts_left, parts_of, parts_round}
use Rattle.curp_law_kept.proofs.Serving.{appends_say, begins, itself, keeps_log, pushes, rests, unless_ends}
use Rattle.curp_law_kept.proofs.Serving.LogMove.{Expires, SameLog}

module _ (w : World) (n : ℕ) (m : MasterState) (ok : ServingOk w (master_node n) m) (from : NodeId) (heard : Option Body) where
  abbrev Goes : Moved MasterState → Type 0
  Goes r = ServingMove w n m from heard r

  -- ---- collections

  -- an id that is due may be collected after entries that are synced
  due_collectable : (k : MasterState) → k.lo ≡ m.lo → k.hi ≡ m.hi → k.log ≡ m.log → synced k ≡ synced m → (q : Queued) → QueuedOk m q × (is_due m q ≡ true) → CollectableIn k q.id
  due_collectable k lo hi log same q due = record {
    count = q.length;
    low = let low : q.length ≤ synced m = below due.1 in omega (arith, low, same);
    checked = subst (λ (s : LogState). IsCollectable (check s.table q.id)) (λ i. meaning (sym lo i) (sym hi i) (take q.length (sym log i))) due.0.checked;
  }
    where
      below : nat_le q.length (synced m) ≡ true → q.length ≤ synced m
      below y = grind (arith, nat_tests)

  collects_moves : m.phase ≡ Open → Goes (collects n m)
  collects_moves is =
      let k : MasterState = record m { queue = filter (λ (q : Queued). not (is_due m q)) m.queue } in
      let ids : List RequestId = map (λ (q : Queued). q.id) (filter (is_due m) m.queue) in
      keeps_log w n m ok from heard k _ (record { version = refl; backups = refl; witnesses = refl; phase = refl; acknowledged = refl }) refl
      (parts_left w m.part m (parts_of w (master_node n) m ok) (λ (q : Queued). not (is_due m q)))
      (Each-map (IsSaidBy n (ServingSays w k)) (λ (to : NodeId). says (master_node n) to (body.Gc (record { epoch = m.epoch; ids = ids }))) m.witnesses
      (each_among _ m.witnesses (λ to among. record {
        sender = refl;
        says_so = record {
          serves = is;
          its_epoch = refl;
          its_witness = among;
          collectable = Each-map (CollectableIn k) (λ (q : Queued). q.id) (filter (is_due m) m.queue)
              (Each-weaker _ (λ (q : Queued). CollectableIn k q.id) (due_collectable k refl refl refl refl) (filter (is_due m) m.queue) (each_filtered (QueuedOk m) (is_due m) m.queue ok.queue));
        };
      })))

  collect_moves : (p : Phase) → m.phase ≡ p → Goes (collect_in n m p)
  collect_moves Open is = collects_moves is
  collect_moves (Switching s) is = rests w n m ok from heard

  module _ (filled : 1 ≤ length m.backups) where
    -- ---- a client that is gone

    -- the manager was told that a client is gone
    pub expire_moves : (client : ℕ) → WasOrdered w m.part (body.ExpireClient client) → Goes (on_expire n m client)
    expire_moves client ordered = cond_both (is_gone (state_of m).table client) _ _ Goes (λ y. rests w n m ok from heard)
        (λ y. pushes w n m ok from heard filled (Expire client) refl ordered tt (Expires client refl))

    -- ---- rounds

    sync_moves : (p : Phase) → m.phase ≡ p → Goes (sync_in n m p)
    sync_moves Open is = begins w n m ok from heard filled m (itself w n m ok from heard) (SameLog refl) (parts_of w (master_node n) m ok)
    sync_moves (Switching s) is = cond_both s.prepared _ _ Goes (λ y. prepared y)
        (λ y. begins w n m ok from heard filled m (itself w n m ok from heard) (SameLog refl) (parts_of w (master_node n) m ok))
      where
        next : Parts w m.part (next_round m)
        next = parts_round w m.part m (parts_of w (master_node n) m ok)

        prepared : s.prepared ≡ true → Goes (sends (next_round m) (prepared_message n s.version ∷ appends n (next_round m)))
        prepared y = keeps_log w n m ok from heard (next_round m) (prepared_message n s.version ∷ appends n (next_round m)) (record { version = refl; backups = refl; witnesses = refl; phase = refl; acknowledged = refl }) refl next
            (record { sender = refl; says_so = (record { s = s; switches = is; its_version = refl; prepared = y }, refl) }, appends_say w m.part n (next_round m) next)

    -- an order comes
    pub serving_ordered_moves : (order : Local) → Goes (serving_ordered n m order)
    unfolding serving_ordered
    serving_ordered_moves local.Sync = unless_ends w n m ok from heard (sync_in n m m.phase) (sync_moves m.phase refl)
    serving_ordered_moves local.Collect = collect_moves m.phase refl
    serving_ordered_moves _ = rests w n m ok from heard
