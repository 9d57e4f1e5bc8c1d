-- What a recovering master, one that serves and waits for nothing, and the manager say while a partition is recovered.
use Rattle.std.proofs.Common.{◌≡◌, ◌⊎◌, ◌==◌, ◌&&◌, ◌||◌, inl, inr, ℕ, suc, ◌-◌, Bool, true, false, List, [], ◌∷◌, ◌++◌, length, map, not, slice_get, drop, nat_lt, nat_le, Option, Some, None, refl, ap, sym, ◌∙◌, subst}
use Rattle.std.specs.Prelude.{option_and_then}
use Rattle.std.specs.Bool.{⊤}
use Rattle.std.specs.List.{filter, flat_map}
use Rattle.std.proofs.lemmas.Bool.{cond_both}
use Rattle.curp_base.specs.Cases.{only_if}
use Rattle.curp_base.specs.Words.{At, Each, numbered, rises_past}
use Rattle.curp_base.proofs.Lists.{Each-map, at_drop, at_take}
use Rattle.curp_cmd.specs.Node.{is_among, master_node, same_node}
use Rattle.curp_cmd.specs.declared.command.Request.{Request}
use Rattle.curp_cmd.specs.declared.entry.Entry.{Entry}
use Rattle.curp_cmd.specs.declared.entry.Entry.TheVariants.{Op, Take, Give, Expire}
use Rattle.curp_cmd.specs.declared.node.NodeId.{NodeId}
use Rattle.curp_msg.specs.Moved.{Moved, quiet, says, within}
use Rattle.curp_msg.specs.declared.answer.AppendAnswer.{AppendAnswer}
use Rattle.curp_msg.specs.declared.answer.AppendAnswer.TheVariants.{Stored}
use Rattle.curp_msg.specs.declared.answer.FenceReply.{FenceReply}
use Rattle.curp_msg.specs.declared.answer.FenceReply.TheVariants as fence
use Rattle.curp_msg.specs.declared.body.Adopted.{Adopted}
use Rattle.curp_msg.specs.declared.body.Appended.{Appended}
use Rattle.curp_msg.specs.declared.body.FenceAnswer.{FenceAnswer}
use Rattle.curp_msg.specs.declared.body.Body.{Body}
use Rattle.curp_msg.specs.declared.body.Body.TheVariants as body
use Rattle.curp_msg.specs.declared.body.Recover.{Recover}
use Rattle.curp_msg.specs.declared.body.Recovered.{Recovered}
use Rattle.curp_msg.specs.declared.config.PartConfig.{PartConfig}
use Rattle.curp_msg.specs.declared.message.Message.{Message}
use Rattle.curp_facts.specs.Facts.{IsAmong}
use Rattle.curp_model.specs.Log.{is_log, IsOp}
use Rattle.curp_model.specs.Manager as manager
use Rattle.curp_model.specs.Manager.{Attempted, Doing, ManagerState, adopted_at, attempt_at, finished, on_manager, on_recovered, part_at, recovered_in, tells_again}
use Rattle.curp_model.specs.Master.{Acknowledged, Captured, MasterState, Open, Phase, Switching, adopted_in, between, by_message, goes_on, is_ready, last_round, moved_entry, on_appended, on_serving, raised, settle, stored_on, synced, synced_reply, value_of}
use Rattle.curp_model.specs.Recovery.{Asking, Fresh, Recovering, RecoveryPhase, RecoveryState, Replayed, Serving, Storing, Waiting, append_answered, both_there, completed_by, fence_answered, log_comes, on_master, on_recover, replay, requests_come, stored_comes, with_complete, all_complete}
use Rattle.curp_law_kept.proofs.Gives.{each_among}
use Rattle.curp_law_served.specs.Renews.{RenewFits, ServesIdle, renewed}

module _ (S : Type 0) (q : ℕ) (o : Recover) (part : o.part ≡ 1) where
  abbrev pub Fit : Message → Type 0
  Fit y = RenewFits S q o y.from y.to y.body

  -- ---- a recovering master

  pub ordered_said : Each Fit (on_recover q o).messages
  unfolding on_recover
  ordered_said = ((refl, refl, refl), ((refl, refl, refl), tt))

  both_said : (log : Option (List Entry)) (rs : Option (List Request)) → Each Fit (both_there q o log rs).messages
  both_said (Some log) (Some rs) = Each-map Fit (λ to. says (master_node q) to (body.Append (record { epoch = o.epoch; base = 0; round = 1; entries = replay o.lo o.hi log rs }))) o.backups
      (each_among (λ to. (master_node q ≡ master_node q) × IsAmong to o.backups × (o.epoch ≡ o.epoch) × (0 ≡ 0)) o.backups (λ to a. (refl, a, refl, refl)))
  both_said None rs = tt
  both_said (Some log) None = tt

  both_by : (s : RecoveryState) → s.order ≡ o → (log : Option (List Entry)) (rs : Option (List Request))
      → Each Fit (both_there q s.order log rs).messages
  both_by s same log rs = subst (λ (k : Recover). Each Fit (both_there q k log rs).messages) (sym same) (both_said log rs)

  pub fence_said : (s : RecoveryState) → s.order ≡ o → (from : NodeId) (a : FenceReply)
      → Each Fit (fence_answered q s from a).messages
  fence_said s same from (fence.Fenced k) = tt
  fence_said s same from (fence.Log entries) = by s.phase
    where
      by : (p : RecoveryPhase) → Each Fit (log_comes q s from entries p).messages
      by (Asking None rs) = cond_both (same_node from s.order.backup && is_log s.order.lo s.order.hi entries) _ _ (λ (r : Moved RecoveryState). Each Fit r.messages) (λ y. both_by s same (Some entries) rs) (λ n. tt)
      by (Asking (Some l) rs) = tt
      by (Storing r) = tt
      by (Waiting r) = tt

  pub freeze_said : (s : RecoveryState) → s.order ≡ o → (from : NodeId) (rs : List Request)
      → Each Fit (requests_come q s from rs s.phase).messages
  freeze_said s same from rs = by s.phase
    where
      by : (p : RecoveryPhase) → Each Fit (requests_come q s from rs p).messages
      by (Asking log None) = cond_both (same_node from s.order.witness) _ _ (λ (r : Moved RecoveryState). Each Fit r.messages) (λ y. both_by s same log (Some rs)) (λ n. tt)
      by (Asking log (Some l)) = tt
      by (Storing r) = tt
      by (Waiting r) = tt

  completed_said : (r : Replayed) → Each Fit (completed_by q o r).messages
  completed_said r = cond_both (all_complete o r) _ _ (λ (k : Moved RecoveryState). Each Fit k.messages) (λ y. ((refl, part, refl), tt)) (λ n. tt)

  pub stored_said : (s : RecoveryState) → s.order ≡ o → (from : NodeId) (a : AppendAnswer)
      → Each Fit (append_answered q s from a).messages
  stored_said s same from (Stored long) = by s.phase
    where
      by : (p : RecoveryPhase) → Each Fit (stored_comes q s from long p).messages
      by (Asking log rs) = tt
      by (Storing r) = cond_both (is_among from s.order.backups && nat_le (length r.log) long) _ _ (λ (k : Moved RecoveryState). Each Fit k.messages)
          (λ y. subst (λ (k : Recover). Each Fit (completed_by q k (with_complete r from)).messages) (sym same) (completed_said (with_complete r from))) (λ n. tt)
      by (Waiting r) = tt
  stored_said s same from _ = tt

-- what comes to a master, an adoption aside
abbrev pub IsWaited : Body → Type 0
IsWaited (body.FenceAnswer a) = ⊤
IsWaited (body.FrozenAnswer rs) = ⊤
IsWaited (body.Appended a) = ⊤
IsWaited (body.Recover r) = ⊤
IsWaited _ = ⊥

abbrev pub NotOrder : Body → Type 0
NotOrder (body.Recover r) = ⊥
NotOrder _ = ⊤

-- what comes to a master
abbrev pub IsMasters : Body → Type 0
IsMasters (body.FenceAnswer a) = ⊤
IsMasters (body.FrozenAnswer rs) = ⊤
IsMasters (body.Appended a) = ⊤
IsMasters (body.Recover r) = ⊤
IsMasters (body.Adopted a) = ⊤
IsMasters _ = ⊥

-- one that waits stays so
waiting_fence : (q : ℕ) (s : RecoveryState) (r : Replayed) (from : NodeId) (a : FenceReply) → s.phase ≡ Waiting r
    → fence_answered q s from a ≡ quiet s
waiting_fence q s r from (fence.Log entries) is = ap (log_comes q s from entries) is
waiting_fence q s r from (fence.Fenced k) is = refl

waiting_stored : (q : ℕ) (s : RecoveryState) (r : Replayed) (from : NodeId) (a : AppendAnswer) → s.phase ≡ Waiting r
    → append_answered q s from a ≡ quiet s
waiting_stored q s r from (Stored long) is = ap (stored_comes q s from long) is
waiting_stored q s r from _ is = refl

-- by the message
pub on_waiting : (q : ℕ) (s : RecoveryState) (r : Replayed) (from : NodeId) (b : Body) → s.phase ≡ Waiting r
    → IsWaited b → on_master q (Recovering s) from b ≡ quiet (Recovering s)
unfolding on_master
on_waiting q s r from (body.FenceAnswer a) is h = ap (within Recovering) (waiting_fence q s r from a.answer is)
on_waiting q s r from (body.FrozenAnswer rs) is h = ap (within Recovering) (ap (requests_come q s from rs) is)
on_waiting q s r from (body.Appended a) is h = ap (within Recovering) (waiting_stored q s r from a.answer is)
on_waiting q s r from (body.Recover k) is h = refl
on_waiting q s r from _ is h = absurd h

-- a fresh master hears its order alone
pub on_fresh_other : (q : ℕ) (from : NodeId) (b : Body) → IsWaited b → NotOrder b
    → on_master q Fresh from b ≡ quiet Fresh
unfolding on_master
on_fresh_other q from (body.FenceAnswer a) h k = refl
on_fresh_other q from (body.FrozenAnswer rs) h k = refl
on_fresh_other q from (body.Appended a) h k = refl
on_fresh_other q from (body.Recover r) h k = absurd k
on_fresh_other q from _ h k = absurd h

pub fresh_adopted : (q : ℕ) (from : NodeId) (a : Adopted) → on_master q Fresh from (body.Adopted a) ≡ quiet Fresh
unfolding on_master
fresh_adopted q from a = refl

pub fresh_ordered : (q : ℕ) (from : NodeId) (o : Recover)
    → on_master q Fresh from (body.Recover o) ≡ within Recovering (on_recover q o)
unfolding on_master
fresh_ordered q from o = refl

pub recovering_fence : (q : ℕ) (s : RecoveryState) (from : NodeId) (a : FenceAnswer)
    → on_master q (Recovering s) from (body.FenceAnswer a) ≡ within Recovering (fence_answered q s from a.answer)
unfolding on_master
recovering_fence q s from a = refl

pub recovering_freeze : (q : ℕ) (s : RecoveryState) (from : NodeId) (rs : List Request)
    → on_master q (Recovering s) from (body.FrozenAnswer rs) ≡ within Recovering (requests_come q s from rs s.phase)
unfolding on_master
recovering_freeze q s from rs = refl

pub recovering_stored : (q : ℕ) (s : RecoveryState) (from : NodeId) (a : Appended)
    → on_master q (Recovering s) from (body.Appended a) ≡ within Recovering (append_answered q s from a.answer)
unfolding on_master
recovering_stored q s from a = refl

pub recovering_order : (q : ℕ) (s : RecoveryState) (from : NodeId) (r : Recover)
    → on_master q (Recovering s) from (body.Recover r) ≡ quiet (Recovering s)
unfolding on_master
recovering_order q s from r = refl

-- ---- a master that serves and waits for nothing

-- it stays so, and says nothing
pub record StaysIdle (o : Recover) (r : Moved MasterState) : Type 0 where
  pub idle : ServesIdle r.state o
  pub silent : r.messages ≡ []

no_moves : (n : ℕ) (xs : List Entry) → ((k : ℕ) (e : Entry) → At xs k e → IsOp e) → flat_map (moved_entry n) xs ≡ []
no_moves n [] ops = refl
no_moves n (e ∷ es) ops = one e (ops 0 e refl) ∙ no_moves n es (λ k d at. ops (suc k) d at)
  where
    one : (e : Entry) → IsOp e → (moved_entry n e ++ flat_map (moved_entry n) es) ≡ flat_map (moved_entry n) es
    one (Op r acknowledged) op = refl
    one (Take migration taken) op = absurd op
    one (Give migration given) op = absurd op
    one (Expire client) op = absurd op

module _ (q : ℕ) (o : Recover) (m : MasterState) (idle : ServesIdle m o)
    (ops : (index : ℕ) (e : Entry) → At m.log index e → IsOp e) where
  quiet_idle : StaysIdle o (quiet m)
  quiet_idle = record { idle = idle; silent = refl }

  settles_idle : (acks : List Acknowledged) → StaysIdle o (settle q (record m { acknowledged = acks }))
  unfolding settle
  settles_idle acks =
      let k : MasterState = record m { acknowledged = acks } in
      record {
        idle = record {
          held = ap (λ (h : List ℕ). filter (λ index. not (nat_lt index (synced k))) h) idle.held;
          captures = ap (λ (h : List Captured). filter (λ c. not (is_ready k c)) h) idle.captures;
          serves = idle.serves;
          epoch = idle.epoch;
          version = idle.version;
          backups = idle.backups;
          witnesses = idle.witnesses;
        };
        silent = ap (λ (h : List ℕ). (flat_map (λ (index : ℕ). synced_reply q k index (slice_get k.log index)) (filter (λ index. nat_lt index (synced k)) h) ++ map (value_of q k) (filter (is_ready k) m.captures)) ++ flat_map (moved_entry q) (between m.settled (synced k) m.log)) idle.held
            ∙ ap (λ (h : List Captured). map (value_of q k) (filter (is_ready k) h) ++ flat_map (moved_entry q) (between m.settled (synced k) m.log)) idle.captures
            ∙ no_moves q (between m.settled (synced k) m.log) (λ j e at.
            let t = at_take (synced k - m.settled) (drop m.settled m.log) j e at in
            let d = at_drop m.settled m.log j e t.1 in
            ops d.0 e d.2);
      }

  goes_idle : (acks : List Acknowledged) (p : Phase) → p ≡ Open
      → StaysIdle o (goes_on q (record m { acknowledged = acks }) p)
  goes_idle acks Open e = settles_idle acks
  goes_idle acks (Switching s) e = absurd cc

  stored_idle : (from : NodeId) (round : ℕ) (a : AppendAnswer) → StaysIdle o (on_appended q m from round a)
  unfolding on_appended
  stored_idle from round (Stored long) = cond_both (is_among from (stored_on m)) _ _ (StaysIdle o) (λ y. goes_idle (raised m.acknowledged from long round) m.phase idle.serves) (λ n. quiet_idle)
  stored_idle from round _ = quiet_idle

  adopted_idle : (version : ℕ) (p : Phase) → p ≡ Open → StaysIdle o (adopted_in q m version p)
  adopted_idle version Open e = quiet_idle
  adopted_idle version (Switching s) e = absurd cc

  message_idle : (from : NodeId) (b : Body) → IsMasters b → StaysIdle o (by_message q m from b)
  message_idle from (body.Appended a) h = stored_idle from a.round a.answer
  message_idle from (body.Adopted a) h = adopted_idle a.version m.phase idle.serves
  message_idle from (body.FenceAnswer a) h = quiet_idle
  message_idle from (body.FrozenAnswer rs) h = quiet_idle
  message_idle from (body.Recover r) h = quiet_idle
  message_idle from _ h = absurd h

  pub serving_idle : (from : NodeId) (b : Body) → IsMasters b → StaysIdle o (on_serving q m from b)
  unfolding on_serving
  serving_idle from b h = cond_both (rises_past last_round m.round (by_message q m from b).state.round || rises_past last_round m.captured (by_message q m from b).state.captured) _ _ (StaysIdle o) (λ y. quiet_idle) (λ n. message_idle from b h)

pub on_serving_stage : (q : ℕ) (m : MasterState) (from : NodeId) (b : Body)
    → on_master q (Serving m) from b ≡ within Serving (on_serving q m from b)
unfolding on_master
on_serving_stage q m from b = refl

-- ---- the manager, once it is steady

module _ (S : Type 0) (now : S) (g : ManagerState) (c : PartConfig) (q : ℕ) (o : Recover)
    (parts : g.config.parts ≡ renewed c q o ∷ []) (doing : g.doing ≡ manager.Steady ∷ []) where
  r : Recovered
  r = record { part = 1; epoch = o.epoch }

  not_finished : finished g (record { part = 1; epoch = o.epoch }) ≡ None
  not_finished = ap (λ (x : Option PartConfig). option_and_then (λ (k : PartConfig). attempt_at o.epoch (numbered g.doing 1)) x) (ap (λ (l : List PartConfig). numbered l 1) parts)
      ∙ ap (λ (l : List Doing). attempt_at o.epoch (numbered l 1)) doing

  -- it changes nothing, and may tell again
  pub record TellsAgain (k : Moved ManagerState) : Type 0 where
    pub same : k.state ≡ g
    pub said : Each (λ (y : Message). RenewFits S q o y.from y.to y.body) k.messages

  told : (x : Option PartConfig) → (x ≡ None) ⊎ (x ≡ Some (renewed c q o)) → TellsAgain (tells_again g x)
  told None e = record { same = refl; said = tt }
  told (Some k) (inl e) = absurd cc
  told (Some k) (inr e) = record { same = refl; said = ((ap (λ (z : PartConfig). z.master) (some_same e), now), tt) }
    where
      some_same : Some k ≡ Some (renewed c q o) → k ≡ renewed c q o
      some_same e = cc

  adopted_is : (adopted_at g (record { part = 1; epoch = o.epoch }) ≡ None) ⊎ (adopted_at g (record { part = 1; epoch = o.epoch }) ≡ Some (renewed c q o))
  adopted_is = subst (λ (l : List PartConfig). (option_and_then (λ (k : PartConfig). only_if (k.epoch == o.epoch) k) (numbered l 1) ≡ None) ⊎ (option_and_then (λ (k : PartConfig). only_if (k.epoch == o.epoch) k) (numbered l 1) ≡ Some (renewed c q o))) (sym parts) (by (o.epoch == o.epoch))
    where
      by : (t : Bool) → (only_if t (renewed c q o) ≡ None) ⊎ (only_if t (renewed c q o) ≡ Some (renewed c q o))
      by true = inr refl
      by false = inl refl

  pub recovered_again : (from : NodeId)
      → TellsAgain (on_manager g from (body.Recovered (record { part = 1; epoch = o.epoch })))
  unfolding on_manager on_recovered
  recovered_again from = cond_both _ _ _ TellsAgain (λ y. record { same = refl; said = tt })
      (λ n. subst (λ (x : Option Attempted). TellsAgain (recovered_in g (record { part = 1; epoch = o.epoch }) x (part_at g 1))) (sym not_finished) (told (adopted_at g (record { part = 1; epoch = o.epoch })) adopted_is))
