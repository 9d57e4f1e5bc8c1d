-- The fresh master of a recovery goes on, whatever of its kinds is delivered to it.
use Rattle.std.proofs.Common.{◌≡◌, ◌≤◌, ◌⊎◌, ◌&&◌, ◌||◌, inl, inr, ℕ, Bool, true, false, cond, List, [], ◌∷◌, ◌++◌, length, nat_le, Option, Some, None, refl, sym, subst, arith}
use Rattle.std.specs.List.{list_all, list_any}
use Rattle.std.proofs.lemmas.Bool.{and_from, cond_both, le-leb, or_left, or_right}
use Rattle.curp_base.specs.Words.{Each}
use Rattle.curp_base.proofs.Lists.{Each-weaker}
use Rattle.curp_cmd.specs.Node.{is_among, master_node, same_node}
use Rattle.curp_cmd.specs.declared.command.Request.{Request}
use Rattle.curp_cmd.specs.declared.entry.Entry.{Entry}
use Rattle.curp_cmd.specs.declared.node.NodeId.{NodeId}
use Rattle.curp_cmd.proofs.Nodes.{same_node-self}
use Rattle.curp_msg.specs.Moved.{Moved, quiet, says, sends}
use Rattle.curp_msg.specs.declared.answer.AppendAnswer.{AppendAnswer}
use Rattle.curp_msg.specs.declared.answer.AppendAnswer.TheVariants.{Stored, Fenced, Gap, NotInstalled}
use Rattle.curp_msg.specs.declared.answer.FenceReply.{FenceReply}
use Rattle.curp_msg.specs.declared.answer.FenceReply.TheVariants as fence
use Rattle.curp_msg.specs.declared.body.Appended.{Appended}
use Rattle.curp_msg.specs.declared.body.Body.{Body}
use Rattle.curp_msg.specs.declared.body.Body.TheVariants as body
use Rattle.curp_msg.specs.declared.body.FenceAnswer.{FenceAnswer}
use Rattle.curp_msg.specs.declared.body.Recover.{Recover}
use Rattle.curp_msg.specs.declared.message.Message.{Message}
use Rattle.curp_facts.specs.Facts.{IsAmong}
use Rattle.curp_model.specs.Log.{is_log}
use Rattle.curp_model.specs.Recovery.{Asking, RecoveryPhase, RecoveryState, Replayed, Storing, Waiting, all_complete, append_answered, both_there, completed_by, fence_answered, log_comes, on_recover, recovered_message, replay, requests_come, stored_comes, with_complete}
use Rattle.curp_law_kept.proofs.Gives.{each_among}
use Rattle.curp_law_served.specs.Recovers.{ComesLog, ComesRequests, CompletesBackup, Fences, AsksToFreeze, GivesLog, GivesRequests, IsGivenLog, PhaseGoes, TellsRecovered}
use Rattle.curp_law_served.specs.Ways.{Appends, AnswersStored, OnWay, Stores}
use Rattle.curp_law_served.proofs.Lists.{all_tested, among_first, among_later, among_map, each_of}
use Rattle.curp_law_served.proofs.Settles.{is_found}
use Rattle.curp_law_served.proofs.Ways as ways

-- all that it sends is on its way
abbrev AllGo : (Message → Type 0) → Moved RecoveryState → Type 0
AllGo E r = (x : Message) → IsAmong x r.messages → E x

-- it goes on by its order
abbrev pub Goes : (Message → Type 0) → ℕ → Recover → Moved RecoveryState → Type 0
Goes E q o r = (r.state.order ≡ o) × PhaseGoes E q o r.state.phase

-- a list that isn't empty isn't complete where nothing is
none_complete : (backups : List NodeId) → 1 ≤ length backups → list_all (λ (b : NodeId). is_among b []) backups ≡ false
none_complete [] some = absurd (omega (arith, some))
none_complete (b ∷ rest) some = refl

module _ (E : Message → Type 0) (q : ℕ) (o : Recover) (filled : 1 ≤ length o.backups) where
  -- it takes its order
  pub ordered : AllGo E (on_recover q o) → Goes E q o (on_recover q o)
  unfolding on_recover
  ordered sent = (refl, (inl (_, sent _ (among_first _ _), (refl, refl, refl)), inl (_, sent _ (among_later _ _ _ (among_first _ _)), (refl, refl)), tt))

  -- both answers are there: it stores
  stores : (log : List Entry) (requests : List Request) → AllGo E (both_there q o (Some log) (Some requests))
      → Goes E q o (both_there q o (Some log) (Some requests))
  stores log requests sent =
      let r : Replayed = record { log = replay o.lo o.hi log requests; cut = length log; round = 1; complete = [] } in (
        refl,
        (
          none_complete o.backups filled,
          each_among (CompletesBackup E q o r) o.backups (λ b among.
              inr (inl (_, sent _ (among_map (λ to. says (master_node q) to (body.Append (record { epoch = o.epoch; base = 0; round = 1; entries = r.log }))) b o.backups among), (refl, refl, omega arith, omega arith)))),
        ),
      )

  -- or not yet
  both : (log : Option (List Entry)) (requests : Option (List Request)) → ComesLog E q o log
      → ComesRequests E q o requests → AllGo E (both_there q o log requests)
      → Goes E q o (both_there q o log requests)
  both (Some log) (Some requests) l r sent = stores log requests sent
  both None requests l r sent = (refl, (l, r, tt))
  both (Some log) None l r sent = (refl, (l, r, tt))

module _ (D E : Message → Type 0) (q : ℕ) (o : Recover) (filled : 1 ≤ length o.backups) (from to : NodeId) (b : Body)
    (split : (x : Message) → D x → (x ≡ says from to b) ⊎ E x) where
  -- ---- what isn't delivered goes on

  pub log_on : (Fences q o from to b → ⊥) → (GivesLog q o from to b → ⊥) → (log : Option (List Entry))
      → ComesLog D q o log → ComesLog E q o log
  log_on f g None (inl w) = inl (ways.carry D E from to b split (Fences q o) f w)
  log_on f g None (inr w) = inr (ways.carry D E from to b split (GivesLog q o) g w)
  log_on f g (Some log) c = tt

  pub requests_on : (AsksToFreeze q o from to b → ⊥) → (GivesRequests q o from to b → ⊥)
      → (requests : Option (List Request)) → ComesRequests D q o requests → ComesRequests E q o requests
  requests_on f g None (inl w) = inl (ways.carry D E from to b split (AsksToFreeze q o) f w)
  requests_on f g None (inr w) = inr (ways.carry D E from to b split (GivesRequests q o) g w)
  requests_on f g (Some requests) c = tt

  pub completes_on : ((k : NodeId) (long : ℕ) → Appends o.epoch k long 0 from to b → ⊥)
      → ((k : NodeId) (long : ℕ) → Stores q k long 0 from to b → ⊥) → (r : Replayed) (k : NodeId)
      → CompletesBackup D q o r k → CompletesBackup E q o r k
  completes_on f g r k (inl did) = inl did
  completes_on f g r k (inr (inl w)) = inr (inl (ways.carry D E from to b split (Appends o.epoch k (length r.log) 0) (f k (length r.log)) w))
  completes_on f g r k (inr (inr w)) = inr (inr (ways.carry D E from to b split (Stores q k (length r.log) 0) (g k (length r.log)) w))

  -- a message that is none of these
  pub record NoStep : Type 0 where
    pub fences : Fences q o from to b → ⊥
    pub logs : GivesLog q o from to b → ⊥
    pub freezes : AsksToFreeze q o from to b → ⊥
    pub requests : GivesRequests q o from to b → ⊥
    pub appends : (k : NodeId) (long : ℕ) → Appends o.epoch k long 0 from to b → ⊥
    pub stored : (k : NodeId) (long : ℕ) → Stores q k long 0 from to b → ⊥
    pub told : TellsRecovered o from to b → ⊥

  pub phase_on : NoStep → (p : RecoveryPhase) → PhaseGoes D q o p → PhaseGoes E q o p
  phase_on s (Asking log requests) g = (log_on s.fences s.logs log g.0, requests_on s.freezes s.requests requests g.1, g.2)
  phase_on s (Storing r) g = (g.0, Each-weaker (CompletesBackup D q o r) (CompletesBackup E q o r) (completes_on s.appends s.stored r) o.backups g.1)
  phase_on s (Waiting r) g = ways.carry D E from to b split (TellsRecovered o) s.told g

-- ---- the log comes

module _ (D E : Message → Type 0) (q : ℕ) (o : Recover) (filled : 1 ≤ length o.backups) (from to : NodeId)
    (a : FenceAnswer) (split : (x : Message) → D x → (x ≡ says from to (body.FenceAnswer a)) ⊎ E x) where
  still_logs : (log : Option (List Entry))
      → (GivesLog q o from to (body.FenceAnswer a) → ⊥) ⊎ ((l : List Entry) × (log ≡ Some l)) → ComesLog D q o log
      → ComesLog E q o log
  still_logs (Some l) w c = tt
  still_logs None (inl other) c = log_on D E q o filled from to (body.FenceAnswer a) split (λ z. z) other None c
  still_logs None (inr is) c = absurd (cc (is.1))

  asks_on : (log : Option (List Entry)) (requests : Option (List Request))
      → (GivesLog q o from to (body.FenceAnswer a) → ⊥) ⊎ ((l : List Entry) × (log ≡ Some l))
      → PhaseGoes D q o (Asking log requests) → PhaseGoes E q o (Asking log requests)
  asks_on log requests w g = (still_logs log w g.0, requests_on D E q o filled from to (body.FenceAnswer a) split (λ z. z) (λ z. z) requests g.1, g.2)

  others_on : (p : RecoveryPhase) → PhaseGoes D q o p
      → ((log : Option (List Entry)) (requests : Option (List Request)) → p ≡ Asking log requests → ⊥)
      → PhaseGoes E q o p
  others_on (Asking log requests) g no_asking = absurd (no_asking log requests refl)
  others_on (Storing r) g no_asking = (g.0, Each-weaker (CompletesBackup D q o r) (CompletesBackup E q o r) (completes_on D E q o filled from to (body.FenceAnswer a) split (λ k l z. z) (λ k l z. z) r) o.backups g.1)
  others_on (Waiting r) g no_asking = ways.carry D E from to (body.FenceAnswer a) split (TellsRecovered o) (λ z. z) g

  pub log_goes : (s : RecoveryState) → s.order ≡ o → PhaseGoes D q o s.phase
      → AllGo E (fence_answered q s from a.answer) → Goes E q o (fence_answered q s from a.answer)
  log_goes s same goes sent = by a.answer refl sent
    where
      rests_in : (p : RecoveryPhase) → s.phase ≡ p → PhaseGoes E q o p → Goes E q o (quiet s)
      rests_in p e g = (same, subst (PhaseGoes E q o) (sym e) g)

      asking : (entries : List Entry) → a.answer ≡ fence.Log entries → (requests : Option (List Request))
          → s.phase ≡ Asking None requests → PhaseGoes D q o (Asking None requests) → (t : Bool)
          → (same_node from s.order.backup && is_log s.order.lo s.order.hi entries) ≡ t
          → AllGo E (cond t (both_there q s.order (Some entries) requests) (quiet s)) → Goes E q o (cond t (both_there q s.order (Some entries) requests) (quiet s))
      asking entries is requests e g true y sent = subst (λ (k : Recover). AllGo E (both_there q k (Some entries) requests) → Goes E q o (both_there q k (Some entries) requests)) (sym same)
          (both E q o filled (Some entries) requests tt (requests_on D E q o filled from to (body.FenceAnswer a) split (λ z. z) (λ z. z) requests g.1)) sent
      asking entries is requests e g false n sent = rests_in (Asking None requests) e (asks_on None requests (inl other) g)
        where
          other : GivesLog q o from to (body.FenceAnswer a) → ⊥
          other it =
              let given : is_log o.lo o.hi entries ≡ true = subst (IsGivenLog o) is it.2 in
              let both_hold : (same_node from o.backup && is_log o.lo o.hi entries) ≡ true = and_from _ _ (subst (λ (z : NodeId). same_node from z ≡ true) it.0 (same_node-self from)) given in
              let here : (same_node from s.order.backup && is_log s.order.lo s.order.hi entries) ≡ true = subst (λ (k : Recover). (same_node from k.backup && is_log k.lo k.hi entries) ≡ true) (sym same) both_hold in
              cc (n, here)

      comes : (entries : List Entry) → a.answer ≡ fence.Log entries → (p : RecoveryPhase) → s.phase ≡ p
          → PhaseGoes D q o p → AllGo E (log_comes q s from entries p) → Goes E q o (log_comes q s from entries p)
      comes entries is (Asking None requests) e g sent = asking entries is requests e g _ refl sent
      comes entries is (Asking (Some l) requests) e g sent = rests_in (Asking (Some l) requests) e (asks_on (Some l) requests (inr (l, refl)) g)
      comes entries is (Storing r) e g sent = rests_in (Storing r) e (others_on (Storing r) g (λ l k z. absurd cc))
      comes entries is (Waiting r) e g sent = rests_in (Waiting r) e (others_on (Waiting r) g (λ l k z. absurd cc))

      refused_on : (p : RecoveryPhase) → s.phase ≡ p → (IsGivenLog o a.answer → ⊥) → PhaseGoes D q o p
          → Goes E q o (quiet s)
      refused_on (Asking log requests) e none g = rests_in (Asking log requests) e (asks_on log requests (inl (λ it. none it.2)) g)
      refused_on (Storing r) e none g = rests_in (Storing r) e (others_on (Storing r) g (λ l k z. absurd cc))
      refused_on (Waiting r) e none g = rests_in (Waiting r) e (others_on (Waiting r) g (λ l k z. absurd cc))

      by : (f : FenceReply) → a.answer ≡ f → AllGo E (fence_answered q s from f)
          → Goes E q o (fence_answered q s from f)
      by (fence.Log entries) is sent = comes entries is s.phase refl goes sent
      by (fence.Fenced k) is sent = refused_on s.phase refl (λ given. subst (IsGivenLog o) is given) goes

-- ---- a fresh backup has the whole log

-- a backup that is complete stays so
complete_stays : (r : Replayed) (from b : NodeId) → is_among b r.complete ≡ true
    → is_among b (with_complete r from).complete ≡ true
complete_stays r from b e = cond_both (is_among from r.complete) _ _ (λ (k : Replayed). is_among b k.complete ≡ true) (λ y. e) (λ n. more r.complete e)
  where
    more : (xs : List NodeId) → is_among b xs ≡ true → is_among b (xs ++ from ∷ []) ≡ true
    more [] e = absurd cc
    more (x ∷ xs) e = by (same_node b x) e (more xs)
      where
        by : (t : Bool) → (t || list_any (same_node b) xs) ≡ true
            → (is_among b xs ≡ true → is_among b (xs ++ from ∷ []) ≡ true)
            → (t || list_any (same_node b) (xs ++ from ∷ [])) ≡ true
        by true e up = refl
        by false e up = up e

-- the one that tells so is complete
complete_own : (r : Replayed) (from : NodeId) → is_among from (with_complete r from).complete ≡ true
complete_own r from = by (is_among from r.complete) refl
  where
    last : (xs : List NodeId) → is_among from (xs ++ from ∷ []) ≡ true
    last [] = or_left _ false (same_node-self from)
    last (x ∷ xs) = or_right _ _ (last xs)

    by : (t : Bool) → is_among from r.complete ≡ t
        → is_among from (cond t r (record r { complete = r.complete ++ from ∷ [] })).complete ≡ true
    by true e = e
    by false e = last r.complete

module _ (D E : Message → Type 0) (q : ℕ) (o : Recover) (filled : 1 ≤ length o.backups) (from to : NodeId)
    (a : Appended) (split : (x : Message) → D x → (x ≡ says from to (body.Appended a)) ⊎ E x) where
  other_phase : (p : RecoveryPhase) → ((r : Replayed) → p ≡ Storing r → ⊥) → PhaseGoes D q o p → PhaseGoes E q o p
  other_phase (Asking log requests) none g = (log_on D E q o filled from to (body.Appended a) split (λ z. z) (λ z. z) log g.0, requests_on D E q o filled from to (body.Appended a) split (λ z. z) (λ z. z) requests g.1, g.2)
  other_phase (Storing r) none g = absurd (none r refl)
  other_phase (Waiting r) none g = ways.carry D E from to (body.Appended a) split (TellsRecovered o) (λ z. z) g

  -- a backup tells of too few entries, or is none of them
  rests_on : (r : Replayed)
      → ((k : NodeId) → IsAmong k o.backups → Stores q k (length r.log) 0 from to (body.Appended a) → ⊥)
      → PhaseGoes D q o (Storing r) → PhaseGoes E q o (Storing r)
  rests_on r none g = (g.0, each_among (CompletesBackup E q o r) o.backups (λ k among. one k among (Each-of k among)))
    where
      Each-of : (k : NodeId) → IsAmong k o.backups → CompletesBackup D q o r k
      Each-of k among = each_of (CompletesBackup D q o r) o.backups g.1 k among

      one : (k : NodeId) → IsAmong k o.backups → CompletesBackup D q o r k → CompletesBackup E q o r k
      one k among (inl did) = inl did
      one k among (inr (inl w)) = inr (inl (ways.carry D E from to (body.Appended a) split (Appends o.epoch k (length r.log) 0) (λ z. z) w))
      one k among (inr (inr w)) = inr (inr (ways.carry D E from to (body.Appended a) split (Stores q k (length r.log) 0) (none k among) w))

  -- it has the whole log: it is complete from now on
  more_complete : (r : Replayed) → PhaseGoes D q o (Storing r) → Each (CompletesBackup E q o (with_complete r from)) o.backups
  more_complete r g = each_among (CompletesBackup E q o (with_complete r from)) o.backups (λ k among. one k (each_of (CompletesBackup D q o r) o.backups g.1 k among))
    where
      same_log : (with_complete r from).log ≡ r.log
      same_log = cond_both (is_among from r.complete) _ _ (λ (k : Replayed). k.log ≡ r.log) (λ y. refl) (λ n. refl)

      one : (k : NodeId) → CompletesBackup D q o r k → CompletesBackup E q o (with_complete r from) k
      one k (inl did) = inl (complete_stays r from k did)
      one k (inr (inl w)) = inr (inl (subst (λ (l : List Entry). OnWay E (Appends o.epoch k (length l) 0)) (sym same_log) (ways.carry D E from to (body.Appended a) split (Appends o.epoch k (length r.log) 0) (λ z. z) w)))
      one k (inr (inr w)) = elim (ways.meets D E from to (body.Appended a) split (Stores q k (length r.log) 0) w) [
        | inl it ↦ inl (subst (λ (z : NodeId). is_among z (with_complete r from).complete ≡ true) it.0 (complete_own r from))
        | inr later ↦ inr (inr (subst (λ (l : List Entry). OnWay E (Stores q k (length l) 0)) (sym same_log) later))
      ]

  completes : (k : Replayed) → Each (CompletesBackup E q o k) o.backups → AllGo E (completed_by q o k)
      → Goes E q o (completed_by q o k)
  completes k all sent = by (all_complete o k) refl sent
    where
      by : (t : Bool) → all_complete o k ≡ t
          → AllGo E (cond t (sends (record { order = o; phase = Waiting k }) (recovered_message q o)) (quiet (record { order = o; phase = Storing k })))
          → Goes E q o (cond t (sends (record { order = o; phase = Waiting k }) (recovered_message q o)) (quiet (record { order = o; phase = Storing k })))
      by true e sent = (refl, (_, sent _ (among_first _ []), (refl, refl, refl)))
      by false e sent = (refl, (e, all))

  pub stored_goes : (s : RecoveryState) → s.order ≡ o → PhaseGoes D q o s.phase
      → AllGo E (append_answered q s from a.answer) → Goes E q o (append_answered q s from a.answer)
  stored_goes s same goes sent = by a.answer refl sent
    where
      rests_in : (p : RecoveryPhase) → s.phase ≡ p → PhaseGoes E q o p → Goes E q o (quiet s)
      rests_in p e g = (same, subst (PhaseGoes E q o) (sym e) g)

      tested : (long : ℕ) → a.answer ≡ Stored long → (r : Replayed) → s.phase ≡ Storing r
          → PhaseGoes D q o (Storing r) → (t : Bool)
          → (is_among from s.order.backups && nat_le (length r.log) long) ≡ t
          → AllGo E (cond t (completed_by q s.order (with_complete r from)) (quiet s)) → Goes E q o (cond t (completed_by q s.order (with_complete r from)) (quiet s))
      tested long is r e g true y sent = subst (λ (k : Recover). AllGo E (completed_by q k (with_complete r from)) → Goes E q o (completed_by q k (with_complete r from))) (sym same)
          (completes (with_complete r from) (more_complete r g)) sent
      tested long is r e g false n sent = rests_in (Storing r) e (rests_on r none g)
        where
          none : (k : NodeId) → IsAmong k o.backups → Stores q k (length r.log) 0 from to (body.Appended a) → ⊥
          none k among it =
              let has : (length r.log ≤ long) × (0 ≤ a.round) = subst (λ (z : AppendAnswer). AnswersStored (length r.log) 0 a.round z) is it.2 in
              let found : is_among from o.backups ≡ true = subst (λ (z : NodeId). is_among z o.backups ≡ true) (sym it.0) (is_found k o.backups among) in
              let here : (is_among from s.order.backups && nat_le (length r.log) long) ≡ true =
              subst (λ (k : Recover). (is_among from k.backups && nat_le (length r.log) long) ≡ true) (sym same) (and_from _ _ found (le-leb (length r.log) long has.0)) in
              cc (n, here)

      comes : (long : ℕ) → a.answer ≡ Stored long → (p : RecoveryPhase) → s.phase ≡ p → PhaseGoes D q o p
          → AllGo E (stored_comes q s from long p) → Goes E q o (stored_comes q s from long p)
      comes long is (Asking log requests) e g sent = rests_in (Asking log requests) e (other_phase (Asking log requests) (λ r z. absurd cc) g)
      comes long is (Storing r) e g sent = tested long is r e g _ refl sent
      comes long is (Waiting r) e g sent = rests_in (Waiting r) e (other_phase (Waiting r) (λ k z. absurd cc) g)

      refused_on : (p : RecoveryPhase) → s.phase ≡ p → ((long : ℕ) → AnswersStored long 0 a.round a.answer → ⊥)
          → PhaseGoes D q o p → Goes E q o (quiet s)
      refused_on (Asking log requests) e none g = rests_in (Asking log requests) e (other_phase (Asking log requests) (λ r z. absurd cc) g)
      refused_on (Storing r) e none g = rests_in (Storing r) e (rests_on r (λ k among it. none (length r.log) it.2) g)
      refused_on (Waiting r) e none g = rests_in (Waiting r) e (other_phase (Waiting r) (λ k z. absurd cc) g)

      by : (z : AppendAnswer) → a.answer ≡ z → AllGo E (append_answered q s from z)
          → Goes E q o (append_answered q s from z)
      by (Stored long) is sent = comes long is s.phase refl goes sent
      by (Fenced k) is sent = refused_on s.phase refl (λ long it. subst (λ (z : AppendAnswer). AnswersStored long 0 a.round z) is it) goes
      by (Gap k) is sent = refused_on s.phase refl (λ long it. subst (λ (z : AppendAnswer). AnswersStored long 0 a.round z) is it) goes
      by NotInstalled is sent = refused_on s.phase refl (λ long it. subst (λ (z : AppendAnswer). AnswersStored long 0 a.round z) is it) goes

-- ---- at the end

-- where nothing is on its way, the attempt isn't unfinished
complete_all : (o : Recover) (r : Replayed) → Each (λ b. is_among b r.complete ≡ true) o.backups
    → all_complete o r ≡ true
complete_all o r all = all_tested (λ b. is_among b r.complete) o.backups all

pub none_recovers : (D : Message → Type 0) → ((x : Message) → D x → ⊥) → (q : ℕ) (o : Recover) (p : RecoveryPhase)
    → PhaseGoes D q o p → ⊥
none_recovers D none q o (Asking None requests) g = elim g.0 [ inl w ↦ none w.0 w.1 | inr w ↦ none w.0 w.1 ]
none_recovers D none q o (Asking (Some log) None) g = elim g.1 [ inl w ↦ none w.0 w.1 | inr w ↦ none w.0 w.1 ]
none_recovers D none q o (Asking (Some log) (Some requests)) g = g.2
none_recovers D none q o (Storing r) g = cc (complete_all o r (Each-weaker (CompletesBackup D q o r) (λ b. is_among b r.complete ≡ true) has o.backups g.1), g.0)
  where
    has : (b : NodeId) → CompletesBackup D q o r b → is_among b r.complete ≡ true
    has b (inl did) = did
    has b (inr (inl w)) = absurd (none w.0 w.1)
    has b (inr (inr w)) = absurd (none w.0 w.1)
none_recovers D none q o (Waiting r) g = none g.0 g.1

-- ---- the requests come

module _ (D E : Message → Type 0) (q : ℕ) (o : Recover) (filled : 1 ≤ length o.backups) (from to : NodeId)
    (rs : List Request) (split : (x : Message) → D x → (x ≡ says from to (body.FrozenAnswer rs)) ⊎ E x) where
  logs_still : (log : Option (List Entry)) → ComesLog D q o log → ComesLog E q o log
  logs_still log c = log_on D E q o filled from to (body.FrozenAnswer rs) split (λ z. z) (λ z. z) log c

  still_requests : (requests : Option (List Request))
      → (GivesRequests q o from to (body.FrozenAnswer rs) → ⊥) ⊎ ((l : List Request) × (requests ≡ Some l))
      → ComesRequests D q o requests → ComesRequests E q o requests
  still_requests (Some l) w c = tt
  still_requests None (inl other) c = requests_on D E q o filled from to (body.FrozenAnswer rs) split (λ z. z) other None c
  still_requests None (inr is) c = absurd (cc (is.1))

  pub requests_go : (s : RecoveryState) → s.order ≡ o → PhaseGoes D q o s.phase
      → AllGo E (requests_come q s from rs s.phase) → Goes E q o (requests_come q s from rs s.phase)
  requests_go s same goes sent = by s.phase refl goes sent
    where
      rests_in : (p : RecoveryPhase) → s.phase ≡ p → PhaseGoes E q o p → Goes E q o (quiet s)
      rests_in p e g = (same, subst (PhaseGoes E q o) (sym e) g)

      asking : (log : Option (List Entry)) → s.phase ≡ Asking log None → PhaseGoes D q o (Asking log None)
          → (t : Bool) → same_node from s.order.witness ≡ t
          → AllGo E (cond t (both_there q s.order log (Some rs)) (quiet s)) → Goes E q o (cond t (both_there q s.order log (Some rs)) (quiet s))
      asking log e g true y sent = subst (λ (k : Recover). AllGo E (both_there q k log (Some rs)) → Goes E q o (both_there q k log (Some rs))) (sym same) (both E q o filled log (Some rs) (logs_still log g.0) tt) sent
      asking log e g false n sent = rests_in (Asking log None) e (logs_still log g.0, still_requests None (inl other) g.1, g.2)
        where
          other : GivesRequests q o from to (body.FrozenAnswer rs) → ⊥
          other it =
              let here : same_node from s.order.witness ≡ true = subst (λ (k : Recover). same_node from k.witness ≡ true) (sym same) (subst (λ (z : NodeId). same_node from z ≡ true) it.0 (same_node-self from)) in
              cc (n, here)

      by : (p : RecoveryPhase) → s.phase ≡ p → PhaseGoes D q o p → AllGo E (requests_come q s from rs p)
          → Goes E q o (requests_come q s from rs p)
      by (Asking log None) e g sent = asking log e g _ refl sent
      by (Asking log (Some l)) e g sent = rests_in (Asking log (Some l)) e (logs_still log g.0, still_requests (Some l) (inr (l, refl)) g.1, g.2)
      by (Storing r) e g sent = rests_in (Storing r) e (g.0, Each-weaker (CompletesBackup D q o r) (CompletesBackup E q o r) (completes_on D E q o filled from to (body.FrozenAnswer rs) split (λ k l z. z) (λ k l z. z) r) o.backups g.1)
      by (Waiting r) e g sent = rests_in (Waiting r) e (ways.carry D E from to (body.FrozenAnswer rs) split (TellsRecovered o) (λ z. z) g)
