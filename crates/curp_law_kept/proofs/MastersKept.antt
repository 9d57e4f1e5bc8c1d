-- An input to a master keeps what masters keep.
use Rattle.std.proofs.Common.{◌≡◌, ◌⊎◌, inl, inr, ℕ, ◌≤◌, true, false, List, [], length, refl, ap, sym, ◌∙◌, subst, arith, Option}
use Rattle.curp_base.specs.Words.{At, Each}
use Rattle.curp_cmd.specs.Node.{manager_node, master_node}
use Rattle.curp_cmd.specs.declared.entry.Entry.{Entry}
use Rattle.curp_cmd.specs.declared.node.NodeId.{NodeId}
use Rattle.curp_msg.specs.Moved.{says, sends}
use Rattle.curp_msg.specs.declared.body.Adopted.{Adopted}
use Rattle.curp_msg.specs.declared.body.Body.{Body}
use Rattle.curp_msg.specs.declared.body.Body.TheVariants as body
use Rattle.curp_msg.specs.declared.body.Prepare.{Prepare}
use Rattle.curp_msg.specs.declared.body.Recover.{Recover}
use Rattle.curp_msg.specs.declared.body.Recovered.{Recovered}
use Rattle.curp_msg.specs.declared.message.Message.{Message}
use Rattle.curp_model.specs.Master.{MasterState, Switch, Switching, has}
use Rattle.curp_model.specs.Recovery.{Fresh, MasterStage, Recovering, RecoveryState, Serving}
use Rattle.curp_model.specs.World.{World}
use Rattle.curp_facts.specs.Entries.{LogOk}
use Rattle.curp_facts.specs.Facts.{ByRecovery, IsAmong, IsGiven, Lists, WasAdopted, WasSent, hi_of, lists_of_order, lo_of}
use Rattle.curp_facts.specs.Growth.{MasterGrows, ServesByOrder, ServesOn}
use Rattle.curp_facts.specs.Kept.{lists_of_master}
use Rattle.curp_facts.specs.Nodes.{CapturedOk, FreshOk, HasSentAll, IsOpAt, IsWaiting, MasterOk, NeverPrepared, QueuedOk, RecovererOk, ServingOk, StageOk, SwitchOk, WasPrepared}
use Rattle.curp_facts.specs.Reach.{RecoveredTo}
use Rattle.curp_facts.specs.Said.{AdoptedSaid}
use Rattle.curp_law_kept.proofs.Apart.{not_both}
use Rattle.curp_facts.specs.Known.{Known}
use Rattle.curp_law_kept.proofs.Known.{from_manager, said}
use Rattle.curp_law_kept.proofs.MastersHeard.{order_lowest}
use Rattle.curp_law_kept.proofs.MastersMoves.{GetsOrder, MasterStep, StageMove, StartsToServe}
use Rattle.curp_law_kept.proofs.MastersReady.{next_given, no_switch, step_follows}
use Rattle.curp_law_kept.proofs.ManagerWorlds.{sent_cases, sent_now}
use Rattle.curp_law_kept.specs.Moves.{Begins, IsSaidBy, ListsMove, Prepares, RecoveryMove, RecoverySays, SaysAll, SaysPrepared, ServingMove, ServingSays, Stays, TakesUp}
use Rattle.curp_law_kept.specs.Stages.{FreshSays}
use Rattle.curp_facts.specs.Names.{AdoptedOk, RecoverOrderOk}
use Rattle.curp_law_kept.proofs.NumberedLists.{among_each}
use Rattle.curp_law_kept.proofs.Entries.{log_ok_later}
use Rattle.curp_law_kept.proofs.MastersStay.{acknowledged_later, captures_later, stage_later}
use Rattle.curp_law_kept.proofs.Words.{Follows, adopted_stays, hi_later, lo_later, one_state, sent_later}
use Rattle.curp_law_kept.proofs.Acknowledging.{one_switch}

module _ {w v : World} (known : Known w) {n : ℕ} {from : NodeId} {heard : Option Body} {m k : MasterStage} {out : List Message} (s : MasterStep w v n from heard m k out) where
  f : Follows w v
  f = step_follows known s

  -- what is sent was sent before, or is one of the new messages
  pub sent_by : (to : NodeId) (b : Body) → WasSent v (says (master_node n) to b) → WasSent w (says (master_node n) to b) ⊎ IsAmong (says (master_node n) to b) out
  sent_by to b sent = sent_cases w v out s.frame.sent (says (master_node n) to b) sent

  pub said_now : (Say : NodeId → Body → Type 0) → Each (IsSaidBy n Say) out → (to : NodeId) (b : Body) → IsAmong (says (master_node n) to b) out → Say to b
  said_now Say all to b now = (among_each (IsSaidBy n Say) out all (says (master_node n) to b) now).says_so

  pub none_said : out ≡ [] → (x : Message) → IsAmong x out → ⊥
  none_said none x now = let at : At [] now.place x = subst (λ (xs : List Message). At xs now.place x) none now.stands in cc

  -- ---- a fresh master

  fresh_keeps : FreshOk w (master_node n) → Each (IsSaidBy n (FreshSays w)) out → FreshOk v (master_node n)
  fresh_keeps ok move = record {
    unprepared = λ version sent. elim (sent_by manager_node (body.Prepared version) sent) [ inl was ↦ ok.unprepared version was | inr now ↦ said_now (FreshSays w) move manager_node (body.Prepared version) now ];
    untold = λ r sent. elim (sent_by manager_node (body.Recovered r) sent) [ inl was ↦ ok.untold r was | inr now ↦ said_now (FreshSays w) move manager_node (body.Recovered r) now ];
  }

  -- ---- a recovering master

  recovering_keeps : (t : RecoveryState) → WasSent w (says manager_node (master_node n) (body.Recover t.order)) → NeverPrepared w (master_node n) → StageOk w t t.phase
      → ((r : Recovered) → WasSent w (says (master_node n) manager_node (body.Recovered r)) → IsWaiting t.phase) → Each (IsSaidBy n (RecoverySays w t)) out → RecovererOk v (master_node n) t
  recovering_keeps t ordered unprepared stage told all = record {
    ordered = sent_later f ordered;
    stage = stage_later f known.inv (master_node n) t t.phase (known.names.manager_says (master_node n) (body.Recover t.order) ordered) stage;
    unprepared = λ version sent. elim (sent_by manager_node (body.Prepared version) sent) [ inl was ↦ unprepared version was | inr now ↦ said_now (RecoverySays w t) all manager_node (body.Prepared version) now ];
    told = λ r sent. elim (sent_by manager_node (body.Recovered r) sent) [ inl was ↦ told r was | inr now ↦ (said_now (RecoverySays w t) all manager_node (body.Recovered r) now).3 ];
  }

  order_keeps : (t : RecoveryState) → FreshOk w (master_node n) → GetsOrder w n t out → RecovererOk v (master_node n) t
  order_keeps t ok move = recovering_keeps t (subst (λ (o : Recover). WasSent w (says manager_node (master_node n) (body.Recover o))) (sym move.move.order) move.sent) ok.unprepared move.move.stage (λ r sent. absurd (ok.untold r sent)) move.move.says

  recovery_keeps : (x t : RecoveryState) → RecovererOk w (master_node n) x → RecoveryMove w n x (sends t out) → RecovererOk v (master_node n) t
  recovery_keeps x t ok move = recovering_keeps t (subst (λ (o : Recover). WasSent w (says manager_node (master_node n) (body.Recover o))) (sym move.order) ok.ordered) ok.unprepared move.stage (λ r sent. move.waits (ok.told r sent)) move.says

  -- ---- adopted lists

  -- what a master is told to be adopted bears its partition and its epoch
  adopted_names : (a : Adopted) → WasSent w (says manager_node (master_node n) (body.Adopted a)) → (l : Lists) → IsGiven w l → l.master ≡ master_node n → (a.part ≡ l.part) × (a.epoch ≡ l.epoch)
  adopted_names a sent l given its =
      let home : AdoptedOk w (master_node n) a = known.names.manager_says (master_node n) (body.Adopted a) sent in
      let same = (known.names.agree home.lists l home.was.given given).by_master (home.its_master ∙ sym its) in
      (home.its_part ∙ same.0, home.its_epoch ∙ same.1)

  -- lists of which a master is told are adopted
  told_adopted : (a : Adopted) → WasSent w (says manager_node (master_node n) (body.Adopted a)) → (l : Lists) → IsGiven w l → l.master ≡ master_node n → a.version ≡ l.version → WasAdopted w l
  told_adopted a sent l given its version =
      let same = adopted_names a sent l given its in
      record {
        given = given;
        told = inr (subst (λ (x : NodeId). WasSent w (says manager_node x (body.Adopted (record { part = l.part; epoch = l.epoch; version = l.version })))) (sym its)
            (subst (λ (x : Adopted). WasSent w (says manager_node (master_node n) (body.Adopted x))) (λ i. record { part = same.0 i; epoch = same.1 i; version = version i }) sent));
      }

  -- ---- a master that begins to serve

  module _ (x : RecoveryState) (ok : RecovererOk w (master_node n) x) (y : MasterState) (by : ServesByOrder x y) where
    order_lists : lists_of_order (master_node n) x.order ≡ lists_of_master (master_node n) y
    order_lists = λ i. record {
      part = sym by.part i;
      epoch = sym by.epoch i;
      version = sym by.version i;
      master = master_node n;
      backups = sym by.backups i;
      witnesses = sym by.witnesses i;
    }

    order_given : IsGiven w (lists_of_master (master_node n) y)
    order_given = subst (IsGiven w) order_lists (ByRecovery (master_node n) x.order ok.ordered)

    order_home : RecoverOrderOk w (master_node n) x.order
    order_home = known.names.manager_says (master_node n) (body.Recover x.order) ok.ordered

    -- what is adopted of a master that never said Prepared are the lists of its order
    order_version : (a : Adopted) → AdoptedSaid w (master_node n) a → a.version ≡ y.version
    order_version a its = elim its.ready.told [
      | inl one ↦
          let low = order_lowest known (master_node n) x.order ok.ordered its.lists its.ready.given its.its_master in
          let first = (known.names.given order_home.before order_home.was.given).version.0 in
          absurd (omega (arith, low, one, order_home.older, first))
      | inr told ↦ elim told [
        | inl sent ↦ absurd (ok.unprepared its.lists.version (subst (λ (z : NodeId). WasSent w (says z manager_node (body.Prepared its.lists.version))) its.its_master sent))
        | inr r ↦ recovered r
      ]
    ]
      where
        recovered : RecoveredTo w its.lists → a.version ≡ y.version
        recovered r =
            let one : r.order ≡ x.order = known.names.one_order (master_node n) r.order x.order (subst (λ (z : NodeId). WasSent w (says manager_node z (body.Recover r.order))) its.its_master r.ordered) ok.ordered in
            sym its.its_version ∙ sym r.its_version ∙ ap (λ (o : Recover). o.version) one ∙ sym by.version

  begins_keeps : (x : RecoveryState) → RecovererOk w (master_node n) x → (y : MasterState) → StartsToServe w n x y out → ServingOk v (master_node n) y
  begins_keeps x ok y move =
      let by = move.begins.ordered in
      let home = order_home x ok y by in
      record {
        adopted = adopted_stays f (told_adopted move.a move.sent (lists_of_master (master_node n) y) (order_given x ok y by) refl
            (order_version x ok y by move.a (said known manager_node (master_node n) (body.Adopted move.a) move.sent)));
        lo = by.lo ∙ home.its_lo ∙ ap (lo_of w) (sym by.part) ∙ sym (lo_later f y.part);
        hi = by.hi ∙ home.its_hi ∙ ap (hi_of w) (sym by.part) ∙ sym (hi_later f y.part);
        log = log_ok_later f y.part y.log move.begins.log;
        acknowledged = acknowledged_later f y y.acknowledged move.begins.acknowledged;
        prepared = λ version sent. elim (sent_by manager_node (body.Prepared version) sent) [ inl was ↦ absurd (ok.unprepared version was) | inr now ↦ absurd (none_said move.silent _ now) ];
        switching = λ t is. absurd (no_switch by.phase is);
        free = λ index is. absurd (not_both (subst (λ (xs : List ℕ). has index xs ≡ true) move.begins.free is));
        held = subst (Each (IsOpAt y.log)) (sym move.begins.held) tt;
        queue = subst (Each (QueuedOk y)) (sym move.begins.queue) tt;
        captures = subst (Each (CapturedOk v y)) (sym move.begins.captures) tt;
      }

  -- ---- a serving master

  module _ (x y : MasterState) (was : m ≡ Serving x) (is : k ≡ Serving y) (ok : ServingOk w (master_node n) x) (move : ServingMove w n x from heard (sends y out)) where
    goes_on : ServesOn x y
    goes_on =
        let o = s.grows.masters n m s.was.its_state in
        let same : o.0 ≡ Serving y = one_state _ o.0 k o.1 s.is.its_state ∙ is in
        let grows : MasterGrows (Serving x) (Serving y) = subst (λ (z : MasterStage). MasterGrows z (Serving y)) was (subst (MasterGrows m) same o.2) in
        grows.life

    same_lists : y.version ≡ x.version → y.backups ≡ x.backups → y.witnesses ≡ x.witnesses → lists_of_master (master_node n) x ≡ lists_of_master (master_node n) y
    same_lists version backups witnesses = λ i. record {
      part = sym goes_on.part i;
      epoch = sym goes_on.epoch i;
      version = sym version i;
      master = master_node n;
      backups = sym backups i;
      witnesses = sym witnesses i;
    }

    -- its lists are adopted
    pub lists_adopted : WasAdopted w (lists_of_master (master_node n) y)
    lists_adopted = go move.lists
      where
        go : ListsMove n x from heard y out → WasAdopted w (lists_of_master (master_node n) y)
        go (Stays version backups witnesses phase) = subst (WasAdopted w) (same_lists version backups witnesses) ok.adopted
        go (Begins number bs ws came is_open above version backups witnesses phase round) = subst (WasAdopted w) (same_lists version backups witnesses) ok.adopted
        go (Prepares t switches unprepared log all version backups witnesses phase says_so) = subst (WasAdopted w) (same_lists version backups witnesses) ok.adopted
        go (TakesUp t a came number switches prepared version backups witnesses phase) =
            let its : WasSent w (says from (master_node n) (body.Adopted a)) = s.came (body.Adopted a) came in
            let sent : WasSent w (says manager_node (master_node n) (body.Adopted a))
            = subst (λ (z : NodeId). WasSent w (says z (master_node n) (body.Adopted a))) (from_manager known from (master_node n) (body.Adopted a) refl its) its in
            told_adopted a sent (lists_of_master (master_node n) y) (subst (IsGiven w) (next version backups witnesses) (next_given known s x t ok (ok.switching t switches))) refl (sym number ∙ sym version)
          where
            next : y.version ≡ t.version → y.backups ≡ t.backups → y.witnesses ≡ t.witnesses
                → record { part = x.part; epoch = x.epoch; version = t.version; master = master_node n; backups = t.backups; witnesses = t.witnesses } ≡ lists_of_master (master_node n) y
            next version backups witnesses = λ i. record {
              part = sym goes_on.part i;
              epoch = sym goes_on.epoch i;
              version = sym version i;
              master = master_node n;
              backups = sym backups i;
              witnesses = sym witnesses i;
            }

    -- what it has prepared stays so
    prepared_stays : (version : ℕ) → WasPrepared x version → WasPrepared y version
    prepared_stays number (inl low) = inl (go move.lists)
      where
        go : ListsMove n x from heard y out → number ≤ y.version
        go (Stays version backups witnesses phase) = omega (arith, low, version)
        go (Begins next bs ws came is_open above version backups witnesses phase round) = omega (arith, low, version)
        go (Prepares t switches unprepared log all version backups witnesses phase says_so) = omega (arith, low, version)
        go (TakesUp t a came next switches prepared version backups witnesses phase) = let above = (ok.switching t switches).above in omega (arith, low, version, above)
    prepared_stays number (inr p) = go move.lists
      where
        unprepared_now : (t : Switch) → x.phase ≡ Switching t → t.prepared ≡ false → ⊥
        unprepared_now t is e = not_both (sym e ∙ ap (λ (u : Switch). u.prepared) (one_switch x.phase t p.0 is p.1) ∙ p.3)

        go : ListsMove n x from heard y out → WasPrepared y number
        go (Stays version backups witnesses phase) = inr (p.0, phase ∙ p.1, p.2, p.3)
        go (Begins next bs ws came is_open above version backups witnesses phase round) = absurd (no_switch is_open p.1)
        go (Prepares t switches unprepared log all version backups witnesses phase says_so) = absurd (unprepared_now t switches unprepared)
        go (TakesUp t a came next switches prepared version backups witnesses phase) =
            let same : t.version ≡ p.0.version = ap (λ (u : Switch). u.version) (one_switch x.phase t p.0 switches p.1) in
            let its = p.2 in inl (omega (arith, same, its, version))

    -- it has sent an append that reaches to the end of its log
    sent_all : SaysAll y out → HasSentAll v (master_node n) y
    sent_all all = record { to = all.x.to; append = all.append; sent = sent_now w v out s.frame.sent (all_said all); reaches = all.reaches }
      where
        all_said : (all : SaysAll y out) → IsAmong (says (master_node n) all.x.to (body.Append all.append)) out
        all_said all =
            let by = among_each (IsSaidBy n (ServingSays w y)) out move.says all.x all.stands in
            subst (λ (z : Message). IsAmong z out) (λ i. record { from = by.sender i; to = all.x.to; body = all.is i }) all.stands

    sent_all_still : (t : Switch) → x.phase ≡ Switching t → y.log ≡ x.log → HasSentAll v (master_node n) y
    sent_all_still t switches log =
        let r = (ok.switching t switches).reached in
        record { to = r.to; append = r.append; sent = sent_later f r.sent; reaches = r.reaches ∙ ap (λ (es : List Entry). length es) (sym log) }

    reached_by : (t : Switch) → y.phase ≡ Switching t → HasSentAll v (master_node n) y
    reached_by t switches = elim (move.reaches t switches) [ inl same ↦ sent_all_still same.1.0 same.1.1 same.0 | inr all ↦ sent_all all ]

    switch_keeps : (t : Switch) → y.phase ≡ Switching t → SwitchOk v (master_node n) y t
    switch_keeps t now = go move.lists
      where
        go : ListsMove n x from heard y out → SwitchOk v (master_node n) y t
        go (Stays version backups witnesses phase) =
            let old = ok.switching t (sym phase ∙ now) in
            record {
              ordered = sent_later f old.ordered;
              above = omega (arith, version, old.above);
              begun = omega (arith, old.begun, goes_on.round);
              prepared = λ z. sent_later f (old.prepared z);
              since = move.since t now;
              reached = reached_by t now;
            }
        go (Begins number bs ws came is_open above version backups witnesses phase round) =
            let one = one_switch y.phase t _ now phase in
            let p : Prepare = record { version = number; backups = bs; witnesses = ws } in
            let its : WasSent w (says from (master_node n) (body.Prepare p)) = s.came (body.Prepare p) came in
            let sent : WasSent w (says manager_node (master_node n) (body.Prepare p)) = subst (λ (z : NodeId). WasSent w (says z (master_node n) (body.Prepare p))) (from_manager known from (master_node n) (body.Prepare p) refl its) its in
            subst (SwitchOk v (master_node n) y) (sym one) (record {
              ordered = sent_later f sent;
              above = omega (arith, above, version);
              begun = round;
              prepared = λ z. absurd (not_both z);
              since = λ z. absurd (not_both z);
              reached = reached_by t now;
            })
        go (Prepares u switches unprepared log all version backups witnesses phase says_so) =
            let one = one_switch y.phase t _ now phase in
            let old = ok.switching u switches in
            subst (SwitchOk v (master_node n) y) (sym one) (record {
              ordered = sent_later f old.ordered;
              above = omega (arith, version, old.above);
              begun = omega (arith, old.begun, goes_on.round);
              prepared = λ z. sent_now w v out s.frame.sent (told says_so);
              since = move.since _ phase;
              reached = reached_by t now;
            })
          where
            told : SaysPrepared n u.version out → IsAmong (says (master_node n) manager_node (body.Prepared u.version)) out
            told p = subst (λ (z : Message). IsAmong z out) (λ i. record { from = p.sender i; to = p.addressee i; body = p.is i }) p.stands
        go (TakesUp u a came number switches prepared version backups witnesses phase) = absurd (no_switch phase now)

    serving_keeps : ServingOk v (master_node n) y
    serving_keeps = record {
      adopted = adopted_stays f lists_adopted;
      lo = goes_on.lo ∙ ok.lo ∙ ap (lo_of w) (sym goes_on.part) ∙ sym (lo_later f y.part);
      hi = goes_on.hi ∙ ok.hi ∙ ap (hi_of w) (sym goes_on.part) ∙ sym (hi_later f y.part);
      log = log_ok_later f y.part y.log (subst (λ (p : ℕ). LogOk w p y.log) (sym goes_on.part) move.log);
      acknowledged = acknowledged_later f y y.acknowledged move.acknowledged;
      prepared = λ version sent. elim (sent_by manager_node (body.Prepared version) sent) [
        | inl old ↦ prepared_stays version (ok.prepared version old)
        | inr now ↦ let p = (said_now (ServingSays w y) move.says manager_node (body.Prepared version) now).0 in inr (p.s, p.switches, p.its_version, p.prepared)
      ];
      switching = switch_keeps;
      free = move.free;
      held = move.held;
      queue = move.queue;
      captures = captures_later f y y.captures move.captures;
    }

  -- ---- all stages

  -- the master that moves is as it should be
  pub master_keeps : MasterOk v (master_node n) k
  master_keeps = go m refl k refl s.move (known.inv.masters (master_node n) m s.was)
    where
      go : (x : MasterStage) → m ≡ x → (y : MasterStage) → k ≡ y → StageMove w n from heard x y out → MasterOk w (master_node n) x → MasterOk v (master_node n) k
      go Fresh was Fresh is move ok = subst (MasterOk v (master_node n)) (sym is) (fresh_keeps ok move)
      go Fresh was (Recovering t) is move ok = subst (MasterOk v (master_node n)) (sym is) (order_keeps t ok move)
      go (Recovering x) was (Recovering t) is move ok = subst (MasterOk v (master_node n)) (sym is) (recovery_keeps x t ok move)
      go (Recovering x) was (Serving y) is move ok = subst (MasterOk v (master_node n)) (sym is) (begins_keeps x ok y move)
      go (Serving x) was (Serving y) is move ok = subst (MasterOk v (master_node n)) (sym is) (serving_keeps x y was is ok move)
      go _ was _ is move ok = absurd move
