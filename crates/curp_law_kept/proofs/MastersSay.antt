-- What a serving master says by an input is so.
use Rattle.std.proofs.Common.{◌≡◌, ◌⊎◌, inl, inr, ℕ, ◌+◌, ◌-◌, ◌<◌, ◌≤◌, Bool, true, false, cond, List, [], ◌∷◌, length, drop, take, map, nat_le, not, refl, ap, sym, ◌∙◌, subst, arith, Option, ◌&&◌}
use Rattle.std.proofs.lemmas.Bool.Decides.{nat_tests}
use Rattle.std.proofs.lemmas.List.{length-drop}
use Rattle.curp_base.specs.Words.{At, Each, IsPrefix}
use Rattle.curp_base.proofs.Lists.{Each-weaker, at_same, at_within, prefix_self, prefix_at, prefix_length}
use Rattle.curp_cmd.specs.Hash.{hashes, hash_of}
use Rattle.curp_cmd.specs.Node.{manager_node, master_node, is_among, same_node, client_node}
use Rattle.curp_cmd.specs.declared.command.Request.{Request}
use Rattle.curp_cmd.specs.declared.command.RequestId.{RequestId}
use Rattle.curp_cmd.specs.declared.entry.Entry.{Entry}
use Rattle.curp_cmd.specs.declared.entry.Entry.TheVariants.{Op}
use Rattle.curp_cmd.specs.declared.node.NodeId.{NodeId}
use Rattle.curp_msg.specs.Moved.{says, sends}
use Rattle.curp_msg.specs.declared.body.Append.{Append}
use Rattle.curp_msg.specs.declared.body.Body.{Body}
use Rattle.curp_msg.specs.declared.body.Body.TheVariants as body
use Rattle.curp_msg.specs.declared.body.Gc.{Gc}
use Rattle.curp_msg.specs.declared.body.Reply.{Reply}
use Rattle.curp_msg.specs.declared.body.Worth.{Worth}
use Rattle.curp_msg.specs.declared.message.Message.{Message}
use Rattle.curp_model.specs.Log.{answer_after, entry_touches, meaning}
use Rattle.curp_model.specs.Master.{Acknowledged, MasterState, Open, Phase, Switching, fresh_backups, from_backup, least, stored_on, synced, state_of}
use Rattle.curp_model.specs.Recovery.{Serving}
use Rattle.curp_model.specs.Table.{check}
use Rattle.curp_model.specs.World.{World, messages}
use Rattle.curp_facts.specs.Facts.{ByReplacement, HasLog, IsAmong, IsGiven, Lists, Speaks, WasAdopted, WasSent, hi_of, lo_of, Logged, OpBelow, ToldWithin}
use Rattle.curp_facts.specs.Kept.{IsCollectable, lists_of_master}
use Rattle.curp_facts.specs.Nodes.{AcknowledgedOk, FreeOp, ServingOk}
use Rattle.curp_facts.specs.Reach.{EarlySaid, GcSaid, HasMany, IsReady, Reach, RecoveredTo, SyncedSaid, QuickSaid}
use Rattle.curp_facts.specs.Said.{GiveWasOrdered, AppendSaid, GcHolds, ReplyHolds, ReplySaid, StoredEntry, WorthSaid}
use Rattle.curp_facts.specs.Known.{Known}
use Rattle.curp_law_kept.proofs.Known.{said}
use Rattle.curp_law_kept.proofs.MastersHeard.{order_lowest, one_log}
use Rattle.curp_law_kept.proofs.MastersKept.{lists_adopted, master_keeps}
use Rattle.curp_law_kept.proofs.MastersMoves.{MasterStep}
use Rattle.curp_law_kept.proofs.MastersReady.{given_was, manager_was, many_now, no_switch, step_follows}
use Rattle.curp_law_kept.specs.Standing.{StandsHere}
use Rattle.curp_law_kept.proofs.Standings.{stands_at, stands_here}
use Rattle.curp_law_kept.specs.Moves.{GiveOrdered, AppendSays, CollectableIn, EarlySays, GcSays, ReplyKind, ReplySays, ServingMove, StoredSays, SyncedSays, WorthSays, IsSaidBy, QuickSays, ServingSays}
use Rattle.curp_law_kept.proofs.Synced.{synced_many}
use Rattle.curp_law_kept.proofs.Apart.{among_cases}
use Rattle.curp_law_kept.proofs.NumberedLists.{filter_among, among_each}
use Rattle.curp_law_kept.proofs.Entries.{ordered_later}
use Rattle.curp_law_kept.proofs.Words.{Follows, adopted_stays, event_at, given_stays, message_at, log_later, one_state}
use Rattle.std.proofs.Math.Seq.{take-length}
use Rattle.curp_cmd.specs.declared.command.Command.TheVariants.{Get}
use Rattle.curp_msg.specs.declared.body.Quick.{Quick}
use Rattle.curp_range.specs.Spans.{is_owned}
use Rattle.curp_model.specs.Ranges.{owns_all}
use Rattle.curp_law_kept.proofs.ManagerWorlds.{sent_cases}
use Rattle.curp_law_kept.proofs.Clean.{clean_apart}

-- ---- what is synced lies in the log

-- what is known of a backup lies in the log
from_within : (u : World) (x : MasterState) (acks : List Acknowledged) → Each (AcknowledgedOk u x) acks → (b : NodeId) → (from_backup acks b).length ≤ length x.log
from_within u x [] all b = omega arith
from_within u x (a ∷ rest) all b = go (same_node a.backup b) (from_within u x rest all.1 b)
  where
    go : (t : Bool) → (from_backup rest b).length ≤ length x.log → (cond t a (from_backup rest b)).length ≤ length x.log
    go true more = all.0.within
    go false more = more

-- the least isn't above what none is above
least_within : (bound : ℕ) (f : NodeId → ℕ) (xs : List NodeId) → ((b : NodeId) → f b ≤ bound) → least (map f xs) ≤ bound
least_within bound f [] below = omega arith
least_within bound f (x ∷ []) below = below x
least_within bound f (x ∷ y ∷ rest) below = omega (arith, below x)

pub synced_within : (u : World) (x : MasterState) → Each (AcknowledgedOk u x) x.acknowledged → synced x ≤ length x.log
synced_within u x all = least_within (length x.log) (λ b. (from_backup x.acknowledged b).length) x.backups (from_within u x x.acknowledged all)

module _ {w v : World} (known : Known w) {n : ℕ} {from : NodeId} {heard : Option Body} {x y : MasterState} {out : List Message} (s : MasterStep w v n from heard (Serving x) (Serving y) out) where
  f : Follows w v
  f = step_follows known s

  move : ServingMove w n x from heard (sends y out)
  move = s.move

  before : ServingOk w (master_node n) x
  before = known.inv.masters (master_node n) (Serving x) s.was

  ok : ServingOk v (master_node n) y
  ok = master_keeps known s

  was_adopted : WasAdopted w (lists_of_master (master_node n) y)
  was_adopted = lists_adopted known s x y refl refl before move

  log_now : HasLog v (master_node n) (record { log = y.log; round = y.round })
  log_now = record { m = Serving y; is = s.is; its_log = refl }

  -- what holds of its range holds of that of the partition
  in_part : (P : ℕ → ℕ → Type 0) → P y.lo y.hi → P (lo_of v y.part) (hi_of v y.part)
  in_part P p = subst (λ (lo : ℕ). P lo (hi_of v y.part)) ok.lo (subst (λ (hi : ℕ). P y.lo hi) ok.hi p)

  -- ---- how far logs reach

  -- no ready list of a master that is open has a larger version
  no_later : y.phase ≡ Open → (l : Lists) → IsReady v l → l.master ≡ master_node n → l.version ≤ y.version
  no_later is_open l ready its_master = elim ready.told [
    | inl one ↦ let low = (known.names.given (lists_of_master (master_node n) y) was_adopted.given).version.0 in omega (arith, one, low)
    | inr told ↦ elim told [
      | inl sent ↦ elim (ok.prepared l.version (subst (λ (z : NodeId). WasSent v (says z manager_node (body.Prepared l.version))) its_master sent)) [
        | inl low ↦ low
        | inr p ↦ absurd (no_switch is_open p.1)
      ]
      | inr r ↦ recovered r
    ]
  ]
    where
      recovered : RecoveredTo v l → l.version ≤ y.version
      recovered r =
          let sent : WasSent w (says manager_node (master_node n) (body.Recover r.order)) = subst (λ (z : NodeId). WasSent w (says manager_node z (body.Recover r.order))) its_master (manager_was known s l.master (body.Recover r.order) r.ordered) in
          let low = order_lowest known (master_node n) r.order sent (lists_of_master (master_node n) y) was_adopted.given refl in
          omega (arith, low, r.its_version)

  -- what is synced each backup of each ready list has, from its version on
  reach_open : y.phase ≡ Open → (version count : ℕ) → version ≡ y.version → count ≤ synced y → Reach v (master_node n) version count
  reach_open is_open version count is low l ready its_master above =
      let top = no_later is_open l ready its_master in
      let one : l ≡ lists_of_master (master_node n) y = (known.names.agree l (lists_of_master (master_node n) y) (given_was known s l ready.given) was_adopted.given).by_version its_master (omega (arith, top, above, is)) in
      subst (λ (z : Lists). Each (HasMany v count) z.backups) (sym one) (many_now known s count y.backups (synced_many w y move.acknowledged count low))

  -- no list of a larger version is ready
  reach_none : y.phase ≡ Open → (version count : ℕ) → y.version < version → Reach v (master_node n) version count
  reach_none is_open version count over l ready its_master above = let top = no_later is_open l ready its_master in absurd (omega (arith, top, above, over))

  -- ---- replies and values

  speaks : (epoch version : ℕ) → epoch ≡ y.epoch → version ≡ y.version → Speaks v (master_node n) epoch version
  speaks epoch version e r = record { lists = lists_of_master (master_node n) y; adopted = adopted_stays f was_adopted; its_master = refl; its_epoch = sym e; its_version = sym r }

  synced_says : (r : Reply) → y.phase ≡ Open → r.version ≡ y.version → SyncedSays y r → SyncedSaid v (master_node n) r
  synced_says r is_open version k =
      let here : StandsHere y.lo y.hi y.log k.stands.index r.id r.answer = stands_here y.lo y.hi y.log r.id r.answer k.stands in
      record {
        lists = lists_of_master (master_node n) y;
        adopted = adopted_stays f was_adopted;
        its_master = refl;
        its_version = sym version;
        l = record { log = y.log; round = y.round };
        its_log = log_now;
        stands = stands_at (lo_of v y.part) (hi_of v y.part) y.log k.stands.index r.id r.answer (in_part (λ lo hi. StandsHere lo hi y.log k.stands.index r.id r.answer) here);
        reach = reach_open is_open r.version (k.stands.index + 1) version (omega (arith, k.below));
      }

  early_says : (r : Reply) → y.phase ≡ Open → r.version ≡ y.version → EarlySays y r → EarlySaid v (master_node n) r
  early_says r is_open version k = go (nat_le (synced y) k.index) refl
    where
      free : FreeOp y k.index
      free = move.free k.index k.free

      same : free.op.request ≡ k.request
      same = request (at_same y.log k.index _ _ free.op.stands k.stands)
        where
          request : {a b : Request} {i j : ℕ} → Op a i ≡ Op b j → a ≡ b
          request e = cc

      apart : (j : ℕ) (e : Entry) → synced y ≤ j → j < k.index → At y.log j e → Each (λ h. entry_touches e h ≡ false) (hashes k.request.command)
      apart j e above under at = subst (λ (q : Request). Each (λ h. entry_touches e h ≡ false) (hashes q.command)) same (free.apart is_open j e above under at)

      said : (count : ℕ) → count ≤ k.index → count ≤ synced y → ((j : ℕ) (e : Entry) → count ≤ j → j < k.index → At y.log j e → Each (λ h. entry_touches e h ≡ false) (hashes k.request.command)) → EarlySaid v (master_node n) r
      said count below low clear = record {
        lists = lists_of_master (master_node n) y;
        adopted = adopted_stays f was_adopted;
        its_master = refl;
        its_version = sym version;
        m = y;
        serves = s.is;
        index = k.index;
        request = k.request;
        acknowledged = k.acknowledged;
        stands = k.stands;
        its_id = k.its_id;
        its_answer = in_part (λ lo hi. answer_after lo hi (take k.index y.log) k.request.command ≡ r.answer) k.its_answer;
        free = k.free;
        synced = count;
        below = below;
        apart = clear;
        stored = many_now known s count y.backups (synced_many w y move.acknowledged count low);
        above = reach_none is_open (r.version + 1) (k.index + 1) (omega (arith, version));
      }

      go : (b : Bool) → nat_le (synced y) k.index ≡ b → EarlySaid v (master_node n) r
      go true e = said (synced y) (grind (arith, nat_tests)) (omega arith) apart
      go false e = said k.index (omega arith) (grind (arith, nat_tests)) (λ j e above under at. absurd (omega (arith, above, under)))

  pub reply_says : (to : NodeId) (r : Reply) → ReplySays y to r → ReplySaid v (master_node n) to r
  reply_says to r k = record { speaks = speaks r.epoch r.version k.its_epoch k.its_version; addressee = k.addressee; holds = go r.synced k.kind }
    where
      go : (b : Bool) → ReplyKind y r b → ReplyHolds v (master_node n) r b
      go true z = synced_says r k.serves k.its_version z
      go false z = early_says r k.serves k.its_version z

  pub worth_says : (to : NodeId) (r : Worth) → WorthSays w y to r → WorthSaid v (master_node n) to r
  worth_says to r k = record {
    version = y.version;
    speaks = speaks r.epoch y.version k.its_epoch refl;
    addressee = k.addressee;
    place = k.place;
    command = k.command;
    invoked = event_at f k.place _ k.invoked;
    reads = k.reads;
  }

  -- ---- reads that are answered at once

  its_log_was : HasLog w (master_node n) (record { log = x.log; round = x.round })
  its_log_was = record { m = Serving x; is = s.was; its_log = refl }

  -- nothing that it has said tells of more than its log
  tells_within : (place : ℕ) → place ≤ length (messages v) → ToldWithin v (master_node n) place y.log (length y.log)
  tells_within place near = record {
    within = near;
    appends = λ k reach below r. elim (sent_cases w v out s.frame.sent _ (record { place = k; stands = r.sent })) [
      | inl was ↦
          let a : AppendSaid w (master_node n) r.to r.append = said known (master_node n) r.to (body.Append r.append) was in
          let same : a.holds.l ≡ record { log = x.log; round = x.round } = one_log w (master_node n) _ _ a.holds.its_log its_log_was in
          omega (arith, a.within, ap (λ (l : Logged). length l.log) same, prefix_length grown, r.reach_is)
      | inr new ↦
          let a : AppendSays y r.to r.append = (among_each (IsSaidBy n (ServingSays w y)) out move.says _ new).says_so in
          let long : length r.append.entries ≡ length y.log - r.append.base = ap (λ (es : List Entry). length es) a.entries ∙ length-drop r.append.base y.log in
          omega (arith, long, a.within, r.reach_is)
    ];
    replies = λ k r below at early. elim (sent_cases w v out s.frame.sent _ (record { place = k; stands = at })) [
      | inl was ↦
          let o = by_early_was r r.synced early (said known (master_node n) (client_node r.id.client) (body.Reply r) was).holds in
          let same : o.m ≡ x = served o.m (one_state _ _ _ o.serves.its_state s.was.its_state) in
          let stands : At x.log o.index (Op o.request o.acknowledged) = subst (λ (m : MasterState). At m.log o.index (Op o.request o.acknowledged)) same o.stands in
          op_below o.index o.request o.acknowledged r.id (prefix_at grown o.index _ stands) o.its_id
      | inr new ↦
          let o = by_early_now r r.synced early (among_each (IsSaidBy n (ServingSays w y)) out move.says _ new).says_so.kind in
          op_below o.index o.request o.acknowledged r.id o.stands o.its_id
    ];
  }
    where
      grown : IsPrefix x.log y.log
      grown = let o = log_later f (master_node n) (record { log = x.log; round = x.round }) its_log_was in subst (λ (l : Logged). IsPrefix x.log l.log) (one_log v (master_node n) _ _ o.1 log_now) o.2

      served : (m : MasterState) → Serving m ≡ Serving x → m ≡ x
      served m e = cc

      by_early_was : (r : Reply) (b : Bool) → b ≡ false → ReplyHolds w (master_node n) r b → EarlySaid w (master_node n) r
      by_early_was r false e k = k
      by_early_was r true e k = absurd cc

      by_early_now : (r : Reply) (b : Bool) → b ≡ false → ReplyKind y r b → EarlySays y r
      by_early_now r false e k = k
      by_early_now r true e k = absurd cc

      op_below : (index : ℕ) (request : Request) (acknowledged : ℕ) (id : RequestId) → At y.log index (Op request acknowledged) → request.id ≡ id → OpBelow y.log id (length y.log)
      op_below index request acknowledged id at its = record { index = index; request = request; acknowledged = acknowledged; stands = at; its_id = its; below = at_within y.log index _ at }

  pub quick_says : (place : ℕ) → place ≤ length (messages v) → (to : NodeId) (q : Quick) → QuickSays w y to q → QuickSaid v place (master_node n) to q
  quick_says place near to q k =
      let whole : take (length y.log) y.log ≡ y.log = take-length y.log in
      record {
        lists = lists_of_master (master_node n) y;
        adopted = adopted_stays f was_adopted;
        its_master = refl;
        its_epoch = sym k.its_epoch;
        its_version = sym k.its_version;
        addressee = k.addressee;
        event = k.event;
        key = k.key;
        invoked = event_at f k.event _ k.invoked;
        m = y;
        serves = s.is;
        captured = omega (arith, k.its_number);
        long = length y.log;
        low = omega arith;
        then_long = tells_within place near;
        synced = synced y;
        below = synced_within w y move.acknowledged;
        apart = λ j e low under at. untouched k.key j e (clean_apart y (Get k.key) k.clean j e low at);
        owned = in_part (λ lo hi. is_owned (meaning lo hi (take (length y.log) y.log)).owned (hash_of k.key) ≡ true)
            (subst (λ (es : List Entry). is_owned (meaning y.lo y.hi es).owned (hash_of k.key) ≡ true) (sym whole) (own_one k.key k.owned));
        its_answer = in_part (λ lo hi. answer_after lo hi (take (length y.log) y.log) (Get k.key) ≡ q.answer)
            (subst (λ (es : List Entry). answer_after y.lo y.hi es (Get k.key) ≡ q.answer) (sym whole) k.its_answer);
        reach = reach_open k.serves q.version (synced y) k.its_version (omega arith);
      }
    where
      untouched : (key : List ℕ) (j : ℕ) (e : Entry) → Each (λ h. entry_touches e h ≡ false) (hashes (Get key)) → entry_touches e (hash_of key) ≡ false
      untouched key j e all = all.0

      own_one : (key : List ℕ) → owns_all (state_of y).owned (hashes (Get key)) ≡ true → is_owned (state_of y).owned (hash_of key) ≡ true
      own_one key e = and_first (is_owned (state_of y).owned (hash_of key)) e
        where
          and_first : (b : Bool) → (b && true) ≡ true → b ≡ true
          and_first true e = refl
          and_first false e = absurd cc

  -- ---- appends, collections, and what is told of migrations

  -- a backup on which it stores is one of given lists
  stores_on : (to : NodeId) → IsAmong to (stored_on y) → (l : Lists) × IsGiven v l × (l.master ≡ master_node n) × (l.epoch ≡ y.epoch) × IsAmong to l.backups
  stores_on to among = elim (among_cases y.backups (fresh_backups y.phase y.backups) to among) [
    | inl own ↦ (lists_of_master (master_node n) y, given_stays f was_adopted.given, refl, refl, own)
    | inr fresh ↦ go y.phase refl fresh
  ]
    where
      go : (p : Phase) → y.phase ≡ p → IsAmong to (fresh_backups p y.backups) → (l : Lists) × IsGiven v l × (l.master ≡ master_node n) × (l.epoch ≡ y.epoch) × IsAmong to l.backups
      go Open is fresh = let at : At [] fresh.place to = fresh.stands in absurd cc
      go (Switching t) is fresh =
          let next : Lists = record { part = y.part; epoch = y.epoch; version = t.version; master = master_node n; backups = t.backups; witnesses = t.witnesses } in (
            next,
            ByReplacement (lists_of_master (master_node n) y) (record { version = t.version; backups = t.backups; witnesses = t.witnesses }) (given_stays f was_adopted.given) (ok.switching t is).ordered,
            refl,
            refl,
            filter_among (λ b. not (is_among b y.backups)) t.backups to fresh,
          )

  pub append_says : (to : NodeId) (a : Append) → AppendSays y to a → AppendSaid v (master_node n) to a
  append_says to a k =
      let home = stores_on to k.its_backup in
      let long : length a.entries ≡ length y.log - a.base = ap (λ (es : List Entry). length es) k.entries ∙ length-drop a.base y.log in
      record {
        lists = home.0;
        given = home.1;
        its_master = home.2;
        its_epoch = home.3 ∙ sym k.its_epoch;
        its_backup = home.4;
        holds = record {
          l = record { log = y.log; round = y.round };
          its_log = log_now;
          part = subst (λ (es : List Entry). IsPrefix es (drop a.base y.log)) (sym k.entries) (prefix_self (drop a.base y.log));
          begun = omega (arith, k.its_round);
        };
        within = omega (arith, long, k.within);
      }

  pub gc_says : (place : ℕ) → length (messages w) ≤ place → (to : NodeId) (g : Gc) → GcSays y to g → GcHolds v place (master_node n) to g
  gc_says place late to g k = record {
    lists = lists_of_master (master_node n) y;
    adopted = record { given = given_stays f was_adopted.given; told = told };
    its_master = refl;
    its_epoch = sym k.its_epoch;
    its_witness = k.its_witness;
    collectable = Each-weaker (CollectableIn y) (GcSaid v (lists_of_master (master_node n) y)) collectable g.ids k.collectable;
  }
    where
      told : (y.version ≡ 1) ⊎ ((i : ℕ) × (i < place) × At (messages v) i (says manager_node (master_node n) (body.Adopted (record { part = y.part; epoch = y.epoch; version = y.version }))))
      told = elim was_adopted.told [
        | inl one ↦ inl one
        | inr sent ↦ inr (sent.place, omega (arith, late, at_within (messages w) sent.place _ sent.stands), message_at f sent.place _ sent.stands)
      ]

      collectable : (id : RequestId) → CollectableIn y id → GcSaid v (lists_of_master (master_node n) y) id
      collectable id c = record {
        l = record { log = y.log; round = y.round };
        its_log = log_now;
        count = c.count;
        low = omega (arith, c.low, synced_within w y move.acknowledged);
        collectable = in_part (λ lo hi. IsCollectable (check (meaning lo hi (take c.count y.log)).table id)) c.checked;
        reach = reach_open k.serves y.version c.count refl c.low;
      }

  pub entry_says : (Is : Entry → Type 0) → StoredSays y Is → StoredEntry v (master_node n) Is
  entry_says Is k = record {
    lists = lists_of_master (master_node n) y;
    adopted = adopted_stays f was_adopted;
    its_master = refl;
    l = record { log = y.log; round = y.round };
    its_log = log_now;
    index = k.index;
    entry = k.entry;
    stands = k.stands;
    is = k.is;
    reach = reach_open k.serves y.version (k.index + 1) refl (omega (arith, k.below));
  }

  -- a give that it tells was ordered of its partition
  pub give_ordered : (migration : ℕ) → GiveOrdered w y.part migration → GiveWasOrdered v (master_node n) migration
  give_ordered migration k = record {
    part = y.part;
    its_part = record { lists = lists_of_master (master_node n) y; given = given_stays f was_adopted.given; its_master = refl; its_part = refl };
    parcel = k.parcel;
    ordered = ordered_later f k.ordered;
    its_number = k.its_number;
  }
