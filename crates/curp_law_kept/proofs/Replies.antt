-- What replies, collections and what is told of migrations say stays so.
use Rattle.std.proofs.Common.{◌≡◌, inl, inr, ℕ, ◌+◌, Bool, true, false, List, take, refl, sym, subst, arith}
use Rattle.curp_base.proofs.Lists.{Each-weaker, at_within, prefix_at, prefix_back, prefix_length}
use Rattle.curp_cmd.specs.declared.command.RequestId.{RequestId}
use Rattle.curp_cmd.specs.declared.entry.Entry.{Entry}
use Rattle.curp_cmd.specs.declared.node.NodeId.{NodeId}
use Rattle.curp_msg.specs.declared.body.Gc.{Gc}
use Rattle.curp_msg.specs.declared.body.Reply.{Reply}
use Rattle.curp_msg.specs.declared.body.Worth.{Worth}
use Rattle.curp_model.specs.Log.{answer_after, meaning}
use Rattle.curp_model.specs.Recovery.{Serving}
use Rattle.curp_model.specs.Table.{check}
use Rattle.curp_model.specs.World.{World}
use Rattle.curp_facts.specs.Facts.{AdoptedBefore, Lists, Logged, Speaks, hi_of, lo_of, ToldWithin}
use Rattle.curp_facts.specs.Kept.{IsCollectable}
use Rattle.curp_facts.specs.Reach.{EarlySaid, GcSaid, SyncedSaid, QuickSaid}
use Rattle.curp_facts.specs.Said.{GcHolds, ReplyHolds, ReplySaid, StoredEntry, WorthSaid}
use Rattle.curp_law_kept.specs.Standing.{StandsHere}
use Rattle.curp_law_kept.proofs.Logs.{take_grows}
use Rattle.curp_law_kept.proofs.Standings.{stands_at, stands_here, stands_longer}
use Rattle.curp_law_kept.proofs.Words.{Follows, adopted_stays, event_at, given_stays, hi_later, lo_later, log_later, many_later, message_at, reach_later, serving_later}
use Rattle.curp_msg.specs.declared.body.Quick.{Quick}
use Rattle.curp_range.specs.Spans.{is_owned}
use Rattle.curp_cmd.specs.Hash.{hash_of}
use Rattle.curp_cmd.specs.declared.command.Command.TheVariants.{Get}
use Rattle.curp_base.specs.Words.{IsPrefix}

module _ {w v : World} (s : Follows w v) where
  -- what holds of the range that a partition had at opening
  pub in_range : (part : ℕ) (P : ℕ → ℕ → Type 0) → P (lo_of w part) (hi_of w part) → P (lo_of v part) (hi_of v part)
  in_range part P p = subst (λ (lo : ℕ). P lo (hi_of v part)) (sym (lo_later s part)) (subst (λ (hi : ℕ). P (lo_of w part) hi) (sym (hi_later s part)) p)

  abbrev pub speaks_later : {from : NodeId} {epoch version : ℕ} → Speaks w from epoch version → Speaks v from epoch version
  speaks_later ok = record { lists = ok.lists; adopted = adopted_stays s ok.adopted; its_master = ok.its_master; its_epoch = ok.its_epoch; its_version = ok.its_version }

  abbrev pub synced_later : (from : NodeId) (r : Reply) → SyncedSaid w from r → SyncedSaid v from r
  synced_later from r ok =
      let o = log_later s from ok.l ok.its_log in
      let part = ok.lists.part in
      let here : StandsHere (lo_of w part) (hi_of w part) o.0.log ok.stands.index r.id r.answer
      = stands_longer (lo_of w part) (hi_of w part) ok.l.log o.0.log ok.stands.index r.id r.answer o.2 (stands_here (lo_of w part) (hi_of w part) ok.l.log r.id r.answer ok.stands) in
      record {
        lists = ok.lists;
        adopted = adopted_stays s ok.adopted;
        its_master = ok.its_master;
        its_version = ok.its_version;
        l = o.0;
        its_log = o.1;
        stands = stands_at (lo_of v part) (hi_of v part) o.0.log ok.stands.index r.id r.answer (in_range part (λ lo hi. StandsHere lo hi o.0.log ok.stands.index r.id r.answer) here);
        reach = reach_later s from r.version (ok.stands.index + 1) o.0 o.1 (omega (arith, at_within ok.l.log ok.stands.index ok.stands.entry ok.stands.stands, prefix_length o.2)) ok.reach;
      }

  abbrev pub early_later : (from : NodeId) (r : Reply) → EarlySaid w from r → EarlySaid v from r
  early_later from r ok =
      let o = serving_later s from ok.m ok.serves in
      let prefix = o.2.life.log in
      let low = at_within ok.m.log ok.index _ ok.stands in
      let part = ok.lists.part in
      let same : take ok.index o.0.log ≡ take ok.index ok.m.log = take_grows ok.index prefix (omega (arith, low)) in
      let its : Logged = record { log = o.0.log; round = o.0.round } in
      record {
        lists = ok.lists;
        adopted = adopted_stays s ok.adopted;
        its_master = ok.its_master;
        its_version = ok.its_version;
        m = o.0;
        serves = o.1;
        index = ok.index;
        request = ok.request;
        acknowledged = ok.acknowledged;
        stands = prefix_at prefix ok.index _ ok.stands;
        its_id = ok.its_id;
        its_answer = in_range part (λ lo hi. answer_after lo hi (take ok.index o.0.log) ok.request.command ≡ r.answer)
            (subst (λ (es : List Entry). answer_after (lo_of w part) (hi_of w part) es ok.request.command ≡ r.answer) (sym same) ok.its_answer);
        free = o.2.life.free ok.index ok.free;
        synced = ok.synced;
        below = ok.below;
        apart = λ k e above under at. ok.apart k e above under (prefix_back prefix k e (omega (arith, under, low)) at);
        stored = many_later s ok.lists ok.adopted.given ok.synced ok.stored;
        above = reach_later s from (r.version + 1) (ok.index + 1) its (record { m = Serving o.0; is = o.1; its_log = refl }) (omega (arith, low, prefix_length prefix)) ok.above;
      }

  reply_kind : (from : NodeId) (r : Reply) (b : Bool) → ReplyHolds w from r b → ReplyHolds v from r b
  reply_kind from r true ok = synced_later from r ok
  reply_kind from r false ok = early_later from r ok

  pub reply_later : (from to : NodeId) (r : Reply) → ReplySaid w from to r → ReplySaid v from to r
  reply_later from to r ok = record { speaks = speaks_later ok.speaks; addressee = ok.addressee; holds = reply_kind from r r.synced ok.holds }

  pub worth_later : (from to : NodeId) (x : Worth) → WorthSaid w from to x → WorthSaid v from to x
  worth_later from to x ok = record {
    version = ok.version;
    speaks = speaks_later ok.speaks;
    addressee = ok.addressee;
    place = ok.place;
    command = ok.command;
    invoked = event_at s ok.place _ ok.invoked;
    reads = ok.reads;
  }

  abbrev pub collected_later : (lists : Lists) (id : RequestId) → GcSaid w lists id → GcSaid v lists id
  collected_later lists id ok =
      let o = log_later s lists.master ok.l ok.its_log in
      let part = lists.part in
      let same : take ok.count o.0.log ≡ take ok.count ok.l.log = take_grows ok.count o.2 ok.low in
      record {
        l = o.0;
        its_log = o.1;
        count = ok.count;
        low = omega (arith, ok.low, prefix_length o.2);
        collectable = in_range part (λ lo hi. IsCollectable (check (meaning lo hi (take ok.count o.0.log)).table id))
            (subst (λ (es : List Entry). IsCollectable (check (meaning (lo_of w part) (hi_of w part) es).table id)) (sym same) ok.collectable);
        reach = reach_later s lists.master lists.version ok.count o.0 o.1 (omega (arith, ok.low, prefix_length o.2)) ok.reach;
      }

  abbrev pub before_later : (place : ℕ) (l : Lists) → AdoptedBefore w place l → AdoptedBefore v place l
  before_later place l ok = record {
    given = given_stays s ok.given;
    told = elim ok.told [ inl one ↦ inl one | inr sent ↦ inr (sent.0, sent.1, message_at s sent.0 _ sent.2) ];
  }

  pub gc_later : (place : ℕ) (from to : NodeId) (g : Gc) → GcHolds w place from to g → GcHolds v place from to g
  gc_later place from to g ok = record {
    lists = ok.lists;
    adopted = before_later place ok.lists ok.adopted;
    its_master = ok.its_master;
    its_epoch = ok.its_epoch;
    its_witness = ok.its_witness;
    collectable = Each-weaker (GcSaid w ok.lists) (GcSaid v ok.lists) (λ id said. collected_later ok.lists id said) g.ids ok.collectable;
  }

  pub entry_stored_later : (from : NodeId) (Is : Entry → Type 0) → StoredEntry w from Is → StoredEntry v from Is
  entry_stored_later from Is ok =
      let o = log_later s from ok.l ok.its_log in
      record {
        lists = ok.lists;
        adopted = adopted_stays s ok.adopted;
        its_master = ok.its_master;
        l = o.0;
        its_log = o.1;
        index = ok.index;
        entry = ok.entry;
        stands = prefix_at o.2 ok.index ok.entry ok.stands;
        is = ok.is;
        reach = reach_later s from ok.lists.version (ok.index + 1) o.0 o.1 (omega (arith, at_within ok.l.log ok.index ok.entry ok.stands, prefix_length o.2)) ok.reach;
      }

  -- ---- reads that are answered at once

  told_within_later : (from : NodeId) (place : ℕ) (es fs : List Entry) (long : ℕ) → IsPrefix es fs → ToldWithin w from place es long → ToldWithin v from place fs long
  told_within_later from place es fs long prefix ok = record {
    within = omega (arith, ok.within, prefix_length s.grows.sent);
    appends = λ k reach below r. ok.appends k reach below (record { to = r.to; append = r.append; sent = prefix_back s.grows.sent k _ (omega (arith, below, ok.within)) r.sent; reach_is = r.reach_is });
    replies = λ k r below at early.
        let o = ok.replies k r below (prefix_back s.grows.sent k _ (omega (arith, below, ok.within)) at) early in
        record { index = o.index; request = o.request; acknowledged = o.acknowledged; stands = prefix_at prefix o.index _ o.stands; its_id = o.its_id; below = o.below };
  }

  pub quick_later : (place : ℕ) (from to : NodeId) (q : Quick) → QuickSaid w place from to q → QuickSaid v place from to q
  quick_later place from to q ok =
      let o = serving_later s from ok.m ok.serves in
      let prefix = o.2.life.log in
      let part = ok.lists.part in
      let its : Logged = record { log = o.0.log; round = o.0.round } in
      let at_long : take ok.long o.0.log ≡ take ok.long ok.m.log = take_grows ok.long prefix ok.low in
      record {
        lists = ok.lists;
        adopted = adopted_stays s ok.adopted;
        its_master = ok.its_master;
        its_epoch = ok.its_epoch;
        its_version = ok.its_version;
        addressee = ok.addressee;
        event = ok.event;
        key = ok.key;
        invoked = event_at s ok.event _ ok.invoked;
        m = o.0;
        serves = o.1;
        captured = omega (arith, ok.captured, o.2.life.captured);
        long = ok.long;
        low = omega (arith, ok.low, prefix_length prefix);
        then_long = told_within_later from place ok.m.log o.0.log ok.long prefix ok.then_long;
        synced = ok.synced;
        below = ok.below;
        apart = λ k e above under at. ok.apart k e above under (prefix_back prefix k e (omega (arith, under, ok.low)) at);
        owned = in_range part (λ lo hi. is_owned (meaning lo hi (take ok.long o.0.log)).owned (hash_of ok.key) ≡ true)
            (subst (λ (es : List Entry). is_owned (meaning (lo_of w part) (hi_of w part) es).owned (hash_of ok.key) ≡ true) (sym at_long) ok.owned);
        its_answer = in_range part (λ lo hi. answer_after lo hi (take ok.long o.0.log) (Get ok.key) ≡ q.answer)
            (subst (λ (es : List Entry). answer_after (lo_of w part) (hi_of w part) es (Get ok.key) ≡ q.answer) (sym at_long) ok.its_answer);
        reach = reach_later s from q.version ok.synced its (record { m = Serving o.0; is = o.1; its_log = refl }) (omega (arith, ok.below, ok.low, prefix_length prefix)) ok.reach;
      }
