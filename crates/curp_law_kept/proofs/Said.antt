-- What a message says stays so, whatever kind it is.
use Rattle.std.proofs.Common.{ℕ, ◌+◌, List, subst}
use Rattle.curp_base.proofs.Lists.{Each-weaker}
use Rattle.curp_cmd.specs.declared.command.Request.{Request}
use Rattle.curp_cmd.specs.declared.node.NodeId.{NodeId}
use Rattle.curp_msg.specs.declared.answer.GcAnswer.{GcAnswer}
use Rattle.curp_msg.specs.declared.answer.GcAnswer.TheVariants.{Suspects}
use Rattle.curp_msg.specs.declared.body.Body.{Body}
use Rattle.curp_msg.specs.declared.body.Body.TheVariants as body
use Rattle.curp_msg.specs.declared.body.Recover.{Recover}
use Rattle.curp_msg.specs.declared.config.Config.{Config}
use Rattle.curp_msg.specs.declared.config.PartConfig.{PartConfig}
use Rattle.curp_model.specs.Manager.{Shape}
use Rattle.curp_model.specs.World.{World}
use Rattle.curp_range.specs.Spans.{Span}
use Rattle.curp_facts.specs.Facts.{AtFirst, EntryWas, HasRanges, Migrated, RangesAfter, WasMigrated, ranges_at_first}
use Rattle.curp_facts.specs.Invariant.{Invariant}
use Rattle.curp_facts.specs.Said.{AskSaid, IsGiveFrom, IsOrderedTo, IsTakeOf, Says, SuspectsHold, UpdateSaid}
use Rattle.curp_law_kept.proofs.Entries.{ordered_later, refusal_later, request_later, updates_later}
use Rattle.curp_law_kept.proofs.KeepersStay.{accepted_later, append_holds_later, append_later, appended_later, fence_reply_later, frozen_later, probed_later}
use Rattle.curp_law_kept.proofs.Prepared.{prepared_later, recovered_said_later}
use Rattle.curp_law_kept.proofs.Replies.{entry_stored_later, gc_later, reply_later, worth_later, quick_later}
use Rattle.curp_law_kept.proofs.Words.{Follows, adopted_stays, event_at, given_stays, ready_later, sent_later}

module _ {w v : World} (s : Follows w v) where
  abbrev migrated_later : (number : ℕ) → WasMigrated w number → WasMigrated v number
  migrated_later number m = record {
    source = m.source;
    target = m.target;
    apart = m.apart;
    order = m.order;
    ordered = ordered_later s m.ordered;
    its_order = m.its_order;
    parcel = m.parcel;
    given = ordered_later s m.given;
    its_parcel = m.its_parcel;
  }

  pub ranges_later : (n : ℕ) (ranges : ℕ → List Span) → RangesAfter w n ranges → RangesAfter v n ranges
  ranges_later _ _ AtFirst = subst (λ (x : Shape). RangesAfter v 0 (ranges_at_first x)) s.later.shape AtFirst
  ranges_later _ _ (Migrated n ranges before m covered) = Migrated n ranges (ranges_later n ranges before) (migrated_later (n + 1) m) covered

  pub has_ranges_later : (config : Config) → HasRanges w config → HasRanges v config
  has_ranges_later config ok = record { count = ok.count; ranges = ok.ranges; after = ranges_later ok.count ok.ranges ok.after; has = ok.has }

  pub entry_was_later : (c : PartConfig) → EntryWas w c → EntryWas v c
  entry_was_later c ok = adopted_stays s ok

  asked_later : (from : NodeId) (r : Request) → AskSaid w from r → AskSaid v from r
  asked_later from r ok = record { request = request_later s ok.request; sender = ok.sender }

  update_said_later : (from : NodeId) (r : Request) → UpdateSaid w from r → UpdateSaid v from r
  update_said_later from r ok = record { asked = asked_later from r ok.asked; updates = ok.updates }

  suspects_later : (a : GcAnswer) → SuspectsHold w a → SuspectsHold v a
  suspects_later (Suspects requests) ok = updates_later s requests ok
  suspects_later _ ok = tt

  abbrev ordered_to_later : (master : NodeId) (Has : Recover → Type 0) → IsOrderedTo w master Has → IsOrderedTo v master Has
  ordered_to_later master Has ok = (ok.0, sent_later s ok.1, ok.2)

  pub says_later : Invariant w → (place : ℕ) (from to : NodeId) (b : Body) → Says w place from to b → Says v place from to b
  says_later inv place from to (body.Update ask) ok = update_said_later from ask.request ok
  says_later inv place from to (body.Sync ask) ok = update_said_later from ask.request ok
  says_later inv place from to (body.Read ask) ok = record { asked = asked_later from ask.request ok.asked; reads = ok.reads }
  says_later inv place from to (body.Glance ask) ok = record { asked = asked_later from ask.request ok.asked; reads = ok.reads }
  says_later inv place from to (body.Probe a) ok =
      record { sender = ok.sender; place = ok.place; command = ok.command; invoked = event_at s ok.place _ ok.invoked; reads = ok.reads }
  says_later inv place from to (body.Quick q) ok = quick_later s place from to q ok
  says_later inv place from to (body.Probed a) ok = probed_later s from to a ok
  says_later inv place from to (body.Record r) ok = update_said_later from r.request ok
  says_later inv place from to (body.Configuration config) ok = Each-weaker (EntryWas w) (EntryWas v) entry_was_later config.parts ok
  says_later inv place from to (body.Reply r) ok = reply_later s from to r ok
  says_later inv place from to (body.Worth x) ok = worth_later s from to x ok
  says_later inv place from to (body.Refuse r) ok = refusal_later s r.id.client r.refusal ok
  says_later inv place from to (body.Accepted a) ok = accepted_later s from to a ok
  says_later inv place from to (body.Rejected r) ok =
      record { addressee = ok.addressee; place = ok.place; command = ok.command; invoked = event_at s ok.place _ ok.invoked; updates = ok.updates }
  says_later inv place from to (body.Append a) ok = append_later s from to a ok
  says_later inv place from to (body.Appended a) ok = (appended_later s from to a ok.0, append_holds_later s from to a a.answer ok.1)
  says_later inv place from to (body.Gc g) ok = gc_later s place from to g ok
  says_later inv place from to (body.Collected c) ok = suspects_later c.answer ok
  says_later inv place from to (body.Fence epoch) ok = ordered_to_later from _ ok
  says_later inv place from to (body.FenceAnswer a) ok = (ordered_to_later to _ ok.0, fence_reply_later s inv.backups from a.epoch a.answer ok.1)
  says_later inv place from to (body.Freeze epoch) ok = ordered_to_later from _ ok
  says_later inv place from to (body.FrozenAnswer requests) ok = frozen_later s from requests ok
  says_later inv place from to (body.Recovered r) ok = recovered_said_later s inv from r ok
  says_later inv place from to (body.Adopted a) ok =
      record { lists = ok.lists; ready = ready_later s ok.ready; its_master = ok.its_master; its_part = ok.its_part; its_epoch = ok.its_epoch; its_version = ok.its_version }
  says_later inv place from to (body.Prepared version) ok = prepared_later s inv from version ok
  says_later inv place from to (body.Taken t) ok = entry_stored_later s from (IsTakeOf t.migration t.package) ok
  says_later inv place from to (body.GiveIn t) ok = record { node = ok.node; told = sent_later s ok.told }
  says_later inv place from to (body.Given migration) ok = (
    entry_stored_later s from (IsGiveFrom migration) ok.0,
    record {
      part = ok.1.part;
      its_part = record { lists = ok.1.its_part.lists; given = given_stays s ok.1.its_part.given; its_master = ok.1.its_part.its_master; its_part = ok.1.its_part.its_part };
      parcel = ok.1.parcel;
      ordered = ordered_later s ok.1.ordered;
      its_number = ok.1.its_number;
    },
  )
  says_later inv place from to _ ok = tt
