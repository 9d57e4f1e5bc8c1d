-- Each first number in a log, a package or a message is one below which its client has completed all.
use Rattle.std.proofs.Common.{inl, inr, ℕ, List, drop, sym, subst}
use Rattle.curp_base.specs.Words.{At, Each, IsPrefix}
use Rattle.curp_base.proofs.Lists.{Each-at, Each-drop, Each-from_at, Each-weaker, prefix_at}
use Rattle.curp_cmd.specs.Node.{manager_node}
use Rattle.curp_cmd.specs.declared.command.Request.{Request}
use Rattle.curp_cmd.specs.declared.entry.Entry.{Entry}
use Rattle.curp_cmd.specs.declared.entry.Entry.TheVariants.{Op, Take, Give, Expire}
use Rattle.curp_cmd.specs.declared.node.NodeId.{NodeId}
use Rattle.curp_msg.specs.declared.answer.FenceReply.{FenceReply}
use Rattle.curp_msg.specs.declared.answer.FenceReply.TheVariants.{Log}
use Rattle.curp_msg.specs.declared.answer.GcAnswer.{GcAnswer}
use Rattle.curp_msg.specs.declared.answer.GcAnswer.TheVariants.{Suspects}
use Rattle.curp_msg.specs.declared.body.Append.{Append}
use Rattle.curp_msg.specs.declared.body.Body.{Body}
use Rattle.curp_msg.specs.declared.body.Body.TheVariants as body
use Rattle.curp_msg.specs.declared.body.Parcel.{Parcel}
use Rattle.curp_msg.specs.declared.message.Message.{Message}
use Rattle.curp_model.specs.Witness.{HeldRequest, frozen_requests}
use Rattle.curp_model.specs.World.{World, messages}
use Rattle.curp_facts.specs.Entries.{EntryOk, LogOk, UpdateOk}
use Rattle.curp_facts.specs.Facts.{FenceReplyOk, FencedLogOk, FrozenOk, HasLog, IsAmong, IsGiven, Lists, Logged}
use Rattle.curp_facts.specs.Invariant.{Invariant}
use Rattle.curp_facts.specs.Kept.{AllCompletedBelow, BodyFirstOk, EntryFirstOk, FirstNumbersOk, ReplyFirstOk, RequestFirstOk, SuspectsFirstOk}
use Rattle.curp_facts.specs.Said.{AppendSaid, IsTakeOf, Says, StoredEntry, SuspectsHold}
use Rattle.curp_law_kept.proofs.Gives.{kept_held}
use Rattle.curp_facts.specs.Names.{Names}
use Rattle.curp_law_runs.proofs.Logs.{has_home, log_ok}
use Rattle.curp_law_runs.proofs.Words.{said}

-- the first numbers of an entry that may stand in a log
entry_first : (w : World) (part : ℕ) (e : Entry) → EntryOk w part e → EntryFirstOk w e
entry_first w part (Op r acknowledged) ok = (ok.0.request.completed, ok.2)
entry_first w part (Take migration taken) ok = ok.1
entry_first w part (Give migration given) ok = ok.1
entry_first w part (Expire client) ok = tt

-- and of a log's
log_first : (w : World) (part : ℕ) (log : List Entry) → LogOk w part log → Each (EntryFirstOk w) log
log_first w part log ok = Each-weaker (EntryOk w part) (EntryFirstOk w) (entry_first w part) log ok.entries

-- what holds of each item holds of each of a beginning
each_prefix : {A : Type 0} (P : A → Type 0) (xs ys : List A) → IsPrefix xs ys → Each P ys → Each P xs
each_prefix P xs ys p all = Each-from_at P xs (λ k x at. Each-at P ys all k x (prefix_at p k x at))

module _ {w : World} (names : Names w) (inv : Invariant w) where
  in_logs : (l : Lists) → IsGiven w l → (its : Logged) → HasLog w l.master its → Each (EntryFirstOk w) its.log
  in_logs l given its has = log_first w l.part its.log (log_ok names inv l given its has)

  append_first : (from to : NodeId) (a : Append) → AppendSaid w from to a → Each (EntryFirstOk w) a.entries
  append_first from to a ok =
      let all = in_logs ok.lists ok.given ok.holds.l (subst (λ (n : NodeId). HasLog w n ok.holds.l) (sym ok.its_master) ok.holds.its_log) in
      each_prefix (EntryFirstOk w) a.entries (drop a.base ok.holds.l.log) ok.holds.part (Each-drop (EntryFirstOk w) a.base ok.holds.l.log all)

  -- a backup's log begins its master's
  fenced_first : (from : NodeId) (epoch : ℕ) (entries : List Entry) → FencedLogOk w from epoch entries → Each (EntryFirstOk w) entries
  fenced_first from epoch entries ok = subst (λ (es : List Entry). Each (EntryFirstOk w) es) ok.its_log (elim (inv.backups ok.lists ok.given from ok.its_backup ok.b ok.is).follows [
    | inl none ↦ subst (λ (es : List Entry). Each (EntryFirstOk w) es) (sym none) tt
    | inr f ↦ each_prefix (EntryFirstOk w) ok.b.log f.its.log f.prefix (in_logs ok.lists ok.given f.its f.its_log)
  ])

  fence_reply_first : (from : NodeId) (epoch : ℕ) (answer : FenceReply) → FenceReplyOk w from epoch answer → ReplyFirstOk w answer
  fence_reply_first from epoch (Log entries) ok = fenced_first from epoch entries ok
  fence_reply_first from epoch _ ok = tt

  -- a frozen witness tells what it holds
  frozen_first : (from : NodeId) (requests : List Request) → FrozenOk w from requests → Each (RequestFirstOk w) requests
  frozen_first from requests ok = Each-from_at (RequestFirstOk w) requests (λ k r at.
      let its = inv.witnesses from ok.x ok.is in
      let among : IsAmong r (frozen_requests ok.x) = subst (λ (rs : List Request). IsAmong r rs) (sym ok.its_requests) (record { place = k; stands = at }) in
      let held = kept_held ok.x r among in
      let update : UpdateOk w held.1.request = Each-at (λ (h : HeldRequest). UpdateOk w h.request) ok.x.held its.held held.0 held.1 held.2 in
      subst (RequestFirstOk w) held.3 update.request.completed)

  suspects_first : (answer : GcAnswer) → SuspectsHold w answer → SuspectsFirstOk w answer
  suspects_first (Suspects requests) ok = Each-weaker (UpdateOk w) (RequestFirstOk w) (λ r update. update.request.completed) requests ok
  suspects_first _ ok = tt

  -- a package was taken out of a log
  taken_first : (from : NodeId) (t : Parcel) → StoredEntry w from (IsTakeOf t.migration t.package) → Each (AllCompletedBelow w) t.package.table.firsts
  taken_first from t ok =
      let home = has_home inv from ok.l ok.its_log in
      let at : At ok.l.log ok.index (Take t.migration t.package) = subst (At ok.l.log ok.index) ok.is ok.stands in
      Each-at (EntryFirstOk w) ok.l.log (log_first w home.0.part ok.l.log home.3) ok.index (Take t.migration t.package) at

  body_first : (place : ℕ) (from to : NodeId) (b : Body) → Says w place from to b → BodyFirstOk w b
  body_first place from to (body.Update ask) ok = ok.asked.request.completed
  body_first place from to (body.Sync ask) ok = ok.asked.request.completed
  body_first place from to (body.Read ask) ok = ok.asked.request.completed
  body_first place from to (body.Glance ask) ok = ok.asked.request.completed
  body_first place from to (body.Record r) ok = ok.asked.request.completed
  body_first place from to (body.Append a) ok = append_first from to a ok
  body_first place from to (body.FenceAnswer a) ok = fence_reply_first from a.epoch a.answer ok.1
  body_first place from to (body.FrozenAnswer requests) ok = frozen_first from requests ok
  body_first place from to (body.Collected c) ok = suspects_first c.answer ok
  body_first place from to (body.Refuse r) ok = ok
  body_first place from to (body.Taken t) ok = taken_first from t ok
  body_first place from to (body.GiveIn t) ok = taken_first ok.node t (said inv ok.node manager_node (body.Taken t) ok.told)
  body_first place from to _ ok = tt

  pub first_numbers_ok : FirstNumbersOk w
  first_numbers_ok = record {
    in_logs = in_logs;
    in_messages = Each-from_at (λ (m : Message). BodyFirstOk w m.body) (messages w) (λ k m at. body_first k m.from m.to m.body (inv.messages k m at));
  }
