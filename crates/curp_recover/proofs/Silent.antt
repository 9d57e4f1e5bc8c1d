-- While a recovery stores, it reports at the last backup's word for the whole log, and at nothing else.
use Rattle.std.proofs.Common.{◌≡◌, ◌⊎◌, inl, inr, ℕ, ◌≤◌, ◌&&◌, ◌||◌, nat_le, true, List, [], ◌∷◌, length, ap, sym, ◌∙◌, subst, refl, arith, not, ◌+◌}
use Rattle.std.proofs.Math.Bool.{or-true}
use Rattle.std.proofs.lemmas.Bool.{and_from, and_parts, cases_Bool, or_cases}
use Rattle.std.proofs.lemmas.Bool.Decides.{nat_tests}
use Rattle.std.specs.List.{filter, list_all}
use Rattle.curp_base.specs.Words.{Each, rises_past}
use Rattle.curp_cmd.proofs.Nodes.{same_node-self, same_node-true}
use Rattle.curp_cmd.specs.Node.{is_among, same_node}
use Rattle.curp_cmd.specs.Store.{is_update}
use Rattle.curp_cmd.specs.declared.command.Request.{Request}
use Rattle.curp_cmd.specs.declared.node.NodeId.{NodeId}
use Rattle.curp_model.specs.Master.{last_round}
use Rattle.curp_model.specs.Recovery.{Recovering, RecoveryPhase, RecoveryState, Replayed, Storing, again_in, all_complete, append_answered, appends_whole, completed_by, fence_answered, master_input, master_ordered, next_storing, on_master, recovered_message, stored_comes, turns_read_away, with_complete}
use Rattle.curp_msg.specs.Moved.{Moved, says}
use Rattle.curp_msg.specs.declared.answer.AppendAnswer.{AppendAnswer}
use Rattle.curp_msg.specs.declared.answer.AppendAnswer.TheVariants.{Stored}
use Rattle.curp_msg.specs.declared.answer.FenceReply.{FenceReply}
use Rattle.curp_msg.specs.declared.answer.FenceReply.TheVariants.{Log}
use Rattle.curp_msg.specs.declared.body.Body.{Body}
use Rattle.curp_msg.specs.declared.body.Body.TheVariants as body
use Rattle.curp_msg.specs.Input.{Input}
use Rattle.curp_msg.specs.Input as input
use Rattle.curp_msg.specs.declared.machine.Local.{Local}
use Rattle.curp_msg.specs.declared.machine.Local.TheVariants as local
use Rattle.curp_msg.specs.declared.message.Message.{Message}
use Rattle.curp_recover.proofs.Stored.{among_with, stored_not, stored_whole}
use Rattle.curp_recover.specs.Reports.{IsLastStored, IsReport}

-- no message of these is a report
abbrev NoReport : List Message → Type 0
NoReport = Each (λ (m : Message). IsReport m → ⊥)

-- ---- who has it all

all_by : (r : Replayed) (from : NodeId) (bs : List NodeId) → Each (λ (b : NodeId). (is_among b r.complete ≡ true) ⊎ (b ≡ from)) bs
    → list_all (λ b. is_among b (with_complete r from).complete) bs ≡ true
all_by r from [] all = refl
all_by r from (b ∷ bs) all = rw (among_with r b from, here all.0, all_by r from bs all.1) refl
  where
    here : (is_among b r.complete ≡ true) ⊎ (b ≡ from) → (is_among b r.complete || same_node b from) ≡ true
    here (inl has) = rw has refl
    here (inr is) = rw (is, same_node-self from) (or-true (is_among from r.complete))

by_all : (r : Replayed) (from : NodeId) (bs : List NodeId) → list_all (λ b. is_among b (with_complete r from).complete) bs ≡ true
    → Each (λ (b : NodeId). (is_among b r.complete ≡ true) ⊎ (b ≡ from)) bs
by_all r from [] all = tt
by_all r from (b ∷ bs) all =
    let each = and_parts (is_among b (with_complete r from).complete) (list_all (λ b. is_among b (with_complete r from).complete) bs) all in (
      elim (or_cases (is_among b r.complete) (same_node b from) (sym (among_with r b from) ∙ each.0)) [ inl has ↦ inl has | inr is ↦ inr (same_node-true b from is) ],
      by_all r from bs each.1,
    )

module _ (n : ℕ) (s : RecoveryState) (r : Replayed) (stores : s.phase ≡ Storing r) where
  -- ---- at the last one

  completes : (q : Replayed) → all_complete s.order q ≡ true → (completed_by n s.order q).messages ≡ recovered_message n s.order
  completes q all = rw all refl

  pub at_last : (given : Input) → IsLastStored s.order r given → (master_input n (Recovering s) given).messages ≡ recovered_message n s.order
  unfolding on_master
  at_last given l =
      let enough : nat_le (length r.log) l.answer.length ≡ true = grind (arith, nat_tests, l.whole) in
      let all : all_complete s.order (with_complete r l.answer.backup) ≡ true = all_by r l.answer.backup s.order.backups l.others in
      ap (λ (x : Input). (master_input n (Recovering s) x).messages) l.comes
      ∙ ap (λ (x : RecoveryPhase). (stored_comes n s l.answer.backup l.answer.length x).messages) stores
      ∙ ap (λ (x : Moved RecoveryState). x.messages) (stored_whole n s l.answer.backup l.answer.length r (and_from _ _ l.fresh enough))
      ∙ completes (with_complete r l.answer.backup) all

  -- ---- at nothing else

  appends_no_report : (q : Replayed) (bs : List NodeId) → NoReport (appends_whole n s.order q bs)
  appends_no_report q [] = tt
  appends_no_report q (b ∷ bs) = ((λ k. cc (k.1)), appends_no_report q bs)

  again_no_report : NoReport (again_in n s (Storing r)).messages
  again_no_report = elim (cases_Bool (rises_past last_round r.round (r.round + 1))) [
    | inl ends ↦ rw ends tt
    | inr goes ↦ rw goes (appends_no_report (next_storing r) (filter (λ b. not (is_among b r.complete)) s.order.backups))
  ]

  ordered_no_report : (order : Local) → NoReport (master_ordered n (Recovering s) order).messages
  unfolding master_ordered
  ordered_no_report local.Sync = subst (λ (x : RecoveryPhase). NoReport (again_in n s x).messages) (sym stores) again_no_report
  ordered_no_report _ = tt

  turned_no_report : (q : Request) → NoReport (turns_read_away n (Recovering s) q).messages
  turned_no_report q = elim (cases_Bool (is_update q.command)) [
    | inl updates ↦ rw updates tt
    | inr reads ↦ rw reads ((λ k. cc (k.1)), tt)
  ]

  module _ (from to : NodeId) where
    stored_no_report : (epoch round long : ℕ)
        → (IsLastStored s.order r (input.Message (says from to (body.Appended (record { epoch = epoch; round = round; answer = Stored long })))) → ⊥)
        → NoReport (stored_comes n s from long (Storing r)).messages
    stored_no_report epoch round long other = elim (cases_Bool (is_among from s.order.backups && nat_le (length r.log) long)) [
      | inr not ↦ rw (stored_not n s from long r not) tt
      | inl takes ↦ rw (stored_whole n s from long r takes) (elim (cases_Bool (all_complete s.order (with_complete r from))) [
        | inr some ↦ rw some tt
        | inl all ↦
            let parts = and_parts (is_among from s.order.backups) (nat_le (length r.log) long) takes in
            let enough : length r.log ≤ long = grind (arith, nat_tests, parts.1) in
            absurd (other (record {
              answer = record { backup = from; epoch = epoch; round = round; length = long };
              to = to;
              comes = refl;
              fresh = parts.0;
              whole = enough;
              others = by_all r from s.order.backups all;
            }))
      ])
    ]

    appended_no_report : (epoch round : ℕ) (a : AppendAnswer)
        → (IsLastStored s.order r (input.Message (says from to (body.Appended (record { epoch = epoch; round = round; answer = a })))) → ⊥)
        → NoReport (append_answered n s from a).messages
    appended_no_report epoch round (Stored long) other =
        subst (λ (x : RecoveryPhase). NoReport (stored_comes n s from long x).messages) (sym stores) (stored_no_report epoch round long other)
    appended_no_report epoch round _ other = tt

    fenced_no_report : (a : FenceReply) → NoReport (fence_answered n s from a).messages
    fenced_no_report (Log entries) = rw stores tt
    fenced_no_report _ = tt

    heard_no_report : (b : Body) → (IsLastStored s.order r (input.Message (says from to b)) → ⊥) → NoReport (on_master n (Recovering s) from b).messages
    unfolding on_master
    heard_no_report (body.FenceAnswer a) other = fenced_no_report a.answer
    heard_no_report (body.FrozenAnswer requests) other = rw stores tt
    heard_no_report (body.Appended a) other = appended_no_report a.epoch a.round a.answer other
    heard_no_report (body.Adopted a) other = tt
    heard_no_report (body.Update ask) other = ((λ k. cc (k.1)), tt)
    heard_no_report (body.Sync ask) other = ((λ k. cc (k.1)), tt)
    heard_no_report (body.Read ask) other = turned_no_report ask.request
    heard_no_report (body.Glance ask) other = turned_no_report ask.request
    heard_no_report _ other = tt

  pub at_nothing_else : (given : Input) → (IsLastStored s.order r given → ⊥) → NoReport (master_input n (Recovering s) given).messages
  at_nothing_else (input.Local order) other = ordered_no_report order
  at_nothing_else (input.Message m) other = heard_no_report m.from m.to m.body other
