-- What completes fits the machine: an update by its op in an adopted log, a read by the mark of one look.
use Rattle.std.proofs.Common.{◌≡◌, inl, inr, ℕ, zero, suc, ◌≤◌, ◌&&◌, ◌==◌, Bool, true, false, List, refl, ap, sym, ◌∙◌, subst, arith, Some, ◌⊎◌}
use Rattle.std.proofs.lemmas.Bool.{cases_lt}
use Rattle.std.proofs.lemmas.Bool.Decides.{nat_tests}
use Rattle.curp_base.specs.Words.{At, numbered}
use Rattle.curp_base.proofs.Lists.{at_some}
use Rattle.curp_cmd.specs.Node.{client_node, same_node}
use Rattle.curp_cmd.specs.RequestId.{same_id}
use Rattle.curp_cmd.specs.declared.command.Answer.{Answer}
use Rattle.curp_cmd.specs.declared.command.Command.{Command}
use Rattle.curp_cmd.specs.declared.command.RequestId.{RequestId}
use Rattle.curp_cmd.specs.declared.entry.Entry.{Entry}
use Rattle.curp_cmd.specs.declared.node.NodeId.{NodeId}
use Rattle.curp_cmd.proofs.Ids.{same_id-self}
use Rattle.curp_cmd.proofs.Nodes.{same_node-self, same_node-true}
use Rattle.curp_msg.specs.Moved.{says}
use Rattle.curp_msg.specs.declared.body.Body.TheVariants as body
use Rattle.curp_msg.specs.declared.body.Worth.{Worth}
use Rattle.curp_msg.specs.declared.config.PartConfig.{PartConfig}
use Rattle.curp_msg.specs.declared.machine.Capture.{Capture}
use Rattle.curp_order.specs.declared.Event.TheVariants.{Invoke}
use Rattle.curp_model.specs.Log.{IsDone}
use Rattle.curp_model.specs.Marks.{Looked, Mark, Place, is_capture, is_quick, is_update_mark}
use Rattle.curp_model.specs.World.{World}
use Rattle.curp_facts.specs.Facts.{Completable, HasLog, IsAdoptedNow, IsGiven, Lists, WasSent, hi_of, lists_of_part, lo_of, IsAmong}
use Rattle.curp_facts.specs.Kept.{AdoptedLog}
use Rattle.curp_facts.specs.Known.{Known}
use Rattle.curp_law_linear.specs.Hashes.{Part}
use Rattle.curp_law_linear.specs.Line as line
use Rattle.curp_law_linear.specs.Line.{QuickEarly}
use Rattle.curp_law_linear.specs.Moves.{CompleteFits, FlagFits, flags_mark}
use Rattle.curp_law_linear.specs.OfWorld.{line_of, part_of}
use Rattle.curp_law_linear.specs.Ordered.{Ordered, WorthOk, capture_of, QuickOk, Gated}
use Rattle.curp_law_linear.proofs.Parts.{entry_part, part_log}
use Rattle.curp_facts.specs.Migrated.{Migrated, OpStored}
use Rattle.curp_facts.specs.Predecessors.{Predecessors}
use Rattle.curp_law_runs.specs.Answered.{AnsweredBy}
use Rattle.curp_law_linear.proofs.ReadsLater.{looked_capture, quick_capture}
use Rattle.curp_facts.specs.Nodes.{WasSeen}
use Rattle.curp_law_linear.proofs.QuickBegins.{flag_fits}
use Rattle.curp_law_kept.proofs.Gives.{among_each}
use Rattle.curp_law_linear.proofs.CutMarks.{hit_capture}
use Rattle.curp_law_runs.proofs.Gives.{completable_at, completable_stands, stands_along}

module _ {w : World} (known : Known w) (chain : Predecessors w) (migrated : Migrated w) (ordered : Ordered w) where
  -- ---- updates

  -- an op that stands in an adopted log stands in that partition of the machine
  done_part : (c : PartConfig) (l : AdoptedLog w c) (id : RequestId) (a : Answer) → IsDone (lo_of w c.part) (hi_of w c.part) l.its.log id a
      → (p : Part) × (numbered (line_of w).parts c.part ≡ Some p) × IsDone p.lo p.hi p.log id a
  done_part c l id a done = (
    part_of w c,
    entry_part known c l.now,
    subst (λ (es : List Entry). IsDone (lo_of w c.part) (hi_of w c.part) es id a) (sym (part_log known c l)) done,
  )

  stored_part : (id : RequestId) (a : Answer) → OpStored w id a → (n : ℕ) × (p : Part) × (numbered (line_of w).parts n ≡ Some p) × IsDone p.lo p.hi p.log id a
  stored_part id a o = let d = done_part o.part o.its id a o.done in (o.part.part, d.0, d.1, d.2)

  -- the entry of a partition, and its adopted log where something of the partition was answered
  pub entry_of : (l : Lists) → IsGiven w l → (c : PartConfig) × IsAdoptedNow w c × (c.part ≡ l.part)
  entry_of l given = go l.part (known.names.given l given).part.0 (known.names.given l given).part.1
    where
      go : (n : ℕ) → 1 ≤ n → n ≤ w.manager.shape.parts → (c : PartConfig) × IsAdoptedNow w c × (c.part ≡ n)
      go zero low high = absurd (omega (arith, low))
      go (suc k) low high =
          let found = at_some w.manager.config.parts k (omega (arith, high, known.names.numbers.parts)) in
          let its : found.0.part ≡ suc k = omega (arith, known.names.entries k found.0 found.1) in
          (found.0, subst (λ (n : ℕ). numbered w.manager.config.parts n ≡ Some found.0) (sym its) found.1, its)

  pub answered_log : (c : PartConfig) → IsAdoptedNow w c → (id : RequestId) (a : Answer) → AnsweredBy w c.part id a → AdoptedLog w c
  answered_log c now id a k =
      let top = known.names.top c now in
      elim (cases_lt k.lists.epoch c.epoch) [
        | inl later ↦ let h = stands_along known.names known.inv chain c.part id a k (lists_of_part c) top.was refl later in record { now = now; its = h.its; its_log = h.its_log }
        | inr not_later ↦
            let low = top.epochs k.lists k.adopted k.its_part in
            let master : c.master ≡ k.lists.master = (known.names.agree (lists_of_part c) k.lists top.was.given k.adopted.given).by_epoch (sym k.its_part) (omega (arith, low, not_later)) in
            record { now = now; its = k.its; its_log = subst (λ (node : NodeId). HasLog w node k.its) (sym master) k.its_log }
      ]

  -- what can complete stands as an op in some adopted log
  pub completable_done : (part : ℕ) (id : RequestId) (a : Answer) → Completable w part id a → (n : ℕ) × (p : Part) × (numbered (line_of w).parts n ≡ Some p) × IsDone p.lo p.hi p.log id a
  completable_done part id a can =
      let k : AnsweredBy w part id a = completable_at known.names known.inv part id a can in
      let e = entry_of k.lists k.adopted.given in
      let same : part ≡ e.0.part = sym k.its_part ∙ sym e.2 in
      let l : AdoptedLog w e.0 = answered_log e.0 e.1 id a (subst (λ (n : ℕ). AnsweredBy w n id a) same k) in
      elim (completable_stands known.names known.inv chain e.0 e.1 id a (subst (λ (n : ℕ). Completable w n id a) same can) l.its l.its_log) [
        | inl done ↦ let d = done_part e.0 l id a done in (e.0.part, d.0, d.1, d.2)
        | inr brought ↦ stored_part id a (migrated.brought e.0 l brought.index brought.migration brought.brought id a brought.stands (record { place = brought.place; stands = brought.its_record }))
      ]

  -- ---- completions

  -- an update completes by an op in an adopted log
  pub update_fits : (id : RequestId) (a : Answer) → (part : ℕ) → Completable w part id a → (i : ℕ) (c : Command) → At w.history i (Invoke id c) → (line.IsCompleted w.history id → ⊥) → CompleteFits (line_of w) id a
  update_fits id a part can i c invoked waits =
      let d = completable_done part id a can in
      record { part = d.0; p = d.1; here = d.2; done = d.3; was_invoked = (i, c, invoked); waits = waits }

  -- a read completes by the mark of the look whose value it was sent
  pub read_fits : (node : NodeId) (v : Worth) → WasSent w (says node (client_node v.id.client) (body.Worth v)) → (line.IsCompleted w.history v.id → ⊥)
      → FlagFits (line_of w) (record { master = node; epoch = v.epoch; number = v.capture }) v.id v.answer
  read_fits node v sent waits =
      let ok : WorthOk w node v = ordered.worths node v sent in
      record {
        place = ok.look.place;
        m = ok.look.mark;
        stands = ok.look.stands;
        looks = ap is_update_mark ok.look.is_look;
        hits = hits ok.look.mark ok.look.its_id ok.look.its_master ok.look.its_epoch ok.long ok.look.is_look;
        only = λ k o at flags. let g = flags_look o flags in ordered.numbered_looks.once k ok.look.place v.capture o ok.look.mark at ok.look.stands g.1 (looked_capture v.capture ok.long ok.look.mark.place ok.look.is_look) (g.0 ∙ sym ok.look.its_master);
        waits = waits;
        gives = ok.look.gives;
        early = λ quick. absurd (let bad : false ≡ true = sym (ap is_quick ok.look.is_look) ∙ quick in cc);
      }
    where
      by : Capture
      by = record { master = node; epoch = v.epoch; number = v.capture }

      hits : (m : Mark) → m.id ≡ v.id → m.master ≡ node → m.epoch ≡ v.epoch → (long : ℕ) → m.place ≡ Looked v.capture long → flags_mark by v.id v.answer m ≡ true
      hits m id master epoch long place = go (same_id-true_of id) (same_node-true_of master) (eqb_of epoch) (capture_of place)
        where
          same_id-true_of : m.id ≡ v.id → same_id m.id v.id ≡ true
          same_id-true_of e = subst (λ (x : RequestId). same_id x v.id ≡ true) (sym e) (same_id-self v.id)

          same_node-true_of : m.master ≡ node → same_node m.master node ≡ true
          same_node-true_of e = subst (λ (x : NodeId). same_node x node ≡ true) (sym e) (same_node-self node)

          eqb_of : m.epoch ≡ v.epoch → (m.epoch == v.epoch) ≡ true
          eqb_of e = grind (arith, nat_tests)

          capture_of : m.place ≡ Looked v.capture long → is_capture v.capture m.place ≡ true
          capture_of e = subst (λ (x : Place). is_capture v.capture x ≡ true) (sym e) (eqb_self v.capture)
            where
              eqb_self : (n : ℕ) → (n == n) ≡ true
              eqb_self n = grind (arith, nat_tests)

          go : {a b c d : Bool} → a ≡ true → b ≡ true → c ≡ true → d ≡ true → (a && b && c && d) ≡ true
          go p q r s = cc

      -- a mark that the completion flags is of that capture
      flags_look : (o : Mark) → flags_mark by v.id v.answer o ≡ true → (o.master ≡ node) × (is_capture v.capture o.place ≡ true)
      flags_look o flags =
          let t = all_true (same_id o.id v.id) (same_node o.master node) (o.epoch == v.epoch) (is_capture v.capture o.place) flags in
          (same_node-true o.master node t.0, t.1)
        where
          all_true : (a b c d : Bool) → (a && b && c && d) ≡ true → (b ≡ true) × (d ≡ true)
          all_true true true true true e = (refl, refl)
          all_true true true true false e = absurd cc
          all_true true true false d e = absurd cc
          all_true true false c d e = absurd cc
          all_true false b c d e = absurd cc

  -- ---- a read that was answered at once

  -- its client has seen it, so each witness has called itself live
  pub seen_early : (id : RequestId) (a : Answer) (seen : WasSeen w id a) → QuickEarly (line_of w) (capture_of seen.lists.master seen.quick) seen.lists.part id a
  seen_early id a seen = go ok.time
    where
      sent : WasSent w (says seen.lists.master (client_node seen.quick.id.client) (body.Quick seen.quick))
      sent = subst (λ (i : RequestId). WasSent w (says seen.lists.master (client_node i.client) (body.Quick seen.quick))) (sym seen.its_id) seen.sent

      ok : QuickOk w seen.lists.master seen.quick
      ok = ordered.quicks seen.lists.master seen.quick sent

      same : ok.lists ≡ seen.lists
      same = (known.names.agree ok.lists seen.lists ok.adopted.given seen.adopted.given).by_version ok.its_master (ok.its_version ∙ seen.its_version)

      Early : RequestId → Answer → ℕ → Type 0
      Early i b part = QuickEarly (line_of w) (capture_of seen.lists.master seen.quick) part i b

      as_seen : Early seen.quick.id seen.quick.answer ok.lists.part → Early id a seen.lists.part
      as_seen early =
          subst (λ (l : Lists). Early id a l.part) same
          (subst (λ (i : RequestId). Early i a ok.lists.part) seen.its_id (subst (λ (b : Answer). Early seen.quick.id b ok.lists.part) seen.its_answer early))

      go : QuickEarly (line_of w) (capture_of seen.lists.master seen.quick) ok.lists.part seen.quick.id seen.quick.answer ⊎ Gated w ok.lists seen.lists.master seen.quick → Early id a seen.lists.part
      go (inl early) = as_seen early
      go (inr gate) =
          let named : IsAmong gate.witness seen.lists.witnesses = subst (λ (l : Lists). IsAmong gate.witness l.witnesses) same gate.named in
          let live = among_each (λ (x : NodeId). WasSent w (says x (client_node id.client) (body.Probed (record { id = id; epoch = seen.lists.epoch; live = true })))) seen.lists.witnesses seen.lives gate.witness named in
          as_seen (gate.opens (subst (λ (i : RequestId). WasSent w (says gate.witness (client_node i.client) (body.Probed (record { id = i; epoch = seen.quick.epoch; live = true })))) (sym seen.its_id)
          (subst (λ (e : ℕ). WasSent w (says gate.witness (client_node id.client) (body.Probed (record { id = id; epoch = e; live = true })))) (sym seen.its_epoch) live)))

  -- so it completes by its mark
  pub seen_fits : (id : RequestId) (a : Answer) (seen : WasSeen w id a) → (line.IsCompleted w.history id → ⊥) → FlagFits (line_of w) (capture_of seen.lists.master seen.quick) id a
  seen_fits id a seen waits =
      let early = seen_early id a seen in
      let g = early.its in
      flag_fits (line_of w) (capture_of seen.lists.master seen.quick) seen.lists.part id a early (λ k o at flags.
      let hit = hit_capture (record { id = id; answer = a; by = Some (capture_of seen.lists.master seen.quick) }) (capture_of seen.lists.master seen.quick) o flags in
      ordered.numbered_looks.once k g.place seen.quick.capture o g.mark at g.stands hit.1 (quick_capture seen.quick.capture g.mark.place g.is_quick) (hit.0 ∙ sym g.its_master)) waits
