-- A read that was answered at once is kept, and what is known of it, through the moves of a step.
use Rattle.curp_law_linear.specs.Moves.{LineMove, AllFit, all_after, after}
use Rattle.curp_law_linear.specs.Line.{LineState, LineOk, QuickGives, QuickEarly, QuickLow}
use Rattle.curp_law_linear.proofs.Given.{LogsOk}
use Rattle.curp_msg.specs.declared.machine.Capture.{Capture}
use Rattle.curp_cmd.specs.declared.command.RequestId.{RequestId}
use Rattle.curp_cmd.specs.declared.command.Answer.{Answer}
use Rattle.curp_law_linear.proofs.Keeps.{keeps}
use Rattle.curp_law_linear.proofs.Discharged.{pure, second}
use Rattle.curp_law_linear.proofs.QuickLaws.{quick_stays, low_stays}
use Rattle.curp_law_linear.proofs.QuickRuns.{early_on}
use Rattle.curp_model.specs.World.{World}
use Rattle.curp_law_linear.specs.Ordered.{Ordered, IsLow, QuickOk, capture_of}
use Rattle.curp_law_kept.proofs.Gives.{Follows, adopted_stays, witness_later}
use Rattle.curp_law_linear.specs.Refined.{Refines}
use Rattle.curp_model.specs.Marks.{Mark}
use Rattle.curp_law_linear.specs.OfWorld.{line_of}
use Rattle.curp_law_linear.proofs.ReadsStored.{from_stays}
use Rattle.curp_law_linear.proofs.ReadsPassed.{NoneLives}
use Rattle.curp_cmd.specs.declared.node.NodeId.{NodeId}
use Rattle.curp_msg.specs.declared.body.Quick.{Quick as QuickValue}
use Rattle.curp_model.specs.Witness.{WitnessState}
use Rattle.curp_cmd.specs.Node.{client_node}
use Rattle.std.proofs.Common.{subst, true, ℕ, List, ap, refl, inl, inr, ◌∙◌, ◌∷◌, []}

gives_on : (ms : List LineMove) (s : LineState) → AllFit LogsOk s ms → LineOk s → (by : Capture) (part : ℕ) (id : RequestId) (a : Answer) → QuickGives s.marks by part id a → QuickGives (all_after s ms).marks by part id a
gives_on [] s fits ok by part id a g = g
gives_on (m ∷ ms) s fits ok by part id a g = gives_on ms (after s m) fits.2 (keeps pure second s m fits.0 fits.1 ok) by part id a (quick_stays pure second s m fits.0 fits.1 ok by part id a g)

low_on : (ms : List LineMove) (s : LineState) → AllFit LogsOk s ms → LineOk s → (by : Capture) (part long : ℕ) (id : RequestId) → QuickLow s.marks by part long id → QuickLow (all_after s ms).marks by part long id
low_on [] s fits ok by part long id g = g
low_on (m ∷ ms) s fits ok by part long id g = low_on ms (after s m) fits.2 (keeps pure second s m fits.0 fits.1 ok) by part long id (low_stays pure second s m fits.0 fits.1 ok by part long id g)

module _ {w v : World} (ordered : Ordered w) (s : Follows w v) (r : Refines w v) where
  -- what is uncompleted before the mark is stored still
  pub low_later : (number : ℕ) (m : Mark) → IsLow w number m → IsLow v number m
  low_later number m h = record {
    long = h.long;
    other = h.other;
    low = subst (λ (l : LineState). QuickLow l.marks (record { master = m.master; epoch = m.epoch; number = number }) m.part h.long m.id) r.leads
        (low_on r.moves (line_of w) r.fit ordered.line (record { master = m.master; epoch = m.epoch; number = number }) m.part h.long m.id h.low);
    stored = from_stays s h.other m.part h.long h.stored;
  }

  gives_later : (by : Capture) (part : ℕ) (id : RequestId) (a : Answer) → QuickGives w.marks by part id a → QuickGives v.marks by part id a
  gives_later by part id a g = subst (λ (l : LineState). QuickGives l.marks by part id a) r.leads (gives_on r.moves (line_of w) r.fit ordered.line by part id a g)

  early_later : (by : Capture) (part : ℕ) (id : RequestId) (a : Answer) → QuickEarly (line_of w) by part id a → QuickEarly (line_of v) by part id a
  early_later by part id a g = subst (λ (l : LineState). QuickEarly l by part id a) r.leads (early_on r.moves (line_of w) r.fit ordered.line by part id a g)

  -- so is a read that was answered at once
  pub quick_later : NoneLives w v → (node : NodeId) (q : QuickValue) → QuickOk w node q → QuickOk v node q
  quick_later lives node q ok = record {
    lists = ok.lists;
    adopted = adopted_stays s ok.adopted;
    its_master = ok.its_master;
    its_epoch = ok.its_epoch;
    its_version = ok.its_version;
    gives = gives_later (capture_of node q) ok.lists.part q.id q.answer ok.gives;
    time = elim ok.time [
      | inl early ↦ inl (early_later (capture_of node q) ok.lists.part q.id q.answer early)
      | inr gate ↦
          let o = witness_later s gate.witness gate.x gate.is in
          inr (record {
            witness = gate.witness;
            named = gate.named;
            x = o.0;
            is = o.1;
            frozen = ap (λ (z : WitnessState). z.mode) (o.2.frozen gate.frozen) ∙ gate.frozen;
            opens = λ live. early_later (capture_of node q) ok.lists.part q.id q.answer
                (gate.opens (lives gate.witness (client_node q.id.client) gate.x (record { id = q.id; epoch = q.epoch; live = true }) gate.is gate.frozen refl live));
          })
    ];
  }
