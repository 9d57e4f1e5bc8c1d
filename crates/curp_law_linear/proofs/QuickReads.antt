-- A step in which a serving master answers a read at once keeps what is kept of reads.
use Rattle.std.proofs.Common.{◌≡◌, refl, ap, sym, ◌∙◌, subst, arith, true, Option, Some, ℕ, List, inl, inr, ◌⊎◌, ◌<◌, ◌+◌}
use Rattle.curp_law_linear.proofs.Puts.{Was, put_exact, put_filter}
use Rattle.curp_model.specs.World.{World}
use Rattle.curp_facts.specs.Known.{Known}
use Rattle.curp_facts.specs.Predecessors.{Predecessors}
use Rattle.curp_law_linear.specs.Ordered.{Ordered, LooksNumbered, LooksReached, IsLow, WorthOk, QuickOk, CaptureOk}
use Rattle.curp_cmd.specs.declared.node.NodeId.{NodeId}
use Rattle.curp_msg.specs.declared.body.Body.{Body}
use Rattle.curp_model.specs.Master.{MasterState, Acknowledged, from_backup}
use Rattle.curp_msg.specs.declared.message.Message.{Message}
use Rattle.curp_law_kept.proofs.Gives.{MasterStep, Follows, one_state, adopted_stays, step_follows, sent_cases}
use Rattle.curp_model.specs.Recovery.{Serving}
use Rattle.curp_law_linear.proofs.MastersGlance.{AnswersAtOnce}
use Rattle.curp_model.specs.Marks.{with_quick, Mark, cuts_part, is_capture, Looked, Quick}
use Rattle.curp_law_linear.proofs.QuickSteps.{mark_of, quick_of, QuickStep, quick_step}
use Rattle.curp_cmd.specs.Node.{master_node, client_node}
use Rattle.curp_msg.specs.declared.body.Quick.{Quick as QuickValue}
use Rattle.curp_facts.specs.Kept.{lists_of_master}
use Rattle.curp_law_linear.specs.Refined.{Refines, RefinesQuiet}
use Rattle.curp_facts.specs.Nodes.{ServingOk}
use Rattle.curp_law_linear.proofs.ReadsPassed.{capture_later}
use Rattle.curp_facts.specs.Facts.{WasSent}
use Rattle.curp_law_linear.proofs.ReadsLater.{ReadWas, ReadsOk, made_later, completed_later, older_later, quick_reached}
use Rattle.curp_base.specs.Words.{numbered, At, Each}
use Rattle.curp_law_linear.specs.OfWorld.{cuts}
use Rattle.std.proofs.lemmas.Bool.{eqb-true}
use Rattle.curp_model.specs.Named.{IsMaster}
use Rattle.curp_msg.specs.Moved.{says}
use Rattle.curp_base.proofs.Lists.{at_one, Each-weaker}
use Rattle.curp_law_linear.proofs.ReadsMoves.{NoneDrops, none_drops, worth_later}
use Rattle.curp_msg.specs.declared.body.Worth.{Worth}
use Rattle.curp_law_linear.proofs.QuickLater.{quick_later}
use Rattle.curp_law_linear.proofs.MastersCuts.{master_lives, master_entries, master_newer, master_late}
use Rattle.curp_law_linear.proofs.Cuts.{cuts_stay}
use Rattle.curp_law_linear.proofs.CutsTimes.{timed_stay}
use Rattle.curp_law_linear.proofs.ReadsStored.{looks_stored}
use Rattle.curp_msg.specs.declared.body.Body.TheVariants as body
use Rattle.curp_cmd.proofs.Nodes.{either_node}

-- an item stands at one place now
was_same : (c k l j : ℕ) → Was c k j → Was c l j → k ≡ l
was_same c k l j (inl v) (inl w) = sym v.1 ∙ w.1
was_same c k l j (inl v) (inr w) = absurd (omega (arith, v.0, v.1, w.0, w.1))
was_same c k l j (inr v) (inl w) = absurd (omega (arith, v.0, v.1, w.0, w.1))
was_same c k l j (inr v) (inr w) = v.1 ∙ sym w.1

module _ {w v : World} (known : Known w) (chain : Predecessors w) (ordered : Ordered w) (now : Known v) (later : Predecessors v) (n : ℕ) (from : NodeId) (heard : Option Body) (x y : MasterState) (out : List Message)
    (step : MasterStep w v n from heard (Serving x) (Serving y) out) (a : AnswersAtOnce n x heard y out)
    (marks : v.marks ≡ with_quick (mark_of known chain ordered now n from heard x y out step a) w.marks) where
  abbrev node : NodeId
  node = master_node n

  abbrev new : Mark
  new = mark_of known chain ordered now n from heard x y out step a

  abbrev q : QuickValue
  q = quick_of known chain ordered now n from heard x y out step a

  does : QuickStep w v (lists_of_master node x) node q new
  does = quick_step known chain ordered now n from heard x y out step a marks

  abbrev r : Refines w v
  r = does.refines.its

  follows : Follows w v
  follows = step_follows known step

  before : ServingOk w node x
  before = known.inv.masters node (Serving x) step.was

  of_state : {A : Type 0} (f : MasterState → A) → f y ≡ f (record x { captured = x.captured + 1 })
  of_state f = ap f a.state

  -- ---- marks

  mark_cases : (k : ℕ) (m : Mark) → At v.marks k m → ((j : ℕ) × Was does.place k j × At w.marks j m) ⊎ ((new ≡ m) × (k ≡ does.place))
  mark_cases k m at = put_exact new does.place w.marks does.within k m (subst (λ (ms : List Mark). At ms k m) does.marks at)

  old : (j : ℕ) (m : Mark) → At w.marks j m → ReadWas w v m
  old j m at = record { place = j; old = m; stands = at; its_master = refl; its_part = refl; its_epoch = refl; its_id = refl; its_place = refl; completed = λ e. inl e }

  cuts_same : (part : ℕ) → cuts part v.marks ≡ cuts part w.marks
  cuts_same part = ap (cuts part) does.marks ∙ put_filter new (cuts_part part) refl does.place w.marks

  new_number : (number : ℕ) (m : Mark) → new ≡ m → is_capture number m.place ≡ true → x.captured + 1 ≡ number
  new_number number m is cap = eqb-true (x.captured + 1) number (ap (λ (z : Mark). is_capture number z.place) is ∙ cap)

  -- no earlier read of the master has the new number
  not_before : (j number : ℕ) (m : Mark) → At w.marks j m → is_capture number m.place ≡ true → m.master ≡ node → x.captured + 1 ≡ number → ⊥
  not_before j number m at cap master is =
      let h = ordered.numbered_looks.made j number m at cap in
      let one : Serving h.0 ≡ Serving x = one_state _ (Serving h.0) (Serving x) (subst (λ (z : NodeId). numbered w.masters z.number ≡ Some (Serving h.0)) master h.1.its_state) step.was.its_state in
      omega (arith, h.2, is, captured one)
    where
      captured : {b c : MasterState} → Serving b ≡ Serving c → b.captured ≡ c.captured
      captured {b} {c} e = let same : b ≡ c = cc in ap (λ (z : MasterState). z.captured) same

  numbered_now : LooksNumbered v
  numbered_now = record {
    made = λ k number m at cap. elim (mark_cases k m at) [
      | inl o ↦ made_later follows ordered.numbered_looks number m cap (old o.0 m o.2)
      | inr its ↦ (
        y,
        subst (λ (z : NodeId). IsMaster v z (Serving y)) (ap (λ (z : Mark). z.master) its.0) step.is,
        omega (arith, new_number number m its.0 cap, of_state (λ (z : MasterState). z.captured)),
        of_state (λ (z : MasterState). z.part) ∙ ap (λ (z : Mark). z.part) its.0,
        of_state (λ (z : MasterState). z.epoch) ∙ ap (λ (z : Mark). z.epoch) its.0,
      )
    ];
    once = λ j k number m o at there cap too same. elim (mark_cases j m at) [
      | inl b ↦ elim (mark_cases k o there) [
        | inl c ↦
            let one = ordered.numbered_looks.once b.0 c.0 number m o b.2 c.2 cap too same in
            was_same does.place j k c.0 (subst (Was does.place j) one b.1) c.1
        | inr c ↦ absurd (not_before b.0 number m b.2 cap (same ∙ sym (ap (λ (z : Mark). z.master) c.0)) (new_number number o c.0 too))
      ]
      | inr b ↦ elim (mark_cases k o there) [
        | inl c ↦ absurd (not_before c.0 number o c.2 too (sym same ∙ sym (ap (λ (z : Mark). z.master) b.0)) (new_number number m b.0 cap))
        | inr c ↦ b.1 ∙ sym c.1
      ]
    ];
  }

  not_look : {number long : ℕ} (m : Mark) → new ≡ m → m.place ≡ Looked number long → ⊥
  not_look m is look = unlike (ap (λ (z : Mark). z.place) is ∙ look)
    where
      unlike : {b c d : ℕ} → Quick b ≡ Looked c d → ⊥
      unlike e = cc

  new_low : (number : ℕ) (m : Mark) → new ≡ m → m.place ≡ Quick number → IsLow v number m
  new_low number m is place =
      let same : x.captured + 1 ≡ number = numbers (ap (λ (z : Mark). z.place) is ∙ place) in
      subst (IsLow v number) is (subst (λ (k : ℕ). IsLow v k new) same (record { long = does.long; other = does.other; low = does.low; stored = does.stored }))
    where
      numbers : {b c : ℕ} → Quick b ≡ Quick c → b ≡ c
      numbers e = cc

  reached_now : LooksReached v
  reached_now = record {
    completed = λ k number long m at look completed. elim (mark_cases k m at) [
      | inl o ↦ completed_later follows ordered.reached number long m look completed (old o.0 m o.2)
      | inr its ↦ absurd (not_look m its.0 look)
    ];
    older = λ k number long m c at look here part earlier. elim (mark_cases k m at) [
      | inl o ↦ older_later follows ordered.reached number long m look (old o.0 m o.2) c part earlier (master_entries n from heard out (Serving x) (Serving y) step c here)
      | inr its ↦ absurd (not_look m its.0 look)
    ];
    quick = λ k number m at is. elim (mark_cases k m at) [
      | inl o ↦ quick_reached follows ordered r number m is (old o.0 m o.2)
      | inr its ↦ new_low number m its.0 is
    ];
  }

  -- ---- what is said

  abbrev said_now : Message
  said_now = says node (client_node q.id.client) (body.Quick q)

  -- what is said now is the Quick alone
  sent_now : (m : Message) → WasSent v m → WasSent w m ⊎ (m ≡ said_now)
  sent_now m sent = elim (sent_cases w v out step.frame.sent m sent) [
    | inl was ↦ inl was
    | inr among ↦ inr (sym (at_one said_now among.place m (subst (λ (ms : List Message). At ms among.place m) a.said among.stands)).1)
  ]

  none_drop : (part long : ℕ) → NoneDrops r.moves part long
  none_drop part long = none_drops r.moves does.refines.quiet part long

  worths : (other : NodeId) (z : Worth) → WasSent v (says other (client_node z.id.client) (body.Worth z)) → WorthOk v other z
  worths other z sent = elim (sent_now _ sent) [
    | inl was ↦ worth_later ordered r known chain follows (λ part long stored. none_drop part long) other z (ordered.worths other z was)
    | inr e ↦ absurd (unlike (ap (λ (m : Message). m.body) e))
  ]
    where
      unlike : {b : Worth} {c : QuickValue} → body.Worth b ≡ body.Quick c → ⊥
      unlike e = cc

  quick_now : QuickOk v node q
  quick_now = record {
    lists = lists_of_master node x;
    adopted = adopted_stays follows before.adopted;
    its_master = refl;
    its_epoch = refl;
    its_version = refl;
    gives = does.gives;
    time = does.time;
  }

  quicks : (other : NodeId) (z : QuickValue) → WasSent v (says other (client_node z.id.client) (body.Quick z)) → QuickOk v other z
  quicks other z sent = elim (sent_now _ sent) [
    | inl was ↦ quick_later ordered follows r (master_lives n from heard out (Serving x) (Serving y) step) other z (ordered.quicks other z was)
    | inr e ↦
        let same : z ≡ q = values (ap (λ (m : Message). m.body) e) in
        let own : other ≡ node = ap (λ (m : Message). m.from) e in
        subst (λ (u : QuickValue). QuickOk v other u) (sym same) (subst (λ (u : NodeId). QuickOk v u q) (sym own) quick_now)
  ]
    where
      values : {b c : QuickValue} → body.Quick b ≡ body.Quick c → b ≡ c
      values e = cc

  -- ---- captures

  own_captures : Each (CaptureOk v node y) y.captures
  own_captures = subst (Each (CaptureOk v node y)) (sym (of_state (λ (z : MasterState). z.captures)))
      (Each-weaker (CaptureOk w node x) (CaptureOk v node y) (λ c ok. capture_later known follows ordered r (master_newer n from heard out (Serving x) (Serving y) step) (master_late n from heard out (Serving x) (Serving y) step) node x y (of_state (λ (z : MasterState). z.part)) (of_state (λ (z : MasterState). z.epoch)) c
      (λ b low never. subst (λ (acks : List Acknowledged). (from_backup acks b).round < c.round) (sym (of_state (λ (z : MasterState). z.acknowledged))) low) ok (none_drop x.part c.length))
      x.captures (ordered.captures node x step.was))

  captures : (other : NodeId) (m : MasterState) → IsMaster v other (Serving m) → Each (CaptureOk v other m) m.captures
  captures other m is = elim (either_node other node) [
    | inl same ↦
        subst (λ (z : NodeId). Each (CaptureOk v z m) m.captures) (sym same)
        (subst (λ (z : MasterState). Each (CaptureOk v node z) z.captures) (states (one_state _ (Serving y) (Serving m) step.is.its_state (subst (λ (z : NodeId). numbered v.masters z.number ≡ Some (Serving m)) same is.its_state))) own_captures)
    | inr apart ↦
        let was = step.others other (Serving m) apart is in
        Each-weaker (CaptureOk w other m) (CaptureOk v other m)
        (λ c ok. capture_later known follows ordered r (master_newer n from heard out (Serving x) (Serving y) step) (master_late n from heard out (Serving x) (Serving y) step) other m m refl refl c (λ b low never. low) ok (none_drop m.part c.length)) m.captures (ordered.captures other m was)
  ]
    where
      states : {b c : MasterState} → Serving b ≡ Serving c → b ≡ c
      states e = cc

  -- ---- all together

  pub quick_refines : RefinesQuiet w v
  quick_refines = does.refines

  pub quick_reads : ReadsOk v
  quick_reads = record {
    cuts_follow = cuts_stay known chain now follows (master_entries n from heard out (Serving x) (Serving y) step) (master_newer n from heard out (Serving x) (Serving y) step) cuts_same ordered.cuts_follow;
    cuts_timed = timed_stay known chain ordered now follows r (master_lives n from heard out (Serving x) (Serving y) step) cuts_same;
    numbered_looks = numbered_now;
    worths = worths;
    quicks = quicks;
    captures = captures;
    reached = reached_now;
    stored = looks_stored now later reached_now;
  }
