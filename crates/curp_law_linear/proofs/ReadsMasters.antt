-- A step of a serving master keeps what is kept of reads.
use Rattle.std.proofs.Common.{◌≡◌, ◌≢◌, ◌⊎◌, inl, inr, ℕ, ◌+◌, ◌<◌, ◌≤◌, Bool, true, false, cond, if◌then◌else◌, List, [], ◌∷◌, ◌++◌, length, refl, ap, sym, ◌∙◌, subst, arith, Option, Some, ◌==◌}
use Rattle.curp_base.specs.Words.{At, Each, numbered}
use Rattle.curp_base.proofs.Lists.{Each-append, Each-weaker, at_append_cases, at_one, at_push, prefix_length}
use Rattle.curp_cmd.specs.Node.{client_node, master_node, same_node}
use Rattle.curp_cmd.specs.declared.node.NodeId.{NodeId}
use Rattle.curp_cmd.specs.declared.node.NodeKind.TheVariants as kind
use Rattle.curp_msg.specs.Moved.{says, sends}
use Rattle.curp_msg.specs.declared.answer.AppendAnswer.{AppendAnswer}
use Rattle.curp_msg.specs.declared.answer.AppendAnswer.TheVariants.{Stored}
use Rattle.curp_msg.specs.declared.body.Appended.{Appended}
use Rattle.curp_msg.specs.declared.body.Body.{Body}
use Rattle.curp_msg.specs.declared.body.Body.TheVariants as body
use Rattle.curp_msg.specs.declared.body.Worth.{Worth}
use Rattle.curp_msg.specs.declared.config.PartConfig.{PartConfig}
use Rattle.curp_msg.specs.declared.message.Message.{Message}
use Rattle.curp_model.specs.Marks.{Looked, Mark, is_capture, Quick}
use Rattle.curp_model.specs.Master.{Acknowledged, Captured, MasterState, from_backup}
use Rattle.curp_model.specs.Named.{IsMaster}
use Rattle.curp_model.specs.Recovery.{Serving}
use Rattle.curp_model.specs.World.{World, capture_mark, is_adopted, pushed_marks}
use Rattle.curp_facts.specs.Facts.{IsAdoptedNow, IsAmong, Logged, WasSent, lists_of_part}
use Rattle.curp_facts.specs.Growth.{MasterGrows, ServesOn}
use Rattle.curp_facts.specs.Kept.{NeverSoLate, lists_of_master}
use Rattle.curp_facts.specs.Nodes.{AcknowledgedOk, CapturedOk, ServingOk}
use Rattle.curp_facts.specs.Said.{AppendHolds, AppendSaid, AppendedSaid}
use Rattle.curp_facts.specs.Known.{Known}
use Rattle.curp_law_kept.proofs.Gives.{fits, said, one_log, MasterStep, step_follows, sent_cases, sent_back, among_each, Follows, adopted_stays, one_state, serving_later}
use Rattle.curp_law_linear.specs.Ordered.{CaptureOk, CutsFollow, LooksNumbered, LooksReached, Ordered, WorthOk, CutsTimed, QuickOk}
use Rattle.curp_law_linear.specs.Refined.{Refines}
use Rattle.curp_law_linear.proofs.ReadsAdopted.{later_entry, new_look, own_entry}
use Rattle.curp_law_linear.proofs.ReadsCaptures.{CapturesMove, CapturesRead, Fewer, HeardStored, OneMore, ReadsMove, SaysValue, ValueOf}
use Rattle.curp_law_linear.proofs.ReadsLater.{EntryStays, ReadWas, ReadsOk, completed_later, made_later, older_later, looked_capture, quick_capture, quick_reached}
use Rattle.curp_law_linear.proofs.ReadsMarks.{MarksMove, NoLooks, OneLook, marks_move, pushed_one}
use Rattle.curp_law_linear.specs.Refined.{NoAdoption}
use Rattle.curp_law_linear.proofs.ReadsMoves.{none_drops, worth_later}
use Rattle.curp_law_linear.proofs.ReadsPassed.{KnowsNoLater, NewerLists, NoneLate, capture_later}
use Rattle.curp_law_linear.proofs.ReadsReady.{passed_new, ready_looks, ready_stored}
use Rattle.curp_law_linear.proofs.ReadsStored.{looks_stored}
use Rattle.curp_law_kept.specs.Moves.{IsSaidBy, ServingMove, ServingSays, WorthSays}
use Rattle.curp_facts.specs.Predecessors.{Predecessors}
use Rattle.curp_law_linear.proofs.QuickLater.{quick_later}
use Rattle.curp_msg.specs.declared.body.Quick.{Quick as QuickValue}
use Rattle.curp_law_linear.proofs.MastersCuts.{master_lives, master_entries, master_newer, master_late}
use Rattle.std.proofs.lemmas.Bool.{eqb-true}
use Rattle.curp_cmd.proofs.Nodes.{either_node}

module _ {w v : World} (known : Known w) (now : Known v) (chain : Predecessors w) (later : Predecessors v) (ordered : Ordered w) {n : ℕ} {from : NodeId} {heard : Option Body} {x y : MasterState} {out : List Message}
    (s : MasterStep w v n from heard (Serving x) (Serving y) out) (reads : ReadsMove x from heard (sends y out)) (r : Refines w v) (none : Each NoAdoption r.moves) where
  abbrev node : NodeId
  node = master_node n

  follows : Follows w v
  follows = step_follows known s

  move : ServingMove w n x from heard (sends y out)
  move = s.move

  before : ServingOk w node x
  before = known.inv.masters node (Serving x) s.was

  after : ServingOk v node y
  after = now.inv.masters node (Serving y) s.is

  goes : ServesOn x y
  goes = on (serving_later follows node x s.was)
    where
      state : {a b : MasterState} → Serving a ≡ Serving b → a ≡ b
      state e = cc

      on : (k : MasterState) × IsMaster v node (Serving k) × MasterGrows (Serving x) (Serving k) → ServesOn x y
      on o = subst (ServesOn x) (state (one_state _ (Serving o.0) (Serving y) o.1.its_state s.is.its_state)) o.2.life

  -- what another node has said it said before
  said_before : (other to : NodeId) (b : Body) → other ≢ node → WasSent v (says other to b) → WasSent w (says other to b)
  said_before other to b apart sent = sent_back w v out s.frame.sent node s.frame.all (says other to b) sent apart

  another : (other : NodeId) → other.kind ≡ kind.Backup → other ≢ node
  another other is same = kinds (sym is ∙ ap (λ (z : NodeId). z.kind) same)
    where
      kinds : kind.Backup ≡ kind.Master → ⊥
      kinds e = cc

  newer : NewerLists w v
  newer = master_newer n from heard out (Serving x) (Serving y) s

  late : NoneLate w v
  late = master_late n from heard out (Serving x) (Serving y) s

  abbrev entry_stays : (c : PartConfig) → IsAdoptedNow v c → EntryStays w c
  entry_stays c here = master_entries n from heard out (Serving x) (Serving y) s c here

  -- ---- rounds

  from_begun : (acks : List Acknowledged) → Each (AcknowledgedOk w x) acks → (b : NodeId) → (from_backup acks b).round ≤ x.round
  from_begun [] all b = omega arith
  from_begun (a ∷ rest) all b = go (same_node a.backup b) (from_begun rest all.1 b)
    where
      go : (t : Bool) → (from_backup rest b).round ≤ x.round → (cond t a (from_backup rest b)).round ≤ x.round
      go true more = all.0.begun
      go false more = more

  -- what a backup has stored was sent in a round that was begun
  stored_begun : (b : NodeId) (a : Appended) (long : ℕ) → WasSent w (says b node (body.Appended a)) → a.answer ≡ Stored long → a.round ≤ x.round
  stored_begun b a long sent stored = go a.answer stored (said known b node (body.Appended a) sent).1
    where
      go : (o : AppendAnswer) → o ≡ Stored long → AppendHolds w b node a o → a.round ≤ x.round
      go (Stored other) e ok =
          let append : AppendSaid w node b ok.append = said known node b (body.Append ok.append) ok.sent in
          let one : append.holds.l ≡ record { log = x.log; round = x.round } = one_log w node _ _ append.holds.its_log (record { m = Serving x; is = s.was; its_log = refl }) in
          omega (arith, append.holds.begun, ok.its_round, ap (λ (l : Logged). l.round) one)
      go _ e ok = absurd cc

  -- an answer to an append is of the master's epoch
  its_epoch : (b : NodeId) (a : Appended) → WasSent w (says b node (body.Appended a)) → a.epoch ≡ x.epoch
  its_epoch b a sent =
      let ok : AppendedSaid w b node a = (said known b node (body.Appended a) sent).0 in
      sym ok.its_epoch ∙ ((known.names.agree ok.lists (lists_of_master node x) ok.given before.adopted.given).by_master ok.its_master).1

  heard_sent : (b : NodeId) (round : ℕ) → b ≡ from → (h : HeardStored heard round) → WasSent w (says b node (body.Appended h.a))
  heard_sent b round same h = subst (λ (z : NodeId). WasSent w (says z node (body.Appended h.a))) (sym same) (s.came (body.Appended h.a) h.is)

  -- the master learns of no later round than those that the backup has said
  knows : (c : Captured) (b : NodeId) → KnowsNoLater x c b
      → ((a : Appended) (long : ℕ) → WasSent w (says b node (body.Appended a)) → a.epoch ≡ x.epoch → a.answer ≡ Stored long → a.round < c.round) → KnowsNoLater y c b
  knows c b low never = elim (reads.rounds b) [
    | inl same ↦ omega (arith, low, same)
    | inr h ↦ let sent = heard_sent b _ h.0 h.1 in omega (arith, h.1.late, never h.1.a h.1.long sent (its_epoch b h.1.a sent) h.1.stored)
  ]

  -- a capture that the master had
  old_capture : (c : Captured) → CaptureOk w node x c → CaptureOk v node y c
  old_capture c ok = capture_later known follows ordered r newer late node x y goes.part goes.epoch c (knows c) ok (none_drops r.moves none x.part c.length)

  old_captures : (c : Captured) → IsAmong c x.captures → CaptureOk v node y c
  old_captures c a = old_capture c (among_each (CaptureOk w node x) x.captures (ordered.captures node x s.was) c a)

  -- ---- values

  new_worth : (v' : Worth) → ValueOf x y v' → WorthSays w y (client_node v'.id.client) v' → WorthOk v node v'
  new_worth v' k ok =
      let within : k.c.length ≤ length y.log = omega (arith, (among_each (CapturedOk w x) x.captures before.captures k.c k.waited).within, prefix_length goes.log) in
      let look = ready_looks now node y s.is later ok.serves k.c k.ready (old_captures k.c k.waited) in
      record {
        lists = lists_of_master node y;
        adopted = after.adopted;
        its_master = refl;
        its_epoch = sym ok.its_epoch;
        long = k.c.length;
        look = record {
          place = look.place;
          mark = look.mark;
          stands = look.stands;
          its_master = look.its_master;
          its_epoch = look.its_epoch ∙ sym ok.its_epoch;
          its_part = look.its_part;
          its_id = look.its_id ∙ sym k.its_id;
          is_look = look.is_look ∙ ap (λ (i : ℕ). Looked i k.c.length) (sym k.its_number);
          gives = look.gives ∙ sym k.its_answer;
        };
        stored = ready_stored now node y s.is ok.serves k.c within k.ready;
      }

  worths : (other : NodeId) (v' : Worth) → WasSent v (says other (client_node v'.id.client) (body.Worth v')) → WorthOk v other v'
  worths other v' sent = elim (sent_cases w v out s.frame.sent _ sent) [
    | inl was ↦ worth_later ordered r known chain follows (λ part long stored. none_drops r.moves none part long) other v' (ordered.worths other v' was)
    | inr new ↦
        let said_now = among_each (IsSaidBy n (ServingSays w y)) out move.says _ new in
        let value : ValueOf x y v' = among_each (λ (m : Message). SaysValue x y m.body) out reads.values _ new in
        subst (λ (z : NodeId). WorthOk v z v') (sym said_now.sender) (new_worth v' value said_now.says_so)
  ]

  -- a Quick that was sent was sent before
  quicks : (other : NodeId) (q : QuickValue) → WasSent v (says other (client_node q.id.client) (body.Quick q)) → QuickOk v other q
  quicks other q sent = elim (sent_cases w v out s.frame.sent _ sent) [
    | inl was ↦ quick_later ordered follows r (master_lives n from heard out (Serving x) (Serving y) s) other q (ordered.quicks other q was)
    | inr new ↦ absurd (among_each (λ (m : Message). SaysValue x y m.body) out reads.values _ new)
  ]

  -- ---- marks

  module _ (marks : v.marks ≡ (if is_adopted w.manager node then w.marks ++ pushed_marks node x y else w.marks)) where
    -- the mark of the read that is captured now
    record NewMark (k number : ℕ) (m : Mark) : Type 0 where
      place : k ≡ length w.marks
      c : Captured
      adopted : is_adopted w.manager node ≡ true
      next : y.captured ≡ x.captured + 1
      is : m ≡ capture_mark node y.part y.epoch c
      its_number : number ≡ x.captured + 1

    look_cases : (k number : ℕ) (m : Mark) → At v.marks k m → is_capture number m.place ≡ true → At w.marks k m ⊎ NewMark k number m
    look_cases k number m at cap = go (marks_move w node x y before.captures reads.captures (is_adopted w.manager node) w.marks v.marks marks)
      where
        go : MarksMove node x y (is_adopted w.manager node) w.marks v.marks → At w.marks k m ⊎ NewMark k number m
        go (NoLooks more is nothing) = elim (at_append_cases w.marks more k m (subst (λ (ms : List Mark). At ms k m) is at)) [
          | inl old ↦ inl old
          | inr new ↦ absurd (nothing new.0 number m new.2 cap)
        ]
        go (OneLook c adopted is next more read) = elim (at_append_cases w.marks (capture_mark node y.part y.epoch c ∷ []) k m (subst (λ (ms : List Mark). At ms k m) is at)) [
          | inl old ↦ inl old
          | inr new ↦
              let one = at_one (capture_mark node y.part y.epoch c) new.0 m new.2 in
              let number_is : (c.number == number) ≡ true = ap (λ (z : Mark). is_capture number z.place) one.1 ∙ cap in
              inr (record {
                place = omega (arith, new.1, one.0);
                c = c;
                adopted = adopted;
                next = next;
                is = sym one.1;
                its_number = sym (eqb-true c.number number number_is) ∙ read.number;
              })
        ]

    abbrev old_look : (k : ℕ) (m : Mark) → At w.marks k m → ReadWas w v m
    old_look k m at = record { place = k; old = m; stands = at; its_master = refl; its_part = refl; its_epoch = refl; its_id = refl; its_place = refl; completed = λ e. inl e }

    -- no earlier read of the master has the new number
    not_before : (k number : ℕ) (m : Mark) → At w.marks k m → is_capture number m.place ≡ true → m.master ≡ node → number ≡ x.captured + 1 → ⊥
    not_before k number m at cap master is =
        let h = ordered.numbered_looks.made k number m at cap in
        let one : Serving h.0 ≡ Serving x = one_state _ (Serving h.0) (Serving x) (subst (λ (z : NodeId). numbered w.masters z.number ≡ Some (Serving h.0)) master h.1.its_state) s.was.its_state in
        omega (arith, h.2, is, captured one)
      where
        captured : {a b : MasterState} → Serving a ≡ Serving b → a.captured ≡ b.captured
        captured {a} {b} e = let same : a ≡ b = cc in ap (λ (z : MasterState). z.captured) same

    numbered_now : LooksNumbered v
    numbered_now = record {
      made = λ k number m at cap. elim (look_cases k number m at cap) [
        | inl old ↦ made_later follows ordered.numbered_looks number m cap (old_look k m old)
        | inr new ↦ (
          y,
          subst (λ (z : NodeId). IsMaster v z (Serving y)) (ap (λ (z : Mark). z.master) (sym new.is)) s.is,
          omega (arith, new.its_number, new.next),
          ap (λ (z : Mark). z.part) (sym new.is),
          ap (λ (z : Mark). z.epoch) (sym new.is),
        )
      ];
      once = λ j k number m o at there cap too same. elim (look_cases j number m at cap) [
        | inl old ↦ elim (look_cases k number o there too) [
          | inl older ↦ ordered.numbered_looks.once j k number m o old older cap too same
          | inr new ↦ absurd (not_before j number m old cap (same ∙ ap (λ (z : Mark). z.master) new.is) new.its_number)
        ]
        | inr new ↦ elim (look_cases k number o there too) [
          | inl older ↦ absurd (not_before k number o older too (sym same ∙ ap (λ (z : Mark). z.master) new.is) new.its_number)
          | inr newer_one ↦ new.place ∙ sym newer_one.place
        ]
      ];
    }

    reached_now : LooksReached v
    reached_now = record {
      completed = λ k number long m at look completed. elim (look_cases k number m at (looked_capture number long m.place look)) [
        | inl old ↦ completed_later follows ordered.reached number long m look completed (old_look k m old)
        | inr new ↦ absurd (uncompleted (sym (ap (λ (z : Mark). z.completed) new.is) ∙ completed))
      ];
      older = λ k number long m c at look here part earlier. elim (look_cases k number m at (looked_capture number long m.place look)) [
        | inl old ↦ older_later follows ordered.reached number long m look (old_look k m old) c part earlier (entry_stays c here)
        | inr new ↦
            let own = own_entry known node x s.was new.adopted in
            let same_part : c.part ≡ own.entry.part = part ∙ ap (λ (z : Mark). z.part) new.is ∙ goes.part ∙ sym own.its_part in
            let one : c ≡ own.entry = one_state _ c own.entry (subst (λ (p : ℕ). numbered w.manager.config.parts p ≡ Some c) same_part (entry_stays c here).now) own.now in
            absurd (omega (arith, earlier, ap (λ (z : PartConfig). z.epoch) one, own.its_epoch, goes.epoch, ap (λ (z : Mark). z.epoch) new.is))
      ];
      quick = λ k number m at is. elim (look_cases k number m at (quick_capture number m.place is)) [
        | inl old ↦ quick_reached follows ordered r number m is (old_look k m old)
        | inr new ↦ absurd (unlike (sym (ap (λ (z : Mark). z.place) new.is) ∙ is))
      ];
    }
      where
        uncompleted : false ≡ true → ⊥
        uncompleted e = cc

        unlike : {a b c : ℕ} → Looked a b ≡ Quick c → ⊥
        unlike e = cc

    -- ---- captures

    one_marked : (c : Captured) → y.captures ≡ x.captures ++ c ∷ [] → CapturesRead x y c → is_adopted w.manager node ≡ true → v.marks ≡ w.marks ++ capture_mark node y.part y.epoch c ∷ []
    one_marked c more read adopted =
        marks ∙ ap (λ (b : Bool). if b then w.marks ++ pushed_marks node x y else w.marks) adopted ∙ ap (λ (ms : List Mark). w.marks ++ ms) (pushed_one w node x y before.captures c more read)

    -- no backup has seen the round of a capture that is made now
    never_late : (c : Captured) → CapturesRead x y c → (b : NodeId) → NeverSoLate v (lists_of_master node y) y c b
    never_late c read b = record {
      known = elim (reads.rounds b) [
        | inl same ↦ omega (arith, same, from_begun x.acknowledged before.acknowledged b, read.round)
        | inr h ↦ omega (arith, h.1.late, stored_begun b h.1.a h.1.long (heard_sent b _ h.0 h.1) h.1.stored, read.round)
      ];
      sent = λ a long sent epoch stored.
          omega (arith, stored_begun b a long (said_before b node (body.Appended a) (another b (fits now (says b node (body.Appended a)) sent).sender.0) sent) stored, read.round);
    }

    new_capture : (c : Captured) → y.captures ≡ x.captures ++ c ∷ [] → CapturesRead x y c → CaptureOk v node y c
    new_capture c more read = go (is_adopted w.manager node) refl
      where
        captured : CapturedOk w y c
        captured = among_each (CapturedOk w y) y.captures move.captures c
            (subst (λ (cs : List Captured). IsAmong c cs) (sym more) (record { place = length x.captures; stands = at_push x.captures c (length x.captures) refl }))

        go : (b : Bool) → is_adopted w.manager node ≡ b → CaptureOk v node y c
        go true is = inl (new_look known node x s.was ordered is y c read captured v.marks goes.part goes.epoch (one_marked c more read is))
        go false is =
            let e = later_entry known node x s.was is in
            inr (passed_new now later node y s.is c (lists_of_part e.entry) (adopted_stays follows (known.names.top e.entry e.now).was) (e.its_part ∙ sym goes.part) (omega (arith, e.above, goes.epoch)) (never_late c read))

    own_captures : Each (CaptureOk v node y) y.captures
    own_captures = go reads.captures
      where
        go : CapturesMove x y → Each (CaptureOk v node y) y.captures
        go (Fewer same among) = Each-weaker (λ (c : Captured). IsAmong c x.captures) (CaptureOk v node y) old_captures y.captures among
        go (OneMore c next more read) = subst (Each (CaptureOk v node y)) (sym more)
            (Each-append (CaptureOk v node y) x.captures (c ∷ []) (Each-weaker (CaptureOk w node x) (CaptureOk v node y) old_capture x.captures (ordered.captures node x s.was)) (new_capture c more read, tt))

    captures : (other : NodeId) (m : MasterState) → IsMaster v other (Serving m) → Each (CaptureOk v other m) m.captures
    captures other m is = elim (either_node other node) [
      | inl same ↦
          subst (λ (z : NodeId). Each (CaptureOk v z m) m.captures) (sym same)
          (subst (λ (z : MasterState). Each (CaptureOk v node z) z.captures) (states (one_state _ (Serving y) (Serving m) s.is.its_state (subst (λ (z : NodeId). numbered v.masters z.number ≡ Some (Serving m)) same is.its_state))) own_captures)
      | inr apart ↦
          let was = s.others other (Serving m) apart is in
          Each-weaker (CaptureOk w other m) (CaptureOk v other m)
          (λ c ok. capture_later known follows ordered r newer late other m m refl refl c (λ b low never. low) ok (none_drops r.moves none m.part c.length)) m.captures (ordered.captures other m was)
    ]
      where
        states : {a b : MasterState} → Serving a ≡ Serving b → a ≡ b
        states e = cc

    -- an input to a serving master keeps what is kept of reads
    pub serving_step_reads : CutsFollow v → CutsTimed v → ReadsOk v
    serving_step_reads cuts_follow cuts_timed = record {
      cuts_follow = cuts_follow;
      cuts_timed = cuts_timed;
      numbered_looks = numbered_now;
      worths = worths;
      quicks = quicks;
      captures = captures;
      reached = reached_now;
      stored = looks_stored now later reached_now;
    }
