-- A read that a serving master answers at once is a move of the machine: at the end where the master is adopted, else before the
-- mark of the adoption that superseded it.
use Rattle.std.proofs.Common.{◌≡◌, refl, ap, sym, ◌∙◌, subst, arith, append-nil, take-append-drop, true, false, Option, Some, ℕ, List, length, drop, take, subst₂, ap₂, inl, inr, suc, flat_map, ◌⊎◌, ◌≤◌, ◌<◌, ◌++◌, ◌∷◌, ◌+◌, []}
use Rattle.curp_model.specs.World.{World, messages}
use Rattle.curp_facts.specs.Facts.{Lists, IsAdoptedNow, lists_of_part, lo_of, hi_of, WasSent, IsAmong}
use Rattle.curp_cmd.specs.declared.node.NodeId.{NodeId}
use Rattle.curp_model.specs.Marks.{Mark, quick, cuts_part, with_quick}
use Rattle.curp_law_linear.specs.Moves.{put_before, Look, LookFits, Late, LateFits, Quicks, Lates, quickly, late_quickly}
use Rattle.curp_law_linear.specs.Refined.{RefinesQuiet}
use Rattle.curp_law_linear.specs.Line.{QuickGives, QuickEarly, QuickLow, WasInvoked, LineState, Left, IsFirm, CutEarly}
use Rattle.curp_law_linear.specs.Ordered.{capture_of, Gated, StoredFrom, IsStored, Ordered, CutsFollow, reign_in}
use Rattle.curp_law_linear.specs.OfWorld.{line_of, cuts, reigns, reign_of, Reign, cut_length, left_of, left_at, log_of, entries_at, moving_of, part_of, told_by}
use Rattle.curp_facts.specs.Known.{Known}
use Rattle.curp_facts.specs.Predecessors.{Predecessors}
use Rattle.curp_law_kept.proofs.Gives.{MasterStep, Follows, witness_later, step_follows, synced_within, synced_many, each_touched, owns_touched, clean_apart, among_each, said}
use Rattle.curp_law_linear.proofs.MastersGlance.{AnswersAtOnce}
use Rattle.curp_msg.specs.declared.body.Quick.{Quick as QuickValue}
use Rattle.curp_msg.specs.declared.machine.Capture.{Capture}
use Rattle.curp_facts.specs.Nodes.{ServingOk}
use Rattle.curp_model.specs.Recovery.{Serving}
use Rattle.curp_facts.specs.Said.{ReadSaid}
use Rattle.curp_law_kept.specs.Moves.{QuickSays, IsSaidBy, ServingSays}
use Rattle.curp_model.specs.Master.{Open, synced, state_of, MasterState}
use Rattle.curp_law_linear.proofs.Given.{LogsOk}
use Rattle.curp_law_linear.proofs.Parts.{line_logs, entry_part}
use Rattle.curp_cmd.specs.Store.{applied}
use Rattle.curp_model.specs.Log.{answer_after, entry_touches, meaning}
use Rattle.curp_law_linear.proofs.Puts.{put_filter}
use Rattle.curp_law_linear.proofs.MastersParts.{own_log_after, own_log_before, parts_stay, other_part, other_master}
use Rattle.curp_model.specs.Manager.{ManagerState}
use Rattle.curp_model.specs.Ranges.{opening_range}
use Rattle.curp_law_linear.proofs.Same.{flat_append}
use Rattle.curp_law_linear.proofs.Left.{left_stays, left_is, Superseded}
use Rattle.curp_law_linear.proofs.Cuts.{superseded_reign, CutAdopted, cut_adoption, last_reign}
use Rattle.curp_facts.specs.Names.{IsOf}
use Rattle.curp_law_linear.proofs.ReadsReady.{open_last}
use Rattle.curp_facts.specs.Reach.{HasMany}
use Rattle.curp_law_linear.proofs.Found.{none_any}
use Rattle.curp_base.proofs.Lists.{at_drop, at_map, at_same, at_some, at_within}
use Rattle.curp_cmd.specs.Hash.{touches}
use Rattle.std.specs.List.{list_any}
use Rattle.curp_msg.specs.declared.config.PartConfig.{PartConfig}
use Rattle.curp_facts.specs.Kept.{lists_of_master}
use Rattle.curp_range.specs.Spans.{is_owned}
use Rattle.curp_law_linear.proofs.QuickPlaces.{put_last, at_end, AtCut, put_cut}
use Rattle.curp_cmd.specs.declared.command.Answer.{Answer}
use Rattle.curp_law_linear.proofs.QuickBegins.{quick_early, quick_low, firm_whole, late_reads_whole, late_early_whole, late_is_low}
use Rattle.curp_law_linear.proofs.Lates.{late_low}
use Rattle.curp_law_linear.proofs.Discharged.{pure, second}
use Rattle.curp_law_linear.proofs.ReadsStored.{from_stays}
use Rattle.std.proofs.lemmas.Bool.{cases_lt}
use Rattle.curp_law_runs.proofs.Gives.{gives_within, ready}
use Rattle.curp_msg.specs.Moved.{says}
use Rattle.curp_cmd.specs.Node.{manager_node, client_node, master_node}
use Rattle.curp_model.specs.Named.{IsBackup}
use Rattle.curp_law_linear.specs.Hashes.{Part, owns}
use Rattle.curp_law_kept.specs.GivesFit.{GivesWithin}
use Rattle.curp_cmd.specs.declared.entry.Entry.TheVariants.{Give}
use Rattle.curp_law_linear.specs.Laws.{left_answer}
use Rattle.curp_model.specs.Witness.{WitnessState}
use Rattle.curp_msg.specs.declared.body.Probed.{Probed}
use Rattle.curp_law_linear.proofs.MastersCuts.{master_lives}
use Rattle.curp_order.specs.declared.Event.TheVariants.{Invoke}
use Rattle.curp_cmd.specs.declared.command.Command.{Command}
use Rattle.curp_law_linear.proofs.ManagersMoves.{entry_here}
use Rattle.std.proofs.lemmas.List.{length-map}
use Rattle.curp_cmd.specs.declared.command.Answer.TheVariants.{Found}
use Rattle.curp_msg.specs.declared.message.Message.{Message}
use Rattle.curp_msg.specs.declared.body.Body.{Body}
use Rattle.curp_cmd.specs.declared.command.Request.{Request}
use Rattle.curp_cmd.specs.declared.entry.Entry.{Entry}
use Rattle.curp_base.specs.Words.{numbered, At, Each}
use Rattle.curp_msg.specs.declared.body.Body.TheVariants as body
use Rattle.curp_cmd.specs.declared.node.NodeKind.TheVariants as kind
use Rattle.std.specs.FinMap as store
use Rattle.curp_cmd.proofs.Nodes.{either_node}

-- what an answer at once does with the marks and the machine, and what is known of the read then
pub record QuickStep (w v : World) (lists : Lists) (node : NodeId) (q : QuickValue) (mark : Mark) : Type 0 where
  pub place : ℕ
  pub within : place ≤ length w.marks
  pub marks : v.marks ≡ put_before place mark w.marks
  pub refines : RefinesQuiet w v
  pub gives : QuickGives v.marks (capture_of node q) lists.part q.id q.answer
  pub time : QuickEarly (line_of v) (capture_of node q) lists.part q.id q.answer ⊎ Gated v lists node q
  pub long : ℕ
  pub other : NodeId
  pub low : QuickLow v.marks (capture_of node q) lists.part long q.id
  pub stored : StoredFrom v other lists.part long

module _ {w v : World} (known : Known w) (chain : Predecessors w) (ordered : Ordered w) (now : Known v) (n : ℕ) (from : NodeId) (heard : Option Body) (x y : MasterState) (out : List Message)
    (step : MasterStep w v n from heard (Serving x) (Serving y) out) (a : AnswersAtOnce n x heard y out) where
  abbrev node : NodeId
  node = master_node n

  abbrev r : Request
  r = a.ask.request

  abbrev own : Lists
  own = lists_of_master node x

  -- what is answered
  abbrev pub quick_of : QuickValue
  quick_of = record { id = r.id; epoch = x.epoch; version = x.version; capture = x.captured + 1; answer = Found (store.get (state_of x).store a.key) }

  -- and its mark
  abbrev pub mark_of : Mark
  mark_of = quick node x.part x.epoch (x.captured + 1) r.id r.command

  abbrev by : Capture
  by = capture_of node quick_of

  before : ServingOk w node x
  before = known.inv.masters node (Serving x) step.was

  follows : Follows w v
  follows = step_follows known step

  same_log : y.log ≡ x.log
  same_log = ap (λ (m : MasterState). m.log) a.state

  read : ReadSaid w from r
  read = said known from node (body.Glance a.ask) (step.came (body.Glance a.ask) a.is_heard)

  was_invoked : WasInvoked w.history r.id r.command
  was_invoked = record { event = read.asked.request.place; stands = read.asked.request.invoked }

  it_says : QuickSays w y (client_node r.id.client) quick_of
  it_says = (subst (Each (IsSaidBy n (ServingSays w y))) a.said step.move.says).0.says_so

  is_open : x.phase ≡ Open
  is_open = sym (ap (λ (m : MasterState). m.phase) a.state) ∙ it_says.serves

  logs : LogsOk (line_of w).parts
  logs = line_logs known ordered

  -- the answer is the log's
  its_answer : answer_after x.lo x.hi x.log r.command ≡ quick_of.answer
  unfolding applied
  its_answer = sym (ap (answer_after x.lo x.hi x.log) (sym a.gets))

  -- ---- where the master stands among those of its partition

  follow : CutsFollow w
  follow = ordered.cuts_follow

  abbrev cs : List Mark
  cs = cuts x.part w.marks

  reign : (i : ℕ) × At (reigns x.part cs) i (reign_in own)
  reign = (follow x.part).there own before.adopted refl

  -- ---- the machine but for the marks

  no_cut : (place : ℕ) → (part : ℕ) → cuts part (put_before place mark_of w.marks) ≡ cuts part w.marks
  no_cut place part = put_filter mark_of (cuts_part part) refl place w.marks

  line_after : (place : ℕ) (marks : List Mark) → v.marks ≡ put_before place mark_of w.marks → v.marks ≡ marks → line_of v ≡ record (line_of w) { marks = marks }
  line_after place marks put is i = record {
    parts = parts i;
    moving = moving_of (step.frame.manager i).moving;
    told = told i;
    marks = is i;
    history = step.frame.history i;
    left = λ part number. left part number i;
  }
    where
      own_log : (other : NodeId) → other ≡ node → entries_at (numbered v.masters other.number) ≡ entries_at (numbered w.masters other.number)
      own_log other same = own_log_after known n from heard (Serving x) (Serving y) out step other same ∙ same_log ∙ sym (own_log_before known n from heard (Serving x) (Serving y) out step other same)

      shape : v.manager.shape ≡ w.manager.shape
      shape = ap (λ (g : ManagerState). g.shape) step.frame.manager

      parts : (line_of v).parts ≡ (line_of w).parts
      parts = parts_stay known n from heard (Serving x) (Serving y) out step (λ d here. elim (either_node d.master node) [
        | inl same ↦ ap₂ (λ (g : ManagerState) (es : List Entry). record { lo = (opening_range g.shape.parts d.part).lo; hi = (opening_range g.shape.parts d.part).hi; log = es }) step.frame.manager (own_log d.master same)
        | inr apart ↦ other_part known n from heard (Serving x) (Serving y) out step d here apart
      ])

      told : (line_of v).told ≡ (line_of w).told
      told =
          ap (flat_map (λ (m : Message). told_by m.body)) step.frame.sent ∙ flat_append (λ (m : Message). told_by m.body) (messages w) out
          ∙ ap (λ (ms : List Message). (line_of w).told ++ flat_map (λ (m : Message). told_by m.body) ms) a.said ∙ append-nil (line_of w).told

      left : (part number : ℕ) → left_of v part number ≡ left_of w part number
      left part number = left_stays w v shape part number (ap (cuts part) put ∙ no_cut place part) (λ s c h. elim (either_node s.master node) [
        | inl same ↦ own_log s.master same
        | inr apart ↦
            let o = superseded_reign known follow part number s c h in
            let of = (known.names.given o.lists o.adopted.given).master in
            ap entries_at (other_master known n from heard (Serving x) (Serving y) out step s.master (subst (IsOf w kind.Master) o.its_master of) apart)
      ])

  -- ---- an adopted master

  -- what is synced is stored
  synced_stored : IsStored w node x.version (synced x)
  synced_stored = record {
    its = record { log = x.log; round = x.round };
    its_log = record { m = Serving x; is = step.was; its_log = refl };
    low = synced_within w x before.acknowledged;
    reach = λ l told master above.
        let top = open_last known node x step.was is_open l told master in
        let one : l ≡ own = (known.names.agree l own told.given before.adopted.given).by_version master (omega (arith, top, above)) in
        subst (λ (z : Lists). Each (HasMany w (synced x)) z.backups) (sym one) (synced_many w x before.acknowledged (synced x) (omega arith));
  }

  -- nothing that isn't synced touches the read's hashes
  quiet_past : (long : ℕ) → synced x ≤ long → (h : ℕ) → touches r.command h ≡ true → list_any (λ (e : Entry). entry_touches e h) (drop long x.log) ≡ false
  quiet_past long low h touched = none_any (λ (e : Entry). entry_touches e h) (drop long x.log) (λ k e at is.
      let d = at_drop long x.log k e at in
      let quiet = each_touched (λ (g : ℕ). entry_touches e g ≡ false) r.command (clean_apart x r.command a.clean d.0 e (omega (arith, low, d.1)) d.2) h touched in
      let bad : false ≡ true = sym quiet ∙ is in cc)

  module _ (marks : v.marks ≡ with_quick mark_of w.marks) where
    module _ (c : PartConfig) (here : IsAdoptedNow w c) (its : c.master ≡ node) where
      its_part : c.part ≡ x.part
      its_part = ((known.names.agree (lists_of_part c) own (known.names.top c here).was.given before.adopted.given).by_master its).0

      abbrev look : Look
      look = record { part = x.part; p = part_of w c; node = node; epoch = x.epoch; capture = x.captured + 1; id = r.id; command = r.command }

      part_is : (part_of w c).log ≡ x.log
      part_is = own_log_before known n from heard (Serving x) (Serving y) out step c.master its

      lo_is : (part_of w c).lo ≡ x.lo
      lo_is = ap (lo_of w) its_part ∙ sym before.lo

      hi_is : (part_of w c).hi ≡ x.hi
      hi_is = ap (hi_of w) its_part ∙ sym before.hi

      whole : (Has : ℕ → ℕ → List Entry → Type 0) → Has x.lo x.hi x.log → Has (part_of w c).lo (part_of w c).hi (part_of w c).log
      whole Has h = subst (λ (es : List Entry). Has (part_of w c).lo (part_of w c).hi es) (sym part_is) (subst₂ (λ (lo hi : ℕ). Has lo hi x.log) (sym lo_is) (sym hi_is) h)

      fits : LookFits (line_of w) look
      fits = record {
        here = subst (λ (k : ℕ). numbered (line_of w).parts k ≡ Some (part_of w c)) its_part (entry_part known c here);
        owned = λ h touched. whole (λ lo hi log. is_owned (meaning lo hi log).owned h ≡ true) (owns_touched (state_of x).owned r.command a.owned h touched);
        reads = read.reads;
        was_invoked = was_invoked;
      }

      adopted_quick : reign.0 ≡ length cs → QuickStep w v own node quick_of mark_of
      adopted_quick last =
          let end : v.marks ≡ w.marks ++ mark_of ∷ [] = marks ∙ put_last known follow x.part reign.0 (reign_in own) reign.1 ordered.line last mark_of refl refl in
          let put : v.marks ≡ put_before (length w.marks) mark_of w.marks = end ∙ at_end w.marks mark_of in
          let line : line_of v ≡ quickly (line_of w) look = line_after (length w.marks) (w.marks ++ mark_of ∷ []) put end in
          let answer : answer_after (part_of w c).lo (part_of w c).hi (part_of w c).log r.command ≡ quick_of.answer = whole (λ lo hi log. answer_after lo hi log r.command ≡ quick_of.answer) its_answer in
          let early : QuickEarly (line_of v) by x.part r.id quick_of.answer
          = subst (λ (s : LineState). QuickEarly s by x.part r.id quick_of.answer) (sym line)
          (subst (λ (z : Answer). QuickEarly (quickly (line_of w) look) by x.part r.id z) answer (quick_early pure second (line_of w) look fits logs ordered.line)) in
          record {
            place = length w.marks;
            within = omega arith;
            marks = put;
            refines = record { its = record { moves = Quicks look ∷ []; fit = (fits, logs, tt); leads = sym line }; quiet = (tt, tt) };
            gives = early.its;
            time = inl early;
            long = synced x;
            other = node;
            low = subst (λ (s : LineState). QuickLow s.marks by x.part (synced x) r.id) (sym line) (quick_low pure second (line_of w) look fits logs ordered.line (synced x)
                (λ h touched. subst (λ (es : List Entry). list_any (λ (e : Entry). entry_touches e h) (drop (synced x) es) ≡ false) (sym part_is) (quiet_past (synced x) (omega arith) h touched)));
            stored = from_stays follows node x.part (synced x) (record { lists = own; adopted = before.adopted; its_master = refl; its_part = refl; stored = synced_stored });
          }

    -- ---- a superseded one

    module _ (m : Mark) (here : At cs reign.0 m) where
      abbrev i : ℕ
      i = reign.0

      cut : AtCut known follow x.part i (reign_in own) reign.1 m
      cut = put_cut known follow x.part i (reign_in own) reign.1 ordered.line m here

      adopted : CutAdopted w x.part m
      adopted = cut_adoption known chain x.part cs (follow x.part) i m here

      abbrev long : ℕ
      long = cut_length m.place

      -- its lists are those from which that adoption recovered
      from_own : adopted.ok.before ≡ own
      from_own =
          let k = adopted.ok in
          let o = adopted.its in
          let earlier : x.epoch < m.epoch = (follow x.part).rise i (suc i) (reign_in own) (reign_of m) (omega arith) reign.1 (at_map reign_of cs i m here) in
          let above : own.version ≤ k.before.version = k.last own before.adopted (sym o.its_part) (omega (arith, earlier, o.its_epoch)) in
          let part : k.before.part ≡ x.part = k.its_part ∙ o.its_part in
          let least : x.epoch ≤ k.before.epoch = known.names.chain own k.before before.adopted k.was (sym part) above in
          let b = (follow x.part).there k.before k.was part in
          let most : k.before.epoch ≤ x.epoch = elim (cases_lt i b.0) [
            | inl lt ↦
                let up : m.epoch ≤ k.before.epoch = elim (cases_lt (suc i) b.0) [
                  | inl more ↦ let z = (follow x.part).rise (suc i) b.0 (reign_of m) (reign_in k.before) more (at_map reign_of cs i m here) b.1 in omega (arith, z)
                  | inr last ↦
                      let one : b.0 ≡ suc i = omega (arith, lt, last) in
                      let same = at_same (reigns x.part cs) (suc i) (reign_in k.before) (reign_of m) (subst (λ (j : ℕ). At (reigns x.part cs) j (reign_in k.before)) one b.1) (at_map reign_of cs i m here) in
                      omega (arith, ap (λ (z : Reign). z.epoch) same)
                ] in
                absurd (omega (arith, up, k.earlier, o.its_epoch))
            | inr ge ↦ elim (cases_lt b.0 i) [
              | inl lt ↦ let up = (follow x.part).rise b.0 i (reign_in k.before) (reign_in own) lt b.1 reign.1 in omega (arith, up)
              | inr le ↦
                  let one : b.0 ≡ i = omega (arith, ge, le) in
                  let same = at_same (reigns x.part cs) i (reign_in k.before) (reign_in own) (subst (λ (j : ℕ). At (reigns x.part cs) j (reign_in k.before)) one b.1) reign.1 in
                  omega (arith, ap (λ (z : Reign). z.epoch) same)
            ]
          ] in
          let agree = known.names.agree k.before own k.was.given before.adopted.given in
          let master : k.before.master ≡ node = agree.by_epoch part (omega (arith, least, most)) in
          let top = open_last known node x step.was is_open k.before (ready known.names known.inv k.before k.was) master in
          agree.by_version master (omega (arith, top, above))

      order_sent : WasSent w (says manager_node m.master (body.Recover adopted.ok.order))
      order_sent = subst (λ (z : NodeId). WasSent w (says manager_node z (body.Recover adopted.ok.order))) adopted.its.its_master adopted.ok.ordered

      -- so what the master has synced was recovered
      synced_low : synced x ≤ long
      synced_low =
          let k = adopted.ok in
          let named : IsAmong k.node x.backups = subst (λ (l : Lists). IsAmong k.node l.backups) from_own k.named in
          let many = among_each (HasMany w (synced x)) x.backups (synced_many w x before.acknowledged (synced x) (omega arith)) k.node named k.sources.b k.sources.its_backup in
          let is = (follow x.part).recovered i m here k.order order_sent k.sources.b (subst (λ (z : NodeId). IsBackup w z k.sources.b) (sym k.its_node) k.sources.its_backup) in
          omega (arith, many, is)

      superseded : Superseded w x.part (i + 1) (reign_in own) m
      superseded = let same : suc i ≡ i + 1 = omega arith in subst (λ (k : ℕ). Superseded w x.part k (reign_in own) m) same (record { before = reign.1; cut = here })

      log_is : log_of w x.part node ≡ record { lo = x.lo; hi = x.hi; log = x.log }
      log_is j = record { lo = sym before.lo j; hi = sym before.hi j; log = own_log_before known n from heard (Serving x) (Serving y) out step node refl j }

      abbrev whole_log : Part
      whole_log = record { lo = x.lo; hi = x.hi; log = x.log }

      left_log : left_of w x.part (i + 1) ≡ left_at whole_log long
      left_log = left_is w x.part (i + 1) (reign_in own) m superseded ∙ ap (λ (p : Part). left_at p long) log_is

      joined : take long x.log ++ drop long x.log ≡ x.log
      joined = take-append-drop long x.log

      firm : (h : ℕ) → touches r.command h ≡ true → IsFirm (left_of w x.part (i + 1)) h
      firm h touched = subst (λ (l : Left). IsFirm l h) (sym left_log) (firm_whole (left_at whole_log long) h
          (subst (λ (es : List Entry). owns (record whole_log { log = es }) h ≡ true) (sym joined) (owns_touched (state_of x).owned r.command a.owned h touched))
          (quiet_past long synced_low h touched))

      abbrev late : Late
      late = record { part = x.part; number = i + 1; place = cut.cut.place; node = node; epoch = x.epoch; capture = x.captured + 1; id = r.id; command = r.command }

      late_fits : LateFits (line_of w) late
      late_fits = record {
        mark = cut.cut.mark;
        stands = cut.cut.stands;
        its_part = cut.cut.its_part;
        long = cut.cut.long;
        is_cut = cut.cut.is_cut;
        firm = firm;
        reads = read.reads;
        was_invoked = was_invoked;
      }

      within : GivesWithin (left_of w x.part (i + 1)).back
      within = subst (λ (l : Left). GivesWithin l.back) (sym left_log) (λ k migration p at. let d = at_drop long x.log k (Give migration p) at in gives_within known.inv x.part x.log before.log d.0 migration p d.2)

      answer : left_answer (line_of w) late ≡ quick_of.answer
      answer =
          ap (λ (l : Left). answer_after l.prefix.lo l.prefix.hi (l.prefix.log ++ l.back) r.command) left_log
          ∙ ap (λ (es : List Entry). answer_after x.lo x.hi es r.command) joined ∙ its_answer

      put : v.marks ≡ put_before cut.cut.place mark_of w.marks
      put = marks ∙ cut.is mark_of refl refl

      line : line_of v ≡ late_quickly (line_of w) late
      line = line_after cut.cut.place (put_before cut.cut.place mark_of w.marks) put put

      gives : QuickGives v.marks by x.part r.id quick_of.answer
      gives = subst (λ (s : LineState). QuickGives s.marks by x.part r.id quick_of.answer) (sym line)
          (subst (λ (z : Answer). QuickGives (late_quickly (line_of w) late).marks by x.part r.id z) answer (late_reads_whole pure (line_of w) late late_fits ordered.line within))

      -- a Live of the frozen witness was said before
      gated : Gated v own node quick_of
      gated =
          let k = adopted.ok in
          let o = witness_later follows k.other k.sources.x k.sources.its_witness in
          record {
            witness = k.other;
            named = subst (λ (l : Lists). IsAmong k.other l.witnesses) from_own k.named_too;
            x = o.0;
            is = o.1;
            frozen = ap (λ (z : WitnessState). z.mode) (o.2.frozen k.sources.frozen) ∙ k.sources.frozen;
            opens = λ live. opens live;
          }
        where
          probed : Probed
          probed = record { id = r.id; epoch = x.epoch; live = true }

          opens : WasSent v (says adopted.ok.other (client_node r.id.client) (body.Probed probed)) → QuickEarly (line_of v) by x.part r.id quick_of.answer
          opens live =
              let k = adopted.ok in
              let was : WasSent w (says k.other (client_node r.id.client) (body.Probed probed)) = master_lives n from heard out (Serving x) (Serving y) step k.other (client_node r.id.client) k.sources.x probed k.sources.its_witness k.sources.frozen refl live in
              let t = ordered.cuts_timed x.part i m here k.order order_sent (client_node r.id.client) probed (subst (λ (z : NodeId). WasSent w (says z (client_node r.id.client) (body.Probed probed))) (sym k.its_other) was) refl in
              let once = ordered.line.order.history.invoked_once t.1.event was_invoked.event r.id t.0 r.command t.1.stands was_invoked.stands in
              let same : t.0 ≡ r.command = commands (at_same w.history was_invoked.event (Invoke r.id t.0) (Invoke r.id r.command) (subst (λ (j : ℕ). At w.history j (Invoke r.id t.0)) once t.1.stands) was_invoked.stands) in
              let number : suc i ≡ i + 1 = omega arith in
              let at_cut : CutEarly (line_of w) x.part (i + 1) r.id r.command = subst (λ (j : ℕ). CutEarly (line_of w) x.part j r.id r.command) number (subst (λ (c : Command). CutEarly (line_of w) x.part (suc i) r.id c) same t.2) in
              subst (λ (s : LineState). QuickEarly s by x.part r.id quick_of.answer) (sym line)
              (subst (λ (z : Answer). QuickEarly (late_quickly (line_of w) late) by x.part r.id z) answer (late_early_whole pure (line_of w) late late_fits ordered.line within at_cut))
            where
              commands : {c d : Command} → Invoke r.id c ≡ Invoke r.id d → c ≡ d
              commands e = cc

      superseded_quick : QuickStep w v own node quick_of mark_of
      unfolding late_fits
      superseded_quick = record {
        place = cut.cut.place;
        within = late_low (line_of w) ordered.line.order late late_fits;
        marks = put;
        refines = record { its = record { moves = Lates late ∷ []; fit = (late_fits, logs, tt); leads = sym line }; quiet = (tt, tt) };
        gives = gives;
        time = inr gated;
        long = cut.cut.long;
        other = m.master;
        low = subst (λ (s : LineState). QuickLow s.marks by x.part cut.cut.long r.id) (sym line) (late_is_low pure (line_of w) late late_fits ordered.line);
        stored = subst (StoredFrom v m.master x.part) (sym cut.its_long) (from_stays follows m.master x.part long ((follow x.part).stored i m here));
      }

    -- either
    pub quick_step : QuickStep w v own node quick_of mark_of
    quick_step = elim (cases_lt reign.0 (length cs)) [
      | inl lt ↦ let m = at_some cs reign.0 lt in superseded_quick m.0 m.1
      | inr ge ↦
          let h = entry_here known own before.adopted.given in
          let last : At (reigns x.part cs) (length cs) (reign_in (lists_of_part h.0)) = subst (λ (p : ℕ). At (reigns p (cuts p w.marks)) (length (cuts p w.marks)) (reign_in (lists_of_part h.0))) h.2 (last_reign known follow h.0 h.1) in
          let one : reign.0 ≡ length cs = omega (arith, ge, at_within (reigns x.part cs) reign.0 (reign_in own) reign.1, length-map cs reign_of) in
          let same = at_same (reigns x.part cs) (length cs) (reign_in (lists_of_part h.0)) (reign_in own) last (subst (λ (j : ℕ). At (reigns x.part cs) j (reign_in own)) one reign.1) in
          adopted_quick h.0 h.1 (ap (λ (z : Reign). z.master) same) one
    ]
