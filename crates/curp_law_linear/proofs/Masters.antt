-- An input to a master is a list of moves of the machine, and adopted logs stay what they are.
use Rattle.std.proofs.Common.{◌≡◌, ◌≢◌, inl, inr, ℕ, ◌-◌, ◌≤◌, if◌then◌else◌, Bool, true, false, List, [], ◌++◌, append_assoc, append-nil, drop, flat_map, length, map, set, refl, ap, ap₂, sym, ◌∙◌, subst, Option}
use Rattle.std.proofs.Math.Seq.{drop-append_seam}
use Rattle.std.proofs.lemmas.Bool.{cases_Bool}
use Rattle.curp_base.specs.Words.{IsPrefix, numbered}
use Rattle.curp_base.proofs.Lists.{Each-weaker, prefix_self}
use Rattle.curp_cmd.specs.Node.{master_node}
use Rattle.curp_cmd.specs.declared.entry.Entry.{Entry}
use Rattle.curp_cmd.specs.declared.node.NodeId.{NodeId}
use Rattle.curp_cmd.specs.declared.node.NodeKind.TheVariants as kind
use Rattle.curp_msg.specs.declared.body.Body.{Body}
use Rattle.curp_msg.specs.declared.config.PartConfig.{PartConfig}
use Rattle.curp_msg.specs.declared.message.Message.{Message}
use Rattle.curp_model.specs.Log.{log_opening}
use Rattle.curp_model.specs.Manager.{ManagerState}
use Rattle.curp_model.specs.Marks.{Mark}
use Rattle.curp_model.specs.Master.{Captured, MasterState}
use Rattle.curp_model.specs.Named.{IsMaster}
use Rattle.curp_model.specs.Recovery.{Fresh, MasterStage, Recovering, RecoveryState, Serving}
use Rattle.curp_model.specs.World.{World, capture_mark, is_adopted, master_marks, messages, new_captures, op_marks}
use Rattle.curp_facts.specs.Entries.{LogOk}
use Rattle.curp_facts.specs.Facts.{IsAdoptedNow, Lists, WasAdopted, hi_of, lists_of_part, lo_of, node_log}
use Rattle.curp_facts.specs.Growth.{MasterGrows, ServesOn}
use Rattle.curp_facts.specs.Kept.{AdoptedLog, lists_of_master}
use Rattle.curp_facts.specs.Nodes.{CapturedOk, ServingOk}
use Rattle.curp_facts.specs.Known.{Known}
use Rattle.curp_facts.specs.Names.{IsOf}
use Rattle.curp_law_kept.proofs.Gives.{MasterStep}
use Rattle.curp_law_linear.specs.Hashes.{Part}
use Rattle.curp_law_linear.specs.Line.{Left, LineState}
use Rattle.curp_law_linear.specs.Moves.{Strays, longer_left, relogged}
use Rattle.curp_law_linear.specs.OfWorld.{Reign, entries_at, left_of, line_of, logged_entries, moving_of, part_of, told_by}
use Rattle.curp_law_linear.proofs.Given.{LogsOk}
use Rattle.curp_law_linear.proofs.Lists.{some_same}
use Rattle.curp_law_linear.specs.Ordered.{MigrationsRise, Ordered}
use Rattle.curp_law_linear.specs.Refined.{RefinesQuiet}
use Rattle.curp_law_linear.proofs.CutMarks.{cuts_marked}
use Rattle.curp_law_linear.proofs.Cuts.{SupersededAt, serving_superseded, superseded_low, superseded_once, superseded_out, superseded_reign}
use Rattle.curp_law_linear.proofs.Left.{Superseded, left_longer, left_stays}
use Rattle.curp_law_linear.proofs.MastersCaptures.{Captures, StageCaptures}
use Rattle.curp_law_linear.proofs.MastersLog.{Leads, leads_first, leads_none, leads_on, line_at, logs_at}
use Rattle.curp_law_linear.proofs.MastersLooks.{look_all}
use Rattle.curp_law_linear.proofs.MastersParts.{adopted_in, adopted_out, other_master, other_part, own_after, own_before, own_log_after, own_log_before, parts_grow, parts_stay, set_self}
use Rattle.curp_law_linear.proofs.MastersPushes.{push_all}
use Rattle.curp_law_linear.proofs.MastersRise.{new_fit, new_rise}
use Rattle.curp_law_linear.proofs.MastersStand.{SameLog, begins_stands, fresh_stands, recovering_stands}
use Rattle.curp_law_linear.proofs.MastersTold.{TakeStands, all_tell, takes_stand, tell_all}
use Rattle.curp_law_linear.proofs.Parts.{entry_part, line_logs, part_log}
use Rattle.curp_law_linear.proofs.Same.{flat_append}
use Rattle.curp_law_kept.specs.GivesFit.{GivesFit}
use Rattle.curp_facts.specs.Predecessors.{Predecessors}
use Rattle.curp_facts.specs.Migrated.{Migrated}
use Rattle.curp_facts.specs.Routes.{Routes}
use Rattle.curp_cmd.proofs.Nodes.{either_node}

-- the log of an adopted master that serves
abbrev pub serving_log : {w : World} (c : PartConfig) (node : NodeId) (m : MasterState) → IsAdoptedNow w c → c.master ≡ node → IsMaster w node (Serving m) → AdoptedLog w c
serving_log {w} c node m now its is = record {
  now = now;
  its = record { log = m.log; round = m.round };
  its_log = record { m = Serving m; is = subst (λ (x : NodeId). IsMaster w x (Serving m)) (sym its) is; its_log = refl };
}

module _ {w v : World} (known : Known w) (chain : Predecessors w) (routes : Routes w) (migrated : Migrated w) (ordered : Ordered w) (moved : Migrated v)
    (n : ℕ) (from : NodeId) (heard : Option Body) (out : List Message) where
  -- the marks after it
  abbrev pub MarksAfter : MasterStage → MasterStage → Type 0
  MarksAfter m k = v.marks ≡ (if is_adopted w.manager (master_node n) then w.marks ++ master_marks (master_node n) m k else w.marks)

  module _ (m k : MasterStage) (step : MasterStep w v n from heard m k out) where
    -- what the machine has before the packages are told
    abbrev untold : List Part → List Mark → (ℕ → ℕ → Left) → LineState
    untold parts marks left = record { parts = parts; moving = moving_of w.manager.moving; told = (line_of w).told; marks = marks; history = w.history; left = left }

    told_after : (line_of w).told ++ flat_map (λ (x : Message). told_by x.body) out ≡ (line_of v).told
    told_after = sym (ap (flat_map (λ (x : Message). told_by x.body)) step.frame.sent ∙ flat_append (λ (x : Message). told_by x.body) (messages w) out)

    -- then they are told
    pub finish : (parts : List Part) (marks : List Mark) (left : ℕ → ℕ → Left) → Leads (line_of w) (untold parts marks left) → (line_of v).parts ≡ parts → v.marks ≡ marks
        → ((part number : ℕ) → left_of v part number ≡ left part number) → LogsOk parts → RefinesQuiet w v
    finish parts marks left on same marked same_left logs =
        let out_numbers : List ℕ = flat_map (λ (x : Message). told_by x.body) out in
        let tell : Leads (untold parts marks left) (record (untold parts marks left) { told = (line_of w).told ++ out_numbers })
        = tell_all out_numbers (untold parts marks left) logs (λ j a. subst (λ (ps : List Part). TakeStands ps j) same
        (takes_stand w v moved out step.frame.sent (all_tell w n from heard m k out step.move) j a)) in
        let all = leads_on (line_of w) (untold parts marks left) (record (untold parts marks left) { told = (line_of w).told ++ out_numbers }) on tell in
        record { its = record { moves = all.moves; fit = all.fit; leads = all.leads ∙ last }; quiet = all.steady }
      where
        last : record (untold parts marks left) { told = (line_of w).told ++ flat_map (λ (x : Message). told_by x.body) out } ≡ line_of v
        last i = record {
          parts = sym same i;
          moving = moving_of (sym step.frame.manager i).moving;
          told = told_after i;
          marks = sym marked i;
          history = sym step.frame.history i;
          left = λ part number. sym (same_left part number) i;
        }

    -- ---- superseded logs

    shape_stays : v.manager.shape ≡ w.manager.shape
    shape_stays = ap (λ (g : ManagerState). g.shape) step.frame.manager

    -- what any of the masters that were superseded has stays, but for this one
    other_log : (part number : ℕ) (r : Reign) (c : Mark) → Superseded w part number r c → r.master ≢ master_node n → entries_at (numbered v.masters r.master.number) ≡ entries_at (numbered w.masters r.master.number)
    other_log part number r c h apart =
        let o = superseded_reign known ordered.cuts_follow part number r c h in
        let of = (known.names.given o.lists o.adopted.given).master in
        ap entries_at (other_master known n from heard m k out step r.master (subst (IsOf w kind.Master) o.its_master of) apart)

    -- where this one's log stays, or it wasn't superseded, all stay
    left_same : ((part number : ℕ) (r : Reign) (c : Mark) → Superseded w part number r c → r.master ≡ master_node n → logged_entries (node_log k) ≡ logged_entries (node_log m)) → MarksAfter m k
        → (part number : ℕ) → left_of v part number ≡ left_of w part number
    left_same own marked part number = left_stays w v shape_stays part number (cuts_marked w v (master_node n) m k (is_adopted w.manager (master_node n)) marked part) (λ r c h. elim (either_node r.master (master_node n)) [
      | inl its ↦ own_log_after known n from heard m k out step r.master its ∙ own part number r c h its ∙ sym (own_log_before known n from heard m k out step r.master its)
      | inr apart ↦ other_log part number r c h apart
    ])

    -- where all logs stay and nothing is marked
    pub stays : ((l : Lists) → WasAdopted w l → l.master ≡ master_node n → SameLog m k) → master_marks (master_node n) m k ≡ [] → MarksAfter m k → RefinesQuiet w v
    stays same unmarked marked = finish (line_of w).parts w.marks (left_of w) (leads_none (line_of w) _ refl) parts marks left (line_logs known ordered)
      where
        parts : (line_of v).parts ≡ (line_of w).parts
        parts = parts_stay known n from heard m k out step (λ d now. elim (either_node d.master (master_node n)) [
          | inl its ↦
              own_after known n from heard m k out step d its
              ∙ ap (λ (es : List Entry). record { lo = lo_of w d.part; hi = hi_of w d.part; log = es }) (same (lists_of_part d) (known.names.top d now).was its).entries
              ∙ sym (own_before known n from heard m k out step d its)
          | inr apart ↦ other_part known n from heard m k out step d now apart
        ])

        marks : v.marks ≡ w.marks
        marks = marked ∙ go (is_adopted w.manager (master_node n))
          where
            go : (b : Bool) → (if b then w.marks ++ master_marks (master_node n) m k else w.marks) ≡ w.marks
            go true = ap (λ (ms : List Mark). w.marks ++ ms) unmarked ∙ append-nil w.marks
            go false = refl

        left : (part number : ℕ) → left_of v part number ≡ left_of w part number
        left = left_same (λ part number r c h its.
            let o = superseded_reign known ordered.cuts_follow part number r c h in
            (same o.lists o.adopted (o.its_master ∙ its)).entries) marked

  -- how a master serves on
  life_of : (m k : MasterState) → MasterStep w v n from heard (Serving m) (Serving k) out → ServesOn m k
  life_of m k step =
      let g = step.grows.masters n (Serving m) step.was.its_state in
      let same : g.0 ≡ Serving k = some_same (sym g.1 ∙ step.is.its_state) in
      (subst (MasterGrows (Serving m)) same g.2).life

  -- ---- an adopted master that serves

  module _ (m k : MasterState) (step : MasterStep w v n from heard (Serving m) (Serving k) out) (c : PartConfig) (now : IsAdoptedNow w c) (its : c.master ≡ master_node n) where
    serves : ServingOk w (master_node n) m
    serves = known.inv.masters (master_node n) (Serving m) step.was

    its_part : c.part ≡ m.part
    its_part = ((known.names.agree (lists_of_part c) (lists_of_master (master_node n) m) (known.names.top c now).was.given serves.adopted.given).by_master its).0

    abbrev mine : AdoptedLog w c
    mine = serving_log c (master_node n) m now its step.was

    life : ServesOn m k
    life = life_of m k step

    new_log : LogOk w c.part k.log
    new_log = subst (λ (p : ℕ). LogOk w p k.log) (sym its_part) step.move.log

    -- its adopted log stays one
    pub serving_rise : MigrationsRise k.log
    serving_rise = new_rise known chain routes migrated ordered c mine k.log life.log new_log

    pub serving_fit : GivesFit (log_opening (lo_of w c.part) (hi_of w c.part)) 0 k.log
    serving_fit = new_fit known chain routes migrated ordered c mine k.log life.log new_log

    -- with this prefix of the new log
    module _ (prefix : IsPrefix m.log k.log) where
      abbrev at : List Entry → List Mark → LineState
      at log marks = line_at known chain routes migrated ordered c mine k.log prefix new_log log marks

      begins : line_of w ≡ at m.log w.marks
      begins = ap (λ (parts : List Part). record (line_of w) { parts = parts })
          (sym (ap (λ (p : Part). set (line_of w).parts (c.part - 1) p) (ap (λ (es : List Entry). record { lo = lo_of w c.part; hi = hi_of w c.part; log = es }) (sym (part_log known c mine)))
          ∙ set_self (line_of w).parts c.part (part_of w c) (entry_part known c now)))

      serving_refines : Captures m k → is_adopted w.manager (master_node n) ≡ true → MarksAfter (Serving m) (Serving k) → RefinesQuiet w v
      serving_refines captures adopted_now marked =
          let pushed_marks : List Mark = w.marks ++ op_marks (master_node n) c.part k.epoch (length m.log) prefix.rest in
          let all_marks : List Mark = pushed_marks ++ map (capture_mark (master_node n) c.part k.epoch) (new_captures m.captured k.captures) in
          let pushes = push_all known chain routes migrated ordered c mine k.log prefix new_log (master_node n) k.epoch prefix.rest m.log w.marks prefix.is (prefix_self m.log) in
          let looks = look_all known chain routes migrated ordered c mine k.log prefix new_log (master_node n) k.epoch m k (serves.lo ∙ ap (lo_of w) (sym its_part)) (serves.hi ∙ ap (hi_of w) (sym its_part)) refl captures
          (Each-weaker (CapturedOk w m) (λ (x : Captured). x.number ≤ m.captured) (λ (x : Captured) o. o.number) m.captures serves.captures) step.move.captures pushed_marks in
          let first = leads_on (line_of w) (at m.log w.marks) (at k.log pushed_marks) (leads_none (line_of w) (at m.log w.marks) begins) pushes in
          finish (Serving m) (Serving k) step (relogged (line_of w).parts c.part (part_of w c) k.log) all_marks (left_of w) (leads_on (line_of w) (at k.log pushed_marks) (at k.log all_marks) first looks)
          (parts_grow known n from heard (Serving m) (Serving k) out step c now its)
          (marked ∙ ap (λ (b : Bool). if b then w.marks ++ master_marks (master_node n) (Serving m) (Serving k) else w.marks) adopted_now
          ∙ ap₂ (λ (p : ℕ) (es : List Entry). w.marks ++ (op_marks (master_node n) p k.epoch (length m.log) es ++ map (capture_mark (master_node n) p k.epoch) (new_captures m.captured k.captures)))
          (life.part ∙ sym its_part) (ap (drop (length m.log)) (sym prefix.is) ∙ drop-append_seam m.log prefix.rest)
          ∙ sym (append_assoc w.marks (op_marks (master_node n) c.part k.epoch (length m.log) prefix.rest) (map (capture_mark (master_node n) c.part k.epoch) (new_captures m.captured k.captures))))
          (left_same (Serving m) (Serving k) step (λ part number r x h same. absurd (superseded_out known ordered.cuts_follow part number r x h c now (its ∙ sym same))) marked)
          (logs_at known chain routes migrated ordered c mine k.log prefix new_log k.log all_marks (prefix_self k.log))

  -- ---- one that isn't adopted

  module _ (m k : MasterState) (step : MasterStep w v n from heard (Serving m) (Serving k) out) (out_of : is_adopted w.manager (master_node n) ≡ false) where
    its_lists : WasAdopted w (lists_of_master (master_node n) m)
    its_lists = (known.inv.masters (master_node n) (Serving m) step.was).adopted

    -- was superseded
    its_end : SupersededAt known ordered.cuts_follow (master_node n) m.part
    its_end = serving_superseded known ordered.cuts_follow (lists_of_master (master_node n) m) its_lists (λ c now same. adopted_out known n from heard (Serving m) (Serving k) out step out_of c now same)

    -- what it pushes comes to its superseded log
    strays : IsPrefix m.log k.log → MarksAfter (Serving m) (Serving k) → RefinesQuiet w v
    strays prefix marked =
        finish (Serving m) (Serving k) step (line_of w).parts w.marks (longer_left (left_of w) m.part its_end.number prefix.rest)
        (leads_first (line_of w) _ (Strays m.part its_end.number prefix.rest) tt tt (line_logs known ordered) (leads_none _ _ refl))
        (parts_stay known n from heard (Serving m) (Serving k) out step (λ d now. other_part known n from heard (Serving m) (Serving k) out step d now (adopted_out known n from heard (Serving m) (Serving k) out step out_of d now)))
        (marked ∙ ap (λ (b : Bool). if b then w.marks ++ master_marks (master_node n) (Serving m) (Serving k) else w.marks) out_of)
        longer
        (line_logs known ordered)
      where
        own : (r : Reign) → r.master ≡ master_node n → entries_at (numbered v.masters r.master.number) ≡ entries_at (numbered w.masters r.master.number) ++ prefix.rest
        own r its =
            own_log_after known n from heard (Serving m) (Serving k) out step r.master its ∙ sym prefix.is
            ∙ ap (λ (es : List Entry). es ++ prefix.rest) (sym (own_log_before known n from heard (Serving m) (Serving k) out step r.master its))

        longer : (p q : ℕ) → left_of v p q ≡ longer_left (left_of w) m.part its_end.number prefix.rest p q
        longer = left_longer w v (shape_stays (Serving m) (Serving k) step)
            (cuts_marked w v (master_node n) (Serving m) (Serving k) (is_adopted w.manager (master_node n)) marked) m.part its_end.number its_end.r its_end.m its_end.its
            (superseded_low known ordered.cuts_follow m.part its_end.number its_end.r its_end.m its_end.its) prefix.rest (own its_end.r its_end.its_master)
            (λ p q r c h. elim (either_node r.master (master_node n)) [
              | inl same ↦ inl (superseded_once known ordered.cuts_follow m.part its_end.number p q its_end.r r its_end.m c its_end.its h (same ∙ sym its_end.its_master))
              | inr apart ↦ inr (other_log (Serving m) (Serving k) step p q r c h apart)
            ])

  -- ---- all together

  -- an input to a master leads the machine on
  pub master_refines : (m k : MasterStage) → MasterStep w v n from heard m k out → StageCaptures m k → MarksAfter m k → RefinesQuiet w v
  master_refines Fresh Fresh step captures marked = stays Fresh Fresh step (λ l was mine. record { entries = refl; logged = λ y e. absurd cc }) refl marked
  master_refines Fresh (Recovering t) step captures marked =
      stays Fresh (Recovering t) step (λ l was mine. fresh_stands known chain n t (ap (λ (s : RecoveryState). node_log (Recovering s)) step.move.asks)) refl marked
  master_refines Fresh (Serving k) step captures marked = let none = step.move in elim none [ ]
  master_refines (Recovering s) Fresh step captures marked = let none = step.move in elim none [ ]
  master_refines (Recovering s) (Recovering t) step captures marked =
      stays (Recovering s) (Recovering t) step (λ l was mine. recovering_stands known chain n l was mine s t step.was from heard out step.move) refl marked
  master_refines (Recovering s) (Serving k) step captures marked =
      stays (Recovering s) (Serving k) step (λ l was mine. begins_stands known chain n s k from heard out step.move) refl marked
  master_refines (Serving m) Fresh step captures marked = let none = step.move in elim none [ ]
  master_refines (Serving m) (Recovering t) step captures marked = let none = step.move in elim none [ ]
  master_refines (Serving m) (Serving k) step captures marked = elim (cases_Bool (is_adopted w.manager (master_node n))) [
    | inr out_of ↦ strays m k step out_of (life_of m k step).log marked
    | inl adopted_now ↦
        let a = adopted_in known n from heard (Serving m) (Serving k) out step adopted_now in
        serving_refines m k step a.0 a.1 a.2 (life_of m k step).log captures adopted_now marked
  ]
