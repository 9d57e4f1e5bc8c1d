-- The marks of adoptions after a step: what they tell of the masters of a partition stays, or a recovery is adopted.
use Rattle.std.proofs.Common.{◌≡◌, ◌≢◌, inl, inr, ◌≤◌, ℕ, zero, suc, List, length, refl, ap, ap₂, sym, ◌∙◌, subst, arith, Option, Some, None}
use Rattle.std.proofs.lemmas.Bool.{cases_lt}
use Rattle.std.proofs.lemmas.List.{length-map}
use Rattle.curp_base.specs.Words.{At, numbered}
use Rattle.curp_base.proofs.Lists.{at_map, at_same, at_some, at_within, prefix_length}
use Rattle.curp_cmd.specs.declared.node.NodeId.{NodeId}
use Rattle.curp_cmd.specs.declared.node.NodeKind.TheVariants as kind
use Rattle.curp_msg.specs.declared.config.PartConfig.{PartConfig}
use Rattle.curp_model.specs.Manager.{Shape}
use Rattle.curp_model.specs.Marks.{Mark}
use Rattle.curp_model.specs.Recovery.{MasterStage}
use Rattle.curp_model.specs.World.{World}
use Rattle.curp_facts.specs.Facts.{IsAdoptedNow, Lists, Logged, WasAdopted, lists_of_part, node_log, WasSent}
use Rattle.curp_facts.specs.Growth.{LogGrows, BackupGrows}
use Rattle.curp_facts.specs.Known.{Known}
use Rattle.curp_facts.specs.Names.{Top}
use Rattle.curp_law_linear.specs.OfWorld.{Reign, cut_length, cuts, entries_at, log_of, logged_entries, reign_of, reigns}
use Rattle.curp_law_linear.specs.Ordered.{CutsFollow, PartCuts, ReignOk, reign_in}
use Rattle.curp_law_linear.proofs.Left.{Superseded}
use Rattle.curp_law_linear.proofs.ManagersMoves.{entry_here}
use Rattle.curp_law_linear.proofs.ReadsLater.{EntryStays}
use Rattle.curp_law_linear.proofs.ReadsPassed.{NewerLists}
use Rattle.curp_law_linear.proofs.ReadsStored.{from_stays}
use Rattle.curp_cmd.specs.Node.{manager_node, master_node}
use Rattle.curp_cmd.specs.declared.entry.Entry.{Entry}
use Rattle.curp_msg.specs.Moved.{says}
use Rattle.curp_model.specs.Backup.{BackupState}
use Rattle.curp_model.specs.Named.{IsBackup}
use Rattle.curp_facts.specs.Kept.{AdoptionOk}
use Rattle.curp_facts.specs.Nodes.{BackupOk}
use Rattle.curp_facts.specs.Predecessors.{Predecessors}
use Rattle.curp_law_runs.proofs.Gives.{adoptions_ok, one_backup}
use Rattle.curp_msg.specs.declared.body.Body.TheVariants as body
use Rattle.curp_msg.specs.declared.body.Recover.{Recover}
use Rattle.curp_law_kept.proofs.Gives.{Follows, adopted_stays, master_later, backup_later, sent_later}

-- ---- where no recovery is adopted

-- the adoption of a mark
pub record CutAdopted (w : World) (part : ℕ) (m : Mark) : Type 0 where
  pub its : ReignOk w part (reign_of m)
  pub ok : AdoptionOk w its.lists

module _ {w : World} (known : Known w) (chain : Predecessors w) where
  pub cut_adoption : (part : ℕ) (cs : List Mark) → PartCuts w part cs → (i : ℕ) (m : Mark) → At cs i m → CutAdopted w part m
  cut_adoption part cs f i m at =
      let p = f.ranged i m at in
      let next = at_map reign_of cs i m at in
      let o = f.adopted (suc i) (reign_of m) p.0 p.1 next in
      let up = f.rise 0 (suc i) (record { epoch = 1; master = master_node part }) (reign_of m) (omega arith) refl next in
      record { its = o; ok = adoptions_ok known.names known.inv chain o.lists o.adopted (omega (arith, up, o.its_epoch)) }

module _ {w v : World} (known : Known w) (chain : Predecessors w) (now : Known v) (s : Follows w v) where
  pub parts_same : v.manager.shape.parts ≡ w.manager.shape.parts
  parts_same = ap (λ (x : Shape). x.parts) s.later.shape

  pub reign_later : (part : ℕ) (r : Reign) → ReignOk w part r → ReignOk v part r
  reign_later part r o = record { lists = o.lists; adopted = adopted_stays s o.adopted; its_part = o.its_part; its_epoch = o.its_epoch; its_master = o.its_master }

  -- a master's log only grows
  pub log_grows : (node : NodeId) → node.kind ≡ kind.Master → length (entries_at (numbered w.masters node.number)) ≤ length (entries_at (numbered v.masters node.number))
  log_grows node its_kind = go (numbered w.masters node.number) refl
    where
      logged : (o : Option Logged) (x : MasterStage) → LogGrows o (node_log x) → length (logged_entries o) ≤ length (entries_at (Some x))
      logged None x grows = omega arith
      logged (Some l) x grows = omega (arith, prefix_length grows.2, ap (λ (y : Option Logged). length (logged_entries y)) grows.1)

      go : (o : Option MasterStage) → numbered w.masters node.number ≡ o → length (entries_at o) ≤ length (entries_at (numbered v.masters node.number))
      go None is = omega arith
      go (Some m) is =
          let o = master_later s node m (record { its_kind = its_kind; its_state = is }) in
          subst (λ (x : Option MasterStage). length (entries_at (Some m)) ≤ length (entries_at x)) (sym o.1.its_state) (logged (node_log m) o.0 o.2.log)

  pub low_later : (part : ℕ) (cs : List Mark) → PartCuts w part cs → (i : ℕ) (r : Reign) (m : Mark) → At (reigns part cs) i r → At cs i m → cut_length m.place ≤ length (log_of v part r.master).log
  low_later part cs f i r m at there =
      let p = f.ranged i m there in
      let a = f.adopted i r p.0 p.1 at in
      let of = (known.names.given a.lists a.adopted.given).master.0 in
      omega (arith, f.low i r m at there, log_grows r.master (subst (λ (node : NodeId). node.kind ≡ kind.Master) a.its_master of))

  -- the backup that was named keeps its log
  pub recovered_later : (part : ℕ) (cs : List Mark) → PartCuts w part cs → (i : ℕ) (m : Mark) → At cs i m → (order : Recover) → WasSent v (says manager_node m.master (body.Recover order))
      → (b : BackupState) → IsBackup v order.backup b → cut_length m.place ≡ length b.log
  recovered_later part cs f i m at order sent b is =
      let c = cut_adoption known chain part cs f i m at in
      let a : AdoptionOk w c.its.lists = c.ok in
      let told : WasSent w (says manager_node m.master (body.Recover a.order)) = subst (λ (node : NodeId). WasSent w (says manager_node node (body.Recover a.order))) c.its.its_master a.ordered in
      let same : order ≡ a.order = now.names.one_order m.master order a.order sent (sent_later s told) in
      let was : IsBackup w a.order.backup a.sources.b = subst (λ (node : NodeId). IsBackup w node a.sources.b) (sym a.its_node) a.sources.its_backup in
      let o = backup_later s a.order.backup a.sources.b was in
      let one : b ≡ o.0 = one_backup b o.0 (subst (λ (r : Recover). IsBackup v r.backup b) same is) o.1 in
      f.recovered i m at a.order told a.sources.b was ∙ ap (λ (es : List Entry). length es) (sym (kept a o.0 o.2)) ∙ ap (λ (x : BackupState). length x.log) (sym one)
    where
      kept : {l : Lists} → (a : AdoptionOk w l) → (b : BackupState) → BackupGrows a.sources.b b → b.log ≡ a.sources.b.log
      kept {l} a b grows = go a.sources.b.installed refl
        where
          at_home : BackupOk w a.before a.sources.b
          at_home = known.inv.backups a.before a.was.given a.node a.named a.sources.b a.sources.its_backup

          go : (o : Option ℕ) → a.sources.b.installed ≡ o → b.log ≡ a.sources.b.log
          go None is = grows.absent is
          go (Some e) is = grows.fenced e is (omega (arith, at_home.installed e is, a.earlier, a.sources.fenced))

  -- what they tell stays, with those who are adopted now among them
  pub part_later : (part : ℕ) (cs : List Mark) → PartCuts w part cs → ((l : Lists) → WasAdopted v l → l.part ≡ part → (i : ℕ) × At (reigns part cs) i (reign_in l)) → PartCuts v part cs
  part_later part cs f there = record {
    ranged = λ i m at. let r = f.ranged i m at in (r.0, omega (arith, r.1, parts_same));
    adopted = λ i r one few at. reign_later part r (f.adopted i r one (omega (arith, few, parts_same)) at);
    rise = f.rise;
    there = there;
    low = λ i r m at there. low_later part cs f i r m at there;
    stored = λ i m at. from_stays s m.master part (cut_length m.place) (f.stored i m at);
    counted = f.counted;
    recovered = λ i m at order sent b is. recovered_later part cs f i m at order sent b is;
  }

  module _ (entries : (c : PartConfig) → IsAdoptedNow v c → EntryStays w c) (newer : NewerLists w v) where
    -- lists that are adopted now are of a reign that was there
    reign_there : (part : ℕ) (cs : List Mark) → PartCuts w part cs → (l : Lists) → WasAdopted v l → l.part ≡ part → (i : ℕ) × At (reigns part cs) i (reign_in l)
    reign_there part cs f l was its = elim (newer l was) [
      | inl old ↦ f.there l old its
      | inr above ↦
          let h = entry_here now l was.given in
          let e = entries h.0 h.1 in
          let its_part : e.entry.part ≡ l.part = e.its_part ∙ h.2 in
          let top = known.names.top e.entry e.now in
          let low = above (lists_of_part e.entry) top.was its_part in
          let high = (now.names.top h.0 h.1).epochs l was (sym h.2) in
          let same : l.epoch ≡ h.0.epoch = omega (arith, low, high, e.its_epoch) in
          let master : l.master ≡ h.0.master = (now.names.agree l (lists_of_part h.0) was.given (now.names.top h.0 h.1).was.given).by_epoch (sym h.2) same in
          let o = f.there (lists_of_part e.entry) top.was (its_part ∙ its) in
          (o.0, subst (λ (r : Reign). At (reigns part cs) o.0 r) (reign_same (e.its_epoch ∙ sym same) (e.its_master ∙ sym master)) o.1)
    ]
      where
        reign : ℕ → NodeId → Reign
        reign epoch master = record { epoch = epoch; master = master }

        reign_same : {a b : ℕ} {x y : NodeId} → a ≡ b → x ≡ y → reign a x ≡ reign b y
        reign_same p q = ap₂ reign p q

    -- so where no mark of an adoption comes, what these tell stays
    pub cuts_stay : ((part : ℕ) → cuts part v.marks ≡ cuts part w.marks) → CutsFollow w → CutsFollow v
    cuts_stay same f part = subst (PartCuts v part) (sym (same part)) (part_later part (cuts part w.marks) (f part) (reign_there part (cuts part w.marks) (f part)))

-- ---- what they tell

module _ {w : World} (known : Known w) (follow : CutsFollow w) where
  -- the master before an adoption was adopted
  pub superseded_reign : (part number : ℕ) (r : Reign) (m : Mark) → Superseded w part number r m → ReignOk w part r
  superseded_reign part zero r m h = let none = h.cut in absurd cc
  superseded_reign part (suc i) r m h = let p = (follow part).ranged i m h.cut in (follow part).adopted i r p.0 p.1 h.before

  -- and its log has what was recovered
  pub superseded_low : (part number : ℕ) (r : Reign) (m : Mark) → Superseded w part number r m → cut_length m.place ≤ length (log_of w part r.master).log
  superseded_low part zero r m h = let none = h.cut in absurd cc
  superseded_low part (suc i) r m h = (follow part).low i r m h.before h.cut

  -- a partition has a master once
  pub superseded_once : (part number p n : ℕ) (r s : Reign) (m o : Mark) → Superseded w part number r m → Superseded w p n s o → s.master ≡ r.master → (p ≡ part) × (n ≡ number)
  superseded_once part zero p n r s m o h k same = let none = h.cut in absurd cc
  superseded_once part (suc i) p zero r s m o h k same = let none = k.cut in absurd cc
  superseded_once part (suc i) p (suc j) r s m o h k same =
      let a = superseded_reign part (suc i) r m h in
      let b = superseded_reign p (suc j) s o k in
      let agree = (known.names.agree b.lists a.lists b.adopted.given a.adopted.given).by_master (b.its_master ∙ same ∙ sym a.its_master) in
      let its : p ≡ part = sym b.its_part ∙ agree.0 ∙ a.its_part in
      let epoch : s.epoch ≡ r.epoch = sym b.its_epoch ∙ agree.1 ∙ a.its_epoch in
      let there : At (reigns part (cuts part w.marks)) j s = subst (λ (q : ℕ). At (reigns q (cuts q w.marks)) j s) its k.before in (
        its,
        elim (cases_lt i j) [
          | inl lt ↦ let up = (follow part).rise i j r s lt h.before there in absurd (omega (arith, up, epoch))
          | inr ge ↦ elim (cases_lt j i) [
            | inl lt ↦ let up = (follow part).rise j i s r lt there h.before in absurd (omega (arith, up, epoch))
            | inr le ↦ omega (arith, ge, le)
          ]
        ],
      )

  -- an adoption brought another master
  next_reign : (part i : ℕ) (m : Mark) → At (cuts part w.marks) i m → At (reigns part (cuts part w.marks)) (suc i) (reign_of m)
  next_reign part i m at = at_map reign_of (cuts part w.marks) i m at

  -- so the one before isn't adopted
  pub superseded_out : (part number : ℕ) (r : Reign) (m : Mark) → Superseded w part number r m → (c : PartConfig) → IsAdoptedNow w c → c.master ≢ r.master
  superseded_out part zero r m h c now same = let none = h.cut in absurd cc
  superseded_out part (suc i) r m h c now same =
      let a = superseded_reign part (suc i) r m h in
      let p = (follow part).ranged i m h.cut in
      let b = (follow part).adopted (suc i) (reign_of m) p.0 p.1 (next_reign part i m h.cut) in
      let up = (follow part).rise i (suc i) r (reign_of m) (omega arith) h.before (next_reign part i m h.cut) in
      let top = known.names.top c now in
      let agree = (known.names.agree (lists_of_part c) a.lists top.was.given a.adopted.given).by_master (same ∙ sym a.its_master) in
      let high = top.epochs b.lists b.adopted (b.its_part ∙ sym (agree.0 ∙ a.its_part)) in
      omega (arith, up, high, agree.1, a.its_epoch, b.its_epoch)

  -- the last of them is the present one
  pub last_reign : (c : PartConfig) → IsAdoptedNow w c → At (reigns c.part (cuts c.part w.marks)) (length (cuts c.part w.marks)) (reign_in (lists_of_part c))
  last_reign c now = let o = (follow c.part).there (lists_of_part c) top.was refl in go o.0 o.1
    where
      cs : List Mark
      cs = cuts c.part w.marks

      top : Top w (lists_of_part c)
      top = known.names.top c now

      go : (i : ℕ) → At (reigns c.part cs) i (reign_in (lists_of_part c)) → At (reigns c.part cs) (length cs) (reign_in (lists_of_part c))
      go i at = elim (cases_lt i (length cs)) [
        | inl lt ↦
            let m = at_some cs i lt in
            let p = (follow c.part).ranged i m.0 m.1 in
            let next = at_map reign_of cs i m.0 m.1 in
            let b = (follow c.part).adopted (suc i) (reign_of m.0) p.0 p.1 next in
            let up = (follow c.part).rise i (suc i) (reign_in (lists_of_part c)) (reign_of m.0) (omega arith) at next in
            absurd (omega (arith, up, top.epochs b.lists b.adopted b.its_part, b.its_epoch))
        | inr ge ↦
            let below = at_within (reigns c.part cs) i (reign_in (lists_of_part c)) at in
            let one : i ≡ length cs = omega (arith, ge, below, length-map cs reign_of) in
            subst (λ (j : ℕ). At (reigns c.part cs) j (reign_in (lists_of_part c))) one at
      ]

  -- a master that serves and isn't adopted
  pub record SupersededAt (node : NodeId) (part : ℕ) : Type 0 where
    pub number : ℕ
    pub r : Reign
    pub m : Mark
    pub its : Superseded w part number r m
    pub its_master : r.master ≡ node

  -- is superseded
  pub serving_superseded : (l : Lists) → WasAdopted w l → ((c : PartConfig) → IsAdoptedNow w c → c.master ≢ l.master) → SupersededAt l.master l.part
  serving_superseded l was out = let o = (follow l.part).there l was refl in go o.0 o.1
    where
      cs : List Mark
      cs = cuts l.part w.marks

      go : (i : ℕ) → At (reigns l.part cs) i (reign_in l) → SupersededAt l.master l.part
      go i at = elim (cases_lt i (length cs)) [
        | inl lt ↦ let m = at_some cs i lt in record { number = suc i; r = reign_in l; m = m.0; its = record { before = at; cut = m.1 }; its_master = refl }
        | inr ge ↦
            let h = entry_here known l was.given in
            let last : At (reigns l.part cs) (length cs) (reign_in (lists_of_part h.0)) = subst (λ (p : ℕ). At (reigns p (cuts p w.marks)) (length (cuts p w.marks)) (reign_in (lists_of_part h.0))) h.2 (last_reign h.0 h.1) in
            let one : i ≡ length cs = omega (arith, ge, at_within (reigns l.part cs) i (reign_in l) at, length-map cs reign_of) in
            let same = at_same (reigns l.part cs) (length cs) (reign_in (lists_of_part h.0)) (reign_in l) last (subst (λ (j : ℕ). At (reigns l.part cs) j (reign_in l)) one at) in
            absurd (out h.0 h.1 (ap (λ (x : Reign). x.master) same))
      ]
