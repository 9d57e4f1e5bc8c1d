-- Where what was told to be stored stands in adopted logs.
use Rattle.std.proofs.Common.{◌≡◌, inl, inr, ℕ, ◌+◌, ◌-◌, ◌<◌, ◌≤◌, List, length, take, sym, subst, arith, Some}
use Rattle.std.proofs.lemmas.Bool.{cases_lt}
use Rattle.std.proofs.lemmas.List.{length-take-le}
use Rattle.curp_base.specs.Words.{At, IsPrefix, numbered}
use Rattle.curp_base.proofs.Lists.{Each-at, at_same, at_some, at_take, at_within, prefix_at, prefix_back, prefix_length}
use Rattle.curp_cmd.specs.declared.entry.Entry.{Entry}
use Rattle.curp_cmd.specs.declared.entry.Entry.TheVariants.{Take, Give}
use Rattle.curp_cmd.specs.declared.migration.Package.{Package}
use Rattle.curp_cmd.specs.declared.node.NodeId.{NodeId}
use Rattle.curp_msg.specs.declared.config.PartConfig.{PartConfig}
use Rattle.curp_model.specs.Backup.{BackupState}
use Rattle.curp_model.specs.Named.{IsBackup}
use Rattle.curp_model.specs.World.{World}
use Rattle.curp_facts.specs.Entries.{LogOk}
use Rattle.curp_facts.specs.Facts.{HasLog, IsAdoptedNow, lists_of_part}
use Rattle.curp_facts.specs.Invariant.{Invariant}
use Rattle.curp_facts.specs.Kept.{AdoptedLog}
use Rattle.curp_facts.specs.Reach.{Reach}
use Rattle.curp_facts.specs.Said.{StoredEntry}
use Rattle.curp_law_kept.proofs.Gives.{prefix_take, numbered_now, entry_numbered}
use Rattle.curp_facts.specs.Names.{Names}
use Rattle.curp_facts.specs.Predecessors.{Predecessors}
use Rattle.curp_law_runs.proofs.Along.{reach_along}
use Rattle.curp_law_runs.proofs.Logs.{log_ok}
use Rattle.curp_law_runs.proofs.Words.{one_log}
use Rattle.curp_facts.specs.Stored.{StoredNow}
use Rattle.curp_base.proofs.Numbered.{at_place}

module _ {w : World} (names : Names w) where
  -- a partition has one entry
  pub one_entry : (c d : PartConfig) → IsAdoptedNow w c → IsAdoptedNow w d → c.part ≡ d.part → c ≡ d
  one_entry c d here there same =
      let at : numbered w.manager.config.parts d.part ≡ Some c = subst (λ (p : ℕ). numbered w.manager.config.parts p ≡ Some c) same here in
      cc (at, there)

  -- and one log
  pub one_adopted : (c d : PartConfig) (l : AdoptedLog w c) (k : AdoptedLog w d) → c.part ≡ d.part → l.its ≡ k.its
  one_adopted c d l k same =
      let one = one_entry c d l.now k.now same in
      one_log l.its k.its l.its_log (subst (λ (x : PartConfig). HasLog w x.master k.its) (sym one) k.its_log)

  -- a partition that has given lists has an entry
  pub entry_of : (p : ℕ) → 1 ≤ p → p ≤ w.manager.shape.parts → (c : PartConfig) × IsAdoptedNow w c × (c.part ≡ p)
  entry_of p low high =
      let k : ℕ = p - 1 in
      let c = at_some w.manager.config.parts k (omega (arith, names.numbers.parts, low, high)) in
      let here : numbered w.manager.config.parts p ≡ Some c.0 = at_place w.manager.config.parts k p c.0 (omega (arith, low)) c.1 in
      (c.0, numbered_now names p c.0 here, entry_numbered names p c.0 here)

  module _ (inv : Invariant w) where
    -- the adopted log of a partition is a log of it
    pub adopted_ok : (c : PartConfig) (l : AdoptedLog w c) → LogOk w c.part l.its.log
    adopted_ok c l = log_ok names inv (lists_of_part c) (names.top c l.now).was.given l.its l.its_log

    module _ (chain : Predecessors w) where
      -- what was told to be stored stands in the adopted log of its partition, on each of its backups
      abbrev pub stored_now : (from : NodeId) (Is : Entry → Type 0) (s : StoredEntry w from Is) → StoredNow w s.lists.part s.l.log s.index
      stored_now from Is s =
          let given = names.given s.lists s.adopted.given in
          let c = entry_of s.lists.part given.part.0 given.part.1 in
          let has_log : HasLog w s.lists.master s.l = subst (λ (n : NodeId). HasLog w n s.l) (sym s.its_master) s.its_log in
          let reach : Reach w s.lists.master s.lists.version (s.index + 1) = subst (λ (n : NodeId). Reach w n s.lists.version (s.index + 1)) (sym s.its_master) s.reach in
          let within = at_within s.l.log s.index s.entry s.stands in
          let top = names.top c.0 c.1 in
          let o = reach_along names inv chain s.lists s.adopted s.l has_log (s.index + 1) (omega (arith, within)) reach (lists_of_part c.0) top.was c.2 (top.versions s.lists s.adopted (sym c.2)) in
          record {
            entry = c.0;
            its = record { now = c.1; its = o.its; its_log = o.its_log };
            its_part = c.2;
            prefix = o.in_log;
            stored = λ node named b is.
                let prefix : IsPrefix (take (s.index + 1) s.l.log) b.log = Each-at (λ node. (b : BackupState) → IsBackup w node b → IsPrefix (take (s.index + 1) s.l.log) b.log) c.0.backups o.on_all named.place node named.stands b is in
                omega (arith, prefix_length prefix, length-take-le (s.index + 1) s.l.log (omega (arith, within)));
          }

-- what stands among the first of a log stands in each that begins so
pub place_in_prefix : (index : ℕ) (log other : List Entry) (k : ℕ) (e : Entry) → index < length log → IsPrefix (take (index + 1) log) other → k ≤ index → At log k e → At other k e
place_in_prefix index log other k e within prefix low at =
    prefix_at prefix k e (prefix_back (prefix_take (index + 1) log) k e (omega (arith, low, length-take-le (index + 1) log (omega (arith, within)))) at)

-- and the other way round
pub prefix_from_back : (index : ℕ) (log other : List Entry) (k : ℕ) (e : Entry) → index < length log → IsPrefix (take (index + 1) log) other → k ≤ index → At other k e → At log k e
prefix_from_back index log other k e within prefix low at =
    (at_take (index + 1) log k e (prefix_back prefix k e (omega (arith, low, length-take-le (index + 1) log (omega (arith, within)))) at)).1

-- ---- migrations stand at most once in a log

pub one_take : {w : World} (part : ℕ) (log : List Entry) → LogOk w part log → (i j number : ℕ) (p q : Package) → At log i (Take number p) → At log j (Take number q) → (i ≡ j) × (p ≡ q)
one_take part log ok i j number p q a b = elim (cases_lt i j) [
  | inl less ↦ absurd (omega (arith, ok.takes i j number number p q less a b))
  | inr le ↦ elim (cases_lt j i) [
    | inl more ↦ absurd (omega (arith, ok.takes j i number number q p more b a))
    | inr ge ↦
        let same : i ≡ j = omega (arith, le, ge) in
        let one : Take number p ≡ Take number q = at_same log j (Take number p) (Take number q) (subst (λ (k : ℕ). At log k (Take number p)) same a) b in
        (same, cc one)
  ]
]

pub one_give : {w : World} (part : ℕ) (log : List Entry) → LogOk w part log → (i j number : ℕ) (p q : Package) → At log i (Give number p) → At log j (Give number q) → i ≡ j
one_give part log ok i j number p q a b = elim (cases_lt i j) [
  | inl less ↦ absurd (omega (arith, ok.gives i j number number p q less a b))
  | inr le ↦ elim (cases_lt j i) [
    | inl more ↦ absurd (omega (arith, ok.gives j i number number q p more b a))
    | inr ge ↦ omega (arith, le, ge)
  ]
]
