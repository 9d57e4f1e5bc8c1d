-- The adopted logs of a world as partitions of the small machine.
use Rattle.std.proofs.Common.{◌≡◌, ◌⊎◌, inl, inr, ℕ, zero, suc, List, [], ◌∷◌, map, refl, ap, sym, ◌∙◌, subst, arith, Option, Some, None}
use Rattle.curp_base.specs.Words.{At, numbered}
use Rattle.curp_cmd.specs.declared.entry.Entry.{Entry}
use Rattle.curp_cmd.specs.declared.entry.Entry.TheVariants.{Op, Take, Give, Expire}
use Rattle.curp_cmd.specs.declared.node.NodeKind.TheVariants as kind
use Rattle.curp_msg.specs.declared.config.PartConfig.{PartConfig}
use Rattle.curp_model.specs.Recovery.{MasterStage}
use Rattle.curp_model.specs.World.{World}
use Rattle.curp_facts.specs.Entries.{LogOk}
use Rattle.curp_facts.specs.Facts.{IsAdoptedNow, Logged, hi_of, lists_of_part, lo_of, node_log}
use Rattle.curp_facts.specs.Kept.{AdoptedLog}
use Rattle.curp_facts.specs.Known.{Known}
use Rattle.curp_law_linear.specs.Hashes.{Part}
use Rattle.curp_law_linear.specs.OfWorld.{entries_at, line_of, logged_entries, part_of}
use Rattle.curp_law_linear.proofs.Discharged.{IsPlainLog, logs_ok}
use Rattle.curp_law_linear.proofs.Given.{LogsOk}
use Rattle.curp_law_linear.specs.Ordered.{MigrationsRise, Ordered, moved_number}
use Rattle.curp_law_kept.specs.Migrations.{NumbersAscend, give_number, take_number}
use Rattle.curp_law_runs.proofs.Gives.{log_ok, range_ordered}

-- what stands among what a function makes of numbered items
pub numbered_map : {A B : Type 0} (f : A → B) (xs : List A) (n : ℕ) (y : B) → numbered (map f xs) n ≡ Some y → (x : A) × (numbered xs n ≡ Some x) × (y ≡ f x)
numbered_map f xs zero y h = absurd cc
numbered_map {A} {B} f xs (suc k) y h = go xs k h
  where
    go : (xs : List A) (k : ℕ) → At (map f xs) k y → (x : A) × At xs k x × (y ≡ f x)
    go [] k h = absurd cc
    go (x ∷ xs) zero h = (x, refl, cc)
    go (x ∷ xs) (suc k) h = go xs k h

pub numbered_mapped : {A B : Type 0} (f : A → B) (xs : List A) (n : ℕ) (x : A) → numbered xs n ≡ Some x → numbered (map f xs) n ≡ Some (f x)
numbered_mapped f xs zero x h = absurd cc
numbered_mapped {A} {B} f xs (suc k) x h = go xs k h
  where
    go : (xs : List A) (k : ℕ) → At xs k x → At (map f xs) k (f x)
    go [] k h = absurd cc
    go (y ∷ xs) zero h = let same : y ≡ x = cc in ap (λ (z : A). Some (f z)) same
    go (y ∷ xs) (suc k) h = go xs k h

-- numbers that ascend with those of other entries among them ascend
pub rise_alone : (number : Entry → Option ℕ) → ((e : Entry) (m : ℕ) → number e ≡ Some m → moved_number e ≡ Some m) → (log : List Entry) → MigrationsRise log → NumbersAscend number log
rise_alone number more log rise i j m n d e low at to p q = rise i j m n d e low at to (more d m p) (more e n q)

pub takes_move : (e : Entry) (m : ℕ) → take_number e ≡ Some m → moved_number e ≡ Some m
takes_move (Op r acknowledged) m h = absurd cc
takes_move (Take migration taken) m h = h
takes_move (Give migration given) m h = absurd cc
takes_move (Expire client) m h = absurd cc

pub gives_move : (e : Entry) (m : ℕ) → give_number e ≡ Some m → moved_number e ≡ Some m
gives_move (Op r acknowledged) m h = absurd cc
gives_move (Take migration taken) m h = absurd cc
gives_move (Give migration given) m h = h
gives_move (Expire client) m h = absurd cc

module _ {w : World} (known : Known w) where
  -- a partition of the machine is that of an entry of the configuration
  pub part_entry : (n : ℕ) (p : Part) → numbered (line_of w).parts n ≡ Some p → (c : PartConfig) × IsAdoptedNow w c × (c.part ≡ n) × (p ≡ part_of w c)
  part_entry n p h =
      let o = numbered_map (part_of w) w.manager.config.parts n p h in
      let its : o.0.part ≡ n = number n o.0 o.1 in
      (o.0, subst (λ (k : ℕ). numbered w.manager.config.parts k ≡ Some o.0) (sym its) o.1, its, o.2)
    where
      number : (n : ℕ) (c : PartConfig) → numbered w.manager.config.parts n ≡ Some c → c.part ≡ n
      number zero c h = absurd cc
      number (suc k) c h = omega (arith, known.names.entries k c h)

  -- and each entry is one
  pub entry_part : (c : PartConfig) → IsAdoptedNow w c → numbered (line_of w).parts c.part ≡ Some (part_of w c)
  entry_part c now = numbered_mapped (part_of w) w.manager.config.parts c.part c now

  -- its log is the adopted one
  pub part_log : (c : PartConfig) (l : AdoptedLog w c) → (part_of w c).log ≡ l.its.log
  part_log c l = ap entries_at l.its_log.is.its_state ∙ ap logged_entries l.its_log.its_log

  -- there is an adopted log, or nothing
  pub adopted_or_none : (c : PartConfig) → IsAdoptedNow w c → AdoptedLog w c ⊎ ((part_of w c).log ≡ [])
  adopted_or_none c now = go (numbered w.masters c.master.number) refl
    where
      its_kind : c.master.kind ≡ kind.Master
      its_kind = (known.names.given (lists_of_part c) (known.names.top c now).was.given).master.0

      logged : (m : MasterStage) → numbered w.masters c.master.number ≡ Some m → (o : Option Logged) → node_log m ≡ o → AdoptedLog w c ⊎ ((part_of w c).log ≡ [])
      logged m is None e = inr (ap entries_at is ∙ ap logged_entries e)
      logged m is (Some l) e = inl (record { now = now; its = l; its_log = record { m = m; is = record { its_kind = its_kind; its_state = is }; its_log = e } })

      go : (o : Option MasterStage) → numbered w.masters c.master.number ≡ o → AdoptedLog w c ⊎ ((part_of w c).log ≡ [])
      go None e = inr (ap entries_at e)
      go (Some m) e = logged m e (node_log m) refl

  -- each adopted log is a log by itself
  pub plain : Ordered w → (c : PartConfig) → IsAdoptedNow w c → IsPlainLog (part_of w c)
  plain ordered c now = elim (adopted_or_none c now) [
    | inl l ↦ subst Plain (sym (part_log c l)) (of_log l)
    | inr none ↦ subst Plain (sym none) (record { ordered = range_ordered w c.part; is_log = refl; gives_fit = tt; takes = λ i j m n d e low at to p q. absurd (nothing i d at); gives = λ i j m n d e low at to p q. absurd (nothing i d at) })
  ]
    where
      Plain : List Entry → Type 0
      Plain log = IsPlainLog (record { lo = lo_of w c.part; hi = hi_of w c.part; log = log })

      nothing : (i : ℕ) (d : Entry) → At {A = Entry} [] i d → ⊥
      nothing i d h = cc

      of_log : (l : AdoptedLog w c) → Plain l.its.log
      of_log l =
          let ok : LogOk w c.part l.its.log = log_ok known.names known.inv (lists_of_part c) (known.names.top c now).was.given l.its l.its_log in
          let its = ordered.logs c l in
          record {
            ordered = range_ordered w c.part;
            is_log = ok.is_log;
            gives_fit = its.fit;
            takes = rise_alone take_number takes_move l.its.log its.rise;
            gives = rise_alone give_number gives_move l.its.log its.rise;
          }

  -- so what the machine takes as given of its logs is so
  pub line_logs : Ordered w → LogsOk (line_of w).parts
  line_logs ordered = logs_ok (line_of w).parts (λ n p h. let o = part_entry n p h in subst IsPlainLog (sym o.3) (plain ordered o.0 o.1))
