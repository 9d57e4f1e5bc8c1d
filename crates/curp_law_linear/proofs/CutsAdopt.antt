-- An adoption of a recovery is one more among those of its partition, and brings the partition another master.
use Rattle.std.proofs.Common.{◌≡◌, inl, inr, ◌⊎◌, ◌<◌, ◌≤◌, ◌+◌, ◌==◌, if◌then◌else◌, ℕ, suc, Bool, true, false, List, [], ◌∷◌, ◌++◌, drop, length, map, refl, ap, ap₂, sym, ◌∙◌, subst, arith}
use Rattle.std.proofs.lemmas.Bool.{eqb-true, eq-eqb}
use Rattle.std.proofs.lemmas.List.{length-map}
use Rattle.curp_base.specs.Words.{At}
use Rattle.curp_base.proofs.Lists.{at_append, at_push, at_push_cases, at_same, at_within}
use Rattle.curp_cmd.specs.Node.{manager_node, master_node}
use Rattle.curp_cmd.specs.declared.node.NodeId.{NodeId}
use Rattle.curp_model.specs.Marks.{Cut, Mark, adoptions, cut_mark}
use Rattle.curp_model.specs.World.{World, op_requests}
use Rattle.curp_facts.specs.Facts.{Lists, lists_of_part, WasSent}
use Rattle.curp_facts.specs.Known.{Known}
use Rattle.curp_law_linear.specs.OfWorld.{Reign, cut_length, cuts, log_of, reign_of, reigns}
use Rattle.curp_law_linear.specs.Ordered.{CutsFollow, PartCuts, ReignOk, StoredFrom, reign_in}
use Rattle.curp_law_linear.specs.Refined.{Refines}
use Rattle.curp_law_linear.proofs.CutMarks.{cuts_adopted}
use Rattle.curp_law_linear.proofs.Cuts.{last_reign, log_grows, low_later, part_later, parts_same, recovered_later, reign_later}
use Rattle.curp_law_linear.proofs.ReadsManager.{AdoptsRecovery}
use Rattle.curp_law_linear.proofs.ReadsStored.{from_stays}
use Rattle.curp_facts.specs.Predecessors.{Predecessors}
use Rattle.curp_law_runs.proofs.Gives.{one_backup}
use Rattle.curp_model.specs.Backup.{BackupState}
use Rattle.curp_model.specs.Named.{IsBackup}
use Rattle.curp_msg.specs.Moved.{says}
use Rattle.curp_msg.specs.declared.body.Body.TheVariants as body
use Rattle.curp_msg.specs.declared.body.Recover.{Recover}
use Rattle.curp_law_kept.proofs.Gives.{Follows, sent_later}

-- one more adoption, one more master
map_push : {A B : Type 0} (f : A → B) (xs : List A) (x : A) → map f (xs ++ x ∷ []) ≡ map f xs ++ f x ∷ []
map_push f [] x = refl
map_push f (y ∷ ys) x = ap (λ zs. f y ∷ zs) (map_push f ys x)

pub reigns_push : (part : ℕ) (cs : List Mark) (m : Mark) → reigns part (cs ++ m ∷ []) ≡ reigns part cs ++ reign_of m ∷ []
reigns_push part cs m = ap (λ (rs : List Reign). record { epoch = 1; master = master_node part } ∷ rs) (map_push reign_of cs m)

pub count_reigns : (part : ℕ) (cs : List Mark) → length (reigns part cs) ≡ suc (length cs)
count_reigns part cs = ap suc (length-map cs reign_of)

module _ {w v : World} (known : Known w) (chain : Predecessors w) (now : Known v) (s : Follows w v) (r : Refines w v) (d : AdoptsRecovery w v r) (follow : CutsFollow w)
    (within : d.p.cut ≤ length (log_of w d.a.order.part d.before.master).log) (stored : StoredFrom v d.a.master d.a.order.part d.p.cut)
    (b : BackupState) (its_backup : IsBackup v d.a.order.backup b) (its_cut : d.p.cut ≡ length b.log) where
  abbrev part : ℕ
  part = d.a.order.part

  abbrev own : Mark
  own = cut_mark d.a.master part d.a.order.epoch (adoptions part w.marks + 1) d.p.cut

  abbrev cs : List Mark
  cs = cuts part w.marks

  f : PartCuts w part cs
  f = follow part

  reign_cases : (i : ℕ) (x : Reign) → At (reigns part (cs ++ own ∷ [])) i x → At (reigns part cs) i x ⊎ ((i ≡ suc (length cs)) × (reign_of own ≡ x))
  reign_cases i x at = elim (at_push_cases (reigns part cs) (reign_of own) i x (subst (λ (xs : List Reign). At xs i x) (reigns_push part cs own) at)) [
    | inl old ↦ inl old
    | inr new ↦ inr (new.0 ∙ count_reigns part cs, new.1)
  ]

  reign_old : (i : ℕ) (x : Reign) → At (reigns part cs) i x → At (reigns part (cs ++ own ∷ [])) i x
  reign_old i x at = subst (λ (xs : List Reign). At xs i x) (sym (reigns_push part cs own)) (at_append (reigns part cs) (reign_of own ∷ []) i x at)

  -- a reign that was there has a place among them
  reign_low : (i : ℕ) (x : Reign) → At (reigns part cs) i x → i ≤ length cs
  reign_low i x at = omega (arith, at_within (reigns part cs) i x at, count_reigns part cs)

  range : (1 ≤ part) × (part ≤ w.manager.shape.parts)
  range = subst (λ (p : ℕ). (1 ≤ p) × (p ≤ w.manager.shape.parts)) (sym d.ok.its_part) (known.names.given (lists_of_part d.before) (known.names.top d.before d.was_now).was.given).part

  -- each was of an earlier epoch
  earlier : (i : ℕ) (x : Reign) → At (reigns part cs) i x → x.epoch < d.a.order.epoch
  earlier i x at =
      let o = f.adopted i x range.0 range.1 at in
      let top = (known.names.top d.before d.was_now).epochs o.lists o.adopted (o.its_part ∙ d.ok.its_part) in
      omega (arith, top, o.its_epoch, d.ok.later)

  new_reign : ReignOk v part (reign_of own)
  new_reign = record { lists = lists_of_part d.entry; adopted = (now.names.top d.entry d.entry_now).was; its_part = d.its_part; its_epoch = d.its_epoch; its_master = d.its_master }

  -- the one before is that of the present entry
  last_is : (x : Reign) → At (reigns part cs) (length cs) x → x.master ≡ d.before.master
  last_is x at =
      let last : At (reigns part cs) (length cs) (reign_in (lists_of_part d.before)) = subst (λ (p : ℕ). At (reigns p (cuts p w.marks)) (length (cuts p w.marks)) (reign_in (lists_of_part d.before))) (sym d.ok.its_part) (last_reign known follow d.before d.was_now) in
      ap (λ (y : Reign). y.master) (at_same (reigns part cs) (length cs) x (reign_in (lists_of_part d.before)) at last)

  before_low : (x : Reign) → x.master ≡ d.before.master → d.p.cut ≤ length (log_of v part x.master).log
  before_low x is =
      let of = (known.names.given (lists_of_part d.before) (known.names.top d.before d.was_now).was.given).master.0 in
      subst (λ (node : NodeId). d.p.cut ≤ length (log_of v part node).log) (sym is) (omega (arith, within, log_grows known chain now s d.before.master of))

  part_adopted : PartCuts v part (cs ++ own ∷ [])
  part_adopted = record {
    ranged = λ i m at. (range.0, omega (arith, range.1, parts_same known chain now s));
    adopted = λ i x one few at. elim (reign_cases i x at) [
      | inl old ↦ reign_later known chain now s part x (f.adopted i x range.0 range.1 old)
      | inr new ↦ subst (ReignOk v part) new.1 new_reign
    ];
    rise = λ i j x y lt a b. elim (reign_cases i x a) [
      | inl old ↦ elim (reign_cases j y b) [
        | inl other ↦ f.rise i j x y lt old other
        | inr new ↦ omega (arith, earlier i x old, ap (λ (z : Reign). z.epoch) new.1)
      ]
      | inr new ↦ elim (reign_cases j y b) [
        | inl other ↦ absurd (omega (arith, lt, new.0, reign_low j y other))
        | inr too ↦ absurd (omega (arith, lt, new.0, too.0))
      ]
    ];
    there = λ l was its. elim (d.back l was) [
      | inl old ↦ let o = f.there l old its in (o.0, reign_old o.0 (reign_in l) o.1)
      | inr new ↦ (
        suc (length cs),
        subst (λ (xs : List Reign). At xs (suc (length cs)) (reign_in l)) (sym (reigns_push part cs own))
            (subst (λ (x : Reign). At (reigns part cs ++ reign_of own ∷ []) (suc (length cs)) x) (sym (same_reign l new)) (at_push (reigns part cs) (reign_of own) (suc (length cs)) (sym (count_reigns part cs)))),
      )
    ];
    low = λ i x m at to. elim (at_push_cases cs own i m to) [
      | inl old ↦ elim (reign_cases i x at) [
        | inl was ↦ low_later known chain now s part cs f i x m was old
        | inr new ↦ absurd (omega (arith, at_within cs i m old, new.0))
      ]
      | inr mine ↦ elim (reign_cases i x at) [
        | inl was ↦ subst (λ (y : Mark). cut_length y.place ≤ length (log_of v part x.master).log) mine.1 (before_low x (last_is x (subst (λ (k : ℕ). At (reigns part cs) k x) mine.0 was)))
        | inr new ↦ absurd (omega (arith, mine.0, new.0))
      ]
    ];
    stored = λ i m to. elim (at_push_cases cs own i m to) [
      | inl old ↦ from_stays s m.master part (cut_length m.place) (f.stored i m old)
      | inr mine ↦ subst (λ (y : Mark). StoredFrom v y.master part (cut_length y.place)) mine.1 stored
    ];
    counted = λ i m to. elim (at_push_cases cs own i m to) [
      | inl old ↦ f.counted i m old
      | inr mine ↦ subst (λ (y : Mark). y.place ≡ Cut (suc i) (cut_length y.place)) mine.1 (ap (λ (n : ℕ). Cut n d.p.cut) (next_number i mine.0))
    ];
    recovered = λ i m to order sent x is. elim (at_push_cases cs own i m to) [
      | inl old ↦ recovered_later known chain now s part cs f i m old order sent x is
      | inr mine ↦
          let same : order ≡ d.a.order = now.names.one_order d.a.master order d.a.order (subst (λ (y : Mark). WasSent v (says manager_node y.master (body.Recover order))) (sym mine.1) sent) (sent_later s d.ok.sent) in
          let one : x ≡ b = one_backup x b (subst (λ (o : Recover). IsBackup v o.backup x) same is) its_backup in
          subst (λ (y : Mark). cut_length y.place ≡ length x.log) mine.1 (its_cut ∙ ap (λ (z : BackupState). length z.log) (sym one))
    ];
  }
    where
      next_number : (i : ℕ) → i ≡ length cs → length cs + 1 ≡ suc i
      next_number i e = omega (arith, e)

      reign : ℕ → NodeId → Reign
      reign epoch master = record { epoch = epoch; master = master }

      same_reign : (l : Lists) → l ≡ lists_of_part d.entry → reign_in l ≡ reign_of own
      same_reign l new = ap₂ reign (ap (λ (z : Lists). z.epoch) new ∙ d.its_epoch) (ap (λ (z : Lists). z.master) new ∙ d.its_master)

  -- those of other partitions stay
  part_other : (q : ℕ) → (part ≡ q → ⊥) → PartCuts v q (cuts q w.marks)
  part_other q other = part_later known chain now s q (cuts q w.marks) (follow q) (λ l was its. elim (d.back l was) [
    | inl old ↦ (follow q).there l old its
    | inr new ↦ absurd (other (sym d.its_part ∙ sym (ap (λ (z : Lists). z.part) new) ∙ its))
  ])

  -- each mark of an adoption was there, or is the new one
  pub cuts_cases : (q i : ℕ) (m : Mark) → At (cuts q v.marks) i m → At (cuts q w.marks) i m ⊎ ((q ≡ part) × (i ≡ length cs))
  cuts_cases q i m at = go (part == q) refl (subst (λ (xs : List Mark). At xs i m) (ap (cuts q) d.marks ∙ cuts_adopted q d.a.master part d.a.order.epoch d.p.cut (op_requests (drop d.p.cut d.p.log)) w.marks) at)
    where
      go : (b : Bool) → (part == q) ≡ b → At (if b then cuts q w.marks ++ own ∷ [] else cuts q w.marks) i m → At (cuts q w.marks) i m ⊎ ((q ≡ part) × (i ≡ length cs))
      go false is at = inl at
      go true is at = elim (at_push_cases (cuts q w.marks) own i m at) [
        | inl old ↦ inl old
        | inr new ↦ let same : q ≡ part = sym (eqb-true part q is) in inr (same, new.0 ∙ ap (λ (p : ℕ). length (cuts p w.marks)) same)
      ]

  pub cuts_follow_adopted : CutsFollow v
  cuts_follow_adopted q = subst (λ (xs : List Mark). PartCuts v q xs) (sym (ap (cuts q) d.marks ∙ cuts_adopted q d.a.master part d.a.order.epoch d.p.cut (op_requests (drop d.p.cut d.p.log)) w.marks)) (go (part == q) refl)
    where
      go : (b : Bool) → (part == q) ≡ b → PartCuts v q (if b then cuts q w.marks ++ own ∷ [] else cuts q w.marks)
      go true is = subst (λ (p : ℕ). PartCuts v p (cuts p w.marks ++ own ∷ [])) (eqb-true part q is) part_adopted
      go false is = part_other q (λ same. absurd (let bad : false ≡ true = sym is ∙ ap (λ (p : ℕ). part == p) (sym same) ∙ eq-eqb part part refl in cc))
