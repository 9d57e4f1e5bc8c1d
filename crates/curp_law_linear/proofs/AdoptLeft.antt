-- The superseded logs after an adoption: the log that the partition had is one more, and the others stay.
use Rattle.std.proofs.Common.{◌≡◌, inl, inr, ◌≤◌, ◌+◌, ◌==◌, ◌&&◌, if◌then◌else◌, ℕ, zero, suc, Bool, true, false, List, [], ◌∷◌, ◌++◌, drop, length, length-append, slice_get, take, refl, ap, ap₂, sym, ◌∙◌, subst, arith, Option, Some, None}
use Rattle.std.proofs.lemmas.Bool.{cases_eq, cases_lt, eqb-true, eq-eqb}
use Rattle.curp_base.specs.Words.{At, numbered}
use Rattle.curp_base.proofs.Lists.{at_append, at_push, at_some}
use Rattle.curp_cmd.specs.declared.entry.Entry.{Entry}
use Rattle.curp_cmd.specs.declared.node.NodeId.{NodeId}
use Rattle.curp_msg.specs.declared.config.PartConfig.{PartConfig}
use Rattle.curp_model.specs.Marks.{Mark, adoptions}
use Rattle.curp_model.specs.World.{World}
use Rattle.curp_facts.specs.Facts.{lists_of_part}
use Rattle.curp_law_linear.specs.Hashes.{Part}
use Rattle.curp_law_linear.specs.Line.{Left}
use Rattle.curp_law_linear.specs.OfWorld.{Reign, cut_length, cuts, entries_at, left_at, left_by, left_of, no_left, part_of, reign_of, reigns}
use Rattle.curp_law_linear.specs.Ordered.{reign_in}
use Rattle.curp_law_linear.proofs.CutsAdopt.{count_reigns, reigns_push}
use Rattle.curp_law_linear.proofs.Left.{left_stays, log_by}

-- past the end there is nothing
past_end : {A : Type 0} (xs : List A) (i : ℕ) → length xs ≤ i → slice_get xs i ≡ None
past_end [] i low = refl
past_end (x ∷ xs) zero low = absurd (omega (arith, low))
past_end (x ∷ xs) (suc i) low = past_end xs i (omega (arith, low))

-- a log that begins so, split behind that
take_prefix : {A : Type 0} (xs ys : List A) → take (length xs) (xs ++ ys) ≡ xs
take_prefix [] ys = refl
take_prefix (x ∷ xs) ys = ap (λ zs. x ∷ zs) (take_prefix xs ys)

pub drop_prefix : {A : Type 0} (xs ys : List A) → drop (length xs) (xs ++ ys) ≡ ys
drop_prefix [] ys = refl
drop_prefix (x ∷ xs) ys = drop_prefix xs ys

pub left_prefix : (p : Part) (prefix back : List Entry) → prefix ++ back ≡ p.log → left_at p (length prefix) ≡ record { prefix = record p { log = prefix }; back = back }
left_prefix p prefix back is =
    ap₂ (λ (xs ys : List Entry). record { prefix = record p { log = xs }; back = ys }) (ap (take (length prefix)) (sym is) ∙ take_prefix prefix back) (ap (drop (length prefix)) (sym is) ∙ drop_prefix prefix back)

not_same : (m n : ℕ) → (m ≡ n → ⊥) → (m == n) ≡ false
not_same m n apart = go (m == n) refl
  where
    go : (b : Bool) → (m == n) ≡ b → b ≡ false
    go true is = absurd (apart (eqb-true m n is))
    go false is = refl

-- an adoption of that partition, under the last of whose masters it has had that log
module _ (w v : World) (shape : v.manager.shape ≡ w.manager.shape) (grown : (node : NodeId) → entries_at (numbered v.masters node.number) ≡ entries_at (numbered w.masters node.number))
    (c : PartConfig) (own : Mark) (last : At (reigns c.part (cuts c.part w.marks)) (length (cuts c.part w.marks)) (reign_in (lists_of_part c)))
    (cuts_are : (p : ℕ) → cuts p v.marks ≡ (if c.part == p then cuts p w.marks ++ own ∷ [] else cuts p w.marks)) where
  abbrev cs : List Mark
  cs = cuts c.part w.marks

  abbrev more : List Mark
  more = cs ++ own ∷ []

  left_is : (n : ℕ) → left_of v c.part n ≡ left_by v c.part (numbered (reigns c.part more) n) (numbered more n)
  left_is n =
      let is : cuts c.part v.marks ≡ more = cuts_are c.part ∙ ap (λ (b : Bool). if b then cs ++ own ∷ [] else cs) (eq-eqb c.part c.part refl) in
      ap (λ (xs : List Mark). left_by v c.part (numbered (reigns c.part xs) n) (numbered xs n)) is

  -- what is split alike
  by_both : (r : Reign) (m : Mark) → left_by v c.part (Some r) (Some m) ≡ left_by w c.part (Some r) (Some m)
  by_both r m = ap (λ (p : Part). left_at p (cut_length m.place)) (log_by w v shape c.part r _ (grown r.master))

  no_cut : (u : World) (o : Option Reign) → left_by u c.part o None ≡ no_left
  no_cut u None = refl
  no_cut u (Some r) = refl

  reign_was : (i : ℕ) (r : Reign) → At (reigns c.part cs) i r → At (reigns c.part more) i r
  reign_was i r at = subst (λ (xs : List Reign). At xs i r) (sym (reigns_push c.part cs own)) (at_append (reigns c.part cs) (reign_of own ∷ []) i r at)

  abbrev Now : ℕ → Left
  Now n = if n == adoptions c.part w.marks + 1 then left_at (part_of w c) (cut_length own.place) else left_of w c.part n

  old : (n : ℕ) → (n ≡ length cs + 1 → ⊥) → left_of v c.part n ≡ left_of w c.part n → left_of v c.part n ≡ Now n
  old n other same = same ∙ ap (λ (b : Bool). if b then left_at (part_of w c) (cut_length own.place) else left_of w c.part n) (sym (not_same n (length cs + 1) other))

  own_left : (n : ℕ) → left_of v c.part n ≡ Now n
  own_left zero = old zero (λ e. omega (arith, e)) (left_is zero)
  own_left (suc i) = elim (cases_lt i (length cs)) [
    | inl lt ↦
        let m = at_some cs i lt in
        let r = at_some (reigns c.part cs) i (omega (arith, lt, count_reigns c.part cs)) in
        old (suc i) (λ e. omega (arith, e, lt))
        (left_is (suc i) ∙ ap₂ (left_by v c.part) (reign_was i r.0 r.1) (at_append cs (own ∷ []) i m.0 m.1) ∙ by_both r.0 m.0 ∙ sym (ap₂ (left_by w c.part) r.1 m.1))
    | inr ge ↦ elim (cases_eq i (length cs)) [
      | inl same ↦
          let r : At (reigns c.part cs) i (reign_in (lists_of_part c)) = subst (λ (k : ℕ). At (reigns c.part cs) k (reign_in (lists_of_part c))) (sym same) last in
          left_is (suc i) ∙ ap₂ (left_by v c.part) (reign_was i (reign_in (lists_of_part c)) r) (at_push cs own i same) ∙ by_both (reign_in (lists_of_part c)) own
          ∙ ap (λ (b : Bool). if b then left_at (part_of w c) (cut_length own.place) else left_of w c.part (suc i)) (sym (ap (λ (k : ℕ). k == length cs + 1) (count same) ∙ eq-eqb (length cs + 1) (length cs + 1) refl))
      | inr other ↦
          let past : length cs + 1 ≤ i = omega (arith, ge, other) in
          old (suc i) (λ e. omega (arith, e, past))
          (left_is (suc i) ∙ ap (left_by v c.part (numbered (reigns c.part more) (suc i))) (past_end more i (omega (arith, past, length-append cs (own ∷ [])))) ∙ no_cut v (numbered (reigns c.part more) (suc i))
          ∙ sym (ap (left_by w c.part (numbered (reigns c.part cs) (suc i))) (past_end cs i (omega (arith, past))) ∙ no_cut w (numbered (reigns c.part cs) (suc i))))
    ]
  ]
    where
      count : i ≡ length cs → suc i ≡ length cs + 1
      count e = omega (arith, e)

  pub left_adopted : (p n : ℕ) → left_of v p n ≡ (if (p == c.part) && (n == adoptions c.part w.marks + 1) then left_at (part_of w c) (cut_length own.place) else left_of w p n)
  left_adopted p n = go (p == c.part) refl
    where
      go : (b : Bool) → (p == c.part) ≡ b → left_of v p n ≡ (if b && (n == adoptions c.part w.marks + 1) then left_at (part_of w c) (cut_length own.place) else left_of w p n)
      go true is = subst (λ (q : ℕ). left_of v q n ≡ (if n == adoptions c.part w.marks + 1 then left_at (part_of w c) (cut_length own.place) else left_of w q n)) (sym (eqb-true p c.part is)) (own_left n)
      go false is = left_stays w v shape p n (cuts_are p ∙ ap (λ (b : Bool). if b then cuts p w.marks ++ own ∷ [] else cuts p w.marks) (not_same c.part p (λ e. other (sym e)))) (λ r m h. grown r.master)
        where
          other : p ≡ c.part → ⊥
          other e = let bad : false ≡ true = sym is ∙ ap (λ (q : ℕ). q == c.part) e ∙ eq-eqb c.part c.part refl in cc
