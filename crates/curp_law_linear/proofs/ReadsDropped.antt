-- Which looks an adoption keeps: their marks were there before, and weren't dropped.
use Rattle.std.proofs.Common.{◌≡◌, inl, inr, ℕ, zero, suc, ◌+◌, ◌≤◌, ◌==◌, ◌&&◌, nat_lt, Bool, true, false, cond, not, if◌then◌else◌, List, [], ◌∷◌, ◌++◌, append-nil, append_assoc, length, take, refl, ap, sym, ◌∙◌, subst, arith}
use Rattle.std.specs.List.{filter}
use Rattle.std.proofs.lemmas.Bool.Decides.{nat_tests}
use Rattle.curp_base.specs.Words.{At, Each}
use Rattle.curp_base.proofs.Lists.{Each-at, at_append_cases, at_one}
use Rattle.curp_cmd.specs.declared.command.Request.{Request}
use Rattle.curp_cmd.specs.declared.node.NodeId.{NodeId}
use Rattle.curp_model.specs.Marks as mark
use Rattle.curp_model.specs.Marks.{Cut, Looked, Mark, Place, adoptions, cut_mark, executed, has_completed, is_dropped, is_past, is_update_mark, replayed_marks, is_capture}
use Rattle.curp_model.specs.World.{World}
use Rattle.curp_law_linear.proofs.ReadsLater.{ReadsWere}
use Rattle.curp_law_linear.proofs.ReadsMarks.{no_capture}

-- what stands in a filtered list stood before, at a place that tells its place now
pub record Filtered {A : Type 0} (q : A → Bool) (xs : List A) (k : ℕ) (x : A) : Type 0 where
  pub place : ℕ
  pub stands : At xs place x
  pub kept : q x ≡ true
  pub rank : k ≡ length (filter q (take place xs))

pub filtered : {A : Type 0} (q : A → Bool) (xs : List A) (k : ℕ) (x : A) → At (filter q xs) k x → Filtered q xs k x
filtered q [] k x at = absurd cc
filtered {A} q (y ∷ ys) k x at = go (q y) refl at (λ i here. filtered q ys i x here)
  where
    go : (b : Bool) → q y ≡ b → At (cond b (y ∷ filter q ys) (filter q ys)) k x → ((i : ℕ) → At (filter q ys) i x → Filtered q ys i x) → Filtered q (y ∷ ys) k x
    go true is at rest = by_place k at
      where
        by_place : (k : ℕ) → At (y ∷ filter q ys) k x → Filtered q (y ∷ ys) k x
        by_place zero here = record { place = 0; stands = here; kept = subst (λ (z : A). q z ≡ true) (first here) is; rank = refl }
          where
            first : At (y ∷ filter q ys) 0 x → y ≡ x
            first h = cc
        by_place (suc i) here =
            let f = rest i here in
            record {
              place = suc f.place;
              stands = f.stands;
              kept = f.kept;
              rank = ap suc f.rank ∙ ap (λ (b : Bool). length (cond b (y ∷ filter q (take f.place ys)) (filter q (take f.place ys)))) (sym is);
            }
    go false is at rest =
        let f = rest k at in
        record {
          place = suc f.place;
          stands = f.stands;
          kept = f.kept;
          rank = f.rank ∙ ap (λ (b : Bool). length (cond b (y ∷ filter q (take f.place ys)) (filter q (take f.place ys)))) (sym is);
        }

-- ---- marks of what was replayed

-- marks behind the others, each of an op
pub record MoreOps (marks later : List Mark) : Type 0 where
  pub more : List Mark
  pub is : later ≡ marks ++ more
  pub ops : Each (λ (m : Mark). is_update_mark m.place ≡ true) more

pub replayed_more : (node : NodeId) (part epoch index : ℕ) (rs : List Request) (marks : List Mark) → MoreOps marks (replayed_marks node part epoch index rs marks)
replayed_more node part epoch index [] marks = record { more = []; is = sym (append-nil marks); ops = tt }
replayed_more node part epoch index (r ∷ rs) marks = go (has_completed marks r.id) (λ (ms : List Mark). replayed_more node part epoch (index + 1) rs ms)
  where
    new : Mark
    new = executed node part epoch index r.id r.command

    go : (b : Bool) → ((ms : List Mark) → MoreOps ms (replayed_marks node part epoch (index + 1) rs ms)) → MoreOps marks (replayed_marks node part epoch (index + 1) rs (if b then marks else marks ++ new ∷ []))
    go true rest = rest marks
    go false rest =
        let m = rest (marks ++ new ∷ []) in
        record { more = new ∷ m.more; is = m.is ∙ append_assoc marks (new ∷ []) m.more; ops = (refl, m.ops) }

-- ---- looks that stay

-- what an adoption leaves of a look
abbrev pub Stays : ℕ → ℕ → List Mark → ℕ → Mark → Type 0
Stays part cut marks k m = Filtered (λ (x : Mark). not (is_dropped part cut x)) marks k m

module _ (w v : World) (node : NodeId) (part epoch cut : ℕ) (rs : List Request) (same : v.marks ≡ mark.adopted node part epoch cut rs w.marks) where
  pub read_stays : (k number : ℕ) (m : Mark) → At v.marks k m → is_capture number m.place ≡ true → Stays part cut w.marks k m
  read_stays k number m at is =
      let left : List Mark = filter (λ (x : Mark). not (is_dropped part cut x)) w.marks in
      let own : Mark = cut_mark node part epoch (adoptions part w.marks + 1) cut in
      let more = replayed_more node part epoch cut rs (left ++ own ∷ []) in
      elim (at_append_cases (left ++ own ∷ []) more.more k m (subst (λ (ms : List Mark). At ms k m) (same ∙ more.is) at)) [
        | inl old ↦ elim (at_append_cases left (own ∷ []) k m old) [
          | inl here ↦ filtered (λ (x : Mark). not (is_dropped part cut x)) w.marks k m here
          | inr its ↦ absurd (no_cut (sym (ap (λ (x : Mark). x.place) (at_one own its.0 m its.2).1)))
        ]
        | inr new ↦ absurd (no_capture m.place number (Each-at (λ (x : Mark). is_update_mark x.place ≡ true) more.more more.ops new.0 m new.2) is)
      ]
    where
      no_cut : m.place ≡ Cut (adoptions part w.marks + 1) cut → ⊥
      no_cut e = let bad : false ≡ true = sym (ap (is_capture number) e) ∙ is in cc

  -- each was there before, no two at one place
  pub looks_adopted : ReadsWere w v
  looks_adopted = record {
    was = λ k number m at is.
        let f = read_stays k number m at is in
        record { place = f.place; old = m; stands = f.stands; its_master = refl; its_part = refl; its_epoch = refl; its_id = refl; its_place = refl; completed = λ e. inl e };
    apart = λ j k number m o a b p q e.
        let f = read_stays j number m a p in
        let g = read_stays k number o b q in
        f.rank ∙ ap (λ (i : ℕ). length (filter (λ (x : Mark). not (is_dropped part cut x)) (take i w.marks))) e ∙ sym g.rank;
  }

-- one of the partition that stays uncompleted is no longer than the cut
pub kept_short : (part cut number long : ℕ) (m : Mark) → not (is_dropped part cut m) ≡ true → m.part ≡ part → m.completed ≡ false → m.place ≡ Looked number long → long ≤ cut
kept_short part cut number long m kept own uncompleted look = short (subst (λ (x : Place). is_past cut x ≡ false) look (undropped (m.part == part) m.completed (is_past cut m.place) kept same uncompleted))
  where
    same : (m.part == part) ≡ true
    same = grind (arith, nat_tests)

    undropped : (a c p : Bool) → not (a && not c && p) ≡ true → a ≡ true → c ≡ false → p ≡ false
    undropped true false false e f g = refl
    undropped true false true e f g = absurd cc
    undropped true true p e f g = absurd cc
    undropped false c p e f g = absurd cc

    short : nat_lt cut long ≡ false → long ≤ cut
    short e = grind (arith, nat_tests)
