-- Where the mark of a read that was answered at once comes: before that of the adoption that superseded its master, or to the end.
use Rattle.std.proofs.Common.{◌≡◌, inl, inr, ◌<◌, ◌≤◌, ◌+◌, ◌&&◌, nat_le, ℕ, zero, suc, Bool, true, false, List, [], ◌∷◌, ◌++◌, length, refl, ap, ap₂, sym, ◌∙◌, subst, arith, ◌==◌}
use Rattle.curp_model.specs.Marks.{Mark, adoptions_to, cuts_part, with_quick, put_at, Place, is_cut, Cut}
use Rattle.curp_base.specs.Words.{At}
use Rattle.curp_model.specs.World.{World}
use Rattle.curp_facts.specs.Known.{Known}
use Rattle.curp_law_linear.specs.Ordered.{CutsFollow}
use Rattle.curp_law_linear.specs.OfWorld.{Reign, reigns, cuts, reign_of, cut_length, line_of}
use Rattle.curp_base.proofs.Lists.{at_within, at_map, at_same}
use Rattle.std.proofs.lemmas.List.{length-map}
use Rattle.std.proofs.lemmas.Bool.{cases_lt, eq-eqb}
use Rattle.curp_law_linear.specs.Moves.{put_before}
use Rattle.curp_law_linear.specs.Line.{LineOk, CutAt}
use Rattle.curp_law_linear.proofs.QuickBegins.{late_at_end, late_by_number, late_place}
use Rattle.curp_law_linear.proofs.Lists.{in_filter}
use Rattle.std.specs.List.{filter}
use Rattle.std.proofs.lemmas.Bool.Decides.{nat_tests}

-- what passes both tests
filter_both : {A : Type 0} (p q : A → Bool) (xs : List A) → filter (λ x. p x && q x) xs ≡ filter q (filter p xs)
filter_both p q [] = refl
filter_both p q (x ∷ xs) = go (p x) (q x) refl refl (filter_both p q xs)
  where
    go : (a b : Bool) → p x ≡ a → q x ≡ b → filter (λ x. p x && q x) xs ≡ filter q (filter p xs) → filter (λ x. p x && q x) (x ∷ xs) ≡ filter q (filter p (x ∷ xs))
    go true true s t ih = rw s (rw t (ap (λ ys. x ∷ ys) ih))
    go true false s t ih = rw s (rw t ih)
    go false b s t ih = rw s ih

-- of marks whose first so many are of an epoch up to this one, so many are
count_to : (cs : List Mark) (i epoch : ℕ) → ((j : ℕ) (m : Mark) → At cs j m → j < i → m.epoch ≤ epoch) → ((j : ℕ) (m : Mark) → At cs j m → i ≤ j → epoch < m.epoch) → i ≤ length cs
    → length (filter (λ (m : Mark). nat_le m.epoch epoch) cs) ≡ i
count_to [] i epoch low high few = omega (arith, few)
count_to (m ∷ ms) zero epoch low high few =
    let above = high 0 m refl (omega arith) in
    let out : nat_le m.epoch epoch ≡ false = grind (arith, nat_tests) in
    rw out (count_to ms zero epoch (λ j o at lt. absurd (omega (arith, lt))) (λ j o at le. high (suc j) o at (omega arith)) (omega arith))
count_to (m ∷ ms) (suc i) epoch low high few =
    let under = low 0 m refl (omega arith) in
    let within : nat_le m.epoch epoch ≡ true = grind (arith, nat_tests) in
    rw within (ap suc (count_to ms i epoch (λ j o at lt. low (suc j) o at (omega (arith, lt))) (λ j o at le. high (suc j) o at (omega (arith, le))) (omega (arith, few))))

-- to the end, where it is the last
pub at_end : (xs : List Mark) (q : Mark) → xs ++ q ∷ [] ≡ put_before (length xs) q xs
at_end [] q = refl
at_end (x ∷ xs) q = ap (λ ys. x ∷ ys) (at_end xs q)

-- ---- in a world

module _ {w : World} (known : Known w) (follow : CutsFollow w) (part i : ℕ) (r : Reign) (at : At (reigns part (cuts part w.marks)) i r) where
  abbrev cs : List Mark
  cs = cuts part w.marks

  few : i ≤ length cs
  few = omega (arith, at_within (reigns part cs) i r at, length-map cs reign_of)

  next_at : (j : ℕ) (m : Mark) → At cs j m → At (reigns part cs) (suc j) (reign_of m)
  next_at j m here = at_map reign_of cs j m here

  -- so many adoptions had come up to that master's
  pub adoptions_before : adoptions_to part r.epoch w.marks ≡ i
  adoptions_before = ap length (filter_both (cuts_part part) (λ (m : Mark). nat_le m.epoch r.epoch) w.marks) ∙ count_to cs i r.epoch low high few
    where
      low : (j : ℕ) (m : Mark) → At cs j m → j < i → m.epoch ≤ r.epoch
      low j m here lt = elim (cases_lt (suc j) i) [
        | inl less ↦ let up = (follow part).rise (suc j) i (reign_of m) r less (next_at j m here) at in omega (arith, up)
        | inr last ↦
            let one : suc j ≡ i = omega (arith, lt, last) in
            let same : reign_of m ≡ r = at_same (reigns part cs) i (reign_of m) r (subst (λ (k : ℕ). At (reigns part cs) k (reign_of m)) one (next_at j m here)) at in
            omega (arith, ap (λ (x : Reign). x.epoch) same)
      ]

      high : (j : ℕ) (m : Mark) → At cs j m → i ≤ j → r.epoch < m.epoch
      high j m here le = (follow part).rise i (suc j) r (reign_of m) (omega (arith, le)) at (next_at j m here)

  with_quick_is : (q : Mark) → q.part ≡ part → q.epoch ≡ r.epoch → with_quick q w.marks ≡ put_at part (i + 1) q w.marks
  with_quick_is q its_part its_epoch =
      ap₂ (λ (p e : ℕ). put_at p (adoptions_to p e w.marks + 1) q w.marks) its_part its_epoch ∙ ap (λ (k : ℕ). put_at part (k + 1) q w.marks) adoptions_before

  pub put_last : LineOk (line_of w) → i ≡ length cs → (q : Mark) → q.part ≡ part → q.epoch ≡ r.epoch → with_quick q w.marks ≡ w.marks ++ q ∷ []
  put_last ok last q its_part its_epoch = with_quick_is q its_part its_epoch ∙ late_at_end (line_of w) ok part (i + 1) q (omega (arith, last))

  -- or before the adoption that came next
  pub record AtCut (m : Mark) : Type 0 where
    pub cut : CutAt w.marks part (i + 1)
    pub its_long : cut.long ≡ cut_length m.place
    pub is : (q : Mark) → q.part ≡ part → q.epoch ≡ r.epoch → with_quick q w.marks ≡ put_before cut.place q w.marks

  pub put_cut : LineOk (line_of w) → (m : Mark) → At cs i m → AtCut m
  put_cut ok m here = record {
    cut = c;
    its_long = sym (ap cut_length c.is_cut) ∙ ap (λ (x : Mark). cut_length x.place) same;
    is = λ q its_part its_epoch. with_quick_is q its_part its_epoch ∙ late_by_number (line_of w) ok part (i + 1) q c;
  }
    where
      c : CutAt w.marks part (i + 1)
      c = late_place (line_of w) ok part (i + 1) (omega arith) (omega (arith, at_within cs i m here))

      -- it is the mark of that number
      own : cuts_part part c.mark ≡ true
      own = ap₂ (λ (x : Place) (p : ℕ). is_cut x && (p == part)) c.is_cut c.its_part ∙ eq-eqb part part refl

      among : (j : ℕ) × At cs j c.mark
      among = in_filter (cuts_part part) w.marks c.mark (c.place, c.stands) own

      numbers : {a b x y : ℕ} → Cut a x ≡ Cut b y → a ≡ b
      numbers e = cc

      same : c.mark ≡ m
      same =
          let counted = (follow part).counted among.0 c.mark among.1 in
          let number : i + 1 ≡ suc among.0 = numbers (sym c.is_cut ∙ counted) in
          at_same cs i c.mark m (subst (λ (j : ℕ). At cs j c.mark) (omega (arith, number)) among.1) here
