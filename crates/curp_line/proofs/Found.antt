-- How adoptions are found, as one more comes.
use Rattle.std.proofs.Common.{◌≡◌, ℕ, suc, ◌+◌, ◌<◌, ◌==◌, if◌then◌else◌, not, Bool, true, false, List, [], ◌∷◌, ◌++◌, length, map, Option, Some, None, refl, ap, sym, ◌∙◌, subst, arith}
use Rattle.std.proofs.lemmas.Bool.Decides.{nat_tests}
use Rattle.std.proofs.lemmas.List.{length-map, map-append}
use Rattle.std.specs.List.{position_or_len}
use Rattle.std.specs.Option.{option_map, unwrap_or}
use Rattle.curp_base.specs.Words.{Each}
use Rattle.curp_base.proofs.Lists.{Each-append, Each-weaker}
use Rattle.curp_line.specs.Cuts.{AreFound, epoch_of, epoch_place, first_place, how_many, is_cut_at, is_cut_of, is_cut_to, is_epoch_of, is_epoch_to, nth_place, part_of}
use Rattle.curp_line.specs.declared.cuts.Cut.{Cut}
use Rattle.curp_line.specs.declared.epochs.CutEpoch.{CutEpoch}
use Rattle.curp_line.proofs.Ascending.{how_many_all, how_many_append, how_many_cons, how_many_map, how_many_push, one}
use Rattle.curp_line.proofs.Ranks.{place_pushed}

-- ---- first places

-- the first, or else the second
abbrev pub or_else : Option ℕ → Option ℕ → Option ℕ
or_else (Some k) r = Some k
or_else None r = r

or_none : (r : Option ℕ) → or_else r None ≡ r
or_none (Some k) = refl
or_none None = refl

one_step : (r : Option ℕ) (b : Bool) (n : ℕ) → option_map suc (or_else r (if b then Some n else None)) ≡ or_else (option_map suc r) (if b then Some (suc n) else None)
one_step (Some k) b n = refl
one_step None true n = refl
one_step None false n = refl

first_place_push : {A : Type 0} (p : A → Bool) (xs : List A) (x : A) → first_place p (xs ++ x ∷ []) ≡ or_else (first_place p xs) (if p x then Some (length xs) else None)
first_place_push p [] x = go (p x)
  where
    go : (b : Bool) → (if b then Some 0 else option_map suc None) ≡ or_else None (if b then Some 0 else None)
    go true = refl
    go false = refl
first_place_push p (y ∷ xs) x = go (p y) (first_place_push p xs x)
  where
    go : (b : Bool) → first_place p (xs ++ x ∷ []) ≡ or_else (first_place p xs) (if p x then Some (length xs) else None)
        → (if b then Some 0 else option_map suc (first_place p (xs ++ x ∷ []))) ≡ or_else (if b then Some 0 else option_map suc (first_place p xs)) (if p x then Some (suc (length xs)) else None)
    go true rest = refl
    go false rest = ap (option_map suc) rest ∙ one_step (first_place p xs) (p x) (length xs)

next_or_len : (r : Option ℕ) (n : ℕ) → unwrap_or (option_map suc r) (suc n) ≡ suc (unwrap_or r n)
next_or_len (Some k) n = refl
next_or_len None n = refl

pub first_or_len : {A : Type 0} (p : A → Bool) (xs : List A) → unwrap_or (first_place p xs) (length xs) ≡ position_or_len p xs
first_or_len p [] = refl
first_or_len p (x ∷ xs) = go (p x) (first_or_len p xs)
  where
    go : (b : Bool) → unwrap_or (first_place p xs) (length xs) ≡ position_or_len p xs
        → unwrap_or (if b then Some 0 else option_map suc (first_place p xs)) (suc (length xs)) ≡ (if not b then 1 + position_or_len p xs else 0)
    go true rest = refl
    go false rest = next_or_len (first_place p xs) (length xs) ∙ ap suc rest ∙ omega arith

-- ---- those of a partition

none_at : (part earlier : ℕ) (cuts : List Cut) → Each (λ (c : Cut). c.term.part ≡ part → c.earlier < earlier) cuts → first_place (is_cut_at part earlier) cuts ≡ None
none_at part earlier [] h = refl
none_at part earlier (c ∷ cuts) h =
    let other : is_cut_at part earlier c ≡ false = not_here c h.0 in
    rw other (ap (option_map suc) (none_at part earlier cuts h.1))
  where
    not_here : (c : Cut) → (c.term.part ≡ part → c.earlier < earlier) → is_cut_at part earlier c ≡ false
    not_here c h = grind (arith, nat_tests, h)

module _ (epochs : List CutEpoch) (cuts : List Cut) (f : AreFound epochs cuts) where
  pub cuts_of : (part : ℕ) → how_many (is_epoch_of part) epochs ≡ how_many (is_cut_of part) cuts
  cuts_of part = f.counted (is_epoch_of part) ∙ how_many_map (is_epoch_of part) epoch_of cuts

  pub cuts_to : (part epoch : ℕ) → how_many (is_epoch_to part epoch) epochs ≡ how_many (is_cut_to part epoch) cuts
  cuts_to part epoch = f.counted (is_epoch_to part epoch) ∙ how_many_map (is_epoch_to part epoch) epoch_of cuts

  -- the place by the number is the first one
  pub place_found : (part earlier : ℕ) → unwrap_or (epoch_place part earlier epochs) (length cuts) ≡ position_or_len (is_cut_at part earlier) cuts
  place_found part earlier = ap (λ r. unwrap_or r (length cuts)) (f.placed part earlier) ∙ first_or_len (is_cut_at part earlier) cuts

  -- one adoption more, behind those of its partition
  pub found_push : (epochs' : List CutEpoch) (c : Cut) → c.earlier ≡ how_many (is_epoch_of c.term.part) epochs
      → map part_of epochs' ≡ map part_of epochs ++ c.term.part ∷ []
      → ((test : CutEpoch → Bool) → how_many test epochs' ≡ how_many test epochs + one (test (epoch_of c)))
      → AreFound epochs' (cuts ++ c ∷ [])
  found_push epochs' c number parts counts = record {
    placed = λ part earlier. places part earlier ∙ go part earlier (is_cut_at part earlier c) refl ∙ sym (first_place_push (is_cut_at part earlier) cuts c);
    numbered = λ part. Each-append (λ (d : Cut). d.term.part ≡ part → d.earlier < how_many (is_cut_of part) (cuts ++ c ∷ [])) cuts (c ∷ [])
        (Each-weaker (λ (d : Cut). d.term.part ≡ part → d.earlier < how_many (is_cut_of part) cuts) (λ (d : Cut). d.term.part ≡ part → d.earlier < how_many (is_cut_of part) (cuts ++ c ∷ []))
        (λ d h e. let l = h e in let more = how_many_append (is_cut_of part) cuts (c ∷ []) in omega (arith, l, more)) cuts (f.numbered part))
        (λ e. here part e, tt);
    counted = λ test. counts test ∙ sym (ap (how_many test) (map-append epoch_of cuts (c ∷ [])) ∙ how_many_push test (map epoch_of cuts) (epoch_of c) ∙ ap (λ n. n + one (test (epoch_of c))) (sym (f.counted test)));
  }
    where
      long : length epochs ≡ length cuts
      long = sym (how_many_all epochs) ∙ f.counted (λ _. true) ∙ how_many_all (map epoch_of cuts) ∙ length-map cuts epoch_of

      places : (part earlier : ℕ) → epoch_place part earlier epochs' ≡ (if is_cut_at part earlier c then Some (length cuts) else epoch_place part earlier epochs)
      places part earlier =
          ap (λ ns. nth_place (λ other. other == part) ns earlier) parts ∙ place_pushed part earlier epochs c.term.part c.earlier number
          ∙ ap (λ n. if is_cut_at part earlier c then Some n else epoch_place part earlier epochs) long

      own : (part : ℕ) → c.term.part ≡ part → one (is_cut_of part c) ≡ 1
      own part e = grind (arith, nat_tests)

      its_part : (part earlier : ℕ) → is_cut_at part earlier c ≡ true → c.term.part ≡ part
      its_part part earlier e = grind (arith, nat_tests)

      its_number : (part earlier : ℕ) → is_cut_at part earlier c ≡ true → c.earlier ≡ earlier
      its_number part earlier e = grind (arith, nat_tests)

      none_yet : (part earlier : ℕ) → is_cut_at part earlier c ≡ true → first_place (is_cut_at part earlier) cuts ≡ None
      none_yet part earlier e =
          let all : earlier ≡ how_many (is_cut_of part) cuts = sym (its_number part earlier e) ∙ number ∙ cuts_of c.term.part ∙ ap (λ (n : ℕ). how_many (is_cut_of n) cuts) (its_part part earlier e) in
          none_at part earlier cuts (subst (λ (n : ℕ). Each (λ (d : Cut). d.term.part ≡ part → d.earlier < n) cuts) (sym all) (f.numbered part))

      go : (part earlier : ℕ) (b : Bool) → is_cut_at part earlier c ≡ b
          → (if b then Some (length cuts) else epoch_place part earlier epochs) ≡ or_else (first_place (is_cut_at part earlier) cuts) (if b then Some (length cuts) else None)
      go part earlier true e =
          let none : first_place (is_cut_at part earlier) cuts ≡ None = none_yet part earlier e in
          rw none refl
      go part earlier false e = f.placed part earlier ∙ sym (or_none (first_place (is_cut_at part earlier) cuts))

      here : (part : ℕ) → c.term.part ≡ part → c.earlier < how_many (is_cut_of part) (cuts ++ c ∷ [])
      here part e =
          let more = how_many_append (is_cut_of part) cuts (c ∷ []) in
          let itself = how_many_cons (is_cut_of part) c [] in
          let its : one (is_cut_of part c) ≡ 1 = own part e in
          let count = ap (λ (n : ℕ). how_many (is_cut_of n) cuts) e in
          omega (arith, more, itself, its, number, cuts_of c.term.part, count)

-- as many epochs as adoptions
pub epochs_counted : (epochs : List CutEpoch) (cuts : List Cut) → AreFound epochs cuts → length epochs ≡ length cuts
epochs_counted epochs cuts f =
    sym (how_many_all epochs) ∙ f.counted (λ _. true) ∙ how_many_all (map epoch_of cuts) ∙ length-map cuts epoch_of
