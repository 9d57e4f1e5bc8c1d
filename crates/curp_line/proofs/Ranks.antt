-- The epochs of one partition among those of all: where they stand, and what becomes of them as one more comes.
use Rattle.std.proofs.Common.{◌≡◌, ℕ, zero, suc, ◌+◌, ◌<◌, ◌≤◌, ◌==◌, ◌&&◌, if◌then◌else◌, Bool, true, false, List, [], ◌∷◌, ◌++◌, length, get_or, set, map, Option, Some, None, refl, ap, sym, ◌∙◌, subst, arith}
use Rattle.std.proofs.Math.Dec.{eqb-suc-suc, eqb-suc-zero, eqb-zero-suc}
use Rattle.std.proofs.lemmas.Bool.Decides.{nat_tests}
use Rattle.std.proofs.lemmas.List.{append-nil, length-map}
use Rattle.std.proofs.lemmas.List.Elements.{filter-append}
use Rattle.std.specs.Map.{lookup}
use Rattle.std.specs.List.{filter, insert}
use Rattle.std.specs.Option.{IsSome, option_map, unwrap_or}
use Rattle.curp_line.specs.Cuts.{AreRanked, EpochsAscend, epoch_place, epochs_of, how_many, is_epoch_of, is_epoch_to, nth_place, part_of}
use Rattle.curp_line.specs.declared.epochs.CutEpoch.{CutEpoch}
use Rattle.curp_line.proofs.Ascending.{ascend_insert, high_counts, how_many_both, how_many_map, how_many_set, is_low, low_counts, one}

part_is : (part : ℕ) (e : CutEpoch) → is_epoch_of part e ≡ true → e.part ≡ part
part_is part e h = grind (arith, nat_tests)

own_is : (part : ℕ) (e : CutEpoch) → e.part ≡ part → is_epoch_of part e ≡ true
own_is part e h = grind (arith, nat_tests)

own_one : (part : ℕ) (e : CutEpoch) → e.part ≡ part → one (is_epoch_of part e) ≡ 1
own_one part e h = grind (arith, nat_tests)

same_part : (m n : ℕ) → (m == n) ≡ true → m ≡ n
same_part m n h = grind (arith, nat_tests)

-- ---- the place of a rank

some_after : (r : Option ℕ) → IsSome r → IsSome (option_map suc r)
some_after (Some k) h = refl
some_after None h = h

-- there is one for each rank below their number
pub place_is_some : (part rank : ℕ) (es : List CutEpoch) → rank < how_many (is_epoch_of part) es → IsSome (epoch_place part rank es)
place_is_some part rank [] l = absurd (omega arith)
place_is_some part zero (e ∷ es) l = go (is_epoch_of part e) l (place_is_some part zero es)
  where
    go : (b : Bool) → 0 < length (if b then e ∷ epochs_of part es else epochs_of part es) → (0 < how_many (is_epoch_of part) es → IsSome (epoch_place part 0 es))
        → IsSome (if b then Some 0 else option_map suc (epoch_place part 0 es))
    go true l rest = refl
    go false l rest = some_after (epoch_place part 0 es) (rest l)
place_is_some part (suc rank) (e ∷ es) l = go (is_epoch_of part e) l (λ n. place_is_some part n es)
  where
    go : (b : Bool) → suc rank < length (if b then e ∷ epochs_of part es else epochs_of part es) → ((n : ℕ) → n < how_many (is_epoch_of part) es → IsSome (epoch_place part n es))
        → IsSome (option_map suc (epoch_place part (if b then rank else suc rank) es))
    go true l rest = some_after (epoch_place part rank es) (rest rank (omega (arith, l)))
    go false l rest = some_after (epoch_place part (suc rank) es) (rest (suc rank) l)

-- what stands there is that one of the partition's, and what is written there is written in its place
pub record IsRanked (part rank : ℕ) (es : List CutEpoch) (at : ℕ) : Type 0 where
  pub within : at < length es
  pub own : (d : CutEpoch) → is_epoch_of part (get_or es at d) ≡ true
  pub same : (d : CutEpoch) → get_or es at d ≡ get_or (epochs_of part es) rank d
  pub written : (y : CutEpoch) → is_epoch_of part y ≡ true → epochs_of part (set es at y) ≡ set (epochs_of part es) rank y

ranked_first : (part : ℕ) (e : CutEpoch) (es : List CutEpoch) → is_epoch_of part e ≡ true → IsRanked part 0 (e ∷ es) 0
ranked_first part e es own = record {
  within = omega arith;
  own = λ d. own;
  same = λ d. rw own refl;
  written = λ y its. rw (own, its) refl;
}

ranked_own : (part rank : ℕ) (e : CutEpoch) (es : List CutEpoch) (at : ℕ) → is_epoch_of part e ≡ true → IsRanked part rank es at → IsRanked part (suc rank) (e ∷ es) (suc at)
ranked_own part rank e es at own r = record {
  within = omega (arith, r.within);
  own = r.own;
  same = λ d. rw own (r.same d);
  written = λ y its. rw own (ap (λ fs. e ∷ fs) (r.written y its));
}

ranked_other : (part rank : ℕ) (e : CutEpoch) (es : List CutEpoch) (at : ℕ) → is_epoch_of part e ≡ false → IsRanked part rank es at → IsRanked part rank (e ∷ es) (suc at)
ranked_other part rank e es at other r = record {
  within = omega (arith, r.within);
  own = r.own;
  same = λ d. rw other (r.same d);
  written = λ y its. rw other (r.written y its);
}

after_some : (r : Option ℕ) (at : ℕ) → option_map suc r ≡ Some at → (k : ℕ) × (r ≡ Some k) × (suc k ≡ at)
after_some None at h = absurd cc
after_some (Some k) at h = (k, refl, cc)

pub ranked_at : (part rank : ℕ) (es : List CutEpoch) (at : ℕ) → epoch_place part rank es ≡ Some at → IsRanked part rank es at
ranked_at part rank [] at h = absurd cc
ranked_at part zero (e ∷ es) at h = go (is_epoch_of part e) refl h (ranked_at part zero es)
  where
    go : (b : Bool) → is_epoch_of part e ≡ b → (if b then Some 0 else option_map suc (epoch_place part 0 es)) ≡ Some at → ((k : ℕ) → epoch_place part 0 es ≡ Some k → IsRanked part 0 es k)
        → IsRanked part 0 (e ∷ es) at
    go true own h rest = let first : 0 ≡ at = cc in subst (IsRanked part 0 (e ∷ es)) first (ranked_first part e es own)
    go false other h rest =
        let k = after_some (epoch_place part 0 es) at h in
        subst (IsRanked part 0 (e ∷ es)) k.2 (ranked_other part 0 e es k.0 other (rest k.0 k.1))
ranked_at part (suc rank) (e ∷ es) at h = go (is_epoch_of part e) refl h (λ n. ranked_at part n es)
  where
    go : (b : Bool) → is_epoch_of part e ≡ b → option_map suc (epoch_place part (if b then rank else suc rank) es) ≡ Some at → ((n k : ℕ) → epoch_place part n es ≡ Some k → IsRanked part n es k)
        → IsRanked part (suc rank) (e ∷ es) at
    go true own h rest =
        let k = after_some (epoch_place part rank es) at h in
        subst (IsRanked part (suc rank) (e ∷ es)) k.2 (ranked_own part rank e es k.0 own (rest rank k.0 k.1))
    go false other h rest =
        let k = after_some (epoch_place part (suc rank) es) at h in
        subst (IsRanked part (suc rank) (e ∷ es)) k.2 (ranked_other part (suc rank) e es k.0 other (rest (suc rank) k.0 k.1))

-- ---- a search for how many are low

module _ (part epoch rank : ℕ) (es : List CutEpoch) (at : ℕ) (d : CutEpoch) (s : EpochsAscend (epochs_of part es)) (l : rank < how_many (is_epoch_of part) es) (place : epoch_place part rank es ≡ Some at) where
  pub low_behind : (get_or es at d).epoch ≤ epoch → rank < how_many (is_low epoch) (epochs_of part es)
  low_behind low = let r = ranked_at part rank es at place in low_counts epoch (epochs_of part es) rank d s l (rw (← r.same d) low)

  pub high_before : epoch < (get_or es at d).epoch → how_many (is_low epoch) (epochs_of part es) ≤ rank
  high_before high = let r = ranked_at part rank es at place in high_counts epoch (epochs_of part es) rank d s l (rw (← r.same d) high)

-- ---- one more

next_if : (b : Bool) (r : Option ℕ) (n : ℕ) → option_map suc (if b then Some n else r) ≡ (if b then Some (suc n) else option_map suc r)
next_if true r n = refl
next_if false r n = refl

nth_first : {A : Type 0} (p : A → Bool) (x : A) (n : ℕ) → nth_place p (x ∷ []) n ≡ (if p x && (0 == n) then Some 0 else None)
nth_first p x zero = go (p x)
  where
    go : (b : Bool) → if◌then◌else◌ {A = Option ℕ} b (Some 0) None ≡ (if b && (0 == 0) then Some 0 else None)
    go true = refl
    go false = refl
nth_first p x (suc n) = rw (eqb-zero-suc n) (go (p x))
  where
    go : (b : Bool) → None ≡ if◌then◌else◌ {A = Option ℕ} (b && false) (Some 0) None
    go true = refl
    go false = refl

nth_push : {A : Type 0} (p : A → Bool) (xs : List A) (x : A) (n : ℕ) → nth_place p (xs ++ x ∷ []) n ≡ (if p x && (how_many p xs == n) then Some (length xs) else nth_place p xs n)
nth_push p [] x n = nth_first p x n
nth_push p (y ∷ xs) x zero = go (p y) (p x) (nth_push p xs x zero)
  where
    go : (b c : Bool) → nth_place p (xs ++ x ∷ []) 0 ≡ (if c && (how_many p xs == 0) then Some (length xs) else nth_place p xs 0)
        → (if b then Some 0 else option_map suc (nth_place p (xs ++ x ∷ []) 0))
        ≡ (if c && (length (if b then y ∷ filter p xs else filter p xs) == 0) then Some (suc (length xs)) else (if b then Some 0 else option_map suc (nth_place p xs 0)))
    go true true rest = rw (eqb-suc-zero (how_many p xs)) refl
    go true false rest = refl
    go false c rest = ap (option_map suc) rest ∙ next_if (c && (how_many p xs == 0)) (nth_place p xs 0) (length xs)
nth_push p (y ∷ xs) x (suc n) = go (p y) (λ m. nth_push p xs x m)
  where
    go : (b : Bool) → ((m : ℕ) → nth_place p (xs ++ x ∷ []) m ≡ (if p x && (how_many p xs == m) then Some (length xs) else nth_place p xs m))
        → option_map suc (nth_place p (xs ++ x ∷ []) (if b then n else suc n))
        ≡ (if p x && (length (if b then y ∷ filter p xs else filter p xs) == suc n) then Some (suc (length xs)) else option_map suc (nth_place p xs (if b then n else suc n)))
    go true rest =
        ap (option_map suc) (rest n) ∙ next_if (p x && (how_many p xs == n)) (nth_place p xs n) (length xs)
        ∙ ap (λ r. if p x && r then Some (suc (length xs)) else option_map suc (nth_place p xs n)) (sym (eqb-suc-suc (how_many p xs) n))
    go false rest = ap (option_map suc) (rest (suc n)) ∙ next_if (p x && (how_many p xs == suc n)) (nth_place p xs (suc n)) (length xs)

-- an epoch behind all stands at the next rank of its partition
pub place_pushed : (part rank : ℕ) (es : List CutEpoch) (added count : ℕ) → count ≡ how_many (is_epoch_of added) es
    → nth_place (λ other. other == part) (map part_of es ++ added ∷ []) rank ≡ (if (added == part) && (count == rank) then Some (length es) else epoch_place part rank es)
place_pushed part rank es added count counts =
    nth_push (λ other. other == part) (map part_of es) added rank
    ∙ ap (λ n. if (added == part) && (how_many (λ other. other == part) (map part_of es) == rank) then Some n else epoch_place part rank es) (length-map es part_of)
    ∙ go (added == part) refl
  where
    go : (b : Bool) → (added == part) ≡ b
        → (if b && (how_many (λ other. other == part) (map part_of es) == rank) then Some (length es) else epoch_place part rank es) ≡ (if b && (count == rank) then Some (length es) else epoch_place part rank es)
    go true its =
        let all : how_many (λ other. other == part) (map part_of es) ≡ count =
        how_many_map (λ other. other == part) part_of es ∙ ap (λ (n : ℕ). how_many (is_epoch_of n) es) (sym (same_part added part its)) ∙ sym counts in
        ap (λ n. if n == rank then Some (length es) else epoch_place part rank es) all
    go false other = refl

-- ---- as those that are higher go one rank further

filter_set_other : {A : Type 0} (p : A → Bool) (xs : List A) (at : ℕ) (y d : A) → p (get_or xs at d) ≡ false → p y ≡ false → filter p (set xs at y) ≡ filter p xs
filter_set_other p [] at y d h g = refl
filter_set_other p (x ∷ xs) zero y d h g = rw (h, g) refl
filter_set_other p (x ∷ xs) (suc at) y d h g = ap (λ ys. if p x then x ∷ ys else ys) (filter_set_other p xs at y d h g)

parts_set : (es : List CutEpoch) (at : ℕ) (y d : CutEpoch) → y.part ≡ (get_or es at d).part → map part_of (set es at y) ≡ map part_of es
parts_set [] at y d h = refl
parts_set (e ∷ es) zero y d h = ap (λ n. n ∷ map part_of es) h
parts_set (e ∷ es) (suc at) y d h = ap (λ ns. e.part ∷ ns) (parts_set es at y d h)

insert_next : {A : Type 0} (xs : List A) (k : ℕ) (y d : A) → k < length xs → insert (set xs k y) (suc k) (get_or xs k d) ≡ insert xs k y
insert_next [] k y d l = absurd (omega arith)
insert_next (x ∷ xs) zero y d l = refl
insert_next (x ∷ xs) (suc k) y d l = ap (λ ys. x ∷ ys) (insert_next xs k y d (omega arith))

insert_last : {A : Type 0} (xs : List A) (y : A) → insert xs (length xs) y ≡ xs ++ y ∷ []
insert_last [] y = refl
insert_last (x ∷ xs) y = ap (λ ys. x ∷ ys) (insert_last xs y)

-- with what is carried at its rank, the partition's epochs are those before with the one that is added; all others are as they were
pub record IsCarried (before : List CutEpoch) (added : CutEpoch) (after : List CutEpoch) (rank : ℕ) (carried : CutEpoch) : Type 0 where
  pub part : carried.part ≡ added.part
  pub parts : map part_of after ≡ map part_of before
  pub own : insert (epochs_of added.part after) rank carried ≡ insert (epochs_of added.part before) (how_many (is_epoch_to added.part added.epoch) before) added
  pub others : (part : ℕ) → is_epoch_of part added ≡ false → epochs_of part after ≡ epochs_of part before
  pub counted : (test : CutEpoch → Bool) → how_many test after + one (test carried) ≡ how_many test before + one (test added)

pub carry_begins : (before : List CutEpoch) (added : CutEpoch) (rank : ℕ) → rank ≡ how_many (is_epoch_to added.part added.epoch) before → IsCarried before added before rank added
carry_begins before added rank e = record {
  part = refl;
  parts = refl;
  own = ap (λ n. insert (epochs_of added.part before) n added) e;
  others = λ part other. refl;
  counted = λ test. refl;
}

module _ (before : List CutEpoch) (added : CutEpoch) (after : List CutEpoch) (rank : ℕ) (carried : CutEpoch) (c : IsCarried before added after rank carried) where
  carried_count : how_many (is_epoch_of added.part) after ≡ how_many (is_epoch_of added.part) before
  carried_count =
      let both = c.counted (is_epoch_of added.part) in
      let its = own_one added.part carried c.part in
      let own = own_one added.part added refl in
      omega (arith, both, its, own)

  pub carried_place : (n : ℕ) → epoch_place added.part n after ≡ epoch_place added.part n before
  carried_place n = ap (λ ns. nth_place (λ other. other == added.part) ns n) c.parts

  pub carry_on : (at : ℕ) (d : CutEpoch) → rank < how_many (is_epoch_of added.part) before → epoch_place added.part rank before ≡ Some at → IsCarried before added (set after at carried) (suc rank) (get_or after at d)
  carry_on at d l place =
      let r = ranked_at added.part rank after at (carried_place rank ∙ place) in
      let here : (get_or after at d).part ≡ added.part = part_is added.part (get_or after at d) (r.own d) in
      let its : is_epoch_of added.part carried ≡ true = own_is added.part carried c.part in
      record {
        part = here;
        parts = parts_set after at carried d (c.part ∙ sym here) ∙ c.parts;
        own = (λ i. insert (r.written carried its i) (suc rank) (r.same d i)) ∙ insert_next (epochs_of added.part after) rank carried d (omega (arith, l, carried_count)) ∙ c.own;
        others = λ part other. filter_set_other (is_epoch_of part) after at carried d (ap (λ n. n == part) here ∙ other) (ap (λ n. n == part) c.part ∙ other) ∙ c.others part other;
        counted = λ test. how_many_set test after at carried d r.within ∙ c.counted test;
      }

  -- what is carried last goes behind all

  own_last : rank ≡ how_many (is_epoch_of added.part) before
      → epochs_of added.part (after ++ carried ∷ []) ≡ insert (epochs_of added.part before) (how_many (is_low added.epoch) (epochs_of added.part before)) added
  own_last e =
      let its : is_epoch_of added.part carried ≡ true = own_is added.part carried c.part in
      let itself : epochs_of added.part (carried ∷ []) ≡ carried ∷ [] = rw its refl in
      let all : length (epochs_of added.part after) ≡ rank = carried_count ∙ sym e in
      filter-append (is_epoch_of added.part) after (carried ∷ []) ∙ ap (λ es. epochs_of added.part after ++ es) itself
      ∙ sym (insert_last (epochs_of added.part after) carried) ∙ ap (λ n. insert (epochs_of added.part after) n carried) all ∙ c.own
      ∙ ap (λ n. insert (epochs_of added.part before) n added) (how_many_both (is_epoch_of added.part) (is_low added.epoch) before)

  other_last : (part : ℕ) → is_epoch_of part added ≡ false → epochs_of part (after ++ carried ∷ []) ≡ epochs_of part before
  other_last part other =
      let its : is_epoch_of part carried ≡ false = ap (λ n. n == part) c.part ∙ other in
      let none : epochs_of part (carried ∷ []) ≡ [] = rw its refl in
      filter-append (is_epoch_of part) after (carried ∷ []) ∙ ap (λ es. epochs_of part after ++ es) none ∙ append-nil (epochs_of part after) ∙ c.others part other

  pub carried_ascend : rank ≡ how_many (is_epoch_of added.part) before → ((part : ℕ) → EpochsAscend (epochs_of part before)) → (part : ℕ) → EpochsAscend (epochs_of part (after ++ carried ∷ []))
  carried_ascend e s part = go (is_epoch_of part added) refl
    where
      go : (b : Bool) → is_epoch_of part added ≡ b → EpochsAscend (epochs_of part (after ++ carried ∷ []))
      go true its =
          let here : added.part ≡ part = part_is part added its in
          let own : EpochsAscend (epochs_of added.part (after ++ carried ∷ [])) = rw (own_last e) (ascend_insert (epochs_of added.part before) added (s added.part)) in
          subst (λ (n : ℕ). EpochsAscend (epochs_of n (after ++ carried ∷ []))) here own
      go false other = rw (other_last part other) (s part)

-- ---- how they are kept

pub ranked_same : (count count' : ℕ → Option ℕ) (places places' : List ((ℕ × ℕ) × ℕ)) (epochs : List CutEpoch) → ((part : ℕ) → count' part ≡ count part)
    → ((key : ℕ × ℕ) → lookup (λ (k : ℕ × ℕ). (key.0 == k.0) && (key.1 == k.1)) places' ≡ lookup (λ (k : ℕ × ℕ). (key.0 == k.0) && (key.1 == k.1)) places)
    → AreRanked count places epochs → AreRanked count' places' epochs
ranked_same count count' places places' epochs counts same f = record {
  counted = λ part. ap (λ r. unwrap_or r 0) (counts part) ∙ f.counted part;
  placed = λ part rank. same (part, rank) ∙ f.placed part rank;
  ascend = f.ascend;
}

-- one more is counted, and found at its place
pub ranked_push : (count count' : ℕ → Option ℕ) (places places' : List ((ℕ × ℕ) × ℕ)) (epochs epochs' : List CutEpoch) (added : CutEpoch) (rank place : ℕ)
    → rank ≡ how_many (is_epoch_of added.part) epochs → place ≡ length epochs → map part_of epochs' ≡ map part_of epochs ++ added.part ∷ []
    → ((test : CutEpoch → Bool) → how_many test epochs' ≡ how_many test epochs + one (test added)) → ((part : ℕ) → EpochsAscend (epochs_of part epochs'))
    → ((part : ℕ) → count' part ≡ (if added.part == part then Some (rank + 1) else count part))
    → ((key : ℕ × ℕ) → lookup (λ (k : ℕ × ℕ). (key.0 == k.0) && (key.1 == k.1)) places'
    ≡ (if (added.part == key.0) && (rank == key.1) then Some place else lookup (λ (k : ℕ × ℕ). (key.0 == k.0) && (key.1 == k.1)) places))
    → AreRanked count places epochs → AreRanked count' places' epochs'
ranked_push count count' places places' epochs epochs' added rank place number last parts counts ascend told updates f = record {
  counted = λ part. ap (λ r. unwrap_or r 0) (told part) ∙ go part (added.part == part) refl;
  placed = λ part k.
      updates (part, k)
      ∙ (λ i. if (added.part == part) && (rank == k) then Some (last i) else f.placed part k i)
      ∙ sym (place_pushed part k epochs added.part rank number)
      ∙ ap (λ ns. nth_place (λ other. other == part) ns k) (sym parts);
  ascend = ascend;
}
  where
    go : (part : ℕ) (b : Bool) → (added.part == part) ≡ b → unwrap_or (if b then Some (rank + 1) else count part) 0 ≡ how_many (is_epoch_of part) epochs'
    go part true its =
        let here : added.part ≡ part = same_part added.part part its in
        let all = counts (is_epoch_of part) in
        let itself = own_one part added here in
        let before = ap (λ (n : ℕ). how_many (is_epoch_of n) epochs) here in
        omega (arith, number, all, itself, before)
    go part false other =
        let all = counts (is_epoch_of part) in
        let none : one (is_epoch_of part added) ≡ 0 = rw other refl in
        omega (arith, all, none, f.counted part)
