-- Counts of what passes a test, and epochs in ascending order.
use Rattle.std.proofs.Common.{◌≡◌, ℕ, zero, suc, ◌+◌, ◌<◌, ◌≤◌, ◌&&◌, nat_le, if◌then◌else◌, Bool, true, false, List, [], ◌∷◌, ◌++◌, length, get_or, set, take, drop, map, refl, ap, ◌∙◌, arith}
use Rattle.std.proofs.lemmas.Bool.Decides.{nat_tests}
use Rattle.std.specs.List.{filter, insert}
use Rattle.curp_base.specs.Words.{Each}
use Rattle.curp_base.proofs.Lists.{Each-append, Each-drop, Each-take, Each-weaker}
use Rattle.curp_line.specs.Cuts.{EpochsAscend, how_many}
use Rattle.curp_line.specs.declared.epochs.CutEpoch.{CutEpoch}

-- ---- counts

-- what one item adds to a count
abbrev pub one : Bool → ℕ
one b = if b then 1 else 0

pub how_many_cons : {A : Type 0} (p : A → Bool) (x : A) (xs : List A) → how_many p (x ∷ xs) ≡ one (p x) + how_many p xs
how_many_cons {A} p x xs = go (p x)
  where
    go : (b : Bool) → length (if b then x ∷ filter p xs else filter p xs) ≡ one b + length (filter p xs)
    go true = omega arith
    go false = omega arith

pub how_many_append : {A : Type 0} (p : A → Bool) (xs ys : List A) → how_many p (xs ++ ys) ≡ how_many p xs + how_many p ys
how_many_append p [] ys = omega arith
how_many_append p (x ∷ xs) ys =
    let rest = how_many_append p xs ys in
    let whole = how_many_cons p x (xs ++ ys) in
    let prefix = how_many_cons p x xs in
    omega (arith, rest, whole, prefix)

pub how_many_push : {A : Type 0} (p : A → Bool) (xs : List A) (x : A) → how_many p (xs ++ x ∷ []) ≡ how_many p xs + one (p x)
how_many_push p xs x =
    let all = how_many_append p xs (x ∷ []) in
    let itself = how_many_cons p x [] in
    omega (arith, all, itself)

pub how_many_map : {A B : Type 0} (p : B → Bool) (f : A → B) (xs : List A) → how_many p (map f xs) ≡ how_many (λ x. p (f x)) xs
how_many_map p f [] = refl
how_many_map p f (x ∷ xs) = go (p (f x)) (how_many_map p f xs)
  where
    go : (b : Bool) → how_many p (map f xs) ≡ how_many (λ x. p (f x)) xs
        → length (if b then f x ∷ filter p (map f xs) else filter p (map f xs)) ≡ length (if b then x ∷ filter (λ x. p (f x)) xs else filter (λ x. p (f x)) xs)
    go true rest = ap suc rest
    go false rest = rest

pub how_many_all : {A : Type 0} (xs : List A) → how_many (λ _. true) xs ≡ length xs
how_many_all [] = refl
how_many_all (x ∷ xs) = ap suc (how_many_all xs)

one_most : (b : Bool) → one b ≤ 1
one_most true = omega arith
one_most false = omega arith

pub how_many_most : {A : Type 0} (p : A → Bool) (xs : List A) → how_many p xs ≤ length xs
how_many_most p [] = omega arith
how_many_most p (x ∷ xs) =
    let rest = how_many_most p xs in
    let count = how_many_cons p x xs in
    omega (arith, rest, count, one_most (p x))

-- what passes both tests is what passes the second of what passes the first
pub how_many_both : {A : Type 0} (p q : A → Bool) (xs : List A) → how_many (λ x. p x && q x) xs ≡ how_many q (filter p xs)
how_many_both p q [] = refl
how_many_both {A} p q (x ∷ xs) = how_many_cons (λ y. p y && q y) x xs ∙ go (p x) (how_many_both p q xs)
  where
    go : (b : Bool) → how_many (λ y. p y && q y) xs ≡ how_many q (filter p xs)
        → one (b && q x) + how_many (λ y. p y && q y) xs ≡ how_many q (if b then x ∷ filter p xs else filter p xs)
    go true rest = let count = how_many_cons q x (filter p xs) in omega (arith, rest, count)
    go false rest = omega (arith, rest)

-- an item in the place of another
pub how_many_set : {A : Type 0} (p : A → Bool) (xs : List A) (at : ℕ) (y d : A) → at < length xs → how_many p (set xs at y) + one (p (get_or xs at d)) ≡ how_many p xs + one (p y)
how_many_set p [] at y d l = absurd (omega arith)
how_many_set p (x ∷ xs) zero y d l =
    let before = how_many_cons p x xs in
    let after = how_many_cons p y xs in
    omega (arith, before, after)
how_many_set p (x ∷ xs) (suc at) y d l =
    let rest = how_many_set p xs at y d (omega arith) in
    let before = how_many_cons p x xs in
    let after = how_many_cons p x (set xs at y) in
    omega (arith, rest, before, after)

-- ---- epochs in order

-- the epoch is no higher than that
abbrev pub is_low : ℕ → CutEpoch → Bool
is_low epoch e = nat_le e.epoch epoch

low_is : (epoch : ℕ) (e : CutEpoch) → is_low epoch e ≡ true → e.epoch ≤ epoch
low_is epoch e h = grind (arith, nat_tests)

high_is : (epoch : ℕ) (e : CutEpoch) → is_low epoch e ≡ false → epoch < e.epoch
high_is epoch e h = grind (arith, nat_tests)

low_one : (epoch : ℕ) (e : CutEpoch) → e.epoch ≤ epoch → one (is_low epoch e) ≡ 1
low_one epoch e l = grind (arith, nat_tests)

high_one : (epoch : ℕ) (e : CutEpoch) → epoch < e.epoch → one (is_low epoch e) ≡ 0
high_one epoch e l = grind (arith, nat_tests)

pub each_read : {A : Type 0} (P : A → Type 0) (xs : List A) → Each P xs → (k : ℕ) (d : A) → k < length xs → P (get_or xs k d)
each_read P [] h k d l = absurd (omega arith)
each_read P (x ∷ xs) h zero d l = h.0
each_read P (x ∷ xs) h (suc k) d l = each_read P xs h.1 k d (omega arith)

-- behind one that is too high there is none
none_low : (epoch : ℕ) (e : CutEpoch) (es : List CutEpoch) → epoch < e.epoch → Each (λ f. e.epoch ≤ f.epoch) es → how_many (is_low epoch) es ≡ 0
none_low epoch e [] high s = refl
none_low epoch e (f ∷ es) high s =
    let rest = none_low epoch e es high s.1 in
    let count = how_many_cons (is_low epoch) f es in
    let above = s.0 in
    let itself = high_one epoch f (omega (arith, high, above)) in
    omega (arith, rest, count, itself)

-- one that is low is counted, with all before it
pub low_counts : (epoch : ℕ) (es : List CutEpoch) (k : ℕ) (d : CutEpoch) → EpochsAscend es → k < length es → (get_or es k d).epoch ≤ epoch → k < how_many (is_low epoch) es
low_counts epoch [] k d s l low = absurd (omega arith)
low_counts epoch (e ∷ es) zero d s l low =
    let count = how_many_cons (is_low epoch) e es in
    let itself = low_one epoch e low in
    omega (arith, count, itself)
low_counts epoch (e ∷ es) (suc k) d s l low =
    let rest = low_counts epoch es k d s.1 (omega arith) low in
    let below : e.epoch ≤ (get_or es k d).epoch = each_read (λ (f : CutEpoch). e.epoch ≤ f.epoch) es s.0 k d (omega arith) in
    let count = how_many_cons (is_low epoch) e es in
    let itself = low_one epoch e (omega (arith, below, low)) in
    omega (arith, rest, count, itself)

-- one that is high is not counted, nor is any behind it
pub high_counts : (epoch : ℕ) (es : List CutEpoch) (k : ℕ) (d : CutEpoch) → EpochsAscend es → k < length es → epoch < (get_or es k d).epoch → how_many (is_low epoch) es ≤ k
high_counts epoch [] k d s l high = absurd (omega arith)
high_counts epoch (e ∷ es) zero d s l high =
    let none = none_low epoch e es high s.0 in
    let count = how_many_cons (is_low epoch) e es in
    let itself = high_one epoch e high in
    omega (arith, none, count, itself)
high_counts epoch (e ∷ es) (suc k) d s l high =
    let rest = high_counts epoch es k d s.1 (omega arith) high in
    let count = how_many_cons (is_low epoch) e es in
    omega (arith, rest, count, one_most (is_low epoch e))

each_insert : {A : Type 0} (P : A → Type 0) (xs : List A) (i : ℕ) (y : A) → Each P xs → P y → Each P (insert xs i y)
each_insert P xs i y h here = Each-append P (take i xs) (y ∷ drop i xs) (Each-take P i xs h) (here, Each-drop P i xs h)

-- an epoch goes behind those that are no higher
pub ascend_insert : (es : List CutEpoch) (y : CutEpoch) → EpochsAscend es → EpochsAscend (insert es (how_many (is_low y.epoch) es) y)
ascend_insert [] y s = (tt, tt)
ascend_insert (e ∷ es) y s = go (is_low y.epoch e) refl (ascend_insert es y s.1)
  where
    go : (b : Bool) → is_low y.epoch e ≡ b → EpochsAscend (insert es (how_many (is_low y.epoch) es) y)
        → EpochsAscend (insert (e ∷ es) (length (if b then e ∷ filter (is_low y.epoch) es else filter (is_low y.epoch) es)) y)
    go true low rest = (each_insert (λ (f : CutEpoch). e.epoch ≤ f.epoch) es (how_many (is_low y.epoch) es) y s.0 (low_is y.epoch e low), rest)
    go false high rest =
        let above : y.epoch < e.epoch = high_is y.epoch e high in
        let none = none_low y.epoch e es above s.0 in
        rw none ((omega (arith, above), Each-weaker (λ (f : CutEpoch). e.epoch ≤ f.epoch) (λ (f : CutEpoch). y.epoch ≤ f.epoch) (λ f l. omega (arith, l, above)) es s.0), s)
