-- What is kept beside the entries of a tail, as entries come and go.
use Rattle.std.proofs.Common.{◌≡◌, ℕ, zero, suc, ◌+◌, ◌==◌, ◌&&◌, ◌||◌, ◌<◌, Bool, true, false, cond, nat_le, List, [], ◌∷◌, ◌++◌, length, get_or, take, drop, is_some, Option, Some, None, refl, ap, sym, ◌∙◌, append_assoc, length-append, subst, arith}
use Rattle.std.specs.List.{filter, list_any}
use Rattle.std.proofs.lemmas.Bool.Decides.{nat_tests}
use Rattle.std.proofs.lemmas.List.Folds.{list_any_more}
use Rattle.curp_base.specs.Words.{Each}
use Rattle.curp_range.specs.Spans.{is_in}
use Rattle.curp_tail.specs.declared.tail.Moved.{Moved}
use Rattle.curp_tail.specs.declared.tail.TailEntry.{TailEntry}
use Rattle.curp_tail.specs.declared.touched.Touched.{Touched}
use Rattle.curp_tail.specs.declared.touched.Touched.TheVariants.{Hashes, Range, Nothing}
use Rattle.curp_tail.specs.Tail.{IndexesRise, is_dirty, touches}
use Rattle.curp_tail.specs.Kept.{last_or, last_with, is_this, moved_of, names, ranges_in, without_last}

-- ---- what is dirty

abbrev covered : ℕ → List Moved → Bool
covered hash ranges = list_any (λ (m : Moved). is_in m.lo m.hi hash) ranges

pub dirty_is : (tail : List TailEntry) (hash : ℕ) → (is_some (last_with hash tail) || covered hash (ranges_in tail)) ≡ is_dirty tail hash
dirty_is [] hash = refl
dirty_is (e ∷ es) hash = go e.touched (last_with hash es) (dirty_is es hash)
  where
    go : (t : Touched) (last : Option ℕ) → (is_some last || covered hash (ranges_in es)) ≡ is_dirty es hash
        → (is_some (last_or (names hash t) e.index last) || covered hash (moved_of e.index t ++ ranges_in es)) ≡ (touches t hash || is_dirty es hash)
    go (Hashes hs) (Some i) rest = late (list_any (λ h. h == hash) hs) (covered hash (ranges_in es)) (is_dirty es hash) rest
      where
        late : (b r d : Bool) → true ≡ d → true ≡ (b || d)
        late true r d e = refl
        late false r d e = e
    go (Hashes hs) None rest = none (list_any (λ h. h == hash) hs) (covered hash (ranges_in es)) (is_dirty es hash) rest
      where
        none : (b r d : Bool) → r ≡ d → (is_some (last_or b e.index None) || r) ≡ (b || d)
        none true r d e = refl
        none false r d e = e
    go (Range lo hi) (Some i) rest = late (is_in lo hi hash) (is_dirty es hash) rest
      where
        late : (b d : Bool) → true ≡ d → true ≡ (b || d)
        late true d e = refl
        late false d e = e
    go (Range lo hi) None rest = ap (λ (d : Bool). is_in lo hi hash || d) rest
    go Nothing (Some i) rest = rest
    go Nothing None rest = rest

pub dirty_by_name : (tail : List TailEntry) (hash : ℕ) (last : Option ℕ) (found : Bool) → last ≡ last_with hash tail → found ≡ is_some last → found ≡ true → found ≡ is_dirty tail hash
dirty_by_name tail hash last found last_is is here =
    here ∙ ap (λ (b : Bool). b || covered hash (ranges_in tail)) (sym here ∙ is ∙ ap (λ (o : Option ℕ). is_some o) last_is) ∙ dirty_is tail hash

pub dirty_by_range : (tail : List TailEntry) (hash : ℕ) (last : Option ℕ) (ranges : List Moved) (found covers : Bool) → last ≡ last_with hash tail → ranges ≡ ranges_in tail
    → found ≡ is_some last → found ≡ false → covers ≡ list_any (λ (m : Moved). is_in m.lo m.hi hash) ranges → covers ≡ is_dirty tail hash
dirty_by_range tail hash last ranges found covers last_is ranges_are is absent covers_is =
    covers_is ∙ ap (λ (ms : List Moved). covered hash ms) ranges_are
    ∙ ap (λ (b : Bool). b || covered hash (ranges_in tail)) (sym absent ∙ is ∙ ap (λ (o : Option ℕ). is_some o) last_is)
    ∙ dirty_is tail hash

-- ---- one more

pub one_longer : (tail : List TailEntry) (e : TailEntry) → length (tail ++ e ∷ []) ≡ length tail + 1
one_longer tail e = length-append tail (e ∷ [])

pub ranges_push : (tail : List TailEntry) (e : TailEntry) → ranges_in (tail ++ e ∷ []) ≡ ranges_in tail ++ moved_of e.index e.touched
ranges_push [] e = end (moved_of e.index e.touched)
  where
    end : (ms : List Moved) → ms ++ [] ≡ ms
    end [] = refl
    end (m ∷ ms) = ap (λ (ns : List Moved). m ∷ ns) (end ms)
ranges_push (d ∷ tail) e = ap (λ (ms : List Moved). moved_of d.index d.touched ++ ms) (ranges_push tail e) ∙ sym (append_assoc (moved_of d.index d.touched) (ranges_in tail) (moved_of e.index e.touched))

pub last_push : (hash : ℕ) (tail : List TailEntry) (e : TailEntry) → last_with hash (tail ++ e ∷ []) ≡ cond (names hash e.touched) (Some e.index) (last_with hash tail)
last_push hash [] e = go (names hash e.touched)
  where
    go : (b : Bool) → last_or b e.index None ≡ cond b (Some e.index) None
    go true = refl
    go false = refl
last_push hash (d ∷ tail) e = ap (last_or (names hash d.touched) d.index) (last_push hash tail e) ∙ go (names hash e.touched)
  where
    go : (b : Bool) → last_or (names hash d.touched) d.index (cond b (Some e.index) (last_with hash tail)) ≡ cond b (Some e.index) (last_or (names hash d.touched) d.index (last_with hash tail))
    go true = refl
    go false = refl

-- ---- one less

each_from_get : (P : TailEntry → Type 0) (xs : List TailEntry) → ((k : ℕ) (d : TailEntry) → k < length xs → P (get_or xs k d)) → Each P xs
each_from_get P [] all = tt
each_from_get P (x ∷ xs) all = (all zero x (omega arith), each_from_get P xs (λ k d l. all (suc k) d (omega arith)))

rest_above : (e : TailEntry) (es : List TailEntry) → IndexesRise (e ∷ es) → Each (λ (d : TailEntry). e.index < d.index) es
rest_above e es rise = each_from_get (λ (d : TailEntry). e.index < d.index) es (λ k d l. rise 0 (suc k) d (omega arith) (omega arith))

pub rest_rises : (e : TailEntry) (es : List TailEntry) → IndexesRise (e ∷ es) → IndexesRise es
rest_rises e es rise = λ i j d l w. rise (suc i) (suc j) d (omega arith) (omega arith)

last_above : (hash n last : ℕ) (es : List TailEntry) → Each (λ (d : TailEntry). n < d.index) es → last_with hash es ≡ Some last → n < last
last_above hash n last [] above is = absurd cc
last_above hash n last (e ∷ es) above is = go (λ i later. last_above hash n i es above.1 later) (names hash e.touched) (last_with hash es) refl is
  where
    go : ((i : ℕ) → last_with hash es ≡ Some i → n < i) → (b : Bool) (o : Option ℕ) → last_with hash es ≡ o → last_or b e.index o ≡ Some last → n < last
    go above_too b (Some i) later is = let same : i ≡ last = cc in subst (λ (m : ℕ). n < m) same (above_too i later)
    go above_too true None later is = let same : e.index ≡ last = cc in subst (λ (m : ℕ). n < m) same above.0
    go above_too false None later is = absurd cc

pub last_left : (hash : ℕ) (e : TailEntry) (es : List TailEntry) → IndexesRise (e ∷ es) → without_last (names hash e.touched) e.index (last_with hash (e ∷ es)) ≡ last_with hash es
last_left hash e es rise = go (names hash e.touched) (last_with hash es) refl
  where
    self : (n : ℕ) → (n == n) ≡ true
    self n = grind (arith, nat_tests)

    other : (i j : ℕ) → j < i → (i == j) ≡ false
    other i j l = grind (arith, nat_tests)

    go : (b : Bool) (o : Option ℕ) → last_with hash es ≡ o → without_last b e.index (last_or b e.index o) ≡ o
    go true (Some i) is = let no = other i e.index (last_above hash e.index i es (rest_above e es rise) is) in rw no refl
    go false (Some i) is = refl
    go true None is = let yes = self e.index in rw yes refl
    go false None is = refl

pub rises_without : (tail : List TailEntry) → IndexesRise tail → IndexesRise (drop 1 tail)
rises_without [] rise = rise
rises_without (e ∷ es) rise = rest_rises e es rise

pub rises_from : (tail : List TailEntry) (n : ℕ) → IndexesRise tail → IndexesRise (drop n tail)
rises_from tail zero rise = rise
rises_from [] (suc n) rise = rise
rises_from (e ∷ es) (suc n) rise = rises_from es n (rest_rises e es rise)

pub ranges_left : (long : ℕ) (tail : List TailEntry) → filter (λ (m : Moved). nat_le long m.index) (ranges_in tail) ≡ ranges_in (filter (λ (e : TailEntry). nat_le long e.index) tail)
ranges_left long [] = refl
ranges_left long (e ∷ es) = go e.touched (nat_le long e.index) refl (ranges_left long es)
  where
    go : (t : Touched) (b : Bool) → nat_le long e.index ≡ b → filter (λ (m : Moved). nat_le long m.index) (ranges_in es) ≡ ranges_in (filter (λ (e : TailEntry). nat_le long e.index) es)
        → filter (λ (m : Moved). nat_le long m.index) (moved_of e.index t ++ ranges_in es)
        ≡ ranges_in (cond b (record { index = e.index; touched = t } ∷ filter (λ (e : TailEntry). nat_le long e.index) es) (filter (λ (e : TailEntry). nat_le long e.index) es))
    go (Hashes hs) true is rest = rest
    go (Hashes hs) false is rest = rest
    go (Range lo hi) true is rest = rw is (ap (λ (ms : List Moved). record { index = e.index; lo = lo; hi = hi } ∷ ms) rest)
    go (Range lo hi) false is rest = rw is rest
    go Nothing true is rest = rest
    go Nothing false is rest = rest

-- ---- steps of loops

pub noted_more : (hashes : List ℕ) (i hash index : ℕ) (now old : Option ℕ) (d : ℕ) → i < length hashes → now ≡ cond (list_any (λ h. h == hash) (take i hashes)) (Some index) old
    → cond (get_or hashes i d == hash) (Some index) now ≡ cond (list_any (λ h. h == hash) (take (i + 1) hashes)) (Some index) old
noted_more hashes i hash index now old d within so_far =
    ap (cond (get_or hashes i d == hash) (Some index)) so_far ∙ join (get_or hashes i d == hash) (list_any (λ h. h == hash) (take i hashes))
    ∙ ap (λ (b : Bool). cond b (Some index) old) (sym (list_any_more (λ (h : ℕ). h == hash) hashes i d within))
  where
    join : (a b : Bool) → cond a (Some index) (cond b (Some index) old) ≡ cond (b || a) (Some index) old
    join true true = refl
    join true false = refl
    join false true = refl
    join false false = refl

pub forgotten_more : (hashes : List ℕ) (i hash index : ℕ) (now old : Option ℕ) (d : ℕ) → i < length hashes → now ≡ without_last (list_any (λ h. h == hash) (take i hashes)) index old
    → without_last (get_or hashes i d == hash) index now ≡ without_last (list_any (λ h. h == hash) (take (i + 1) hashes)) index old
forgotten_more hashes i hash index now old d within so_far =
    ap (without_last (get_or hashes i d == hash) index) so_far ∙ join (get_or hashes i d == hash) (list_any (λ h. h == hash) (take i hashes)) (is_this index old) refl
    ∙ ap (λ (b : Bool). without_last b index old) (sym (list_any_more (λ (h : ℕ). h == hash) hashes i d within))
  where
    join : (a b t : Bool) → is_this index old ≡ t → without_last a index (cond (b && t) None old) ≡ cond ((b || a) && t) None old
    join true true true e = refl
    join false true true e = refl
    join true true false e = rw e refl
    join false true false e = refl
    join true false t e = ap (λ (b : Bool). cond b None old) e
    join false false t e = refl

-- one hash is noted, or forgotten
pub forgotten_here : (hash other index : ℕ) (old : ℕ → Option ℕ) → is_this index (old hash) ≡ true → cond (hash == other) None (old other) ≡ without_last (hash == other) index (old other)
forgotten_here hash other index old this = go (hash == other) refl
  where
    go : (b : Bool) → (hash == other) ≡ b → cond b None (old other) ≡ cond (b && is_this index (old other)) None (old other)
    go true e =
        let same : hash ≡ other = grind (arith, nat_tests) in
        let there : is_this index (old other) ≡ true = subst (λ (n : ℕ). is_this index (old n) ≡ true) same this in
        rw there refl
    go false e = refl

pub forgotten_not : (hash other index : ℕ) (old : ℕ → Option ℕ) → is_this index (old hash) ≡ false → old other ≡ without_last (hash == other) index (old other)
forgotten_not hash other index old this = go (hash == other) refl
  where
    go : (b : Bool) → (hash == other) ≡ b → old other ≡ cond (b && is_this index (old other)) None (old other)
    go true e =
        let same : hash ≡ other = grind (arith, nat_tests) in
        let there : is_this index (old other) ≡ false = subst (λ (n : ℕ). is_this index (old n) ≡ false) same this in
        rw there refl
    go false e = refl
