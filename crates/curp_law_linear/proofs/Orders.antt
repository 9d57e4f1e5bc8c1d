-- Orders that are alike at hashes, up to where a log was cut.
use Rattle.std.proofs.Common.{◌≡◌, ℕ, zero, suc, inl, inr, Bool, true, false, not, cond, if◌then◌else◌, List, [], ◌∷◌, ◌++◌, length, refl, ap, sym, ◌∙◌, subst, arith, append-nil, append_assoc}
use Rattle.std.specs.List.{filter}
use Rattle.std.proofs.lemmas.Bool.{or_parts}
use Rattle.curp_base.specs.Words.{At}
use Rattle.curp_base.proofs.Lists.{Each-append, Each-at, Each-from_at, at_append_right, at_same}
use Rattle.curp_range.specs.Spans.{is_in}
use Rattle.curp_cmd.specs.Hash.{hash_of, touches}
use Rattle.curp_cmd.specs.Store.{applied, nothing}
use Rattle.curp_cmd.specs.declared.command.Answer.{Answer}
use Rattle.curp_cmd.specs.declared.command.RequestId.{RequestId}
use Rattle.curp_cmd.specs.declared.entry.Entry.{Entry}
use Rattle.curp_cmd.specs.declared.entry.Entry.TheVariants.{Expire, Give, Op, Take}
use Rattle.curp_order.specs.Order.{answers, answers_from, store_after, Asked}
use Rattle.curp_order.proofs.Laws.{answers_append, length-answers}
use Rattle.curp_law_kept.specs.Hashes.{In, NoGive, behind_from, on, value}
use Rattle.curp_law_linear.specs.Line.{AnsweredInOrder}
use Rattle.curp_law_linear.proofs.Given.{Pure}
use Rattle.curp_law_linear.proofs.Hashes.{key_touches}
use Rattle.curp_law_linear.proofs.Lists.{Distinct, distinct_filter, empty_list, from_filter, in_cons, in_filter, in_head, in_none, in_right, in_tail, only_one, some_or_none}
use Rattle.curp_law_kept.proofs.Gives.{on_append}

-- the ops of entries, as requests of the order
abbrev pub asked_of : List Entry → List Asked
asked_of [] = []
asked_of (Op r a ∷ es) = (r.id, r.command) ∷ asked_of es
asked_of (Take n k ∷ es) = asked_of es
asked_of (Give n k ∷ es) = asked_of es
asked_of (Expire client ∷ es) = asked_of es

-- where no give covers the hash, all ops on it stand behind
pub behind_asked : (h : ℕ) (kept : List Asked) (es : List Entry) → NoGive h es → behind_from h kept es ≡ kept ++ on h (asked_of es)
behind_asked h kept [] none = sym (append-nil kept)
behind_asked h kept (Op r a ∷ es) none = go (touches r.command h) (behind_asked h (kept ++ (r.id, r.command) ∷ []) es none) (behind_asked h kept es none)
  where
    go : (b : Bool) → behind_from h (kept ++ (r.id, r.command) ∷ []) es ≡ (kept ++ (r.id, r.command) ∷ []) ++ on h (asked_of es) → behind_from h kept es ≡ kept ++ on h (asked_of es)
        → behind_from h (cond b (kept ++ (r.id, r.command) ∷ []) kept) es ≡ kept ++ cond b ((r.id, r.command) ∷ on h (asked_of es)) (on h (asked_of es))
    go true e f = e ∙ append_assoc kept ((r.id, r.command) ∷ []) (on h (asked_of es))
    go false e f = f
behind_asked h kept (Take n k ∷ es) none = behind_asked h kept es none
behind_asked h kept (Give n k ∷ es) none =
    let c = or_parts (is_in k.lo k.hi h) _ none in
    ap (λ (b : Bool). behind_from h (if b then [] else kept) es) c.0 ∙ behind_asked h kept es c.1
behind_asked h kept (Expire client ∷ es) none = behind_asked h kept es none

-- ---- distinct lists

-- two parts of a list have no id in common
pub distinct_split : (xs ys : List Asked) → Distinct (xs ++ ys) → (x y : Asked) → In x xs → In y ys → x.0 ≡ y.0 → ⊥
distinct_split [] ys d x y mx my same = in_none x ⊥ mx
distinct_split (z ∷ xs) ys d x y mx my same = elim (in_cons x z xs mx) [
  | inl is ↦ let m = in_right xs ys y my in Each-at _ (xs ++ ys) d.0 m.0 y m.1 (ap (λ (o : Asked). o.0) is ∙ same)
  | inr later ↦ distinct_split xs ys d.1 x y later my same
]

-- and such parts make such a list
pub distinct_append : (xs ys : List Asked) → Distinct xs → Distinct ys → ((x y : Asked) → In x xs → In y ys → x.0 ≡ y.0 → ⊥) → Distinct (xs ++ ys)
distinct_append [] ys d e f = e
distinct_append (x ∷ xs) ys d e f = (
  Each-append _ xs ys d.0 (Each-from_at _ ys (λ k y h same. f x y (in_head x xs) (k, h) same)),
  distinct_append xs ys d.1 e (λ y z my mz. f y z (in_tail y x xs my) mz),
)

-- one item cuts a list in one way
pub cut_once : (f g b c : List Asked) (x : Asked) → f ++ x ∷ b ≡ g ++ x ∷ c → Distinct (f ++ x ∷ b) → f ≡ g
cut_once [] [] b c x e d = refl
cut_once [] (z ∷ g) b c x e d =
    let head : x ≡ z = cc in
    let tail : b ≡ g ++ x ∷ c = cc in
    let m : In x b = subst (In x) (sym tail) (in_right g (x ∷ c) x (in_head x c)) in
    absurd (Each-at _ b d.0 m.0 x m.1 refl)
cut_once (z ∷ f) [] b c x e d =
    let head : z ≡ x = cc in
    let m : In x (f ++ x ∷ b) = in_right f (x ∷ b) x (in_head x b) in
    absurd (Each-at _ (f ++ x ∷ b) d.0 m.0 x m.1 (ap (λ (o : Asked). o.0) head))
cut_once (z ∷ f) (y ∷ g) b c x e d =
    let head : z ≡ y = cc in
    let tail : f ++ x ∷ b ≡ g ++ x ∷ c = cc in
    ap (λ (w : Asked). w ∷ f) head ∙ ap (λ w. y ∷ w) (cut_once f g b c x tail d.1)

-- a list, cut at a request
pub record Split (xs : List Asked) (x : Asked) : Type 0 where
  pub prefix : List Asked
  pub back : List Asked
  pub is : xs ≡ prefix ++ x ∷ back

pub split_at : (xs : List Asked) (k : ℕ) (x : Asked) → At xs k x → (s : Split xs x) × (length s.prefix ≡ k)
split_at [] k x h = absurd cc
split_at (y ∷ xs) zero x h = let same : y ≡ x = cc in (record { prefix = []; back = xs; is = ap (λ (z : Asked). z ∷ xs) same }, refl)
split_at (y ∷ xs) (suc k) x h = let s = split_at xs k x h in (record { prefix = y ∷ s.0.prefix; back = s.0.back; is = ap (λ w. y ∷ w) s.0.is }, ap suc s.1)

pub split_in : (xs : List Asked) (x : Asked) → In x xs → Split xs x
split_in xs x m = (split_at xs m.0 x m.1).0

-- ---- answers at a place

-- what one thread answers at a place
pub answer_there : (f b : List Asked) (x : Asked) → At (answers (f ++ x ∷ b)) (length f) (applied (store_after nothing f) x.1).answer
answer_there f b x =
    subst (λ (l : List Answer). At l (length f) (applied (store_after nothing f) x.1).answer) (sym (answers_append nothing f (x ∷ b)))
    (at_append_right (answers_from nothing f) _ 0 (length f) _ (let e : length (answers_from nothing f) ≡ length f = length-answers nothing f in omega (arith, e)) refl)

-- the same of a cut
pub answered_there : (os : List Asked) (x : Asked) (s : Split os x) → AnsweredInOrder os x (applied (store_after nothing s.prefix) x.1).answer
answered_there os x s = subst (λ (l : List Asked). AnsweredInOrder l x (applied (store_after nothing s.prefix) x.1).answer) (sym s.is) (record {
  place = length s.prefix;
  stands = at_append_right s.prefix (x ∷ s.back) 0 (length s.prefix) x (omega arith) refl;
  answer = answer_there s.prefix s.back x;
})

-- and back: an answer is that of a cut
pub answered_is : (os : List Asked) (x : Asked) (a : Answer) → (w : AnsweredInOrder os x a) → (s : Split os x) × (a ≡ (applied (store_after nothing s.prefix) x.1).answer)
answered_is os x a w =
    let s = split_at os w.place x w.stands in
    let there : At (answers os) w.place (applied (store_after nothing s.0.prefix) x.1).answer =
    subst (λ (k : ℕ). At (answers os) k (applied (store_after nothing s.0.prefix) x.1).answer) s.1
    (subst (λ (l : List Asked). At (answers l) (length s.0.prefix) (applied (store_after nothing s.0.prefix) x.1).answer) (sym s.0.is) (answer_there s.0.prefix s.0.back x)) in
    (s.0, at_same (answers os) w.place a _ w.answer there)

-- a cut at a hash
pub on_split : (h : ℕ) (xs : List Asked) (x : Asked) → touches x.1 h ≡ true → (s : Split xs x) → on h xs ≡ on h s.prefix ++ x ∷ on h s.back
on_split h xs x t s = ap (on h) s.is ∙ on_append h s.prefix (x ∷ s.back) ∙ ap (λ (b : Bool). on h s.prefix ++ cond b (x ∷ on h s.back) (on h s.back)) t

-- ---- what a request has at each of its hashes before it decides its answer

-- what stands before a request at each of its hashes decides its answer
pub same_prefixes : Pure → (f g : List Asked) (x : Asked) → ((h : ℕ) → touches x.1 h ≡ true → on h f ≡ on h g) → (applied (store_after nothing f) x.1).answer ≡ (applied (store_after nothing g) x.1).answer
same_prefixes pure f g x e = pure.answer_local (store_after nothing f) (store_after nothing g) x.1 (λ key m.
    pure.value_local key f ∙ ap (value key) (e (hash_of key) (key_touches x.1 key m)) ∙ sym (pure.value_local key g))

-- the prefix of a request at a hash, where the hash has it in front of the cut
pub prefix_of : (h : ℕ) (os X R : List Asked) (x : Asked) → touches x.1 h ≡ true → Distinct (on h os) → on h os ≡ X ++ R → (s : Split os x) → (c : Split X x) → on h s.prefix ≡ c.prefix
prefix_of h os X R x t d e s c =
    let a : on h s.prefix ++ x ∷ on h s.back ≡ c.prefix ++ x ∷ (c.back ++ R) =
    sym (on_split h os x t s) ∙ e ∙ ap (λ w. w ++ R) c.is ∙ append_assoc c.prefix (x ∷ c.back) R in
    cut_once (on h s.prefix) c.prefix (on h s.back) (c.back ++ R) x a (subst Distinct (on_split h os x t s) d)

-- or right behind it
pub place_in_prefix : (h : ℕ) (os X R : List Asked) (x : Asked) → touches x.1 h ≡ true → Distinct (on h os) → on h os ≡ X ++ x ∷ R → (s : Split os x) → on h s.prefix ≡ X
place_in_prefix h os X R x t d e s = cut_once (on h s.prefix) X (on h s.back) R x (sym (on_split h os x t s) ∙ e) (subst Distinct (on_split h os x t s) d)

-- ---- at one hash, what is done and what is replayed again are what is replayed

module _ (done : RequestId → Bool) (S A : List Asked) (once : Distinct S) (one : (x y : Asked) → In x A → In y A → x ≡ y) (distinct : Distinct A)
    (kept : (x : Asked) → In x S → done x.0 ≡ true → In x A) (known : (x : Asked) → In x A → done x.0 ≡ true → In x S) where
  abbrev is_done : Asked → Bool
  is_done x = done x.0

  abbrev not_done : Asked → Bool
  not_done x = not (done x.0)

  -- what is done of what goes, with what is replayed and isn't done, is what is replayed
  pub core : filter is_done S ++ filter not_done A ≡ A
  core = elim (some_or_none A) [
    | inl none ↦
        let a : filter is_done S ≡ [] = empty_list _ (λ x m. let r = from_filter is_done S x m in in_none x ⊥ (subst (In x) none (kept x r.0 r.1))) in
        rw (a, none) refl
    | inr some ↦ with_one some.0 some.1 (done some.0.0) refl
  ]
    where
      with_one : (q : Asked) → In q A → (b : Bool) → done q.0 ≡ b → filter is_done S ++ filter not_done A ≡ A
      with_one q m b e = go b e (only_one A q distinct m (λ x n. one x q n m))
        where
          go : (b : Bool) → done q.0 ≡ b → A ≡ q ∷ [] → filter is_done S ++ filter not_done A ≡ A
          go true e all =
              let a : filter is_done S ≡ q ∷ [] =
              only_one _ q (distinct_filter is_done S once) (in_filter is_done S q (known q m e) e) (λ x n. let r = from_filter is_done S x n in one x q (kept x r.0 r.1) m) in
              let b : filter not_done A ≡ [] = ap (filter not_done) all ∙ ap (λ (d : Bool). cond (not d) (q ∷ []) []) e in
              (λ i. a i ++ b i) ∙ sym all
          go false e all =
              let a : filter is_done S ≡ [] =
              empty_list _ (λ x n. let r = from_filter is_done S x n in let same : x ≡ q = one x q (kept x r.0 r.1) m in let f : done x.0 ≡ false = ap is_done same ∙ e in let bad : true ≡ false = sym r.1 ∙ f in absurd cc) in
              let b : filter not_done A ≡ q ∷ [] = ap (filter not_done) all ∙ ap (λ (d : Bool). cond (not d) (q ∷ []) []) e in
              (λ i. a i ++ b i) ∙ sym all
