-- The answers of commands that were served in turn are those of one thread.
use Rattle.std.proofs.Common.{◌≡◌, ◌<◌, ℕ, zero, suc, ◌+◌, List, [], ◌∷◌, ◌++◌, length, map, refl, ap, sym, ◌∙◌, subst, arith}
use Rattle.std.proofs.lemmas.List.{length-map, map-append}
use Rattle.curp_base.specs.Words.{At}
use Rattle.curp_base.proofs.Lists.{at_push, at_same}
use Rattle.curp_cmd.specs.Store.{applied, nothing}
use Rattle.curp_cmd.specs.declared.command.Answer.{Answer}
use Rattle.curp_cmd.specs.declared.command.Command.{Command}
use Rattle.curp_cmd.specs.declared.command.RequestId.{RequestId}
use Rattle.curp_order.specs.Order.{IsHistory, IsOrder, answers, store_after}
use Rattle.curp_order.proofs.Laws.{answers_append, answers_push, length-answers}
use Rattle.curp_model.specs.World.{with_answers}
use Rattle.curp_law_served.specs.Served.{AnsweredRequest, answer_behind, answered, in_turn, requests, requests_from}
use Rattle.curp_law_served.proofs.InTurn.{answers_in_turn, as_many, in_its_turn}

-- ---- the order is that of the turns

-- a request without its answer
abbrev pub asked_of : AnsweredRequest → RequestId × Command
asked_of x = (x.0, x.1)

-- lists with the same items are the same
same_items : {A : Type 0} (xs ys : List A) → ((k : ℕ) (x : A) → At xs k x → At ys k x)
    → ((k : ℕ) (y : A) → At ys k y → k < length xs) → ys ≡ xs
same_items [] [] there few = refl
same_items [] (y ∷ ys) there few = absurd (omega (arith, few 0 y refl))
same_items (x ∷ xs) [] there few = (let nothing_there = there 0 x refl in absurd cc)
same_items {A} (x ∷ xs) (y ∷ ys) there few =
    let first : y ≡ x = cc (there 0 x refl) in
    let rest = same_items xs ys (λ k z at. there (suc k) z at) (λ k z at. let low = few (suc k) z at in omega (arith, low)) in
    λ i. first i ∷ rest i

module _ (xs : List AnsweredRequest) (order : List (RequestId × Command)) (history : IsHistory (in_turn xs))
    (ok : IsOrder (in_turn xs) order) where
  pub order_is : order ≡ map asked_of xs
  order_is = same_items (map asked_of xs) order there (λ k y at. let low = as_many xs order history ok k y at in let long = length-map xs asked_of in omega (arith, low, long))
    where
      unmapped : (zs : List AnsweredRequest) (k : ℕ) (y : RequestId × Command) → At (map asked_of zs) k y
          → (x : AnsweredRequest) × At zs k x × (asked_of x ≡ y)
      unmapped [] k y at = absurd cc
      unmapped (z ∷ zs) zero y at = (z, refl, cc)
      unmapped (z ∷ zs) (suc k) y at = unmapped zs k y at

      there : (k : ℕ) (y : RequestId × Command) → At (map asked_of xs) k y → At order k y
      there k y at = let u = unmapped xs k y at in subst (λ (z : RequestId × Command). At order k z) u.2 (in_its_turn xs order history ok k u.0 u.1)

  -- the answer to the last one is that of one thread behind the others
  pub last_answer : (before : List AnsweredRequest) (x : AnsweredRequest) → xs ≡ before ++ x ∷ []
      → x.2 ≡ (applied (store_after nothing (map asked_of before)) x.1).answer
  last_answer before x is =
      let at : At xs (length before) x = subst (λ (zs : List AnsweredRequest). At zs (length before) x) (sym is) (at_push before x (length before) refl) in
      let own : At (answers order) (length before) x.2 = answers_in_turn xs order history ok (length before) x at in
      let whole : order ≡ map asked_of before ++ asked_of x ∷ [] = order_is ∙ ap (map asked_of) is ∙ map-append asked_of before (x ∷ []) in
      at_same (answers order) (length before) x.2 _ own
      (subst (λ (os : List (RequestId × Command)). At (answers os) (length before) (applied (store_after nothing (map asked_of before)) x.1).answer) (sym whole)
      (answers_push nothing (map asked_of before) (asked_of x) (length before) (sym (length-map before asked_of))))

-- ---- the commands in turn

pub requests_push : (n : ℕ) (cs : List Command) (c : Command)
    → requests_from n (cs ++ c ∷ []) ≡ requests_from n cs ++ (record { client = 1; seq = n + length cs }, c) ∷ []
requests_push n [] c = let same : n ≡ n + 0 = omega arith in ap (λ (k : ℕ). (record { client = 1; seq = k }, c) ∷ []) same
requests_push n (d ∷ cs) c =
    let same : n + 1 + length cs ≡ n + suc (length cs) = omega arith in
    ap (λ (rs : List (RequestId × Command)). (record { client = 1; seq = n }, d) ∷ rs) (requests_push (n + 1) cs c ∙ ap (λ (k : ℕ). requests_from (n + 1) cs ++ (record { client = 1; seq = k }, c) ∷ []) same)

with_push : (os : List (RequestId × Command)) (given : List Answer) (o : RequestId × Command) (a : Answer)
    → length os ≡ length given
    → with_answers (os ++ o ∷ []) (given ++ a ∷ []) ≡ with_answers os given ++ (o.0, o.1, a) ∷ []
with_push [] [] o a long = refl
with_push [] (b ∷ bs) o a long = absurd (omega (arith, long))
with_push (p ∷ os) [] o a long = absurd (omega (arith, long))
with_push (p ∷ os) (b ∷ bs) o a long = ap (λ (xs : List AnsweredRequest). (p.0, p.1, b) ∷ xs) (with_push os bs o a (omega (arith, long)))

-- one more command
pub answered_push : (cs : List Command) (c : Command)
    → answered (cs ++ c ∷ []) ≡ answered cs ++ (record { client = 1; seq = length cs + 1 }, c, answer_behind cs c) ∷ []
answered_push cs c =
    let rs = requests cs in
    let more : requests (cs ++ c ∷ []) ≡ rs ++ (record { client = 1; seq = 1 + length cs }, c) ∷ [] = requests_push 1 cs c in
    let seq : 1 + length cs ≡ length cs + 1 = omega arith in
    ap (λ (os : List (RequestId × Command)). with_answers os (answers os)) more
    ∙ ap (with_answers (rs ++ (record { client = 1; seq = 1 + length cs }, c) ∷ [])) (answers_append nothing rs ((record { client = 1; seq = 1 + length cs }, c) ∷ []))
    ∙ with_push rs (answers rs) (record { client = 1; seq = 1 + length cs }, c) (answer_behind cs c) (sym (length-answers nothing rs))
    ∙ ap (λ (k : ℕ). answered cs ++ (record { client = 1; seq = k }, c, answer_behind cs c) ∷ []) seq

pub asked_answered : (os : List (RequestId × Command)) (given : List Answer) → length os ≡ length given
    → map asked_of (with_answers os given) ≡ os
asked_answered [] given long = refl
asked_answered (o ∷ os) [] long = absurd (omega (arith, long))
asked_answered (o ∷ os) (a ∷ given) long = ap (λ (rs : List (RequestId × Command)). o ∷ rs) (asked_answered os given (omega (arith, long)))

-- without their answers they are the requests
pub asked_are : (cs : List Command) → map asked_of (answered cs) ≡ requests cs
asked_are cs = asked_answered (requests cs) (answers (requests cs)) (sym (length-answers nothing (requests cs)))

length_requests : (n : ℕ) (cs : List Command) → length (requests_from n cs) ≡ length cs
length_requests n [] = refl
length_requests n (c ∷ cs) = ap suc (length_requests (n + 1) cs)

-- as many as commands
pub length_answered : (cs : List Command) → length (answered cs) ≡ length cs
length_answered cs = sym (length-map (answered cs) asked_of) ∙ ap (λ (rs : List (RequestId × Command)). length rs) (asked_are cs) ∙ length_requests 1 cs
