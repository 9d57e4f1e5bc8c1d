-- Each step of an inbox keeps its rule.
use Rattle.std.proofs.Common.{◌≡◌, ◌≢◌, ◌⊎◌, ◌<◌, ◌≤◌, ◌+◌, ℕ, zero, suc, Bool, true, false, true≢false, cond, eqb, List, [], ◌∷◌, ◌++◌, length, set, get_or, sym, refl, ap, ◌∙◌, subst, inl, inr, ⊎_elim, append_assoc, append-nil, length-set, length-append, le_refl, eq-eqb, ne_eqb, arith}
use Rattle.std.proofs.lemmas.List.Elements.{filter-append}
use Rattle.curp_base.specs.Words.{IsPrefix}
use mathlib.Core.Logic.{dite}
use mathlib.Core.Option.{Option, some, none, some-ne-none, some-injective}
use native.Mathlib.Decide.{ℕ_discrete, dec_le}
use lib.ListN.{get_elem?}
use Rattle.std.specs.Prelude.{filter, slice_index_or}
use Rattle.crossbeam_channel.specs.Fifo.{Pushes, Pops, Forks, Merges, Learns}
use Rattle.curp_ruled.specs.Envelope.{Letter}
use Rattle.curp_ruled.specs.declared.rule.Hand.{Hand}
use Rattle.curp_ruled.specs.Rule.{of, taker, sender_of, spent, after_send, after_take, after_seat, after_leave, FitsSender, FitsTaker, DeliversEnvelopes, AreDelivered}

-- after a change of one, it is that one, or one of the others
at_set : {A : Type 0} (l : List A) (i j : ℕ) (a b : A) → get_elem? (set l i a) j ≡ some b → ((j ≡ i) × (a ≡ b)) ⊎ ((j ≢ i) × (get_elem? l j ≡ some b))
at_set [] i j a b e = absurd (some-ne-none b (sym e))
at_set (x ∷ xs) zero zero a b e = inl (refl, some-injective a b e)
at_set (x ∷ xs) zero (suc j) a b e = inr ((λ h. omega arith), e)
at_set (x ∷ xs) (suc i) zero a b e = inr ((λ h. omega arith), e)
at_set (x ∷ xs) (suc i) (suc j) a b e = ⊎_elim (λ t. inl (ap suc t.0, t.1)) (λ t. let n = t.0 in inr ((λ h. n (omega arith)), t.1)) (at_set xs i j a b e)

abbrev All : (ℕ → Hand → Type 0) → List Hand → Type 0
All F views = (pass : ℕ) (v : Hand) → get_elem? views pass ≡ some v → F pass v

all_set : (F : ℕ → Hand → Type 0) (views : List Hand) (pass : ℕ) (w : Hand) → F pass w → ((j : ℕ) (u : Hand) → j ≢ pass → get_elem? views j ≡ some u → F j u) → All F (set views pass w)
all_set F views pass w mine others j u e = ⊎_elim (λ (x : (j ≡ pass) × (w ≡ u)). subst (λ (y : ℕ × Hand). F y.0 y.1) (λ i. (sym x.0 i, x.1 i)) mine)
    (λ (x : (j ≢ pass) × (get_elem? views j ≡ some u)). others j u x.0 x.1) (at_set views pass j w u e)

-- where one was added at the end, it is the one at the old length
at_added : (l : List Hand) (a b : Hand) (j : ℕ) → get_elem? (l ++ a ∷ []) j ≡ some b → ((j ≢ length l) × (get_elem? l j ≡ some b)) ⊎ ((j ≡ length l) × (a ≡ b))
at_added [] a b zero e = inr (refl, some-injective a b e)
at_added [] a b (suc j) e = absurd (some-ne-none b (sym e))
at_added (x ∷ xs) a b zero e = inl ((λ h. omega arith), e)
at_added (x ∷ xs) a b (suc j) e = ⊎_elim (λ (t : (j ≢ length xs) × (get_elem? xs j ≡ some b)). let n = t.0 in inl ((λ h. n (omega arith)), t.1))
    (λ (t : (j ≡ length xs) × (a ≡ b)). inr (ap suc t.0, t.1)) (at_added xs a b j e)

-- a at n, and b elsewhere
abbrev at_one : {A : Type 0} → ℕ → A → A → ℕ → A
at_one n a b p = cond (eqb p n) a b

one_here : {A : Type 0} (n p : ℕ) (a b : A) → p ≡ n → at_one n a b p ≡ a
one_here n p a b e = ap (λ (t : Bool). cond t a b) (eq-eqb p n e)

one_else : {A : Type 0} (n p : ℕ) (a b : A) → p ≢ n → at_one n a b p ≡ b
one_else n p a b ne = ap (λ (t : Bool). cond t a b) (ne_eqb p n ne)

-- of one letter
of_own : (x : Letter) (p : ℕ) → x.sender ≡ p → of p (x ∷ []) ≡ x ∷ []
of_own x p e = ap (λ (t : Bool). cond t (x ∷ []) []) (eq-eqb x.sender p e)

of_other : (x : Letter) (p : ℕ) → x.sender ≢ p → of p (x ∷ []) ≡ []
of_other x p ne = ap (λ (t : Bool). cond t (x ∷ []) []) (ne_eqb x.sender p ne)

-- the list after those of left
left_more : (left : List (List Letter)) (l : List Letter) (k : ℕ) → k < length left → slice_index_or (left ++ l ∷ []) k [] ≡ slice_index_or left k []
left_more [] l k lt = absurd (omega arith)
left_more (x ∷ xs) l zero lt = refl
left_more (x ∷ xs) l (suc k) lt = left_more xs l k (omega arith)

left_last : (left : List (List Letter)) (l : List Letter) (k : ℕ) → k ≡ length left → slice_index_or (left ++ l ∷ []) k [] ≡ l
left_last [] l zero e = refl
left_last [] l (suc k) e = absurd (omega arith)
left_last (x ∷ xs) l zero e = absurd (omega arith)
left_last (x ∷ xs) l (suc k) e = left_last xs l k (omega arith)

nothing_else : (a b : Hand) (j : ℕ) → j ≢ 0 → get_elem? (a ∷ []) j ≡ some b → ⊥
nothing_else a b zero ne e = ne refl
nothing_else a b (suc j) ne e = some-ne-none b (sym e)

dite_below : (a b : ℕ) → (b ≤ a → ⊥) → a < b
dite_below a b no_more = dite (dec_le b a) (λ le. absurd (no_more le)) (λ ne. omega arith)

suc_apart : {n : ℕ} → suc n ≡ 0 → ⊥
suc_apart e = omega arith

prefix_nil : (xs ys : List Letter) → xs ++ ys ≡ [] → xs ≡ []
prefix_nil [] ys e = refl
prefix_nil (x ∷ xs) ys e = absurd (suc_apart (ap length e))

pub begins : DeliversEnvelopes [] (taker ∷ [])
begins = (
  0,
  (λ _. none),
  (λ _. []),
  [],
  (λ p. refl),
  all_set (λ j u. FitsSender (λ _. none) (λ _. []) j u × FitsTaker 0 (λ _. none) (λ _. []) [] j u) (taker ∷ []) 0 taker
      ((λ s. absurd (true≢false (sym s))), λ _. (refl, refl, (λ p le. (refl, refl)), (λ k lt. absurd (omega arith)), le_refl 0))
      (λ j u other e. absurd (nothing_else taker u j other e)),
)

pub sends : (n pass : ℕ) (v : Hand) (x : Letter) → v.sends ≡ true → x.sender ≡ v.number → Pushes DeliversEnvelopes n pass v x (λ w. w ≡ after_send v x)
sends n pass v x may own items views _ h at =
    let seat : ℕ → Option ℕ = h.1 in
    let was : ℕ → List Letter = h.2 in
    let mine = h.5 pass v at in
    let here : seat v.number ≡ some pass = (mine.0 may).0 in
    let sent : ℕ → List Letter = λ p. was p ++ of p (x ∷ []) in
    let stays : (p : ℕ) → x.sender ≢ p → sent p ≡ was p = λ p ne. ap (λ l. was p ++ l) (of_other x p ne) ∙ append-nil (was p) in
    let apart : (p : ℕ) → seat p ≡ none → x.sender ≢ p = λ p no_seat e. some-ne-none pass (sym here ∙ ap seat (sym own ∙ e) ∙ no_seat) in
    let takers : (j : ℕ) (u : Hand) → FitsTaker h.0 seat was h.3 j u → FitsTaker h.0 seat sent h.3 j u =
    λ j u fits t. let k = fits t in
    (k.0, k.1, (λ p le. let z = k.2 p le in (z.0, stays p (apart p z.0) ∙ z.1)), (λ q lt. let z = k.3 q lt in (z.0, z.1 ∙ sym (stays q (apart q z.0)))), k.4) in
    let w : Hand = after_send v x in (
      w,
      (
        h.0,
        seat,
        sent,
        h.3,
        (λ p. ap (of p) (sym (append_assoc h.3 items (x ∷ []))) ∙ filter-append (λ (y : Letter). eqb y.sender p) (h.3 ++ items) (x ∷ []) ∙ ap (λ l. l ++ of p (x ∷ [])) (h.4 p)),
        all_set (λ j u. FitsSender seat sent j u × FitsTaker h.0 seat sent h.3 j u) views pass w
            ((λ _. (here, ap (λ l. l ++ x ∷ []) (mine.0 may).1 ∙ ap (λ l. was v.number ++ l) (sym (of_own x v.number own)))), takers pass w mine.1)
            (λ j u other e. let its = h.5 j u e in (
              (λ s. let z = its.0 s in (z.0, z.1 ∙ sym (stays u.number (λ same. other (some-injective j pass (sym z.0 ∙ ap seat (sym same ∙ own) ∙ here)))))),
              takers j u its.1,
            )),
      ),
      refl,
    )

pub takes : (pass : ℕ) (v : Hand) → v.takes ≡ true → Pops DeliversEnvelopes pass v (λ x w. w ≡ after_take v x)
takes pass v may x items views h at =
    let mine = h.5 pass v at in
    let taken : List Letter = h.3 ++ x ∷ [] in
    let w : Hand = after_take v x in (
      w,
      (
        h.0,
        h.1,
        h.2,
        taken,
        (λ p. ap (of p) (append_assoc h.3 (x ∷ []) items) ∙ h.4 p),
        all_set (λ j u. FitsSender h.1 h.2 j u × FitsTaker h.0 h.1 h.2 taken j u) views pass w
            (mine.0, λ t. let k = mine.1 t in (k.0, ap (λ l. l ++ x ∷ []) k.1, k.2, k.3, k.4))
            (λ j u other e. let its = h.5 j u e in (its.0, λ t. absurd (other ((its.1 t).0 ∙ sym (mine.1 may).0)))),
      ),
      refl,
    )

pub seats : (pass : ℕ) (v : Hand) → v.takes ≡ true → Forks DeliversEnvelopes pass v (after_seat v) (sender_of v.made)
seats pass v may items views h at =
    let mine = h.5 pass v at in
    let k = mine.1 may in
    let left : Hand = after_seat v in
    let right : Hand = sender_of v.made in
    let vs : List Hand = set views pass left in
    let seat' : ℕ → Option ℕ = λ p. cond (eqb p v.made) (some (length vs)) (h.1 p) in
    let old : (p : ℕ) → p ≢ v.made → seat' p ≡ h.1 p = λ p ne. one_else v.made p (some (length vs)) (h.1 p) ne in
    let F : ℕ → Hand → Type 0 = λ j u. FitsSender seat' h.2 j u × FitsTaker h.0 seat' h.2 h.3 j u in
    let senders : (j : ℕ) (u : Hand) → FitsSender h.1 h.2 j u → FitsSender seat' h.2 j u =
    λ j u fits s. let z = fits s in (old u.number (λ same. some-ne-none j (sym z.0 ∙ ap h.1 same ∙ (k.2 v.made (le_refl v.made)).0)) ∙ z.0, z.1) in
    let all : All F vs = all_set F views pass left (
      senders pass left mine.0,
      λ t. let g = mine.1 may in (
        g.0,
        g.1,
        (λ p le. let z = g.2 p (omega arith) in (old p (λ same. omega arith) ∙ z.0, z.1)),
        (λ q lt. let z = g.3 q lt in let within = g.4 in (old q (λ same. omega arith) ∙ z.0, z.1)),
        (let within = g.4 in omega arith),
      ),
    )
    (λ j u other e. let its = h.5 j u e in (senders j u its.0, λ t. absurd (other ((its.1 t).0 ∙ sym k.0)))) in (
      h.0,
      seat',
      h.2,
      h.3,
      h.4,
      λ j u e. ⊎_elim (λ (x : (j ≢ length vs) × (get_elem? vs j ≡ some u)). all j u x.1)
          (λ (x : (j ≡ length vs) × (right ≡ u)). subst (λ (y : ℕ × Hand). F y.0 y.1) (λ i. (sym x.0 i, x.1 i))
          ((λ _. (one_here v.made v.made (some (length vs)) (h.1 v.made) refl, sym (k.2 v.made (le_refl v.made)).1)), λ t. absurd (true≢false (sym t))))
          (at_added vs right u j e),
    )

pub leaves : (pass : ℕ) (v : Hand) (other : ℕ) (w : Hand) → v.takes ≡ true → w.sends ≡ true → w.number ≡ length v.left → Merges DeliversEnvelopes pass v other w (after_leave v w) spent
leaves pass v other w may sends next items views h at two at' =
    let both : Hand = after_leave v w in
    let mine = h.5 pass v at in
    let k = mine.1 may in
    let vs : List Hand = set views pass both in
    let was : get_elem? views other ≡ some w = ⊎_elim (λ (x : (other ≡ pass) × (both ≡ w)). absurd (two x.0)) (λ (x : (other ≢ pass) × (get_elem? views other ≡ some w)). x.1) (at_set views pass other both w at') in
    let its = (h.5 other w was).0 sends in
    let seat : ℕ → Option ℕ = λ p. cond (eqb p w.number) none (h.1 p) in
    let old : (p : ℕ) → p ≢ w.number → seat p ≡ h.1 p = λ p ne. one_else w.number p none (h.1 p) ne in
    let gone : (p : ℕ) → p ≡ w.number → seat p ≡ none = λ p e. one_here w.number p none (h.1 p) e in
    let stays_none : (p : ℕ) → h.1 p ≡ none → seat p ≡ none = λ p e. dite (ℕ_discrete p w.number) (gone p) (λ ne. old p ne ∙ e) in
    let below : w.number < v.made = dite_below w.number v.made (λ le. some-ne-none other (sym its.0 ∙ (k.2 w.number le).0)) in
    let F : ℕ → Hand → Type 0 = λ j u. FitsSender seat h.2 j u × FitsTaker h.0 seat h.2 h.3 j u in
    let senders : (j : ℕ) (u : Hand) → j ≢ other → FitsSender h.1 h.2 j u → FitsSender seat h.2 j u =
    λ j u ne fits s. let z = fits s in (old u.number (λ same. ne (some-injective j other (sym z.0 ∙ ap h.1 same ∙ its.0))) ∙ z.0, z.1) in
    let Now : ℕ → Hand → Type 0 = λ j u. j ≢ other → F j u in
    let now : All Now vs = all_set Now views pass both
    (λ ne. (
      senders pass both ne mine.0,
      λ t. (
        k.0,
        k.1,
        (λ p le. let z = k.2 p le in (stays_none p z.0, z.1)),
        (λ q lt. dite (ℕ_discrete q w.number)
            (λ e. (gone q e, left_last v.left w.sent q (e ∙ next) ∙ its.1 ∙ ap h.2 (sym e)))
            (λ ne. let lt' : q < length v.left = let long = length-append v.left (w.sent ∷ []) in omega arith in let z = k.3 q lt' in (stays_none q z.0, left_more v.left w.sent q lt' ∙ z.1))),
        (let long = length-append v.left (w.sent ∷ []) in omega arith),
      ),
    ))
    (λ j u other' e ne. let z = h.5 j u e in (senders j u ne z.0, λ t. absurd (other' ((z.1 t).0 ∙ sym k.0)))) in (
      h.0,
      seat,
      h.2,
      h.3,
      h.4,
      all_set F vs other spent ((λ s. absurd (true≢false (sym s))), λ t. absurd (true≢false (sym t))) (λ j u ne e. now j u e ne),
    )

pub learns : (pass : ℕ) (v : Hand) → v.takes ≡ true → Learns DeliversEnvelopes pass v (λ items. AreDelivered v)
learns pass v may items views h at =
    let k = (h.5 pass v at).1 may in
    let whole : (p : ℕ) → of p v.taken ++ of p items ≡ h.2 p = λ p. ap (λ l. of p l ++ of p items) k.1 ∙ sym (filter-append (λ (y : Letter). eqb y.sender p) h.3 items) ∙ h.4 p in (
      (λ q lt. record { rest = of q items; is = whole q ∙ sym (k.3 q lt).1 }),
      (λ p le. prefix_nil (of p v.taken) (of p items) (whole p ∙ (k.2 p le).1)),
    )
