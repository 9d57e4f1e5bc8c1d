-- Fresh nodes come behind those that are there.
use Rattle.std.proofs.Common.{◌≡◌, ℕ, ◌+◌, ◌-◌, ◌<◌, ◌≤◌, List, [], ◌∷◌, ◌++◌, length, replicate, refl, ap, sym, ◌∙◌, subst, arith, append_assoc, append-nil, length-append, inl, inr}
use Rattle.std.proofs.lemmas.List.{length-map, map-append, replicate_more}
use Rattle.curp_base.specs.Words.{Each}
use Rattle.curp_base.proofs.Lists.{at_append, at_append_cases, at_append_right, Each-append}
use Rattle.curp_msg.specs.Moved.{Node}
use Rattle.curp_model.specs.Witness.{WitnessState, fresh_witness}
use Rattle.curp_model.specs.World.{grown}
use Rattle.curp_nodes.specs.Nodes.{HasNumbers, IsAhead, states}
use Rattle.curp_nodes.proofs.Numbers.{numbers_push}

-- where no number was given no node comes
pub grown_none : {S : Type 0} (nodes : List S) (fresh : S) (next : ℕ) → next ≡ length nodes + 1 → grown nodes fresh next ≡ nodes
grown_none nodes fresh next last =
    let none : (next - 1) - length nodes ≡ 0 = omega (arith, last) in
    ap (λ (n : ℕ). nodes ++ replicate n fresh) none ∙ append-nil nodes

-- a fresh one more
pub grown_more : {S : Type 0} (nodes : List S) (fresh : S) (next : ℕ) → length nodes < next → grown nodes fresh next ++ fresh ∷ [] ≡ grown nodes fresh (next + 1)
grown_more nodes fresh next behind =
    let more : ((next - 1) - length nodes) + 1 ≡ ((next + 1) - 1) - length nodes = omega (arith, behind) in
    append_assoc nodes (replicate ((next - 1) - length nodes) fresh) (fresh ∷ [])
    ∙ ap (λ (tail : List _). nodes ++ tail) (replicate_more ((next - 1) - length nodes) fresh)
    ∙ ap (λ (n : ℕ). nodes ++ replicate n fresh) more

-- ---- witnesses that are made ahead

-- those that are there are numbered
pub ahead_numbers : (witnesses ahead : List (Node WitnessState)) (sets ways : ℕ) → IsAhead witnesses ahead sets ways → HasNumbers witnesses
ahead_numbers witnesses ahead sets ways is k x here = is.numbered k x (at_append witnesses ahead k x here)

-- none is made yet
pub none_ahead : (witnesses : List (Node WitnessState)) (sets ways : ℕ) → HasNumbers witnesses → IsAhead witnesses [] sets ways
none_ahead witnesses sets ways numbers = record {
  numbered = subst HasNumbers (sym (append-nil witnesses)) numbers;
  fresh = tt;
}

-- one more is made
pub one_ahead : (witnesses ahead : List (Node WitnessState)) (y : Node WitnessState) (sets ways : ℕ) → IsAhead witnesses ahead sets ways
    → y.number ≡ (length witnesses + length ahead) + 1 → y.state ≡ fresh_witness sets ways → IsAhead witnesses (ahead ++ y ∷ []) sets ways
one_ahead witnesses ahead y sets ways is number state =
    let long : y.number ≡ length (witnesses ++ ahead) + 1 = number ∙ ap (λ (n : ℕ). n + 1) (sym (length-append witnesses ahead)) in
    record {
      numbered = subst HasNumbers (append_assoc witnesses ahead (y ∷ [])) (numbers_push (witnesses ++ ahead) y is.numbered long);
      fresh = Each-append (λ (x : Node WitnessState). x.state ≡ fresh_witness sets ways) ahead (y ∷ []) is.fresh (state, tt);
    }

-- one of those that are there has moved
pub ahead_stays : (witnesses after ahead : List (Node WitnessState)) (sets ways : ℕ) → IsAhead witnesses ahead sets ways → HasNumbers after → length after ≡ length witnesses
    → IsAhead after ahead sets ways
ahead_stays witnesses after ahead sets ways is numbers long = record {
  numbered = λ k x here.
      elim (at_append_cases after ahead k x here) as (λ _. x.number ≡ k + 1) [
        | inl there ↦ numbers k x there
        | inr made ↦ is.numbered k x (at_append_right witnesses ahead made.0 k x (made.1 ∙ ap (λ (n : ℕ). n + made.0) long) made.2)
      ];
  fresh = is.fresh;
}

-- fresh ones that were taken up, and those that are left
taken_fresh : (sets ways : ℕ) (ahead taken left : List (Node WitnessState)) → Each (λ (x : Node WitnessState). x.state ≡ fresh_witness sets ways) ahead → taken ++ left ≡ ahead
    → (states taken ≡ replicate (length taken) (fresh_witness sets ways)) × Each (λ (x : Node WitnessState). x.state ≡ fresh_witness sets ways) left
taken_fresh sets ways ahead [] left fresh all = (refl, subst (Each (λ (x : Node WitnessState). x.state ≡ fresh_witness sets ways)) (sym all) fresh)
taken_fresh sets ways [] (y ∷ taken) left fresh all = absurd cc
taken_fresh sets ways (x ∷ ahead) (y ∷ taken) left fresh all =
    let first : y ≡ x = cc in
    let rest : taken ++ left ≡ ahead = cc in
    let more = taken_fresh sets ways ahead taken left fresh.1 rest in (
      ap (λ (z : Node WitnessState). z.state ∷ states taken) first ∙ ap (λ (s : WitnessState). s ∷ states taken) fresh.0
          ∙ ap (λ (ss : List WitnessState). fresh_witness sets ways ∷ ss) more.0,
      more.1,
    )

taken_states : (sets ways : ℕ) (witnesses ahead after left : List (Node WitnessState)) → Each (λ (x : Node WitnessState). x.state ≡ fresh_witness sets ways) ahead
    → after ++ left ≡ witnesses ++ ahead → length witnesses ≤ length after
    → (states after ≡ states witnesses ++ replicate (length after - length witnesses) (fresh_witness sets ways))
    × Each (λ (x : Node WitnessState). x.state ≡ fresh_witness sets ways) left
taken_states sets ways [] ahead after left fresh all more =
    let count : length after - 0 ≡ length after = omega arith in
    let t = taken_fresh sets ways ahead after left fresh all in
    (t.0 ∙ ap (λ (n : ℕ). replicate n (fresh_witness sets ways)) (sym count), t.1)
taken_states sets ways (x ∷ witnesses) ahead [] left fresh all more = absurd (omega arith)
taken_states sets ways (x ∷ witnesses) ahead (y ∷ after) left fresh all more =
    let first : y ≡ x = cc in
    let rest : after ++ left ≡ witnesses ++ ahead = cc in
    let t = taken_states sets ways witnesses ahead after left fresh rest (omega arith) in
    let count : length (y ∷ after) - length (x ∷ witnesses) ≡ length after - length witnesses = omega arith in (
      ap (λ (z : Node WitnessState). z.state ∷ states after) first
          ∙ ap (λ (ss : List WitnessState). x.state ∷ ss) t.0
          ∙ ap (λ (n : ℕ). x.state ∷ states witnesses ++ replicate n (fresh_witness sets ways)) (sym count),
      t.1,
    )

-- those that are named are taken up, and the others stay ahead
pub taken_up : (witnesses ahead after left : List (Node WitnessState)) (sets ways next : ℕ) → IsAhead witnesses ahead sets ways
    → after ++ left ≡ witnesses ++ ahead → length witnesses < next → length after + 1 ≡ next
    → (states after ≡ grown (states witnesses) (fresh_witness sets ways) next) × IsAhead after left sets ways
taken_up witnesses ahead after left sets ways next is all behind long =
    let t = taken_states sets ways witnesses ahead after left is.fresh all (omega (arith, behind, long)) in
    let count : length after - length witnesses ≡ (next - 1) - length witnesses = omega (arith, long) in
    let seen : length witnesses ≡ length (states witnesses) = sym (length-map witnesses (λ (x : Node WitnessState). x.state)) in (
      t.0 ∙ ap (λ (n : ℕ). states witnesses ++ replicate n (fresh_witness sets ways)) (count ∙ ap (λ (n : ℕ). (next - 1) - n) seen),
      record { numbered = subst HasNumbers (sym all) is.numbered; fresh = t.1 },
    )

-- nodes with a fresh one more
pub fresh_more : {S : Type 0} (old : List S) (fresh : S) (nodes pushed : List (Node S)) (x : Node S) (n : ℕ) → length old < n
    → states nodes ≡ grown old fresh n → HasNumbers nodes → length nodes + 1 ≡ n → pushed ≡ nodes ++ x ∷ [] → x.number ≡ n → x.state ≡ fresh
    → (states pushed ≡ grown old fresh (n + 1)) × HasNumbers pushed × (length pushed + 1 ≡ n + 1)
fresh_more {S} old fresh nodes pushed x n behind same numbers long push number state = (
  ap states push ∙ map-append (λ (y : Node S). y.state) nodes (x ∷ []) ∙ ap (λ (s : S). states nodes ++ s ∷ []) state
      ∙ ap (λ (ss : List S). ss ++ fresh ∷ []) same ∙ grown_more old fresh n behind,
  subst HasNumbers (sym push) (numbers_push nodes x numbers (number ∙ sym long)),
  omega (arith, ap length push, length-append nodes (x ∷ []), long),
)
