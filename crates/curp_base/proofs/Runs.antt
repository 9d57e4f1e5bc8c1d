-- Lists without a run of their items, and those that some tests let through.
use Rattle.std.proofs.Common.{◌≡◌, ℕ, zero, suc, ◌+◌, ◌-◌, ◌≤◌, Bool, true, false, T, List, [], ◌∷◌, ◌++◌, length, take, drop, ap, ◌∙◌, arith}
use Rattle.std.proofs.Math.Seq.{paste}
use Rattle.std.proofs.lemmas.List.{take_rest, length-drop}
use Rattle.std.proofs.lemmas.List.Edits.{take-paste}
use Rattle.std.specs.FinMap.Entries.{below_all}
use Rattle.std.specs.List.{items_where_true}
use Rattle.std.specs.declared.cmp.Ordering.{Ordering}
use Rattle.curp_base.specs.Words.{KeysAscend}
use Rattle.curp_base.proofs.Rising.{left, right, both}

-- the items behind a run are moved to its start, and the rest is cut off
pub run_dropped : {A : Type 0} (xs : List A) (start end n : ℕ) → n ≡ length xs → start ≤ end → end ≤ n → take (n - (end - start)) (paste xs start (drop end xs) (n - end)) ≡ take start xs ++ drop end xs
run_dropped xs start end n size ordered within =
    let left : length (drop end xs) ≡ length xs - end = length-drop end xs in
    let count : n - (end - start) ≡ start + (n - end) = omega arith in
    let behind : n - end ≡ length xs - end = omega arith in
    ap (λ k. take k (paste xs start (drop end xs) (n - end))) count
    ∙ take-paste xs start (drop end xs) (n - end) (omega arith) (omega arith)
    ∙ ap (λ k. take start xs ++ take k (drop end xs)) behind
    ∙ ap (λ ys. take start xs ++ ys) (take_rest xs end)

-- ---- pairs that ascend

module _ {K V : Type 0} (R : K → K → Ordering) where
  below_dropped : (x : K) (es : List (K × V)) (end : ℕ) → T (below_all R x es) → T (below_all R x (drop end es))
  below_dropped x es zero b = b
  below_dropped x [] (suc end) b = tt
  below_dropped x (e ∷ es) (suc end) b = below_dropped x es end (right _ _ b)

  below_run : (x : K) (es : List (K × V)) (start end : ℕ) → start ≤ end → T (below_all R x es) → T (below_all R x (take start es ++ drop end es))
  below_run x es zero end l b = below_dropped x es end b
  below_run x [] (suc start) zero l b = tt
  below_run x [] (suc start) (suc end) l b = tt
  below_run x (e ∷ es) (suc start) zero l b = absurd (omega arith)
  below_run x (e ∷ es) (suc start) (suc end) l b = both _ _ (left _ _ b) (below_run x es start end (omega arith) (right _ _ b))

  ascend_dropped : (es : List (K × V)) (end : ℕ) → KeysAscend R es → KeysAscend R (drop end es)
  ascend_dropped es zero s = s
  ascend_dropped [] (suc end) s = tt
  ascend_dropped (e ∷ es) (suc end) s = ascend_dropped es end (right _ _ s)

  -- without a run they ascend
  pub ascend_run : (es : List (K × V)) (start end : ℕ) → start ≤ end → KeysAscend R es → KeysAscend R (take start es ++ drop end es)
  ascend_run es zero end l s = ascend_dropped es end s
  ascend_run [] (suc start) zero l s = tt
  ascend_run [] (suc start) (suc end) l s = tt
  ascend_run (e ∷ es) (suc start) zero l s = absurd (omega arith)
  ascend_run (e ∷ es) (suc start) (suc end) l s = both _ _ (below_run e.0 es start end (omega arith) (left _ _ s)) (ascend_run es start end (omega arith) (right _ _ s))

  below_chosen : (x : K) (tests : List Bool) (es : List (K × V)) → T (below_all R x es) → T (below_all R x (items_where_true tests es))
  below_chosen x [] es b = tt
  below_chosen x (t ∷ tests) [] b = tt
  below_chosen x (true ∷ tests) (e ∷ es) b = both _ _ (left _ _ b) (below_chosen x tests es (right _ _ b))
  below_chosen x (false ∷ tests) (e ∷ es) b = below_chosen x tests es (right _ _ b)

  -- those that tests let through ascend
  pub ascend_chosen : (tests : List Bool) (es : List (K × V)) → KeysAscend R es → KeysAscend R (items_where_true tests es)
  ascend_chosen [] es s = tt
  ascend_chosen (t ∷ tests) [] s = tt
  ascend_chosen (true ∷ tests) (e ∷ es) s = both _ _ (below_chosen e.0 tests es (left _ _ s)) (ascend_chosen tests es (right _ _ s))
  ascend_chosen (false ∷ tests) (e ∷ es) s = ascend_chosen tests es (right _ _ s)
