-- Words with which a command line can begin.
use Rattle.std.proofs.Common.{◌≡◌, ◌⊎◌, inl, inr, ◌<◌, ◌≤◌, ◌+◌, ℕ, Bool, true, false, List, length, take, Some, Bor, ap, sym, ◌∙◌, subst, arith}
use Rattle.std.proofs.Math.Nat.{eq-or-lt_of_le}
use Rattle.std.proofs.lemmas.List.{length-map, take-map}
use Rattle.clap.specs.Walk.{Text, texts}
use Rattle.curp_words.specs.Blame.{BeginsUpTo, IsBlamed, is_beginning}

-- what is found of the words is so of their texts
read_as : (ws : List (Bor Text)) (count : ℕ) (so : Bool) → so ≡ is_beginning (texts (take count ws)) → is_beginning (take count (texts ws)) ≡ so
read_as ws count so is = ap is_beginning (take-map (λ (w : Bor Text). w.now) count ws) ∙ sym is

pub wrong_at : (ws : List (Bor Text)) (i : ℕ) (so : Bool) → i < length ws → BeginsUpTo i (texts ws)
    → so ≡ is_beginning (texts (take (i + 1) ws)) → so ≡ false → IsBlamed (texts ws) (Some i)
wrong_at ws i so below begins is wrong =
    (subst (λ n. i < n) (sym (length-map ws (λ (w : Bor Text). w.now))) below, begins, read_as ws (i + 1) so is ∙ wrong)

begins_at : (ws : List (Bor Text)) (i : ℕ) (so : Bool) → BeginsUpTo i (texts ws) → so ≡ is_beginning (texts (take (i + 1) ws)) → so ≡ true
    → (count : ℕ) → 1 ≤ count → (count ≡ i + 1) ⊎ (count < i + 1) → is_beginning (take count (texts ws)) ≡ true
begins_at ws i so begins is yes_so count low (inl last) = subst (λ n. is_beginning (take n (texts ws)) ≡ true) (sym last) (read_as ws (i + 1) so is ∙ yes_so)
begins_at ws i so begins is yes_so count low (inr before) = begins count low (omega arith)

pub begins_more : (ws : List (Bor Text)) (i : ℕ) (so : Bool) → BeginsUpTo i (texts ws)
    → so ≡ is_beginning (texts (take (i + 1) ws)) → so ≡ true → BeginsUpTo (i + 1) (texts ws)
begins_more ws i so begins is yes_so = λ count low high. begins_at ws i so begins is yes_so count low (eq-or-lt_of_le high)
