-- The bytes ahead behind the first of them.
use Rattle.std.proofs.Common.{◌≡◌, ℕ, ◌+◌, List, take, drop, ap, sym, ◌∙◌}
use Rattle.std.proofs.lemmas.List.{drop-drop}
use Rattle.std.proofs.lemmas.Slice.{between_is}
use Rattle.std.specs.List.{between}

pub between_rest : (xs : List ℕ) (i j : ℕ) → between (i + 1) j xs ≡ drop 1 (between i j xs)
between_rest xs i j =
    between_is xs (i + 1) j ∙ sym (drop-drop 1 i (take j xs)) ∙ ap (λ w. drop 1 w) (sym (between_is xs i j))
