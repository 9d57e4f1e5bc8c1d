-- Two lists of one length, gone through side by side.
use Rattle.std.proofs.Common.{◌≡◌, ℕ, ◌<◌, List, length, zip, get_or, refl, ap, ◌∙◌, arith}
use Rattle.std.proofs.lemmas.Option.{slice_get_read}
use Rattle.std.proofs.lemmas.Slice.Zip.{get_or-zip, length-zip}
use Rattle.curp_base.specs.Words.{At}

-- at a place of both stand the two items of the pair there
pub pair_at : {A B : Type 0} (xs : List A) (ys : List B) (k : ℕ) (x : A) (y : B) → k < length (zip xs ys) → (x, y) ≡ get_or (zip xs ys) k (x, y)
    → (k < length xs) × At xs k x × At ys k y
pair_at {A} {B} xs ys k x y within is =
    let first : k < length xs = omega (arith, within, length-zip xs ys) in
    let second : k < length ys = omega (arith, within, length-zip xs ys) in
    let both = is ∙ get_or-zip xs ys k (x, y) first second in (
      first,
      slice_get_read xs (length xs) k x refl first (ap (λ (p : A × B). p.0) both),
      slice_get_read ys (length ys) k y refl second (ap (λ (p : A × B). p.1) both),
    )
