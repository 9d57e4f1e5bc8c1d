-- The number that a text is, by its sign.
use Rattle.std.proofs.Common.{◌≡◌, ◌==◌, List, ℕ, ℤ, Float, drop, slice_index, Bool, true, false, if◌then◌else◌, None, Some, option_and_then, refl}
use Rattle.std.specs.Float.{binary64, float_is_finite}
use Rattle.fast_float.specs.Text.{Parts, scan, with_sign, digits_of, nearest}
use Rattle.serde_json.specs.Data.{negative, float}
use Rattle.serde_json.specs.Find.{as_u64}
use Rattle.serde_json.specs.Read.{number_of, number_from}

pub with_minus : (s : List ℕ) → (slice_index s 0 == 45) ≡ true → number_of s ≡ number_from true (scan (drop 1 s))
unfolding number_of
with_minus s signed = rw signed refl

pub without_minus : (s : List ℕ) → (slice_index s 0 == 45) ≡ false → number_of s ≡ number_from false (scan s)
unfolding number_of
without_minus s plain = rw plain refl

pub never_whole : (p : Parts) → None ≡ option_and_then as_u64 (number_from true p)
never_whole p = either _ (with_sign true (digits_of p)) (float_is_finite (nearest binary64 true p)) (nearest binary64 true p)
  where
    either : (whole : Bool) (z : ℤ) (finite : Bool) (x : Float)
        → None ≡ option_and_then as_u64 (if whole then Some (negative z) else (if finite then Some (float x) else None))
    either true z finite x = refl
    either false z true x = refl
    either false z false x = refl
