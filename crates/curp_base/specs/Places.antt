-- Where a key stands among pairs in ascending order of their keys.
use Rattle.std.specs.Prelude.{◌≡◌, ℕ, ◌<◌, ◌≤◌, List, length, slice_index_or, is_some, if◌then◌else◌}
use Rattle.std.specs.FinMap.Entries.{find, put}
use Rattle.std.specs.declared.cmp.Ordering.{Ordering}
use Rattle.std.specs.declared.cmp.Ordering.TheVariants.{Less, Equal, Greater}

-- the pair at this place has the key, and those before it have lower ones
pub record IsKeyAt {K X : Type 0} (R : K → K → Ordering) (pairs : List (K × X)) (key : K) (at : ℕ) : Type 0 where
  pub within : at < length pairs
  pub lower : (k : ℕ) (d : K × X) → k < at → R (slice_index_or pairs k d).0 key ≡ Less
  pub equal : (d : K × X) → R (slice_index_or pairs at d).0 key ≡ Equal

-- no pair has the key, and it would go to this place
pub record IsKeyGap {K X : Type 0} (R : K → K → Ordering) (pairs : List (K × X)) (key : K) (at : ℕ) : Type 0 where
  pub within : at ≤ length pairs
  pub lower : (k : ℕ) (d : K × X) → k < at → R (slice_index_or pairs k d).0 key ≡ Less
  pub higher : (k : ℕ) (d : K × X) → at ≤ k → k < length pairs → R (slice_index_or pairs k d).0 key ≡ Greater

-- the key has the value, if it had none
abbrev pub put_once : {K X : Type 0} → (K → K → Ordering) → K → X → List (K × X) → List (K × X)
put_once R key value pairs = if is_some (find R key pairs) then pairs else put R key value pairs
