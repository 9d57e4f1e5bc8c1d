-- Two ends make a range where they are in order, and only there.
use Rattle.std.proofs.Common.{◌≡◌, ℕ, ◌≤◌, Some, ap, sym}
use Rattle.std.proofs.Math.Bridge.{le_prop}
use native.Mathlib.Decide.{dec_le}
use Rattle.curp_items.specs.Bounds.{bounds_if, bounds_of}
use Rattle.curp_items.specs.declared.bounds.Bounds.{Bounds}

range_if : (lo hi : ℕ) (o : lo ≤ hi) (d : Dec (lo ≤ hi)) → bounds_if lo hi d ≡ Some (record { lo = lo; hi = hi; ordered = o })
range_if lo hi o (yes p) = ap (λ (q : lo ≤ hi). let b : Bounds = record { lo = lo; hi = hi; ordered = q } in Some b) (le_prop p o)
range_if lo hi o (no n) = absurd (n o)

pub range_is : (lo hi : ℕ) (o : lo ≤ hi) → bounds_of lo hi ≡ Some (record { lo = lo; hi = hi; ordered = o })
range_is lo hi o = range_if lo hi o (dec_le lo hi)

ends_if : (lo hi : ℕ) (d : Dec (lo ≤ hi)) (b : Bounds) → bounds_if lo hi d ≡ Some b → (b.lo ≡ lo) × (b.hi ≡ hi)
ends_if lo hi (yes p) b e =
    let same : record { lo = lo; hi = hi; ordered = p } ≡ b = cc in
    (ap (λ (c : Bounds). c.lo) (sym same), ap (λ (c : Bounds). c.hi) (sym same))
ends_if lo hi (no n) b e = absurd cc

pub ends_are : (lo hi : ℕ) (b : Bounds) → bounds_of lo hi ≡ Some b → (b.lo ≡ lo) × (b.hi ≡ hi)
ends_are lo hi b e = ends_if lo hi (dec_le lo hi) b e
