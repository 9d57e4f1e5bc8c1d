-- A range that one span has can be taken out.
use Rattle.std.proofs.Common.{◌≡◌, ℕ, true, false, List, Result, Ok, Err, IsOk, refl, sym, ◌∙◌}
use Rattle.curp_range.proofs.Tests.{covers_if_covered}
use Rattle.curp_range.specs.Spans.{Span, Covers, Lacks, is_covered}
use Rattle.curp_range.specs.declared.ranges.TakeError.{TakeError}
use Rattle.curp_range.specs.declared.ranges.TakeError.TheVariants.{NotOwned}

not_lacking : (spans : List Span) (lo hi : ℕ) → Covers spans lo hi → Lacks spans lo hi → ⊥
not_lacking spans lo hi covers lacks =
    let owned = covers lacks.0 lacks.1 in
    let no : true ≡ false = sym owned ∙ lacks.2 in
    absurd cc

pub taken_out : {A : Type 0} (r : Result A TakeError) (spans : List Span) (lo hi : ℕ) → is_covered spans lo hi ≡ true → (r ≡ Err NotOwned → Lacks spans lo hi) → IsOk r
taken_out (Ok x) spans lo hi covered lacks = refl
taken_out (Err NotOwned) spans lo hi covered lacks = absurd (not_lacking spans lo hi (covers_if_covered spans lo hi covered) (lacks refl))
