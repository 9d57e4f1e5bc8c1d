-- A range that is taken out again.
use Rattle.std.proofs.Common.{◌≡◌, ◌≤◌, ℕ, ◌||◌, ◌&&◌, not, List, Result, Ok, Err, refl}
use Rattle.std.specs.Prelude.{◌↔◌, ⊤, OnOk}
use Rattle.curp_range.specs.Spans.{Lacks, Span, SpansAscend, is_in, is_owned, without}
use Rattle.curp_range.specs.declared.ranges.TakeError.{TakeError}
use Rattle.curp_range.specs.declared.ranges.TakeError.TheVariants.{NotOwned}
use Rattle.curp_changes.proofs.SpansMoved.{left_without, put_in_whole}

-- what was put in can be taken out, and this is left
pub left_once : (spans united left : List Span) (lo hi : ℕ) (r : Result ⊤ TakeError) → SpansAscend spans → SpansAscend left → lo ≤ hi
    → ((h : ℕ) → is_owned united h ≡ (is_owned spans h || is_in lo hi h)) → ((r ≡ Err NotOwned) ↔ Lacks united lo hi)
    → OnOk r ((h : ℕ) → is_owned left h ≡ (is_owned united h && not (is_in lo hi h))) → left ≡ without spans lo hi
left_once spans united left lo hi (Ok done) ascend rise order is lacks taken = left_without spans united left lo hi ascend rise order is taken
left_once spans united left lo hi (Err NotOwned) ascend rise order is lacks taken = absurd (put_in_whole spans united lo hi is (lacks.0 refl))
