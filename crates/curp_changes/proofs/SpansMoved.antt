-- Spans with a range, and without it.
use Rattle.std.proofs.Common.{◌≡◌, ◌≤◌, ℕ, Bool, true, false, ◌||◌, ◌&&◌, not, List, refl, ap, ◌∙◌}
use Rattle.std.proofs.Math.Bool.{or-true}
use Rattle.curp_range.specs.Spans.{Span, SpansAscend, Lacks, is_in, is_owned, without}
use Rattle.curp_range.proofs.Places.{not_lacking}
use Rattle.curp_range.proofs.Sets.{is_without}

and_out : (a b : Bool) → ((a || b) && not b) ≡ (a && not b)
and_out true true = refl
and_out true false = refl
and_out false true = refl
and_out false false = refl

-- what was put in lacks nothing of the range
pub put_in_whole : (spans united : List Span) (lo hi : ℕ) → ((h : ℕ) → is_owned united h ≡ (is_owned spans h || is_in lo hi h)) → Lacks united lo hi → ⊥
put_in_whole spans united lo hi is lacks =
    not_lacking united lo hi (λ h inside. is h ∙ ap (λ (b : Bool). is_owned spans h || b) inside ∙ or-true (is_owned spans h)) lacks

-- what is left once the range is taken out again
pub left_without : (spans united left : List Span) (lo hi : ℕ) → SpansAscend spans → SpansAscend left → lo ≤ hi
    → ((h : ℕ) → is_owned united h ≡ (is_owned spans h || is_in lo hi h)) → ((h : ℕ) → is_owned left h ≡ (is_owned united h && not (is_in lo hi h))) → left ≡ without spans lo hi
left_without spans united left lo hi ascend rise order is taken =
    is_without spans left lo hi ascend rise order
    (λ h. taken h ∙ ap (λ (b : Bool). b && not (is_in lo hi h)) (is h) ∙ and_out (is_owned spans h) (is_in lo hi h))

-- what is left without a range that was put in
pub ruleset leaving = (put_in_whole, left_without)
