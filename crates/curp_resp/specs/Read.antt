-- What the bytes of an input come to, read one by one.
use Rattle.std.specs.Prelude.{ℕ, List, [], ◌∷◌}
use Rattle.curp_resp.specs.Frames.{frame_step}
use Rattle.curp_resp.specs.declared.frame.Effect.{Effect}
use Rattle.curp_resp.specs.declared.frame.Frame.{Frame}
use Rattle.curp_resp.specs.declared.frame.Step.TheVariants as step

-- The bytes end inside a request, which stands at this frame with these arguments; a request is whole, with these
-- arguments, and the rest stands behind it; or the first byte of the rest can't follow.
pub data Read (A : Type 0) : Type 0 where
  Inside : Frame → A → Read A
  Gives : A → List ℕ → Read A
  Refuses : List ℕ → Read A

-- what bytes come to, where what is kept of the arguments changes by this function
abbrev pub read_by : {A : Type 0} → (Effect → ℕ → A → A) → List ℕ → Frame → A → Read A
read_by keep [] frame kept = Inside frame kept
read_by keep (byte ∷ bytes) frame kept =
    elim (frame_step frame byte) [
      | step.On next effect ↦ read_by keep bytes next (keep effect byte kept)
      | step.Whole effect ↦ Gives (keep effect byte kept) bytes
      | step.Refused ↦ Refuses (byte ∷ bytes)
    ]
