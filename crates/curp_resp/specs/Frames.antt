-- Where the reading of a request stands, and what its next byte does.
use Rattle.std.specs.Prelude.{ℕ, zero, suc, ◌+◌, ◌-◌, ◌*◌, ◌==◌, ◌&&◌, nat_le, nat_lt, Bool, true, false}
use Rattle.std.specs.Prelude.{if◌then◌else◌}
use Rattle.curp_resp.specs.Language.{star, dollar, carriage_return, line_feed}
use Rattle.curp_resp.specs.declared.frame.Effect.{Effect}
use Rattle.curp_resp.specs.declared.frame.Effect.TheVariants as effect
use Rattle.curp_resp.specs.declared.frame.Frame.{Frame}
use Rattle.curp_resp.specs.declared.frame.Stage.{Stage}
use Rattle.curp_resp.specs.declared.frame.Stage.TheVariants as stage
use Rattle.curp_resp.specs.declared.frame.Step.{Step}
use Rattle.curp_resp.specs.declared.frame.Step.TheVariants as step
use Rattle.curp_resp.specs.declared.number.Digits.{Digits}
use Rattle.curp_resp.specs.declared.number.NumberStep.{NumberStep}
use Rattle.curp_resp.specs.declared.number.NumberStep.TheVariants as number

-- ---- numbers

-- no digit was read
abbrev pub no_digits : Digits
no_digits = record { value = 0; count = 0 }

-- one more digit was read, of this value
abbrev pub with_digit : Digits → ℕ → Digits
with_digit digits digit = record { value = 10 * digits.value + digit; count = digits.count + 1 }

-- a number up to this one has these digits
abbrev pub may_end : ℕ → Digits → Bool
may_end most digits = nat_le 1 digits.count && nat_le digits.value most

-- the byte is a digit
abbrev pub is_digit : ℕ → Bool
is_digit byte = nat_le 48 byte && nat_le byte 57

-- what a digit of this value does to a number up to this one
abbrev pub digit_step : ℕ → Digits → ℕ → NumberStep
digit_step most digits digit =
    if nat_lt digits.count 5 && nat_le (with_digit digits digit).value most
    then number.More (with_digit digits digit)
    else number.Refused

-- what the next byte does to it
abbrev pub number_step : ℕ → Digits → ℕ → NumberStep
number_step most digits byte =
    if is_digit byte
    then digit_step most digits (byte - 48)
    else (if byte == carriage_return && may_end most digits then number.Ends digits.value else number.Refused)

-- ---- frames

-- nothing was read
abbrev pub fresh_frame : Frame
fresh_frame = record { stage = stage.Star; behind = 0 }

abbrev pub is_fresh_stage : Stage → Bool
is_fresh_stage stage.Star = true
is_fresh_stage (stage.Count digits) = false
is_fresh_stage stage.CountFeed = false
is_fresh_stage stage.Dollar = false
is_fresh_stage (stage.Size digits) = false
is_fresh_stage (stage.SizeFeed size) = false
is_fresh_stage (stage.Bytes left) = false
is_fresh_stage stage.BytesFeed = false
is_fresh_stage stage.NullDigit = false
is_fresh_stage stage.NullEnd = false
is_fresh_stage stage.EmptyFeed = false

-- nothing was read at this frame
abbrev pub is_fresh : Frame → Bool
is_fresh frame = is_fresh_stage frame.stage

-- the next byte has to be this one
abbrev pub after_byte : ℕ → Stage → Effect → ℕ → ℕ → Step
after_byte wanted next does behind byte =
    if byte == wanted then step.On (record { stage = next; behind = behind }) does else step.Refused

-- the first byte: that of an array, or of an empty line, which a line feed alone is too
abbrev pub first_step : ℕ → ℕ → Step
first_step behind byte =
    if byte == line_feed then step.Whole effect.Nothing
    else (
    if byte == carriage_return then step.On (record { stage = stage.EmptyFeed; behind = behind }) effect.Nothing
    else after_byte star (stage.Count no_digits) effect.Nothing behind byte
    )

abbrev pub count_step : NumberStep → Step
count_step (number.More digits) = step.On (record { stage = stage.Count digits; behind = 0 }) effect.Nothing
count_step (number.Ends zero) = step.On (record { stage = stage.EmptyFeed; behind = 0 }) effect.Nothing
count_step (number.Ends (suc behind)) =
    step.On (record { stage = stage.CountFeed; behind = behind }) effect.Nothing
count_step number.Refused = step.Refused

-- the minus sign of an array that is none
abbrev pub is_minus : Digits → ℕ → Bool
is_minus digits byte = byte == 45 && digits.count == 0

-- a byte of the number of arguments
abbrev pub length_step : Digits → ℕ → ℕ → Step
length_step digits behind byte =
    if is_minus digits byte
    then step.On (record { stage = stage.NullDigit; behind = behind }) effect.Nothing
    else count_step (number_step 64 digits byte)

abbrev pub size_step : ℕ → NumberStep → Step
size_step behind (number.More digits) = step.On (record { stage = stage.Size digits; behind = behind }) effect.Nothing
size_step behind (number.Ends size) = step.On (record { stage = stage.SizeFeed size; behind = behind }) effect.Nothing
size_step behind number.Refused = step.Refused

-- a byte of an argument of which so many bytes are to come, or the end behind them
abbrev pub bytes_step : ℕ → ℕ → ℕ → Step
bytes_step zero behind byte = after_byte carriage_return stage.BytesFeed effect.Nothing behind byte
bytes_step (suc left) behind byte = step.On (record { stage = stage.Bytes left; behind = behind }) effect.Keep

-- an argument is whole, and so many are to come behind it
abbrev pub argument_step : ℕ → Step
argument_step zero = step.Whole effect.End
argument_step (suc behind) = step.On (record { stage = stage.Dollar; behind = behind }) effect.End

-- what the next byte does, where so many arguments are to come behind the one in work
abbrev pub stage_step : Stage → ℕ → ℕ → Step
stage_step stage.Star behind byte = first_step behind byte
stage_step (stage.Count digits) behind byte = length_step digits behind byte
stage_step stage.CountFeed behind byte = after_byte line_feed stage.Dollar effect.Nothing behind byte
stage_step stage.Dollar behind byte = after_byte dollar (stage.Size no_digits) effect.Nothing behind byte
stage_step (stage.Size digits) behind byte = size_step behind (number_step 65536 digits byte)
stage_step (stage.SizeFeed size) behind byte = after_byte line_feed (stage.Bytes size) effect.Begin behind byte
stage_step (stage.Bytes left) behind byte = bytes_step left behind byte
stage_step stage.BytesFeed behind byte = if byte == line_feed then argument_step behind else step.Refused
stage_step stage.NullDigit behind byte = after_byte 49 stage.NullEnd effect.Nothing behind byte
stage_step stage.NullEnd behind byte = after_byte carriage_return stage.EmptyFeed effect.Nothing behind byte
stage_step stage.EmptyFeed behind byte = if byte == line_feed then step.Whole effect.Nothing else step.Refused

abbrev pub frame_step : Frame → ℕ → Step
frame_step frame byte = stage_step frame.stage frame.behind byte

-- ---- how much may come

-- no argument has more bytes, spelled
abbrev pub longest_bulk : ℕ
longest_bulk = 65546

-- no request goes on with more bytes
abbrev pub stage_rest : Stage → ℕ → ℕ
stage_rest stage.Star behind = 8 + 64 * longest_bulk
stage_rest (stage.Count digits) behind = (5 - digits.count) + 2 + 64 * longest_bulk
stage_rest stage.CountFeed behind = 1 + (behind + 1) * longest_bulk
stage_rest stage.Dollar behind = (behind + 1) * longest_bulk
stage_rest (stage.Size digits) behind = (5 - digits.count) + 65540 + behind * longest_bulk
stage_rest (stage.SizeFeed size) behind = size + 3 + behind * longest_bulk
stage_rest (stage.Bytes left) behind = left + 2 + behind * longest_bulk
stage_rest stage.BytesFeed behind = 1 + behind * longest_bulk
stage_rest stage.NullDigit behind = 3
stage_rest stage.NullEnd behind = 2
stage_rest stage.EmptyFeed behind = 1

abbrev pub rest_most : Frame → ℕ
rest_most frame = stage_rest frame.stage frame.behind
