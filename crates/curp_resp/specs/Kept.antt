-- What is kept of the arguments of a request.
use Rattle.std.specs.Prelude.{ℕ, nat_lt, if◌then◌else◌, List, [], ◌∷◌, ◌++◌, length}
use Rattle.curp_io.specs.Streams.{one_more}
use Rattle.curp_resp.specs.declared.frame.Effect.{Effect}
use Rattle.curp_resp.specs.declared.frame.Effect.TheVariants as effect

-- ---- kept

-- so many arguments are kept: those of the longest command
abbrev pub most_kept : ℕ
most_kept = 9

-- so many bytes of each are kept: one more than a value may have
abbrev pub most_bytes : ℕ
most_bytes = 129

-- the first whole arguments, by their first bytes, how many are whole, and the first bytes of the one in work
pub record KeptArguments : Type 0 where
  pub whole : List (List ℕ)
  pub count : ℕ
  pub present : List ℕ

abbrev pub nothing_kept : KeptArguments
nothing_kept = record { whole = []; count = 0; present = [] }

-- an argument begins
abbrev pub kept_begin : KeptArguments → KeptArguments
kept_begin kept = record kept { present = [] }

-- one more byte of the argument in work
abbrev pub kept_byte : KeptArguments → ℕ → KeptArguments
kept_byte kept byte = record kept {
  present = if nat_lt (length kept.present) most_bytes then kept.present ++ (byte ∷ []) else kept.present;
}

-- the argument in work is whole
abbrev pub kept_end : KeptArguments → KeptArguments
kept_end kept = record kept {
  whole = if nat_lt (length kept.whole) most_kept then kept.whole ++ (kept.present ∷ []) else kept.whole;
  count = one_more kept.count;
}

abbrev pub kept_by : Effect → ℕ → KeptArguments → KeptArguments
kept_by effect.Nothing byte kept = kept
kept_by effect.Begin byte kept = kept_begin kept
kept_by effect.Keep byte kept = kept_byte kept byte
kept_by effect.End byte kept = kept_end kept

-- ---- whole

-- the whole arguments, and the bytes of the one in work
pub record Parts : Type 0 where
  pub whole : List (List ℕ)
  pub present : List ℕ

abbrev pub no_parts : Parts
no_parts = record { whole = []; present = [] }

abbrev pub parts_begin : Parts → Parts
parts_begin parts = record parts { present = [] }

abbrev pub parts_byte : Parts → ℕ → Parts
parts_byte parts byte = record parts { present = parts.present ++ (byte ∷ []) }

abbrev pub parts_end : Parts → Parts
parts_end parts = record parts { whole = parts.whole ++ (parts.present ∷ []) }

abbrev pub parts_by : Effect → ℕ → Parts → Parts
parts_by effect.Nothing byte parts = parts
parts_by effect.Begin byte parts = parts_begin parts
parts_by effect.Keep byte parts = parts_byte parts byte
parts_by effect.End byte parts = parts_end parts
