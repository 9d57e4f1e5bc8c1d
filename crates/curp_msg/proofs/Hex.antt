-- What `{:016x}` writes.
use Rattle.std.proofs.Common.{◌≡◌, ◌-◌, ◌^◌, ℕ, List, [], ◌++◌, length, replicate, false}
use Rattle.std.proofs.lemmas.List.{append-nil}
use native.Mathlib.Numerals.{unary_clauses}
use Rattle.std.specs.Fmt.{digits, format_spec, padded_integral, char_count}
use Rattle.curp_msg.specs.Text.{hash_text}

padded : (ds : List ℕ) → padded_integral (format_spec 32 0 4 16 (2 ^ 64 - 1)) false [] ds ≡ replicate (16 - length ds) 48 ++ ds
unfolding padded_integral char_count
padded ds = simp (unary_clauses, append-nil)

pub hash_hole : (h : ℕ) → padded_integral (format_spec 32 0 4 16 (2 ^ 64 - 1)) false [] (digits 16 false h) ≡ hash_text h
hash_hole h = padded (digits 16 false h)
