-- The ranges of a header's values.
use Rattle.std.specs.Prelude.{ℕ, ◌&&◌, nat_le, if◌then◌else◌, Bool, not, Option, Some, None}
use Rattle.curp_msg.specs.declared.script.Header.{Header}
use Rattle.curp_script.specs.declared.error.FieldName.{FieldName}
use Rattle.curp_script.specs.declared.error.FieldName.TheVariants as field

-- a number from low to high
abbrev pub is_within : ℕ → ℕ → ℕ → Bool
is_within low high n = nat_le low n && nat_le n high

-- the first name, in byte order, whose value is out of its range
abbrev pub bad_field : Header → Option FieldName
bad_field h =
    if not (is_within 1 64 h.clients) then Some field.Clients
    else if not (is_within 1 5 h.f) then Some field.F
    else if not (is_within 1 16 h.parts) then Some field.Parts
    else if not (is_within 1 1024 h.sets) then Some field.Sets
    else if not (is_within 1 16 h.ways) then Some field.Ways
    else None
