-- Partitions by their numbers, and entries that are adopted.
use Rattle.std.specs.Prelude.{◌≤◌, ℕ, List}
use Rattle.curp_base.specs.Words.{Each}
use Rattle.curp_msg.specs.declared.config.PartConfig.{PartConfig}
use Rattle.curp_model.specs.Manager as model

-- a partition's number is one of those from 1 on, so many
abbrev pub IsNumbered : ℕ → PartConfig → Type 0
IsNumbered parts c = (1 ≤ c.part) × (c.part ≤ parts)

-- all are
abbrev pub PartsNumbered : ℕ → List PartConfig → Type 0
PartsNumbered parts entries = Each (IsNumbered parts) entries

-- the entry of a partition whose new lists are adopted
abbrev pub prepared_part : model.NewLists → PartConfig
prepared_part p = record p.part { version = p.version; backups = p.backups; witnesses = p.witnesses }
