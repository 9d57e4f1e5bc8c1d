-- Made by examples/to_specs.py from examples/header-alone.script and header-alone.out: edit these, and make it again.
use Rattle.std.specs.Prelude.{true, [], ◌∷◌}
use Rattle.curp_msg.specs.declared.script.Protocol.TheVariants.{One}
use Rattle.curp_rows.specs.Example.{Example, lines}

-- header alone
abbrev pub header_alone : Example
header_alone = record {
  header = record { clients = 2; f = 1; fast = true; parts = 1; protocol = One; sets = 16; ways = 4 };
  steps = [];
  text = lines (
      "order 0"
      ∷ []);
}
