-- Made by examples/to_specs.py from examples/split-multi.script and split-multi.out: edit these, and make it again.
use Rattle.std.specs.Prelude.{true, [], ◌∷◌, codes}
use Rattle.curp_cmd.specs.declared.command.Command.TheVariants as command
use Rattle.curp_msg.specs.declared.script.Protocol.TheVariants.{One}
use Rattle.curp_msg.specs.declared.script.Step.TheVariants as step
use Rattle.curp_rows.specs.Example.{Example, lines}

-- split multi
abbrev pub split_multi : Example
split_multi = record {
  header = record { clients = 2; f = 1; fast = true; parts = 2; protocol = One; sets = 16; ways = 4 };
  steps =
      step.Invoke 1 (command.Multi (((codes "a"), (codes "1")) ∷ ((codes "fo"), (codes "2")) ∷ []))
      ∷ [];
  text = lines (
      "s1 refused call 3"
      ∷ "order 0"
      ∷ []);
}
