use Rattle.std.proofs.Common.{◌≡◌, Ok, rules}
use Rattle.curp_items.specs.Items.{value}
use Rattle.curp_items.proofs.entry.skip_value.Goals as goal

pub returns-in-0-to-128 : goal.returns-in-0-to-128
unfolding value
returns-in-0-to-128 c =
    let text = c.in_ok-string.field-0.now in
    let read : value.read c.args.reader.now ≡ Ok (text, c.string.new.self) = search rules in
    (text, read)
