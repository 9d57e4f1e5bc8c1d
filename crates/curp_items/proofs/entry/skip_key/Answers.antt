use Rattle.std.proofs.Common.{◌≡◌, Ok, rules}
use Rattle.curp_items.specs.Items.{key}
use Rattle.curp_items.proofs.entry.skip_key.Goals as goal

pub returns-in-1-to-32 : goal.returns-in-1-to-32
unfolding key
returns-in-1-to-32 c =
    let text = c.in_ok-string.field-0.now in
    let read : key.read c.args.reader.now ≡ Ok (text, c.string.new.self) = search rules in
    (text, read)
