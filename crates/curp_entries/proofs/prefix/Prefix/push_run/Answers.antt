use Rattle.std.proofs.Common.{◌≡◌, ◌++◌, ◌∷◌, ◌∙◌, [], length, ap, rules, List}
use Rattle.curp_cmd.specs.declared.entry.Entry.{Entry}
use Rattle.curp_entries.specs.Packed.{encodings}
use Rattle.curp_entries.proofs.Packs.{packed_as, seen, seen_packed}
use Rattle.curp_entries.proofs.prefix.Prefix.push_run.Goals as goal

pub invariant_of-self-2 : goal.invariant_of-self-2
invariant_of-self-2 c =
    let there : c.push_reserved.new.self.items ≡ c.self.inside.places.items ++ length c.self.inside.bytes.items ∷ [] = search rules in
    let now : c.append.new.self.items ≡ c.self.inside.bytes.items ++ encodings c.args.entries.now = search rules in
    seen_packed _ _ _ (packed_as c.self.invariant c.args.entries.now c.push_reserved.new.self.items c.append.new.self.items c.requires.length c.in_ok-bytes.ensures.encoded there now)

pub returns-clause-ok : goal.returns-clause-ok
returns-clause-ok c =
    let there : c.push_reserved.new.self.items ≡ c.self.inside.places.items ++ length c.self.inside.bytes.items ∷ [] = search rules in
    let now : c.append.new.self.items ≡ c.self.inside.bytes.items ++ encodings c.args.entries.now = search rules in
    seen _ _ _ (packed_as c.self.invariant c.args.entries.now c.push_reserved.new.self.items c.append.new.self.items c.requires.length c.in_ok-bytes.ensures.encoded there now)
    ∙ ap (λ (es : List Entry). es ++ c.args.entries.now) c.self.view_is
