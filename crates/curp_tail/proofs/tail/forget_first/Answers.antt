use Rattle.std.proofs.Common.{◌≡◌, ◌∙◌, ◌∷◌, List, ap, subst}
use Rattle.curp_tail.specs.declared.tail.TailEntry.{TailEntry}
use Rattle.curp_tail.specs.Tail.{IndexesRise}
use Rattle.curp_tail.specs.Kept.{last_with, names, without_last}
use Rattle.curp_tail.proofs.Kept.{last_left}
use Rattle.curp_tail.proofs.tail.forget_first.Goals as goal

pub returns-in-Some : goal.returns-in-Some
returns-in-Some c =
    let whole : c.args.entries.now.items ≡ c.in-Some.entry ∷ c.pop_front.new.self.items = rw c.in-Some.is at c.pop_front.ensures.items in
    record {
      items = c.pop_front.ensures.rest;
      lasts = λ hash.
          c.forget.ensures hash
          ∙ ap (without_last (names hash c.in-Some.entry.touched) c.in-Some.entry.index) (c.requires.lasts hash ∙ ap (λ (es : List TailEntry). last_with hash es) whole)
          ∙ last_left hash c.in-Some.entry c.pop_front.new.self.items (subst IndexesRise whole c.requires.rise);
    }
