use Rattle.std.proofs.Common.{◌≡◌, ◌-◌, ◌++◌, ◌∙◌, ℕ, List, drop, length, min, take, ap, sym, arith}
use Rattle.std.proofs.lemmas.List.{length-append}
use Rattle.curp_cmd.specs.declared.entry.Entry.{Entry}
use Rattle.curp_entries.specs.EntryList.{EntryList}
use Rattle.curp_entries.proofs.Parts.{between_prefix, between_two}
use Rattle.curp_entries.proofs.entries.PackedEntries.between.Goals as goal

pub returns : goal.returns
returns c =
    let start = c.args.start in
    let end = c.args.end in
    let prefix = c.self.inside.prefix in
    let recent = c.self.inside.recent.items in
    let tail = c.self.inside.tail.items in
    let older = c.self.invariant.last.others in
    let both : prefix ≡ older ++ recent = c.self.invariant.last.behind in
    let first : c.len-packed.result - c.len.result ≡ length older = omega (arith, c.len-packed.ensures.value, c.len.ensures, ap length both ∙ length-append older recent) in
    let before : c.in_ok-entries.entries.items ≡ take (end - start) (drop start older) =
    c.in_ok-entries.ensures
    ∙ ap (λ (n : ℕ). take (n - start) (drop start prefix)) (c.min.ensures ∙ ap (λ (n : ℕ). min end n) first)
    ∙ ap (λ (l : List Entry). take (min end (length older) - start) (drop start l)) both
    ∙ between_prefix start end older recent
    in
    let last : c.part-recent.result.now ≡ take ((end - length older) - (start - length older)) (drop (start - length older) recent) =
    c.part-recent.ensures
    ∙ ap (λ (l : List Entry). take ((end - (c.len-packed.result - c.len.result)) - (start - (c.len-packed.result - c.len.result))) (drop (start - (c.len-packed.result - c.len.result)) l)) c.deref.ensures.value
    ∙ ap (λ (n : ℕ). take ((end - n) - (start - n)) (drop (start - n) recent)) first
    in
    let behind : c.part-tail.result.now ≡ take ((end - length prefix) - (start - length prefix)) (drop (start - length prefix) tail) =
    c.part-tail.ensures
    ∙ ap (λ (l : List Entry). take ((end - c.len-packed.result) - (start - c.len-packed.result)) (drop (start - c.len-packed.result) l)) c.deref-2.ensures.value
    ∙ ap (λ (n : ℕ). take ((end - n) - (start - n)) (drop (start - n) tail)) c.len-packed.ensures.value
    in
    c.in_ok-add_copies-2.ensures.ok
    ∙ (λ i. (c.in_ok-add_copies.ensures.ok ∙ (λ j. before j ++ last j)) i ++ behind i)
    ∙ ap (λ (l : List Entry). l ++ take ((end - length prefix) - (start - length prefix)) (drop (start - length prefix) tail))
    (sym (between_two start end older recent) ∙ ap (λ (l : List Entry). take (end - start) (drop start l)) (sym both))
    ∙ sym (between_two start end prefix tail)
    ∙ ap (λ (l : EntryList). take (end - start) (drop start l.entries)) c.self.view_is
