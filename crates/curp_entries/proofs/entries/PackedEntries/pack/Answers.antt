use Rattle.std.proofs.Common.{◌≡◌, ◌<◌, ◌^◌, ◌++◌, ◌∙◌, ℕ, List, OnOk, drop, length, take, ap, sym, subst, arith}
use Rattle.std.proofs.Math.Seq.{drop-append_seam}
use Rattle.curp_cmd.specs.declared.entry.Entry.{Entry}
use Rattle.curp_entries.specs.EntryList.{AreLast}
use Rattle.curp_entries.specs.Packed.{IsShortTail}
use Rattle.curp_entries.proofs.Parts.{last_behind, moved}
use Rattle.curp_entries.proofs.entries.PackedEntries.pack.Goals as goal

pub invariant_of-self : goal.invariant_of-self
invariant_of-self c =
    let before = c.self.inside.prefix in
    let tail = c.self.inside.tail.items in
    let count = c.push_runs-count.result.0 in
    let prefix : c.push_runs-count.new.prefix ≡ before ++ take count tail =
    c.push_runs-count.ensures.prefix ∙ ap (λ (l : List Entry). before ++ take count l) c.deref.ensures.value in
    let same : c.push_runs-count.new.prefix ++ c.leave.new.tail.items ≡ before ++ tail =
    moved count before tail c.push_runs-count.new.prefix c.leave.new.tail.items prefix c.leave.ensures.items in
    let last = subst (λ (l : List Entry). AreLast c.keep_recent.new.recent.items (c.self.inside.recent.items ++ take count l)) c.deref-then-count-gt0.ensures.value c.keep_recent.ensures.last in
    record {
      few = subst (λ (l : List Entry). length l < 2 ^ 63) (sym same) c.self.invariant.few;
      last = subst (AreLast c.keep_recent.new.recent.items) (sym prefix) (last_behind _ _ before _ last c.self.invariant.last);
      few_recent = c.keep_recent.ensures.few;
    }

pub returns-then-count-gt0-clause-short : goal.returns-then-count-gt0-clause-short
returns-then-count-gt0-clause-short c =
    let count = c.push_runs-count.result.0 in
    let left : c.leave.new.tail.items ≡ drop count c.deref.result.now = c.leave.ensures.items ∙ ap (λ (l : List Entry). drop count l) (sym c.deref.ensures.value) in
    subst (λ (tail : List Entry). OnOk c.push_runs-count.result.1 (IsShortTail tail)) (sym (drop-append_seam c.push_runs-count.new.prefix c.leave.new.tail.items ∙ left)) c.push_runs-count.ensures.short

pub returns-else-count-gt0-clause-short : goal.returns-else-count-gt0-clause-short
returns-else-count-gt0-clause-short c =
    let none : c.push_runs-count.result.0 ≡ 0 = omega (arith, c.if-count-gt0.false) in
    let left : c.self.inside.tail.items ≡ drop c.push_runs-count.result.0 c.deref.result.now =
    sym (ap (λ (n : ℕ). drop n c.deref.result.now) none ∙ c.deref.ensures.value) in
    subst (λ (tail : List Entry). OnOk c.push_runs-count.result.1 (IsShortTail tail)) (sym (drop-append_seam c.push_runs-count.new.prefix c.self.inside.tail.items ∙ left)) c.push_runs-count.ensures.short
