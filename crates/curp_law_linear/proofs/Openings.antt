-- The facts hold of the machine's state of each world at its opening.
use Rattle.std.proofs.Common.{◌≡◌, ◌≤◌, ℕ, zero, suc, ◌-◌, ◌^◌, true, Some, [], map, ap, sym, ◌∙◌, subst, arith}
use Rattle.std.proofs.Math.Bool.{or-false}
use Rattle.curp_base.proofs.Lists.{at_map, at_mapped}
use Rattle.curp_base.specs.Words.{At, numbered, numbers_from}
use Rattle.curp_range.specs.Spans.{is_in}
use Rattle.curp_msg.specs.declared.script.Header.{Header}
use Rattle.curp_model.specs.Manager.{opening_part}
use Rattle.curp_model.specs.Ranges.{opening_range}
use Rattle.curp_model.specs.World.{opening, opening_master, shape_of}
use Rattle.curp_law_linear.proofs.Keeps.{opening_keeps}
use Rattle.curp_law_linear.specs.Hashes.{Part, owns}
use Rattle.curp_law_linear.specs.Line.{LineOk}
use Rattle.curp_law_linear.specs.OfWorld.{entries_at, line_of, part_of}
use Rattle.curp_base.proofs.Numbered.{numbers_back}
use Rattle.curp_model.proofs.OpeningRanges.{one_has}

-- a partition of the opening: its range, its number, and nothing in its log
record Begins (h : Header) (number : ℕ) (p : Part) : Type 0 where
  lo : p.lo ≡ (opening_range h.parts number).lo
  hi : p.hi ≡ (opening_range h.parts number).hi
  empty : p.log ≡ []
  one : 1 ≤ number
  last : number ≤ h.parts

begins : (h : Header) (number : ℕ) (p : Part) → numbered (line_of (opening h)).parts number ≡ Some p → Begins h number p
unfolding opening
begins h zero p at = absurd cc
begins h (suc k) p at =
    let c = at_mapped (part_of (opening h)) (map (opening_part (shape_of h)) (numbers_from 1 h.parts)) k p at in
    let i = at_mapped (opening_part (shape_of h)) (numbers_from 1 h.parts) k c.0 c.1 in
    let b = numbers_back 1 h.parts k i.0 i.1 in
    let is : i.0 ≡ suc k = omega (arith, b.0) in
    let number : At (numbers_from 1 h.parts) k (suc k) = subst (At (numbers_from 1 h.parts) k) is i.1 in
    let master = at_map (opening_master (shape_of h)) (numbers_from 1 h.parts) k (suc k) number in
    let whole : part_of (opening h) (opening_part (shape_of h) (suc k)) ≡ p = ap (λ (j : ℕ). part_of (opening h) (opening_part (shape_of h) j)) (sym is) ∙ ap (part_of (opening h)) i.2 ∙ c.2 in
    record {
      lo = sym (ap (λ (x : Part). x.lo) whole);
      hi = sym (ap (λ (x : Part). x.hi) whole);
      empty = sym (ap (λ (x : Part). x.log) whole) ∙ ap entries_at master;
      one = omega arith;
      last = omega (arith, b.1);
    }

-- the facts hold at the opening
pub opening_line : (h : Header) → h.parts ≤ 2 ^ 64 → LineOk (line_of (opening h))
unfolding opening
opening_line h fits = opening_keeps (line_of (opening h)).parts (λ n p at. (begins h n p at).empty) (λ n k p q hash hn hk own other.
    let a = begins h n p hn in
    let b = begins h k q hk in
    one_has h.parts (omega (arith, a.one, a.last)) fits n k hash a.one b.one (inside n p hash a own) (inside k q hash b other)) (line_of (opening h)).left
  where
    inside : (n : ℕ) (p : Part) (hash : ℕ) → Begins h n p → owns p hash ≡ true → is_in (opening_range h.parts n).lo (opening_range h.parts n).hi hash ≡ true
    inside n p hash b own =
        let e : owns (record p { log = [] }) hash ≡ true = subst (λ (l : _). owns (record p { log = l }) hash ≡ true) b.empty own in
        (λ i. is_in (sym b.lo i) (sym b.hi i) hash) ∙ sym (or-false (is_in p.lo p.hi hash)) ∙ e
