-- The ranges after some migrations: no hash is in those of two partitions.
use Rattle.std.proofs.Common.{◌≡◌, ◌<◌, ◌≤◌, inl, inr, ℕ, ◌+◌, ◌==◌, ◌^◌, not, true, false, List, [], ◌∷◌, sym, ◌∙◌, subst, arith}
use Rattle.std.proofs.lemmas.Bool.{and_parts, cases_Bool, eq-eqb, eqb-true, or_cases}
use Rattle.curp_base.specs.Words.{Each}
use Rattle.curp_msg.specs.declared.body.Body.{Body}
use Rattle.curp_msg.specs.declared.config.Config.{Config}
use Rattle.curp_msg.specs.declared.config.PartConfig.{PartConfig}
use Rattle.curp_range.proofs.Ascending.{in_range, range_bounds}
use Rattle.curp_range.proofs.Sets.{spans_with_range, spans_without}
use Rattle.curp_range.proofs.Tests.{covers_if_covered}
use Rattle.curp_range.specs.Spans.{AscendWithin, Covers, Span, SpansAscend, is_covered, is_in, is_owned}
use Rattle.curp_model.specs.Ranges.{opening_range}
use Rattle.curp_model.specs.World.{World}
use Rattle.curp_facts.specs.Facts.{AtFirst, ConfigOk, EntryWas, HasRanges, IsAmong, Migrated, RangesAfter, WasMigrated, WasOrdered, ranges_at_first, ranges_moved}
use Rattle.curp_facts.specs.Names.{Names}
use Rattle.curp_model.proofs.OpeningRanges.{last_fits, one_has}
use Rattle.curp_law_kept.proofs.Gives.{among_each}

-- what ascending spans own is below their end
owned_below : (from end : ℕ) (xs : List Span) (h : ℕ) → AscendWithin from end xs → is_owned xs h ≡ true → h < end
owned_below from end [] h ascend owned = absurd cc
owned_below from end (s ∷ xs) h ascend owned = elim (or_cases (is_in s.0 s.1 h) (is_owned xs h) owned) [
  | inl here ↦ let bounds = range_bounds s.0 s.1 h here in omega (arith, bounds.1, ascend.2)
  | inr later ↦ owned_below (s.1 + 2) end xs h ascend.3 later
]

module _ {w : World} (names : Names w) (few : w.manager.shape.parts ≤ 2 ^ 64) where
  abbrev IsPart : ℕ → Type 0
  IsPart p = (1 ≤ p) × (p ≤ w.manager.shape.parts)

  -- the spans of each partition ascend, and no hash is in those of two
  record Fine (ranges : ℕ → List Span) : Type 0 where
    ascend : (p : ℕ) → IsPart p → SpansAscend (ranges p)
    apart : (p q h : ℕ) → IsPart p → IsPart q → is_owned (ranges p) h ≡ true → is_owned (ranges q) h ≡ true → p ≡ q

  -- ---- at the opening

  first : Fine (ranges_at_first w.manager.shape)
  first = record {
    ascend = λ p is. (omega arith, (opening_range w.manager.shape.parts p).ordered, last_fits w.manager.shape.parts names.shape.parts few p is.0 is.1, tt);
    apart = λ p q h a b own_p own_q. one_has w.manager.shape.parts names.shape.parts few p q h a.0 b.0 (inside p h own_p) (inside q h own_q);
  }
    where
      inside : (p h : ℕ) → is_owned (ranges_at_first w.manager.shape p) h ≡ true → is_in (opening_range w.manager.shape.parts p).lo (opening_range w.manager.shape.parts p).hi h ≡ true
      inside p h own = elim (or_cases (is_in (opening_range w.manager.shape.parts p).lo (opening_range w.manager.shape.parts p).hi h) false own) [
        | inl here ↦ here
        | inr none ↦ absurd cc
      ]

  -- ---- after a migration

  ordered_part : (part : ℕ) (b : Body) → WasOrdered w part b → IsPart part
  ordered_part part b o = subst IsPart o.is.its_part (names.given o.is.lists o.is.given).part

  module _ (number : ℕ) (m : WasMigrated w number) (ranges : ℕ → List Span) (fine : Fine ranges) (covered : is_covered (ranges m.source) m.order.lo m.order.hi ≡ true) where
    source : IsPart m.source
    source = ordered_part m.source _ m.ordered

    inside : Covers (ranges m.source) m.order.lo m.order.hi
    inside = covers_if_covered (ranges m.source) m.order.lo m.order.hi covered

    fits : m.order.hi < 2 ^ 64
    fits = owned_below 0 (2 ^ 64) (ranges m.source) m.order.hi (fine.ascend m.source source) (inside m.order.hi (in_range m.order.lo m.order.hi m.order.hi m.order.ordered (omega arith)))

    abbrev now : ℕ → List Span
    now = ranges_moved m.source m.target m.order ranges

    now_ascend : (p : ℕ) → IsPart p → SpansAscend (now p)
    now_ascend p is = elim (cases_Bool (p == m.source)) [
      | inl out ↦ rw out (spans_without (ranges p) m.order.lo m.order.hi (fine.ascend p is) m.order.ordered).ascend
      | inr other ↦ elim (cases_Bool (p == m.target)) [
        | inl goes ↦ rw (other, goes) (spans_with_range (ranges p) m.order.lo m.order.hi (fine.ascend p is) m.order.ordered fits).ascend
        | inr beside ↦ rw (other, beside) (fine.ascend p is)
      ]
    ]

    -- a hash of the range is the target's
    in_target : (p h : ℕ) → IsPart p → is_in m.order.lo m.order.hi h ≡ true → is_owned (now p) h ≡ true → p ≡ m.target
    in_target p h is here own = elim (cases_Bool (p == m.source)) [
      | inl out ↦
          let left = (spans_without (ranges p) m.order.lo m.order.hi (fine.ascend p is) m.order.ordered).owned h in
          let parts = and_parts (is_owned (ranges p) h) (not (is_in m.order.lo m.order.hi h)) (sym left ∙ rw out at own) in
          let outside : not true ≡ true = subst (λ b. not b ≡ true) here parts.1 in
          absurd cc
      | inr other ↦ elim (cases_Bool (p == m.target)) [
        | inl goes ↦ eqb-true p m.target goes
        | inr beside ↦
            let had : is_owned (ranges p) h ≡ true = rw (other, beside) at own in
            let one : p ≡ m.source = fine.apart p m.source h is source had (inside h here) in
            let same : (p == m.source) ≡ true = eq-eqb p m.source one in
            absurd (cc (same, other))
      ]
    ]

    -- another hash is whose it was
    as_before : (p h : ℕ) → IsPart p → is_in m.order.lo m.order.hi h ≡ false → is_owned (now p) h ≡ true → is_owned (ranges p) h ≡ true
    as_before p h is away own = elim (cases_Bool (p == m.source)) [
      | inl out ↦
          let left = (spans_without (ranges p) m.order.lo m.order.hi (fine.ascend p is) m.order.ordered).owned h in
          (and_parts (is_owned (ranges p) h) (not (is_in m.order.lo m.order.hi h)) (sym left ∙ rw out at own)).0
      | inr other ↦ elim (cases_Bool (p == m.target)) [
        | inl goes ↦
            let more = (spans_with_range (ranges p) m.order.lo m.order.hi (fine.ascend p is) m.order.ordered fits).owned h in
            elim (or_cases (is_owned (ranges p) h) (is_in m.order.lo m.order.hi h) (sym more ∙ rw (other, goes) at own)) [
              | inl had ↦ had
              | inr here ↦ absurd (cc (here, away))
            ]
        | inr beside ↦ rw (other, beside) at own
      ]
    ]

    moved : Fine now
    moved = record {
      ascend = now_ascend;
      apart = λ p q h a b own_p own_q. elim (cases_Bool (is_in m.order.lo m.order.hi h)) [
        | inl here ↦ in_target p h a here own_p ∙ sym (in_target q h b here own_q)
        | inr away ↦ fine.apart p q h a b (as_before p h a away own_p) (as_before q h b away own_q)
      ];
    }

  after_fine : (n : ℕ) (ranges : ℕ → List Span) → RangesAfter w n ranges → Fine ranges
  after_fine _ _ AtFirst = first
  after_fine _ _ (Migrated n ranges before m covered) = moved (n + 1) m ranges (after_fine n ranges before) covered

  -- ---- configurations

  pub config_ok : (config : Config) → Each (EntryWas w) config.parts → HasRanges w config → ConfigOk w config
  config_ok config entries has = record {
    entries = entries;
    ranges = has;
    apart = λ c d h a b own_c own_d.
        (after_fine has.count has.ranges has.after).apart c.part d.part h (its_part c a) (its_part d b) (its_ranges c h a own_c) (its_ranges d h b own_d);
  }
    where
      its_part : (c : PartConfig) → IsAmong c config.parts → IsPart c.part
      its_part c a = (names.given _ (among_each (EntryWas w) config.parts entries c a).given).part

      its_ranges : (c : PartConfig) (h : ℕ) → IsAmong c config.parts → is_owned c.ranges h ≡ true → is_owned (has.ranges c.part) h ≡ true
      its_ranges c h a own = subst (λ (spans : List Span). is_owned spans h ≡ true) (among_each (λ (d : PartConfig). d.ranges ≡ has.ranges d.part) config.parts has.has c a) own
