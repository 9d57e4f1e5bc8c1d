-- The superseded logs of a world after a step: they stay where their masters' logs do, and one is longer where its master has
-- pushed.
use Rattle.std.proofs.Common.{◌≡◌, ◌⊎◌, inl, inr, ◌≤◌, ◌==◌, ◌&&◌, if◌then◌else◌, ℕ, Bool, true, false, List, ◌++◌, length, refl, ap, ap₂, sym, ◌∙◌, Option, Some, None}
use Rattle.std.proofs.lemmas.Bool.{eqb-true, eq-eqb}
use Rattle.std.proofs.lemmas.List.{drop-append-le, take-append-le}
use Rattle.curp_base.specs.Words.{numbered}
use Rattle.curp_cmd.specs.declared.entry.Entry.{Entry}
use Rattle.curp_model.specs.Manager.{Shape}
use Rattle.curp_model.specs.Marks.{Mark}
use Rattle.curp_model.specs.Ranges.{opening_range}
use Rattle.curp_model.specs.World.{World}
use Rattle.curp_law_linear.specs.Hashes.{Part}
use Rattle.curp_law_linear.specs.Line.{Left}
use Rattle.curp_law_linear.specs.Moves.{longer_left}
use Rattle.curp_law_linear.specs.OfWorld.{Reign, cut_length, cuts, entries_at, left_at, left_by, left_of, log_of, reigns}

-- a master of the partition, which an adoption superseded
pub record Superseded (w : World) (part number : ℕ) (r : Reign) (m : Mark) : Type 0 where
  pub before : numbered (reigns part (cuts part w.marks)) number ≡ Some r
  pub cut : numbered (cuts part w.marks) number ≡ Some m

-- its log
pub left_is : (w : World) (part number : ℕ) (r : Reign) (m : Mark) → Superseded w part number r m → left_of w part number ≡ left_at (log_of w part r.master) (cut_length m.place)
left_is w part number r m s = ap₂ (left_by w part) s.before s.cut

-- a log that is split, and has more at its end
pub split_longer : (p : Part) (more : List Entry) (long : ℕ) → long ≤ length p.log
    → left_at (record p { log = p.log ++ more }) long ≡ record (left_at p long) { back = (left_at p long).back ++ more }
split_longer p more long low = ap₂ (λ (prefix back : List Entry). record { prefix = record p { log = prefix }; back = back }) (take-append-le long p.log more low) (drop-append-le long p.log more low)

module _ (w v : World) (shape : v.manager.shape ≡ w.manager.shape) where
  -- a master's log, by its entries
  pub log_by : (part : ℕ) (r : Reign) (es : List Entry) → entries_at (numbered v.masters r.master.number) ≡ es
      → log_of v part r.master ≡ record { lo = (opening_range w.manager.shape.parts part).lo; hi = (opening_range w.manager.shape.parts part).hi; log = es }
  log_by part r es is = ap₂ (λ (s : Shape) (log : List Entry). record { lo = (opening_range s.parts part).lo; hi = (opening_range s.parts part).hi; log = log }) shape is

  -- it is by the same adoption
  left_by_same : (part number : ℕ) → cuts part v.marks ≡ cuts part w.marks → left_of v part number ≡ left_by v part (numbered (reigns part (cuts part w.marks)) number) (numbered (cuts part w.marks) number)
  left_by_same part number same = ap (λ (cs : List Mark). left_by v part (numbered (reigns part cs) number) (numbered cs number)) same

  -- a superseded log stays where its master's does
  pub left_stays : (part number : ℕ) → cuts part v.marks ≡ cuts part w.marks → ((r : Reign) (m : Mark) → Superseded w part number r m → entries_at (numbered v.masters r.master.number) ≡ entries_at (numbered w.masters r.master.number))
      → left_of v part number ≡ left_of w part number
  left_stays part number same stay = left_by_same part number same ∙ go (numbered (reigns part (cuts part w.marks)) number) (numbered (cuts part w.marks) number) refl refl
    where
      go : (o : Option Reign) (p : Option Mark) → numbered (reigns part (cuts part w.marks)) number ≡ o → numbered (cuts part w.marks) number ≡ p → left_by v part o p ≡ left_by w part o p
      go (Some r) (Some m) before cut = ap (λ (p : Part). left_at p (cut_length m.place)) (log_by part r _ (stay r m (record { before = before; cut = cut })))
      go (Some r) None before cut = refl
      go None p before cut = refl

  -- where one master's log has more, its superseded log has it too
  pub left_longer : ((p : ℕ) → cuts p v.marks ≡ cuts p w.marks) → (part number : ℕ) (r : Reign) (m : Mark) → Superseded w part number r m → cut_length m.place ≤ length (entries_at (numbered w.masters r.master.number)) → (more : List Entry)
      → entries_at (numbered v.masters r.master.number) ≡ entries_at (numbered w.masters r.master.number) ++ more
      → ((p n : ℕ) (s : Reign) (o : Mark) → Superseded w p n s o → ((p ≡ part) × (n ≡ number)) ⊎ (entries_at (numbered v.masters s.master.number) ≡ entries_at (numbered w.masters s.master.number)))
      → (p n : ℕ) → left_of v p n ≡ longer_left (left_of w) part number more p n
  left_longer same part number r m its low more grown others p n = go (p == part) (n == number) refl refl
    where
      one : left_of v part number ≡ record (left_of w part number) { back = (left_of w part number).back ++ more }
      one =
          left_by_same part number (same part)
          ∙ ap₂ (left_by v part) its.before its.cut
          ∙ ap (λ (q : Part). left_at q (cut_length m.place)) (log_by part r _ grown)
          ∙ split_longer (log_of w part r.master) more (cut_length m.place) low
          ∙ ap (λ (l : Left). record l { back = l.back ++ more }) (sym (left_is w part number r m its))

      apart : (p == part) && (n == number) ≡ false → left_of v p n ≡ left_of w p n
      apart other = left_stays p n (same p) (λ s o h. elim (others p n s o h) [
        | inl both ↦ absurd (let bad : false ≡ true = sym other ∙ ap₂ (λ (a b : Bool). a && b) (eq-eqb p part both.0) (eq-eqb n number both.1) in cc)
        | inr stays ↦ stays
      ])

      go : (a b : Bool) → (p == part) ≡ a → (n == number) ≡ b → left_of v p n ≡ (if a && b then record (left_of w part number) { back = (left_of w part number).back ++ more } else left_of w p n)
      go true true is its_number = ap₂ (left_of v) (eqb-true p part is) (eqb-true n number its_number) ∙ one
      go true false is its_number = apart (ap₂ (λ (a b : Bool). a && b) is its_number)
      go false b is its_number = apart (ap (λ (a : Bool). a && (n == number)) is)
