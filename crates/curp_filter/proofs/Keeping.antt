-- What journals keep, one part behind the other.
use Rattle.std.specs.Prelude.{◌≡◌, ℕ, true, false, List, [], ◌∷◌, ◌++◌, refl}
use Rattle.std.proofs.Common.{inl, inr, sym, ◌∙◌, ap, subst, arith, append_assoc}
use Rattle.std.proofs.lemmas.List.{append-nil}
use Rattle.curp_disk.specs.Disk.{LeavesOnly}
use Rattle.curp_durable.proofs.Going.{chained, weaker}
use Rattle.curp_durable.specs.Journal.{HoldsJournal, IsBeforeOrAfter, ReadsJournal}
use Rattle.curp_durable.specs.Standing.{Standing, after, stepped, taken, taken_one}
use Rattle.curp_durable.specs.Value.{DurableParts}
use Rattle.curp_journal.specs.declared.arrived.Arrived.{Arrived}
use Rattle.curp_msg.specs.Moved.{Moved}
use Rattle.curp_msg.specs.Input.{Input}
use Rattle.curp_filter.specs.Coming.{arrivals_of}
use Rattle.curp_filter.specs.declared.came.Came.{Came}
use Rattle.curp_filter.proofs.Coming.{arrivals-append}
use Rattle.curp_filter.specs.Keeping.{DiskKind, HoldsUpTo, Keeps, Outlasts, Stands}

-- ---- journals of the first of some inputs

pub up_to_prefix : (title : List ℕ) (inputs more rest : List Arrived) (content : List ℕ) → HoldsUpTo title inputs more content → HoldsUpTo title inputs (more ++ rest) content
up_to_prefix title inputs more rest content h = record {
  kept = h.kept;
  first = record { rest = h.first.rest ++ rest; is = sym (append_assoc h.kept h.first.rest rest) ∙ ap (λ (l : List Arrived). l ++ rest) h.first.is };
  holds = h.holds;
}

pub up_to_back : (title : List ℕ) (inputs more rest : List Arrived) (content : List ℕ) → HoldsUpTo title (inputs ++ more) rest content → HoldsUpTo title inputs (more ++ rest) content
up_to_back title inputs more rest content h = record {
  kept = more ++ h.kept;
  first = record { rest = h.first.rest; is = append_assoc more h.kept h.first.rest ∙ ap (λ (l : List Arrived). more ++ l) h.first.is };
  holds = subst (λ (l : List Arrived). HoldsJournal content title l) (append_assoc inputs more h.kept) h.holds;
}

up_to_none : (title : List ℕ) (inputs more : List Arrived) (content : List ℕ) → HoldsJournal content title inputs → HoldsUpTo title inputs more content
up_to_none title inputs more content h = record {
  kept = [];
  first = record { rest = more; is = refl };
  holds = subst (λ (l : List Arrived). HoldsJournal content title l) (sym (append-nil inputs)) h;
}

up_to_all : (title : List ℕ) (inputs more : List Arrived) (content : List ℕ) → HoldsJournal content title (inputs ++ more) → HoldsUpTo title inputs more content
up_to_all title inputs more content h = record { kept = more; first = record { rest = []; is = append-nil more }; holds = h }

up_to_either : (title : List ℕ) (inputs more : List Arrived) (content : List ℕ) → IsBeforeOrAfter title inputs more content → HoldsUpTo title inputs more content
up_to_either title inputs more content h = elim h [
  | inl without ↦ up_to_none title inputs more content without
  | inr with_it ↦ up_to_all title inputs more content with_it
]

-- ---- where inputs lead

module _ {N : Type 0} (machine : N → Input → Moved N) where
  pub taken-append : (xs ys : List Arrived) (s : Standing N) → taken machine s (xs ++ ys) ≡ taken machine s xs ++ taken machine (after machine s xs) ys
  taken-append [] ys s = refl
  taken-append (x ∷ xs) ys s =
      ap (λ (l : List Arrived). taken_one machine s x ++ l) (taken-append xs ys (stepped machine s x))
      ∙ sym (append_assoc (taken_one machine s x) (taken machine (stepped machine s x) xs) (taken machine (after machine (stepped machine s x) xs) ys))

  pub takes_again : (xs ys : List Came) (old mid : Standing N) → mid ≡ after machine old (arrivals_of xs) → taken machine old (arrivals_of xs) ++ taken machine mid (arrivals_of ys) ≡ taken machine old (arrivals_of (xs ++ ys))
  takes_again xs ys old mid first =
      ap (λ (s : Standing N). taken machine old (arrivals_of xs) ++ taken machine s (arrivals_of ys)) first
      ∙ sym (taken-append (arrivals_of xs) (arrivals_of ys) old)
      ∙ ap (λ (l : List Arrived). taken machine old l) (sym (arrivals-append xs ys))

-- ---- a node and its disk

module _ {N D : Type 0} (machine : N → Input → Moved N) (disk : DiskKind D) (only_now : (d : D) (c : List ℕ) → disk.left_since d (disk.moment d) c → disk.may_leave d c) where
  pub keeps_again : (more rest : List Arrived) (old mid new : DurableParts N D) → Keeps machine disk more old mid → Keeps machine disk rest mid new → Keeps machine disk (more ++ rest) old new
  keeps_again more rest old mid new first second title opening inputs told s =
      subst (λ (l : List Arrived). Stands machine disk new title opening l) (append_assoc inputs more rest)
      (second title opening (inputs ++ more) told (first title opening inputs told s))

  pub keeps_none : (node : DurableParts N D) → Keeps machine disk [] node node
  keeps_none node title opening inputs told s = subst (λ (l : List Arrived). Stands machine disk node title opening l) (sym (append-nil inputs)) s

  pub outlasts_again : (more rest : List Arrived) (old mid new : DurableParts N D) → Outlasts machine disk more old mid → Keeps machine disk more old mid → (old.spent ≡ false → mid.spent ≡ false)
      → Outlasts machine disk rest mid new → Outlasts machine disk (more ++ rest) old new
  outlasts_again more rest old mid new first keeps goes second title opening inputs told fresh s =
      let prefix = weaker disk.seen disk.may_leave disk.moment disk.left_since only_now old.disk mid.disk (HoldsUpTo title inputs more) (HoldsUpTo title inputs (more ++ rest))
      (λ c. up_to_prefix title inputs more rest c) (first title opening inputs told fresh s) in
      let back = weaker disk.seen disk.may_leave disk.moment disk.left_since only_now mid.disk new.disk (HoldsUpTo title (inputs ++ more) rest) (HoldsUpTo title inputs (more ++ rest))
      (λ c. up_to_back title inputs more rest c) (second title opening (inputs ++ more) told (goes fresh) (keeps title opening inputs told s)) in
      chained disk.seen disk.may_leave disk.moment disk.left_since only_now old.disk mid.disk new.disk (HoldsUpTo title inputs (more ++ rest)) prefix back

  pub outlasts_none : (node : DurableParts N D) (more : List Arrived) → Outlasts machine disk more node node
  outlasts_none node more title opening inputs told fresh s = record {
    later = omega arith;
    each = λ c left.
        let is = s.durable c (only_now node.disk c left) in
        up_to_none title inputs more c (record { batches = s.batches; commit = node.commit; all = s.all; reads = subst (λ (l : List ℕ). ReadsJournal l title s.batches node.commit) (sym is) s.reads });
    before = λ t c le left. inl left;
  }

  -- a batch is in the journal whole, or not at all
  pub outlasts_batch : (more : List Arrived) (old new : DurableParts N D)
      → ((title : List ℕ) (opening : N) (inputs : List Arrived) → disk.tells ≡ true → old.spent ≡ false → Stands machine disk old title opening inputs → LeavesOnly disk.moment disk.left_since old.disk new.disk (IsBeforeOrAfter title inputs more))
      → Outlasts machine disk more old new
  outlasts_batch more old new run title opening inputs told fresh s =
      weaker disk.seen disk.may_leave disk.moment disk.left_since only_now old.disk new.disk (IsBeforeOrAfter title inputs more) (HoldsUpTo title inputs more)
      (λ c. up_to_either title inputs more c) (run title opening inputs told fresh s)
