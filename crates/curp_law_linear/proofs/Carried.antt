-- A package on its way has what one thread has of its range.
use Rattle.std.proofs.Common.{◌≡◌, ℕ, ◌≤◌, Bool, true, false, cond, if◌then◌else◌, List, [], ◌∷◌, ◌++◌, Option, Some, None, refl, ap, sym, ◌∙◌, subst, append-nil}
use Rattle.std.specs.Cmp.Lexicographic.{slice_cmp}
use Rattle.std.specs.FinMap.{nat_cmp-IsAntisymmetric, slice_cmp-IsAntisymmetric}
use Rattle.std.specs.FinMap as store
use Rattle.std.specs.FinMap.Entries.{find, find-where_key}
use Rattle.std.specs.List.{list_any}
use Rattle.std.specs.Ordering.{nat_cmp}
use Rattle.std.proofs.lemmas.Bool.{eq-eqb, or_parts, or_right}
use Rattle.curp_range.specs.Spans.{is_in}
use Rattle.curp_cmd.specs.Hash.{hash_of, touches}
use Rattle.curp_cmd.specs.declared.entry.Entry.{Entry}
use Rattle.curp_cmd.specs.declared.entry.Entry.TheVariants.{Expire, Give, Op, Take}
use Rattle.curp_cmd.specs.declared.migration.Package.{Package}
use Rattle.curp_model.specs.Log.{LogState, entry_touches, package_of}
use Rattle.curp_model.specs.Manager.{Migration}
use Rattle.curp_law_kept.specs.Hashes.{In, NoGive, behind, behind_from, came, on, updates, value}
use Rattle.curp_order.specs.Order.{Asked}
use Rattle.curp_law_linear.specs.Hashes.{HashOk, Part, has_take, holds, is_take, onward, owns, state_of}
use Rattle.curp_law_linear.specs.Line.{LineState, OrderOk}
use Rattle.curp_law_linear.proofs.Given.{LogValue}
use Rattle.curp_law_linear.proofs.Lists.{in_any, in_head, in_right}
use Rattle.curp_law_linear.proofs.Takes.{onward_ungiven}
use Rattle.curp_law_linear.specs.Moves.{IsOnItsWay}
use Rattle.curp_law_kept.proofs.Gives.{behind_from_append, came_from_append, came_kept}

-- what a package has of a key of its range
pub packed_value : (s : LogState) (lo hi : ℕ) (ordered : lo ≤ hi) (key : List ℕ) → is_in lo hi (hash_of key) ≡ true → find (slice_cmp nat_cmp) key (package_of s lo hi ordered).pairs ≡ store.get s.store key
packed_value s lo hi ordered key inside =
    find-where_key (slice_cmp nat_cmp) (λ (k : List ℕ). is_in lo hi (hash_of k)) key (λ x e. ap (λ (k : List ℕ). is_in lo hi (hash_of k)) (sym (slice_cmp-IsAntisymmetric nat_cmp-IsAntisymmetric key x e))) (store.entries s.store)
    ∙ ap (λ (b : Bool). cond b (find (slice_cmp nat_cmp) key (store.entries s.store)) None) inside ∙ sym (store.get-entries s.store key)

-- no entry touches the hash
abbrev pub Quiet : ℕ → List Entry → Type 0
Quiet h es = list_any (λ (e : Entry). entry_touches e h) es ≡ false

-- what doesn't touch a hash leaves what stands behind
pub quiet_behind : (h : ℕ) (kept : List Asked) (es : List Entry) → Quiet h es → behind_from h kept es ≡ kept
quiet_behind h kept [] q = refl
quiet_behind h kept (Op r a ∷ es) q =
    let c = or_parts (touches r.command h) _ q in
    ap (λ (b : Bool). behind_from h (if b then kept ++ (r.id, r.command) ∷ [] else kept) es) c.0 ∙ quiet_behind h kept es c.1
quiet_behind h kept (Take n k ∷ es) q = quiet_behind h kept es (or_parts (is_in k.lo k.hi h) _ q).1
quiet_behind h kept (Give n k ∷ es) q =
    let c = or_parts (is_in k.lo k.hi h) _ q in
    ap (λ (b : Bool). behind_from h (if b then [] else kept) es) c.0 ∙ quiet_behind h kept es c.1
quiet_behind h kept (Expire client ∷ es) q = quiet_behind h kept es q

-- what doesn't touch a hash gives nothing on it
pub quiet_gives : (h : ℕ) (es : List Entry) → Quiet h es → NoGive h es
quiet_gives h [] q = refl
quiet_gives h (Op r a ∷ es) q = quiet_gives h es (or_parts (touches r.command h) _ q).1
quiet_gives h (Take n k ∷ es) q = quiet_gives h es (or_parts (is_in k.lo k.hi h) _ q).1
quiet_gives h (Give n k ∷ es) q = let c = or_parts (is_in k.lo k.hi h) _ q in rw c.0 (quiet_gives h es c.1)
quiet_gives h (Expire client ∷ es) q = quiet_gives h es q

module _ (s : LineState) (ok : OrderOk s) (m : Migration) (in_work : s.moving ≡ Some m) (carried : Package) (way : IsOnItsWay s.parts m carried) (h : ℕ) (inside : is_in m.range.lo m.range.hi h ≡ true) where
  -- the source holds the hash: its take is out
  pub source_holds : holds s.moving way.source h ≡ true
  source_holds =
      let stands : In (Take m.number carried) way.source.log = subst (In (Take m.number carried)) (sym way.taken) (in_right way.before (Take m.number carried ∷ way.after) _ (in_head _ way.after)) in
      let taken : list_any (is_take m.number) way.source.log ≡ true = in_any (is_take m.number) way.source.log (Take m.number carried) stands (eq-eqb m.number m.number refl) in
      let out : has_take (Some m) h way.source.log ≡ true = rw (inside, taken) refl in
      or_right (owns way.source h) _ (subst (λ (moving : Option Migration). has_take moving h way.source.log ≡ true) (sym in_work) out)

  -- the equation at the source
  abbrev pub at_source : HashOk s.moving s.parts (updates s.marks) way.source h
  at_source = ok.hashes m.source way.source way.its_source h source_holds

  source_behind : behind h way.source.log ≡ behind h way.before
  source_behind = ap (behind h) way.taken ∙ behind_from_append h [] way.before (Take m.number carried ∷ way.after) ∙ quiet_behind h (behind h way.before) way.after (way.quiet h inside)

  source_came : (key : List ℕ) → came h key way.source.log ≡ came h key way.before
  source_came key =
      ap (came h key) way.taken ∙ came_from_append h key None way.before (Take m.number carried ∷ way.after) ∙ came_kept h key (came h key way.before) way.after (quiet_gives h way.after (way.quiet h inside))

  -- the order at the hash is what the source has before its take
  pub carried_line : on h (updates s.marks) ≡ at_source.past ++ behind h way.before
  carried_line =
      let nothing_on : onward s.moving s.parts way.source.log h ≡ [] = ap (λ (moving : Option Migration). onward moving s.parts way.source.log h) in_work ∙ onward_ungiven m s.parts way.source.log h way.ungiven in
      at_source.alike ∙ (λ i. at_source.past ++ (source_behind i ++ nothing_on i)) ∙ ap (λ w. at_source.past ++ w) (append-nil _)

  -- and a key has the value that the package has
  pub carried_value : LogValue (record way.source { log = way.before }) → (key : List ℕ) → hash_of key ≡ h → value key (on h (updates s.marks)) ≡ find (slice_cmp nat_cmp) key carried.pairs
  carried_value its_value key k =
      let cut : Part = record way.source { log = way.before } in
      let a : value key (on h (updates s.marks)) ≡ value key (at_source.past ++ behind h way.before) = ap (value key) carried_line in
      let b : store.get (state_of cut).store key ≡ value key (at_source.past ++ behind h way.before) =
      its_value h (way.covered h inside) key k at_source.past (λ other same. at_source.values other same ∙ source_came other) in
      let c : find (slice_cmp nat_cmp) key carried.pairs ≡ store.get (state_of cut).store key =
      ap (λ (x : Package). find (slice_cmp nat_cmp) key x.pairs) way.its_package
      ∙ packed_value (state_of cut) carried.lo carried.hi carried.ordered key (ap (is_in carried.lo carried.hi) k ∙ (λ i. is_in (way.lo i) (way.hi i) h) ∙ inside) in
      a ∙ sym b ∙ sym c
