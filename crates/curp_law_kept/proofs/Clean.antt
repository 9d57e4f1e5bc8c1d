-- What a clean master says of the entries that aren't synced, and an op that is pushed then.
use Rattle.std.proofs.Common.{◌≡◌, ◌≤◌, ◌+◌, ◌-◌, ◌||◌, inl, inr, ℕ, zero, suc, Bool, true, false, List, [], ◌∷◌, ◌++◌, length, take, drop, refl, ap, sym, ◌∙◌, subst, arith}
use Rattle.std.specs.List.{list_any}
use Rattle.std.proofs.Math.Seq.{take-append_seam, take-length}
use Rattle.std.proofs.lemmas.Bool.{not-true, and_from}
use Rattle.curp_base.specs.Words.{At, Each}
use Rattle.curp_base.proofs.Lists.{at_push, at_push_cases, at_within}
use Rattle.curp_cmd.specs.Hash.{hashes}
use Rattle.curp_cmd.specs.declared.command.Command.{Command}
use Rattle.curp_cmd.specs.declared.command.Request.{Request}
use Rattle.curp_cmd.specs.declared.entry.Entry.{Entry}
use Rattle.curp_cmd.specs.declared.entry.Entry.TheVariants.{Op}
use Rattle.curp_facts.specs.Entries.{UpdateOk}
use Rattle.curp_facts.specs.Kept.{HasCompletedBelow, IsCollectable}
use Rattle.curp_facts.specs.Nodes.{FreeOp}
use Rattle.curp_model.specs.declared.Check.{Check}
use Rattle.curp_model.specs.declared.Check.TheVariants.{Expired, Stale, Known, New}
use Rattle.curp_model.specs.Log.{answer_after, entry_touches, is_new}
use Rattle.curp_model.specs.Master.{MasterState, answer_at, is_clean, pushed, state_of, synced}
use Rattle.curp_model.specs.Ranges.{owns_all}
use Rattle.curp_model.specs.Table.{check}
use Rattle.curp_model.specs.World.{World}
use Rattle.curp_law_kept.proofs.Logs.{op_old}
use Rattle.curp_law_kept.proofs.Parts.{Parts, parts_push, parts_queue}

-- ---- lists

none_at : {A : Type 0} (p : A → Bool) (xs : List A) (k : ℕ) (x : A) → list_any p xs ≡ false → At xs k x → p x ≡ false
none_at p [] k x none at = absurd cc
none_at p (y ∷ xs) zero x none at = let same : y ≡ x = cc in subst (λ z. p z ≡ false) same (left (p y) none)
  where
    left : (b : Bool) → (b || list_any p xs) ≡ false → b ≡ false
    left false e = refl
    left true e = absurd cc
none_at p (y ∷ xs) (suc k) x none at = none_at p xs k x (right (p y) none) at
  where
    right : (b : Bool) → (b || list_any p xs) ≡ false → list_any p xs ≡ false
    right false e = e
    right true e = absurd cc

at_dropped : {A : Type 0} (n k i : ℕ) (xs : List A) (x : A) → i ≡ n + k → At xs i x → At (drop n xs) k x
at_dropped zero k i xs x is at = subst (λ (j : ℕ). At xs j x) (let same : i ≡ k = omega (arith, is) in same) at
at_dropped (suc n) k i [] x is at = absurd cc
at_dropped (suc n) k zero (y ∷ xs) x is at = absurd (omega (arith, is))
at_dropped (suc n) k (suc i) (y ∷ xs) x is at = at_dropped n k i xs x (omega (arith, is)) at

each_none : {A : Type 0} (p : A → Bool) (xs : List A) → list_any p xs ≡ false → Each (λ x. p x ≡ false) xs
each_none p [] none = tt
each_none {A} p (x ∷ xs) none = go (p x) refl none (each_none p xs)
  where
    go : (b : Bool) → p x ≡ b → (b || list_any p xs) ≡ false → (list_any p xs ≡ false → Each (λ (y : A). p y ≡ false) xs) → (p x ≡ false) × Each (λ (y : A). p y ≡ false) xs
    go false is e more = (is, more e)
    go true is e more = absurd cc

-- no entry that isn't synced touches a command of which the master is clean
pub clean_apart : (m : MasterState) (command : Command) → is_clean m command ≡ true → (j : ℕ) (e : Entry) → synced m ≤ j → At m.log j e → Each (λ h. entry_touches e h ≡ false) (hashes command)
clean_apart m command clean j e low at =
    let there : At (drop (synced m) m.log) (j - synced m) e = at_dropped (synced m) (j - synced m) j m.log e (omega (arith, low)) at in
    each_none (entry_touches e) (hashes command) (none_at (λ (x : Entry). list_any (entry_touches x) (hashes command)) (drop (synced m) m.log) (j - synced m) e (not-true _ clean) there)

-- what isn't new may be collected
pub collectable : (c : Check) → (c ≡ New → ⊥) → IsCollectable c
collectable New old = absurd (old refl)
collectable (Known a index) old = tt
collectable (Stale first) old = tt
collectable Expired old = tt

-- ---- an op that is pushed

module _ (w : World) (part : ℕ) (m : MasterState) (p : Parts w part m) (r : Request) (acknowledged : ℕ) where
  -- the request is new, its hashes are owned, and what it acknowledges is completed
  pub parts_pushed : UpdateOk w r → acknowledged ≤ r.id.seq → HasCompletedBelow w r.id.client acknowledged → check (state_of m).table r.id ≡ New → owns_all (state_of m).owned (hashes r.command) ≡ true
      → Parts w part (pushed m r acknowledged)
  parts_pushed update low completed new owned =
      let e : Entry = Op r acknowledged in
      let k : MasterState = record m { log = m.log ++ e ∷ [] } in
      let fits : is_new (check (state_of m).table r.id) ≡ true = ap is_new new in
      let grown : Parts w part k = parts_push w part m p e (and_from _ _ fits owned) (update, low, completed) tt in
      let last : At k.log (length m.log) e = at_push m.log e (length m.log) refl in
      parts_queue w part k grown r.id (length m.log + 1) (omega (arith, at_within k.log (length m.log) e last))
      (collectable _ (op_old m.lo m.hi k.log (length m.log) (length m.log + 1) r acknowledged last (omega arith)))

  -- it is free where the master was clean of it
  pub pushed_free : is_clean m r.command ≡ true → FreeOp (pushed m r acknowledged) (length m.log)
  pushed_free clean = record {
    op = record { request = r; acknowledged = acknowledged; stands = at_push m.log (Op r acknowledged) (length m.log) refl };
    apart = λ is j e low less at. elim (at_push_cases m.log (Op r acknowledged) j e at) [
      | inl old ↦ clean_apart m r.command clean j e low old
      | inr new ↦ absurd (omega (arith, less, new.0))
    ];
  }

  -- its answer is that of the fold before it
  pub pushed_answer : answer_after m.lo m.hi (take (length m.log) (m.log ++ Op r acknowledged ∷ [])) r.command ≡ answer_at m (length m.log) r
  pushed_answer = ap (λ (before : List Entry). answer_after m.lo m.hi before r.command) (take-append_seam m.log (Op r acknowledged ∷ []) ∙ sym (take-length m.log))
