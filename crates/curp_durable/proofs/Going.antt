-- How a run of calls of a disk goes on.
use Rattle.std.specs.Prelude.{◌≡◌, ℕ, ◌+◌, List, [], ◌∷◌, ◌++◌, length, refl}
use Rattle.std.proofs.Common.{inl, inr, ⊎_elim, ap, arith, length-append, subst}
use Rattle.curp_disk.specs.Disk.{CrashesFollow, Elapses, LeavesOnly, Narrows, Only, Torn}
use Rattle.curp_durable.specs.Appending.{Quiet, TornFrom}

untorn : (at n : ℕ) (c : List ℕ) → Torn at n c c
untorn at n c = record { before = refl; after = refl; no_shorter = omega arith; no_longer = omega arith }

module _ {D : Type 0} (seen : D → List ℕ) (may_leave : D → List ℕ → Type 0) (moment : D → ℕ) (left_since : D → ℕ → List ℕ → Type 0) (only_now : (d : D) (c : List ℕ) → left_since d (moment d) c → may_leave d c) where
  -- two runs, one after the other
  pub chained : (old mid new : D) (P : List ℕ → Type 0) → LeavesOnly moment left_since old mid P → LeavesOnly moment left_since mid new P → LeavesOnly moment left_since old new P
  chained old mid new P first second = record {
    later = omega (arith, first.later, second.later);
    each = λ c left. ⊎_elim (first.each c) (λ p. p) (second.before (moment old) c first.later left);
    before = λ t c le left. ⊎_elim (first.before t c le) (λ p. inr p) (second.before t c (omega (arith, le, first.later)) left);
  }

  pub weaker : (old new : D) (P Q : List ℕ → Type 0) → ((c : List ℕ) → P c → Q c) → LeavesOnly moment left_since old new P → LeavesOnly moment left_since old new Q
  weaker old new P Q implies run = record {
    later = run.later;
    each = λ c left. implies c (run.each c left);
    before = λ t c le left. ⊎_elim (λ past. inl past) (λ p. inr (implies c p)) (run.before t c le left);
  }

  -- a call that only read or synced
  pub unwritten : (old new : D) → seen new ≡ seen old → Narrows (may_leave old) (may_leave new) → Elapses (moment old) (moment new) (left_since old) (left_since new) (may_leave new) → Quiet seen may_leave moment left_since old new
  unwritten old new same narrows time = record {
    same = same;
    narrows = narrows;
    any_moment = record {
      later = time.later;
      each = λ c left. ⊎_elim (λ past. only_now old c past) (λ now. narrows c now) (time.nothing_else (moment old) c (omega arith) left);
      before = λ t c le left. ⊎_elim (λ past. inl past) (λ now. inr (narrows c now)) (time.nothing_else t c le left);
    };
  }

  -- a write that may be torn
  pub torn_write : (at n : ℕ) (old new : D) → CrashesFollow (Torn at n) (may_leave old) (may_leave new) → Elapses (moment old) (moment new) (left_since old) (left_since new) (may_leave new) → LeavesOnly moment left_since old new (TornFrom at n (may_leave old))
  torn_write at n old new follows time = record {
    later = time.later;
    each = λ c left. ⊎_elim (λ past. (c, only_now old c past, untorn at n c)) (λ now. follows c now) (time.nothing_else (moment old) c (omega arith) left);
    before = λ t c le left. ⊎_elim (λ past. inl past) (λ now. inr (follows c now)) (time.nothing_else t c le left);
  }

  -- and then a call that only synced
  pub torn_synced : (at n : ℕ) (old mid new : D) → CrashesFollow (Torn at n) (may_leave old) (may_leave mid) → Elapses (moment old) (moment mid) (left_since old) (left_since mid) (may_leave mid) → Quiet seen may_leave moment left_since mid new → LeavesOnly moment left_since old new (TornFrom at n (may_leave old))
  torn_synced at n old mid new follows time quiet =
      let P = TornFrom at n (may_leave old) in
      chained old mid new P (torn_write at n old mid follows time) (weaker mid new (may_leave mid) P (λ c may. follows c may) quiet.any_moment)

  pub quiet_torn : (at n : ℕ) (old new : D) → Quiet seen may_leave moment left_since old new → LeavesOnly moment left_since old new (TornFrom at n (may_leave old))
  quiet_torn at n old new quiet = weaker old new (may_leave old) (TornFrom at n (may_leave old)) (λ c may. (c, may, untorn at n c)) quiet.any_moment

  -- a disk that was only read, and then written
  pub quiet_then : (at n : ℕ) (old mid new : D) → Quiet seen may_leave moment left_since old mid → LeavesOnly moment left_since mid new (TornFrom at n (may_leave mid)) → LeavesOnly moment left_since old new (TornFrom at n (may_leave old))
  quiet_then at n old mid new quiet run =
      let P = TornFrom at n (may_leave old) in
      chained old mid new P (quiet_torn at n old mid quiet) (weaker mid new (TornFrom at n (may_leave mid)) P (λ c torn. (torn.0, quiet.narrows torn.0 torn.1, torn.2)) run)

  -- where a crash left one content, it leaves that, torn
  pub torn_one : (at n : ℕ) (old new : D) → Only (seen old) (may_leave old) → LeavesOnly moment left_since old new (TornFrom at n (may_leave old)) → LeavesOnly moment left_since old new (Torn at n (seen old))
  torn_one at n old new only run =
      weaker old new (TornFrom at n (may_leave old)) (Torn at n (seen old)) (λ c torn. subst (λ (d : List ℕ). Torn at n d c) (only torn.0 torn.1) torn.2) run

  -- an empty journal was written, behind a call that only read
  pub formatted : (old mid new : D) (bytes title : List ℕ) → bytes ≡ title ++ 0 ∷ [] → Quiet seen may_leave moment left_since old mid → LeavesOnly moment left_since mid new (TornFrom 0 (length bytes) (may_leave mid)) → LeavesOnly moment left_since old new (TornFrom 0 (length title + 1) (may_leave old))
  formatted old mid new bytes title is quiet run =
      let long : length bytes ≡ length title + 1 = omega (arith, ap length is, length-append title (0 ∷ [])) in
      subst (λ (n : ℕ). LeavesOnly moment left_since old new (TornFrom 0 n (may_leave old))) long (quiet_then 0 (length bytes) old mid new quiet run)
