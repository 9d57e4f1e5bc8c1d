-- Suspects, each in turn.
use Rattle.std.proofs.Common.{◌≡◌, ℕ, ◌+◌, ◌≤◌, ◌&&◌, not, nat_lt, if◌then◌else◌, Bool, true, false, List, [], ◌∷◌, ◌++◌, length, refl, ap, sym, ◌∙◌, subst, arith}
use Rattle.std.specs.Bool.{⊤}
use Rattle.std.specs.Ordering.{eq_by_cmp}
use Rattle.std.proofs.lemmas.Bool.Decides.{nat_tests}
use Rattle.std.proofs.lemmas.List.{append_assoc, append-nil, length-append}
use Rattle.curp_cmd.specs.Hash.{hashes}
use Rattle.curp_cmd.specs.RequestId.{id_cmp}
use Rattle.curp_cmd.specs.Store.{applied}
use Rattle.curp_cmd.specs.declared.command.Answer.{Answer}
use Rattle.curp_cmd.specs.declared.command.Request.{Request}
use Rattle.curp_cmd.specs.declared.command.RequestId.{RequestId}
use Rattle.curp_cmd.specs.declared.entry.Entry.{Entry}
use Rattle.curp_cmd.specs.declared.entry.Entry.TheVariants.{Op}
use Rattle.curp_tail.specs.Queue.{Queueing}
use Rattle.curp_model.specs.declared.Check.{Check}
use Rattle.curp_model.specs.declared.Check.TheVariants.{Expired, Stale, Known, New}
use Rattle.curp_model.specs.Log.{LogState, after_entry, fits_at, is_new, meaning}
use Rattle.curp_model.specs.Master.{MasterState, Queued, beginning, pushed, state_of, treat, treated}
use Rattle.curp_model.specs.Ranges.{owns_all}
use Rattle.curp_model.specs.Table.{Noted, Table, acknowledge, check, no_records, note}
use Rattle.curp_model.proofs.Logs.{meaning_append}
use Rattle.curp_model.proofs.Tables.{check_other, has_acknowledge, has_note, not_new}
use Rattle.curp_master_log.specs.MasterLog.{MasterLogState}
use Rattle.curp_master_log.specs.Suspects.{HasOpRoom, IsTreated, brings, keeping, news, one_treated}

-- ---- what they bring into the log

brought : (m : MasterState) (r : Request) (owned : Bool)
    → (if owned then pushed m r 0 else m) ≡ record m { log = m.log ++ (if owned then Op r 0 ∷ [] else []); queue = (if owned then pushed m r 0 else m).queue }
brought m r true = refl
brought m r false = ap (λ log. record m { log = log }) (sym (append-nil m.log))

-- a suspect changes the log and the queue alone
one_is : (m : MasterState) (r : Request) → one_treated m r ≡ record m { log = m.log ++ brings m.lo m.hi m.log r; queue = (one_treated m r).queue }
one_is m r = go (check (state_of m).table r.id)
  where
    owned : Bool
    owned = owns_all (state_of m).owned (hashes r.command)

    go : (c : Check) → treated m r c ≡ record m { log = m.log ++ (if is_new c && owned then Op r 0 ∷ [] else []); queue = (treated m r c).queue }
    go (Known a index) = ap (λ log. record (treated m r (Known a index)) { log = log }) (sym (append-nil m.log))
    go (Stale first) = ap (λ log. record (treated m r (Stale first)) { log = log }) (sym (append-nil m.log))
    go Expired = ap (λ log. record (treated m r Expired) { log = log }) (sym (append-nil m.log))
    go New = brought m r owned

-- and so do all of them
pub treat_is : (m : MasterState) (rs : List Request) → treat m rs ≡ record m { log = m.log ++ news m.lo m.hi m.log rs; queue = (treat m rs).queue }
treat_is m [] = ap (λ log. record m { log = log }) (sym (append-nil m.log))
treat_is m (r ∷ rs) =
    let more = brings m.lo m.hi m.log r in
    treat_is (one_treated m r) rs
    ∙ ap (λ (k : MasterState). record k { log = k.log ++ news k.lo k.hi k.log rs; queue = (treat (one_treated m r) rs).queue }) (one_is m r)
    ∙ ap (λ (log : List Entry). record m { log = log; queue = (treat (one_treated m r) rs).queue }) (append_assoc m.log more (news m.lo m.hi (m.log ++ more) rs))

-- ---- the loop over the suspects

nobody : MasterState
nobody = beginning 0 0 0 [] [] 0 0 [] 0

-- those that are left are treated behind the others, and there is room for them
pub record Treats (was : MasterLogState) (waited : List Queued) (all : List Request) (is : MasterLogState) (queue : Queueing) (rest : List Request) : Type 0 where
  pub treated : (m : MasterState) → treat (keeping m is.kept queue.waiting) rest ≡ treat (keeping m was.kept waited) all
  pub synced : is.kept.synced ≡ was.kept.synced
  pub room : HasOpRoom is (length (news is.kept.lo is.kept.hi is.kept.entries rest))
  pub spare : length rest ≤ queue.spare

-- what the first of those left takes
first_room : (is : MasterLogState) (r : Request) (more : List Request) → HasOpRoom is (length (news is.kept.lo is.kept.hi is.kept.entries (r ∷ more)))
    → let there = brings is.kept.lo is.kept.hi is.kept.entries r in
    HasOpRoom is (length there + length (news is.kept.lo is.kept.hi (is.kept.entries ++ there) more))
first_room is r more room =
    let there = brings is.kept.lo is.kept.hi is.kept.entries r in
    subst (HasOpRoom is) (length-append there (news is.kept.lo is.kept.hi (is.kept.entries ++ there) more)) room

less_room : (is : MasterLogState) (a b : ℕ) → HasOpRoom is (a + b) → HasOpRoom is a
less_room is a b room = record { in_log = omega (arith, room.in_log); in_tail = omega (arith, room.in_tail); in_marks = omega (arith, room.in_marks) }

module _ (was is : MasterLogState) (waited : List Queued) (queue : Queueing) (all rest more : List Request) (r : Request) (goes : Treats was waited all is queue rest) (first : rest ≡ r ∷ more) where
  whole : HasOpRoom is (length (news is.kept.lo is.kept.hi is.kept.entries (r ∷ more)))
  whole = subst (λ (rs : List Request). HasOpRoom is (length (news is.kept.lo is.kept.hi is.kept.entries rs))) first goes.room

  pub room_for_one : HasOpRoom is (length (brings is.kept.lo is.kept.hi is.kept.entries r))
  room_for_one = less_room is _ _ (first_room is r more whole)

  pub spare_for_one : 1 ≤ queue.spare
  spare_for_one = let long : length rest ≡ length more + 1 = ap length first ∙ omega arith in omega (arith, goes.spare)

  pub treats_more : (after : MasterLogState) (next : Queueing) → IsTreated r is queue.waiting after next.waiting → queue.spare ≤ next.spare + 1 → Treats was waited all after next more
  treats_more after next one less = record {
    treated = λ m. ap (λ (k : MasterState). treat k more) (sym (one.treated m)) ∙ ap (treat (keeping m is.kept queue.waiting)) (sym first) ∙ goes.treated m;
    synced = one.synced ∙ goes.synced;
    room = subst (λ (k : MasterState). HasOpRoom after (length (news k.lo k.hi k.log more))) (sym (one_is (keeping nobody is.kept queue.waiting) r) ∙ one.treated nobody)
        (one.room (length (news is.kept.lo is.kept.hi (is.kept.entries ++ brings is.kept.lo is.kept.hi is.kept.entries r) more)) (first_room is r more whole));
    spare = let long : length rest ≡ length more + 1 = ap length first ∙ omega arith in omega (arith, goes.spare);
  }

-- ---- what they bring, found before anything changes

old_by_test : (c : Check) → ¬ (c ≡ New) → is_new c ≡ false
old_by_test New old = absurd (old refl)
old_by_test (Known a index) old = refl
old_by_test (Stale first) old = refl
old_by_test Expired old = refl

-- a request that is done is new no more, and it is no matter to others
new_after : (t : Table) (done : RequestId) (a : Answer) (index : ℕ) (id : RequestId)
    → is_new (check (acknowledge (note t done a index) done.client 0) id) ≡ (is_new (check t id) && not (eq_by_cmp id_cmp id done))
new_after t done a index id = go (eq_by_cmp id_cmp id done) refl
  where
    after : Table
    after = acknowledge (note t done a index) done.client 0

    none : (b : Bool) → false ≡ (b && false)
    none true = refl
    none false = refl

    same : (b : Bool) → b ≡ (b && true)
    same true = refl
    same false = refl

    go : (b : Bool) → eq_by_cmp id_cmp id done ≡ b → is_new (check after id) ≡ (is_new (check t id) && not b)
    go true is =
        old_by_test (check after id)
        (not_new after id (λ (n : Noted). ⊤) (has_acknowledge id (λ (n : Noted). ⊤) (note t done a index) done.client 0 (has_note id (λ (n : Noted). ⊤) t done a index (λ e. tt) (λ apart. absurd (cc (apart, is))))))
        ∙ none (is_new (check t id))
    go false is = ap is_new (check_other t id done a index done.client is) ∙ same (is_new (check t id))

-- the Ops so far and those that are left are all, and what was seen to come is new no more
pub record Scans (lo hi : ℕ) (entries : List Entry) (all : List Request) (seen : Table) (ops : List Entry) (rest : List Request) : Type 0 where
  pub its : ops ++ news lo hi (entries ++ ops) rest ≡ news lo hi entries all
  pub checks : (id : RequestId) → is_new (check (meaning lo hi (entries ++ ops)).table id) ≡ (is_new (check (meaning lo hi entries).table id) && is_new (check seen id))
  pub owned : (meaning lo hi (entries ++ ops)).owned ≡ (meaning lo hi entries).owned

new_at_first : (id : RequestId) → is_new (check no_records id) ≡ true
unfolding check
new_at_first id = let low : nat_lt id.seq 0 ≡ false = grind (arith, nat_tests) in rw low refl

pub scans_none : (lo hi : ℕ) (entries : List Entry) (all : List Request) → Scans lo hi entries all no_records [] all
scans_none lo hi entries all = record {
  its = ap (λ (log : List Entry). news lo hi log all) (append-nil entries);
  checks = λ id. ap (λ (log : List Entry). is_new (check (meaning lo hi log).table id)) (append-nil entries) ∙ both (is_new (check (meaning lo hi entries).table id)) _ (new_at_first id);
  owned = ap (λ (log : List Entry). (meaning lo hi log).owned) (append-nil entries);
}
  where
    both : (b c : Bool) → c ≡ true → b ≡ (b && c)
    both true c e = sym e
    both false c e = refl

-- whether the next one comes, as the code tests it
abbrev pub can_come : ℕ → ℕ → List Entry → Table → Request → Bool
can_come lo hi entries seen r =
    (is_new (check (meaning lo hi entries).table r.id) && is_new (check seen r.id)) && owns_all (meaning lo hi entries).owned (hashes r.command)

module _ (lo hi : ℕ) (entries : List Entry) (all : List Request) (seen : Table) (ops : List Entry) (rest more : List Request) (r : Request) (scans : Scans lo hi entries all seen ops rest) (first : rest ≡ r ∷ more) where
  fits_is : fits_at (meaning lo hi (entries ++ ops)) (Op r 0) ≡ can_come lo hi entries seen r
  fits_is = λ i. scans.checks r.id i && owns_all (scans.owned i) (hashes r.command)

  left : (comes : Bool) → can_come lo hi entries seen r ≡ comes
      → let there : List Entry = if comes then Op r 0 ∷ [] else [] in ops ++ (there ++ news lo hi ((entries ++ ops) ++ there) more) ≡ news lo hi entries all
  left comes is =
      ap (λ (b : Bool). let there : List Entry = if b then Op r 0 ∷ [] else [] in ops ++ (there ++ news lo hi ((entries ++ ops) ++ there) more)) (sym (fits_is ∙ is))
      ∙ ap (λ (rs : List Request). ops ++ news lo hi (entries ++ ops) rs) (sym first) ∙ scans.its

  pub scans_on : can_come lo hi entries seen r ≡ false → Scans lo hi entries all seen ops more
  scans_on is = record {
    its = ap (λ (log : List Entry). ops ++ news lo hi log more) (sym (append-nil (entries ++ ops))) ∙ left false is;
    checks = scans.checks;
    owned = scans.owned;
  }

  longer : meaning lo hi (entries ++ (ops ++ Op r 0 ∷ [])) ≡ after_entry (meaning lo hi (entries ++ ops)) (length (entries ++ ops)) (Op r 0)
  longer = ap (meaning lo hi) (sym (append_assoc entries ops (Op r 0 ∷ []))) ∙ meaning_append lo hi (entries ++ ops) (Op r 0 ∷ [])

  new_now : (s : LogState) (k : ℕ) (id : RequestId) → is_new (check (after_entry s k (Op r 0)).table id) ≡ (is_new (check s.table id) && not (eq_by_cmp id_cmp id r.id))
  unfolding after_entry
  new_now s k id = new_after s.table r.id (applied s.store r.command).answer k id

  owned_now : (s : LogState) (k : ℕ) → (after_entry s k (Op r 0)).owned ≡ s.owned
  unfolding after_entry
  owned_now s k = refl

  regrouped : (a b c : Bool) → ((a && b) && c) ≡ (a && (b && c))
  regrouped true b c = refl
  regrouped false b c = refl

  pub scans_more : (a : Answer) (index : ℕ) → can_come lo hi entries seen r ≡ true
      → Scans lo hi entries all (acknowledge (note seen r.id a index) r.id.client 0) (ops ++ Op r 0 ∷ []) more
  scans_more a index is = record {
    its = append_assoc ops (Op r 0 ∷ []) (news lo hi (entries ++ (ops ++ Op r 0 ∷ [])) more)
        ∙ ap (λ (log : List Entry). ops ++ (Op r 0 ∷ news lo hi log more)) (sym (append_assoc entries ops (Op r 0 ∷ []))) ∙ left true is;
    checks = λ id.
        ap (λ (s : LogState). is_new (check s.table id)) longer ∙ new_now (meaning lo hi (entries ++ ops)) (length (entries ++ ops)) id
        ∙ ap (λ (b : Bool). b && not (eq_by_cmp id_cmp id r.id)) (scans.checks id)
        ∙ regrouped (is_new (check (meaning lo hi entries).table id)) (is_new (check seen id)) (not (eq_by_cmp id_cmp id r.id))
        ∙ ap (λ (b : Bool). is_new (check (meaning lo hi entries).table id) && b) (sym (new_after seen r.id a index id));
    owned = ap (λ (s : LogState). s.owned) longer ∙ owned_now (meaning lo hi (entries ++ ops)) (length (entries ++ ops)) ∙ scans.owned;
  }
