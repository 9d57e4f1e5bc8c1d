-- The ids in their order, with their lengths, as ids come and leave.
use Rattle.std.proofs.Common.{◌≡◌, ℕ, ◌+◌, ◌≤◌, ◌||◌, ◌&&◌, nat_le, max, Bool, true, false, cond, not, T, List, [], ◌∷◌, ◌++◌, length, map, Option, Some, None, is_some, unwrap_or, refl, ap, sym, ◌∙◌, subst, arith}
use Rattle.std.proofs.lemmas.List.{length-map}
use Rattle.std.specs.FinMap.Entries.{below_all, find, find-put, is_sorted-put, put}
use Rattle.std.specs.List.{filter}
use Rattle.std.specs.Ordering.{eq_by_cmp, is_eq, is_lt}
use Rattle.std.specs.declared.cmp.Ordering.TheVariants.{Less}
use Rattle.curp_base.specs.Words.{Each, KeysAscend}
use Rattle.curp_base.proofs.Rising.{is_less, left, right}
use Rattle.curp_base.proofs.Values.{ascend_passing, find_passing, passing}
use Rattle.curp_cmd.proofs.Ids.{same_id-self, same_id-true, tied_same}
use Rattle.curp_cmd.specs.RequestId.{has_id, id_cmp, same_id}
use Rattle.curp_cmd.specs.declared.command.RequestId.{RequestId}
use Rattle.curp_model.specs.Master.{Queued, queued}
use Rattle.curp_tail.specs.Queue.{Apart, IsQueue, has_come, is_come_of, is_past, length_of, waiting_of}
use Rattle.curp_model.proofs.Tables.{ids_total}

abbrev Waits : Type 0
Waits = List (RequestId × ℕ)

same_flips : (a b : RequestId) → same_id a b ≡ same_id b a
same_flips a b = go (same_id a b) (same_id b a) refl refl
  where
    go : (s t : Bool) → same_id a b ≡ s → same_id b a ≡ t → s ≡ t
    go true true e f = refl
    go false false e f = refl
    go true false e f = sym (subst (λ (x : RequestId). same_id x a ≡ true) (same_id-true a b e) (same_id-self a)) ∙ f
    go false true e f = sym e ∙ subst (λ (x : RequestId). same_id x b ≡ true) (same_id-true b a f) (same_id-self b)

-- ---- lengths

found_put : (ws : Waits) (id x : RequestId) (until : ℕ) → find id_cmp x (put id_cmp id until ws) ≡ cond (same_id x id) (Some until) (find id_cmp x ws)
found_put ws id x until = find-put id_cmp ids_total x id until ws ∙ ap (λ (b : Bool). cond b (Some until) (find id_cmp x ws)) (tied_same x id)

length_put : (ws : Waits) (id : RequestId) (until : ℕ) → length_of (put id_cmp id until ws) id ≡ until
length_put ws id until = rw (found_put ws id id until, same_id-self id) refl

length_other : (ws : Waits) (id : RequestId) (until : ℕ) (x : RequestId) → same_id id x ≡ false → length_of (put id_cmp id until ws) x ≡ length_of ws x
length_other ws id until x other = let apart : same_id x id ≡ false = same_flips x id ∙ other in rw (found_put ws id x until, apart) refl

has_put : (ws : Waits) (id : RequestId) (until : ℕ) (x : RequestId) → is_some (find id_cmp x (put id_cmp id until ws)) ≡ (is_some (find id_cmp x ws) || same_id x id)
has_put ws id until x = ap is_some (found_put ws id x until) ∙ go (same_id x id) (find id_cmp x ws)
  where
    go : (b : Bool) (o : Option ℕ) → is_some (cond b (Some until) o) ≡ (is_some o || b)
    go true None = refl
    go true (Some n) = refl
    go false None = refl
    go false (Some n) = refl

-- ---- the ids in their order

others_alike : (order : List RequestId) (ws vs : Waits) (id : RequestId) → has_id id order ≡ false → ((x : RequestId) → same_id id x ≡ false → length_of vs x ≡ length_of ws x) → waiting_of order vs ≡ waiting_of order ws
others_alike [] ws vs id none alike = refl
others_alike (x ∷ order) ws vs id none alike = go (same_id id x) refl none (others_alike order ws vs id)
  where
    go : (b : Bool) → same_id id x ≡ b → (b || has_id id order) ≡ false → (has_id id order ≡ false → ((x : RequestId) → same_id id x ≡ false → length_of vs x ≡ length_of ws x) → waiting_of order vs ≡ waiting_of order ws) → waiting_of (x ∷ order) vs ≡ waiting_of (x ∷ order) ws
    go true e none rest = absurd cc
    go false e none rest = λ i. record { id = x; length = alike x e i } ∷ rest none alike i

-- one that waits keeps its place
pub raised : (order : List RequestId) (ws vs : Waits) (id : RequestId) (long : ℕ) → Apart order → has_id id order ≡ true → length_of vs id ≡ max (length_of ws id) long
    → ((x : RequestId) → same_id id x ≡ false → length_of vs x ≡ length_of ws x) → waiting_of order vs ≡ queued (waiting_of order ws) id long
raised [] ws vs id long apart has more alike = absurd cc
raised (x ∷ order) ws vs id long apart has more alike = go (same_id x id) refl (raised order ws vs id long apart.1)
  where
    go : (b : Bool) → same_id x id ≡ b → (has_id id order ≡ true → length_of vs id ≡ max (length_of ws id) long → ((x : RequestId) → same_id id x ≡ false → length_of vs x ≡ length_of ws x) → waiting_of order vs ≡ queued (waiting_of order ws) id long)
        → waiting_of (x ∷ order) vs ≡ cond b (record { id = id; length = max (length_of ws x) long } ∷ waiting_of order ws) (record { id = x; length = length_of ws x } ∷ queued (waiting_of order ws) id long)
    go true e rest =
        let same : x ≡ id = same_id-true x id e in
        let none : has_id id order ≡ false = subst (λ (y : RequestId). has_id y order ≡ false) same apart.0 in
        let long_is : length_of vs x ≡ max (length_of ws x) long = subst (λ (y : RequestId). length_of vs y ≡ max (length_of ws y) long) (sym same) more in
        λ i. record { id = same i; length = long_is i } ∷ others_alike order ws vs id none alike i
    go false e rest =
        let other : same_id id x ≡ false = same_flips id x ∙ e in
        let has_later : has_id id order ≡ true = sym (ap (λ (b : Bool). b || has_id id order) other) ∙ has in
        λ i. record { id = x; length = alike x other i } ∷ rest has_later more alike i

-- another one comes behind them
pub joined : (order : List RequestId) (ws vs : Waits) (id : RequestId) (long : ℕ) → has_id id order ≡ false → length_of vs id ≡ long
    → ((x : RequestId) → same_id id x ≡ false → length_of vs x ≡ length_of ws x) → waiting_of (order ++ id ∷ []) vs ≡ queued (waiting_of order ws) id long
joined [] ws vs id long none own alike = λ i. record { id = id; length = own i } ∷ []
joined (x ∷ order) ws vs id long none own alike = go (same_id id x) refl none (joined order ws vs id long)
  where
    go : (b : Bool) → same_id id x ≡ b → (b || has_id id order) ≡ false → (has_id id order ≡ false → length_of vs id ≡ long → ((x : RequestId) → same_id id x ≡ false → length_of vs x ≡ length_of ws x) → waiting_of (order ++ id ∷ []) vs ≡ queued (waiting_of order ws) id long)
        → waiting_of (x ∷ (order ++ id ∷ [])) vs ≡ queued (waiting_of (x ∷ order) ws) id long
    go true e none rest = absurd cc
    go false e none rest =
        let other : same_id x id ≡ false = same_flips x id ∙ e in
        rw other (λ i. record { id = x; length = alike x e i } ∷ rest none own alike i)

pub has_pushed : (order : List RequestId) (id x : RequestId) → has_id x (order ++ id ∷ []) ≡ (has_id x order || same_id x id)
has_pushed [] id x = or_none (same_id x id)
  where
    or_none : (b : Bool) → (b || false) ≡ b
    or_none true = refl
    or_none false = refl
has_pushed (y ∷ order) id x = ap (λ (b : Bool). same_id x y || b) (has_pushed order id x) ∙ assoc (same_id x y) (has_id x order) (same_id x id)
  where
    assoc : (a b c : Bool) → (a || (b || c)) ≡ ((a || b) || c)
    assoc true b c = refl
    assoc false b c = refl

pub apart_pushed : (order : List RequestId) (id : RequestId) → Apart order → has_id id order ≡ false → Apart (order ++ id ∷ [])
apart_pushed [] id apart none = (refl, tt)
apart_pushed (x ∷ order) id apart none = go (same_id id x) refl none (apart_pushed order id apart.1)
  where
    go : (b : Bool) → same_id id x ≡ b → (b || has_id id order) ≡ false → (has_id id order ≡ false → Apart (order ++ id ∷ [])) → Apart (x ∷ (order ++ id ∷ []))
    go true e none rest = absurd cc
    go false e none rest = (has_pushed order id x ∙ (λ i. apart.0 i || (same_flips x id ∙ e) i), rest none)

-- ---- what is due

abbrev pub stays : ℕ → ℕ → Bool
stays synced until = not (nat_le until synced)

abbrev pub all_that_stay : ℕ → Waits → Waits
all_that_stay synced ws = filter (λ (w : RequestId × ℕ). stays synced w.1) ws

abbrev pub remains_of : Waits → ℕ → RequestId → Bool
remains_of ws synced id = not (is_come_of ws synced id)

length_passing : (synced : ℕ) (o : Option ℕ) → is_past synced o ≡ false → unwrap_or (passing (stays synced) o) 0 ≡ unwrap_or o 0
length_passing synced None late = refl
length_passing synced (Some until) late = rw late refl

has_passing : (synced : ℕ) (o : Option ℕ) → is_some (passing (stays synced) o) ≡ (is_some o && not (is_past synced o))
has_passing synced None = refl
has_passing synced (Some until) = go (nat_le until synced)
  where
    go : (b : Bool) → is_some (cond (not b) (Some until) None) ≡ not b
    go true = refl
    go false = refl

-- ids that pass a test which tells the same of the same ids
pub has_filtered : (p : RequestId → Bool) (order : List RequestId) (id : RequestId) → has_id id (filter p order) ≡ (has_id id order && p id)
has_filtered p [] id = refl
has_filtered p (x ∷ order) id = go (p x) refl (same_id id x) refl (has_filtered p order id)
  where
    go : (b : Bool) → p x ≡ b → (c : Bool) → same_id id x ≡ c → has_id id (filter p order) ≡ (has_id id order && p id) → has_id id (cond b (x ∷ filter p order) (filter p order)) ≡ ((c || has_id id order) && p id)
    go true e true f rest = let own : p id ≡ true = ap p (same_id-true id x f) ∙ e in rw (f, own) refl
    go false e true f rest = let own : p id ≡ false = ap p (same_id-true id x f) ∙ e in rest ∙ (λ i. has_id id order && own i) ∙ and_false (has_id id order) ∙ sym own
      where
        and_false : (b : Bool) → (b && false) ≡ false
        and_false true = refl
        and_false false = refl
    go true e false f rest = rw f rest
    go false e false f rest = rest

pub apart_filter : (p : RequestId → Bool) (order : List RequestId) → Apart order → Apart (filter p order)
apart_filter p [] apart = tt
apart_filter p (x ∷ order) apart = go (p x) (apart_filter p order apart.1)
  where
    go : (b : Bool) → Apart (filter p order) → Apart (cond b (x ∷ filter p order) (filter p order))
    go true rest = (has_filtered p order x ∙ ap (λ (b : Bool). b && p x) apart.0, rest)
    go false rest = rest

-- those of some ids that wait
abbrev AllWait : Waits → List RequestId → Type 0
AllWait ws order = Each (λ (id : RequestId). is_some (find id_cmp id ws) ≡ true) order

each_among : (P : RequestId → Type 0) (order : List RequestId) → ((id : RequestId) → has_id id order ≡ true → P id) → Each P order
each_among P [] all = tt
each_among P (x ∷ order) all = (all x (rw (same_id-self x) refl), each_among P order (λ id has. all id (or_true (same_id id x) (has_id id order) has)))
  where
    or_true : (a b : Bool) → b ≡ true → (a || b) ≡ true
    or_true true b e = refl
    or_true false b e = e

past_of : (synced : ℕ) (o : Option ℕ) → is_some o ≡ true → is_past synced o ≡ nat_le (unwrap_or o 0) synced
past_of synced None e = absurd cc
past_of synced (Some until) e = refl

module _ (order : List RequestId) (ws : Waits) (q : IsQueue order ws) (synced : ℕ) where
  all_wait : AllWait ws order
  all_wait = each_among (λ (id : RequestId). is_some (find id_cmp id ws) ≡ true) order (λ id has. sym (q.same id) ∙ has)

  pub due_is : filter (is_come_of ws synced) order ≡ map (λ (q : Queued). q.id) (filter (has_come synced) (waiting_of order ws))
  due_is = go order all_wait
    where
      go : (xs : List RequestId) → AllWait ws xs → filter (is_come_of ws synced) xs ≡ map (λ (q : Queued). q.id) (filter (has_come synced) (waiting_of xs ws))
      go [] all = refl
      go (x ∷ xs) all = rw (past_of synced (find id_cmp x ws) all.0) (step (nat_le (length_of ws x) synced) (go xs all.1))
        where
          step : (b : Bool) → filter (is_come_of ws synced) xs ≡ map (λ (q : Queued). q.id) (filter (has_come synced) (waiting_of xs ws))
              → cond b (x ∷ filter (is_come_of ws synced) xs) (filter (is_come_of ws synced) xs)
              ≡ map (λ (q : Queued). q.id) (cond b (record { id = x; length = length_of ws x } ∷ filter (has_come synced) (waiting_of xs ws)) (filter (has_come synced) (waiting_of xs ws)))
          step true rest = ap (λ (ids : List RequestId). x ∷ ids) rest
          step false rest = rest

  length_stays : (x : RequestId) → is_past synced (find id_cmp x ws) ≡ false → length_of (all_that_stay synced ws) x ≡ length_of ws x
  length_stays x late = ap (λ (o : Option ℕ). unwrap_or o 0) (find_passing id_cmp (stays synced) ids_total x ws q.ascend) ∙ length_passing synced (find id_cmp x ws) late

  pub left_is : waiting_of (filter (remains_of ws synced) order) (all_that_stay synced ws) ≡ filter (λ q. not (has_come synced q)) (waiting_of order ws)
  left_is = go order all_wait
    where
      go : (xs : List RequestId) → AllWait ws xs → waiting_of (filter (remains_of ws synced) xs) (all_that_stay synced ws) ≡ filter (λ q. not (has_come synced q)) (waiting_of xs ws)
      go [] all = refl
      go (x ∷ xs) all =
          let same = past_of synced (find id_cmp x ws) all.0 in
          rw same (step (nat_le (length_of ws x) synced) same (go xs all.1))
        where
          step : (b : Bool) → is_past synced (find id_cmp x ws) ≡ b → waiting_of (filter (remains_of ws synced) xs) (all_that_stay synced ws) ≡ filter (λ q. not (has_come synced q)) (waiting_of xs ws)
              → waiting_of (cond (not b) (x ∷ filter (remains_of ws synced) xs) (filter (remains_of ws synced) xs)) (all_that_stay synced ws)
              ≡ cond (not b) (record { id = x; length = length_of ws x } ∷ filter (λ q. not (has_come synced q)) (waiting_of xs ws)) (filter (λ q. not (has_come synced q)) (waiting_of xs ws))
          step true e rest = rest
          step false e rest = λ i. record { id = x; length = length_stays x e i } ∷ rest i

  pub queue_left : IsQueue (filter (remains_of ws synced) order) (all_that_stay synced ws)
  queue_left = record {
    ascend = ascend_passing id_cmp (stays synced) ws q.ascend;
    apart = apart_filter (remains_of ws synced) order q.apart;
    same = λ id.
        has_filtered (remains_of ws synced) order id
        ∙ (λ i. q.same id i && remains_of ws synced id)
        ∙ sym (has_passing synced (find id_cmp id ws))
        ∙ ap is_some (sym (find_passing id_cmp (stays synced) ids_total id ws q.ascend));
  }

module _ (order : List RequestId) (ws : Waits) (q : IsQueue order ws) (id : RequestId) where
  -- it waits already

  pub queue_raised : (until long : ℕ) → find id_cmp id ws ≡ Some until → IsQueue order (put id_cmp id long ws)
  queue_raised until long found = record {
    ascend = is_sorted-put id_cmp ids_total id long ws q.ascend;
    apart = q.apart;
    same = λ x. q.same x ∙ go x (same_id x id) refl ∙ sym (has_put ws id long x);
  }
    where
      go : (x : RequestId) (b : Bool) → same_id x id ≡ b → is_some (find id_cmp x ws) ≡ (is_some (find id_cmp x ws) || b)
      go x true e = let has : is_some (find id_cmp x ws) ≡ true = ap (λ (y : RequestId). is_some (find id_cmp y ws)) (same_id-true x id e) ∙ ap is_some found in rw has refl
      go x false e = or_none (is_some (find id_cmp x ws))
        where
          or_none : (b : Bool) → b ≡ (b || false)
          or_none true = refl
          or_none false = refl

  pub raised_is : (until long : ℕ) → find id_cmp id ws ≡ Some until → waiting_of order (put id_cmp id (max until long) ws) ≡ queued (waiting_of order ws) id long
  raised_is until long found =
      raised order ws (put id_cmp id (max until long) ws) id long q.apart (q.same id ∙ ap is_some found)
      (length_put ws id (max until long) ∙ ap (λ (o : Option ℕ). max (unwrap_or o 0) long) (sym found))
      (length_other ws id (max until long))

  -- it comes behind the others

  pub queue_joined : (long : ℕ) → find id_cmp id ws ≡ None → IsQueue (order ++ id ∷ []) (put id_cmp id long ws)
  queue_joined long none = record {
    ascend = is_sorted-put id_cmp ids_total id long ws q.ascend;
    apart = apart_pushed order id q.apart (q.same id ∙ ap is_some none);
    same = λ x. has_pushed order id x ∙ (λ i. q.same x i || same_id x id) ∙ sym (has_put ws id long x);
  }

  pub joined_is : (long : ℕ) → find id_cmp id ws ≡ None → waiting_of (order ++ id ∷ []) (put id_cmp id long ws) ≡ queued (waiting_of order ws) id long
  joined_is long none = joined order ws (put id_cmp id long ws) id long (q.same id ∙ ap is_some none) (length_put ws id long) (length_other ws id long)

-- ---- how many wait

not_both : (b : Bool) → b ≡ true → b ≡ false → ⊥
not_both true e f = absurd cc
not_both false e f = absurd cc

none_alike : (id : RequestId) (ws : Waits) (x : RequestId × ℕ) → T (below_all id_cmp x.0 ws) → same_id x.0 id ≡ true → length (filter (λ (w : RequestId × ℕ). same_id w.0 id) ws) ≤ 0
none_alike id [] x below same = omega arith
none_alike id (w ∷ ws) x below same = go (same_id w.0 id) refl (none_alike id ws x (right _ _ below) same)
  where
    go : (b : Bool) → same_id w.0 id ≡ b → length (filter (λ (v : RequestId × ℕ). same_id v.0 id) ws) ≤ 0 → length (cond b (w ∷ filter (λ (v : RequestId × ℕ). same_id v.0 id) ws) (filter (λ (v : RequestId × ℕ). same_id v.0 id) ws)) ≤ 0
    go true e rest =
        let one : x.0 ≡ w.0 = same_id-true x.0 id same ∙ sym (same_id-true w.0 id e) in
        let less : id_cmp x.0 w.0 ≡ Less = is_less (id_cmp x.0 w.0) (left (is_lt (id_cmp x.0 w.0)) (below_all id_cmp x.0 ws) below) in
        let tied : eq_by_cmp id_cmp x.0 w.0 ≡ true = tied_same x.0 w.0 ∙ subst (λ (y : RequestId). same_id x.0 y ≡ true) one (same_id-self x.0) in
        let apart : eq_by_cmp id_cmp x.0 w.0 ≡ false = ap is_eq less in
        absurd (not_both (eq_by_cmp id_cmp x.0 w.0) tied apart)
    go false e rest = rest

-- no id has two lengths
one_alike : (id : RequestId) (ws : Waits) → KeysAscend id_cmp ws → length (filter (λ (w : RequestId × ℕ). same_id w.0 id) ws) ≤ 1
one_alike id [] ascend = omega arith
one_alike id (w ∷ ws) ascend = go (same_id w.0 id) refl (one_alike id ws (right _ _ ascend))
  where
    go : (b : Bool) → same_id w.0 id ≡ b → length (filter (λ (v : RequestId × ℕ). same_id v.0 id) ws) ≤ 1 → length (cond b (w ∷ filter (λ (v : RequestId × ℕ). same_id v.0 id) ws) (filter (λ (v : RequestId × ℕ). same_id v.0 id) ws)) ≤ 1
    go true e rest = omega (arith, none_alike id ws w (left _ _ ascend) e)
    go false e rest = rest

either_counted : {A : Type 0} (p q : A → Bool) (xs : List A) → length (filter (λ x. p x || q x) xs) ≤ length (filter p xs) + length (filter q xs)
either_counted p q [] = omega arith
either_counted p q (x ∷ xs) = go (p x) (q x) (either_counted p q xs)
  where
    go : (a b : Bool) → length (filter (λ x. p x || q x) xs) ≤ length (filter p xs) + length (filter q xs)
        → length (cond (a || b) (x ∷ filter (λ x. p x || q x) xs) (filter (λ x. p x || q x) xs)) ≤ length (cond a (x ∷ filter p xs) (filter p xs)) + length (cond b (x ∷ filter q xs) (filter q xs))
    go true true rest = omega (arith, rest)
    go true false rest = omega (arith, rest)
    go false true rest = omega (arith, rest)
    go false false rest = rest

none_counted : {A : Type 0} (xs : List A) → length (filter (λ x. false) xs) ≤ 0
none_counted [] = omega arith
none_counted (x ∷ xs) = none_counted xs

-- those that are among some ids are no more than these
among_counted : (order : List RequestId) (ws : Waits) → KeysAscend id_cmp ws → length (filter (λ (w : RequestId × ℕ). has_id w.0 order) ws) ≤ length order
among_counted [] ws ascend = none_counted ws
among_counted (x ∷ order) ws ascend =
    omega (arith, either_counted (λ (w : RequestId × ℕ). same_id w.0 x) (λ (w : RequestId × ℕ). has_id w.0 order) ws, one_alike x ws ascend, among_counted order ws ascend)

all_counted : {A : Type 0} (p : A → Bool) (xs : List A) → Each (λ x. p x ≡ true) xs → filter p xs ≡ xs
all_counted p [] all = refl
all_counted p (x ∷ xs) all = rw all.0 (ap (λ ys. x ∷ ys) (all_counted p xs all.1))

found_more : (w : RequestId × ℕ) (ws vs : Waits) → Each (λ (v : RequestId × ℕ). is_some (find id_cmp v.0 ws) ≡ true) vs → Each (λ (v : RequestId × ℕ). is_some (find id_cmp v.0 (w ∷ ws)) ≡ true) vs
found_more w ws [] each = tt
found_more w ws (v ∷ vs) each = (go (eq_by_cmp id_cmp v.0 w.0), found_more w ws vs each.1)
  where
    go : (b : Bool) → is_some (cond b (Some w.1) (find id_cmp v.0 ws)) ≡ true
    go true = refl
    go false = each.0

each_found : (ws : Waits) → Each (λ (v : RequestId × ℕ). is_some (find id_cmp v.0 ws) ≡ true) ws
each_found [] = tt
each_found (w ∷ ws) =
    let tied : eq_by_cmp id_cmp w.0 w.0 ≡ true = tied_same w.0 w.0 ∙ same_id-self w.0 in
    (rw tied refl, found_more w ws ws (each_found ws))

found_among : (order : List RequestId) (ws vs : Waits) → ((id : RequestId) → has_id id order ≡ is_some (find id_cmp id ws)) → Each (λ (v : RequestId × ℕ). is_some (find id_cmp v.0 ws) ≡ true) vs → Each (λ (v : RequestId × ℕ). has_id v.0 order ≡ true) vs
found_among order ws [] same each = tt
found_among order ws (v ∷ vs) same each = (same v.0 ∙ each.0, found_among order ws vs same each.1)

-- as many ids as wait, and no more lengths
pub ids_counted : (order : List RequestId) (ws : Waits) → length (waiting_of order ws) ≡ length order
ids_counted order ws = length-map order (λ (id : RequestId). record { id = id; length = length_of ws id })

pub waits_counted : (order : List RequestId) (ws : Waits) → IsQueue order ws → length ws ≤ length (waiting_of order ws)
waits_counted order ws q =
    let among : filter (λ (w : RequestId × ℕ). has_id w.0 order) ws ≡ ws = all_counted (λ (w : RequestId × ℕ). has_id w.0 order) ws (found_among order ws ws q.same (each_found ws)) in
    omega (arith, among_counted order ws q.ascend, ap length among, ids_counted order ws)
