-- Replays of requests of which no two clash.
use Rattle.std.proofs.Common.{◌≡◌, ◌⊎◌, inl, inr, ◌↔◌, ℕ, zero, suc, ◌+◌, ◌<◌, ◌&&◌, Bool, true, false, cond, List, [], ◌∷◌, ◌++◌, length, map, get_or, set, take, Some, refl, ap, sym, ◌∙◌, subst, arith, append_assoc, append-nil}
use Rattle.std.specs.List.{AllByRecursion, IsDistinct, swap, filter}
use Rattle.std.specs.List.Sorted.{IsPermutation}
use Rattle.std.proofs.Math.Seq.{take-append-add}
use Rattle.std.proofs.lemmas.Bool.{and_parts}
use Rattle.std.proofs.lemmas.List.{take-map, take-append-le}
use Rattle.std.proofs.lemmas.List.Sorted.{Contains-permutation, IsPermutation-sym, IsPermutation-swap, IsPermutation-keeps, IsPermutation-middle, IsPermutation-append_right}
use Rattle.std.proofs.lemmas.Map.Keys.{IsDistinct-IsPermutation}
use Rattle.std.proofs.lemmas.Option.{slice_get-get_or, get_or_from_slice_get}
use Rattle.curp_base.specs.Words.{At}
use Rattle.curp_base.proofs.Lists.{at_within, at_append, at_append_cases, at_append_right, at_map}
use Rattle.curp_cmd.specs.Hash.{conflicts, hashes}
use Rattle.curp_cmd.specs.Store.{Contents, applied}
use Rattle.curp_cmd.specs.declared.command.Answer.{Answer}
use Rattle.curp_cmd.specs.declared.command.Command.{Command}
use Rattle.curp_cmd.specs.declared.command.Request.{Request}
use Rattle.curp_cmd.specs.declared.command.RequestId.{RequestId}
use Rattle.curp_cmd.specs.declared.entry.Entry.{Entry}
use Rattle.curp_cmd.specs.declared.entry.Entry.TheVariants.{Op}
use Rattle.curp_model.specs.declared.Check.{Check}
use Rattle.curp_model.specs.declared.Check.TheVariants.{Expired, Stale, Known, New}
use Rattle.curp_model.specs.Laws.{clash, IsAlike}
use Rattle.curp_model.specs.Log.{LogState, IsDone, after_entry, after_entries, meaning, answer_after, is_new}
use Rattle.curp_model.specs.Ranges.{owns_all}
use Rattle.curp_model.specs.Recovery.{replays, replay}
use Rattle.curp_model.specs.Table.{check}
use Rattle.curp_model.proofs.Tables.{check_other}
use Rattle.curp_model.proofs.Logs.{meaning_append, op_not_new}
use Rattle.curp_model.proofs.Filters.{exchanged, filter_at, filter_apart, filter_permutation}
use Rattle.curp_model.proofs.Clashes.{clash_flips, no_conflict, other_id, all_at, first_apart, rest_apart, without_second, prefix_apart, one_of_id}

-- ---- a replay adds each request

abbrev pub op_of : Request → Entry
op_of r = Op r 0

abbrev pub ops : List Request → List Entry
ops rs = map op_of rs

pub replays_alike : (s : LogState) (k : ℕ) (r x : Request) → clash r x ≡ false → replays (after_entry s k (Op r 0)) x ≡ replays s x
unfolding after_entry
replays_alike s k r x apart = ap (λ (c : Check). owns_all s.owned (hashes x.command) && is_new c) (check_other s.table x.id r.id _ k r.id.client (other_id r x apart))

-- the requests that are replayed behind a log
abbrev pub kept : ℕ → ℕ → List Entry → List Request → List Request
kept lo hi log rs = filter (replays (meaning lo hi log)) rs

kept_alike : (s : LogState) (k : ℕ) (r : Request) (rs : List Request) → AllByRecursion (λ x. clash r x ≡ false) rs → filter (replays (after_entry s k (Op r 0))) rs ≡ filter (replays s) rs
kept_alike s k r [] apart = refl
kept_alike s k r (x ∷ rs) apart = λ i. cond (replays_alike s k r x apart.0 i) (x ∷ kept_alike s k r rs apart.1 i) (kept_alike s k r rs apart.1 i)

kept_behind : (lo hi : ℕ) (log : List Entry) (r : Request) (rs : List Request) → AllByRecursion (λ x. clash r x ≡ false) rs → kept lo hi (log ++ Op r 0 ∷ []) rs ≡ kept lo hi log rs
kept_behind lo hi log r rs apart =
    ap (λ (s : LogState). filter (replays s) rs) (meaning_append lo hi log (Op r 0 ∷ [])) ∙ kept_alike (meaning lo hi log) (length log) r rs apart

pub replay_is : (lo hi : ℕ) (rs : List Request) (log : List Entry) → IsDistinct clash rs → replay lo hi log rs ≡ log ++ ops (kept lo hi log rs)
replay_is lo hi [] log apart = sym (append-nil log)
replay_is lo hi (r ∷ rs) log apart =
    let longer : List Entry = log ++ Op r 0 ∷ [] in
    let behind : kept lo hi longer rs ≡ kept lo hi log rs = kept_behind lo hi log r rs (first_apart r rs apart) in
    go (replays (meaning lo hi log) r)
    (replay_is lo hi rs longer (rest_apart r rs apart) ∙ append_assoc log (Op r 0 ∷ []) (ops (kept lo hi longer rs)) ∙ ap (λ (xs : List Request). log ++ Op r 0 ∷ ops xs) behind)
    (replay_is lo hi rs log (rest_apart r rs apart))
  where
    go : (b : Bool) → replay lo hi (log ++ Op r 0 ∷ []) rs ≡ log ++ Op r 0 ∷ ops (kept lo hi log rs) → replay lo hi log rs ≡ log ++ ops (kept lo hi log rs)
        → cond b (replay lo hi (log ++ Op r 0 ∷ []) rs) (replay lo hi log rs) ≡ log ++ ops (cond b (r ∷ kept lo hi log rs) (kept lo hi log rs))
    go true with_it without = with_it
    go false with_it without = without

-- ---- the store behind requests

abbrev pub stored : Contents → List Request → Contents
stored c [] = c
stored c (r ∷ rs) = stored (applied c r.command).after rs

ops_stored : (rs : List Request) (s : LogState) (k : ℕ) → (after_entries s k (ops rs)).store ≡ stored s.store rs
unfolding after_entry
ops_stored [] s k = refl
ops_stored (r ∷ rs) s k = ops_stored rs (after_entry s k (Op r 0)) (k + 1)

pub log_stored : (lo hi : ℕ) (log : List Entry) (rs : List Request) → (meaning lo hi (log ++ ops rs)).store ≡ stored (meaning lo hi log).store rs
log_stored lo hi log rs = ap (λ (s : LogState). s.store) (meaning_append lo hi log (ops rs)) ∙ ops_stored rs (meaning lo hi log) (length log)

-- ---- what stands in a log with requests behind it

pub take_ops : (log : List Entry) (rs : List Request) (j n : ℕ) → n ≡ length log + j → take n (log ++ ops rs) ≡ log ++ ops (take j rs)
take_ops log rs j n e =
    ap (λ (m : ℕ). take m (log ++ ops rs)) e ∙ take-append-add log (ops rs) j ∙ ap (λ (es : List Entry). log ++ es) (take-map op_of j rs)

pub done_longer : (lo hi : ℕ) (xs ys : List Entry) (id : RequestId) (a : Answer) → IsDone lo hi xs id a → IsDone lo hi (xs ++ ys) id a
done_longer lo hi xs ys id a d =
    let within : d.index < length xs = at_within xs d.index _ d.stands in
    record {
      index = d.index;
      request = d.request;
      acknowledged = d.acknowledged;
      stands = at_append xs ys d.index _ d.stands;
      its_id = d.its_id;
      its_answer = ap (λ (es : List Entry). answer_after lo hi es d.request.command) (take-append-le d.index xs ys (omega arith)) ∙ d.its_answer;
    }

is_new_from : (c : Check) → is_new c ≡ true → c ≡ New
is_new_from Expired e = absurd cc
is_new_from (Stale first) e = absurd cc
is_new_from (Known a index) e = absurd cc
is_new_from New e = refl

-- what stands in a log isn't replayed behind it
pub none_done : (lo hi : ℕ) (log : List Entry) (r : Request) (a : Answer) → replays (meaning lo hi log) r ≡ true → ¬ (IsDone lo hi log r.id a)
none_done lo hi log r a is_replayed d =
    let new : check (meaning lo hi log).table r.id ≡ New = is_new_from _ (and_parts _ _ is_replayed).1 in
    op_not_new lo hi log d.index d.request d.acknowledged d.stands (ap (check (meaning lo hi log).table) d.its_id ∙ new)

-- ---- rearranged requests

members : (rs ss : List Request) → IsPermutation rs ss → (j : ℕ) (q : Request) → At rs j q → (k : ℕ) × At ss k q
members rs ss p j q h =
    let m = Contains-permutation rs ss q p (j, at_within rs j q h, get_or_from_slice_get rs j q q h) in
    (m.0, slice_get-get_or ss m.0 q m.1 ∙ ap (λ (x : Request). Some x) m.2)

-- a replayed op is of its request
pub op_in_ops : (rs : List Request) (j : ℕ) (q : Request) (a : ℕ) → At (ops rs) j (Op q a) → At rs j q
op_in_ops [] j q a h = absurd cc
op_in_ops (r ∷ rs) zero q a h = let same : r ≡ q = cc in ap (λ (x : Request). Some x) same
op_in_ops (r ∷ rs) (suc j) q a h = op_in_ops rs j q a h

pub neighbours : (rs ss : List Request) (x y : Request) → IsPermutation (rs ++ x ∷ y ∷ ss) (rs ++ y ∷ x ∷ ss)
neighbours rs ss x y = IsPermutation-append_right rs (x ∷ y ∷ ss) (y ∷ x ∷ ss) (IsPermutation-middle (x ∷ []) y ss)

-- commands that don't conflict commute, and the second answers as it would alone
module _ (commute : (s : Contents) (a b : Command) → conflicts a b ≡ false → (applied (applied s a).after b).after ≡ (applied (applied s b).after a).after)
    (second : (s : Contents) (a b : Command) → conflicts a b ≡ false → (applied (applied s a).after b).answer ≡ (applied s b).answer) where
  -- ---- answers

  answers_alone : (prefix : List Request) (c : Contents) (q : Request) → AllByRecursion (λ r. conflicts r.command q.command ≡ false) prefix → (applied (stored c prefix) q.command).answer ≡ (applied c q.command).answer
  answers_alone [] c q apart = refl
  answers_alone (r ∷ prefix) c q apart = answers_alone prefix (applied c r.command).after q apart.1 ∙ second c r.command q.command apart.0

  replayed_answer : (lo hi : ℕ) (log : List Entry) (rs : List Request) (j : ℕ) (q : Request) → IsDistinct clash rs → At rs j q → answer_after lo hi (log ++ ops (take j rs)) q.command ≡ answer_after lo hi log q.command
  replayed_answer lo hi log rs j q d h =
      ap (λ (c : Contents). (applied c q.command).answer) (log_stored lo hi log (take j rs)) ∙ answers_alone (take j rs) (meaning lo hi log).store q (prefix_apart rs j q d h)

  pub done_replayed : (lo hi : ℕ) (log : List Entry) (rs : List Request) (j : ℕ) (q : Request) → IsDistinct clash rs → At rs j q → IsDone lo hi (log ++ ops rs) q.id (answer_after lo hi log q.command)
  done_replayed lo hi log rs j q d h = record {
    index = length log + j;
    request = q;
    acknowledged = 0;
    stands = at_append_right log (ops rs) j _ (Op q 0) refl (at_map op_of rs j q h);
    its_id = refl;
    its_answer = ap (λ (es : List Entry). answer_after lo hi es q.command) (take_ops log rs j _ refl) ∙ replayed_answer lo hi log rs j q d h;
  }

  pub done_cases : (lo hi : ℕ) (log : List Entry) (rs : List Request) (id : RequestId) (a : Answer) → IsDistinct clash rs → IsDone lo hi (log ++ ops rs) id a
      → IsDone lo hi log id a ⊎ ((j : ℕ) × (q : Request) × At rs j q × (q.id ≡ id) × (answer_after lo hi log q.command ≡ a))
  done_cases lo hi log rs id a apart d =
      elim (at_append_cases log (ops rs) d.index (Op d.request d.acknowledged) d.stands) [
        | inl h ↦
            let within : d.index < length log = at_within log d.index _ h in
            inl (record {
              index = d.index;
              request = d.request;
              acknowledged = d.acknowledged;
              stands = h;
              its_id = d.its_id;
              its_answer = sym (ap (λ (es : List Entry). answer_after lo hi es d.request.command) (take-append-le d.index log (ops rs) (omega arith))) ∙ d.its_answer;
            })
        | inr h ↦
            let at : At rs h.0 d.request = op_in_ops rs h.0 d.request d.acknowledged h.2 in
            inr (
              h.0,
              d.request,
              at,
              d.its_id,
              sym (replayed_answer lo hi log rs h.0 d.request apart at)
                  ∙ sym (ap (λ (es : List Entry). answer_after lo hi es d.request.command) (take_ops log rs h.0 d.index h.1)) ∙ d.its_answer,
            )
      ]

  pub same_answers : (lo hi : ℕ) (log : List Entry) (rs ss : List Request) → IsDistinct clash rs → IsDistinct clash ss → IsPermutation rs ss → (id : RequestId) (a : Answer)
      → IsDone lo hi (log ++ ops rs) id a → IsDone lo hi (log ++ ops ss) id a
  same_answers lo hi log rs ss d e p id a done = elim (done_cases lo hi log rs id a d done) [
    | inl old ↦ done_longer lo hi log (ops ss) id a old
    | inr h ↦
        let m = members rs ss p h.0 h.1 h.2 in
        subst (λ (i : RequestId). IsDone lo hi (log ++ ops ss) i a) h.3
        (subst (λ (b : Answer). IsDone lo hi (log ++ ops ss) h.1.id b) h.4 (done_replayed lo hi log ss m.0 h.1 e m.1))
  ]

  only_answer : (lo hi : ℕ) (log : List Entry) (rs : List Request) (k : ℕ) (r : Request) (a : Answer) → IsDistinct clash rs → At rs k r → replays (meaning lo hi log) r ≡ true
      → IsDone lo hi (log ++ ops rs) r.id a → a ≡ answer_after lo hi log r.command
  only_answer lo hi log rs k r a apart h is_replayed done = elim (done_cases lo hi log rs r.id a apart done) [
    | inl old ↦ absurd (none_done lo hi log r a is_replayed old)
    | inr g ↦ sym g.4 ∙ ap (λ (x : Request). answer_after lo hi log x.command) (one_of_id rs apart g.0 k g.1 r g.2 h g.3)
  ]

  pub alone : (lo hi : ℕ) (log : List Entry) (rs : List Request) (k : ℕ) (r : Request) (a : Answer) → IsDistinct clash rs → At rs k r → replays (meaning lo hi log) r ≡ true
      → IsDone lo hi (replay lo hi log rs) r.id a ↔ (a ≡ answer_after lo hi log r.command)
  alone lo hi log rs k r a apart h is_replayed =
      let xs : List Request = kept lo hi log rs in
      let kept_apart : IsDistinct clash xs = filter_apart (replays (meaning lo hi log)) clash rs apart in
      let m = filter_at (replays (meaning lo hi log)) rs k r h is_replayed in
      subst (λ (es : List Entry). IsDone lo hi es r.id a ↔ (a ≡ answer_after lo hi log r.command)) (sym (replay_is lo hi rs log apart)) (
        only_answer lo hi log xs m.0 r a kept_apart m.1 is_replayed,
        λ e. subst (IsDone lo hi (log ++ ops xs) r.id) (sym e) (done_replayed lo hi log xs m.0 r kept_apart m.1),
      )

  -- ---- the store

  two_stored : (c : Contents) (r s : Request) (rs : List Request) → clash r s ≡ false → stored c (r ∷ s ∷ rs) ≡ stored c (s ∷ r ∷ rs)
  two_stored c r s rs apart = ap (λ (x : Contents). stored x rs) (commute c r.command s.command (no_conflict r s apart))

  -- the first and a later one in each other's place
  first_stored : (l : List Request) (j : ℕ) (x d : Request) → j < length l → IsDistinct clash (x ∷ l) → (c : Contents) → stored c (get_or l j d ∷ set l j x) ≡ stored c (x ∷ l)
  first_stored [] j x d within apart c = absurd (omega arith)
  first_stored (y ∷ l) zero x d within apart c = sym (two_stored c x y l (first_apart x (y ∷ l) apart).0)
  first_stored (z ∷ l) (suc j) x d within apart c =
      let y : Request = get_or l j d in
      let below : j < length l = omega arith in
      let z_apart : clash z y ≡ false = all_at (λ s. clash z s ≡ false) l (first_apart z l (rest_apart x (z ∷ l) apart)) j y (slice_get-get_or l j d below) in
      sym (two_stored c z y (set l j x) z_apart) ∙ first_stored l j x d below (without_second x z l apart) (applied c z.command).after ∙ sym (two_stored c x z l (first_apart x (z ∷ l) apart).0)

  exchanged_stored : (l : List Request) (i j : ℕ) (d : Request) → i < length l → j < length l → IsDistinct clash l → (c : Contents) → stored c (exchanged l i j d) ≡ stored c l
  exchanged_stored [] i j d below_i below_j apart c = absurd (omega arith)
  exchanged_stored (x ∷ l) zero zero d below_i below_j apart c = refl
  exchanged_stored (x ∷ l) zero (suc j) d below_i below_j apart c = first_stored l j x d (omega arith) apart c
  exchanged_stored (x ∷ l) (suc i) zero d below_i below_j apart c = first_stored l i x d (omega arith) apart c
  exchanged_stored (x ∷ l) (suc i) (suc j) d below_i below_j apart c = exchanged_stored l i j d (omega arith) (omega arith) (rest_apart x l apart) (applied c x.command).after

  swap_stored : (l : List Request) (i j : ℕ) → i < length l → j < length l → IsDistinct clash l → (c : Contents) → stored c (swap l i j) ≡ stored c l
  swap_stored [] i j below_i below_j apart c = refl
  swap_stored (x ∷ l) i j below_i below_j apart c = exchanged_stored (x ∷ l) i j x below_i below_j apart c

  pub same_store : (rs ss : List Request) → IsDistinct clash rs → IsPermutation rs ss → (c : Contents) → stored c ss ≡ stored c rs
  same_store rs ss d p =
      (IsPermutation-keeps rs (λ (l : List Request). IsDistinct clash l × ((c : Contents) → stored c l ≡ stored c rs)) (d, λ c. refl)
      (λ l i j below_i below_j h. (
        IsDistinct-IsPermutation clash clash_flips l (swap l i j) (IsPermutation-swap l (swap l i j) i j below_i below_j refl) h.0,
        λ c. swap_stored l i j below_i below_j h.0 c ∙ h.1 c,
      )) ss p).1

  -- ---- both

  pub alike : (lo hi : ℕ) (log : List Entry) (rs ss : List Request) → IsDistinct clash rs → IsPermutation rs ss → IsAlike lo hi (replay lo hi log rs) (replay lo hi log ss)
  alike lo hi log rs ss apart p =
      let others_apart : IsDistinct clash ss = IsDistinct-IsPermutation clash clash_flips rs ss p apart in
      let xs : List Request = kept lo hi log rs in
      let ys : List Request = kept lo hi log ss in
      let d : IsDistinct clash xs = filter_apart (replays (meaning lo hi log)) clash rs apart in
      let e : IsDistinct clash ys = filter_apart (replays (meaning lo hi log)) clash ss others_apart in
      let q : IsPermutation xs ys = filter_permutation (replays (meaning lo hi log)) rs ss p in
      subst (λ (es : List Entry). IsAlike lo hi es (replay lo hi log ss)) (sym (replay_is lo hi rs log apart))
      (subst (λ (es : List Entry). IsAlike lo hi (log ++ ops xs) es) (sym (replay_is lo hi ss log others_apart))
      (record {
        store = log_stored lo hi log xs ∙ sym (same_store xs ys d q (meaning lo hi log).store) ∙ sym (log_stored lo hi log ys);
        answers = λ id a. (same_answers lo hi log xs ys d e q id a, same_answers lo hi log ys xs e d (IsPermutation-sym xs ys q) id a);
      }))
