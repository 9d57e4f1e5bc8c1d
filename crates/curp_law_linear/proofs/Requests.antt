-- Requests of which no two clash, and the ops of entries.
use Rattle.std.proofs.Common.{◌≡◌, ℕ, zero, suc, ◌+◌, ◌==◌, inl, inr, Bool, true, false, cond, List, [], ◌∷◌, ◌++◌, take, length, Some, refl, ap, sym, ◌∙◌, arith}
use Rattle.std.specs.List.{IsDistinct, list_any}
use Rattle.std.proofs.lemmas.Bool.{eqb-true, or_parts}
use Rattle.curp_base.specs.Words.{At}
use Rattle.curp_base.proofs.Lists.{Each-from_at}
use Rattle.curp_range.specs.Spans.{is_in}
use Rattle.curp_cmd.specs.Hash.{conflicts, hashes_of, touches}
use Rattle.curp_cmd.specs.declared.command.Command.{Command}
use Rattle.curp_cmd.specs.declared.command.Request.{Request}
use Rattle.curp_cmd.specs.declared.entry.Entry.{Entry}
use Rattle.curp_cmd.specs.declared.entry.Entry.TheVariants.{Expire, Give, Op, Take}
use Rattle.curp_model.specs.Laws.{clash}
use Rattle.curp_model.specs.Log.{LogState, after_entries, after_entry, entry_touches, meaning}
use Rattle.curp_model.proofs.Clashes.{all_at, first_apart, no_conflict, one_id_clashes, rest_apart}
use Rattle.curp_model.proofs.Logs.{meaning_append}
use Rattle.curp_law_kept.specs.Hashes.{In, on}
use Rattle.curp_order.specs.Order.{Asked}
use Rattle.curp_law_linear.specs.Moves.{ops}
use Rattle.curp_law_linear.proofs.AdoptedMarks.{asked_all}
use Rattle.curp_law_linear.proofs.Lists.{Distinct, in_any, in_cons, in_none, in_tail}
use Rattle.curp_base.proofs.Numbered.{any_at}
use Rattle.curp_law_linear.proofs.Orders.{asked_of}

pub asked_all_in : (rs : List Request) (x : Asked) → In x (asked_all rs) → (j : ℕ) × (r : Request) × At rs j r × ((r.id, r.command) ≡ x)
asked_all_in [] x m = in_none x _ m
asked_all_in (r ∷ rs) x m = elim (in_cons x (r.id, r.command) (asked_all rs) m) [
  | inl same ↦ (0, r, refl, same)
  | inr later ↦ let w = asked_all_in rs x later in (suc w.0, w.1, w.2, w.3)
]

pub in_asked_all : (rs : List Request) (j : ℕ) (r : Request) → At rs j r → In (r.id, r.command) (asked_all rs)
in_asked_all [] j r h = absurd cc
in_asked_all (q ∷ rs) zero r h = let same : q ≡ r = cc in (0, ap (λ (x : Request). Some (x.id, x.command)) same)
in_asked_all (q ∷ rs) (suc j) r h = in_tail _ _ (asked_all rs) (in_asked_all rs j r h)

pub asked_of_in : (es : List Entry) (x : Asked) → In x (asked_of es) → (k : ℕ) × (r : Request) × (a : ℕ) × At es k (Op r a) × ((r.id, r.command) ≡ x)
asked_of_in [] x m = in_none x _ m
asked_of_in (Op r a ∷ es) x m = elim (in_cons x (r.id, r.command) (asked_of es) m) [
  | inl same ↦ (0, r, a, refl, same)
  | inr later ↦ let w = asked_of_in es x later in (suc w.0, w.1, w.2, w.3, w.4)
]
asked_of_in (Take n k ∷ es) x m = let w = asked_of_in es x m in (suc w.0, w.1, w.2, w.3, w.4)
asked_of_in (Give n k ∷ es) x m = let w = asked_of_in es x m in (suc w.0, w.1, w.2, w.3, w.4)
asked_of_in (Expire c ∷ es) x m = let w = asked_of_in es x m in (suc w.0, w.1, w.2, w.3, w.4)

pub in_asked_of : (es : List Entry) (k : ℕ) (r : Request) (a : ℕ) → At es k (Op r a) → In (r.id, r.command) (asked_of es)
in_asked_of [] k r a h = absurd cc
in_asked_of (Op q b ∷ es) zero r a h = let same : q ≡ r = cc in (0, ap (λ (x : Request). Some (x.id, x.command)) same)
in_asked_of (Take n p ∷ es) zero r a h = absurd cc
in_asked_of (Give n p ∷ es) zero r a h = absurd cc
in_asked_of (Expire c ∷ es) zero r a h = absurd cc
in_asked_of (Op q b ∷ es) (suc k) r a h = in_tail _ _ (asked_of es) (in_asked_of es k r a h)
in_asked_of (Take n p ∷ es) (suc k) r a h = in_asked_of es k r a h
in_asked_of (Give n p ∷ es) (suc k) r a h = in_asked_of es k r a h
in_asked_of (Expire c ∷ es) (suc k) r a h = in_asked_of es k r a h

abbrev OpsOnce : List Entry → Type 0
OpsOnce es = (i j : ℕ) (r s : Request) (a b : ℕ) → At es i (Op r a) → At es j (Op s b) → r.id ≡ s.id → i ≡ j

ops_tail : (e : Entry) (es : List Entry) → OpsOnce (e ∷ es) → OpsOnce es
ops_tail e es once i j r s a b hi hj same = let n : suc i ≡ suc j = once (suc i) (suc j) r s a b hi hj same in omega arith

-- no op stands twice
pub distinct_asked_of : (es : List Entry) → OpsOnce es → Distinct (asked_of es)
distinct_asked_of [] once = tt
distinct_asked_of (Op r a ∷ es) once = (
  Each-from_at _ (asked_of es) (λ k x h same.
      let w = asked_of_in es x (k, h) in
      let n : 0 ≡ suc w.0 = once 0 (suc w.0) r w.1 a w.2 refl w.3 (same ∙ ap (λ (y : Asked). y.0) (sym w.4)) in absurd (omega arith)),
  distinct_asked_of es (ops_tail (Op r a) es once),
)
distinct_asked_of (Take n p ∷ es) once = distinct_asked_of es (ops_tail (Take n p) es once)
distinct_asked_of (Give n p ∷ es) once = distinct_asked_of es (ops_tail (Give n p) es once)
distinct_asked_of (Expire c ∷ es) once = distinct_asked_of es (ops_tail (Expire c) es once)

-- of requests that don't clash no id stands twice
pub distinct_asked_all : (rs : List Request) → IsDistinct clash rs → Distinct (asked_all rs)
distinct_asked_all [] d = tt
distinct_asked_all (r ∷ rs) d = (
  Each-from_at _ (asked_all rs) (λ k x h same.
      let w = asked_all_in rs x (k, h) in
      let apart : clash r w.1 ≡ false = all_at (λ (s : Request). clash r s ≡ false) rs (first_apart r rs d) w.0 w.1 w.2 in
      let bad : true ≡ false = sym (one_id_clashes r w.1 (same ∙ ap (λ (y : Asked). y.0) (sym w.3))) ∙ apart in absurd cc),
  distinct_asked_all rs (rest_apart r rs d),
)

touch_conflict : (a b : Command) (h : ℕ) → touches a h ≡ true → touches b h ≡ true → conflicts a b ≡ true
touch_conflict a b h ta tb =
    let w = any_at (λ (x : ℕ). x == h) (hashes_of a) ta in
    in_any (touches b) (hashes_of a) w.1 (w.0, w.2) (ap (touches b) (eqb-true w.1 h w.3) ∙ tb)

-- two that touch one hash are one
pub one_on : (rs : List Request) → IsDistinct clash rs → (j k : ℕ) (q r : Request) (h : ℕ) → At rs j q → At rs k r → touches q.command h ≡ true → touches r.command h ≡ true → q ≡ r
one_on [] d j k q r h hq hr tq tr = absurd cc
one_on (x ∷ rs) d zero zero q r h hq hr tq tr = cc
one_on (x ∷ rs) d zero (suc k) q r h hq hr tq tr =
    let same : x ≡ q = cc in
    let apart : clash x r ≡ false = all_at (λ (s : Request). clash x s ≡ false) rs (first_apart x rs d) k r hr in
    let bad : true ≡ false = sym (touch_conflict x.command r.command h (ap (λ (y : Request). touches y.command h) same ∙ tq) tr) ∙ no_conflict x r apart in
    absurd cc
one_on (x ∷ rs) d (suc j) zero q r h hq hr tq tr =
    let same : x ≡ r = cc in
    let apart : clash x q ≡ false = all_at (λ (s : Request). clash x s ≡ false) rs (first_apart x rs d) j q hq in
    let bad : true ≡ false = sym (touch_conflict x.command q.command h (ap (λ (y : Request). touches y.command h) same ∙ tr) tq) ∙ no_conflict x q apart in
    absurd cc
one_on (x ∷ rs) d (suc j) (suc k) q r h hq hr tq tr = one_on rs (rest_apart x rs d) j k q r h hq hr tq tr

-- ops take and give no hash
ops_owned : (rs : List Request) (s : LogState) (k : ℕ) → (after_entries s k (ops rs)).owned ≡ s.owned
unfolding after_entry
ops_owned [] s k = refl
ops_owned (r ∷ rs) s k = ops_owned rs (after_entry s k (Op r 0)) (k + 1)

-- what is replayed changes nothing of what is owned
pub owned_ops : (lo hi : ℕ) (log : List Entry) (rs : List Request) → (meaning lo hi (log ++ ops rs)).owned ≡ (meaning lo hi log).owned
owned_ops lo hi log rs = ap (λ (s : LogState). s.owned) (meaning_append lo hi log (ops rs)) ∙ ops_owned rs (meaning lo hi log) (length log)

-- what is replayed are ops
pub ops_any : (p : Entry → Bool) → ((r : Request) → p (Op r 0) ≡ false) → (rs : List Request) → list_any p (ops rs) ≡ false
ops_any p none [] = refl
ops_any p none (r ∷ rs) = rw (none r) (ops_any p none rs)

-- what replayed ops stand for
pub asked_of_ops : (rs : List Request) → asked_of (ops rs) ≡ asked_all rs
asked_of_ops [] = refl
asked_of_ops (r ∷ rs) = ap (λ (l : List Asked). (r.id, r.command) ∷ l) (asked_of_ops rs)

-- an op with nothing before it on its hash is the first there
pub first_on : (h : ℕ) (es : List Entry) (k : ℕ) (r : Request) (a : ℕ) → At es k (Op r a) → list_any (λ (e : Entry). entry_touches e h) (take k es) ≡ false → touches r.command h ≡ true
    → (rest : List Asked) × (on h (asked_of es) ≡ (r.id, r.command) ∷ rest)
first_on h [] k r a at quiet t = absurd cc
first_on h (Op q b ∷ es) zero r a at quiet t =
    let same : q ≡ r = cc in
    let tq : touches q.command h ≡ true = ap (λ (x : Request). touches x.command h) same ∙ t in
    (on h (asked_of es), ap (λ (c : Bool). cond c ((q.id, q.command) ∷ on h (asked_of es)) (on h (asked_of es))) tq ∙ ap (λ (x : Request). (x.id, x.command) ∷ on h (asked_of es)) same)
first_on h (Take n p ∷ es) zero r a at quiet t = absurd cc
first_on h (Give n p ∷ es) zero r a at quiet t = absurd cc
first_on h (Expire c ∷ es) zero r a at quiet t = absurd cc
first_on h (Op q b ∷ es) (suc k) r a at quiet t =
    let c = or_parts (touches q.command h) _ quiet in
    let w = first_on h es k r a at c.1 t in
    (w.0, ap (λ (d : Bool). cond d ((q.id, q.command) ∷ on h (asked_of es)) (on h (asked_of es))) c.0 ∙ w.1)
first_on h (Take n p ∷ es) (suc k) r a at quiet t = first_on h es k r a at (or_parts (is_in p.lo p.hi h) _ quiet).1 t
first_on h (Give n p ∷ es) (suc k) r a at quiet t = first_on h es k r a at (or_parts (is_in p.lo p.hi h) _ quiet).1 t
first_on h (Expire c ∷ es) (suc k) r a at quiet t = first_on h es k r a at quiet t
