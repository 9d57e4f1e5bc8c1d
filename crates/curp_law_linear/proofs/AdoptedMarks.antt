-- The marks that an adoption leaves.
use Rattle.std.proofs.Common.{◌≡◌, ◌⊎◌, ◌<◌, ◌+◌, ◌||◌, ◌&&◌, ◌==◌, if◌then◌else◌, inl, inr, ℕ, zero, suc, Bool, true, false, not, cond, List, [], ◌∷◌, ◌++◌, map, refl, ap, sym, ◌∙◌, arith, append-nil, append_assoc}
use Rattle.std.specs.List.{filter, list_any}
use Rattle.std.proofs.lemmas.Bool.{and_parts}
use Rattle.std.proofs.lemmas.List.Folds.{list_any-append}
use Rattle.curp_base.specs.Words.{At}
use Rattle.curp_cmd.specs.RequestId.{same_id}
use Rattle.curp_cmd.specs.declared.command.Request.{Request}
use Rattle.curp_cmd.specs.declared.command.RequestId.{RequestId}
use Rattle.curp_cmd.specs.declared.node.NodeId.{NodeId}
use Rattle.curp_model.specs.Marks.{Cut, Executed, Looked, Mark, Quick, adopted, adoptions, cut_mark, executed, has_completed, is_dropped, is_past, is_update_mark, replayed_marks}
use Rattle.curp_law_kept.specs.Hashes.{In, asked, updates}
use Rattle.curp_order.specs.Order.{Asked}
use Rattle.curp_law_linear.proofs.Lists.{in_head, in_tail, or_none}

-- requests as those of the order
abbrev pub asked_all : List Request → List Asked
asked_all [] = []
asked_all (r ∷ rs) = (r.id, r.command) ∷ asked_all rs

-- the marks of those that aren't done
abbrev pub new_marks : (RequestId → Bool) → NodeId → ℕ → ℕ → ℕ → List Request → List Mark
new_marks done master part epoch index [] = []
new_marks done master part epoch index (r ∷ rs) =
    if done r.id then new_marks done master part epoch (index + 1) rs else executed master part epoch index r.id r.command ∷ new_marks done master part epoch (index + 1) rs

completed_same : (marks : List Mark) (master : NodeId) (part epoch index : ℕ) (r : Request) (id : RequestId) → has_completed (marks ++ executed master part epoch index r.id r.command ∷ []) id ≡ has_completed marks id
completed_same marks master part epoch index r id =
    list_any-append (λ (m : Mark). m.completed && same_id m.id id) marks (executed master part epoch index r.id r.command ∷ []) ∙ or_none (has_completed marks id)

-- the marks of what is replayed come behind
pub replayed_is : (master : NodeId) (part epoch index : ℕ) (rs : List Request) (marks : List Mark) → replayed_marks master part epoch index rs marks ≡ marks ++ new_marks (has_completed marks) master part epoch index rs
replayed_is master part epoch index [] marks = sym (append-nil marks)
replayed_is master part epoch index (r ∷ rs) marks =
    let e : Mark = executed master part epoch index r.id r.command in
    let same : has_completed (marks ++ e ∷ []) ≡ has_completed marks = λ i id. completed_same marks master part epoch index r id i in
    go (has_completed marks r.id) (replayed_is master part epoch (index + 1) rs marks)
    (replayed_is master part epoch (index + 1) rs (marks ++ e ∷ []) ∙ append_assoc marks (e ∷ []) _ ∙ ap (λ (done : RequestId → Bool). marks ++ e ∷ new_marks done master part epoch (index + 1) rs) same)
  where
    go : (b : Bool) → replayed_marks master part epoch (index + 1) rs marks ≡ marks ++ new_marks (has_completed marks) master part epoch (index + 1) rs
        → replayed_marks master part epoch (index + 1) rs (marks ++ executed master part epoch index r.id r.command ∷ []) ≡ marks ++ executed master part epoch index r.id r.command ∷ new_marks (has_completed marks) master part epoch (index + 1) rs
        → replayed_marks master part epoch (index + 1) rs (cond b marks (marks ++ executed master part epoch index r.id r.command ∷ []))
        ≡ marks ++ cond b (new_marks (has_completed marks) master part epoch (index + 1) rs) (executed master part epoch index r.id r.command ∷ new_marks (has_completed marks) master part epoch (index + 1) rs)
    go true f g = f
    go false f g = g

-- a filter that keeps what passes another test leaves whether any passes that
pub any_filter : {A : Type 0} (p q : A → Bool) (xs : List A) → ((x : A) → p x ≡ true → q x ≡ true) → list_any p (filter q xs) ≡ list_any p xs
any_filter p q [] f = refl
any_filter {A} p q (x ∷ xs) f = go (q x) (p x) refl refl (any_filter p q xs f)
  where
    go : (b c : Bool) → q x ≡ b → p x ≡ c → list_any p (filter q xs) ≡ list_any p xs → list_any p (cond b (x ∷ filter q xs) (filter q xs)) ≡ (p x || list_any p xs)
    go true c e g ih = ap (λ (d : Bool). p x || d) ih
    go false true e g ih = absurd (let bad : false ≡ true = sym e ∙ f x g in cc)
    go false false e g ih = ih ∙ ap (λ (d : Bool). d || list_any p xs) (sym g)

-- what is flagged isn't dropped
pub flagged_stays : (part cut : ℕ) (m : Mark) → m.completed ≡ true → not (is_dropped part cut m) ≡ true
flagged_stays part cut m f = go (m.part == part) m.completed (is_past cut m.place) f
  where
    go : (a c b : Bool) → c ≡ true → not ((a && not c) && b) ≡ true
    go true true b e = refl
    go false true b e = refl
    go a false b e = absurd cc

-- the mark stays at an adoption
abbrev pub stays : ℕ → ℕ → Mark → Bool
stays part cut m = not (is_dropped part cut m)

-- whether a request has a flagged mark stays
pub completed_stay : (part cut : ℕ) (marks : List Mark) (id : RequestId) → has_completed (filter (stays part cut) marks) id ≡ has_completed marks id
completed_stay part cut marks id =
    any_filter (λ (m : Mark). m.completed && same_id m.id id) (stays part cut) marks (λ m y. flagged_stays part cut m (and_parts m.completed (same_id m.id id) y).0)

-- the mark of the adoption
abbrev pub the_cut : NodeId → ℕ → ℕ → ℕ → List Mark → Mark
the_cut master part epoch cut marks = cut_mark master part epoch (adoptions part marks + 1) cut

-- the marks that come with it: its own, and those of what is replayed
abbrev pub fresh_of : NodeId → ℕ → ℕ → ℕ → List Request → List Mark → List Mark
fresh_of master part epoch cut rs marks = the_cut master part epoch cut marks ∷ new_marks (has_completed marks) master part epoch cut rs

cut_completes : (marks : List Mark) (c : Mark) → c.completed ≡ false → (id : RequestId) → has_completed (marks ++ c ∷ []) id ≡ has_completed marks id
cut_completes marks c f id =
    list_any-append (λ (m : Mark). m.completed && same_id m.id id) marks (c ∷ []) ∙ ap (λ (b : Bool). has_completed marks id || ((b && same_id c.id id) || false)) f ∙ or_none (has_completed marks id)

-- the marks after an adoption: those that stay, and behind them its own and those of what is replayed
pub adopted_is : (master : NodeId) (part epoch cut : ℕ) (rs : List Request) (marks : List Mark)
    → adopted master part epoch cut rs marks ≡ filter (stays part cut) marks ++ fresh_of master part epoch cut rs marks
adopted_is master part epoch cut rs marks =
    let kept : List Mark = filter (stays part cut) marks in
    let c : Mark = the_cut master part epoch cut marks in
    let same : has_completed (kept ++ c ∷ []) ≡ has_completed marks = λ i id. (cut_completes kept c refl id ∙ completed_stay part cut marks id) i in
    replayed_is master part epoch cut rs (kept ++ c ∷ [])
    ∙ append_assoc kept (c ∷ []) (new_marks (has_completed (kept ++ c ∷ [])) master part epoch cut rs)
    ∙ ap (λ (done : RequestId → Bool). kept ++ c ∷ new_marks done master part epoch cut rs) same

-- what the new marks stand for
pub new_updates : (done : RequestId → Bool) (master : NodeId) (part epoch index : ℕ) (rs : List Request) → updates (new_marks done master part epoch index rs) ≡ filter (λ (x : Asked). not (done x.0)) (asked_all rs)
new_updates done master part epoch index [] = refl
new_updates done master part epoch index (r ∷ rs) = go (done r.id) (new_updates done master part epoch (index + 1) rs)
  where
    go : (b : Bool) → updates (new_marks done master part epoch (index + 1) rs) ≡ filter (λ (x : Asked). not (done x.0)) (asked_all rs)
        → updates (cond b (new_marks done master part epoch (index + 1) rs) (executed master part epoch index r.id r.command ∷ new_marks done master part epoch (index + 1) rs))
        ≡ cond (not b) ((r.id, r.command) ∷ filter (λ (x : Asked). not (done x.0)) (asked_all rs)) (filter (λ (x : Asked). not (done x.0)) (asked_all rs))
    go true ih = ih
    go false ih = ap (λ (l : List Asked). (r.id, r.command) ∷ l) ih

-- each new mark is that of a replayed request, at its index
pub new_mark_at : (done : RequestId → Bool) (master : NodeId) (part epoch index : ℕ) (rs : List Request) (k : ℕ) (m : Mark) → At (new_marks done master part epoch index rs) k m
    → (j : ℕ) × (r : Request) × At rs j r × (m ≡ executed master part epoch (index + j) r.id r.command) × (done r.id ≡ false)
new_mark_at done master part epoch index [] k m h = absurd cc
new_mark_at done master part epoch index (r ∷ rs) k m h = go (done r.id) refl k h (λ j g. new_mark_at done master part epoch (index + 1) rs j m g)
  where
    later : (j : ℕ) × (q : Request) × At rs j q × (m ≡ executed master part epoch (index + 1 + j) q.id q.command) × (done q.id ≡ false)
        → (j : ℕ) × (q : Request) × At (r ∷ rs) j q × (m ≡ executed master part epoch (index + j) q.id q.command) × (done q.id ≡ false)
    later w =
        let same : index + 1 + w.0 ≡ index + suc w.0 = omega arith in
        (suc w.0, w.1, w.2, w.3 ∙ ap (λ (n : ℕ). executed master part epoch n w.1.id w.1.command) same, w.4)

    go : (b : Bool) → done r.id ≡ b → (k : ℕ) → At (cond b (new_marks done master part epoch (index + 1) rs) (executed master part epoch index r.id r.command ∷ new_marks done master part epoch (index + 1) rs)) k m
        → ((j : ℕ) → At (new_marks done master part epoch (index + 1) rs) j m → (j : ℕ) × (q : Request) × At rs j q × (m ≡ executed master part epoch (index + 1 + j) q.id q.command) × (done q.id ≡ false))
        → (j : ℕ) × (q : Request) × At (r ∷ rs) j q × (m ≡ executed master part epoch (index + j) q.id q.command) × (done q.id ≡ false)
    go true e k h ih = later (ih k h)
    go false e zero h ih =
        let is : executed master part epoch index r.id r.command ≡ m = cc in
        let same : index ≡ index + 0 = omega arith in
        (0, r, refl, sym is ∙ ap (λ (n : ℕ). executed master part epoch n r.id r.command) same, e)
    go false e (suc k) h ih = later (ih k h)

-- each fresh mark is the adoption's, or that of a replayed request
pub fresh_mark_at : (master : NodeId) (part epoch cut : ℕ) (rs : List Request) (marks : List Mark) (k : ℕ) (m : Mark) → At (fresh_of master part epoch cut rs marks) k m
    → ((k ≡ 0) × (the_cut master part epoch cut marks ≡ m)) ⊎ ((j : ℕ) × (r : Request) × At rs j r × (m ≡ executed master part epoch (cut + j) r.id r.command) × (has_completed marks r.id ≡ false))
fresh_mark_at master part epoch cut rs marks zero m h = inl (refl, cc)
fresh_mark_at master part epoch cut rs marks (suc k) m h = inr (new_mark_at (has_completed marks) master part epoch cut rs k m h)

-- none is a look
pub fresh_no_look : (master : NodeId) (part epoch cut : ℕ) (rs : List Request) (marks : List Mark) (k : ℕ) (m : Mark) → At (fresh_of master part epoch cut rs marks) k m → (number long : ℕ) → m.place ≡ Looked number long → ⊥
fresh_no_look master part epoch cut rs marks k m h number long look = elim (fresh_mark_at master part epoch cut rs marks k m h) [
  | inl c ↦ let e : Cut (adoptions part marks + 1) cut ≡ Looked number long = ap (λ (y : Mark). y.place) c.1 ∙ look in cc
  | inr n ↦ let e : Executed (cut + n.0) ≡ Looked number long = sym (ap (λ (y : Mark). y.place) n.3) ∙ look in cc
]

-- nor flagged
pub fresh_no_flag : (master : NodeId) (part epoch cut : ℕ) (rs : List Request) (marks : List Mark) (k : ℕ) (m : Mark) → At (fresh_of master part epoch cut rs marks) k m → m.completed ≡ false
fresh_no_flag master part epoch cut rs marks k m h = elim (fresh_mark_at master part epoch cut rs marks k m h) [
  | inl c ↦ ap (λ (y : Mark). y.completed) (sym c.1)
  | inr n ↦ ap (λ (y : Mark). y.completed) n.3
]

-- a filter of marks, as one of the order
pub filter_updates : (q : Mark → Bool) (keep : Asked → Bool) (marks : List Mark) → ((m : Mark) → In m marks → is_update_mark m.place ≡ true → q m ≡ keep (asked m)) → updates (filter q marks) ≡ filter keep (updates marks)
filter_updates q keep [] f = refl
filter_updates q keep (m ∷ marks) f = go (q m) (is_update_mark m.place) refl refl (filter_updates q keep marks (λ o n. f o (in_tail o m marks n)))
  where
    go : (a b : Bool) → q m ≡ a → is_update_mark m.place ≡ b → updates (filter q marks) ≡ filter keep (updates marks)
        → updates (cond a (m ∷ filter q marks) (filter q marks)) ≡ filter keep (map asked (cond b (m ∷ filter (λ (o : Mark). is_update_mark o.place) marks) (filter (λ (o : Mark). is_update_mark o.place) marks)))
    go true true e u ih =
        let k : keep (asked m) ≡ true = sym (f m (in_head m marks) u) ∙ e in
        ap (λ (b : Bool). map asked (cond b (m ∷ filter (λ (o : Mark). is_update_mark o.place) (filter q marks)) (filter (λ (o : Mark). is_update_mark o.place) (filter q marks)))) u
        ∙ ap (λ w. asked m ∷ w) ih ∙ ap (λ (b : Bool). cond b (asked m ∷ filter keep (updates marks)) (filter keep (updates marks))) (sym k)
    go true false e u ih =
        ap (λ (b : Bool). map asked (cond b (m ∷ filter (λ (o : Mark). is_update_mark o.place) (filter q marks)) (filter (λ (o : Mark). is_update_mark o.place) (filter q marks)))) u ∙ ih
    go false true e u ih =
        let k : keep (asked m) ≡ false = sym (f m (in_head m marks) u) ∙ e in
        ih ∙ ap (λ (b : Bool). cond b (asked m ∷ filter keep (updates marks)) (filter keep (updates marks))) (sym k)
    go false false e u ih = ih

-- a filter keeps the order of places
pub filter_order : {A : Type 0} (q : A → Bool) (xs : List A) (j k : ℕ) (x y : A) → At (filter q xs) j x → At (filter q xs) k y → j < k → (i : ℕ) × (l : ℕ) × At xs i x × At xs l y × (i < l)
filter_order q [] j k x y hj hk lt = absurd cc
filter_order {A} q (z ∷ xs) j k x y hj hk lt = go (q z) j k hj hk lt (λ a b ha hb ab. filter_order q xs a b x y ha hb ab) (λ b hb. back b hb)
  where
    back : (b : ℕ) → At (filter q xs) b y → (l : ℕ) × At xs l y
    back b hb = from q xs b y hb
      where
        from : (q : A → Bool) (xs : List A) (b : ℕ) (y : A) → At (filter q xs) b y → (l : ℕ) × At xs l y
        from q [] b y h = absurd cc
        from q (w ∷ xs) b y h = one (q w) b h (λ c g. from q xs c y g)
          where
            one : (d : Bool) (b : ℕ) → At (cond d (w ∷ filter q xs) (filter q xs)) b y → ((c : ℕ) → At (filter q xs) c y → (l : ℕ) × At xs l y) → (l : ℕ) × At (w ∷ xs) l y
            one true zero h ih = (0, h)
            one true (suc b) h ih = let r = ih b h in (suc r.0, r.1)
            one false b h ih = let r = ih b h in (suc r.0, r.1)

    go : (d : Bool) (j k : ℕ) → At (cond d (z ∷ filter q xs) (filter q xs)) j x → At (cond d (z ∷ filter q xs) (filter q xs)) k y → j < k
        → ((a b : ℕ) → At (filter q xs) a x → At (filter q xs) b y → a < b → (i : ℕ) × (l : ℕ) × At xs i x × At xs l y × (i < l)) → ((b : ℕ) → At (filter q xs) b y → (l : ℕ) × At xs l y)
        → (i : ℕ) × (l : ℕ) × At (z ∷ xs) i x × At (z ∷ xs) l y × (i < l)
    go true zero zero hj hk lt ih rest = absurd (omega arith)
    go true zero (suc k) hj hk lt ih rest = let r = rest k hk in (0, suc r.0, hj, r.1, omega arith)
    go true (suc j) zero hj hk lt ih rest = absurd (omega arith)
    go true (suc j) (suc k) hj hk lt ih rest = let r = ih j k hj hk (omega arith) in (suc r.0, suc r.1, r.2, r.3, omega (arith, r.4))
    go false j k hj hk lt ih rest = let r = ih j k hj hk lt in (suc r.0, suc r.1, r.2, r.3, omega (arith, r.4))
