-- Requests whose numbers rise, as they come and go.
use Rattle.std.proofs.Common.{◌≡◌, ◌≢◌, ℕ, zero, suc, ◌<◌, Bool, true, false, not, cond, List, [], ◌∷◌, ◌++◌, slice_set, slice_index_or, Option, Some, None, refl, sym, ap, ◌∙◌, arith}
use Rattle.std.specs.List.{filter, position}
use Rattle.std.specs.Option.{MatchOption}
use Rattle.std.proofs.lemmas.Option.{slice_get-get_or}
use Rattle.curp_base.specs.Words.{At, Each}
use Rattle.curp_base.proofs.Lists.{Each-append, Each-at, Each-filter}
use Rattle.curp_cmd.proofs.Ids.{same_id-true, same_id-self}
use Rattle.curp_cmd.specs.RequestId.{same_id}
use Rattle.curp_cmd.specs.declared.command.Request.{Request}
use Rattle.curp_cmd.specs.declared.command.RequestId.{RequestId}
use Rattle.curp_model.specs.Client.{Pending, replaced, with_id, without_id, NumbersRise}
use Rattle.curp_client.proofs.Found.{first_at, first_nowhere}
use Rattle.curp_client.specs.Evidence.{kept}
use Rattle.curp_client.specs.Requests.{Changes}
use Rattle.curp_client.specs.declared.evidence.Evidence.{Evidence}
use Rattle.curp_client.specs.declared.evidence.Evidence.TheVariants.{Reply, Accept, Quick, Live}

-- ---- one comes

-- one with a higher number comes behind the others
pub rise_pushed : (pending : List Pending) (p : Pending) → NumbersRise pending → Each (λ (q : Pending). q.request.id.seq < p.request.id.seq) pending → NumbersRise (pending ++ p ∷ [])
rise_pushed [] p rise below = (tt, tt)
rise_pushed (q ∷ rest) p rise below =
    (Each-append (λ (s : Pending). q.request.id.seq < s.request.id.seq) rest (p ∷ []) rise.0 (below.0, tt), rise_pushed rest p rise.1 below.1)

-- ---- one goes

rise_filter : (t : Pending → Bool) (xs : List Pending) → NumbersRise xs → NumbersRise (filter t xs)
rise_filter t [] rise = tt
rise_filter t (x ∷ xs) rise = go (t x) (rise_filter t xs rise.1)
  where
    go : (b : Bool) → NumbersRise (filter t xs) → NumbersRise (cond b (x ∷ filter t xs) (filter t xs))
    go true rest = (Each-filter (λ (q : Pending). x.request.id.seq < q.request.id.seq) t xs rise.0, rest)
    go false rest = rest

-- those that are left still rise
pub rise_without : (pending : List Pending) (id : RequestId) → NumbersRise pending → NumbersRise (without_id id pending)
rise_without pending id rise = rise_filter (λ (p : Pending). not (same_id p.request.id id)) pending rise

-- ---- one is replaced

abbrev in_place : Pending → Pending → Pending
in_place new p = cond (same_id p.request.id new.request.id) new p

same_seq : (new p : Pending) → (in_place new p).request.id.seq ≡ p.request.id.seq
same_seq new p = go (same_id p.request.id new.request.id) refl
  where
    go : (b : Bool) → same_id p.request.id new.request.id ≡ b → (cond b new p).request.id.seq ≡ p.request.id.seq
    go true e = ap (λ (id : RequestId). id.seq) (sym (same_id-true p.request.id new.request.id e))
    go false e = refl

-- the numbers stay
pub each_replaced : (P : ℕ → Type 0) (new : Pending) (xs : List Pending) → Each (λ (p : Pending). P p.request.id.seq) xs → Each (λ (p : Pending). P p.request.id.seq) (replaced new xs)
each_replaced P new [] e = tt
each_replaced P new (x ∷ xs) e = (rw (same_seq new x) e.0, each_replaced P new xs e.1)

pub rise_replaced : (new : Pending) (xs : List Pending) → NumbersRise xs → NumbersRise (replaced new xs)
rise_replaced new [] rise = tt
rise_replaced new (x ∷ xs) rise = (rw (same_seq new x) (each_replaced (λ n. x.request.id.seq < n) new xs rise.0), rise_replaced new xs rise.1)

other_id : (a b : RequestId) → a.seq ≢ b.seq → same_id a b ≡ false
other_id a b other = go (same_id a b) refl
  where
    go : (t : Bool) → same_id a b ≡ t → t ≡ false
    go true e = absurd (other (ap (λ (id : RequestId). id.seq) (same_id-true a b e)))
    go false e = refl

lower_id : (a b : RequestId) → a.seq < b.seq → same_id a b ≡ false
lower_id a b l = other_id a b (λ e. omega arith)

higher_id : (a b : RequestId) → a.seq < b.seq → same_id b a ≡ false
higher_id a b l = other_id b a (λ e. omega arith)

some_is : {A : Type 0} {x y : A} → Some x ≡ Some y → x ≡ y
some_is e = cc

-- one of a higher number isn't replaced

none_replaced : (new : Pending) (xs : List Pending) → Each (λ (q : Pending). new.request.id.seq < q.request.id.seq) xs → replaced new xs ≡ xs
none_replaced new [] above = refl
none_replaced new (x ∷ xs) above = rw (higher_id new.request.id x.request.id above.0) (ap (λ ys. x ∷ ys) (none_replaced new xs above.1))

set_replaces : (xs : List Pending) (at : ℕ) (q new : Pending) → NumbersRise xs → At xs at q → new.request.id ≡ q.request.id → slice_set xs at new ≡ replaced new xs
set_replaces [] at q new rise here same = absurd cc
set_replaces (x ∷ xs) zero q new rise here same =
    let own : new.request.id ≡ x.request.id = same ∙ sym (ap (λ (p : Pending). p.request.id) (some_is here)) in
    let seq : new.request.id.seq ≡ x.request.id.seq = ap (λ (id : RequestId). id.seq) own in
    let above : Each (λ (p : Pending). new.request.id.seq < p.request.id.seq) xs = rw seq rise.0 in
    rw (sym own, same_id-self new.request.id, none_replaced new xs above) refl
set_replaces (x ∷ xs) (suc at) q new rise here same =
    let above : x.request.id.seq < q.request.id.seq = Each-at (λ (p : Pending). x.request.id.seq < p.request.id.seq) xs rise.0 at q here in
    let below : x.request.id.seq < new.request.id.seq = rw same above in
    rw (lower_id x.request.id new.request.id below) (ap (λ ys. x ∷ ys) (set_replaces xs at q new rise.1 here same))

-- ---- one changes

-- there is none of that id
pub unchanged : (items now : List Pending) (id : RequestId) (f : Pending → Pending) → items ≡ now → None ≡ position (λ (p : Pending). same_id p.request.id id) items → Changes now now id f
unchanged items now id f before none = rw (sym before, first_nowhere (λ (p : Pending). same_id p.request.id id) items none) refl

-- the one that was found at a place has changed, but for what it asks
module _ (items : List Pending) (id : RequestId) (at : ℕ) (q new : Pending) (rise : NumbersRise items) (found : Some at ≡ position (λ (p : Pending). same_id p.request.id id) items) (is : q ≡ slice_index_or items at q) where
  here : At items at q
  here =
      let first = first_at (λ (p : Pending). same_id p.request.id id) items at found in
      slice_get-get_or items at q first.0 ∙ ap Some (sym is)

  -- it is the one of that id
  pub found_is : with_id id items ≡ Some q
  found_is = (first_at (λ (p : Pending). same_id p.request.id id) items at found).1 ∙ here

  pub changed : (now : List Pending) (f : Pending → Pending) → items ≡ now → new ≡ f q → ((p : Pending) → (f p).request ≡ p.request) → Changes now (slice_set items at new) id f
  changed now f before made same =
      let own : new.request.id ≡ q.request.id = ap (λ (p : Pending). p.request.id) made ∙ ap (λ (r : Request). r.id) (same q) in
      rw (sym before, found_is) (set_replaces items at q new rise here own ∙ rw made refl)

-- the numbers stay
pub each_changed : (P : ℕ → Type 0) (old new : List Pending) (id : RequestId) (f : Pending → Pending) → Changes old new id f
    → Each (λ (p : Pending). P p.request.id.seq) old → Each (λ (p : Pending). P p.request.id.seq) new
each_changed P old new id f changes each = go (with_id id old) changes
  where
    go : (o : Option Pending) → MatchOption o (new ≡ old) (λ p. new ≡ replaced (f p) old) → Each (λ (p : Pending). P p.request.id.seq) new
    go None is = rw is each
    go (Some p) is = rw is (each_replaced P (f p) old each)

pub rise_changed : (old new : List Pending) (id : RequestId) (f : Pending → Pending) → Changes old new id f → NumbersRise old → NumbersRise new
rise_changed old new id f changes rise = go (with_id id old) changes
  where
    go : (o : Option Pending) → MatchOption o (new ≡ old) (λ p. new ≡ replaced (f p) old) → NumbersRise new
    go None is = rw is rise
    go (Some p) is = rw is (rise_replaced (f p) old rise)

-- evidence leaves what is asked
pub same_request : (evidence : Evidence) (p : Pending) → (kept p evidence).request ≡ p.request
same_request (Reply early) p = refl
same_request (Accept accept) p = refl
same_request (Quick glimpse) p = refl
same_request (Live accept) p = refl
