-- Arrivals are read one by one, from the first on.
use Rattle.std.specs.Prelude.{◌≡◌, ◌≢◌, ℕ, ◌+◌, ◌<◌, ◌≤◌, List, [], ◌∷◌, ◌++◌, length, drop, Option, None, option_map, Result, Ok, Err, IfOk, refl}
use Rattle.std.specs.declared.alloc.AllocError.{AllocError}
use Rattle.std.proofs.Common.{sym, ◌∙◌, ap, subst, arith, append_assoc, length-append, length-drop}
use Rattle.std.proofs.lemmas.List.{append-nil, drop_at}
use Rattle.curp_base.specs.Words.{Each}
use Rattle.curp_base.specs.declared.failed.Failed.{Failed}
use Rattle.curp_base.specs.declared.failed.Failed.TheVariants as failed
use Rattle.curp_items.specs.declared.fault.Fault.{Fault}
use Rattle.curp_journal.specs.declared.arrived.Arrived.{Arrived}
use Rattle.curp_batches.specs.Arrivals.{arrival}
use Rattle.curp_batches.specs.Batches.{AreArrivals, AreArrivalsIn, arrivals_of}
use Rattle.curp_batches.specs.Prefixes.{Begins, BeginsNot, PrefixFails}
use Rattle.curp_batches.proofs.Encodings.{arrival_is, arrival_long, one_prefix}

pub arrivals-push : (xs : List Arrived) (x : Arrived) → arrivals_of (xs ++ x ∷ []) ≡ arrivals_of xs ++ arrival.of x
arrivals-push [] x = append-nil (arrival.of x)
arrivals-push (y ∷ xs) x = ap (λ (l : List ℕ). arrival.of y ++ l) (arrivals-push xs x) ∙ sym (append_assoc (arrival.of y) (arrivals_of xs) (arrival.of x))

pub each-push : (P : Arrived → Type 0) (xs : List Arrived) (x : Arrived) → Each P xs → P x → Each P (xs ++ x ∷ [])
each-push P [] x h p = (p, tt)
each-push P (y ∷ xs) x h p = (h.0, each-push P xs x h.1 p)

-- so far these were read
pub record ReadSo (bytes : List ℕ) (batch : List Arrived) (at : ℕ) : Type 0 where
  pub fits : Each arrival.Fits batch
  pub is : bytes ≡ arrivals_of batch ++ drop at bytes
  pub place : at ≡ length (arrivals_of batch)

pub goes_on : (bytes : List ℕ) (batch : List Arrived) (at : ℕ) (x : Arrived) (n : ℕ) → ReadSo bytes batch at → Begins arrival (drop at bytes) x n → ReadSo bytes (batch ++ x ∷ []) (at + n)
goes_on bytes batch at x n r b =
    let prefix : arrivals_of batch ++ arrival.of x ≡ arrivals_of (batch ++ x ∷ []) = sym (arrivals-push batch x) in
    let whole : bytes ≡ arrivals_of (batch ++ x ∷ []) ++ drop n (drop at bytes) =
    r.is ∙ ap (λ (l : List ℕ). arrivals_of batch ++ l) b.is ∙ sym (append_assoc (arrivals_of batch) (arrival.of x) (drop n (drop at bytes))) ∙ ap (λ (l : List ℕ). l ++ drop n (drop at bytes)) prefix in
    let long : at + n ≡ length (arrivals_of (batch ++ x ∷ [])) = omega (arith, r.place, b.size, ap length (arrivals-push batch x), length-append (arrivals_of batch) (arrival.of x)) in
    record {
      fits = each-push arrival.Fits batch x r.fits b.fits;
      is = whole ∙ ap (λ (l : List ℕ). arrivals_of (batch ++ x ∷ []) ++ l) (sym (ap (drop (at + n)) whole ∙ drop_at (arrivals_of (batch ++ x ∷ [])) (drop n (drop at bytes)) (at + n) (sym long)));
      place = long;
    }

-- it moves on, and stays within
pub moves : (bytes : List ℕ) (batch : List Arrived) (at : ℕ) (x : Arrived) (n : ℕ) → ReadSo bytes batch at → Begins arrival (drop at bytes) x n → (1 ≤ n) × (at + n ≤ length bytes)
moves bytes batch at x n r b =
    let next = goes_on bytes batch at x n r b in
    (omega (arith, b.size, arrival_long x), omega (arith, next.place, ap length next.is, length-append (arrivals_of (batch ++ x ∷ [])) (drop (at + n) bytes)))

-- bytes that go on with what is no arrival are not arrivals alone
empty_first : (x : Arrived) (rest : List ℕ) → [] ≡ arrival.of x ++ rest → ⊥
empty_first x rest e = absurd (omega (arith, ap length e, length-append (arrival.of x) rest, arrival_long x))

stuck : (done all : List Arrived) (rest : List ℕ) → Each arrival.Fits done → Each arrival.Fits all → arrivals_of done ++ rest ≡ arrivals_of all → (more : List Arrived) × Each arrival.Fits more × (rest ≡ arrivals_of more)
stuck [] all rest f g e = (all, g, e)
stuck (x ∷ done) [] rest f g e = absurd (empty_first x (arrivals_of done ++ rest) (sym e ∙ append_assoc (arrival.of x) (arrivals_of done) rest))
stuck (x ∷ done) (y ∷ all) rest f g e =
    let p = one_prefix arrival arrival_is x y (arrivals_of done ++ rest) (arrivals_of all) f.0 g.0 (sym (append_assoc (arrival.of x) (arrivals_of done) rest) ∙ e) in
    stuck done all rest f.1 g.1 p.1

none_more : (more : List Arrived) (rest : List ℕ) → Each arrival.Fits more → rest ≡ arrivals_of more → 1 ≤ length rest → BeginsNot arrival rest → ⊥
none_more [] rest f e long none = absurd (omega (arith, ap length e, long))
none_more (x ∷ more) rest f e long none = none x (arrivals_of more) f.0 e

pub no_arrivals : (bytes : List ℕ) (done : List Arrived) (at : ℕ) → ReadSo bytes done at → at < length bytes → BeginsNot arrival (drop at bytes) → (batch : List Arrived) → AreArrivals batch bytes → ⊥
no_arrivals bytes done at r within none batch s =
    let m = stuck done batch (drop at bytes) r.fits s.fits (sym r.is ∙ s.is) in
    none_more m.0 (drop at bytes) m.1 m.2 (omega (arith, within, length-drop at bytes)) none

pub same_arrivals : (one other : List Arrived) → Each arrival.Fits one → Each arrival.Fits other → arrivals_of one ≡ arrivals_of other → one ≡ other
same_arrivals [] [] f g e = refl
same_arrivals [] (y ∷ other) f g e = absurd (empty_first y (arrivals_of other) e)
same_arrivals (x ∷ one) [] f g e = absurd (empty_first x (arrivals_of one) (sym e))
same_arrivals (x ∷ one) (y ∷ other) f g e =
    let p = one_prefix arrival arrival_is x y (arrivals_of one) (arrivals_of other) f.0 g.0 e in
    ap (λ (z : Arrived). z ∷ one) p.0 ∙ ap (λ (l : List Arrived). y ∷ l) (same_arrivals one other f.1 g.1 p.1)

not_there : (rest : List ℕ) (why : Failed Fault) → PrefixFails arrival rest why → why ≢ failed.NoMemory → BeginsNot arrival rest
not_there rest failed.NoMemory fails other = absurd (other refl)
not_there rest (failed.Because fault) fails other = fails

pub refused : (bytes : List ℕ) (done : List Arrived) (at : ℕ) (why : Failed Fault) → ReadSo bytes done at → at < length bytes → PrefixFails arrival (drop at bytes) why → why ≢ failed.NoMemory → AreArrivalsIn bytes None
refused bytes done at why r within fails other = no_arrivals bytes done at r within (not_there (drop at bytes) why fails other)

pub refused_so : {V : Type 0} (items : V → List Arrived) (bytes : List ℕ) (done : List Arrived) (at : ℕ) (why : Failed Fault) (r : Result (Option V) AllocError) → ReadSo bytes done at → at < length bytes → PrefixFails arrival (drop at bytes) why
    → IfOk r (λ read. (read ≡ None) × (why ≢ failed.NoMemory)) → IfOk r (λ read. AreArrivalsIn bytes (option_map items read))
refused_so items bytes done at why (Err e) r within fails none = tt
refused_so {V} items bytes done at why (Ok read) r within fails none =
    subst (λ (o : Option V). AreArrivalsIn bytes (option_map items o)) (sym none.0) (refused bytes done at why r within fails none.1)
