-- Lists without a run of their items.
use Rattle.std.proofs.Common.{◌≡◌, inl, inr, ℕ, zero, suc, ◌<◌, ◌≤◌, ◌==◌, ◌&&◌, ◌||◌, nat_lt, nat_le, not, Bool, true, false, List, [], ◌∷◌, ◌++◌, length, get_or, take, drop, refl, ap, arith}
use Rattle.std.proofs.lemmas.Bool.{cases_lt}
use Rattle.std.proofs.lemmas.Bool.Decides.{nat_tests}
use Rattle.std.specs.List.{filter}
use Rattle.std.specs.List.Sorted.{IsPartitionedBy, IsPartitionPoint}
use Rattle.std.specs.Ordering.{nat_cmp, ordering_then}
use Rattle.std.specs.declared.cmp.Ordering.{Ordering}
use Rattle.std.specs.declared.cmp.Ordering.TheVariants.{Less, Equal, Greater}
use Rattle.curp_base.specs.Words.{KeysAscend}
use Rattle.curp_cmd.specs.RequestId.{id_cmp}
use Rattle.curp_cmd.specs.declared.command.Answer.TheVariants.{Done}
use Rattle.curp_cmd.specs.declared.command.RequestId.{RequestId}
use Rattle.curp_model.proofs.Tables.{ids_total}
use Rattle.curp_model.specs.Table.{is_below}
use Rattle.curp_base.proofs.Places.{less_at}
use Rattle.curp_rifl.specs.Records.{Record, is_before, is_up_to, is_before_first}

-- where the test fails just from one place up to another, it leaves out that run
pub filter_run : {A : Type 0} (p : A → Bool) (xs : List A) (start end : ℕ) → start ≤ end → end ≤ length xs
    → ((k : ℕ) (d : A) → k < start → p (get_or xs k d) ≡ true)
    → ((k : ℕ) (d : A) → start ≤ k → k < end → p (get_or xs k d) ≡ false)
    → ((k : ℕ) (d : A) → end ≤ k → k < length xs → p (get_or xs k d) ≡ true)
    → take start xs ++ drop end xs ≡ filter p xs
filter_run p [] zero zero ordered within before inside behind = refl
filter_run p [] (suc start) zero ordered within before inside behind = absurd (omega arith)
filter_run p [] start (suc end) ordered within before inside behind = absurd (omega arith)
filter_run {A} p (x ∷ xs) zero zero ordered within before inside behind =
    let here : p x ≡ true = behind 0 x (omega arith) (omega arith) in
    rw here (ap (λ (ys : List A). x ∷ ys) (filter_run p xs zero zero ordered (omega arith) (λ k d l. absurd (omega arith)) (λ k d l m. absurd (omega arith)) (λ k d l m. behind (suc k) d (omega arith) (omega arith))))
filter_run p (x ∷ xs) (suc start) zero ordered within before inside behind = absurd (omega arith)
filter_run p (x ∷ xs) zero (suc end) ordered within before inside behind =
    let here : p x ≡ false = inside 0 x (omega arith) (omega arith) in
    rw here (filter_run p xs zero end (omega arith) (omega arith) (λ k d l. absurd (omega arith)) (λ k d l m. inside (suc k) d (omega arith) (omega arith)) (λ k d l m. behind (suc k) d (omega arith) (omega arith)))
filter_run {A} p (x ∷ xs) (suc start) (suc end) ordered within before inside behind =
    let here : p x ≡ true = before 0 x (omega arith) in
    rw here (ap (λ (ys : List A). x ∷ ys) (filter_run p xs start end (omega arith) (omega arith) (λ k d l. before (suc k) d (omega arith)) (λ k d l m. inside (suc k) d (omega arith) (omega arith)) (λ k d l m. behind (suc k) d (omega arith) (omega arith))))

-- ---- tests of ids

-- an id that is below another belongs to a lower client, or has a lower number
less_ids : (a b : RequestId) (P : Type 0) → id_cmp a b ≡ Less → (a.client < b.client → P) → (a.client ≡ b.client → a.seq < b.seq → P) → P
less_ids a b P e lower same = go (nat_cmp a.client b.client) refl e
  where
    go : (r : Ordering) → nat_cmp a.client b.client ≡ r → ordering_then r (nat_cmp a.seq b.seq) ≡ Less → P
    go Less c e = lower (grind (arith, nat_tests))
    go Equal c e = same (grind (arith, nat_tests)) (grind (arith, nat_tests))
    go Greater c e = absurd cc

module _ (es : List Record) (s : KeysAscend id_cmp es) where
  part : (p : Record → Bool) → ((e f : Record) → id_cmp e.0 f.0 ≡ Less → p f ≡ true → p e ≡ true) → IsPartitionedBy p es
  part p falls i j d le within holds = elim (cases_lt i j) [
    | inl l ↦ falls (get_or es i d) (get_or es j d) (less_at id_cmp ids_total es i j d s l within) holds
    | inr l ↦ let same : i ≡ j = omega arith in rw same holds
  ]

  pub parted_before : (client : ℕ) → IsPartitionedBy (is_before client) es
  parted_before client = part (is_before client) (λ e f l h. less_ids e.0 f.0 (is_before client e ≡ true) l (λ c. grind (arith, nat_tests)) (λ c n. grind (arith, nat_tests)))

  pub parted_up_to : (client : ℕ) → IsPartitionedBy (is_up_to client) es
  parted_up_to client = part (is_up_to client) (λ e f l h. less_ids e.0 f.0 (is_up_to client e ≡ true) l (λ c. grind (arith, nat_tests)) (λ c n. grind (arith, nat_tests)))

  pub parted_before_first : (client first : ℕ) → IsPartitionedBy (is_before_first client first) es
  parted_before_first client first = part (is_before_first client first) (λ e f l h. less_ids e.0 f.0 (is_before_first client first e ≡ true) l (λ c. before_first_falls client first e.0 f.0 c h) (λ c n. before_first_lower client first e.0 f.0 c n h))
    where
      before_first_falls : (client first : ℕ) (a b : RequestId) → a.client < b.client → (nat_lt b.client client || ((b.client == client) && nat_lt b.seq first)) ≡ true → (nat_lt a.client client || ((a.client == client) && nat_lt a.seq first)) ≡ true
      before_first_falls client first a b c h = grind (arith, nat_tests)

      before_first_lower : (client first : ℕ) (a b : RequestId) → a.client ≡ b.client → a.seq < b.seq → (nat_lt b.client client || ((b.client == client) && nat_lt b.seq first)) ≡ true → (nat_lt a.client client || ((a.client == client) && nat_lt a.seq first)) ≡ true
      before_first_lower client first a b c n h = grind (arith, nat_tests)

-- ---- the run of a client's records below a number, and of all of a client's

no_record : Record
no_record = (record { client = 0; seq = 0 }, record { answer = Done; index = 0 })

abbrev Point : (Record → Bool) → List Record → ℕ → Type 0
Point p es at = IsPartitionPoint (λ e. p e ≡ true) (λ e. p e ≡ false) es at

either : (a b : Bool) → (a || b) ≡ false → a ≡ false
either true b e = absurd cc
either false b e = refl

module _ (es : List Record) (client : ℕ) (start end : ℕ) (within : start ≤ length es) (first_point : Point (is_before client) es start) where
  pub below_ordered : (first : ℕ) → Point (is_before_first client first) es end → start ≤ end
  below_ordered first point = elim (cases_lt end start) [
    | inl l ↦
        let e : Record = get_or es end no_record in
        let prefix : is_before client e ≡ true = first_point.0 end no_record (omega arith) l in
        let behind : is_before client e ≡ false = either (is_before client e) (is_below client first e.0) (point.1 end no_record (omega arith) (omega arith)) in
        absurd cc
    | inr le ↦ omega arith
  ]

  pub below_left : (first : ℕ) → Point (is_before_first client first) es end → end ≤ length es → take start es ++ drop end es ≡ filter (λ (e : Record). not (is_below client first e.0)) es
  below_left first point fits = filter_run (λ (e : Record). not (is_below client first e.0)) es start end (below_ordered first point) fits
      (λ k d l. let prefix = first_point.0 k d (omega arith) l in in_prefix (get_or es k d).0 prefix)
      (λ k d l m. let prefix = first_point.1 k d l (omega arith) in let up = point.0 k d (omega arith) m in in_run (get_or es k d).0 prefix up)
      (λ k d l m. let up = point.1 k d l m in behind_run (get_or es k d).0 up)
    where
      in_prefix : (id : RequestId) → nat_lt id.client client ≡ true → not ((id.client == client) && nat_lt id.seq first) ≡ true
      in_prefix id e = grind (arith, nat_tests)

      in_run : (id : RequestId) → nat_lt id.client client ≡ false → (nat_lt id.client client || ((id.client == client) && nat_lt id.seq first)) ≡ true → not ((id.client == client) && nat_lt id.seq first) ≡ false
      in_run id e f = grind (arith, nat_tests)

      behind_run : (id : RequestId) → (nat_lt id.client client || ((id.client == client) && nat_lt id.seq first)) ≡ false → not ((id.client == client) && nat_lt id.seq first) ≡ true
      behind_run id e = grind (arith, nat_tests)

  pub client_ordered : Point (is_up_to client) es end → start ≤ end
  client_ordered point = elim (cases_lt end start) [
    | inl l ↦
        let e : Record = get_or es end no_record in
        let prefix : nat_lt e.0.client client ≡ true = first_point.0 end no_record (omega arith) l in
        let behind : nat_le e.0.client client ≡ false = point.1 end no_record (omega arith) (omega arith) in
        absurd (grind (arith, nat_tests))
    | inr le ↦ omega arith
  ]

  pub client_left : Point (is_up_to client) es end → end ≤ length es → take start es ++ drop end es ≡ filter (λ (e : Record). not (e.0.client == client)) es
  client_left point fits = filter_run (λ (e : Record). not (e.0.client == client)) es start end (client_ordered point) fits
      (λ k d l. let prefix = first_point.0 k d (omega arith) l in in_prefix (get_or es k d).0 prefix)
      (λ k d l m. let prefix = first_point.1 k d l (omega arith) in let up = point.0 k d (omega arith) m in in_run (get_or es k d).0 prefix up)
      (λ k d l m. let up = point.1 k d l m in behind_run (get_or es k d).0 up)
    where
      in_prefix : (id : RequestId) → nat_lt id.client client ≡ true → not (id.client == client) ≡ true
      in_prefix id e = grind (arith, nat_tests)

      in_run : (id : RequestId) → nat_lt id.client client ≡ false → nat_le id.client client ≡ true → not (id.client == client) ≡ false
      in_run id e f = grind (arith, nat_tests)

      behind_run : (id : RequestId) → nat_le id.client client ≡ false → not (id.client == client) ≡ true
      behind_run id e = grind (arith, nat_tests)
