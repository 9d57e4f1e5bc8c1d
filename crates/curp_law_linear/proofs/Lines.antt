-- The order's equation at a hash, as a partition's log grows by an entry.
use Rattle.std.proofs.Common.{◌≡◌, ◌≢◌, ℕ, ◌&&◌, inl, inr, ◌⊎◌, Bool, true, false, cond, List, [], ◌∷◌, ◌++◌, Option, Some, None, refl, ap, sym, ◌∙◌, subst, append-nil}
use Rattle.std.specs.List.{list_any}
use Rattle.std.proofs.lemmas.Bool.{cases_eq, or_parts}
use Rattle.std.proofs.lemmas.List.Folds.{list_any-append}
use Rattle.curp_base.specs.Words.{numbered}
use Rattle.curp_range.specs.Spans.{is_in}
use Rattle.curp_cmd.specs.declared.command.RequestId.{RequestId}
use Rattle.curp_cmd.specs.declared.entry.Entry.{Entry}
use Rattle.curp_model.specs.Manager.{Migration}
use Rattle.curp_law_kept.specs.Hashes.{NoGive, NotNew, behind, gives}
use Rattle.curp_order.specs.Order.{Asked}
use Rattle.curp_law_linear.specs.Hashes.{Part, given_on, has_take, is_give, is_take, onward}
use Rattle.curp_law_linear.specs.Moves.{pushed}
use Rattle.curp_law_linear.proofs.Known.{stays_known}
use Rattle.curp_law_linear.proofs.Pushes.{cases, longer, other, own}

-- a list that is cut somewhere, with one item more
pub split_push : {A : Type 0} (prefix back xs : List A) (e : A) → prefix ++ back ≡ xs ++ e ∷ []
    → ((back ≡ []) × (prefix ≡ xs ++ e ∷ [])) ⊎ ((mid : List A) × (back ≡ mid ++ e ∷ []) × (prefix ++ mid ≡ xs))
split_push [] back xs e h = inr (xs, h, refl)
split_push (f ∷ []) [] [] e h = inl (refl, h)
split_push (f ∷ []) (b ∷ back) [] e h = absurd cc
split_push (f ∷ g ∷ prefix) back [] e h = absurd cc
split_push {A} (f ∷ prefix) back (x ∷ xs) e h =
    let head : f ≡ x = cc in
    let tail : prefix ++ back ≡ xs ++ e ∷ [] = cc in
    elim (split_push prefix back xs e tail) [
      | inl last ↦ inl (last.0, ap (λ (z : A). z ∷ prefix) head ∙ ap (λ w. x ∷ w) last.1)
      | inr mid ↦ inr (mid.0, mid.1, ap (λ (z : A). z ∷ (prefix ++ mid.0)) head ∙ ap (λ w. x ∷ w) mid.2)
    ]

-- a list that is cut somewhere, of two parts
pub split_append : {A : Type 0} (prefix back xs ys : List A) → prefix ++ back ≡ xs ++ ys
    → ((mid : List A) × (back ≡ mid ++ ys) × (prefix ++ mid ≡ xs)) ⊎ ((mid : List A) × (prefix ≡ xs ++ mid) × (mid ++ back ≡ ys))
split_append [] back xs ys h = inl (xs, h, refl)
split_append (f ∷ prefix) back [] ys h = inr (f ∷ prefix, refl, h)
split_append {A} (f ∷ prefix) back (x ∷ xs) ys h =
    let head : f ≡ x = cc in
    let tail : prefix ++ back ≡ xs ++ ys = cc in
    elim (split_append prefix back xs ys tail) [
      | inl mid ↦ inl (mid.0, mid.1, ap (λ (z : A). z ∷ (prefix ++ mid.0)) head ∙ ap (λ w. x ∷ w) mid.2)
      | inr mid ↦ inr (mid.0, ap (λ (z : A). z ∷ prefix) head ∙ ap (λ w. x ∷ w) mid.1, mid.2)
    ]

-- the id is known to each beginning of the log behind which no give covers the hash
abbrev pub KnownFrom : ℕ → ℕ → ℕ → List Entry → RequestId → Type 0
KnownFrom lo hi h log id = (prefix back : List Entry) → prefix ++ back ≡ log → NoGive h back → NotNew lo hi prefix id

-- and so behind one more entry
pub known_push : (lo hi h : ℕ) (log : List Entry) (e : Entry) (id : RequestId) → KnownFrom lo hi h log id → KnownFrom lo hi h (log ++ e ∷ []) id
known_push lo hi h log e id known prefix back is none = elim (split_push prefix back log e is) [
  | inl last ↦ subst (λ (es : List Entry). NotNew lo hi es id) (sym last.1) (stays_known lo hi log (e ∷ []) id (known log [] (append-nil log) refl))
  | inr mid ↦
      let all : list_any (gives h) (mid.0 ++ e ∷ []) ≡ false = subst (NoGive h) mid.1 none in
      known prefix mid.0 mid.2 (or_parts (list_any (gives h) mid.0) _ (sym (list_any-append (gives h) mid.0 (e ∷ [])) ∙ all)).0
]

-- ---- what goes on elsewhere

-- where a take is out, a migration is in work
pub has_moving : (moving : Option Migration) (h : ℕ) (log : List Entry) → has_take moving h log ≡ true → (m : Migration) × (moving ≡ Some m)
has_moving None h log t = absurd cc
has_moving (Some m) h log t = (m, refl)

-- what went on elsewhere, where the target has the give
pub onward_given : (moving : Option Migration) (m : Migration) (parts : List Part) (log : List Entry) (h : ℕ) (t : Part) → moving ≡ Some m → has_take moving h log ≡ true
    → numbered parts m.target ≡ Some t → list_any (is_give m.number) t.log ≡ true → onward moving parts log h ≡ behind h t.log
onward_given None m parts log h t is has there given = absurd cc
onward_given (Some n) m parts log h t is has there given =
    let same : n ≡ m = cc in
    let a : onward (Some n) parts log h ≡ given_on h n.number (numbered parts n.target) = ap (λ (b : Bool). cond b (given_on h n.number (numbered parts n.target)) []) has in
    let b : given_on h n.number (numbered parts n.target) ≡ given_on h m.number (numbered parts m.target) = ap (λ (x : Migration). given_on h x.number (numbered parts x.target)) same in
    let c : given_on h m.number (numbered parts m.target) ≡ given_on h m.number (Some t) = ap (given_on h m.number) there in
    a ∙ b ∙ c ∙ ap (λ (d : Bool). cond d (behind h t.log) []) given

-- what went on depends on the takes of the log alone
pub onward_log : (moving : Option Migration) (parts : List Part) (h : ℕ) (log other : List Entry) → ((number : ℕ) → list_any (is_take number) other ≡ list_any (is_take number) log)
    → onward moving parts other h ≡ onward moving parts log h
onward_log None parts h log other same = refl
onward_log (Some m) parts h log other same = ap (λ (b : Bool). cond (is_in m.range.lo m.range.hi h && b) (given_on h m.number (numbered parts m.target)) []) (same m.number)

module _ (parts : List Part) (n : ℕ) (p : Part) (e : Entry) (here : numbered parts n ≡ Some p) where
  none_both : (k : ℕ) → k ≢ n → (old new : Option Part) → numbered parts k ≡ old → numbered (pushed parts n p e) k ≡ new → new ≡ old
  none_both k ne None None f g = refl
  none_both k ne None (Some q) f g = elim (cases parts n p e here k q g) [ inl c ↦ absurd (cc (f, c.1)) | inr c ↦ absurd (ne c.0) ]
  none_both k ne (Some q) None f g = let h = other parts n p e here k q ne f in absurd (cc (g, h))
  none_both k ne (Some q) (Some r) f g = let h = other parts n p e here k q ne f in sym g ∙ h

  -- what a number finds behind a push
  pub look : (k : ℕ) → (numbered (pushed parts n p e) k ≡ numbered parts k) ⊎ ((k ≡ n) × (numbered (pushed parts n p e) k ≡ Some (longer parts n p e here)))
  look k = elim (cases_eq k n) [
    | inl same ↦ inr (same, ap (numbered (pushed parts n p e)) same ∙ own parts n p e here)
    | inr ne ↦ inl (none_both k ne (numbered parts k) (numbered (pushed parts n p e) k) refl refl)
  ]

  module _ (h : ℕ) (alike : behind h (p.log ++ e ∷ []) ≡ behind h p.log) (gives_alike : (number : ℕ) → list_any (is_give number) (p.log ++ e ∷ []) ≡ list_any (is_give number) p.log) where
    given_same : (number k : ℕ) → given_on h number (numbered (pushed parts n p e) k) ≡ given_on h number (numbered parts k)
    given_same number k = elim (look k) [
      | inl same ↦ ap (given_on h number) same
      | inr own ↦
          ap (given_on h number) own.1 ∙ (λ i. cond (gives_alike number i) (alike i) []) ∙ sym (ap (given_on h number) (ap (numbered parts) own.0 ∙ here))
    ]

    pub onward_same : (moving : Option Migration) (log : List Entry) → onward moving (pushed parts n p e) log h ≡ onward moving parts log h
    onward_same None log = refl
    onward_same (Some m) log = ap (λ (xs : List Asked). cond (is_in m.range.lo m.range.hi h && list_any (is_take m.number) log) xs []) (given_same m.number m.target)
