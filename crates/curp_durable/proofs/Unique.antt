-- Bytes are at most one journal of a title, or damaged at one place.
use Rattle.std.specs.Prelude.{◌≡◌, ◌≢◌, ◌⊎◌, ℕ, List, [], ◌∷◌, ◌++◌, length, drop, get_or, refl}
use Rattle.std.proofs.Common.{inl, inr, sym, ◌∙◌, ap, append_assoc}
use Rattle.std.proofs.lemmas.List.{append_cancel_left}
use Rattle.curp_base.specs.Words.{Each, all_of}
use Rattle.curp_base.specs.declared.failed.Failed.{Failed}
use Rattle.curp_base.specs.declared.failed.Failed.TheVariants as failed
use Rattle.curp_journal.specs.declared.arrived.Arrived.{Arrived}
use Rattle.curp_msg.specs.Moved.{Moved}
use Rattle.curp_msg.specs.Input.{Input}
use Rattle.curp_durable.specs.Journal.{Batch, HasEncoding, HoldsJournal, IsDamaged, IsNotFormatted, ReadsJournal, framed, records}
use Rattle.curp_durable.specs.Opening.{Exists, IsOfTheMoment, IsOnlyCause, IsOpened, OpensNot}
use Rattle.curp_durable.specs.Standing.{Standing}
use Rattle.curp_durable.specs.declared.error.OpenError.{OpenError}
use Rattle.curp_durable.specs.declared.error.OpenError.TheVariants as opened
use Rattle.curp_durable.proofs.Parsing.{same_framed}

-- no batch stands next
abbrev Ends : ℕ → List ℕ → Type 0
Ends x xs = (x ≢ 1) ⊎ ((b : Batch) (byte : ℕ) (tail : List ℕ) → HasEncoding b → xs ≢ framed b ++ byte ∷ tail)

some_next : (bs : List Batch) (y : ℕ) (ys : List ℕ) → (b : ℕ) × (tail : List ℕ) × (records bs ++ y ∷ ys ≡ b ∷ tail)
some_next [] y ys = (y, ys, refl)
some_next (b ∷ bs) y ys = (1, (framed b ++ records bs) ++ y ∷ ys, refl)

-- one more record can't stand where none stands
no_more : (x : ℕ) (xs : List ℕ) (c : Batch) (cs : List Batch) (y : ℕ) (ys : List ℕ) → Ends x xs → HasEncoding c → x ∷ xs ≡ records (c ∷ cs) ++ y ∷ ys → ⊥
no_more x xs c cs y ys ends has same =
    let next = some_next cs y ys in
    let behind : xs ≡ framed c ++ next.0 ∷ next.1 = ap (λ (l : List ℕ). drop 1 l) same ∙ append_assoc (framed c) (records cs) (y ∷ ys) ∙ ap (λ (l : List ℕ). framed c ++ l) next.2 in
    elim ends [ inl shut ↦ shut (ap (λ (l : List ℕ). get_or l 0 0) same) | inr stuck ↦ stuck c next.0 next.1 has behind ]

same_walk : (bs cs : List Batch) (x y : ℕ) (xs ys : List ℕ) → Each HasEncoding bs → Each HasEncoding cs → Ends x xs → Ends y ys → records bs ++ x ∷ xs ≡ records cs ++ y ∷ ys → bs ≡ cs
same_walk [] [] x y xs ys t u e f same = refl
same_walk [] (c ∷ cs) x y xs ys t u e f same = absurd (no_more x xs c cs y ys e u.0 same)
same_walk (b ∷ bs) [] x y xs ys t u e f same = absurd (no_more y ys b bs x xs f t.0 (sym same))
same_walk (b ∷ bs) (c ∷ cs) x y xs ys t u e f same =
    let n = some_next bs x xs in
    let m = some_next cs y ys in
    let inner : framed b ++ n.0 ∷ n.1 ≡ framed c ++ m.0 ∷ m.1 =
    ap (λ (l : List ℕ). framed b ++ l) (sym n.2) ∙ sym (append_assoc (framed b) (records bs) (x ∷ xs)) ∙ ap (λ (l : List ℕ). drop 1 l) same
    ∙ append_assoc (framed c) (records cs) (y ∷ ys) ∙ ap (λ (l : List ℕ). framed c ++ l) m.2 in
    let both = same_framed b c n.0 m.0 n.1 m.1 t.0 u.0 inner in
    ap (λ (k : Batch). k ∷ bs) both.0 ∙ ap (λ (l : List Batch). c ∷ l) (same_walk bs cs x y xs ys t.1 u.1 e f (n.2 ∙ both.1 ∙ sym m.2))

module _ (content title : List ℕ) where
  one_journal : (bs cs : List Batch) (x y : ℕ) (xs ys : List ℕ) → Each HasEncoding bs → Each HasEncoding cs → Ends x xs → Ends y ys
      → content ≡ (title ++ records bs) ++ x ∷ xs → content ≡ (title ++ records cs) ++ y ∷ ys → bs ≡ cs
  one_journal bs cs x y xs ys t u e f first second =
      let same : title ++ (records bs ++ x ∷ xs) ≡ title ++ (records cs ++ y ∷ ys) = sym (append_assoc title (records bs) (x ∷ xs)) ∙ sym first ∙ second ∙ append_assoc title (records cs) (y ∷ ys) in
      same_walk bs cs x y xs ys t u e f (append_cancel_left title (records bs ++ x ∷ xs) (records cs ++ y ∷ ys) same)

  pub reads_once : (bs cs : List Batch) (g h : ℕ) → ReadsJournal content title bs g → ReadsJournal content title cs h → bs ≡ cs
  reads_once bs cs g h r q = one_journal bs cs r.byte q.byte r.rest q.rest r.encoded q.encoded (inl r.shut) (inl q.shut) r.is q.is

  pub one_commit : (bs cs : List Batch) (g h : ℕ) → ReadsJournal content title bs g → ReadsJournal content title cs h → g ≡ h
  one_commit bs cs g h r q = sym r.place ∙ ap (λ (k : List Batch). length (title ++ records k)) (reads_once bs cs g h r q) ∙ q.place

  -- the byte behind the prefix is the same in both
  next_byte : (prefix : List ℕ) (x y : ℕ) (xs ys : List ℕ) → content ≡ prefix ++ x ∷ xs → content ≡ prefix ++ y ∷ ys → x ≡ y
  next_byte prefix x y xs ys a b = ap (λ (l : List ℕ). get_or l 0 0) (append_cancel_left prefix (x ∷ xs) (y ∷ ys) (sym a ∙ b))

  pub not_both : (bs : List Batch) (g p : ℕ) → ReadsJournal content title bs g → IsDamaged content title p → ⊥
  not_both bs g p r d =
      let same = one_journal bs d.batches r.byte 1 r.rest d.rest r.encoded d.encoded (inl r.shut) (inr d.stuck) r.is d.is in
      r.shut (next_byte (title ++ records bs) r.byte 1 r.rest d.rest r.is (d.is ∙ ap (λ (k : List Batch). (title ++ records k) ++ 1 ∷ d.rest) (sym same)))

  pub damaged_once : (p q : ℕ) → IsDamaged content title p → IsDamaged content title q → p ≡ q
  damaged_once p q d e =
      let same = one_journal d.batches e.batches 1 1 d.rest e.rest d.encoded e.encoded (inr d.stuck) (inr e.stuck) d.is e.is in
      sym d.at ∙ ap (λ (k : List Batch). length (title ++ records k)) same ∙ e.at

  pub formatted : (bs : List Batch) (x : ℕ) (xs : List ℕ) → content ≡ (title ++ records bs) ++ x ∷ xs → IsNotFormatted content title → ⊥
  formatted bs x xs split none =
      let next = some_next bs x xs in
      none next.0 next.1 (split ∙ append_assoc title (records bs) (x ∷ xs) ∙ ap (λ (k : List ℕ). title ++ k) next.2)

  -- ---- what an opening tells

  pub exists : {N : Type 0} (machine : N → Input → Moved N) (opening : N) (commit : ℕ) (stand : Standing N) → IsOpened machine content title opening commit stand → Exists content title
  exists machine opening commit stand o = (λ none. formatted o.batches o.reads.byte o.reads.rest o.reads.is none, λ place d. not_both o.batches commit place o.reads d)

  pub only_cause : (e : Failed OpenError) → OpensNot content title e → IsOnlyCause content title e
  only_cause (failed.Because opened.NotFormatted) none = λ place d. formatted d.batches 1 d.rest d.is none
  only_cause (failed.Because (opened.Damaged place)) d = (λ none. formatted d.batches 1 d.rest d.is none, λ other e. damaged_once other place e d)
  only_cause (failed.Because opened.DiskFault) why = tt
  only_cause failed.NoMemory why = tt

  pub one_list : (inputs others : List Arrived) → HoldsJournal content title inputs → HoldsJournal content title others → inputs ≡ others
  one_list inputs others h k = sym h.all ∙ ap all_of (reads_once h.batches k.batches h.commit k.commit h.reads k.reads) ∙ k.all

  pub whole : (inputs : List Arrived) → HoldsJournal content title inputs → Exists content title
  whole inputs h = (λ none. formatted h.batches h.reads.byte h.reads.rest h.reads.is none, λ place d. not_both h.batches h.commit place h.reads d)

  -- a journal is opened as it is, and the node gets its inputs
  pub opened_so : {N : Type 0} (machine : N → Input → Moved N) (opening : N) (commit : ℕ) (stand : Standing N) (inputs : List Arrived) (o : IsOpened machine content title opening commit stand) → HoldsJournal content title inputs
      → (all_of o.batches ≡ inputs)
  opened_so machine opening commit stand inputs o h = ap all_of (reads_once o.batches h.batches commit h.commit o.reads h.reads) ∙ h.all

  -- a journal that is there is refused for no cause that says something of the bytes
  pub of_the_moment : (e : Failed OpenError) (inputs : List Arrived) → OpensNot content title e → HoldsJournal content title inputs → IsOfTheMoment e
  of_the_moment (failed.Because opened.NotFormatted) inputs none h = formatted h.batches h.reads.byte h.reads.rest h.reads.is none
  of_the_moment (failed.Because (opened.Damaged place)) inputs d h = not_both h.batches h.commit place h.reads d
  of_the_moment (failed.Because opened.DiskFault) inputs why h = tt
  of_the_moment failed.NoMemory inputs why h = tt
