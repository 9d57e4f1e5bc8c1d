-- What loops over journals find, one item or one node further.
use Rattle.std.proofs.Common.{◌≡◌, ◌⊎◌, inl, inr, ◌+◌, ◌<◌, ◌≤◌, ℕ, Bool, zero, suc, List, [], ◌∷◌, ◌++◌, length, length-append, min, get_or, false, refl, ap, ◌∙◌, subst, sym, arith}
use Rattle.std.proofs.lemmas.Option.{slice_get_read}
use Rattle.curp_base.specs.Words.{At, Each}
use Rattle.curp_base.proofs.Lists.{Each-append, Each-at, Each-weaker, at_push_cases, at_same, at_within}
use Rattle.curp_cmd.specs.declared.command.Command.{Command}
use Rattle.curp_cmd.specs.declared.node.NodeId.{NodeId}
use Rattle.curp_cmd.specs.declared.node.NodeKind.{NodeKind}
use Rattle.curp_msg.specs.Moved.{Node}
use Rattle.curp_journal.specs.Journal.{NodeJournal}
use Rattle.curp_journal.specs.declared.item.Item.{Item}
use Rattle.curp_model.specs.Client.{ClientState}
use Rattle.curp_journal.specs.Work.{DidWork}
use Rattle.curp_anew.specs.Opening.{AllOwn, HaveJournals, IsAdded, IsAnew, IsOneOf, NamesRise}

-- below one more is below, or there
below_or_at : (t k : ℕ) → t < k + 1 → (t < k) ⊎ (t ≡ k)
below_or_at zero zero h = inr refl
below_or_at zero (suc k) h = inl (omega arith)
below_or_at (suc t) zero h = absurd (omega arith)
below_or_at (suc t) (suc k) h = elim (below_or_at t k (omega arith)) [ inl less ↦ inl (omega arith) | inr same ↦ inr (omega arith) ]

-- what holds of those so far, and of the one that was read, holds of one more
pub scan_more : {A : Type 0} (P : A → Type 0) (xs : List A) (k : ℕ) (x : A) → k < length xs → x ≡ get_or xs k x → P x
    → ((t : ℕ) (y : A) → t < k → At xs t y → P y) → (t : ℕ) (y : A) → t < k + 1 → At xs t y → P y
scan_more {A} P xs k x within is good before t y below at = by_case (below_or_at t k below)
  where
    by_case : (t < k) ⊎ (t ≡ k) → P y
    by_case (inl less) = before t y less at
    by_case (inr same) =
        let here : At xs k x = slice_get_read xs (length xs) k x refl within is in
        let there : At xs k y = subst (λ n. At xs n y) same at in
        subst P (at_same xs k x y here there) good

-- the journals of so many nodes
pub record SoFar {N : Type 0} (kind : NodeKind) (there : ℕ) (nodes : List N) (n : ℕ) (logs : List (NodeJournal N)) : Type 0 where
  pub each : Each (IsOneOf kind there nodes) logs
  pub low : Each (λ (log : NodeJournal N). log.id.number ≤ n) logs
  pub rise : NamesRise logs
  pub few : length logs ≤ n
  pub whole : HaveJournals (min n there) logs

-- none yet
pub none_so_far : {N : Type 0} (kind : NodeKind) (there : ℕ) (nodes : List N) → SoFar kind there nodes 0 []
none_so_far {N} kind there nodes = record {
  each = tt;
  low = tt;
  rise = λ i k a b at_a at_b less. absurd (nothing_at i a at_a);
  few = omega arith;
  whole = record { many = omega arith; places = λ k log below at. absurd (nothing_at k log at) };
}
  where
    nothing_at : (i : ℕ) (a : NodeJournal N) → At [] i a → ⊥
    nothing_at i a at = absurd cc

-- the names rise with one more, whose number is higher
names_rise : {N : Type 0} (logs : List (NodeJournal N)) (n : ℕ) (log : NodeJournal N) → log.id.number ≡ n + 1
    → Each (λ (x : NodeJournal N). x.id.number ≤ n) logs → NamesRise logs → NamesRise (logs ++ log ∷ [])
names_rise {N} logs n log number low rise i k a b at_a at_b less = by_case (at_push_cases logs log i a at_a) (at_push_cases logs log k b at_b)
  where
    by_case : At logs i a ⊎ ((i ≡ length logs) × (log ≡ a)) → At logs k b ⊎ ((k ≡ length logs) × (log ≡ b)) → a.id.number < b.id.number
    by_case (inl first) (inl second) = rise i k a b first second less
    by_case (inl first) (inr second) =
        let its_number : b.id.number ≡ n + 1 = ap (λ (x : NodeJournal N). x.id.number) (sym second.1) ∙ number in
        omega (arith, Each-at (λ (x : NodeJournal N). x.id.number ≤ n) logs low i a first, its_number)
    by_case (inr first) (inl second) = absurd (omega (arith, first.0, less, at_within logs k b second))
    by_case (inr first) (inr second) = absurd (omega (arith, first.0, second.0, less))

-- the first so many have their journals, where the next node's is put and where it is left out
whole_with : {N : Type 0} (n there : ℕ) (logs : List (NodeJournal N)) (log : NodeJournal N) → log.id.number ≡ n + 1 → length logs ≤ n
    → HaveJournals (min n there) logs → HaveJournals (min (n + 1) there) (logs ++ log ∷ [])
whole_with {N} n there logs log number few whole = record {
  many = omega (arith, whole.many, length-append logs (log ∷ []));
  places = λ k one below at. by_case k one below (at_push_cases logs log k one at);
}
  where
    by_case : (k : ℕ) (one : NodeJournal N) → k < min (n + 1) there → At logs k one ⊎ ((k ≡ length logs) × (log ≡ one)) → one.id.number ≡ k + 1
    by_case k one below (inl at) = whole.places k one (omega (arith, below, few, at_within logs k one at)) at
    by_case k one below (inr last) =
        let its_number : one.id.number ≡ n + 1 = ap (λ (x : NodeJournal N). x.id.number) (sym last.1) ∙ number in
        omega (arith, its_number, last.0, below, few, whole.many)

whole_without : {N : Type 0} (n there : ℕ) (logs : List (NodeJournal N)) → there ≤ n → HaveJournals (min n there) logs → HaveJournals (min (n + 1) there) logs
whole_without {N} n there logs past whole = record {
  many = omega (arith, past, whole.many);
  places = λ k one below at. whole.places k one (omega (arith, past, below)) at;
}

-- one node more
pub anew_next : {N : Type 0} (kind : NodeKind) (there n : ℕ) (nodes : List N) (node : N) (is_there : Bool) (old new : List (NodeJournal N))
    → At nodes n node → (there ≤ n → is_there ≡ false) → (is_there ≡ false → there ≤ n) → IsAdded (record { kind = kind; number = n + 1 }) is_there node old new
    → SoFar kind there nodes n old → SoFar kind there nodes (n + 1) new
anew_next {N} kind there n nodes node is_there old new at past fresh (inl left_out) so_far = rw left_out.1 (record {
  each = so_far.each;
  low = Each-weaker (λ (x : NodeJournal N). x.id.number ≤ n) (λ (x : NodeJournal N). x.id.number ≤ n + 1) (λ x le. omega (arith, le)) old so_far.low;
  rise = so_far.rise;
  few = omega (arith, so_far.few);
  whole = whole_without n there old (fresh left_out.0) so_far.whole;
})
anew_next {N} kind there n nodes node is_there old new at past fresh (inr put) so_far =
    let log = put.log in
    let its_name = put.begun.anew.its_name in
    let number : log.id.number ≡ n + 1 = ap (λ (id : NodeId). id.number) its_name in
    let is : IsOneOf kind there nodes log = record {
      place = n;
      stands = subst (λ (x : N). At nodes n x) (sym put.begun.anew.begins) at;
      its_name = its_name;
      own = subst (λ (id : NodeId). AllOwn id log.items) (sym its_name) put.begun.anew.own;
      first = λ behind. put.begun.first (past behind);
    } in
    rw put.put (record {
      each = Each-append (IsOneOf kind there nodes) old (log ∷ []) so_far.each (is, tt);
      low = Each-append (λ (x : NodeJournal N). x.id.number ≤ n + 1) old (log ∷ [])
          (Each-weaker (λ (x : NodeJournal N). x.id.number ≤ n) (λ (x : NodeJournal N). x.id.number ≤ n + 1) (λ x le. omega (arith, le)) old so_far.low)
          (omega (arith, number), tt);
      rise = names_rise old n log number so_far.low so_far.rise;
      few = omega (arith, length-append old (log ∷ []), so_far.few);
      whole = whole_with n there old log number so_far.few so_far.whole;
    })

-- the journal of a node that was begun with it
pub begun_anew : {N : Type 0} (id : NodeId) (node : N) (taken log : NodeJournal N) → taken.id ≡ id → AllOwn id taken.items
    → log ≡ record taken { opening = node } → IsAnew id node log
begun_anew {N} id node taken log same own is = rw is (record { its_name = same; begins = refl; own = own })

-- the clients so far did their lists of work
abbrev pub DidSoFar : List (List Command) → List (NodeJournal (Node ClientState)) → ℕ → Type 0
DidSoFar work clients t = (k : ℕ) (log : NodeJournal (Node ClientState)) (commands : List Command) → k < t → At clients k log → At work k commands
    → (log.id.number ≡ k + 1) × DidWork (k + 1) commands log.items

-- one more
pub did_more : (work : List (List Command)) (clients : List (NodeJournal (Node ClientState))) (t : ℕ) (log : NodeJournal (Node ClientState)) (commands : List Command)
    → At clients t log → At work t commands → log.id.number ≡ t + 1 → DidWork (t + 1) commands log.items → DidSoFar work clients t → DidSoFar work clients (t + 1)
did_more work clients t log commands at_log at_list number did before k a b below there listed = by_case (below_or_at k t below)
  where
    by_case : (k < t) ⊎ (k ≡ t) → (a.id.number ≡ k + 1) × DidWork (k + 1) b a.items
    by_case (inl less) = before k a b less there listed
    by_case (inr same) =
        let here : At clients t a = subst (λ n. At clients n a) same there in
        let list : At work t b = subst (λ n. At work n b) same listed in
        subst (λ (n : ℕ). (a.id.number ≡ n + 1) × DidWork (n + 1) b a.items) (sym same)
        (subst (λ (x : NodeJournal (Node ClientState)). (x.id.number ≡ t + 1) × DidWork (t + 1) b x.items) (at_same clients t log a at_log here)
        (number, subst (λ (x : List Command). DidWork (t + 1) x log.items) (at_same work t commands b at_list list) did))
