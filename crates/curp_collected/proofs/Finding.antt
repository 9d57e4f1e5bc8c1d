-- What is known of files once they were looked through.
use Rattle.std.specs.Prelude.{◌≡◌, ◌≢◌, ℕ, zero, suc, ◌<◌, ◌≤◌, nat_lt, ◌&&◌, Bool, true, false, List, [], ◌∷◌, ◌++◌, length, take, Option, Some, None, refl}
use Rattle.std.proofs.Common.{inl, inr, sym, ◌∙◌, ap, subst, arith, cond}
use Rattle.std.proofs.lemmas.Bool.{and_from, and_parts, ltb-false, ltb-true}
use Rattle.curp_base.specs.Words.{At, Each}
use Rattle.curp_base.proofs.Lists.{Each-append, Each-at, Each-from_at, Each-weaker, at_append, at_map, at_mapped, at_push, at_within}
use Rattle.curp_cmd.specs.Node.{same_kind}
use Rattle.curp_cmd.proofs.Nodes.{same_node-self, same_node-true}
use Rattle.curp_cmd.specs.declared.node.NodeId.{NodeId}
use Rattle.curp_cmd.specs.declared.node.NodeKind.{NodeKind}
use Rattle.curp_msg.specs.Moved.{Moved}
use Rattle.curp_msg.specs.Input.{Input}
use Rattle.curp_msg.specs.declared.script.Header.{Header}
use Rattle.curp_journal.specs.Journal.{NodeJournal}
use Rattle.curp_journal.specs.declared.arrived.Arrived.{Arrived}
use Rattle.curp_title.specs.declared.title.Title.{Title}
use Rattle.curp_collected.specs.Files.{AreOfHeader, HasNoFile, HasNumber, HasTitle, HasTitleAt, IsFileOf, IsJournalAt, IsNext, IsOfHeader, IsRead, contents_of, is_below, nearer}
use Rattle.curp_collected.specs.Taking.{HasNone, IsOfFiles}
use Rattle.curp_collected.specs.declared.files.File.{File}
use Rattle.curp_collected.specs.declared.files.Files.{Files}
use Rattle.curp_collected.proofs.Begun.{named}
use Rattle.curp_collected.proofs.Titles.{one_start}

-- ---- places

pub at_low : {A : Type 0} (xs : List A) (n k : ℕ) (x : A) → k < n → At xs k x → At (take n xs) k x
at_low [] n k x below at = absurd cc
at_low (y ∷ xs) zero k x below at = absurd (omega arith)
at_low (y ∷ xs) (suc n) zero x below at = at
at_low (y ∷ xs) (suc n) (suc k) x below at = at_low xs n k x (omega arith) at

-- what holds at each place holds of each item
pub all_seen : {A : Type 0} (P : A → Type 0) (xs : List A) (n : ℕ) → length xs ≤ n → ((k : ℕ) (x : A) → k < n → At xs k x → P x) → Each P xs
all_seen P xs n whole seen = Each-from_at P xs (λ k x at. seen k x (omega (arith, at_within xs k x at)) at)

-- ---- kinds

pub kind_is : (a b : NodeKind) → same_kind a b ≡ true → a ≡ b
kind_is a b e = ap (λ (id : NodeId). id.kind) (same_node-true (named a 0) (named b 0) (and_from (same_kind a b) true e refl))

pub other_kind : (a b : NodeKind) → same_kind a b ≡ false → a ≡ b → ⊥
other_kind a b e is =
    let self : same_kind a a ≡ true = (and_parts (same_kind a a) true (same_node-self (named a 0))).0 in
    let same : same_kind a b ≡ true = ap (λ k. same_kind a k) (sym is) ∙ self in
    absurd cc

-- ---- titles of files

pub titled_at : (files : List File) (k : ℕ) (f : File) → At files k f → IsRead f → HasTitleAt (contents_of files) k f.title
titled_at files k f at read = record { content = f.content.now; stands = at_map (λ (x : File). x.content.now) files k f at; titled = read }

-- the file with that title
pub file_at : (files : List File) → Each IsRead files → (k : ℕ) (t : Title) → HasTitleAt (contents_of files) k t → (f : File) × At files k f × (f.title ≡ t)
file_at files read k t has =
    let found = at_mapped (λ (x : File). x.content.now) files k has.content has.stands in
    (found.0, found.1, one_start has.content found.0.title t (subst (λ c. HasTitle c found.0.title) found.2 (Each-at IsRead files read k found.0 found.1)) has.titled)

pub each_read : (h : Header) (files : List File) → Each (IsOfHeader h) files → Each IsRead files
each_read h [] each = tt
each_read h (f ∷ files) each = (each.0.read, each_read h files each.1)

abbrev pub title_for : Header → NodeId → Title
title_for h node = record { node = node; header = h }

-- no file has the title of a node that has no file
pub has_none : (files : Files) → AreOfHeader files → (node : NodeId) → HasNoFile files.each.items node → HasNone (contents_of files.each.items) files.header node
has_none files are node none k has =
    let found = file_at files.each.items (each_read files.header files.each.items are.each) k (title_for files.header node) has in
    Each-at (λ (f : File). f.title.node ≢ node) files.each.items none k found.0 found.1 (ap (λ (t : Title). t.node) found.2)

-- the file of a node has its title
pub has_title : (files : Files) → AreOfHeader files → (node : NodeId) (k : ℕ) (i : IsFileOf files.each.items node k) → HasTitle i.one.content.now (title_for files.header node)
has_title files are node k i =
    let is = Each-at (IsOfHeader files.header) files.each.items are.each k i.one i.stands in
    let same : i.one.title ≡ title_for files.header node = rw (sym i.its_name, sym is.same) refl in
    subst (λ (t : Title). HasTitle i.one.content.now t) same is.read

pub title_of_journal : (contents : List (List ℕ)) (k : ℕ) (h : Header) (node : NodeId) (inputs : List Arrived) → IsJournalAt contents k h node inputs → HasTitleAt contents k (title_for h node)
title_of_journal contents k h node inputs j = record { content = j.content; stands = j.stands; titled = j.titled }

-- a node has one file
pub one_file : (files : Files) → AreOfHeader files → (node : NodeId) (k i : ℕ)
    → HasTitleAt (contents_of files.each.items) k (title_for files.header node) → HasTitleAt (contents_of files.each.items) i (title_for files.header node) → k ≡ i
one_file files are node k i a b =
    let all = files.each.items in
    let read = each_read files.header all are.each in
    let one = file_at all read k (title_for files.header node) a in
    let two = file_at all read i (title_for files.header node) b in
    are.apart k i one.0 two.0 one.1 two.1 (ap (λ (t : Title). t.node) (one.2 ∙ sym two.2))

-- the file of a journal is read
pub read_for : {N : Type 0} (machine : N → Input → Moved N) (files : Files) → AreOfHeader files → (log : NodeJournal N) → IsOfFiles machine (contents_of files.each.items) files.until files.header log
    → (file : ℕ) → HasTitleAt (contents_of files.each.items) file (title_for files.header log.id)
    → (inputs : List Arrived) × IsJournalAt (contents_of files.each.items) file files.header log.id inputs
read_for machine files are log its file has = elim its.its_items [
  | inl replayed ↦ (
    replayed.inputs,
    subst (λ k. IsJournalAt (contents_of files.each.items) k files.header log.id replayed.inputs)
        (one_file files are log.id replayed.file file (title_of_journal (contents_of files.each.items) replayed.file files.header log.id replayed.inputs replayed.stands) has)
        replayed.stands,
  )
  | inr none ↦ absurd (none.0 file has)
]

-- ---- the next number

-- what is known of the files so far, with one more
pub next_push : (kind : NodeKind) (above : ℕ) (xs : List File) (f : File) (found : Option ℕ) → IsNext xs kind above found → IsNext (xs ++ f ∷ []) kind above (nearer kind above f.title.node found)
next_push kind above xs f found is = by_tests (same_kind f.title.node.kind kind) refl (nat_lt above f.title.node.number) refl found is
  where
    node : NodeId
    node = f.title.node

    Wants : ℕ → File → Type 0
    Wants high x = x.title.node.kind ≡ kind → above < x.title.node.number → high ≤ x.title.node.number

    Low : File → Type 0
    Low x = x.title.node.kind ≡ kind → x.title.node.number ≤ above

    has_old : (number : ℕ) → HasNumber xs kind number → HasNumber (xs ++ f ∷ []) kind number
    has_old number has = (has.0, record { one = has.1.one; stands = at_append xs (f ∷ []) has.0 has.1.one has.1.stands; its_name = has.1.its_name })

    has_new : same_kind node.kind kind ≡ true → HasNumber (xs ++ f ∷ []) kind node.number
    has_new same = (length xs, record { one = f; stands = at_push xs f (length xs) refl; its_name = ap (λ k. named k node.number) (kind_is node.kind kind same) })

    keeps : (found : Option ℕ) → IsNext xs kind above found → ((high : ℕ) → Wants high f) → Low f → IsNext (xs ++ f ∷ []) kind above found
    keeps None is far low = Each-append Low xs (f ∷ []) is (low, tt)
    keeps (Some number) is far low = record { has = has_old number is.has; higher = is.higher; least = Each-append (Wants number) xs (f ∷ []) is.least (far number, tt) }

    by_below : same_kind node.kind kind ≡ true → above < node.number → (found : Option ℕ) → IsNext xs kind above found
        → IsNext (xs ++ f ∷ []) kind above (cond (is_below node.number found) (Some node.number) found)
    by_below same higher None is = record {
      has = has_new same;
      higher = higher;
      least = Each-append (Wants node.number) xs (f ∷ []) (Each-weaker Low (Wants node.number) (λ x low of more. absurd (omega (arith, low of, more))) xs is) ((λ of more. omega arith), tt);
    }
    by_below same higher (Some number) is = by_test (nat_lt node.number number) refl
      where
        by_test : (test : Bool) → nat_lt node.number number ≡ test → IsNext (xs ++ f ∷ []) kind above (cond test (Some node.number) (Some number))
        by_test true e = record {
          has = has_new same;
          higher = higher;
          least = Each-append (Wants node.number) xs (f ∷ []) (Each-weaker (Wants number) (Wants node.number) (λ x far of more. omega (arith, far of more, ltb-true node.number number e)) xs is.least) ((λ of more. omega arith), tt);
        }
        by_test false e = record {
          has = has_old number is.has;
          higher = is.higher;
          least = Each-append (Wants number) xs (f ∷ []) is.least ((λ of more. ltb-false node.number number e), tt);
        }

    by_tests : (same : Bool) → same_kind node.kind kind ≡ same → (more : Bool) → nat_lt above node.number ≡ more → (found : Option ℕ) → IsNext xs kind above found
        → IsNext (xs ++ f ∷ []) kind above (cond (same && (more && is_below node.number found)) (Some node.number) found)
    by_tests false e more g found is = keeps found is (λ high of. absurd (other_kind node.kind kind e of)) (λ of. absurd (other_kind node.kind kind e of))
    by_tests true e false g found is = keeps found is (λ high of more. absurd (omega (arith, more, ltb-false above node.number g))) (λ of. ltb-false above node.number g)
    by_tests true e true g found is = by_below e (ltb-true above node.number g) found is
