-- Journals of nodes that begin one behind the other.
use Rattle.std.specs.Prelude.{◌≡◌, ◌⊎◌, ℕ, zero, suc, ◌+◌, ◌<◌, List, [], ◌∷◌, ◌++◌, length, slice_get, Option, Some, refl, ⊤}
use Rattle.std.proofs.Common.{inl, inr, sym, ◌∙◌, ap, subst, arith, append_assoc}
use Rattle.std.proofs.lemmas.List.{append-nil}
use Rattle.curp_base.specs.Words.{At, Each, numbered}
use Rattle.curp_base.proofs.Lists.{Each-append, Each-at, at_append_right}
use Rattle.curp_cmd.specs.declared.node.NodeId.{NodeId}
use Rattle.curp_cmd.specs.declared.node.NodeKind.{NodeKind}
use Rattle.curp_msg.specs.Moved.{Moved, Node}
use Rattle.curp_msg.specs.Input.{Input}
use Rattle.curp_msg.specs.declared.script.Header.{Header}
use Rattle.curp_journal.specs.Journal.{NodeJournal}
use Rattle.curp_gather.specs.Journals.{Begins, NodesAscend}
use Rattle.curp_anew.specs.Opening.{AllOwn}
use Rattle.curp_collected.specs.Files.{AreOfHeader, HasTitleAt, IsJournalAt, contents_of}
use Rattle.curp_collected.specs.Kinds.{AreBegun, AreOfKind, BeginsBy, HasLog, HaveLogs, IsAmong, IsLogOf, IsReadFor, NothingCame, Rise}
use Rattle.curp_collected.specs.Taking.{IsOfFiles}
use Rattle.curp_collected.specs.declared.beginning.Beginning.{Beginning}
use Rattle.curp_journal.specs.declared.origin.Origin.TheVariants.{Fresh}
use Rattle.curp_collected.specs.declared.files.Files.{Files}
use Rattle.curp_title.specs.declared.title.Title.{Title}
use Rattle.curp_collected.proofs.Begun.{named}
use Rattle.curp_collected.proofs.Finding.{each_read, file_at, read_for, title_for}

-- the numbers of the nodes rise, by recursion
abbrev LogsRise : {S : Type 0} → List (NodeJournal (Node S)) → Type 0
LogsRise {S} [] = ⊤
LogsRise {S} (log ∷ logs) = Each (λ (x : NodeJournal (Node S)). log.opening.number < x.opening.number) logs × LogsRise logs

ascend : {S : Type 0} (logs : List (NodeJournal (Node S))) → LogsRise logs → NodesAscend logs
ascend [] rises i k a b at_a at_b less = absurd cc
ascend {S} (x ∷ logs) rises zero zero a b at_a at_b less = absurd (omega arith)
ascend {S} (x ∷ logs) rises zero (suc k) a b at_a at_b less =
    let same : x ≡ a = cc in
    subst (λ (y : NodeJournal (Node S)). y.opening.number < b.opening.number) same (Each-at (λ (y : NodeJournal (Node S)). x.opening.number < y.opening.number) logs rises.0 k b at_b)
ascend {S} (x ∷ logs) rises (suc i) zero a b at_a at_b less = absurd (omega arith)
ascend {S} (x ∷ logs) rises (suc i) (suc k) a b at_a at_b less = ascend logs rises.1 i k a b at_a at_b (omega arith)

module _ {N : Type 0} (machine : N → Input → Moved N) (contents : List (List ℕ)) (until : Option ℕ) (h : Header) where
  -- one more
  pub logs_push : (bs : List (Beginning N)) (logs : List (NodeJournal N)) (b : Beginning N) (one : List (NodeJournal N))
      → HaveLogs machine contents until h bs logs → HasLog machine contents until h b one → HaveLogs machine contents until h (bs ++ b ∷ []) (logs ++ one)
  logs_push [] logs b one have has = (one, [], ap (λ l. l ++ one) have ∙ sym (append-nil one), has, refl)
  logs_push (x ∷ bs) logs b one have has =
      (have.0, have.1 ++ one, ap (λ l. l ++ one) have.2 ∙ append_assoc have.0 have.1 one, have.3, logs_push bs have.1 b one have.4 has)

  -- what holds of the journal of each node
  pub logs_each : (Q : Beginning N → Type 0) (P : NodeJournal N → Type 0) → ((b : Beginning N) (log : NodeJournal N) → Q b → IsLogOf machine contents until h b log → P log)
      → (bs : List (Beginning N)) (logs : List (NodeJournal N)) → Each Q bs → HaveLogs machine contents until h bs logs → Each P logs
  logs_each Q P leads [] logs all have = subst (Each P) (sym have) tt
  logs_each Q P leads (b ∷ bs) logs all have =
      subst (Each P) (sym have.2) (Each-append P have.0 have.1 (of_one have.0 have.3) (logs_each Q P leads bs have.1 all.1 have.4))
    where
      of_one : (one : List (NodeJournal N)) → HasLog machine contents until h b one → Each P one
      of_one one (inl none) = subst (Each P) (sym none.0) tt
      of_one one (inr is) = subst (Each P) (sym is.1) (leads b is.0 all.0 is.2, tt)

  -- the journal of one of the nodes, or nothing came to it
  pub logs_name : (bs : List (Beginning N)) (logs : List (NodeJournal N)) → HaveLogs machine contents until h bs logs → (k : ℕ) (b : Beginning N) → At bs k b
      → IsAmong logs b.id ⊎ NothingCame contents until h b.id
  logs_name [] logs have k b at = absurd cc
  logs_name (x ∷ bs) logs have zero b at = by_case have.0 have.2 (subst (λ y. HasLog machine contents until h y have.0) same have.3)
    where
      same : x ≡ b
      same = cc

      by_case : (one : List (NodeJournal N)) → logs ≡ one ++ have.1 → HasLog machine contents until h b one → IsAmong logs b.id ⊎ NothingCame contents until h b.id
      by_case one e (inl none) = inr none.2
      by_case one e (inr is) = inl (record {
        place = 0;
        log = is.0;
        stands = ap (λ l. slice_get l 0) (e ∙ ap (λ l. l ++ have.1) is.1);
        its_name = is.2.its_name;
      })
  logs_name (x ∷ bs) logs have (suc k) b at = by_case (logs_name bs have.1 have.4 k b at)
    where
      by_case : IsAmong have.1 b.id ⊎ NothingCame contents until h b.id → IsAmong logs b.id ⊎ NothingCame contents until h b.id
      by_case (inr none) = inr none
      by_case (inl is) = inl (record {
        place = length have.0 + is.place;
        log = is.log;
        stands = subst (λ l. At l (length have.0 + is.place) is.log) (sym have.2) (at_append_right have.0 have.1 is.place (length have.0 + is.place) is.log refl is.stands);
        its_name = is.its_name;
      })

-- ---- all of a kind

pub both_hold : {A : Type 0} (P Q : A → Type 0) (xs : List A) → Each P xs → Each Q xs → Each (λ x. P x × Q x) xs
both_hold P Q [] p q = tt
both_hold P Q (x ∷ xs) p q = ((p.0, q.0), both_hold P Q xs p.1 q.1)

module _ {S : Type 0} (kind : NodeKind) (there : List S) (fresh : S) (machine : Node S → Input → Moved (Node S)) (contents : List (List ℕ)) (until : Option ℕ) (h : Header) where
  abbrev Log : Type 0
  Log = NodeJournal (Node S)

  name_of : (b : Beginning (Node S)) (log : Log) → BeginsBy kind there fresh b → IsLogOf machine contents until h b log → log.id ≡ named kind log.opening.number
  name_of b log is of = of.its_name ∙ is.its_name ∙ ap (λ (x : Node S). named kind x.number) (sym of.begins)

  begins_of : (b : Beginning (Node S)) (log : Log) → BeginsBy kind there fresh b → IsLogOf machine contents until h b log → Begins there fresh log.opening log.items
  begins_of b log is of = by_case is.begins
    where
      by_case : (numbered there b.node.number ≡ Some b.node.state) ⊎ ((length there < b.node.number) × (b.node.state ≡ fresh) × (b.origin ≡ Fresh)) → Begins there fresh log.opening log.items
      by_case (inl here) = inl (subst (λ (x : Node S). numbered there x.number ≡ Some x.state) (sym of.begins) here)
      by_case (inr new) = inr (
        subst (λ (x : Node S). length there < x.number) (sym of.begins) new.0,
        ap (λ (x : Node S). x.state) of.begins ∙ new.1,
        of.first new.2,
      )

  number_of : (x : Beginning (Node S)) (log : Log) → BeginsBy kind there fresh x → IsLogOf machine contents until h x log → log.opening.number ≡ x.id.number
  number_of x log is of = ap (λ (y : Node S). y.number) of.begins ∙ ap (λ (id : NodeId). id.number) (sym is.its_name)

  -- those behind a node have higher numbers
  behind : (b : Beginning (Node S)) (log : Log) → BeginsBy kind there fresh b → IsLogOf machine contents until h b log → (bs : List (Beginning (Node S))) (logs : List Log)
      → Each (λ (x : Beginning (Node S)). b.id.number < x.id.number) bs → Each (BeginsBy kind there fresh) bs → HaveLogs machine contents until h bs logs
      → Each (λ (y : Log). log.opening.number < y.opening.number) logs
  behind b log is of bs logs higher each have =
      logs_each machine contents until h (λ (x : Beginning (Node S)). (b.id.number < x.id.number) × BeginsBy kind there fresh x) (λ (y : Log). log.opening.number < y.opening.number)
      (λ x y both its. omega (arith, both.0, number_of b log is of, number_of x y both.1 its)) bs logs
      (both_hold (λ (x : Beginning (Node S)). b.id.number < x.id.number) (BeginsBy kind there fresh) bs higher each) have

  first_rises : (b : Beginning (Node S)) (bs : List (Beginning (Node S))) (rest : List Log) → BeginsBy kind there fresh b → Each (λ (x : Beginning (Node S)). b.id.number < x.id.number) bs
      → Each (BeginsBy kind there fresh) bs → HaveLogs machine contents until h bs rest → LogsRise rest → (one : List Log) → HasLog machine contents until h b one → LogsRise (one ++ rest)
  first_rises b bs rest is higher each have rises one (inl none) = subst (λ (l : List Log). LogsRise (l ++ rest)) (sym none.0) rises
  first_rises b bs rest is higher each have rises one (inr its) =
      subst (λ (l : List Log). LogsRise (l ++ rest)) (sym its.1) (behind b its.0 is its.2 bs rest higher each have, rises)

  logs_rise : (bs : List (Beginning (Node S))) (logs : List Log) → Each (BeginsBy kind there fresh) bs → Rise bs → HaveLogs machine contents until h bs logs → LogsRise logs
  logs_rise [] logs each rises have = subst LogsRise (sym have) tt
  logs_rise (b ∷ bs) logs each rises have =
      subst LogsRise (sym have.2) (first_rises b bs have.1 each.0 rises.0 each.1 have.4 (logs_rise bs have.1 each.1 rises.1 have.4) have.0 have.3)

-- the journals of all nodes of a kind
module _ {S : Type 0} (kind : NodeKind) (there : List S) (fresh : S) (machine : Node S → Input → Moved (Node S)) (Fits : NodeJournal (Node S) → Type 0) (files : Files) (are : AreOfHeader files)
    (fits : (log : NodeJournal (Node S)) → log.id ≡ named kind log.opening.number → Begins there fresh log.opening log.items → Fits log) where
  abbrev contents : List (List ℕ)
  contents = contents_of files.each.items

  pub of_kind : (bs : List (Beginning (Node S))) (logs : List (NodeJournal (Node S))) → AreBegun kind there fresh files.each.items bs
      → HaveLogs machine contents files.until files.header bs logs → AreOfKind kind machine Fits contents files.until files.header logs
  of_kind bs logs begun have = record {
    each = logs_each machine contents until h (BeginsBy kind there fresh) Fits
        (λ b log is of. fits log (name_of kind there fresh machine contents until h b log is of) (begins_of kind there fresh machine contents until h b log is of)) bs logs begun.each have;
    rise = ascend logs (logs_rise kind there fresh machine contents until h bs logs begun.each begun.rise have);
    its = logs_each machine contents until h (BeginsBy kind there fresh) (IsOfFiles machine contents until h) (λ b log is of. of.its) bs logs begun.each have;
    own = logs_each machine contents until h (BeginsBy kind there fresh) (λ (log : NodeJournal (Node S)). AllOwn log.id log.items) (λ b log is of. of.own) bs logs begun.each have;
    whole = whole;
  }
    where
      until : Option ℕ
      until = files.until

      h : Header
      h = files.header

      among : (node : NodeId) (file : ℕ) → HasTitleAt contents file (title_for h node) → IsAmong logs node → IsReadFor contents until h logs file node
      among node file has is =
          let its = Each-at (IsOfFiles machine contents until h) logs (logs_each machine contents until h (BeginsBy kind there fresh) (IsOfFiles machine contents until h) (λ b log x of. of.its) bs logs begun.each have) is.place is.log is.stands in
          let read = read_for machine files are is.log its file (subst (λ (n : NodeId). HasTitleAt contents file (title_for h n)) (sym is.its_name) has) in
          record {
            inputs = read.0;
            stands = subst (λ (n : NodeId). IsJournalAt contents file h n read.0) is.its_name read.1;
            there = inl is;
          }

      whole : (file : ℕ) (node : NodeId) → node.kind ≡ kind → HasTitleAt contents file (title_for h node) → IsReadFor contents until h logs file node
      whole file node of has =
          let found = file_at files.each.items (each_read h files.each.items are.each) file (title_for h node) has in
          let same : found.0.title.node ≡ node = ap (λ (t : Title). t.node) found.2 in
          let its = begun.whole file found.0 found.1 (ap (λ (id : NodeId). id.kind) same ∙ of) in
          let name : its.b.id ≡ node = its.its_name ∙ same in
          elim (logs_name machine contents until h bs logs have its.place its.b its.stands) [
            | inl is ↦ among node file has (subst (IsAmong logs) name is)
            | inr none ↦ let nothing = subst (NothingCame contents until h) name none file has in record { inputs = nothing.0; stands = nothing.1; there = inr nothing.2 }
          ]
