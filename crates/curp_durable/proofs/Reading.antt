-- What a disk reads as in and after an append.
use Rattle.std.specs.Prelude.{◌≡◌, ◌≢◌, ◌⊎◌, ℕ, ◌+◌, ◌<◌, List, [], ◌∷◌, ◌++◌, length, take, drop}
use Rattle.std.proofs.Common.{inl, inr, sym, ◌∙◌, ap, arith, append_assoc, length-append, take-append-drop}
use Rattle.std.proofs.lemmas.List.{append-nil, take_at}
use Rattle.std.proofs.lemmas.Bool.{cases_eq}
use Rattle.curp_base.specs.Words.{Each}
use Rattle.curp_disk.specs.Disk.{over}
use Rattle.curp_durable.specs.Appending.{IsShut, ShutOrStaged}
use Rattle.curp_durable.specs.Journal.{Batch, HasEncoding, ReadsJournal, framed, records}
use Rattle.curp_durable.proofs.Commits.{opened}

pub records-push : (bs : List Batch) (b : Batch) → records (bs ++ b ∷ []) ≡ records bs ++ 1 ∷ framed b
records-push [] b = ap (λ (l : List ℕ). 1 ∷ l) (append-nil (framed b))
records-push (x ∷ bs) b = ap (λ (l : List ℕ). 1 ∷ (framed x ++ l)) (records-push bs b) ∙ ap (λ (l : List ℕ). 1 ∷ l) (sym (append_assoc (framed x) (records bs) (1 ∷ framed b)))

pub records-grown : (title : List ℕ) (bs : List Batch) (b : Batch) → title ++ records (bs ++ b ∷ []) ≡ (title ++ records bs) ++ 1 ∷ framed b
records-grown title bs b = ap (λ (l : List ℕ). title ++ l) (records-push bs b) ∙ sym (append_assoc title (records bs) (1 ∷ framed b))

pub encoded-push : (bs : List Batch) (b : Batch) → Each HasEncoding bs → HasEncoding b → Each HasEncoding (bs ++ b ∷ [])
encoded-push [] b all has = (has, tt)
encoded-push (x ∷ bs) b all has = (all.0, encoded-push bs b all.1 has)

module _ (content title : List ℕ) (batches : List Batch) (commit : ℕ) (reads : ReadsJournal content title batches commit) where
  abbrev prefix : List ℕ
  prefix = title ++ records batches

  pub commit_within : commit < length content
  commit_within = omega (arith, ap length reads.is, length-append prefix (reads.byte ∷ reads.rest), reads.place)

  pub prefix_is : take commit content ≡ prefix
  prefix_is = ap (λ (l : List ℕ). take commit l) reads.is ∙ take_at prefix (reads.byte ∷ reads.rest) commit reads.place

  through_commit : take (commit + 1) content ≡ prefix ++ reads.byte ∷ []
  through_commit =
      let longer : content ≡ (prefix ++ reads.byte ∷ []) ++ reads.rest = reads.is ∙ sym (append_assoc prefix (reads.byte ∷ []) reads.rest) in
      let len : length (prefix ++ reads.byte ∷ []) ≡ commit + 1 = omega (arith, length-append prefix (reads.byte ∷ []), reads.place) in
      ap (λ (l : List ℕ). take (commit + 1) l) longer ∙ take_at (prefix ++ reads.byte ∷ []) reads.rest (commit + 1) len

  -- whatever stands behind the shut commit byte
  pub shut_reads : (c : List ℕ) → IsShut content commit c → ReadsJournal c title batches commit
  shut_reads c same = record {
    byte = reads.byte;
    rest = drop (commit + 1) c;
    is = sym (take-append-drop (commit + 1) c) ∙ ap (λ (l : List ℕ). l ++ drop (commit + 1) c) (same ∙ through_commit) ∙ append_assoc prefix (reads.byte ∷ []) (drop (commit + 1) c);
    place = reads.place;
    shut = reads.shut;
    encoded = reads.encoded;
  }

  -- with this byte in the commit byte, and these bytes behind it
  with_commit : (c : List ℕ) (byte : ℕ) (behind : List ℕ) → take commit c ≡ take commit content → drop commit c ≡ byte ∷ behind → c ≡ prefix ++ byte ∷ behind
  with_commit c byte behind same back = sym (take-append-drop commit c) ∙ ap (λ (l : List ℕ). l ++ drop commit c) (same ∙ prefix_is) ∙ ap (λ (l : List ℕ). prefix ++ l) back

  pub still_shut : (c : List ℕ) (byte : ℕ) (behind : List ℕ) → byte ≢ 1 → take commit c ≡ take commit content → drop commit c ≡ byte ∷ behind → ReadsJournal c title batches commit
  still_shut c byte behind shut same back = record {
    byte = byte;
    rest = behind;
    is = with_commit c byte behind same back;
    place = reads.place;
    shut = shut;
    encoded = reads.encoded;
  }

  module _ (b : Batch) (has : HasEncoding b) where
    grown : title ++ records (batches ++ b ∷ []) ≡ prefix ++ 1 ∷ framed b
    grown = records-grown title batches b

    -- the commit byte is open, and the whole record stands behind it
    pub now_open : (c tail : List ℕ) → take commit c ≡ take commit content → drop commit c ≡ 1 ∷ ((framed b ++ 0 ∷ []) ++ tail) → ReadsJournal c title (batches ++ b ∷ []) (commit + length (framed b ++ 0 ∷ []))
    now_open c tail same back = record {
      byte = 0;
      rest = tail;
      is = with_commit c 1 ((framed b ++ 0 ∷ []) ++ tail) same back
          ∙ ap (λ (l : List ℕ). prefix ++ 1 ∷ l) (append_assoc (framed b) (0 ∷ []) tail)
          ∙ sym (append_assoc prefix (1 ∷ framed b) (0 ∷ tail))
          ∙ ap (λ (l : List ℕ). l ++ 0 ∷ tail) (sym grown);
      place = omega (arith, ap length grown, length-append prefix (1 ∷ framed b), length-append (framed b) (0 ∷ []), reads.place);
      shut = omega arith;
      encoded = encoded-push batches b reads.encoded has;
    }

    pub left : (c : List ℕ) → ShutOrStaged content commit (framed b ++ 0 ∷ []) c → ReadsJournal c title batches commit ⊎ ReadsJournal c title (batches ++ b ∷ []) (commit + length (framed b ++ 0 ∷ []))
    left c (inl same) = inl (shut_reads c same)
    left c (inr staged) = elim (cases_eq staged.any 1) [
      | inl is_open ↦ inr (now_open c staged.tail staged.prefix (staged.back ∙ ap (λ (n : ℕ). n ∷ ((framed b ++ 0 ∷ []) ++ staged.tail)) is_open))
      | inr shut ↦ inl (still_shut c staged.any ((framed b ++ 0 ∷ []) ++ staged.tail) shut staged.prefix staged.back)
    ]

    pub done : (c : List ℕ) → c ≡ over (over content (commit + 1) (framed b ++ 0 ∷ [])) commit (1 ∷ []) → ReadsJournal c title (batches ++ b ∷ []) (commit + length (framed b ++ 0 ∷ []))
    done c is =
        let parts = opened content commit (framed b ++ 0 ∷ []) commit_within c is in
        now_open c (drop (commit + 1 + length (framed b ++ 0 ∷ [])) content) parts.0 parts.1
