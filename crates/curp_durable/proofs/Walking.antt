-- How a walk along a journal goes on.
use Rattle.std.specs.Prelude.{◌≡◌, ◌≢◌, ℕ, ◌+◌, ◌<◌, ◌≤◌, List, [], ◌∷◌, ◌++◌, length, take, drop, get_or, refl}
use Rattle.std.proofs.Common.{sym, ◌∙◌, ap, subst, arith, append_assoc, length-append, take-append-drop}
use Rattle.std.proofs.lemmas.List.{append-nil, drop_at, drop-drop, length-drop, take_at, drop_more}
use Rattle.curp_base.specs.Words.{all_of}
use Rattle.curp_base.specs.declared.failed.Failed.{Failed}
use Rattle.curp_base.specs.declared.failed.Failed.TheVariants as failed
use Rattle.curp_journal.specs.declared.arrived.Arrived.{Arrived}
use Rattle.curp_msg.specs.Moved.{Moved}
use Rattle.curp_msg.specs.Input.{Input}
use Rattle.curp_durable.specs.Journal.{Batch, IsDamaged, IsNotFormatted, framed, records}
use Rattle.curp_durable.specs.Opening.{FindsNone, FindsNot, FindsRecord, FindsShut, IsOpened, OpensNot, StartsJournal, Walked, WalkedBy, WalkedFrom, WalkedOver, error_at}
use Rattle.curp_durable.specs.Standing.{Standing, after, begun}
use Rattle.curp_durable.specs.declared.error.OpenError.{OpenError}
use Rattle.curp_durable.specs.declared.error.OpenError.TheVariants as opened
use Rattle.curp_durable.proofs.Reading.{records-grown, encoded-push}
use Rattle.curp_durable.proofs.Standings.{after-append, all-push}

-- a title at the start
pub title_there : (content title : List ℕ) → length title < length content → take (length title) content ≡ title → StartsJournal content title
title_there content title long same = record {
  byte = get_or content (length title) 0;
  rest = drop (length title + 1) content;
  is = sym (take-append-drop (length title) content) ∙ ap (λ (l : List ℕ). l ++ drop (length title) content) same ∙ ap (λ (l : List ℕ). title ++ l) (drop_more content (length title) 0 long);
}

pub title_short : (content title : List ℕ) → length content ≤ length title → IsNotFormatted content title
title_short content title short byte rest same = absurd (omega (arith, short, ap length same, length-append title (byte ∷ rest)))

pub title_other : (content title : List ℕ) → take (length title) content ≢ title → IsNotFormatted content title
title_other content title other byte rest same = other (ap (λ (l : List ℕ). take (length title) l) same ∙ take_at title (byte ∷ rest) (length title) refl)

module _ (content title : List ℕ) where
  walk_starts : StartsJournal content title → Walked content title (length title) []
  walk_starts s = record {
    byte = s.byte;
    rest = s.rest;
    is = s.is ∙ ap (λ (l : List ℕ). l ++ s.byte ∷ s.rest) (sym (append-nil title));
    place = ap length (append-nil title);
    encoded = tt;
  }

  module _ (commit : ℕ) (batches : List Batch) (w : Walked content title commit batches) where
    abbrev prefix : List ℕ
    prefix = title ++ records batches

    at_commit : drop commit content ≡ w.byte ∷ w.rest
    at_commit = ap (λ (l : List ℕ). drop commit l) w.is ∙ drop_at prefix (w.byte ∷ w.rest) commit w.place

    -- with what was found at the commit byte
    seen_so : (bytes : List ℕ) → drop commit content ≡ bytes → content ≡ prefix ++ bytes
    seen_so bytes is = w.is ∙ ap (λ (l : List ℕ). prefix ++ l) (sym at_commit ∙ is)

    walk_on : (b : Batch) (step : ℕ) → FindsRecord (drop commit content) b step → Walked content title (commit + step) (batches ++ b ∷ [])
    walk_on b step f = record {
      byte = f.byte;
      rest = f.rest;
      is = seen_so (1 ∷ (framed b ++ f.byte ∷ f.rest)) f.is ∙ sym (append_assoc prefix (1 ∷ framed b) (f.byte ∷ f.rest)) ∙ ap (λ (l : List ℕ). l ++ f.byte ∷ f.rest) (sym grown);
      place = omega (arith, ap length grown, length-append prefix (1 ∷ framed b), w.place, f.far);
      encoded = encoded-push batches b w.encoded f.encodes;
    }
      where
        grown : title ++ records (batches ++ b ∷ []) ≡ prefix ++ 1 ∷ framed b
        grown = records-grown title batches b

-- ---- a walk that gives a node what it finds

module _ {N : Type 0} (machine : N → Input → Moved N) (content title : List ℕ) (opening : N) where
  pub by_starts : StartsJournal content title → WalkedBy machine content title opening (length title) (begun opening)
  by_starts s = record { batches = []; walked = walk_starts content title s; stand_is = refl }

  module _ (commit : ℕ) (stand : Standing N) (w : WalkedBy machine content title opening commit stand) where
    pub by_on : (b : Batch) (step : ℕ) (next : Standing N) → FindsRecord (drop commit content) b step → next ≡ after machine stand b → WalkedBy machine content title opening (commit + step) next
    by_on b step next f is = record {
      batches = w.batches ++ b ∷ [];
      walked = walk_on content title commit w.batches w.walked b step f;
      stand_is = is ∙ ap (λ (s : Standing N). after machine s b) w.stand_is ∙ sym (after-append machine (all_of w.batches) b (begun opening)) ∙ ap (after machine (begun opening)) (sym (all-push w.batches b));
    }

-- ---- the same over the bytes from a place on

-- the next commit byte is among the bytes
pub found_within : (bytes : List ℕ) (at : ℕ) (b : Batch) (step : ℕ) → FindsRecord (drop at bytes) b step → at + step < length bytes
found_within bytes at b step f = omega (arith, ap length f.is, f.far, length-append (framed b) (f.byte ∷ f.rest), length-drop at bytes)

module _ {N : Type 0} (machine : N → Input → Moved N) (bytes : List ℕ) (base at : ℕ) (stand : Standing N) (content title : List ℕ) (opening : N) (w : WalkedFrom machine bytes base at stand content title opening) where
  abbrev commit : ℕ
  commit = base + at

  same_there : drop commit content ≡ drop at bytes
  same_there = sym (drop-drop at base content) ∙ ap (λ (l : List ℕ). drop at l) (sym w.rest)

  splits : (there : List ℕ) → drop at bytes ≡ there → content ≡ (title ++ records w.by.batches) ++ there
  splits there is = seen_so content title commit w.by.batches w.by.walked there (same_there ∙ is)

  pub from_on : (b : Batch) (step : ℕ) (next : Standing N) → FindsRecord (drop at bytes) b step → next ≡ after machine stand b → WalkedFrom machine bytes base (at + step) next content title opening
  from_on b step next f is =
      let found : FindsRecord (drop commit content) b step = subst (λ (l : List ℕ). FindsRecord l b step) (sym same_there) f in
      let place : commit + step ≡ base + (at + step) = omega arith in
      record { rest = w.rest; by = subst (λ (n : ℕ). WalkedBy machine content title opening n next) place (by_on machine content title opening commit stand w.by b step next found is) }

  -- it ends at a shut commit byte
  pub from_shut : FindsShut (drop at bytes) → IsOpened machine content title opening commit stand
  from_shut f = record {
    batches = w.by.batches;
    reads = record { byte = f.byte; rest = f.rest; is = splits (f.byte ∷ f.rest) f.is; place = w.by.walked.place; shut = f.shut; encoded = w.by.walked.encoded };
    stand_is = w.by.stand_is;
  }

  -- or where no record stands
  from_none : FindsNone (drop at bytes) → IsDamaged content title commit
  from_none f = record { batches = w.by.batches; rest = f.rest; is = splits (1 ∷ f.rest) f.is; at = w.by.walked.place; encoded = w.by.walked.encoded; stuck = f.none }

  pub from_stuck : (error : Failed OpenError) → FindsNot bytes at error → OpensNot content title (error_at commit error)
  from_stuck (failed.Because opened.NotFormatted) f = absurd f
  from_stuck (failed.Because (opened.Damaged place)) f = from_none f.0
  from_stuck (failed.Because opened.DiskFault) f = absurd f
  from_stuck failed.NoMemory f = tt

-- all bytes, from the first commit byte on
pub from_starts : {N : Type 0} (machine : N → Input → Moved N) (content title : List ℕ) (opening : N) (stand : Standing N) → StartsJournal content title → stand ≡ begun opening → WalkedFrom machine content 0 (length title) stand content title opening
from_starts machine content title opening stand s is =
    let place : length title ≡ 0 + length title = omega arith in
    record {
      rest = refl;
      by = subst (λ (n : ℕ). WalkedBy machine content title opening n stand) place (subst (WalkedBy machine content title opening (length title)) (sym is) (by_starts machine content title opening s));
    }

-- ---- a walk that collects it

module _ (content title : List ℕ) where
  pub over_starts : StartsJournal content title → WalkedOver content title (length title) []
  over_starts s = record { batches = []; walked = walk_starts content title s; all = refl }

  pub over_on : (commit : ℕ) (inputs : List Arrived) (w : WalkedOver content title commit inputs) (b : Batch) (step : ℕ) → FindsRecord (drop commit content) b step → WalkedOver content title (commit + step) (inputs ++ b)
  over_on commit inputs w b step f = record {
    batches = w.batches ++ b ∷ [];
    walked = walk_on content title commit w.batches w.walked b step f;
    all = all-push w.batches b ∙ ap (λ (l : List Arrived). l ++ b) w.all;
  }
