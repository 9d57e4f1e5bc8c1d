-- Each move keeps the machine's facts; and so do lists of moves, from the opening on. A look that is kept keeps its value.
use Rattle.std.proofs.Common.{◌≡◌, ◌⊎◌, inl, length, ℕ, true, List, [], ◌∷◌, Some, None, refl, sym, subst, arith}
use Rattle.std.specs.FinMap as map
use Rattle.curp_base.specs.Words.{At, numbered}
use Rattle.curp_cmd.specs.declared.command.Answer.{Answer}
use Rattle.curp_cmd.specs.declared.command.RequestId.{RequestId}
use Rattle.curp_cmd.specs.declared.entry.Entry.{Entry}
use Rattle.curp_cmd.specs.declared.entry.Entry.TheVariants.{Op, Take}
use Rattle.curp_msg.specs.declared.machine.Capture.{Capture}
use Rattle.curp_model.specs.Log.{answer_after}
use Rattle.curp_law_linear.specs.Hashes.{HashOk, Part, owns}
use Rattle.curp_law_linear.specs.Line.{Left, LineState, LineOk, LookGives}
use Rattle.curp_law_linear.specs.Moves.{Adopts, AllFit, Completes, ExpirePush, Fits, Flags, GivePush, GivenDone, Invokes, IsDropped, Lates, Look, LookFits, Looks, Migrates, LineMove, OpPush, Quicks, Strays, TakePush, Told, after, all_after, looking}
use Rattle.curp_law_linear.proofs.Given.{LogsOk, Pure, Second}
use Rattle.curp_law_linear.proofs.ReadsKept.{reads_keep}
use Rattle.curp_law_linear.proofs.UpdatesKept.{UpdatesOk, updates_keep, whole_value}
use Rattle.curp_law_linear.proofs.Values.{look_adopt, look_begins, look_flagged, look_more, look_put}
use Rattle.curp_law_linear.proofs.QuicksMoves.{quicks_keep}
use Rattle.curp_law_linear.proofs.Lates.{late_low}
use Rattle.curp_model.specs.Marks.{quick}

module _ (pure : Pure) (second : Second) where
  updates_of : (s : LineState) → LineOk s → UpdatesOk s
  updates_of s ok = record { order = ok.order; owned = ok.owned }

  -- each move keeps the facts
  pub keeps : (s : LineState) (m : LineMove) → Fits s m → LogsOk s.parts → LineOk s → LineOk (after s m)
  keeps s m fits logs ok =
      let now = updates_keep pure second s m fits logs (updates_of s ok) in
      record {
        order = now.order;
        owned = now.owned;
        looks = reads_keep pure s m fits logs ok.order ok.owned now.order ok.quick ok.looks;
        quick = quicks_keep pure s m fits logs ok.order ok.owned ok.looks ok.quick;
      }

  -- and so do all of a list
  pub all_keep : (ms : List LineMove) (s : LineState) → AllFit LogsOk s ms → LineOk s → LineOk (all_after s ms)
  all_keep [] s fits ok = ok
  all_keep (m ∷ ms) s fits ok = all_keep ms (after s m) fits.2 (keeps s m fits.0 fits.1 ok)

  -- a look gives at its mark what it gave, unless an adoption drops it
  pub look_stays : (s : LineState) (m : LineMove) → Fits s m → LogsOk s.parts → LineOk s → (by : Capture) (part long : ℕ) (id : RequestId) (a : Answer)
      → LookGives s.marks by part long id a → LookGives (after s m).marks by part long id a ⊎ IsDropped m part long
  look_stays s (OpPush o) fits logs ok by part long id a w = inl (look_more s.marks _ by part long id a w)
  look_stays s (TakePush o) fits logs ok by part long id a w = inl w
  look_stays s (GivePush o) fits logs ok by part long id a w = inl w
  look_stays s (ExpirePush o) fits logs ok by part long id a w = inl w
  look_stays s (Told number) fits logs ok by part long id a w = inl w
  look_stays s (Migrates m) fits logs ok by part long id a w = inl w
  look_stays s (GivenDone m) fits logs ok by part long id a w = inl w
  look_stays s (Invokes other command) fits logs ok by part long id a w = inl w
  look_stays s (Completes other b) fits logs ok by part long id a w =
      inl (look_flagged (record { id = other; answer = b; by = None }) s.marks ok.order.kinds (keeps s (Completes other b) fits logs ok).order.kinds by part long id a w)
  look_stays s (Looks o) fits logs ok by part long id a w = inl (look_more s.marks _ by part long id a w)
  look_stays s (Flags at other b) fits logs ok by part long id a w =
      inl (look_flagged (record { id = other; answer = b; by = Some at }) s.marks ok.order.kinds (keeps s (Flags at other b) fits logs ok).order.kinds by part long id a w)
  look_stays s (Adopts o) fits logs ok by part long id a w = look_adopt pure s ok.order.kinds ok.looks.looks ok.quick.quicks o fits (logs.takes_once o.part o.p fits.here) by part long id a w
  look_stays s (Quicks o) fits logs ok by part long id a w = inl (look_more s.marks _ by part long id a w)
  look_stays s (Lates o) fits logs ok by part long id a w = inl (look_put (quick o.node o.part o.epoch o.capture o.id o.command) refl o.place s.marks (late_low s ok.order o fits) by part long id a w)
  look_stays s (Strays at number more) fits logs ok by part long id a w = inl w

  -- a look gives at its mark what it read in the log
  pub look_reads : (s : LineState) (o : Look) → LookFits s o → LogsOk s.parts → LineOk s
      → LookGives (looking s o).marks (record { master = o.node; epoch = o.epoch; number = o.capture }) o.part (length o.p.log) o.id (answer_after o.p.lo o.p.hi o.p.log o.command)
  look_reads s o fits logs ok = look_begins pure s ok.order ok.owned o fits (whole_value pure second s logs o.part o.p fits.here)

-- ---- the opening

-- partitions with empty logs, of which no two own a hash
pub opening_keeps : (parts : List Part) → ((n : ℕ) (p : Part) → numbered parts n ≡ Some p → p.log ≡ [])
    → ((n k : ℕ) (p q : Part) (h : ℕ) → numbered parts n ≡ Some p → numbered parts k ≡ Some q → owns p h ≡ true → owns q h ≡ true → n ≡ k)
    → (left : ℕ → ℕ → Left) → LineOk (record { parts = parts; moving = None; told = []; marks = []; history = []; left = left })
opening_keeps parts empty one left = record {
  order = record {
    history = record { invoked_once = λ i j id c d h g. absurd cc; completed_once = λ i j id a b h g. absurd cc; after_invoked = λ j id a h. absurd cc };
    hashes = λ n p hn h held. subst (λ (log : List Entry). HashOk None parts [] (record p { log = log }) h) (sym (empty n p hn)) (record {
      past = [];
      alike = refl;
      values = λ key k. map.get-empty _ key;
      known = λ x m prefix back is none. absurd (cc (m.1));
    });
    waiting = λ k i m h at_i f. absurd cc;
    standing = λ k i m h at_i. absurd cc;
    flags = λ k m h f. absurd cc;
    unflagged = λ k i m h at_i f c. absurd cc;
    invoked = λ k m h uncut. absurd cc;
    marked = λ e id c a h inv up. absurd cc;
    kinds = λ k m h. absurd cc;
    reads = λ id c done inv read. let e = done.stands in absurd cc;
    one_flag = λ j k m o hj hk f g same. absurd cc;
    distinct = λ j k x y h g same. absurd cc;
    answered = λ n p i r a hn hi. absurd (let e = none_there n p i (Op r a) hn hi in e);
    once = λ n m p q i j r s a b hn hm hi hj same. absurd (none_there n p i (Op r a) hn hi);
    in_time = λ k o hk t j e m a lt hj f hc. absurd cc;
  };
  owned = record {
    one = one;
    gone = λ n p h hn a t. absurd cc;
    moved = λ n k p q h m is hn hk a t. absurd cc;
    source = λ n p m is hn t. absurd cc;
    target = λ n p m is hn t. absurd cc;
    apart = λ m is same. absurd cc;
  };
  looks = record {
    looks = λ j k i number long h m u hm am hk lt au f tm tu. absurd cc;
    takes = λ n p i number k hn hi. absurd (none_there n p i (Take number k) hn hi);
    values = λ k e m a h look f done. absurd cc;
  };
  quick = record {
    quicks = λ j number h m hm is t. absurd cc;
    cuts = λ j number long h m hm is firm. absurd cc;
    low = λ j k i number long m u hm is hk lt at waits same. absurd cc;
    numbers = λ j number long m hm is. absurd cc;
    once = λ j k number long other m o hj hk ij ik same. absurd cc;
    there = λ part number first last. absurd (omega (arith, first, last));
    plain = λ k m h is. absurd cc;
    values = λ j number long m hm is key firm. absurd cc;
  };
}
  where
    none_there : (n : ℕ) (p : Part) (i : ℕ) (e : Entry) → numbered parts n ≡ Some p → At p.log i e → ⊥
    none_there n p i e hn hi = let at : At [] i e = subst (λ (l : List Entry). At l i e) (empty n p hn) hi in cc
