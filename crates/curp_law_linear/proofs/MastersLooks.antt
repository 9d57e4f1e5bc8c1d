-- A read that an adopted master takes is a look of the machine.
use Rattle.std.proofs.Common.{◌≡◌, ℕ, suc, ◌≤◌, nat_lt, if◌then◌else◌, Bool, true, false, List, [], ◌∷◌, ◌++◌, append-nil, map, length, refl, ap, ap₂, sym, ◌∙◌, subst, subst₂, arith}
use Rattle.std.specs.List.{filter}
use Rattle.std.proofs.lemmas.Bool.Decides.{nat_tests}
use Rattle.std.proofs.lemmas.List.Elements.{filter-append}
use Rattle.curp_base.specs.Words.{At, Each, IsPrefix}
use Rattle.curp_base.proofs.Lists.{Each-at, at_push, prefix_self}
use Rattle.curp_cmd.specs.Hash.{hashes}
use Rattle.curp_cmd.specs.declared.entry.Entry.{Entry}
use Rattle.curp_cmd.specs.declared.node.NodeId.{NodeId}
use Rattle.curp_msg.specs.declared.config.PartConfig.{PartConfig}
use Rattle.curp_model.specs.Log.{meaning}
use Rattle.curp_model.specs.Marks.{Mark, looked}
use Rattle.curp_model.specs.Master.{Captured, MasterState}
use Rattle.curp_model.specs.Ranges.{owns_all}
use Rattle.curp_model.specs.World.{World, capture_mark, new_captures}
use Rattle.curp_facts.specs.Entries.{LogOk}
use Rattle.curp_facts.specs.Facts.{IsAmong, hi_of, lo_of}
use Rattle.curp_facts.specs.Kept.{AdoptedLog}
use Rattle.curp_facts.specs.Nodes.{CapturedOk}
use Rattle.curp_facts.specs.Known.{Known}
use Rattle.curp_law_linear.specs.Line.{LineState}
use Rattle.curp_law_linear.specs.Moves.{Look, LookFits, Looks}
use Rattle.curp_law_linear.specs.Ordered.{Ordered}
use Rattle.curp_law_linear.proofs.MastersCaptures.{Captures, NoRead, OneRead, TakesNone, TakesOne}
use Rattle.curp_law_linear.proofs.MastersLog.{Leads, here_at, leads_first, leads_none, line_at, logs_at, part_at}
use Rattle.curp_law_kept.proofs.Gives.{owns_touched}
use Rattle.curp_facts.specs.Predecessors.{Predecessors}
use Rattle.curp_facts.specs.Migrated.{Migrated}
use Rattle.curp_facts.specs.Routes.{Routes}

filter_none : {A : Type 0} (p : A → Bool) (xs : List A) → ((k : ℕ) (x : A) → At xs k x → p x ≡ false) → filter p xs ≡ []
filter_none p [] none = refl
filter_none p (x ∷ xs) none = ap (λ (b : Bool). if b then x ∷ filter p xs else filter p xs) (none 0 x refl) ∙ filter_none p xs (λ k y at. none (suc k) y at)

module _ (m k : MasterState) (low : Each (λ (x : Captured). x.number ≤ m.captured) m.captures) where
  -- a capture that stood isn't new
  old : (x : Captured) → IsAmong x m.captures → nat_lt m.captured x.number ≡ false
  old x a = let number = Each-at (λ (y : Captured). y.number ≤ m.captured) m.captures low a.place x a.stands in grind (arith, nat_tests)

  -- where no read is taken, no capture is new
  pub none_new : TakesNone m k → new_captures m.captured k.captures ≡ []
  none_new t = filter_none (λ (x : Captured). nat_lt m.captured x.number) k.captures (λ j x at. old x (t.stood x (record { place = j; stands = at })))

  -- where one is, it alone is
  pub one_new : (t : TakesOne m k) → new_captures m.captured k.captures ≡ t.c ∷ []
  one_new t = ap (filter test) t.captures ∙ filter-append test m.captures (t.c ∷ [])
      ∙ ap₂ (λ (xs ys : List Captured). xs ++ ys) (filter_none test m.captures (λ j x at. old x (record { place = j; stands = at }))) (ap (λ (b : Bool). if b then t.c ∷ [] else []) above)
    where
      test : Captured → Bool
      test x = nat_lt m.captured x.number

      above : nat_lt m.captured t.c.number ≡ true
      above = let number = t.its.number in grind (arith, nat_tests)

module _ {w : World} (known : Known w) (chain : Predecessors w) (routes : Routes w) (migrated : Migrated w) (ordered : Ordered w)
    (c : PartConfig) (l : AdoptedLog w c) (new : List Entry) (prefix : IsPrefix l.its.log new) (ok : LogOk w c.part new) (node : NodeId) (epoch : ℕ) where
  abbrev at : List Mark → LineState
  at marks = line_at known chain routes migrated ordered c l new prefix ok new marks

  -- the look that a capture is
  abbrev pub look_of : Captured → Look
  look_of x = record { part = c.part; p = part_at known chain routes migrated ordered c l new prefix ok new; node = node; epoch = epoch; capture = x.number; id = x.id; command = x.command }

  module _ (m k : MasterState) (lo : m.lo ≡ lo_of w c.part) (hi : m.hi ≡ hi_of w c.part) (log : k.log ≡ new) where
    look_fits : (t : TakesOne m k) → CapturedOk w k t.c → (marks : List Mark) → LookFits (at marks) (look_of t.c)
    look_fits t captured marks = record {
      here = here_at known chain routes migrated ordered c l new prefix ok new marks;
      owned = λ h touched. owns_touched (meaning (lo_of w c.part) (hi_of w c.part) new).owned t.c.command owned h touched;
      reads = captured.reads;
      was_invoked = record { event = captured.place; stands = captured.invoked };
    }
      where
        owned : owns_all (meaning (lo_of w c.part) (hi_of w c.part) new).owned (hashes t.c.command) ≡ true
        owned = subst (λ (es : List Entry). owns_all (meaning (lo_of w c.part) (hi_of w c.part) es).owned (hashes t.c.command) ≡ true) (sym t.log ∙ log)
            (subst₂ (λ (a b : ℕ). owns_all (meaning a b m.log).owned (hashes t.c.command) ≡ true) lo hi t.its.owned)

    -- what is captured leads the machine on
    pub look_all : Captures m k → Each (λ (x : Captured). x.number ≤ m.captured) m.captures → Each (CapturedOk w k) k.captures → (marks : List Mark)
        → Leads (at marks) (at (marks ++ map (capture_mark node c.part epoch) (new_captures m.captured k.captures)))
    look_all (NoRead t) low all marks = leads_none (at marks) _
        (ap at (sym (append-nil marks) ∙ ap (λ (xs : List Captured). marks ++ map (capture_mark node c.part epoch) xs) (sym (none_new m k low t))))
    look_all (OneRead t) low all marks =
        let captured : CapturedOk w k t.c = Each-at (CapturedOk w k) k.captures all (length m.captures) t.c (subst (λ (xs : List Captured). At xs (length m.captures) t.c) (sym t.captures) (at_push m.captures t.c (length m.captures) refl)) in
        leads_first (at marks) _ (Looks (look_of t.c)) tt (look_fits t captured marks) (logs_at known chain routes migrated ordered c l new prefix ok new marks (prefix_self new))
        (leads_none _ _ (ap at (ap (λ (n : ℕ). marks ++ looked node c.part epoch t.c.number n t.c.id t.c.command ∷ []) (sym (t.its.long ∙ ap length (sym t.log ∙ log)))
        ∙ ap (λ (xs : List Captured). marks ++ map (capture_mark node c.part epoch) xs) (sym (one_new m k low t)))))
