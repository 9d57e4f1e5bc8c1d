-- The capture of an adopted master is that of the look that its mark tells.
use Rattle.std.proofs.Common.{◌≡◌, inl, inr, ℕ, zero, suc, ◌<◌, ◌≤◌, Bool, true, false, List, [], ◌∷◌, ◌++◌, length, refl, ap, sym, ◌∙◌, subst, arith, Some}
use Rattle.std.specs.FinMap as store
use Rattle.std.specs.List.{list_any}
use Rattle.std.proofs.lemmas.Bool.{cases_lt}
use Rattle.curp_base.specs.Words.{At, numbered}
use Rattle.curp_base.proofs.Lists.{at_some}
use Rattle.curp_cmd.specs.Hash.{hashes, touches}
use Rattle.curp_cmd.specs.Node.{same_node}
use Rattle.curp_cmd.specs.Store as cmd
use Rattle.curp_cmd.specs.declared.command.Answer.{Answer}
use Rattle.curp_cmd.specs.declared.command.Answer.TheVariants.{Found}
use Rattle.curp_cmd.specs.declared.command.Command.TheVariants.{Get}
use Rattle.curp_cmd.specs.declared.entry.Entry.{Entry}
use Rattle.curp_cmd.specs.declared.node.NodeId.{NodeId}
use Rattle.curp_cmd.proofs.Nodes.{same_node-self, same_node-true}
use Rattle.curp_msg.specs.declared.config.PartConfig.{PartConfig}
use Rattle.curp_model.specs.Log.{LogState, answer_after, meaning}
use Rattle.curp_model.specs.Marks.{Mark, looked}
use Rattle.curp_model.specs.Master.{Captured, MasterState, state_of}
use Rattle.curp_model.specs.Named.{IsMaster}
use Rattle.curp_model.specs.Ranges.{owns_all}
use Rattle.curp_model.specs.Recovery.{Serving}
use Rattle.curp_model.specs.World.{World, is_adopted}
use Rattle.curp_facts.specs.Facts.{HasLog, IsAdoptedNow, hi_of, lists_of_part, lo_of}
use Rattle.curp_facts.specs.Kept.{AdoptedLog, lists_of_master}
use Rattle.curp_facts.specs.Nodes.{CapturedOk, ServingOk}
use Rattle.curp_facts.specs.Known.{Known}
use Rattle.curp_law_linear.specs.Hashes.{owns}
use Rattle.curp_law_linear.specs.Line.{LookGives}
use Rattle.curp_law_linear.specs.Moves.{Look, LookFits}
use Rattle.curp_law_linear.specs.OfWorld.{line_of, part_of}
use Rattle.curp_law_linear.proofs.Discharged.{pure, second}
use Rattle.curp_law_linear.proofs.Keeps.{look_reads}
use Rattle.curp_law_linear.specs.Ordered.{Ordered}
use Rattle.curp_law_linear.proofs.Parts.{entry_part, line_logs, part_log}
use Rattle.curp_law_linear.proofs.ReadsCaptures.{CapturesRead}
use Rattle.curp_law_kept.proofs.Gives.{owns_touched}
use Rattle.curp_base.proofs.Numbered.{at_place}

-- a master that some entry names
found_entry : (node : NodeId) (cs : List PartConfig) → list_any (λ (c : PartConfig). same_node c.master node) cs ≡ true → (k : ℕ) × (c : PartConfig) × At cs k c × (c.master ≡ node)
found_entry node [] e = absurd cc
found_entry node (c ∷ cs) e = go (same_node c.master node) refl (λ more. found_entry node cs more)
  where
    rest : (same_node c.master node) ≡ false → list_any (λ (x : PartConfig). same_node x.master node) cs ≡ true
    rest no_match = cc

    go : (b : Bool) → same_node c.master node ≡ b
        → (list_any (λ (x : PartConfig). same_node x.master node) cs ≡ true → (k : ℕ) × (x : PartConfig) × At cs k x × (x.master ≡ node))
        → (k : ℕ) × (x : PartConfig) × At (c ∷ cs) k x × (x.master ≡ node)
    go true is later = (0, c, refl, same_node-true c.master node is)
    go false is later = let h = later (rest is) in (suc h.0, h.1, h.2, h.3)

named_entry : (node : NodeId) (cs : List PartConfig) (k : ℕ) (c : PartConfig) → At cs k c → c.master ≡ node → list_any (λ (c : PartConfig). same_node c.master node) cs ≡ true
named_entry node [] k c at is = absurd cc
named_entry node (d ∷ cs) zero c at is =
    let same : d ≡ c = cc in
    let here : same_node d.master node ≡ true = subst (λ (x : NodeId). same_node x node ≡ true) (sym (ap (λ (x : PartConfig). x.master) same ∙ is)) (same_node-self node) in
    cc
named_entry node (d ∷ cs) (suc k) c at is = let more = named_entry node cs k c at is in go (same_node d.master node) refl more
  where
    go : (b : Bool) → same_node d.master node ≡ b → list_any (λ (c : PartConfig). same_node c.master node) cs ≡ true → list_any (λ (c : PartConfig). same_node c.master node) (d ∷ cs) ≡ true
    go true e more = cc
    go false e more = cc

-- a read's answer is the value of its key
get_answer : (lo hi : ℕ) (log : List Entry) (key : List ℕ) → answer_after lo hi log (Get key) ≡ Found (store.get (meaning lo hi log).store key)
unfolding cmd.applied
get_answer lo hi log key = refl

module _ {w : World} (known : Known w) (node : NodeId) (x : MasterState) (is : IsMaster w node (Serving x)) where
  serves : ServingOk w node x
  serves = known.inv.masters node (Serving x) is

  -- the entry of an adopted master
  pub record OwnEntry : Type 0 where
    pub entry : PartConfig
    pub now : IsAdoptedNow w entry
    pub its_master : entry.master ≡ node
    pub its_part : entry.part ≡ x.part
    pub its_epoch : entry.epoch ≡ x.epoch

  pub own_entry : is_adopted w.manager node ≡ true → OwnEntry
  own_entry e =
      let f = found_entry node w.manager.config.parts e in
      let now : IsAdoptedNow w f.1 = at_place w.manager.config.parts f.0 f.1.part f.1 (known.names.entries f.0 f.1 f.2) f.2 in
      let agree = (known.names.agree (lists_of_part f.1) (lists_of_master node x) (known.names.top f.1 now).was.given serves.adopted.given).by_master f.3 in
      record { entry = f.1; now = now; its_master = f.3; its_part = agree.0; its_epoch = agree.1 }

  -- the entry of another's partition is of a later epoch
  pub record LaterEntry : Type 0 where
    pub entry : PartConfig
    pub now : IsAdoptedNow w entry
    pub its_part : entry.part ≡ x.part
    pub above : x.epoch < entry.epoch

  pub later_entry : is_adopted w.manager node ≡ false → LaterEntry
  later_entry e = go x.part (known.names.given (lists_of_master node x) serves.adopted.given).part.0 (known.names.given (lists_of_master node x) serves.adopted.given).part.1 refl
    where
      go : (p : ℕ) → 1 ≤ p → p ≤ w.manager.shape.parts → p ≡ x.part → LaterEntry
      go zero low high same = absurd (omega (arith, low))
      go (suc k) low high same =
          let found = at_some w.manager.config.parts k (omega (arith, high, known.names.numbers.parts)) in
          let part : found.0.part ≡ suc k = omega (arith, known.names.entries k found.0 found.1) in
          let now : IsAdoptedNow w found.0 = subst (λ (i : ℕ). numbered w.manager.config.parts i ≡ Some found.0) (sym part) found.1 in
          let top = known.names.top found.0 now in
          record {
            entry = found.0;
            now = now;
            its_part = part ∙ same;
            above = elim (cases_lt x.epoch found.0.epoch) [
              | inl above ↦ above
              | inr not_above ↦
                  let least = top.epochs (lists_of_master node x) serves.adopted (sym same ∙ sym part) in
                  let master : found.0.master ≡ node = (known.names.agree (lists_of_part found.0) (lists_of_master node x) top.was.given serves.adopted.given).by_epoch (part ∙ same) (omega (arith, least, not_above)) in
                  let hit = named_entry node w.manager.config.parts k found.0 found.1 master in
                  absurd cc (e, hit)
            ];
          }

  -- ---- its looks

  module _ (ordered : Ordered w) (adopted : is_adopted w.manager node ≡ true) (y : MasterState) (c : Captured) (reads : CapturesRead x y c) (captured : CapturedOk w y c) where
    abbrev own : OwnEntry
    own = own_entry adopted

    abbrev log : AdoptedLog w own.entry
    log = record {
      now = own.now;
      its = record { log = x.log; round = x.round };
      its_log = subst (λ (z : NodeId). HasLog w z (record { log = x.log; round = x.round })) (sym own.its_master) (record { m = Serving x; is = is; its_log = refl });
    }

    -- its log means what the partition's adopted log does
    same_state : meaning (lo_of w own.entry.part) (hi_of w own.entry.part) (part_of w own.entry).log ≡ state_of x
    same_state =
        ap (meaning (lo_of w own.entry.part) (hi_of w own.entry.part)) (part_log known own.entry log)
        ∙ ap (λ (lo : ℕ). meaning lo (hi_of w own.entry.part) x.log) (ap (lo_of w) own.its_part ∙ sym serves.lo)
        ∙ ap (λ (hi : ℕ). meaning x.lo hi x.log) (ap (hi_of w) own.its_part ∙ sym serves.hi)

    abbrev look : Look
    look = record { part = own.entry.part; p = part_of w own.entry; node = node; epoch = x.epoch; capture = c.number; id = c.id; command = c.command }

    owned : (h : ℕ) → touches c.command h ≡ true → owns (part_of w own.entry) h ≡ true
    owned h touched = owns_touched (meaning (lo_of w own.entry.part) (hi_of w own.entry.part) (part_of w own.entry).log).owned c.command
        (subst (λ (s : LogState). owns_all s.owned (hashes c.command) ≡ true) (sym same_state) reads.owned) h touched

    fits : LookFits (line_of w) look
    fits = record { here = entry_part known own.entry own.now; owned = owned; reads = captured.reads; was_invoked = record { event = captured.place; stands = captured.invoked } }

    answered : answer_after (lo_of w own.entry.part) (hi_of w own.entry.part) (part_of w own.entry).log c.command ≡ c.answer
    answered = ap (answer_after (lo_of w own.entry.part) (hi_of w own.entry.part) (part_of w own.entry).log) reads.command
        ∙ get_answer (lo_of w own.entry.part) (hi_of w own.entry.part) (part_of w own.entry).log reads.key
        ∙ ap (λ (s : LogState). Found (store.get s.store reads.key)) same_state ∙ sym reads.answer

    -- its mark at the end gives the answer of the capture
    pub new_look : (marks : List Mark) → y.part ≡ x.part → y.epoch ≡ x.epoch → marks ≡ w.marks ++ looked node y.part y.epoch c.number c.length c.id c.command ∷ []
        → LookGives marks (record { master = node; epoch = y.epoch; number = c.number }) y.part c.length c.id c.answer
    new_look marks part epoch same =
        subst (λ (ms : List Mark). LookGives ms (record { master = node; epoch = y.epoch; number = c.number }) y.part c.length c.id c.answer) (sym same)
        (subst (λ (p : ℕ). Goal p y.epoch c.length c.answer) (own.its_part ∙ sym part)
        (subst (λ (e : ℕ). Goal own.entry.part e c.length c.answer) (sym epoch)
        (subst (λ (long : ℕ). Goal own.entry.part x.epoch long c.answer) (ap (λ (es : List Entry). length es) (part_log known own.entry log) ∙ sym reads.length_is)
        (subst (λ (a : Answer). Goal own.entry.part x.epoch (length (part_of w own.entry).log) a) answered
        (look_reads pure second (line_of w) look fits (line_logs known ordered) ordered.line)))))
      where
        Goal : ℕ → ℕ → ℕ → Answer → Type 0
        Goal p e long a = LookGives (w.marks ++ looked node p e c.number long c.id c.command ∷ []) (record { master = node; epoch = e; number = c.number }) p long c.id a
