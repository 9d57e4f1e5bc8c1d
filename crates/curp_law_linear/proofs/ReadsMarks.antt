-- Which looks an input to a serving master marks.
use Rattle.std.proofs.Common.{◌≡◌, ℕ, ◌+◌, ◌≤◌, nat_lt, Bool, true, false, cond, if◌then◌else◌, List, [], ◌∷◌, ◌++◌, append-nil, drop, length, map, refl, ap, sym, ◌∙◌, arith}
use Rattle.std.proofs.Math.Seq.{drop-length}
use Rattle.std.proofs.lemmas.Bool.Decides.{nat_tests}
use Rattle.curp_base.specs.Words.{At, Each}
use Rattle.curp_base.proofs.Lists.{Each-at, Each-weaker}
use Rattle.curp_cmd.specs.declared.entry.Entry.{Entry}
use Rattle.curp_cmd.specs.declared.entry.Entry.TheVariants.{Expire, Give, Op, Take}
use Rattle.curp_cmd.specs.declared.node.NodeId.{NodeId}
use Rattle.curp_model.specs.Marks.{Looked, Mark, Place, is_update_mark, is_capture, Executed, Quick, Cut}
use Rattle.curp_model.specs.Master.{Captured, MasterState}
use Rattle.curp_model.specs.World.{World, capture_mark, new_captures, op_marks, pushed_marks}
use Rattle.curp_facts.specs.Facts.{IsAmong}
use Rattle.curp_facts.specs.Nodes.{CapturedOk}
use Rattle.curp_law_linear.proofs.ReadsCaptures.{CapturesMove, CapturesRead, Fewer, OneMore}
use Rattle.curp_law_kept.proofs.Gives.{among_each}

-- the marks of ops are of no look
pub ops_only : (node : NodeId) (part epoch index : ℕ) (es : List Entry) → Each (λ (m : Mark). is_update_mark m.place ≡ true) (op_marks node part epoch index es)
ops_only node part epoch index [] = tt
ops_only node part epoch index (Op r acknowledged ∷ es) = (refl, ops_only node part epoch (index + 1) es)
ops_only node part epoch index (Take migration taken ∷ es) = ops_only node part epoch (index + 1) es
ops_only node part epoch index (Give migration given ∷ es) = ops_only node part epoch (index + 1) es
ops_only node part epoch index (Expire client ∷ es) = ops_only node part epoch (index + 1) es

-- the mark of an op is that of no capture
pub no_capture : (x : Place) (number : ℕ) → is_update_mark x ≡ true → is_capture number x ≡ true → ⊥
no_capture (Executed index) number e is = cc
no_capture (Looked capture long) number e is = cc
no_capture (Quick capture) number e is = cc
no_capture (Cut which long) number e is = cc

-- and of no look
pub no_look : (x : Place) (number long : ℕ) → is_update_mark x ≡ true → x ≡ Looked number long → ⊥
no_look x number long e is = let bad : true ≡ false = sym e ∙ ap is_update_mark is in cc

-- of old captures none is new
pub none_new : (last : ℕ) (cs : List Captured) → Each (λ (c : Captured). c.number ≤ last) cs → new_captures last cs ≡ []
none_new last [] all = refl
none_new last (c ∷ cs) all = go (nat_lt last c.number) refl (none_new last cs all.1)
  where
    go : (b : Bool) → nat_lt last c.number ≡ b → new_captures last cs ≡ [] → cond b (c ∷ new_captures last cs) (new_captures last cs) ≡ []
    go true e rest = let low = all.0 in absurd (grind (arith, nat_tests))
    go false e rest = rest

-- and behind them the next one is
one_new : (last : ℕ) (cs : List Captured) → Each (λ (c : Captured). c.number ≤ last) cs → (d : Captured) → d.number ≡ last + 1 → new_captures last (cs ++ d ∷ []) ≡ d ∷ []
one_new last [] all d next = go (nat_lt last d.number) refl
  where
    go : (b : Bool) → nat_lt last d.number ≡ b → cond b (d ∷ []) [] ≡ d ∷ []
    go true e = refl
    go false e = absurd (grind (arith, nat_tests))
one_new last (c ∷ cs) all d next = go (nat_lt last c.number) refl (one_new last cs all.1 d next)
  where
    go : (b : Bool) → nat_lt last c.number ≡ b → new_captures last (cs ++ d ∷ []) ≡ d ∷ [] → cond b (c ∷ new_captures last (cs ++ d ∷ [])) (new_captures last (cs ++ d ∷ [])) ≡ d ∷ []
    go true e rest = let low = all.0 in absurd (grind (arith, nat_tests))
    go false e rest = rest

-- what an adopted master marks has no read, or is the one look of the capture that it makes
pub data MarksMove (node : NodeId) (x y : MasterState) (adopted : Bool) (marks later : List Mark) : Type 0 where
  NoLooks : (more : List Mark) → later ≡ marks ++ more → ((j number : ℕ) (o : Mark) → At more j o → is_capture number o.place ≡ true → ⊥) → MarksMove node x y adopted marks later
  OneLook : (c : Captured) → adopted ≡ true → later ≡ marks ++ capture_mark node y.part y.epoch c ∷ [] → y.captured ≡ x.captured + 1 → y.captures ≡ x.captures ++ c ∷ [] → CapturesRead x y c → MarksMove node x y adopted marks later

module _ (w : World) (node : NodeId) (x y : MasterState) (known : Each (CapturedOk w x) x.captures) where
  numbers : Each (λ (c : Captured). c.number ≤ x.captured) x.captures
  numbers = Each-weaker (CapturedOk w x) (λ (c : Captured). c.number ≤ x.captured) (λ c k. k.number) x.captures known

  abbrev ops : List Mark
  ops = op_marks node y.part y.epoch (length x.log) (drop (length x.log) y.log)

  -- with one more capture nothing else is marked
  pub pushed_one : (c : Captured) → y.captures ≡ x.captures ++ c ∷ [] → CapturesRead x y c → pushed_marks node x y ≡ capture_mark node y.part y.epoch c ∷ []
  pushed_one c more reads = ap (λ (ms : List Mark). ms ++ map (capture_mark node y.part y.epoch) (new_captures x.captured y.captures)) none ∙ ap (map (capture_mark node y.part y.epoch)) one
    where
      none : ops ≡ []
      none = ap (op_marks node y.part y.epoch (length x.log)) (ap (drop (length x.log)) reads.same_log ∙ drop-length x.log)

      one : new_captures x.captured y.captures ≡ c ∷ []
      one = ap (new_captures x.captured) more ∙ one_new x.captured x.captures numbers c reads.number

  pub marks_move : CapturesMove x y → (adopted : Bool) (marks later : List Mark) → later ≡ (if adopted then marks ++ pushed_marks node x y else marks) → MarksMove node x y adopted marks later
  marks_move move false marks later is = NoLooks [] (is ∙ sym (append-nil marks)) (λ j number o at is. absurd cc)
  marks_move move true marks later is = go move
    where
      go : CapturesMove x y → MarksMove node x y true marks later
      go (Fewer same among) = NoLooks ops (is ∙ ap (λ (ms : List Mark). marks ++ ms) (ap (λ (cs : List Captured). ops ++ map (capture_mark node y.part y.epoch) cs) none ∙ append-nil ops))
          (λ j number o at is. no_capture o.place number (Each-at (λ (m : Mark). is_update_mark m.place ≡ true) ops (ops_only node y.part y.epoch (length x.log) (drop (length x.log) y.log)) j o at) is)
        where
          none : new_captures x.captured y.captures ≡ []
          none = none_new x.captured y.captures (Each-weaker (λ (c : Captured). IsAmong c x.captures) (λ (c : Captured). c.number ≤ x.captured)
              (λ c a. among_each (λ (c : Captured). c.number ≤ x.captured) x.captures numbers c a) y.captures among)
      go (OneMore c next more reads) = OneLook c refl (is ∙ ap (λ (ms : List Mark). marks ++ ms) (pushed_one c more reads)) next more reads
