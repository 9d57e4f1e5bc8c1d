-- Where the marks of a state come from: each was there before a move, or came with it.
use Rattle.std.proofs.Common.{◌≡◌, ◌⊎◌, ◌<◌, ◌≤◌, inl, inr, ℕ, true, false, List, [], ◌∷◌, ◌++◌, take, length, Some, None, refl, ap, sym, ◌∙◌, subst, arith}
use Rattle.std.specs.List.{filter}
use Rattle.std.proofs.lemmas.List.{length-take-le}
use Rattle.curp_base.specs.Words.{At}
use Rattle.curp_base.proofs.Lists.{at_append_cases, at_push_cases, at_same, at_within}
use Rattle.curp_msg.specs.declared.machine.Completed.{Completed}
use Rattle.curp_model.specs.Marks.{Mark, executed, flagged, is_flagged, is_shown, is_update_mark, looked, quick}
use Rattle.curp_law_linear.specs.Line.{IsCompleted, KindsOk, LineState, LineOk}
use Rattle.curp_law_linear.specs.Moves.{Adopt, AdoptFits, Adopts, Completes, ExpirePush, Fits, Flags, GivePush, GivenDone, Invokes, Lates, Looks, Migrates, LineMove, OpPush, Quicks, Strays, TakePush, Told, after, put_before, replayed_of}
use Rattle.curp_law_linear.specs.Moved.{Came, IsNew}
use Rattle.curp_law_linear.proofs.AdoptedMarks.{adopted_is, fresh_mark_at, fresh_of, stays}
use Rattle.curp_law_linear.proofs.Completions.{flagging_at, read_own, update_own}
use Rattle.curp_law_linear.proofs.Given.{LogsOk, Pure, Second}
use Rattle.curp_law_linear.proofs.Keeps.{keeps}
use Rattle.curp_law_linear.proofs.Lates.{late_low}
use Rattle.curp_law_linear.proofs.Puts.{put_exact, put_stands, was_same}
use Rattle.curp_law_linear.proofs.QuickLaws.{moved_flag, moved_kept, moved_more, moved_put, moved_same}
use Rattle.curp_law_linear.proofs.Values.{filter_back}

came_same : (s : LineState) (k : ℕ) (x : Mark) → At s.marks k x → Came s s.marks k x
unfolding moved_same
came_same s k x h = record { place = k; old = x; stands = h; moved = moved_same s k x h; now = refl; mark = refl }

came_more : (s : LineState) (mark : Mark) → mark.completed ≡ false → (k : ℕ) (x : Mark) → At (s.marks ++ mark ∷ []) k x → Came s (s.marks ++ mark ∷ []) k x ⊎ ((mark ≡ x) × (k ≡ length s.marks))
unfolding moved_more
came_more s mark no_flag k x h = elim (at_push_cases s.marks mark k x h) [
  | inl old ↦ inl (record { place = k; old = x; stands = old; moved = moved_more s mark no_flag k x old; now = refl; mark = refl })
  | inr last ↦ inr (last.1, last.0)
]

came_flag : (s : LineState) (c : Completed) (kinds : KindsOk s.marks) (kinds_now : KindsOk (flagged c s.marks)) (waits : IsCompleted s.history c.id → ⊥) (own : (m : Mark) → is_flagged c c.by m ≡ true → m.id ≡ c.id)
    → (k : ℕ) (x : Mark) → At (flagged c s.marks) k x → Came s (flagged c s.marks) k x
unfolding moved_flag
came_flag s c kinds kinds_now waits own k x h =
    let w = flagging_at c s.marks k x h in
    let v = moved_flag s c kinds kinds_now waits own k w.was w.stood in
    record { place = k; old = w.was; stands = w.stood; moved = v; now = same w.was w.stood; mark = at_same (flagged c s.marks) k v.mark x (subst (λ (j : ℕ). At (flagged c s.marks) j v.mark) (same w.was w.stood) v.stands) h }
  where
    same : (m : Mark) (g : At s.marks k m) → (moved_flag s c kinds kinds_now waits own k m g).now ≡ k
    same m g = refl

came_put : (s : LineState) (c : ℕ) (q : Mark) (no_flag : q.completed ≡ false) (no_update : is_update_mark q.place ≡ false) (out : is_shown q ≡ false) (low : c ≤ length s.marks) → (k : ℕ) (x : Mark) → At (put_before c q s.marks) k x
    → Came s (put_before c q s.marks) k x ⊎ ((q ≡ x) × (k ≡ c))
unfolding moved_put
came_put s c q no_flag no_update out low k x h = elim (put_exact q c s.marks low k x h) [
  | inr new ↦ inr new
  | inl old ↦
      let n = put_stands q c s.marks old.0 x low old.2 in
      inl (record { place = old.0; old = x; stands = old.2; moved = moved_put s c q no_flag no_update out low old.0 x old.2; now = was_same c n.0 k old.0 old.0 n.1 old.1 refl; mark = refl })
]

came_adopt : (pure : Pure) (s : LineState) (ok : LineOk s) (o : Adopt) (fits : AdoptFits s o) (logs : LogsOk s.parts) → (k : ℕ) (x : Mark)
    → At (filter (stays o.part (length o.stays)) s.marks ++ fresh_of o.node o.part o.epoch (length o.stays) (replayed_of o) s.marks) k x
    → Came s (filter (stays o.part (length o.stays)) s.marks ++ fresh_of o.node o.part o.epoch (length o.stays) (replayed_of o) s.marks) k x
    ⊎ IsNew s (Adopts o) k x
came_adopt pure s ok o fits logs k x h = elim (at_append_cases kept fresh k x h) [
  | inr new ↦ elim (fresh_mark_at o.node o.part o.epoch (length o.stays) (replayed_of o) s.marks new.0 x new.2) [
    | inl cut ↦ inr (inl (cut.1, (let z = cut.0 in omega (arith, new.1, z))))
    | inr again ↦ inr (inr (again.0, again.1, again.2, again.3))
  ]
  | inl old ↦
      let w = filter_back (stays o.part (length o.stays)) s.marks k x old in
      let v = moved_kept pure s ok o fits logs w.0 x w.1 w.2 in
      let same : v.0.now ≡ k = lengths v.0.now (at_within kept v.0.now x v.1) (at_within kept k x old) (v.2 ∙ sym w.3) in
      inl (record { place = w.0; old = x; stands = w.1; moved = v.0; now = same; mark = at_same (kept ++ fresh) k v.0.mark x (subst (λ (j : ℕ). At (kept ++ fresh) j v.0.mark) same v.0.stands) h })
]
  where
    kept : List Mark
    kept = filter (stays o.part (length o.stays)) s.marks

    fresh : List Mark
    fresh = fresh_of o.node o.part o.epoch (length o.stays) (replayed_of o) s.marks

    lengths : (j : ℕ) → j < length (filter (stays o.part (length o.stays)) s.marks) → k < length (filter (stays o.part (length o.stays)) s.marks)
        → take j (filter (stays o.part (length o.stays)) s.marks) ≡ take k (filter (stays o.part (length o.stays)) s.marks) → j ≡ k
    lengths j a b e =
        let l = length-take-le j (filter (stays o.part (length o.stays)) s.marks) (omega (arith, a)) in
        let r = length-take-le k (filter (stays o.part (length o.stays)) s.marks) (omega (arith, b)) in
        let m = ap length e in
        omega (arith, l, r, m)

module _ (pure : Pure) (second : Second) where
  -- each mark afterwards was there before, or came with the move
  pub marks_came : (s : LineState) (m : LineMove) → Fits s m → LogsOk s.parts → LineOk s → (k : ℕ) (x : Mark) → At (after s m).marks k x → Came s (after s m).marks k x ⊎ IsNew s m k x
  marks_came s (OpPush o) fits logs ok k x h = came_more s (executed o.node o.part o.epoch (length o.p.log) o.request.id o.request.command) refl k x h
  marks_came s (TakePush o) fits logs ok k x h = inl (came_same s k x h)
  marks_came s (GivePush o) fits logs ok k x h = inl (came_same s k x h)
  marks_came s (ExpirePush o) fits logs ok k x h = inl (came_same s k x h)
  marks_came s (Told number) fits logs ok k x h = inl (came_same s k x h)
  marks_came s (Migrates m) fits logs ok k x h = inl (came_same s k x h)
  marks_came s (GivenDone m) fits logs ok k x h = inl (came_same s k x h)
  marks_came s (Invokes id command) fits logs ok k x h = inl (came_same s k x h)
  marks_came s (Completes id a) fits logs ok k x h =
      inl (came_flag s (record { id = id; answer = a; by = None }) ok.order.kinds (keeps pure second s (Completes id a) fits logs ok).order.kinds fits.waits (λ m z. update_own s ok.order id a fits m z) k x h)
  marks_came s (Looks o) fits logs ok k x h = came_more s (looked o.node o.part o.epoch o.capture (length o.p.log) o.id o.command) refl k x h
  marks_came s (Flags by id a) fits logs ok k x h =
      inl (came_flag s (record { id = id; answer = a; by = Some by }) ok.order.kinds (keeps pure second s (Flags by id a) fits logs ok).order.kinds fits.waits (λ m z. read_own s ok.order by id a fits m z) k x h)
  marks_came s (Adopts o) fits logs ok k x h =
      subst (λ (l : List Mark). At l k x → Came s l k x ⊎ IsNew s (Adopts o) k x) (sym (adopted_is o.node o.part o.epoch (length o.stays) (replayed_of o) s.marks))
      (λ g. came_adopt pure s ok o fits logs k x g) h
  marks_came s (Quicks o) fits logs ok k x h = came_more s (quick o.node o.part o.epoch o.capture o.id o.command) refl k x h
  marks_came s (Lates o) fits logs ok k x h = came_put s o.place (quick o.node o.part o.epoch o.capture o.id o.command) refl refl refl (late_low s ok.order o fits) k x h
  marks_came s (Strays part number more) fits logs ok k x h = inl (came_same s k x h)
