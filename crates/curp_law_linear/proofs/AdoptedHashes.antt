-- An adoption keeps the order's equation, at its own partition and at others.
use Rattle.std.proofs.Common.{◌≡◌, ◌≢◌, ℕ, ◌||◌, ◌&&◌, inl, inr, ◌⊎◌, Bool, true, false, cond, List, [], ◌++◌, Option, Some, None, refl, ap, sym, ◌∙◌, subst, append-nil, append_assoc}
use Rattle.std.proofs.Math.Bool.{or-false}
use Rattle.std.specs.List.{list_any}
use Rattle.std.proofs.lemmas.Bool.{and_from, and_parts, cases_Bool, cases_eq, or_cases, or_left, or_parts, or_right}
use Rattle.std.proofs.lemmas.List.Folds.{list_any-append}
use Rattle.curp_base.specs.Words.{numbered}
use Rattle.curp_range.specs.Spans.{is_in}
use Rattle.curp_cmd.specs.declared.entry.Entry.{Entry}
use Rattle.curp_model.specs.Manager.{Migration}
use Rattle.curp_law_kept.specs.Hashes.{In, NoGive, NotNew, behind, came, gives, on}
use Rattle.curp_order.specs.Order.{Asked}
use Rattle.curp_law_linear.specs.Hashes.{HashOk, HashesOk, Part, given_on, has_take, holds, is_give, is_take, onward, owns}
use Rattle.curp_law_linear.specs.Moves.{ops}
use Rattle.curp_law_linear.proofs.AdoptedOrder.{after_line, at_hash, cut_line, gone_on, line_is, no_give, no_take, own_after, owns_new, replayed_on, take_new, take_where}
use Rattle.curp_law_linear.proofs.Adopting.{Adopting, again, cut_part, gone, new_part, order_now, order_was, parts_now, replayed}
use Rattle.curp_law_linear.proofs.Hashes.{no_onward}
use Rattle.curp_law_linear.proofs.Known.{stays_known}
use Rattle.curp_law_linear.proofs.Lines.{has_moving, onward_given, split_append}
use Rattle.curp_law_linear.proofs.Lists.{empty_list, some_or_none}
use Rattle.curp_base.proofs.Numbered.{numbered_set_cases, numbered_set_other}
use Rattle.curp_law_linear.proofs.Orders.{behind_asked}
use Rattle.curp_law_linear.proofs.Requests.{asked_of_ops, ops_any}
use Rattle.curp_law_kept.proofs.Gives.{behind_from_append, came_from_append, came_kept}

module _ (it : Adopting) where
  -- ---- the equation afterwards

  -- what a number finds afterwards
  pub look_new : (k : ℕ) → (numbered (parts_now it) k ≡ numbered it.line.parts k) ⊎ ((k ≡ it.move.part) × (numbered (parts_now it) k ≡ Some (new_part it)))
  look_new k = elim (cases_eq k it.move.part) [
    | inl same ↦ inr (same, ap (numbered (parts_now it)) same ∙ own_after it)
    | inr ne ↦ inl (none_both k ne (numbered it.line.parts k) (numbered (parts_now it) k) refl refl)
  ]
    where
      none_both : (k : ℕ) → k ≢ it.move.part → (old fresh : Option Part) → numbered it.line.parts k ≡ old → numbered (parts_now it) k ≡ fresh → fresh ≡ old
      none_both k ne None None f g = refl
      none_both k ne None (Some q) f g = elim (numbered_set_cases it.line.parts it.move.part it.move.p (new_part it) it.fits.here k q g) [ inl c ↦ absurd (cc (f, c.1)) | inr c ↦ absurd (ne c.0) ]
      none_both k ne (Some q) None f g = let h = numbered_set_other it.line.parts it.move.part it.move.p (new_part it) it.fits.here k q ne f in absurd (cc (g, h))
      none_both k ne (Some q) (Some r) f g = let h = numbered_set_other it.line.parts it.move.part it.move.p (new_part it) it.fits.here k q ne f in sym g ∙ h

  -- what is replayed gives nothing
  pub no_new_give : (h : ℕ) → list_any (gives h) (ops (replayed it)) ≡ false
  no_new_give h = ops_any (gives h) (λ r. refl) (replayed it)

  -- what stands behind the last give is what stayed there, and what is replayed
  pub behind_new : (h : ℕ) → behind h (new_part it).log ≡ behind h it.move.stays ++ on h (again it)
  behind_new h = behind_from_append h [] it.move.stays (ops (replayed it)) ∙ behind_asked h (behind h it.move.stays) (ops (replayed it)) (no_new_give h) ∙ ap (λ w. behind h it.move.stays ++ on h w) (asked_of_ops (replayed it))

  -- the gives afterwards are those that stay
  pub give_new : (number : ℕ) → list_any (is_give number) (new_part it).log ≡ list_any (is_give number) it.move.stays
  give_new number = list_any-append (is_give number) it.move.stays (ops (replayed it)) ∙ ap (λ (b : Bool). list_any (is_give number) it.move.stays || b) (ops_any (is_give number) (λ r. refl) (replayed it)) ∙ or-false _

  -- a give of the log stays or goes
  pub give_old : (number : ℕ) → list_any (is_give number) it.move.p.log ≡ (list_any (is_give number) it.move.stays || list_any (is_give number) it.move.goes)
  give_old number = ap (list_any (is_give number)) it.fits.is ∙ list_any-append (is_give number) it.move.stays it.move.goes

  -- the target's part where the partition is the target and nothing goes or comes on the hash
  pub given_quiet : (h : ℕ) (m : Migration) → it.line.moving ≡ Some m → is_in m.range.lo m.range.hi h ≡ true → on h (gone it) ≡ [] → on h (again it) ≡ []
      → given_on h m.number (Some (new_part it)) ≡ given_on h m.number (Some it.move.p)
  given_quiet h m is inside none_gone none_again = go (list_any (is_give m.number) it.move.stays) (list_any (is_give m.number) it.move.goes) refl refl
    where
      go : (a b : Bool) → list_any (is_give m.number) it.move.stays ≡ a → list_any (is_give m.number) it.move.goes ≡ b → given_on h m.number (Some (new_part it)) ≡ given_on h m.number (Some it.move.p)
      go true b ea eb =
          let none : NoGive h it.move.goes = elim (cases_Bool (list_any (gives h) it.move.goes)) [
            | inl y ↦ absurd (let bad : true ≡ false = sym ea ∙ (it.ground.give_moving h m is y).0 in cc)
            | inr n ↦ n
          ] in
          let old : list_any (is_give m.number) it.move.p.log ≡ true = give_old m.number ∙ or_left _ _ ea in
          let fresh : list_any (is_give m.number) (new_part it).log ≡ true = give_new m.number ∙ ea in
          let alike : behind h (new_part it).log ≡ behind h it.move.p.log = behind_new h ∙ ap (λ w. behind h it.move.stays ++ w) (none_again ∙ sym none_gone) ∙ sym (line_is it h none) in
          ap (λ (c : Bool). cond c (behind h (new_part it).log) []) fresh ∙ alike ∙ sym (ap (λ (c : Bool). cond c (behind h it.move.p.log) []) old)
      go false true ea eb =
          let y = it.ground.give_covers h m is inside eb in
          let fresh : list_any (is_give m.number) (new_part it).log ≡ false = give_new m.number ∙ ea in
          let old : list_any (is_give m.number) it.move.p.log ≡ true = give_old m.number ∙ or_right (list_any (is_give m.number) it.move.stays) _ eb in
          ap (λ (c : Bool). cond c (behind h (new_part it).log) []) fresh ∙ sym (ap (λ (c : Bool). cond c (behind h it.move.p.log) []) old ∙ it.ground.behind_give h y ∙ none_gone)
      go false false ea eb =
          let fresh : list_any (is_give m.number) (new_part it).log ≡ false = give_new m.number ∙ ea in
          let old : list_any (is_give m.number) it.move.p.log ≡ false = give_old m.number ∙ (λ i. ea i || eb i) in
          ap (λ (c : Bool). cond c (behind h (new_part it).log) []) fresh ∙ sym (ap (λ (c : Bool). cond c (behind h it.move.p.log) []) old)

  -- where nothing goes and nothing is replayed at a hash, what went on elsewhere stays
  pub onward_quiet : (h : ℕ) → on h (gone it) ≡ [] → on h (again it) ≡ [] → (log : List Entry) → onward it.line.moving (parts_now it) log h ≡ onward it.line.moving it.line.parts log h
  onward_quiet h none_gone none_again log = go it.line.moving refl
    where
      go : (mv : Option Migration) → it.line.moving ≡ mv → onward mv (parts_now it) log h ≡ onward mv it.line.parts log h
      go None is = refl
      go (Some m) is = at_range (is_in m.range.lo m.range.hi h) refl
        where
          at_range : (b : Bool) → is_in m.range.lo m.range.hi h ≡ b
              → cond (b && list_any (is_take m.number) log) (given_on h m.number (numbered (parts_now it) m.target)) [] ≡ cond (b && list_any (is_take m.number) log) (given_on h m.number (numbered it.line.parts m.target)) []
          at_range false out = refl
          at_range true inside =
              let same : given_on h m.number (numbered (parts_now it) m.target) ≡ given_on h m.number (numbered it.line.parts m.target) = elim (look_new m.target) [
                | inl e ↦ ap (given_on h m.number) e
                | inr e ↦
                    let was : numbered it.line.parts m.target ≡ Some it.move.p = ap (numbered it.line.parts) e.0 ∙ it.fits.here in
                    ap (given_on h m.number) e.1 ∙ given_quiet h m is inside none_gone none_again ∙ sym (ap (given_on h m.number) was)
              ] in
              ap (λ (xs : List Asked). cond (list_any (is_take m.number) log) xs []) same

  -- and so does the order
  pub quiet_line : (h : ℕ) → on h (gone it) ≡ [] → on h (again it) ≡ [] → on h (order_now it) ≡ on h (order_was it)
  quiet_line h none_gone none_again = after_line it h (on h (order_was it)) (sym (ap (λ w. on h (order_was it) ++ w) none_gone ∙ append-nil (on h (order_was it)))) ∙ ap (λ w. on h (order_was it) ++ w) none_again ∙ append-nil (on h (order_was it))

  -- ---- at its own partition

  -- no give goes of a hash that the partition holds afterwards
  pub own_no_give : (h : ℕ) → holds it.line.moving (new_part it) h ≡ true → NoGive h it.move.goes
  own_no_give h held = elim (or_cases (owns (new_part it) h) (has_take it.line.moving h (new_part it).log) held) [
    | inl own ↦ no_give it h (sym (owns_new it h) ∙ own)
    | inr t ↦ elim (cases_Bool (list_any (gives h) it.move.goes)) [
      | inr n ↦ n
      | inl y ↦ absurd (clash_of (sym (take_new it h) ∙ t) y)
    ]
  ]
    where
      clash_of : has_take it.line.moving h it.move.stays ≡ true → list_any (gives h) it.move.goes ≡ true → ⊥
      clash_of t y =
          let m = has_moving it.line.moving h it.move.stays t in
          let t2 : has_take (Some m.0) h it.move.stays ≡ true = subst (λ (mv : Option Migration). has_take mv h it.move.stays ≡ true) m.1 t in
          let taken : list_any (is_take m.0.number) it.move.p.log ≡ true =
          ap (list_any (is_take m.0.number)) it.fits.is ∙ list_any-append (is_take m.0.number) it.move.stays it.move.goes ∙ or_left _ _ (and_parts (is_in m.0.range.lo m.0.range.hi h) _ t2).1 in
          let given : list_any (is_give m.0.number) it.move.p.log ≡ true = give_old m.0.number ∙ or_right (list_any (is_give m.0.number) it.move.stays) _ (it.ground.give_moving h m.0 m.1 y).1 in
          it.owned.apart m.0 m.1 (sym (it.owned.source it.move.part it.move.p m.0 m.1 it.fits.here taken) ∙ it.owned.target it.move.part it.move.p m.0 m.1 it.fits.here given)

  -- a take that stays stood in the whole log
  pub take_longer : (h : ℕ) → has_take it.line.moving h it.move.stays ≡ true → has_take it.line.moving h it.move.p.log ≡ true
  take_longer h t = go it.line.moving t
    where
      go : (mv : Option Migration) → has_take mv h it.move.stays ≡ true → has_take mv h it.move.p.log ≡ true
      go None t = t
      go (Some m) t =
          let c = and_parts (is_in m.range.lo m.range.hi h) (list_any (is_take m.number) it.move.stays) t in
          and_from _ _ c.0 (ap (list_any (is_take m.number)) it.fits.is ∙ list_any-append (is_take m.number) it.move.stays it.move.goes ∙ or_left _ _ c.1)

  -- what it holds afterwards it held
  pub own_held : (h : ℕ) → holds it.line.moving (new_part it) h ≡ true → holds it.line.moving it.move.p h ≡ true
  own_held h held = elim (or_cases (owns (new_part it) h) (has_take it.line.moving h (new_part it).log) held) [
    | inl own ↦ it.ground.held_before h (sym (owns_new it h) ∙ own) (own_no_give h held)
    | inr t ↦ or_right (owns it.move.p h) _ (take_longer h (sym (take_new it h) ∙ t))
  ]

  -- where the take is out, what goes on is the target's
  pub onward_on : (moving : Option Migration) (m : Migration) (parts : List Part) (log : List Entry) (h : ℕ) → moving ≡ Some m → has_take moving h log ≡ true → onward moving parts log h ≡ given_on h m.number (numbered parts m.target)
  onward_on None m parts log h is t = absurd cc
  onward_on (Some n) m parts log h is t =
      let same : n ≡ m = cc in
      ap (λ (b : Bool). cond b (given_on h n.number (numbered parts n.target)) []) t ∙ ap (λ (x : Migration). given_on h x.number (numbered parts x.target)) same

  -- the order at a hash that the partition holds
  pub own_alike : (h : ℕ) (here : HashOk it.line.moving it.line.parts (order_was it) it.move.p h) → NoGive h it.move.goes → on h (order_now it) ≡ here.past ++ (behind h (new_part it).log ++ onward it.line.moving (parts_now it) (new_part it).log h)
  own_alike h here none = elim (cases_Bool (has_take it.line.moving h it.move.stays)) [
    | inr n ↦
        let nothing : onward it.line.moving (parts_now it) (new_part it).log h ≡ [] = no_onward it.line.moving (parts_now it) (new_part it).log h (take_new it h ∙ n) in
        let line = after_line it h (here.past ++ behind h it.move.stays) (cut_line it h here none (λ t. let bad : true ≡ false = sym t ∙ n in cc)) in
        line ∙ append_assoc here.past (behind h it.move.stays) (on h (again it)) ∙ ap (λ w. here.past ++ w) (sym (append-nil (behind h it.move.stays ++ on h (again it)))) ∙ (λ i. here.past ++ (sym (behind_new h) i ++ sym nothing i))
    | inl t ↦
        let none_gone : on h (gone it) ≡ [] = empty_list (on h (gone it)) (λ x m. (gone_on it h x m).1 t) in
        let none_again : on h (again it) ≡ [] = empty_list (on h (again it)) (λ x m. no_take it h (replayed_on it h x m) t) in
        let m = has_moving it.line.moving h it.move.stays t in
        let old : onward it.line.moving it.line.parts it.move.p.log h ≡ given_on h m.0.number (numbered it.line.parts m.0.target) = onward_on it.line.moving m.0 it.line.parts it.move.p.log h m.1 (take_longer h t) in
        let fresh : onward it.line.moving it.line.parts (new_part it).log h ≡ given_on h m.0.number (numbered it.line.parts m.0.target) = onward_on it.line.moving m.0 it.line.parts (new_part it).log h m.1 (take_new it h ∙ t) in
        let more : onward it.line.moving (parts_now it) (new_part it).log h ≡ onward it.line.moving it.line.parts it.move.p.log h = onward_quiet h none_gone none_again (new_part it).log ∙ fresh ∙ sym old in
        let alike : behind h (new_part it).log ≡ behind h it.move.p.log = behind_new h ∙ ap (λ w. behind h it.move.stays ++ w) (none_again ∙ sym none_gone) ∙ sym (line_is it h none) in
        quiet_line h none_gone none_again ∙ here.alike ∙ (λ i. here.past ++ (sym alike i ++ sym more i))
  ]

  -- what came before the last give is known, as before
  pub own_known : (h : ℕ) (here : HashOk it.line.moving it.line.parts (order_was it) it.move.p h) → NoGive h it.move.goes → (x : Asked) → In x here.past → (prefix back : List Entry) → prefix ++ back ≡ (new_part it).log → NoGive h back → NotNew it.move.p.lo it.move.p.hi prefix x.0
  own_known h here none x m prefix back is free = elim (split_append prefix back it.move.stays (ops (replayed it)) is) [
    | inl mid ↦
        let no_mid : NoGive h mid.0 = (or_parts _ _ (sym (list_any-append (gives h) mid.0 (ops (replayed it))) ∙ subst (NoGive h) mid.1 free)).0 in
        let whole : prefix ++ (mid.0 ++ it.move.goes) ≡ it.move.p.log = sym (append_assoc prefix mid.0 it.move.goes) ∙ ap (λ w. w ++ it.move.goes) mid.2 ∙ sym it.fits.is in
        here.known x m prefix (mid.0 ++ it.move.goes) whole (list_any-append (gives h) mid.0 it.move.goes ∙ (λ i. no_mid i || none i))
    | inr mid ↦ subst (λ (es : List Entry). NotNew it.move.p.lo it.move.p.hi es x.0) (sym mid.1) (stays_known it.move.p.lo it.move.p.hi it.move.stays mid.0 x.0 (here.known x m it.move.stays it.move.goes (sym it.fits.is) none))
  ]

  -- what came with the last give stays
  pub came_same : (h : ℕ) (key : List ℕ) → NoGive h it.move.goes → came h key (new_part it).log ≡ came h key it.move.p.log
  came_same h key none =
      came_from_append h key None it.move.stays (ops (replayed it)) ∙ came_kept h key (came h key it.move.stays) (ops (replayed it)) (no_new_give h) ∙ sym (ap (came h key) it.fits.is ∙ came_from_append h key None it.move.stays it.move.goes ∙ came_kept h key (came h key it.move.stays) it.move.goes none)

  -- the equation at its own partition
  pub own_hash : (h : ℕ) → holds it.line.moving (new_part it) h ≡ true → HashOk it.line.moving (parts_now it) (order_now it) (new_part it) h
  own_hash h held =
      let none = own_no_give h held in
      let here = at_hash it h (own_held h held) in
      record { past = here.past; alike = own_alike h here none; values = λ key k. here.values key k ∙ sym (came_same h key none); known = own_known h here none }

  -- ---- at another one

  -- where something goes or comes, the partition holds the hash, and the take, if any, goes
  pub busy_alike : (k : ℕ) (q : Part) → k ≢ it.move.part → numbered it.line.parts k ≡ Some q → (h : ℕ) → holds it.line.moving q h ≡ true → (here : HashOk it.line.moving it.line.parts (order_was it) q h)
      → holds it.line.moving it.move.p h ≡ true → (has_take it.line.moving h it.move.stays ≡ true → ⊥) → ((x : Asked) → In x (on h (again it)) → owns (cut_part it.move) h ≡ true)
      → on h (order_now it) ≡ here.past ++ (behind h q.log ++ onward it.line.moving (parts_now it) q.log h)
  busy_alike k q ne hk h held here mine free replayed = elim (or_cases (owns it.move.p h) (has_take it.line.moving h it.move.p.log) mine) [
    | inr t ↦ elim (take_where it h t) [
      | inl tk ↦ absurd (free tk)
      | inr m ↦ elim (or_cases (owns q h) (has_take it.line.moving h q.log) held) [
        | inl own ↦
            let g = it.owned.moved k it.move.part q it.move.p h m.0 m.1 hk it.fits.here own t in
            absurd (let bad : true ≡ false = sym g.1 ∙ m.2 k q hk in cc)
        | inr too ↦ absurd (ne (it.owned.source k q m.0 m.1 hk (its_take q m.0 m.1 too) ∙ sym (it.owned.source it.move.part it.move.p m.0 m.1 it.fits.here (its_take it.move.p m.0 m.1 t))))
      ]
    ]
    | inl own ↦ elim (or_cases (owns q h) (has_take it.line.moving h q.log) held) [
      | inl too ↦ absurd (ne (it.owned.one k it.move.part q it.move.p h hk it.fits.here too own))
      | inr t ↦ at_target own t
    ]
  ]
    where
      its_take : (y : Part) (m : Migration) → it.line.moving ≡ Some m → has_take it.line.moving h y.log ≡ true → list_any (is_take m.number) y.log ≡ true
      its_take y m is t = (and_parts (is_in m.range.lo m.range.hi h) _ (subst (λ (mv : Option Migration). has_take mv h y.log ≡ true) is t)).1

      at_target : owns it.move.p h ≡ true → has_take it.line.moving h q.log ≡ true → on h (order_now it) ≡ here.past ++ (behind h q.log ++ onward it.line.moving (parts_now it) q.log h)
      at_target own t =
          let mm = has_moving it.line.moving h q.log t in
          let m = mm.0 in
          let f = it.owned.moved it.move.part k it.move.p q h m mm.1 it.fits.here hk own t in
          let inside : is_in m.range.lo m.range.hi h ≡ true = (and_parts _ (list_any (is_take m.number) q.log) (subst (λ (mv : Option Migration). has_take mv h q.log ≡ true) mm.1 t)).0 in
          let old : onward it.line.moving it.line.parts q.log h ≡ behind h it.move.p.log = onward_given it.line.moving m it.line.parts q.log h it.move.p mm.1 t (subst (λ (j : ℕ). numbered it.line.parts j ≡ Some it.move.p) f.0 it.fits.here) f.1 in
          let there : numbered (parts_now it) m.target ≡ Some (new_part it) = subst (λ (j : ℕ). numbered (parts_now it) j ≡ Some (new_part it)) f.0 (own_after it) in
          let fresh : onward it.line.moving (parts_now it) q.log h ≡ given_on h m.number (Some (new_part it)) = onward_on it.line.moving m (parts_now it) q.log h mm.1 t ∙ ap (given_on h m.number) there in
          elim (cases_Bool (list_any (gives h) it.move.goes)) [
            | inr n ↦
                let in_P : list_any (is_give m.number) it.move.stays ≡ true = elim (or_cases _ _ (sym (give_old m.number) ∙ f.1)) [
                  | inl y ↦ y
                  | inr y ↦ absurd (let bad : true ≡ false = sym (it.ground.give_covers h m mm.1 inside y) ∙ n in cc)
                ] in
                let last : onward it.line.moving (parts_now it) q.log h ≡ behind h it.move.stays ++ on h (again it) = fresh ∙ ap (λ (c : Bool). cond c (behind h (new_part it).log) []) (give_new m.number ∙ in_P) ∙ behind_new h in
                let was : on h (order_was it) ≡ (here.past ++ (behind h q.log ++ behind h it.move.stays)) ++ on h (gone it) =
                here.alike ∙ ap (λ w. here.past ++ (behind h q.log ++ w)) (old ∙ line_is it h n) ∙ ap (λ w. here.past ++ w) (sym (append_assoc (behind h q.log) (behind h it.move.stays) (on h (gone it))))
                ∙ sym (append_assoc here.past (behind h q.log ++ behind h it.move.stays) (on h (gone it))) in
                after_line it h (here.past ++ (behind h q.log ++ behind h it.move.stays)) was ∙ append_assoc here.past (behind h q.log ++ behind h it.move.stays) (on h (again it))
                ∙ ap (λ w. here.past ++ w) (append_assoc (behind h q.log) (behind h it.move.stays) (on h (again it))) ∙ ap (λ w. here.past ++ (behind h q.log ++ w)) (sym last)
            | inl y ↦
                let none_again : on h (again it) ≡ [] = empty_list (on h (again it)) (λ x mx. let bad : true ≡ false = sym y ∙ no_give it h (replayed x mx) in cc) in
                let last : onward it.line.moving (parts_now it) q.log h ≡ [] = fresh ∙ ap (λ (c : Bool). cond c (behind h (new_part it).log) []) (give_new m.number ∙ (it.ground.give_moving h m mm.1 y).0) in
                let was : on h (order_was it) ≡ (here.past ++ behind h q.log) ++ on h (gone it) =
                here.alike ∙ ap (λ w. here.past ++ (behind h q.log ++ w)) (old ∙ it.ground.behind_give h y) ∙ sym (append_assoc here.past (behind h q.log) (on h (gone it))) in
                after_line it h (here.past ++ behind h q.log) was ∙ append_assoc here.past (behind h q.log) (on h (again it)) ∙ ap (λ w. here.past ++ (behind h q.log ++ w)) (none_again ∙ sym last)
          ]

  -- the order at a hash that another partition holds
  pub other_alike : (k : ℕ) (q : Part) → k ≢ it.move.part → numbered it.line.parts k ≡ Some q → (h : ℕ) → holds it.line.moving q h ≡ true → (here : HashOk it.line.moving it.line.parts (order_was it) q h)
      → on h (order_now it) ≡ here.past ++ (behind h q.log ++ onward it.line.moving (parts_now it) q.log h)
  other_alike k q ne hk h held here = elim (some_or_none (on h (gone it))) [
    | inr some ↦ let b = gone_on it h some.0 some.1 in busy_alike k q ne hk h held here b.0 b.1 (replayed_on it h)
    | inl none_gone ↦ elim (some_or_none (on h (again it))) [
      | inr some ↦
          let own = replayed_on it h some.0 some.1 in
          busy_alike k q ne hk h held here (it.ground.held_before h own (no_give it h own)) (no_take it h own) (replayed_on it h)
      | inl none_again ↦ quiet_line h none_gone none_again ∙ here.alike ∙ ap (λ w. here.past ++ (behind h q.log ++ w)) (sym (onward_quiet h none_gone none_again q.log))
    ]
  ]

  -- the equation at each hash of each partition
  pub adopt_hashes : HashesOk it.line.moving (parts_now it) (order_now it)
  adopt_hashes k q hk h held = elim (numbered_set_cases it.line.parts it.move.part it.move.p (new_part it) it.fits.here k q hk) [
    | inl old ↦
        let here = it.facts.hashes k q old.1 h held in
        record { past = here.past; alike = other_alike k q old.0 old.1 h held here; values = here.values; known = here.known }
    | inr same ↦ subst (λ (y : Part). HashOk it.line.moving (parts_now it) (order_now it) y h) same.1 (own_hash h (subst (λ (y : Part). holds it.line.moving y h ≡ true) (sym same.1) held))
  ]
