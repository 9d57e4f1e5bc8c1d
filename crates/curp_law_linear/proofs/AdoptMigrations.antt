-- What an adoption lets go of migrations: entries of the one in work alone, whose take wasn't told.
use Rattle.std.proofs.Common.{◌≡◌, inl, inr, ℕ, zero, suc, ◌+◌, ◌≤◌, Bool, true, false, List, [], ◌∷◌, ◌++◌, flat_map, length, take, refl, ap, sym, ◌∙◌, subst, arith, Some, None}
use Rattle.std.specs.List.{list_any}
use Rattle.std.proofs.Math.Seq.{take-append-add}
use Rattle.curp_range.specs.Spans.{is_owned}
use Rattle.curp_base.specs.Words.{At, IsPrefix, numbered}
use Rattle.curp_base.proofs.Lists.{at_append_cases, at_append_right, at_one, at_take, prefix_back, at_any}
use Rattle.curp_cmd.specs.Node.{manager_node}
use Rattle.curp_cmd.specs.declared.entry.Entry.{Entry}
use Rattle.curp_cmd.specs.declared.entry.Entry.TheVariants.{Op, Take, Give, Expire}
use Rattle.curp_cmd.specs.declared.migration.Package.{Package}
use Rattle.curp_cmd.specs.declared.node.NodeId.{NodeId}
use Rattle.curp_cmd.specs.declared.node.NodeKind.{NodeKind}
use Rattle.curp_cmd.specs.declared.node.NodeKind.TheVariants as kind
use Rattle.curp_msg.specs.Moved.{says}
use Rattle.curp_msg.specs.declared.body.Body.{Body}
use Rattle.curp_msg.specs.declared.body.Body.TheVariants as body
use Rattle.curp_msg.specs.declared.body.Parcel.{Parcel}
use Rattle.curp_msg.specs.declared.config.PartConfig.{PartConfig}
use Rattle.curp_msg.specs.declared.message.Message.{Message}
use Rattle.curp_model.specs.Log.{LogState, after_entries, after_entry, log_opening, meaning}
use Rattle.curp_model.specs.Manager.{Attempted, Migration}
use Rattle.curp_model.specs.World.{World, messages}
use Rattle.curp_facts.specs.Facts.{HasLog, IsAdoptedNow, IsAmong, WasSent, hi_of, lo_of}
use Rattle.curp_facts.specs.Kept.{AdoptedLog}
use Rattle.curp_facts.specs.Known.{Known}
use Rattle.curp_law_kept.proofs.Gives.{fits}
use Rattle.curp_law_linear.specs.Hashes.{Part, is_give, is_take, owns}
use Rattle.curp_law_linear.specs.Line.{Ungiven}
use Rattle.curp_law_linear.specs.Moves.{OnlyMoving}
use Rattle.curp_law_linear.specs.OfWorld.{line_of, moving_of, part_of, told_by}
use Rattle.curp_base.proofs.Numbered.{any_at}
use Rattle.curp_law_linear.proofs.Spans.{owned_after, takes}
use Rattle.curp_law_kept.specs.GivesFit.{GiveFits, GivesFit}
use Rattle.curp_law_kept.specs.Hashes.{gives}
use Rattle.curp_law_linear.specs.Ordered.{Ordered}
use Rattle.curp_law_linear.proofs.AdoptRecovery.{Recovery}
use Rattle.curp_law_linear.proofs.ManagersMoves.{adopted_entry, adopted_ok}
use Rattle.curp_law_linear.proofs.Parts.{adopted_or_none, part_entry, part_log}
use Rattle.curp_facts.specs.Names.{IsOf}
use Rattle.curp_law_runs.proofs.Gives.{one_log}
use Rattle.curp_facts.specs.Migrated.{AllStored, Migrated, OnlyInWork, TakeStored}
use Rattle.curp_facts.specs.Routes.{Routes, order_of}
use Rattle.curp_law_linear.proofs.Found.{none_any}
use Rattle.curp_cmd.proofs.Apart.{same_number}
use Rattle.curp_law_linear.proofs.Entries.{give_entry, take_entry}

-- ---- words

-- a give that fits where it stands
gives_at : (es : List Entry) (s : LogState) (n i migration : ℕ) (p : Package) → GivesFit s n es → At es i (Give migration p) → GiveFits (after_entries s n (take i es)) p
gives_at [] s n i migration p fits at = absurd cc
gives_at (Op r acknowledged ∷ es) s n zero migration p fits at = absurd cc
gives_at (Op r acknowledged ∷ es) s n (suc i) migration p fits at = gives_at es (after_entry s n (Op r acknowledged)) (n + 1) i migration p fits at
gives_at (Take m taken ∷ es) s n zero migration p fits at = absurd cc
gives_at (Take m taken ∷ es) s n (suc i) migration p fits at = gives_at es (after_entry s n (Take m taken)) (n + 1) i migration p fits at
gives_at (Give m x ∷ es) s n zero migration p fits at = let same : x ≡ p = cc in subst (GiveFits s) same fits.0
gives_at (Give m x ∷ es) s n (suc i) migration p fits at = gives_at es (after_entry s n (Give m x)) (n + 1) i migration p fits.1 at
gives_at (Expire client ∷ es) s n zero migration p fits at = absurd cc
gives_at (Expire client ∷ es) s n (suc i) migration p fits at = gives_at es (after_entry s n (Expire client)) (n + 1) i migration p fits at

-- what stands among what is made of items is made of one of them
among_flat : {A B : Type 0} (f : A → List B) (xs : List A) (k : ℕ) (y : B) → At (flat_map f xs) k y → (j : ℕ) × (x : A) × At xs j x × IsAmong y (f x)
among_flat f [] k y at = absurd cc
among_flat f (x ∷ xs) k y at = elim (at_append_cases (f x) (flat_map f xs) k y at) [
  | inl here ↦ (0, x, refl, record { place = k; stands = here })
  | inr there ↦ let o = among_flat f xs there.0 y there.2 in (suc o.0, o.1, o.2, o.3)
]

nothing : {A : Type 0} (k : ℕ) (x : A) → At {A = A} [] k x → ⊥
nothing k x at = cc

-- ---- an adoption

module _ {w : World} (known : Known w) where
  -- one entry a partition
  pub one_entry : (c d : PartConfig) → IsAdoptedNow w c → IsAdoptedNow w d → c.part ≡ d.part → c ≡ d
  one_entry c d now there same = some (sym now ∙ ap (λ (n : ℕ). numbered w.manager.config.parts n) same ∙ there)
    where
      some : Some c ≡ Some d → c ≡ d
      some e = cc

  -- and one adopted log
  pub one_adopted : (c d : PartConfig) → d ≡ c → (l : AdoptedLog w c) (j : AdoptedLog w d) → j.its.log ≡ l.its.log
  one_adopted c d same l j = ap (λ x. x.log) (one_log j.its l.its (subst (λ (e : PartConfig). HasLog w e.master j.its) same j.its_log) l.its_log)

  module _ (routes : Routes w) where
    -- the takes of a number are of one partition
    pub one_source : (c d : PartConfig) (l : AdoptedLog w c) (j : AdoptedLog w d) (i k number : ℕ) (p q : Package) → At l.its.log i (Take number p) → At j.its.log k (Take number q) → d ≡ c
    one_source c d l j i k number p q at to =
        let a = (adopted_entry known c l i (Take number p) at).0 in
        let b = (adopted_entry known d j k (Take number q) to).0 in
        one_entry d c j.now l.now (routes.one_source d.part c.part b.order a.order b.ordered a.ordered (b.its_number ∙ sym a.its_number)).0

    -- that of the migration in work has its range and is of its source
    pub moving_take : (m : Migration) → w.manager.moving ≡ Some m → (d : PartConfig) (l : AdoptedLog w d) (i number : ℕ) (p : Package) → At l.its.log i (Take number p) → m.number ≡ number
        → (d.part ≡ m.source) × (p.lo ≡ m.range.lo) × (p.hi ≡ m.range.hi)
    moving_take m in_work d l i number p at same =
        let a = (adopted_entry known d l i (Take number p) at).0 in
        let way = routes.in_work m in_work in
        let one = routes.one_source d.part m.source a.order (order_of m) a.ordered way.ordered (a.its_number ∙ sym same) in
        (one.0, a.lo ∙ one.1, a.hi ∙ one.2)

    -- and the gives of the migration in work are of its target
    pub moving_give : (m : Migration) → w.manager.moving ≡ Some m → (d : PartConfig) (l : AdoptedLog w d) (i number : ℕ) (p : Package) → At l.its.log i (Give number p) → m.number ≡ number → d.part ≡ m.target
    moving_give m in_work d l i number p at same = (routes.in_work m in_work).to_target d.part (record { migration = number; «package» = p }) (adopted_entry known d l i (Give number p) at).0 (sym same)

    module _ (migrated : Migrated w) (c : PartConfig) (a : Attempted) (o : Recovery w c a) (prefix : IsPrefix o.b.log (part_of w c).log) where
      -- what goes stands behind what stays
      pub goes_at : (k : ℕ) (e : Entry) → At prefix.rest k e → At (part_of w c).log (length o.b.log + k) e
      goes_at k e at = subst (λ (es : List Entry). At es (length o.b.log + k) e) prefix.is (at_append_right o.b.log prefix.rest k (length o.b.log + k) e refl at)

      -- and then there is an adopted log
      pub adopted_at : (k : ℕ) (e : Entry) → At (part_of w c).log k e → (l : AdoptedLog w c) × At l.its.log k e
      adopted_at k e at = elim (adopted_or_none known c o.now) [
        | inl l ↦ (l, subst (λ (es : List Entry). At es k e) (part_log known c l) at)
        | inr none ↦ absurd (nothing k e (subst (λ (es : List Entry). At es k e) none at))
      ]

      -- what each backup has stays
      pub stored_stays : (d : PartConfig) → d ≡ c → (n : ℕ) → AllStored w d n → n ≤ length o.b.log
      stored_stays d same n all = subst (λ (e : PartConfig). AllStored w e n) same all a.order.backup o.ok.its_backup o.b o.its_backup

      in_work : (l : AdoptedLog w c) (k : ℕ) (e : Entry) → At l.its.log (length o.b.log + k) e → OnlyInWork w e
      in_work l k e at = migrated.past c l a.order.backup o.b o.ok.its_backup o.its_backup (length o.b.log + k) e (omega arith) at

      -- where a take goes, no log has the give
      ungiven : (l : AdoptedLog w c) (k number : ℕ) (taken : Package) → At l.its.log (length o.b.log + k) (Take number taken) → Ungiven (line_of w).parts number
      ungiven l k number taken at n q here = none_any (is_give number) q.log (λ i e stands is. none n q here i e stands (give_entry number e is))
        where
          by_log : (d : PartConfig) (j : AdoptedLog w d) (i : ℕ) (brought : Package) → At j.its.log i (Give number brought) → ⊥
          by_log d j i brought stands =
              let t : TakeStored w number brought = migrated.given d j i number brought stands in
              let same : t.source ≡ c = one_source c t.source l t.its (length o.b.log + k) t.index number taken brought at t.stands in
              let low = stored_stays t.source same (t.index + 1) t.stored in
              let there : At l.its.log t.index (Take number brought) = subst (λ (es : List Entry). At es t.index (Take number brought)) (one_adopted c t.source same l t.its) t.stands in
              let rise = (adopted_ok known c l).takes t.index (length o.b.log + k) number number brought taken (omega (arith, low)) there at in
              omega (arith, rise)

          none : (n : ℕ) (q : Part) → numbered (line_of w).parts n ≡ Some q → (i : ℕ) (e : Entry) → At q.log i e → (brought : Package) × (e ≡ Give number brought) → ⊥
          none n q here i e stands is =
              let d = part_entry known n q here in
              let there : At (part_of w d.0).log i (Give number is.0) = subst (At (part_of w d.0).log i) is.1 (subst (λ (x : Part). At x.log i e) d.3 stands) in
              elim (adopted_or_none known d.0 d.1) [
                | inl j ↦ by_log d.0 j i is.0 (subst (λ (es : List Entry). At es i (Give number is.0)) (part_log known d.0 j) there)
                | inr empty ↦ nothing i (Give number is.0) (subst (λ (es : List Entry). At es i (Give number is.0)) empty there)
              ]

      -- (a) of takes and gives, those of the migration in work go alone
      pub only_moving : (k : ℕ) (e : Entry) → At prefix.rest k e → OnlyMoving (line_of w) e
      only_moving k (Op r acknowledged) at = tt
      only_moving k (Take number taken) at =
          let l = adopted_at (length o.b.log + k) (Take number taken) (goes_at k (Take number taken) at) in
          let m = (in_work l.0 k (Take number taken) l.1).0 in
          let its = moving_take m.0 m.1 c l.0 (length o.b.log + k) number taken l.1 m.2 in
          (record m.0 { moved = None }, ap moving_of m.1, m.2, ungiven l.0 k number taken l.1, its.1, its.2)
      only_moving k (Give number given) at =
          let l = adopted_at (length o.b.log + k) (Give number given) (goes_at k (Give number given) at) in
          let m = in_work l.0 k (Give number given) l.1 in
          let t : TakeStored w number given = migrated.given c l.0 (length o.b.log + k) number given l.1 in
          let its = moving_take m.0 m.1 t.source t.its t.index number given t.stands m.2 in
          (record m.0 { moved = None }, ap moving_of m.1, m.2, its.1, its.2)
      only_moving k (Expire client) at = tt

      -- a take of the migration in work and a give of it stand in no one log
      not_both : (i k number other : ℕ) (p q : Package) → At prefix.rest i (Take number p) → At prefix.rest k (Give other q) → ⊥
      not_both i k number other p q taken given =
          let l = adopted_at (length o.b.log + i) (Take number p) (goes_at i (Take number p) taken) in
          let j = adopted_at (length o.b.log + k) (Give other q) (goes_at k (Give other q) given) in
          let m = (in_work l.0 i (Take number p) l.1).0 in
          let n = in_work j.0 k (Give other q) j.1 in
          let same : n.0 ≡ m.0 = some (sym n.1 ∙ m.1) in
          let source = (moving_take m.0 m.1 c l.0 (length o.b.log + i) number p l.1 m.2).0 in
          let target = moving_give n.0 n.1 c j.0 (length o.b.log + k) other q j.1 n.2 in
          (routes.in_work m.0 m.1).apart (sym source ∙ target ∙ ap (λ (x : Migration). x.target) same)
        where
          some : {x y : Migration} → Some x ≡ Some y → x ≡ y
          some e = cc

      -- (b) where a give goes, what stays doesn't own its hashes
      pub unowned : Ordered w → (h : ℕ) → list_any (gives h) prefix.rest ≡ true → owns (record (part_of w c) { log = o.b.log }) h ≡ false
      unowned ordered h any = let g = any_at (gives h) prefix.rest any in by_give g.0 g.1 g.2 g.3
        where
          lo : ℕ
          lo = lo_of w c.part

          hi : ℕ
          hi = hi_of w c.part

          by_give : (k : ℕ) (e : Entry) → At prefix.rest k e → gives h e ≡ true → is_owned (meaning lo hi o.b.log).owned h ≡ false
          by_give k (Op r acknowledged) at covers = absurd cc
          by_give k (Take number taken) at covers = absurd cc
          by_give k (Expire client) at covers = absurd cc
          by_give k (Give number given) at covers = go (is_owned (meaning lo hi o.b.log).owned h) refl
            where
              l : (l : AdoptedLog w c) × At l.its.log (length o.b.log + k) (Give number given)
              l = adopted_at (length o.b.log + k) (Give number given) (goes_at k (Give number given) at)

              away : is_owned (meaning lo hi (take (length o.b.log + k) l.0.its.log)).owned h ≡ false
              away = (gives_at l.0.its.log (log_opening lo hi) 0 (length o.b.log + k) number given (ordered.logs c l.0).fit l.1).away h covers

              before : take (length o.b.log + k) l.0.its.log ≡ o.b.log ++ take k prefix.rest
              before = ap (take (length o.b.log + k)) (sym (part_log known c l.0) ∙ sym prefix.is) ∙ take-append-add o.b.log prefix.rest k

              no_take : (j : ℕ) (e : Entry) → At (take k prefix.rest) j e → takes h e ≡ true → ⊥
              no_take j (Op r acknowledged) stands is = cc
              no_take j (Take other taken) stands is = not_both j k other number taken given (at_take k prefix.rest j (Take other taken) stands).1 at
              no_take j (Give other brought) stands is = cc
              no_take j (Expire client) stands is = cc

              both : (b : Bool) → b ≡ true → b ≡ false → ⊥
              both b y n = cc

              go : (b : Bool) → is_owned (meaning lo hi o.b.log).owned h ≡ b → is_owned (meaning lo hi o.b.log).owned h ≡ false
              go false e = e
              go true e =
                  let kept = owned_after lo hi h o.b.log (take k prefix.rest) e (none_any (takes h) (take k prefix.rest) no_take) in
                  absurd (both (is_owned (meaning lo hi (o.b.log ++ take k prefix.rest)).owned h) kept (subst (λ (es : List Entry). is_owned (meaning lo hi es).owned h ≡ false) before away))

      -- (f) the take of a migration that was told stays
      pub told_stays : (number : ℕ) → IsAmong number (line_of w).told → list_any (is_take number) (part_of w c).log ≡ true → list_any (is_take number) o.b.log ≡ true
      told_stays number told any =
          let t = among_flat (λ (m : Message). told_by m.body) (messages w) told.place number told.stands in
          by_message t.1 (record { place = t.0; stands = t.2 }) t.3
        where
          by_taken : (from : NodeId) (t : Parcel) → WasSent w (says from manager_node (body.Taken t)) → t.migration ≡ number → list_any (is_take number) o.b.log ≡ true
          by_taken from t sent same =
              let g : TakeStored w t.migration t.package = migrated.told from t sent in
              let e = any_at (is_take number) (part_of w c).log any in
              let it = take_entry number e.1 e.3 in
              let l = adopted_at e.0 (Take number it.0) (subst (At (part_of w c).log e.0) it.1 e.2) in
              let taken : At g.its.its.log g.index (Take number t.package) = subst (λ (n : ℕ). At g.its.its.log g.index (Take n t.package)) same g.stands in
              let here : g.source ≡ c = one_source c g.source l.0 g.its e.0 g.index number it.0 t.package l.1 taken in
              let low = stored_stays g.source here (g.index + 1) g.stored in
              let in_log : At (part_of w c).log g.index (Take number t.package) = subst (λ (es : List Entry). At es g.index (Take number t.package)) (one_adopted c g.source here l.0 g.its ∙ sym (part_log known c l.0)) taken in
              at_any (is_take number) o.b.log g.index (Take number t.package) (prefix_back prefix g.index (Take number t.package) (omega (arith, low)) in_log) (same_number number)

          at_manager : (node : NodeId) → IsOf w kind.Manager node → node ≡ manager_node
          at_manager node of = ap (λ (k : NodeKind). record { kind = k; number = node.number }) of.0 ∙ ap (λ (n : ℕ). record { kind = kind.Manager; number = n }) of.1

          by_body : (from to : NodeId) (b : Body) → WasSent w (says from to b) → IsAmong number (told_by b) → list_any (is_take number) o.b.log ≡ true
          by_body from to (body.Taken t) sent m =
              by_taken from t (subst (λ (node : NodeId). WasSent w (says from node (body.Taken t))) (at_manager to (fits known (says from to (body.Taken t)) sent).addressee) sent) (only t.migration m)
            where
              only : (n : ℕ) → IsAmong number (n ∷ []) → n ≡ number
              only n m = let o = at_one n m.place number m.stands in o.1
          by_body from to _ sent m = absurd (nothing m.place number m.stands)

          by_message : (m : Message) → WasSent w m → IsAmong number (told_by m.body) → list_any (is_take number) o.b.log ≡ true
          by_message m sent a = by_body m.from m.to m.body sent a
