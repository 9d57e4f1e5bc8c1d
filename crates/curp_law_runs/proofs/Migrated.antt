-- What stands of migrations in adopted logs.
use Rattle.std.proofs.Common.{◌≡◌, ◌⊎◌, inl, inr, ℕ, zero, suc, ◌+◌, ◌<◌, ◌≤◌, List, length, take, refl, ap, sym, ◌∙◌, subst, arith, Option, Some, None}
use Rattle.std.proofs.lemmas.Bool.{cases_eq}
use Rattle.curp_base.specs.Words.{At}
use Rattle.curp_base.proofs.Lists.{Each-at, at_take, at_within, at_mapped}
use Rattle.curp_cmd.specs.Node.{manager_node}
use Rattle.curp_cmd.specs.declared.command.Answer.{Answer}
use Rattle.curp_cmd.specs.declared.command.RequestId.{RequestId}
use Rattle.curp_cmd.specs.declared.entry.Entry.{Entry}
use Rattle.curp_cmd.specs.declared.entry.Entry.TheVariants.{Op, Take, Give, Expire}
use Rattle.curp_cmd.specs.declared.migration.Package.{Package}
use Rattle.curp_cmd.specs.declared.node.NodeId.{NodeId}
use Rattle.curp_msg.specs.Moved.{says}
use Rattle.curp_msg.specs.declared.body.Body.TheVariants as body
use Rattle.curp_msg.specs.declared.body.Parcel.{Parcel}
use Rattle.curp_msg.specs.declared.config.PartConfig.{PartConfig}
use Rattle.curp_model.specs.Backup.{BackupState}
use Rattle.curp_model.specs.Log.{meaning}
use Rattle.curp_model.specs.Manager.{Migration}
use Rattle.curp_model.specs.Named.{IsBackup}
use Rattle.curp_model.specs.Table.{Noted}
use Rattle.curp_model.specs.World.{World}
use Rattle.curp_facts.specs.Entries.{EntryOk, WasTakenOut}
use Rattle.curp_facts.specs.Facts.{IsAmong, Logged, WasOrdered, WasSent, WasTaken, hi_of, lo_of}
use Rattle.curp_facts.specs.Invariant.{Invariant}
use Rattle.curp_facts.specs.Kept.{AdoptedLog}
use Rattle.curp_facts.specs.Reach.{Tells}
use Rattle.curp_facts.specs.Said.{IsTakeOf, StoredEntry}
use Rattle.curp_law_kept.specs.Standing.{StandsHere}
use Rattle.curp_law_kept.proofs.Gives.{prefix_take, stands_longer, take_package, recorded}
use Rattle.curp_facts.specs.Names.{Names}
use Rattle.curp_facts.specs.Predecessors.{Predecessors}
use Rattle.curp_law_runs.proofs.Words.{said}
use Rattle.curp_facts.specs.Before.{GivesBefore}
use Rattle.curp_facts.specs.Migrated.{AllStored, Migrated, OnlyInWork, OpStored, TakeStored, WasTold}
use Rattle.curp_facts.specs.Routes.{IsMigrationDone, IsGiveOf, IsMoving, Routes}
use Rattle.curp_law_runs.proofs.Stored.{adopted_ok, place_in_prefix, one_adopted, one_entry, one_give, one_take, stored_now}

module _ {w : World} (names : Names w) (inv : Invariant w) (chain : Predecessors w) (routes : Routes w) where
  -- ---- where takes and gives were ordered

  -- a take in an adopted log was ordered under its number
  pub taken_out : (c : PartConfig) (l : AdoptedLog w c) (index number : ℕ) (p : Package) → At l.its.log index (Take number p) → WasTakenOut w c.part number p
  taken_out c l index number p at = (Each-at (EntryOk w c.part) l.its.log (adopted_ok names inv c l).entries index (Take number p) at).0

  -- and so was a give
  pub given_in : (c : PartConfig) (l : AdoptedLog w c) (index number : ℕ) (p : Package) → At l.its.log index (Give number p)
      → WasOrdered w c.part (body.GiveIn (record { migration = number; «package» = p }))
  given_in c l index number p at = (Each-at (EntryOk w c.part) l.its.log (adopted_ok names inv c l).entries index (Give number p) at).0

  -- the package of a give was told
  pub given_told : (c : PartConfig) (l : AdoptedLog w c) (index number : ℕ) (p : Package) → At l.its.log index (Give number p) → WasTaken w (record { migration = number; «package» = p })
  given_told c l index number p at = let o = given_in c l index number p at in said inv manager_node o.node (body.GiveIn (record { migration = number; «package» = p })) o.sent

  -- ---- what was told

  -- a told package stands in the adopted log of its source
  abbrev pub told_stored : (node : NodeId) (g : Parcel) → WasSent w (says node manager_node (body.Taken g)) → TakeStored w g.migration g.package
  told_stored node g sent =
      let s : StoredEntry w node (IsTakeOf g.migration g.package) = said inv node manager_node (body.Taken g) sent in
      let n = stored_now names inv chain node (IsTakeOf g.migration g.package) s in
      record {
        source = n.entry;
        its = n.its;
        index = s.index;
        stands = place_in_prefix s.index s.l.log n.its.its.log s.index (Take g.migration g.package) (at_within s.l.log s.index s.entry s.stands) n.prefix (omega arith) (subst (At s.l.log s.index) s.is s.stands);
        stored = n.stored;
      }

  -- where a take is stored, each take of its number in an adopted log is that one
  pub one_stored : (number : ℕ) (p : Package) (t : TakeStored w number p) (c : PartConfig) (l : AdoptedLog w c) (index : ℕ) (q : Package) → At l.its.log index (Take number q)
      → (t.source ≡ c) × (t.index ≡ index) × (p ≡ q)
  one_stored number p t c l index q at =
      let a = taken_out t.source t.its t.index number p t.stands in
      let b = taken_out c l index number q at in
      let part : t.source.part ≡ c.part = (routes.one_source t.source.part c.part a.order b.order a.ordered b.ordered (a.its_number ∙ sym b.its_number)).0 in
      let same : t.its.its ≡ l.its = one_adopted names t.source c t.its l part in
      let there : At l.its.log t.index (Take number p) = subst (λ (x : Logged). At x.log t.index (Take number p)) same t.stands in
      let one = one_take c.part l.its.log (adopted_ok names inv c l) t.index index number p q there at in
      (one_entry names t.source c t.its.now l.now part, one.0, one.1)

  -- one package was told of each
  one_package : (node other : NodeId) (g k : Parcel) → WasSent w (says node manager_node (body.Taken g)) → WasSent w (says other manager_node (body.Taken k))
      → g.migration ≡ k.migration → g.package ≡ k.package
  one_package node other g k a b same =
      let t = told_stored node g a in
      let u = told_stored other k b in
      (one_stored g.migration g.package t u.source u.its u.index k.package (subst (λ (n : ℕ). At u.its.its.log u.index (Take n k.package)) (sym same) u.stands)).2

  -- what a give has brought stands as a take in the adopted log of its source
  abbrev pub given_stored : (c : PartConfig) (l : AdoptedLog w c) (index number : ℕ) (p : Package) → At l.its.log index (Give number p) → TakeStored w number p
  given_stored c l index number p at = let t = given_told c l index number p at in told_stored t.node (record { migration = number; «package» = p }) t.told

  -- ---- past the length of some backup

  -- a number that was given is in work or done
  pub work_or_done : (number : ℕ) → 1 ≤ number → number < w.manager.next.migration → IsMoving w number ⊎ IsMigrationDone w number
  work_or_done number low below = go w.manager.moving refl
    where
      go : (o : Option Migration) → w.manager.moving ≡ o → IsMoving w number ⊎ IsMigrationDone w number
      go None is = inr (routes.done number low below (λ (k : IsMoving w number). absurd (cc (k.1, is))))
      go (Some m) is = elim (cases_eq m.number number) [
        | inl same ↦ inl (m, is, same)
        | inr other ↦ inr (routes.done number low below (λ (k : IsMoving w number). let one : k.0 ≡ m = cc (k.1, is) in other (ap (λ (x : Migration). x.number) (sym one) ∙ k.2)))
      ]

  in_work_unless : (number : ℕ) → 1 ≤ number → number < w.manager.next.migration → (IsMigrationDone w number → ⊥) → IsMoving w number
  in_work_unless number low below undone = elim (work_or_done number low below) [ inl moving ↦ moving | inr done ↦ absurd (undone done) ]

  module _ (c : PartConfig) (l : AdoptedLog w c) (node : NodeId) (b : BackupState) (named : IsAmong node c.backups) (is : IsBackup w node b) where
    -- a take there wasn't told
    untold : (index number : ℕ) (p : Package) → length b.log ≤ index → At l.its.log index (Take number p) → WasTold w number → ⊥
    untold index number p long at told =
        let t : TakeStored w number told.1 = told_stored told.0 (record { migration = number; «package» = told.1 }) told.2 in
        let one = one_stored number told.1 t c l index p at in
        let stored : AllStored w c (t.index + 1) = subst (λ (x : PartConfig). AllStored w x (t.index + 1)) one.0 t.stored in
        absurd (omega (arith, stored node named b is, one.1, long))

    -- and a give there isn't done
    ungiven : (index number : ℕ) (p : Package) → length b.log ≤ index → At l.its.log index (Give number p) → IsMigrationDone w number → ⊥
    ungiven index number p long at d =
        let s : StoredEntry w d.target (IsGiveOf number) = d.given in
        let n = stored_now names inv chain d.target (IsGiveOf number) s in
        let own : At n.its.its.log s.index (Give number s.is.0)
        = place_in_prefix s.index s.l.log n.its.its.log s.index (Give number s.is.0) (at_within s.l.log s.index s.entry s.stands) n.prefix (omega arith) (subst (At s.l.log s.index) s.is.1 s.stands) in
        let part : n.entry.part ≡ c.part = routes.one_target n.entry.part c.part (record { migration = number; «package» = s.is.0 }) (record { migration = number; «package» = p })
        (given_in n.entry n.its s.index number s.is.0 own) (given_in c l index number p at) refl in
        let same : n.its.its ≡ l.its = one_adopted names n.entry c n.its l part in
        let there : At l.its.log s.index (Give number s.is.0) = subst (λ (x : Logged). At x.log s.index (Give number s.is.0)) same own in
        let one : s.index ≡ index = one_give c.part l.its.log (adopted_ok names inv c l) s.index index number s.is.0 p there at in
        let stored : AllStored w c (s.index + 1) = subst (λ (x : PartConfig). AllStored w x (s.index + 1)) (one_entry names n.entry c n.its.now l.now part) n.stored in
        absurd (omega (arith, stored node named b is, one, long))

    -- there is nothing but of the migration in work
    past_backup : (index : ℕ) (e : Entry) → length b.log ≤ index → At l.its.log index e → OnlyInWork w e
    past_backup index (Op r acknowledged) long at = tt
    past_backup index (Take number p) long at =
        let o = taken_out c l index number p at in
        let given = routes.takes_given c.part o.order o.ordered in
        let none = untold index number p long at in
        (in_work_unless number (omega (arith, given.0, o.its_number)) (omega (arith, given.1, o.its_number)) (λ d. none (d.source, d.taken, d.told)), none)
    past_backup index (Give number p) long at =
        let given = routes.gives_given c.part (record { migration = number; «package» = p }) (given_in c l index number p at) in
        in_work_unless number given.0 given.1 (ungiven index number p long at)
    past_backup index (Expire client) long at = tt

  -- ---- records

  module _ (before : GivesBefore w) where
    -- so far as numbers are below a bound
    brought_below : (bound : ℕ) (c : PartConfig) (l : AdoptedLog w c) (index number : ℕ) (p : Package) (id : RequestId) (a : Answer) → number < bound → At l.its.log index (Give number p) → IsAmong (id, a) p.table.records
        → OpStored w id a
    brought_below zero c l index number p id a low at among = absurd (omega (arith, low))
    brought_below (suc bound) c l index number p id a low at among =
        let told = given_told c l index number p at in
        let t = told_stored told.node (record { migration = number; «package» = p }) told.told in
        from_take t (told.node, p, told.told) (λ k n q less there more.
        brought_below bound t.source t.its k n q id a (omega (arith, before.earlier number (told.node, p, told.told) t.source t.its t.index p t.stands k n q less there, low)) there more)
      where
        from_take : (t : TakeStored w number p) → WasTold w number
            → ((k n : ℕ) (q : Package) → k < t.index → At t.its.its.log k (Give n q) → IsAmong (id, a) q.table.records → OpStored w id a) → OpStored w id a
        from_take t told earlier =
            let lo = lo_of w t.source.part in
            let hi = hi_of w t.source.part in
            let log : List Entry = t.its.its.log in
            let ok = adopted_ok names inv t.source t.its in
            let same = take_package lo hi log t.index number p ok.is_log t.stands in
            let m = at_mapped (λ (e : RequestId × Noted). (e.0, e.1.answer)) (meaning lo hi (take t.index log)).table.records among.place (id, a)
            (subst (λ (q : Package). At q.table.records among.place (id, a)) same among.stands) in
            let stands = recorded lo hi (take t.index log) m.0.0 m.0.1 (record { place = among.place; stands = m.1 }) in
            let key : m.0.0 ≡ id = ap (λ (x : RequestId × Answer). x.0) m.2 in
            let answer : m.0.1.answer ≡ a = ap (λ (x : RequestId × Answer). x.1) m.2 in
            by_entry m.0.1.index (stands_longer lo hi (take t.index log) log m.0.1.index id a (prefix_take t.index log)
            (subst (λ (x : Answer). StandsHere lo hi (take t.index log) m.0.1.index id x) answer (subst (λ (x : RequestId). StandsHere lo hi (take t.index log) m.0.1.index x m.0.1.answer) key stands)))
            (at_take t.index log m.0.1.index stands.entry stands.stands).0
          where
            by_entry : (k : ℕ) → StandsHere (lo_of w t.source.part) (hi_of w t.source.part) t.its.its.log k id a → k < t.index → OpStored w id a
            by_entry k s low = go s.entry s.stands s.tells
              where
                go : (e : Entry) → At t.its.its.log k e → Tells (lo_of w t.source.part) (hi_of w t.source.part) t.its.its.log k id a e → OpStored w id a
                go (Op r acknowledged) at tells = record {
                  part = t.source;
                  its = t.its;
                  done = record { index = k; request = r; acknowledged = acknowledged; stands = at; its_id = tells.0; its_answer = tells.1 };
                  stored = λ node named b is. omega (arith, t.stored node named b is, low);
                }
                go (Take n q) at tells = absurd tells
                go (Give n q) at tells = earlier k n q low at tells
                go (Expire client) at tells = absurd tells

    -- what follows of migrations from what nodes keep, from the chain of masters and from the routes
    pub migrated : Migrated w
    migrated = record {
      one_package = one_package;
      told = λ node g sent. told_stored node g sent;
      given = λ c l index number p at. given_stored c l index number p at;
      past = λ c l node b named is index e long at. past_backup c l node b named is index e long at;
      brought = λ c l index number p id a at among. brought_below (number + 1) c l index number p id a (omega arith) at among;
    }
