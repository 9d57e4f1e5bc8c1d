-- A recovery is ordered in a world where every message is delivered.
use Rattle.std.proofs.Common.{◌≡◌, ◌≤◌, ◌<◌, ◌||◌, inl, inr, ℕ, zero, suc, ◌+◌, ◌-◌, Bool, true, false, cond, List, [], ◌∷◌, ◌++◌, length, map, replicate, set, Option, Some, None, refl, ap, sym, ◌∙◌, subst, arith, length-append}
use Rattle.std.specs.Prelude.{Result, Ok}
use Rattle.std.specs.Option.{ok_or}
use Rattle.std.specs.Bool.{⊤}
use Rattle.std.proofs.lemmas.List.{length-map}
use Rattle.curp_base.specs.Cases.{◌>>=◌}
use Rattle.curp_base.specs.Words.{At, Each, numbered, numbers_from, rises_past}
use Rattle.curp_base.proofs.Lists.{Each-append, Each-at, Each-map, at_append, at_append_cases, at_append_right, at_map, at_replicated, at_within}
use Rattle.curp_base.proofs.Numbered.{numbers_back}
use Rattle.curp_cmd.specs.Node.{backup_node, manager_node, master_node, witness_node}
use Rattle.curp_cmd.specs.declared.node.NodeId.{NodeId}
use Rattle.curp_cmd.specs.declared.node.NodeKind.TheVariants as kind
use Rattle.curp_msg.specs.Moved.{Moved, quiet, says, unless_refused, within}
use Rattle.curp_msg.specs.declared.body.Body.{Body}
use Rattle.curp_msg.specs.declared.body.Body.TheVariants as body
use Rattle.curp_msg.specs.declared.body.Recover.{Recover}
use Rattle.curp_msg.specs.declared.config.PartConfig.{PartConfig}
use Rattle.curp_msg.specs.Input as input
use Rattle.curp_msg.specs.declared.machine.Local.TheVariants as local
use Rattle.curp_msg.specs.declared.message.Message.{Message}
use Rattle.curp_facts.specs.Facts.{IsAmong}
use Rattle.curp_model.specs.Backup.{BackupState, fresh_backup}
use Rattle.curp_model.specs.Client.{ClientState}
use Rattle.curp_model.specs.Manager as manager
use Rattle.curp_model.specs.Manager.{Doing, ManagerState, counter_ends, install_on, last_number, manager_ordered, recover, recover_messages, recover_order, recovers, recovery_for, start_on, unless_numbers_end}
use Rattle.curp_model.specs.Recovery.{Fresh, MasterStage}
use Rattle.curp_model.specs.World.{World, messages, moves, with_manager}
use Rattle.curp_law_served.specs.Renews.{CanRecover, IsSteady, RenewFits, Renewing, WillInstall}
use Rattle.curp_law_served.specs.Renews.Renewal.{Ordered}
use Rattle.curp_law_served.proofs.Starts.{Gave}
use Rattle.curp_law_served.proofs.Steps.{same_never}

-- the fresh nodes are the next ones
numbered_at : {A : Type 0} (xs : List A) (n k : ℕ) (x : A) → n ≡ k + 1 → At xs k x → numbered xs n ≡ Some x
numbered_at xs zero k x e at = absurd (omega (arith, e))
numbered_at xs (suc n) k x e at = let same : k ≡ n = omega (arith, e) in subst (λ (i : ℕ). At xs i x) same at

grown_at : {A : Type 0} (xs : List A) (x : A) (n count : ℕ) → length xs < n → n ≤ length xs + count
    → numbered (xs ++ replicate count x) n ≡ Some x
grown_at xs x n count past within =
    numbered_at (xs ++ replicate count x) n (length xs + (n - 1 - length xs)) x (omega (arith, past)) (at_append_right xs (replicate count x) (n - 1 - length xs) _ x refl (at_replicated count x (n - 1 - length xs) (omega (arith, past, within))))

some_same : {A : Type 0} (a b : A) → Some a ≡ Some b → a ≡ b
some_same a b e = cc

module _ (w : World) (c : PartConfig) (from other : NodeId) (can : CanRecover w c from other) where
  abbrev g : ManagerState
  g = w.manager

  abbrev q : ℕ
  q = g.next.master

  abbrev o : Recover
  o = recover_order g c from other

  abbrev places : PartConfig → Option NodeId → Option NodeId → Result Recover ℕ
  places k x y = do
    a ← ok_or x 2
    b ← ok_or y 3
    Ok (recover_order g k a b)

  abbrev parted : Option PartConfig → Result Recover ℕ
  parted x = do
    k ← ok_or x 1
    places k (numbered k.backups 1) (numbered k.witnesses 1)

  found : recovery_for g 1 1 1 ≡ Ok o
  found = by (numbered g.config.parts 1) (ap (λ (l : List PartConfig). numbered l 1) can.entry)
    where
      inner : (x y : Option NodeId) → x ≡ Some from → y ≡ Some other → places c x y ≡ Ok o
      inner (Some a) (Some b) e f = λ i. Ok (recover_order g c (some_same a from e i) (some_same b other f i))
      inner None y e f = absurd cc
      inner (Some a) None e f = absurd cc

      by : (x : Option PartConfig) → x ≡ Some c → parted x ≡ Ok o
      by (Some k) e = subst (λ (z : PartConfig). places z (numbered z.backups 1) (numbered z.witnesses 1) ≡ Ok o) (sym (some_same k c e))
          (inner (numbered c.backups 1) (numbered c.witnesses 1) (ap (λ (l : List NodeId). numbered l 1) can.backups) (ap (λ (l : List NodeId). numbered l 1) can.witnesses))
      by None e = absurd cc

  -- the manager orders it
  pub ordered : manager_ordered g (local.Recover 1 1 1) ≡ recovers g 1 o
  unfolding manager_ordered recover
  ordered = ap (unless_numbers_end g) (ap (unless_refused g (recovers g 1)) found) ∙ by (counter_ends g.next (recovers g 1 o).state.next) (rises_past last_number g.config.serial g.config.serial) can.counters (same_never last_number g.config.serial)
    where
      by : (x y : Bool) → x ≡ false → y ≡ false → cond (x || y) (quiet g) (recovers g 1 o) ≡ recovers g 1 o
      by false false e f = refl
      by true y e f = absurd cc
      by false true e f = absurd cc

  module _ (v : World) (cl : ClientState) (client : w.clients ≡ cl ∷ [])
      (did : Gave w v manager_node (input.Local (local.Recover 1 1 1))) where
    moved : moves w manager_node (input.Local (local.Recover 1 1 1)) ≡ within (with_manager w None) (recovers g 1 o)
    moved = ap (λ (k : Moved ManagerState). within (with_manager w None) k) ordered

    abbrev out : List Message
    out = recover_messages (master_node q) o

    said : messages v ≡ messages w ++ out
    said = did.said ∙ ap (λ (k : Moved World). messages w ++ k.messages) moved

    abbrev Fit : Type 0 → Message → Type 0
    Fit S y = RenewFits S q o y.from y.to y.body

    -- each of these fits
    out_fits : (S : Type 0) → Each (λ (y : Message). RenewFits S q o y.from y.to y.body) out
    out_fits S = Each-append (Fit S) (install_on o.epoch o.backups ++ start_on o.part o.epoch o.witnesses) (says manager_node (master_node q) (body.Recover o) ∷ []) (Each-append (Fit S) (install_on o.epoch o.backups) (start_on o.part o.epoch o.witnesses)
        (Each-map (Fit S) (λ to. says manager_node to (body.Install o.epoch)) o.backups (Each-map (λ to. (to.kind ≡ kind.Backup) × (o.epoch ≡ o.epoch)) backup_node (numbers_from g.next.backup g.shape.f) (all_true (numbers_from g.next.backup g.shape.f))))
        (Each-map (Fit S) (λ to. says manager_node to (body.Start (record { part = o.part; epoch = o.epoch }))) o.witnesses (Each-map (λ to. to.kind ≡ kind.Witness) witness_node (numbers_from g.next.witness g.shape.f) (all_witnesses (numbers_from g.next.witness g.shape.f)))))
        ((refl, refl), tt)
      where
        all_true : (ns : List ℕ) → Each (λ (n : ℕ). ((backup_node n).kind ≡ kind.Backup) × (o.epoch ≡ o.epoch)) ns
        all_true [] = tt
        all_true (n ∷ ns) = ((refl, refl), all_true ns)

        all_witnesses : (ns : List ℕ) → Each (λ (n : ℕ). (witness_node n).kind ≡ kind.Witness) ns
        all_witnesses [] = tt
        all_witnesses (n ∷ ns) = (refl, all_witnesses ns)

    -- where an order to recover stands among them
    abbrev NotOrder : Body → Type 0
    NotOrder (body.Recover k) = ⊥
    NotOrder _ = ⊤

    no_order : Each (λ (y : Message). NotOrder y.body) (install_on o.epoch o.backups ++ start_on o.part o.epoch o.witnesses)
    no_order = Each-append (λ (y : Message). NotOrder y.body) (install_on o.epoch o.backups) (start_on o.part o.epoch o.witnesses)
        (Each-map (λ (y : Message). NotOrder y.body) (λ to. says manager_node to (body.Install o.epoch)) o.backups (trivial o.backups))
        (Each-map (λ (y : Message). NotOrder y.body) (λ to. says manager_node to (body.Start (record { part = o.part; epoch = o.epoch }))) o.witnesses (trivial o.witnesses))
      where
        trivial : (xs : List NodeId) → Each (λ (n : NodeId). ⊤) xs
        trivial [] = tt
        trivial (x ∷ xs) = (tt, trivial xs)

    order_last : (j : ℕ) (a b : NodeId) (k : Recover) → At out j (says a b (body.Recover k)) → length o.backups ≤ j
    order_last j a b k at = elim (at_append_cases (install_on o.epoch o.backups ++ start_on o.part o.epoch o.witnesses) (says manager_node (master_node q) (body.Recover o) ∷ []) j _ at) [
      | inl early ↦ absurd (Each-at (λ (y : Message). NotOrder y.body) (install_on o.epoch o.backups ++ start_on o.part o.epoch o.witnesses) no_order j _ early)
      | inr late ↦ omega (arith, late.1, length-append (install_on o.epoch o.backups) (start_on o.part o.epoch o.witnesses), length-map o.backups (λ to. says manager_node to (body.Install o.epoch)))
    ]

    backups_after : v.backups ≡ w.backups ++ replicate ((g.next.backup + g.shape.f - 1) - length w.backups) fresh_backup
    backups_after = did.backups ∙ ap (λ (k : Moved World). k.state.backups) moved

    masters_after : v.masters ≡ w.masters ++ replicate ((g.next.master + 1 - 1) - length w.masters) Fresh
    masters_after = did.masters ∙ ap (λ (k : Moved World). k.state.masters) moved

    manager_after : v.manager ≡ (recovers g 1 o).state
    manager_after = did.manager ∙ ap (λ (k : Moved World). k.state.manager) moved

    -- a fresh backup will be installed before the order comes
    will : (k : NodeId) → IsAmong k o.backups → WillInstall v (length (messages w)) o k
    will k among =
        let n = numbers_back g.next.backup g.shape.f among.place k.number (number_at (numbers_from g.next.backup g.shape.f) among.place among.stands) in
        record {
          b = fresh_backup;
          is = subst (λ (l : List BackupState). numbered l k.number ≡ Some fresh_backup) (sym backups_after)
              (grown_at w.backups fresh_backup k.number ((g.next.backup + g.shape.f - 1) - length w.backups) (omega (arith, n.0, can.stores)) (omega (arith, n.0, n.1, can.stores)));
          bare = refl;
          fence = omega arith;
          place = length (messages w) + among.place;
          due = omega arith;
          from = manager_node;
          sent = subst (λ (l : List Message). At l (length (messages w) + among.place) (says manager_node k (body.Install o.epoch))) (sym said)
              (at_append_right (messages w) out among.place _ _ refl (at_append (install_on o.epoch o.backups ++ start_on o.part o.epoch o.witnesses) _ among.place _ (at_append (install_on o.epoch o.backups) _ among.place _ (at_map (λ to. says manager_node to (body.Install o.epoch)) o.backups among.place k among.stands))));
          first = λ i a b z low at. elim (at_append_cases (messages w) out i _ (subst (λ (l : List Message). At l i (says a b (body.Recover z))) said at)) [
            | inl old ↦ absurd (omega (arith, low, at_within (messages w) i _ old))
            | inr new ↦ omega (arith, new.1, order_last new.0 a b z new.2, at_within o.backups among.place k among.stands)
          ];
        }
      where
        number_at : (ns : List ℕ) (j : ℕ) → At (map backup_node ns) j k → At ns j k.number
        number_at [] j at = absurd cc
        number_at (n ∷ ns) zero at = let e : backup_node n ≡ k = cc in ap (λ (z : NodeId). Some z.number) e
        number_at (n ∷ ns) (suc j) at = number_at ns j at

    order_at : At out (length (install_on o.epoch o.backups ++ start_on o.part o.epoch o.witnesses)) (says manager_node (master_node q) (body.Recover o))
    order_at =
        let prefix : List Message = install_on o.epoch o.backups ++ start_on o.part o.epoch o.witnesses in
        let e : length prefix ≡ length prefix + 0 = omega arith in
        at_append_right prefix (says manager_node (master_node q) (body.Recover o) ∷ []) 0 (length prefix) (says manager_node (master_node q) (body.Recover o)) e refl

    -- a recovery has begun
    pub begins_renewal : Renewing v (length (messages w)) c q o cl
    begins_renewal = record {
      client = did.clients ∙ ap (λ (k : Moved World). k.state.clients) moved ∙ client;
      fits = λ y due. elim (at_append_cases (messages w) out due.0 y (subst (λ (l : List Message). At l due.0 y) said due.2)) [
        | inl old ↦ absurd (omega (arith, due.1, at_within (messages w) due.0 y old))
        | inr new ↦ Each-at (Fit (IsSteady v)) out (out_fits (IsSteady v)) new.0 y new.2
      ];
      renewal = Ordered
          (subst (λ (l : List MasterStage). numbered l q ≡ Some Fresh) (sym masters_after) (grown_at w.masters Fresh q ((g.next.master + 1 - 1) - length w.masters) (omega (arith, can.masters)) (omega (arith, can.masters)))) (
            says manager_node (master_node q) (body.Recover o),
            (
              length (messages w) + length (install_on o.epoch o.backups ++ start_on o.part o.epoch o.witnesses),
              omega arith,
              subst (λ (l : List Message). At l (length (messages w) + length (install_on o.epoch o.backups ++ start_on o.part o.epoch o.witnesses)) (says manager_node (master_node q) (body.Recover o))) (sym said)
                  (at_append_right (messages w) out (length (install_on o.epoch o.backups ++ start_on o.part o.epoch o.witnesses)) _ (says manager_node (master_node q) (body.Recover o)) refl order_at),
            ),
            (refl, refl),
          )
          (λ k a. inr (will k a))
          (ap (λ (z : ManagerState). z.config.parts) manager_after ∙ can.entry)
          (ap (λ (z : ManagerState). z.doing) manager_after ∙ ap (λ (l : List Doing). set l 0 (manager.Recovering (master_node q) o)) can.does);
    }
