-- The opening world of a header.
use Rattle.std.proofs.Common.{◌≡◌, ◌≤◌, ◌<◌, inl, inr, ℕ, zero, suc, ◌+◌, ◌-◌, ◌*◌, refl, sym, ◌∙◌, ap, subst, arith, Some}
use Rattle.std.proofs.lemmas.Bool.{cases_lt, cases_eq}
use Rattle.std.proofs.lemmas.List.{length-map, length-replicate}
use Rattle.curp_base.specs.Words.{At, numbered, numbers_from}
use Rattle.curp_base.proofs.Lists.{at_map, at_replicate, at_mapped}
use Rattle.curp_cmd.specs.Node.{master_node}
use Rattle.curp_cmd.specs.declared.node.NodeId.{NodeId}
use Rattle.curp_cmd.specs.declared.node.NodeKind.TheVariants as kind
use Rattle.curp_msg.specs.declared.config.PartConfig.{PartConfig}
use Rattle.curp_msg.specs.declared.message.Message.{Message}
use Rattle.curp_msg.specs.declared.script.Header.{Header}
use Rattle.curp_model.specs.Backup.{BackupState, installed_backup}
use Rattle.curp_model.specs.Client.{ClientState}
use Rattle.curp_model.specs.Manager.{Doing, Shape, Steady, opening_config, opening_part}
use Rattle.curp_model.specs.Recovery.{MasterStage}
use Rattle.curp_model.specs.Witness.{WitnessState, started_witness}
use Rattle.curp_model.specs.World.{World, messages, opening, opening_master, shape_of, opening_client}
use Rattle.curp_facts.specs.Facts.{AtOpening, ByRecovery, ByReplacement, IsAdoptedNow, IsGiven, Lists, WasAdopted, lists_of_part}
use Rattle.curp_msg.specs.Script.{IsHeader}
use Rattle.curp_facts.specs.Names.{Agree, ConfigurationOk, DoingOk, GivenOk, IsOf, Names, NumbersOk, Top}
use Rattle.curp_facts.specs.Fits.{BackupFits, ClientFits, MasterFits, Nodes, WitnessFits}
use Rattle.curp_law_kept.proofs.NumberedLists.{each_among}
use Rattle.curp_law_kept.proofs.Named.{in_row, row_differs, row_each, row_length}
use Rattle.curp_base.proofs.Numbered.{place, numbers_back, length-numbers}

-- ---- products

less_times : (a b f : ℕ) → a ≤ b → a * f ≤ b * f
less_times zero b f h = omega arith
less_times (suc a) zero f h = absurd (omega arith)
less_times (suc a) (suc b) f h = let r : a * f ≤ b * f = less_times a b f (omega arith) in omega (arith, r)

-- rows of f numbers, the a-th and the b-th, have no number in common
apart_rows : (a b f i : ℕ) → i < (a * f + 1) + f → b * f + 1 ≤ i → a < b → ⊥
apart_rows a b f i high low h = let r : suc a * f ≤ b * f = less_times (suc a) b f (omega arith) in omega (arith, r, high, low)

-- the last row ends below the count of all
last_row : (a n f i : ℕ) → i < (a * f + 1) + f → a < n → i ≤ n * f
last_row a n f i high h = let r : suc a * f ≤ n * f = less_times (suc a) n f (omega arith) in omega (arith, r, high)

-- ---- the opening's lists

module _ (h : Header) (its : IsHeader h) where
  abbrev s : Shape
  s = shape_of h

  abbrev start : World
  start = opening h

  -- an entry of the opening, by its partition
  entry : (k : ℕ) (c : PartConfig) → At (opening_config s).parts k c → (c ≡ opening_part s (k + 1)) × (k < h.parts)
  entry k c at =
      let m = at_mapped (opening_part s) (numbers_from 1 h.parts) k c at in
      let r = numbers_back 1 h.parts k m.0 m.1 in
      let same : m.0 ≡ k + 1 = omega (arith, r.0) in
      (sym m.2 ∙ ap (opening_part s) same, r.1)

  -- nothing was sent
  no_message : (P : Type 0) (k : ℕ) (m : Message) → At (messages start) k m → P
  unfolding opening
  no_message P k m at = absurd cc

  -- lists that were given are those of the opening
  given_opening : (l : Lists) → IsGiven start l → (k : ℕ) × (k < h.parts) × (l ≡ lists_of_part (opening_part s (k + 1)))
  unfolding opening
  given_opening _ (AtOpening k c at) = let e = entry k c at in (k, e.1, ap lists_of_part e.0)
  given_opening _ (ByRecovery node o sent) = no_message _ sent.place _ sent.stands
  given_opening _ (ByReplacement old p before sent) = no_message _ sent.place _ sent.stands

  opening_ok : (k : ℕ) → k < h.parts → GivenOk start (lists_of_part (opening_part s (k + 1)))
  unfolding opening
  opening_ok k low = record {
    part = (omega arith, omega (arith, low));
    epoch = (omega arith, omega arith);
    version = (omega arith, omega arith);
    master = (refl, (omega arith, omega (arith, low, length-map (numbers_from 1 h.parts) (opening_master s), length-numbers 1 h.parts)));
    its_number = inl (refl, refl);
    backups = row_each kind.Backup (((k + 1) - 1) * h.f + 1) h.f (IsOf start kind.Backup) (λ i a b. (refl, (omega (arith, a), omega (arith, length-replicate (h.parts * h.f) (installed_backup 1), last_row ((k + 1) - 1) h.parts h.f i b (omega (arith, low))))));
    witnesses = row_each kind.Witness (((k + 1) - 1) * h.f + 1) h.f (IsOf start kind.Witness) (λ i a b. (refl, (omega (arith, a), omega (arith, length-replicate (h.parts * h.f) (started_witness h.sets h.ways 1), last_row ((k + 1) - 1) h.parts h.f i b (omega (arith, low))))));
    many_backups = row_length kind.Backup (((k + 1) - 1) * h.f + 1) h.f;
    many_witnesses = row_length kind.Witness (((k + 1) - 1) * h.f + 1) h.f;
    backups_differ = row_differs kind.Backup (((k + 1) - 1) * h.f + 1) h.f;
    witnesses_differ = row_differs kind.Witness (((k + 1) - 1) * h.f + 1) h.f;
  }

  -- a number in two rows is in one
  one_row : (a b i : ℕ) → (a * h.f + 1) ≤ i → i < (a * h.f + 1) + h.f → (b * h.f + 1) ≤ i → i < (b * h.f + 1) + h.f → a ≡ b
  one_row a b i la ha lb hb = elim (cases_eq a b) [
    | inl same ↦ same
    | inr ne ↦ elim (cases_lt a b) [
      | inl less ↦ absurd (apart_rows a b h.f i ha lb less)
      | inr more ↦ absurd (apart_rows b a h.f i hb la (omega arith))
    ]
  ]

  opening_agree : (j k : ℕ) → Agree (lists_of_part (opening_part s (j + 1))) (lists_of_part (opening_part s (k + 1)))
  opening_agree j k = record {
    by_master = λ e. let same : j + 1 ≡ k + 1 = ap (λ (x : NodeId). x.number) e in (same, refl);
    by_epoch = λ e f. ap master_node e;
    by_late_epoch = λ late e. absurd (omega arith);
    by_backup = λ x a b. let r = in_row kind.Backup (((j + 1) - 1) * h.f + 1) h.f x a in let t = in_row kind.Backup (((k + 1) - 1) * h.f + 1) h.f x b in
        let same : r.number ≡ t.number = ap (λ (y : NodeId). y.number) (sym r.is ∙ t.is) in
        let rows : (j + 1) - 1 ≡ (k + 1) - 1 = one_row ((j + 1) - 1) ((k + 1) - 1) r.number r.from r.below (omega (arith, same, t.from)) (omega (arith, same, t.below)) in
        ap master_node (omega (arith, rows));
    by_witness = λ x a b. let r = in_row kind.Witness (((j + 1) - 1) * h.f + 1) h.f x a in let t = in_row kind.Witness (((k + 1) - 1) * h.f + 1) h.f x b in
        let same : r.number ≡ t.number = ap (λ (y : NodeId). y.number) (sym r.is ∙ t.is) in
        let rows : (j + 1) - 1 ≡ (k + 1) - 1 = one_row ((j + 1) - 1) ((k + 1) - 1) r.number r.from r.below (omega (arith, same, t.from)) (omega (arith, same, t.below)) in
        ap master_node (omega (arith, rows));
    by_version = λ e f. let same : j + 1 ≡ k + 1 = ap (λ (x : NodeId). x.number) e in ap (λ (p : ℕ). lists_of_part (opening_part s p)) same;
    by_late_version = λ late e. absurd (omega arith);
  }

  now_opening : (c : PartConfig) → IsAdoptedNow start c → (k : ℕ) × (k < h.parts) × (c ≡ opening_part s (k + 1)) × At (opening_config s).parts k c
  unfolding opening
  now_opening c now = let p = place (opening_config s).parts c.part c now in let e = entry p.0 c p.2 in (p.0, e.1, e.0, p.2)

  adopted_opening : (k : ℕ) (c : PartConfig) → At (opening_config s).parts k c → WasAdopted start (lists_of_part c)
  unfolding opening
  adopted_opening k c at = record { given = AtOpening k c at; told = inl (ap (λ (x : PartConfig). x.version) (entry k c at).0) }

  same_part : (l : Lists) (c : PartConfig) → IsGiven start l → IsAdoptedNow start c → l.part ≡ c.part → l ≡ lists_of_part c
  same_part l c given now same =
      let g = given_opening l given in
      let e = now_opening c now in
      let parts : g.0 + 1 ≡ e.0 + 1 = sym (ap (λ (x : Lists). x.part) g.2) ∙ same ∙ ap (λ (x : PartConfig). x.part) e.2 in
      g.2 ∙ ap (λ (p : ℕ). lists_of_part (opening_part s p)) parts ∙ sym (ap lists_of_part e.2)

  opening_top : (c : PartConfig) → IsAdoptedNow start c → Top start (lists_of_part c)
  opening_top c now = record {
    was = adopted_opening (now_opening c now).0 c (now_opening c now).3;
    epochs = λ l was same. omega (arith, ap (λ (x : Lists). x.epoch) (same_part l c was.given now same));
    versions = λ l was same. omega (arith, ap (λ (x : Lists). x.version) (same_part l c was.given now same));
    last = λ l was same version. same_part l c was.given now same;
  }

  steady : (c : PartConfig) (d : Doing) → numbered start.manager.doing c.part ≡ Some d → DoingOk start (lists_of_part c) d
  unfolding opening
  steady c d at =
      let p = place start.manager.doing c.part d at in
      let m = at_mapped (λ (n : ℕ). Steady) (numbers_from 1 h.parts) p.0 d p.2 in
      subst (DoingOk start (lists_of_part c)) m.2 tt

  opening_numbers : NumbersOk start
  unfolding opening
  opening_numbers = record {
    clients = length-replicate h.clients _;
    masters = omega (arith, length-map (numbers_from 1 h.parts) (opening_master s), length-numbers 1 h.parts);
    backups = omega (arith, length-replicate (h.parts * h.f) (installed_backup 1));
    witnesses = omega (arith, length-replicate (h.parts * h.f) (started_witness h.sets h.ways 1));
    parts = length-map (numbers_from 1 h.parts) (opening_part s) ∙ length-numbers 1 h.parts;
    doing = length-map (numbers_from 1 h.parts) (λ (n : ℕ). Steady) ∙ length-numbers 1 h.parts;
    epoch = omega arith;
    above = omega arith;
    version = omega arith;
  }

  opening_entries : (k : ℕ) (c : PartConfig) → At start.manager.config.parts k c → c.part ≡ k + 1
  unfolding opening
  opening_entries k c at = ap (λ (x : PartConfig). x.part) (entry k c at).0

  pub opening_names : Names start
  unfolding opening
  opening_names = record {
    shape = record { f = its.f.0; parts = its.parts.0; clients = its.clients.0 };
    numbers = opening_numbers;
    entries = opening_entries;
    given = λ l given. let g = given_opening l given in subst (GivenOk start) (sym g.2) (opening_ok g.0 g.1);
    agree = λ l k gl gk. let a = given_opening l gl in let b = given_opening k gk in
        subst (λ (x : Lists). Agree x k) (sym a.2) (subst (Agree (lists_of_part (opening_part s (a.0 + 1)))) (sym b.2) (opening_agree a.0 b.0));
    manager_says = λ node b sent. no_message _ sent.place _ sent.stands;
    one_order = λ node o q sent too. no_message _ sent.place _ sent.stands;
    versions_apart = λ node other o p sent too. no_message _ sent.place _ sent.stands;
    top = opening_top;
    chain = λ l k al ak same versions. let a = given_opening l al.given in let b = given_opening k ak.given in
        omega (arith, ap (λ (x : Lists). x.epoch) a.2, ap (λ (x : Lists). x.epoch) b.2);
    next_after = λ l was late. absurd (omega (arith, late, ap (λ (x : Lists). x.version) (given_opening l was.given).2));
    adopted_for = λ l was. inl (ap (λ (x : Lists). x.version) (given_opening l was.given).2);
    doing = λ c d now at. steady c d at;
    gone = tt;
    moving = tt;
  }

  -- ---- nodes

  opening_configuration : ConfigurationOk start (opening_config s)
  unfolding opening
  opening_configuration = record {
    parts = length-map (numbers_from 1 h.parts) (opening_part s) ∙ length-numbers 1 h.parts;
    numbers = opening_entries;
    adopted = each_among (λ (c : PartConfig). WasAdopted start (lists_of_part c)) (opening_config s).parts (λ c a. adopted_opening a.place c a.stands);
  }

  client_at_opening : (n : ℕ) (c : ClientState) → numbered start.clients n ≡ Some c → ClientFits start n c
  unfolding opening
  client_at_opening n c at =
      let p = place start.clients n c at in
      let same = (at_replicate h.clients (opening_client h) p.0 c p.2).1 in
      subst (ClientFits start n) same (record { config = opening_configuration; pending = tt })

  opening_serves : (k n : ℕ) → At (numbers_from 1 h.parts) k n → MasterFits start n (opening_master s n)
  unfolding opening
  opening_serves k n at = record {
    given = AtOpening k (opening_part s n) (at_map (opening_part s) (numbers_from 1 h.parts) k n at);
    next = tt;
    its_lo = refl;
    its_hi = refl;
    entries = tt;
    reads = tt;
  }

  opening_master_fits : (n : ℕ) (m : MasterStage) → numbered start.masters n ≡ Some m → MasterFits start n m
  unfolding opening
  opening_master_fits n m at =
      let p = place start.masters n m at in
      let x = at_mapped (opening_master s) (numbers_from 1 h.parts) p.0 m p.2 in
      let same : x.0 ≡ n = omega (arith, (numbers_back 1 h.parts p.0 x.0 x.1).0, p.1) in
      subst (λ (i : ℕ). MasterFits start i m) same (subst (MasterFits start x.0) x.2 (opening_serves p.0 x.0 x.1))

  opening_backup : (n : ℕ) (b : BackupState) → numbered start.backups n ≡ Some b → BackupFits start b
  unfolding opening
  opening_backup n b at = let p = place start.backups n b at in subst (BackupFits start) (at_replicate (h.parts * h.f) (installed_backup 1) p.0 b p.2).1 tt

  opening_witness : (n : ℕ) (x : WitnessState) → numbered start.witnesses n ≡ Some x → WitnessFits start x
  unfolding opening
  opening_witness n x at = let p = place start.witnesses n x at in subst (WitnessFits start) (at_replicate (h.parts * h.f) (started_witness h.sets h.ways 1) p.0 x p.2).1 tt

  pub opening_nodes : Nodes start
  unfolding opening
  opening_nodes = record { said = tt; clients = client_at_opening; masters = opening_master_fits; backups = opening_backup; witnesses = opening_witness }
