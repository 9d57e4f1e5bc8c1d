-- Each entry that an adopted master pushes is a push that the machine can make.
use Rattle.std.proofs.Common.{◌≡◌, inl, inr, ℕ, zero, suc, ◌+◌, ◌<◌, ◌≤◌, ◌==◌, ◌||◌, Bool, true, false, List, [], ◌∷◌, ◌++◌, map, flat_map, length, take, drop, refl, ap, ap₂, sym, ◌∙◌, subst, subst₂, arith, Some, None}
use Rattle.std.specs.List.{list_any}
use Rattle.std.proofs.lemmas.Bool.{and_parts, false_from_ne_true}
use Rattle.std.proofs.lemmas.Bool.Decides.{nat_tests}
use Rattle.curp_base.specs.Words.{At, IsPrefix, numbered}
use Rattle.curp_base.proofs.Lists.{Each-at, at_append, at_append_right, at_within, prefix_length}
use Rattle.curp_range.specs.Spans.{is_covered, is_in}
use Rattle.curp_cmd.specs.Hash.{hash_of, touches}
use Rattle.curp_cmd.specs.Node.{manager_node}
use Rattle.curp_cmd.specs.Store.{keys_of}
use Rattle.curp_cmd.specs.declared.command.Command.{Command}
use Rattle.curp_cmd.specs.declared.command.Request.{Request}
use Rattle.curp_cmd.specs.declared.entry.Entry.{Entry}
use Rattle.curp_cmd.specs.declared.entry.Entry.TheVariants.{Op, Take, Give}
use Rattle.curp_cmd.specs.declared.migration.Package.{Package}
use Rattle.curp_cmd.specs.declared.node.NodeId.{NodeId}
use Rattle.curp_msg.specs.Moved.{says}
use Rattle.curp_msg.specs.declared.body.Body.TheVariants as body
use Rattle.curp_msg.specs.declared.body.Parcel.{Parcel}
use Rattle.curp_msg.specs.declared.config.PartConfig.{PartConfig}
use Rattle.curp_msg.specs.declared.message.Message.{Message}
use Rattle.curp_model.specs.Log.{IsLog, LogState, fits_at, is_new, meaning, package_eq, package_of}
use Rattle.curp_model.specs.Manager.{Migration}
use Rattle.curp_model.specs.Marks.{Mark}
use Rattle.curp_model.specs.Table.{check}
use Rattle.curp_model.specs.World.{World, messages}
use Rattle.curp_model.proofs.Logs.{new_by_test}
use Rattle.curp_facts.specs.Entries.{EntryOk, LogOk}
use Rattle.curp_facts.specs.Facts.{IsAmong, WasSent, WasTaken, hi_of, lo_of}
use Rattle.curp_facts.specs.Kept.{AdoptedLog}
use Rattle.curp_cmd.specs.Store.{NamesKey}
use Rattle.curp_facts.specs.Known.{Known}
use Rattle.curp_law_kept.proofs.Gives.{said, log_back, package_same, package_self, take_package, owns_touched}
use Rattle.curp_law_linear.specs.Hashes.{Part, is_give, is_take}
use Rattle.curp_law_linear.specs.Line.{Ungiven}
use Rattle.curp_law_linear.specs.Moves.{IsOnItsWay, PushExpire, PushExpireFits, PushGive, PushGiveFits, PushOp, PushOpFits, PushTake, PushTakeFits, taken_by}
use Rattle.curp_law_linear.specs.OfWorld.{line_of, moving_of, part_of, told_by}
use Rattle.curp_law_linear.proofs.Lists.{take_split}
use Rattle.curp_law_linear.specs.Ordered.{Ordered, moved_number}
use Rattle.curp_law_linear.proofs.MastersLog.{here_at, line_at, part_at, part_cases, part_other}
use Rattle.curp_law_linear.proofs.MastersRise.{Brought, adopted_ok, brought, new_rise, new_take, standing, take_of_work, ungiven, untaken}
use Rattle.curp_law_linear.proofs.Parts.{entry_part, part_log}
use Rattle.curp_law_linear.proofs.TakenRanges.{covered_before, quiet_behind}
use Rattle.curp_facts.specs.Predecessors.{Predecessors}
use Rattle.curp_facts.specs.Migrated.{Migrated, TakeStored}
use Rattle.curp_facts.specs.Routes.{Routes}
use Rattle.curp_law_linear.proofs.Found.{found_give, found_take}

-- a command that names a key touches its hash
pub names_hash : (c : Command) → NamesKey c → (h : ℕ) × (touches c h ≡ true)
names_hash c names = go (keys_of c) names.some
  where
    go : (keys : List (List ℕ)) → 1 ≤ length keys → (h : ℕ) × (list_any (λ (x : ℕ). x == h) (map hash_of keys) ≡ true)
    go [] low = absurd (omega (arith, low))
    go (k ∷ ks) low = (hash_of k, first (hash_of k) (list_any (λ (x : ℕ). x == hash_of k) (map hash_of ks)))
      where
        first : (n : ℕ) (b : Bool) → ((n == n) || b) ≡ true
        first n b = let e : (n == n) ≡ true = grind (arith, nat_tests) in ap (λ (x : Bool). x || b) e

among_flat : {A B : Type 0} (f : A → List B) (xs : List A) (k : ℕ) (x : A) (y : B) → At xs k x → IsAmong y (f x) → IsAmong y (flat_map f xs)
among_flat f [] k x y at a = absurd cc
among_flat f (z ∷ xs) zero x y at a =
    let same : z ≡ x = cc in
    record { place = a.place; stands = at_append (f z) (flat_map f xs) a.place y (subst (λ (v : _). At (f v) a.place y) (sym same) a.stands) }
among_flat f (z ∷ xs) (suc k) x y at a =
    let r = among_flat f xs k x y at a in
    record { place = length (f z) + r.place; stands = at_append_right (f z) (flat_map f xs) r.place (length (f z) + r.place) y refl r.stands }

-- a migration of which a package was told is among the told
pub told_among : {w : World} (from to : NodeId) (t : Parcel) → WasSent w (says from to (body.Taken t)) → IsAmong t.migration (line_of w).told
told_among {w} from to t sent = among_flat (λ (m : Message). told_by m.body) (messages w) sent.place (says from to (body.Taken t)) t.migration sent.stands (record { place = 0; stands = refl })

-- one package of a state, whatever shows its range to be one
same_package : (s : LogState) (a b lo hi : ℕ) (o : a ≤ b) (p : lo ≤ hi) → a ≡ lo → b ≡ hi → package_of s lo hi p ≡ package_of s a b o
same_package s a b lo hi o p x y = package_same _ _ (subst₂ (λ (l h : ℕ). (q : l ≤ h) → package_eq (package_of s l h q) (package_of s a b o) ≡ true) x y (λ q. package_self (package_of s a b o)) p)

module _ {w : World} (known : Known w) (chain : Predecessors w) (routes : Routes w) (migrated : Migrated w) (ordered : Ordered w)
    (c : PartConfig) (l : AdoptedLog w c) (new : List Entry) (prefix : IsPrefix l.its.log new) (ok : LogOk w c.part new)
    (log : List Entry) (marks : List Mark) (rest : List Entry) (more : IsPrefix l.its.log log) where
  -- the next entry
  abbrev pub Next : Entry → Type 0
  Next e = log ++ e ∷ rest ≡ new

  high : length l.its.log ≤ length log
  high = prefix_length more

  place : (e : Entry) → Next e → At new (length log) e
  place e is = subst (λ (es : List Entry). At es (length log) e) is (at_append_right log (e ∷ rest) 0 (length log) e (omega arith) refl)

  -- what stands before it
  before : (e : Entry) → Next e → (j : ℕ) (x : Entry) → At log j x → At new j x
  before e is j x at = subst (λ (es : List Entry). At es j x) is (at_append log (e ∷ rest) j x at)

  ok_here : (e : Entry) → Next e → EntryOk w c.part e
  ok_here e is = Each-at (EntryOk w c.part) new ok.entries (length log) e (place e is)

  fits : (e : Entry) → Next e → fits_at (meaning (lo_of w c.part) (hi_of w c.part) log) e ≡ true
  fits e is = (and_parts (fits_at (meaning (lo_of w c.part) (hi_of w c.part) log) e) _
      (log_back (lo_of w c.part) (hi_of w c.part) log (e ∷ rest) (subst (IsLog (lo_of w c.part) (hi_of w c.part)) (sym is) ok.is_log))).0

  -- no entry before it has its number
  once : (number : ℕ) (e : Entry) → Next e → moved_number e ≡ Some number → (j : ℕ) (x : Entry) → At log j x → moved_number x ≡ Some number → ⊥
  once number e is moves j x at too =
      let rise : number < number = new_rise known chain routes migrated ordered c l new prefix ok j (length log) number number x e (at_within log j x at) (before e is j x at) (place e is) too moves in
      omega (arith, rise)

  -- ---- an op

  abbrev pub op_push : NodeId → ℕ → Request → ℕ → PushOp
  op_push node epoch r a = record { part = c.part; p = part_at known chain routes migrated ordered c l new prefix ok log; node = node; epoch = epoch; request = r; acknowledged = a }

  pub op_fits : (node : NodeId) (epoch : ℕ) (r : Request) (a : ℕ) → Next (Op r a) → PushOpFits (line_at known chain routes migrated ordered c l new prefix ok log marks) (op_push node epoch r a)
  op_fits node epoch r a is =
      let o = ok_here (Op r a) is in
      let f = and_parts (is_new (check (meaning (lo_of w c.part) (hi_of w c.part) log).table r.id)) _ (fits (Op r a) is) in
      let h = names_hash r.command (ordered.commands o.0.request.place r.id r.command o.0.request.invoked) in
      record {
        here = here_at known chain routes migrated ordered c l new prefix ok log marks;
        new = new_by_test _ f.0;
        owned = owns_touched (meaning (lo_of w c.part) (hi_of w c.part) log).owned r.command f.1;
        hash = h.0;
        has_hash = h.1;
        updates = o.0.updates;
        was_invoked = record { event = o.0.request.place; stands = o.0.request.invoked };
      }

  -- ---- an expiry

  abbrev pub expire_push : ℕ → PushExpire
  expire_push client = record { part = c.part; p = part_at known chain routes migrated ordered c l new prefix ok log; client = client }

  pub expire_fits : (client : ℕ) → PushExpireFits (line_at known chain routes migrated ordered c l new prefix ok log marks) (expire_push client)
  expire_fits client = record { here = here_at known chain routes migrated ordered c l new prefix ok log marks }

  -- ---- a take

  abbrev pub at_work : Migration → Migration
  at_work m = record m { moved = None }

  abbrev pub take_push : Migration → PushTake
  take_push m = record { part = c.part; p = part_at known chain routes migrated ordered c l new prefix ok log; m = at_work m; ordered = m.range.ordered }

  -- no log has a give of its number
  take_ungiven : (number : ℕ) (taken : Package) → Next (Take number taken) → Ungiven (line_at known chain routes migrated ordered c l new prefix ok log marks).parts number
  take_ungiven number taken is k q here = false_from_ne_true (list_any (is_give number) q.log) (λ given. go given)
    where
      at : At new (length log) (Take number taken)
      at = place (Take number taken) is

      go : list_any (is_give number) q.log ≡ true → ⊥
      go given =
          let g = found_give number q.log given in
          elim (part_cases known chain routes migrated ordered c l new prefix ok log marks k q here) [
            | inl other ↦
                let s = standing known chain routes migrated ordered k q g.0 (Give number g.1) other.1 g.2 in
                untaken known chain routes migrated ordered c l new prefix ok (length log) number taken high at g.1 (migrated.given s.0 s.1 g.0 number g.1 s.3)
            | inr its ↦
                let there : At log g.0 (Give number g.1) = subst (λ (p : Part). At p.log g.0 (Give number g.1)) (sym its.1) g.2 in
                once number (Take number taken) is refl g.0 (Give number g.1) there refl
          ]

  take_first : (number : ℕ) (taken : Package) → Next (Take number taken) → list_any (is_take number) log ≡ false
  take_first number taken is = false_from_ne_true (list_any (is_take number) log) (λ found. go found)
    where
      go : list_any (is_take number) log ≡ true → ⊥
      go found =
          let t = found_take number log found in
          once number (Take number taken) is refl t.0 (Take number t.1) t.2 refl

  -- a take that the machine can push
  pub record TakeMoves (number : ℕ) (taken : Package) : Type 0 where
    pub m : Migration
    pub fit : PushTakeFits (line_at known chain routes migrated ordered c l new prefix ok log marks) (take_push m)
    pub same : Take m.number (taken_by (take_push m)) ≡ Take number taken

  pub take_moves : (number : ℕ) (taken : Package) → Next (Take number taken) → TakeMoves number taken
  take_moves number taken is =
      let x = new_take known chain routes migrated ordered c l new prefix ok (length log) number taken high (place (Take number taken) is) in
      let o = take_of_work known chain routes migrated ordered c.part number taken x.0 x.1 x.2 (ok_here (Take number taken) is) in
      let s : LogState = meaning (lo_of w c.part) (hi_of w c.part) log in
      let f = and_parts (is_covered s.owned taken.lo taken.hi) _ (fits (Take number taken) is) in
      record {
        m = x.0;
        fit = record {
          here = here_at known chain routes migrated ordered c l new prefix ok log marks;
          in_work = ap moving_of x.1;
          its_source = sym o.its_source;
          covered = subst₂ (λ (a b : ℕ). is_covered s.owned a b ≡ true) o.lo o.hi f.0;
          first = subst (λ (n : ℕ). list_any (is_take n) log ≡ false) (sym x.2) (take_first number taken is);
          ungiven = subst (Ungiven (line_at known chain routes migrated ordered c l new prefix ok log marks).parts) (sym x.2) (take_ungiven number taken is);
        };
        same = ap₂ (λ (n : ℕ) (p : Package). Take n p) x.2
            (same_package s taken.lo taken.hi x.0.range.lo x.0.range.hi taken.ordered x.0.range.ordered o.lo o.hi
            ∙ sym (package_same taken (package_of s taken.lo taken.hi taken.ordered) f.1));
      }

  -- ---- a give

  abbrev pub give_push : Migration → Package → PushGive
  give_push m given = record { part = c.part; p = part_at known chain routes migrated ordered c l new prefix ok log; m = at_work m; brought = given }

  -- a give that the machine can push
  pub record GiveMoves (number : ℕ) (given : Package) : Type 0 where
    pub m : Migration
    pub fit : PushGiveFits (line_at known chain routes migrated ordered c l new prefix ok log marks) (give_push m given)
    pub same : m.number ≡ number

  module _ (number : ℕ) (given : Package) (is : Next (Give number given)) (b : Brought known chain routes migrated ordered c l new prefix ok number given) where
    at : At new (length log) (Give number given)
    at = place (Give number given) is

    abbrev s : TakeStored w number given
    s = b.stored

    -- the log that it was taken from
    abbrev taken_from : List Entry
    taken_from = b.stored.its.its.log

    from_ok : LogOk w s.source.part taken_from
    from_ok = adopted_ok known chain routes migrated ordered s.source s.its

    give_ungiven : Ungiven (line_at known chain routes migrated ordered c l new prefix ok log marks).parts number
    give_ungiven k q here = false_from_ne_true (list_any (is_give number) q.log) (λ found. go found)
      where
        go : list_any (is_give number) q.log ≡ true → ⊥
        go found =
            let g = found_give number q.log found in
            elim (part_cases known chain routes migrated ordered c l new prefix ok log marks k q here) [
              | inl other ↦
                  let x = standing known chain routes migrated ordered k q g.0 (Give number g.1) other.1 g.2 in
                  ungiven known chain routes migrated ordered c l new prefix ok (length log) number given high at x.0 x.1 g.0 g.1 x.3
              | inr its ↦
                  let there : At log g.0 (Give number g.1) = subst (λ (p : Part). At p.log g.0 (Give number g.1)) (sym its.1) g.2 in
                  once number (Give number given) is refl g.0 (Give number g.1) there refl
            ]

    -- it has the last number of all
    last : number + 1 ≡ w.manager.next.migration
    last = ap (λ (n : ℕ). n + 1) (sym b.its_number) ∙ (routes.in_work b.m b.is).last

    way : IsOnItsWay (line_at known chain routes migrated ordered c l new prefix ok log marks).parts (at_work b.m) given
    way = record {
      source = part_of w s.source;
      its_source = part_other known chain routes migrated ordered c l new prefix ok log marks b.m.source (part_of w s.source)
          (λ same. (routes.in_work b.m b.is).apart (same ∙ b.its_target))
          (subst (λ (n : ℕ). numbered (line_of w).parts n ≡ Some (part_of w s.source)) b.of.its_source (entry_part known s.source s.its.now));
      before = take s.index taken_from;
      after = drop (suc s.index) taken_from;
      taken = part_log known s.source s.its ∙ take_split taken_from s.index (Take number given) s.stands
          ∙ ap (λ (n : ℕ). take s.index taken_from ++ Take n given ∷ drop (suc s.index) taken_from) (sym b.its_number);
      lo = b.of.lo;
      hi = b.of.hi;
      its_package = take_package (lo_of w s.source.part) (hi_of w s.source.part) taken_from s.index number given from_ok.is_log s.stands;
      covered = λ h inside. covered_before known chain routes migrated ordered s.source s.its s.index number given s.stands last h (within h inside);
      quiet = λ h inside. quiet_behind known chain routes migrated ordered s.source s.its s.index number given s.stands last h (within h inside);
      ungiven = subst (Ungiven (line_at known chain routes migrated ordered c l new prefix ok log marks).parts) (sym b.its_number) give_ungiven;
    }
      where
        within : (h : ℕ) → is_in b.m.range.lo b.m.range.hi h ≡ true → is_in given.lo given.hi h ≡ true
        within h inside = ap₂ (λ (x y : ℕ). is_in x y h) b.of.lo b.of.hi ∙ inside

    was_told : IsAmong number (line_of w).told
    was_told =
        let o = ok_here (Give number given) is in
        let g : Parcel = record { migration = number; «package» = given } in
        let taken : WasTaken w g = said known manager_node o.0.node (body.GiveIn g) o.0.sent in
        told_among taken.node manager_node g taken.told

    carried_moves : GiveMoves number given
    carried_moves = record {
      m = b.m;
      fit = record {
        here = here_at known chain routes migrated ordered c l new prefix ok log marks;
        in_work = ap moving_of b.is;
        its_target = sym b.its_target;
        other = (routes.in_work b.m b.is).apart;
        way = way;
        told = subst (λ (n : ℕ). IsAmong n (line_of w).told) (sym b.its_number) was_told;
      };
      same = b.its_number;
    }

  pub give_moves : (number : ℕ) (given : Package) → Next (Give number given) → GiveMoves number given
  give_moves number given is = carried_moves number given is (brought known chain routes migrated ordered c l new prefix ok (length log) number given high (place (Give number given) is))
