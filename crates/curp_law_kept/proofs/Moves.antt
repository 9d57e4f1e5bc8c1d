-- What one step of the manager adds to the names, and what of the facts it keeps whichever it is.
use Rattle.std.proofs.Common.{◌≡◌, ◌≢◌, ◌≤◌, ◌<◌, ◌⊎◌, inl, inr, refl, sym, ◌∙◌, ap, subst, arith}
use Rattle.std.specs.Prelude.{⊤}
use Rattle.curp_base.specs.Words.{At}
use Rattle.curp_cmd.specs.Node.{manager_node}
use Rattle.curp_cmd.specs.declared.node.NodeId.{NodeId}
use Rattle.curp_cmd.specs.declared.node.NodeKind.TheVariants as kind
use Rattle.curp_msg.specs.Moved.{says}
use Rattle.curp_msg.specs.declared.body.Adopted.{Adopted}
use Rattle.curp_msg.specs.declared.body.Body.{Body}
use Rattle.curp_msg.specs.declared.body.Body.TheVariants as body
use Rattle.curp_msg.specs.declared.body.Prepare.{Prepare}
use Rattle.curp_msg.specs.declared.body.Recover.{Recover}
use Rattle.curp_model.specs.Manager.{Shape, opening_config}
use Rattle.curp_model.specs.World.{World}
use Rattle.curp_facts.specs.Facts.{AtOpening, ByRecovery, ByReplacement, IsGiven, Lists, WasAdopted, WasSent, lists_of_order, lists_of_prepare}
use Rattle.curp_facts.specs.Names.{AdoptedOk, Agree, GivenOk, IsOf, ManagerSays, Names, PrepareOk}
use Rattle.curp_law_kept.proofs.Later.{Later, given_ok_later, says_later}

-- ---- agreement

pub agree_self : (l : Lists) → Agree l l
agree_self l = record {
  by_master = λ e. (refl, refl);
  by_epoch = λ e f. refl;
  by_late_epoch = λ e f. refl;
  by_backup = λ node a b. refl;
  by_witness = λ node a b. refl;
  by_version = λ e f. refl;
  by_late_version = λ e f. refl;
}

pub agree_flip : (l k : Lists) → Agree l k → Agree k l
agree_flip l k a = record {
  by_master = λ e. let r = a.by_master (sym e) in (sym r.0, sym r.1);
  by_epoch = λ e f. sym (a.by_epoch (sym e) (sym f));
  by_late_epoch = λ e f. sym (a.by_late_epoch (omega (arith, e, f)) (sym f));
  by_backup = λ node x y. sym (a.by_backup node y x);
  by_witness = λ node x y. sym (a.by_witness node y x);
  by_version = λ e f. sym (a.by_version (sym e) (sym f));
  by_late_version = λ e f. sym (a.by_late_version (omega (arith, e, f)) (sym f));
}

-- ---- what is new in a step

-- nothing, an order to recover to a fresh master, new lists to the master of old ones, or the adoption of lists
pub data Fresh : Type 0 where
  Nothing : Fresh
  Recovery : NodeId → Recover → Fresh
  Replacement : Lists → Prepare → Fresh
  Adoption : Lists → Fresh

-- the new order
abbrev pub IsNewOrder : Fresh → NodeId → Recover → Type 0
IsNewOrder (Recovery n o) node q = (node ≡ n) × (q ≡ o)
IsNewOrder _ node q = ⊥

-- the new lists as they are sent
abbrev pub IsNewPrepare : Fresh → NodeId → Prepare → Type 0
IsNewPrepare (Replacement l p) node q = (node ≡ l.master) × (q ≡ p)
IsNewPrepare _ node q = ⊥

-- the new word of adoption
abbrev pub IsNewAdopted : Fresh → NodeId → Adopted → Type 0
IsNewAdopted (Adoption l) node a = (node ≡ l.master) × (a.version ≡ l.version)
IsNewAdopted _ node a = ⊥

-- the new lists
abbrev pub IsNewLists : Fresh → Lists → Type 0
IsNewLists (Recovery n o) l = l ≡ lists_of_order n o
IsNewLists (Replacement k p) l = l ≡ lists_of_prepare k p
IsNewLists _ l = ⊥

-- the lists that are adopted now
abbrev pub IsNewlyAdopted : Fresh → Lists → Type 0
IsNewlyAdopted (Adoption k) l = l ≡ k
IsNewlyAdopted _ l = ⊥

-- the new lists have a new version, agree with all others and are as lists have to be
pub record FreshLists (w v : World) (l : Lists) : Type 0 where
  pub ok : GivenOk v l
  pub apart : (k : Lists) → IsGiven w k → Agree k l
  pub version : w.manager.next.version ≤ l.version

-- the order goes to a node that wasn't there
pub record FreshRecovery (w v : World) (node : NodeId) (o : Recover) : Type 0 where
  pub lists : FreshLists w v (lists_of_order node o)
  pub absent : IsOf w kind.Master node → ⊥

-- the new lists go to the master of lists that were given
pub record FreshReplacement (w v : World) (l : Lists) (p : Prepare) : Type 0 where
  pub lists : FreshLists w v (lists_of_prepare l p)
  pub was : IsGiven w l

-- what is asked of what is new
abbrev pub FreshOk : World → World → Fresh → Type 0
FreshOk w v Nothing = ⊤
FreshOk w v (Recovery node o) = FreshRecovery w v node o
FreshOk w v (Replacement l p) = FreshReplacement w v l p
FreshOk w v (Adoption l) = IsGiven w l

-- a message repeats an order, new lists or a word of adoption that was there, or has the new one
abbrev pub Repeats : World → Fresh → NodeId → Body → Type 0
Repeats w f node (body.Recover o) = WasSent w (says manager_node node (body.Recover o)) ⊎ IsNewOrder f node o
Repeats w f node (body.Prepare p) = WasSent w (says manager_node node (body.Prepare p)) ⊎ IsNewPrepare f node p
Repeats w f node (body.Adopted a) = AdoptedOk w node a ⊎ IsNewAdopted f node a
Repeats w f node _ = ⊤

-- what the manager says in a step
pub record Utters (w v : World) (f : Fresh) (node : NodeId) (b : Body) : Type 0 where
  pub repeats : Repeats w f node b
  pub is_so : ManagerSays v node b

-- a step of the world that brings what is new, and of the manager's messages what it utters
pub record Move (w v : World) (f : Fresh) : Type 0 where
  pub later : Later w v
  pub said : (node : NodeId) (b : Body) → WasSent v (says manager_node node b) → WasSent w (says manager_node node b) ⊎ Utters w v f node b

module _ {w v : World} (n : Names w) (f : Fresh) (m : Move w v f) (fresh : FreshOk w v f) where
  order_back : (node : NodeId) (o : Recover) → WasSent v (says manager_node node (body.Recover o)) → WasSent w (says manager_node node (body.Recover o)) ⊎ IsNewOrder f node o
  order_back node o sent = elim (m.said node (body.Recover o) sent) [ inl was ↦ inl was | inr u ↦ u.repeats ]

  prepare_back : (node : NodeId) (p : Prepare) → WasSent v (says manager_node node (body.Prepare p)) → WasSent w (says manager_node node (body.Prepare p)) ⊎ IsNewPrepare f node p
  prepare_back node p sent = elim (m.said node (body.Prepare p) sent) [ inl was ↦ inl was | inr u ↦ u.repeats ]

  adopted_told : (node : NodeId) (a : Adopted) → WasSent v (says manager_node node (body.Adopted a)) → AdoptedOk w node a ⊎ IsNewAdopted f node a
  adopted_told node a sent = elim (m.said node (body.Adopted a) sent) [ inl was ↦ inl (n.manager_says node (body.Adopted a) was) | inr u ↦ u.repeats ]

  -- ---- lists

  ordered_lists : (f : Fresh) (node : NodeId) (o : Recover) → IsNewOrder f node o → IsNewLists f (lists_of_order node o)
  ordered_lists (Recovery k q) node o is = cc (is.0, is.1)
  ordered_lists Nothing node o is = absurd is
  ordered_lists (Replacement l p) node o is = absurd is
  ordered_lists (Adoption l) node o is = absurd is

  -- new lists for old ones
  both_old : (f : Fresh) → FreshOk w v f → (old : Lists) (p : Prepare) → IsGiven w old → IsNewPrepare f old.master p → IsNewLists f (lists_of_prepare old p)
  both_old (Replacement l q) ok old p given is =
      let same = (n.agree old l given ok.was).by_master is.0 in
      cc (is.0, is.1, same.0, same.1)
  both_old Nothing ok old p given is = absurd is
  both_old (Recovery k q) ok old p given is = absurd is
  both_old (Adoption l) ok old p given is = absurd is

  -- old lists for new ones
  new_old : (f : Fresh) → FreshOk w v f → (old : Lists) (p : Prepare) → IsNewLists f old → WasSent w (says manager_node old.master (body.Prepare p)) → IsGiven w (lists_of_prepare old p)
  new_old (Recovery node o) ok old p is sent =
      let said : PrepareOk w old.master p = n.manager_says old.master (body.Prepare p) sent in
      let there : IsOf w kind.Master said.before.master = (n.given said.before said.was.given).master in
      absurd (ok.absent (subst (IsOf w kind.Master) (said.its_master ∙ ap (λ (l : Lists). l.master) is) there))
  new_old (Replacement l q) ok old p is sent =
      let master : old.master ≡ l.master = ap (λ (k : Lists). k.master) is in
      subst (λ (k : Lists). IsGiven w (lists_of_prepare k p)) (sym is) (ByReplacement l p ok.was (subst (λ (x : NodeId). WasSent w (says manager_node x (body.Prepare p))) master sent))
  new_old Nothing ok old p is sent = absurd is
  new_old (Adoption l) ok old p is sent = absurd is

  both_new : (f : Fresh) (old : Lists) (p : Prepare) → IsNewLists f old → IsNewPrepare f old.master p → IsNewLists f (lists_of_prepare old p)
  both_new (Replacement l q) old p is new = cc (is, new.1)
  both_new Nothing old p is new = absurd is
  both_new (Recovery k q) old p is new = absurd new
  both_new (Adoption l) old p is new = absurd is

  -- lists are those that were given, and the new ones
  pub given_back : (l : Lists) → IsGiven v l → IsGiven w l ⊎ IsNewLists f l
  given_back _ (AtOpening k c at) = inl (AtOpening k c (subst (λ (s : Shape). At (opening_config s).parts k c) m.later.shape at))
  given_back _ (ByRecovery node o sent) = elim (order_back node o sent) [ inl was ↦ inl (ByRecovery node o was) | inr new ↦ inr (ordered_lists f node o new) ]
  given_back _ (ByReplacement old p before sent) = elim (given_back old before) [
    | inl given ↦ elim (prepare_back old.master p sent) [
      | inl was ↦ inl (ByReplacement old p given was)
      | inr new ↦ inr (both_old f fresh old p given new)
    ]
    | inr is ↦ elim (prepare_back old.master p sent) [
      | inl was ↦ inl (new_old f fresh old p is was)
      | inr new ↦ inr (both_new f old p is new)
    ]
  ]

  new_ok : (f : Fresh) → FreshOk w v f → (l : Lists) → IsNewLists f l → GivenOk v l
  new_ok (Recovery k q) ok l is = subst (GivenOk v) (sym is) ok.lists.ok
  new_ok (Replacement k q) ok l is = subst (GivenOk v) (sym is) ok.lists.ok
  new_ok Nothing ok l is = absurd is
  new_ok (Adoption k) ok l is = absurd is

  new_apart : (f : Fresh) → FreshOk w v f → (l k : Lists) → IsNewLists f l → IsGiven w k → Agree k l
  new_apart (Recovery x q) ok l k is given = subst (Agree k) (sym is) (ok.lists.apart k given)
  new_apart (Replacement x q) ok l k is given = subst (Agree k) (sym is) (ok.lists.apart k given)
  new_apart Nothing ok l k is given = absurd is
  new_apart (Adoption x) ok l k is given = absurd is

  new_same : (f : Fresh) (l k : Lists) → IsNewLists f l → IsNewLists f k → l ≡ k
  new_same (Recovery x q) l k is too = is ∙ sym too
  new_same (Replacement x q) l k is too = is ∙ sym too
  new_same Nothing l k is too = absurd is
  new_same (Adoption x) l k is too = absurd is

  new_version : (f : Fresh) → FreshOk w v f → (l : Lists) → IsNewLists f l → w.manager.next.version ≤ l.version
  new_version (Recovery x q) ok l is = omega (arith, ok.lists.version, ap (λ (k : Lists). k.version) is)
  new_version (Replacement x q) ok l is = omega (arith, ok.lists.version, ap (λ (k : Lists). k.version) is)
  new_version Nothing ok l is = absurd is
  new_version (Adoption x) ok l is = absurd is

  pub given_kept : (l : Lists) → IsGiven v l → GivenOk v l
  given_kept l given = elim (given_back l given) [ inl was ↦ given_ok_later m.later l (n.given l was) | inr new ↦ new_ok f fresh l new ]

  pub agree_kept : (l k : Lists) → IsGiven v l → IsGiven v k → Agree l k
  agree_kept l k gl gk = elim (given_back l gl) [
    | inl was ↦ elim (given_back k gk) [
      | inl wask ↦ n.agree l k was wask
      | inr newk ↦ new_apart f fresh k l newk was
    ]
    | inr new ↦ elim (given_back k gk) [
      | inl wask ↦ agree_flip k l (new_apart f fresh l k new wask)
      | inr newk ↦ subst (Agree l) (new_same f l k new newk) (agree_self l)
    ]
  ]

  -- ---- adopted lists

  by_told : (f : Fresh) → FreshOk w v f → (l : Lists) → IsGiven w l → IsNewAdopted f l.master (record { part = l.part; epoch = l.epoch; version = l.version }) → IsNewlyAdopted f l
  by_told (Adoption k) ok l given new = (n.agree l k given ok).by_version new.0 new.1
  by_told Nothing ok l given new = absurd new
  by_told (Recovery x q) ok l given new = absurd new
  by_told (Replacement x q) ok l given new = absurd new

  not_new : (f : Fresh) → FreshOk w v f → (l : Lists) → IsNewLists f l → IsNewAdopted f l.master (record { part = l.part; epoch = l.epoch; version = l.version }) → ⊥
  not_new (Adoption k) ok l is new = is
  not_new Nothing ok l is new = is
  not_new (Recovery x q) ok l is new = new
  not_new (Replacement x q) ok l is new = new

  same_adopted : (l : Lists) → IsGiven w l → AdoptedOk w l.master (record { part = l.part; epoch = l.epoch; version = l.version }) → WasAdopted w l
  same_adopted l given ok =
      let same : l ≡ ok.lists = (n.agree l ok.lists given ok.was.given).by_version (sym ok.its_master) ok.its_version in
      subst (WasAdopted w) (sym same) ok.was

  -- what is adopted was adopted, or is so now
  pub adopted_back : (l : Lists) → WasAdopted v l → WasAdopted w l ⊎ IsNewlyAdopted f l
  adopted_back l was = elim (given_back l was.given) [
    | inl given ↦ elim was.told [
      | inl one ↦ inl (record { given = given; told = inl one })
      | inr sent ↦ elim (adopted_told l.master _ sent) [
        | inl ok ↦ inl (same_adopted l given ok)
        | inr new ↦ inr (by_told f fresh l given new)
      ]
    ]
    | inr is ↦ elim was.told [
      | inl one ↦ absurd (omega (arith, one, new_version f fresh l is, n.numbers.version))
      | inr sent ↦ elim (adopted_told l.master _ sent) [
        | inl ok ↦ absurd (omega (arith, ok.its_version, new_version f fresh l is, (n.given ok.lists ok.was.given).version.1))
        | inr new ↦ absurd (not_new f fresh l is new)
      ]
    ]
  ]

  -- ---- messages

  pub says_kept : (node : NodeId) (b : Body) → WasSent v (says manager_node node b) → ManagerSays v node b
  says_kept node b sent = elim (m.said node b sent) [ inl was ↦ says_later m.later node b (n.manager_says node b was) | inr u ↦ u.is_so ]

  old_order_new : (f : Fresh) → FreshOk w v f → (node : NodeId) (o q : Recover) → WasSent w (says manager_node node (body.Recover o)) → IsNewOrder f node q → ⊥
  old_order_new (Recovery k r) ok node o q was new = ok.absent (subst (IsOf w kind.Master) new.0 (n.given (lists_of_order node o) (ByRecovery node o was)).master)
  old_order_new Nothing ok node o q was new = new
  old_order_new (Replacement k r) ok node o q was new = new
  old_order_new (Adoption k) ok node o q was new = new

  new_orders : (f : Fresh) (node : NodeId) (o q : Recover) → IsNewOrder f node o → IsNewOrder f node q → o ≡ q
  new_orders (Recovery k r) node o q is too = is.1 ∙ sym too.1
  new_orders Nothing node o q is too = absurd is
  new_orders (Replacement k r) node o q is too = absurd is
  new_orders (Adoption k) node o q is too = absurd is

  pub one_order_kept : (node : NodeId) (o q : Recover) → WasSent v (says manager_node node (body.Recover o)) → WasSent v (says manager_node node (body.Recover q)) → o ≡ q
  one_order_kept node o q so sq = elim (order_back node o so) [
    | inl was ↦ elim (order_back node q sq) [
      | inl too ↦ n.one_order node o q was too
      | inr new ↦ absurd (old_order_new f fresh node o q was new)
    ]
    | inr new ↦ elim (order_back node q sq) [
      | inl was ↦ absurd (old_order_new f fresh node q o was new)
      | inr too ↦ new_orders f node o q new too
    ]
  ]

  -- versions of what was sent are below the next one
  sent_prepare : (node : NodeId) (p : Prepare) → WasSent w (says manager_node node (body.Prepare p)) → p.version < w.manager.next.version
  sent_prepare node p was =
      let said : PrepareOk w node p = n.manager_says node (body.Prepare p) was in
      let there : WasSent w (says manager_node said.before.master (body.Prepare p)) = subst (λ (x : NodeId). WasSent w (says manager_node x (body.Prepare p))) (sym said.its_master) was in
      (n.given (lists_of_prepare said.before p) (ByReplacement said.before p said.was.given there)).version.1

  new_order_version : (f : Fresh) → FreshOk w v f → (node : NodeId) (o : Recover) → IsNewOrder f node o → w.manager.next.version ≤ o.version
  new_order_version (Recovery k r) ok node o new = omega (arith, ok.lists.version, ap (λ (q : Recover). q.version) new.1)
  new_order_version Nothing ok node o new = absurd new
  new_order_version (Replacement k r) ok node o new = absurd new
  new_order_version (Adoption k) ok node o new = absurd new

  new_prepare_version : (f : Fresh) → FreshOk w v f → (node : NodeId) (p : Prepare) → IsNewPrepare f node p → w.manager.next.version ≤ p.version
  new_prepare_version (Replacement k r) ok node p new = omega (arith, ok.lists.version, ap (λ (q : Prepare). q.version) new.1)
  new_prepare_version Nothing ok node p new = absurd new
  new_prepare_version (Recovery k r) ok node p new = absurd new
  new_prepare_version (Adoption k) ok node p new = absurd new

  not_both : (f : Fresh) (node other : NodeId) (o : Recover) (p : Prepare) → IsNewOrder f node o → IsNewPrepare f other p → ⊥
  not_both (Recovery k r) node other o p is new = new
  not_both Nothing node other o p is new = is
  not_both (Replacement k r) node other o p is new = is
  not_both (Adoption k) node other o p is new = is

  pub versions_kept : (node other : NodeId) (o : Recover) (p : Prepare) → WasSent v (says manager_node node (body.Recover o)) → WasSent v (says manager_node other (body.Prepare p)) → o.version ≢ p.version
  versions_kept node other o p so sp e = elim (order_back node o so) [
    | inl was ↦ elim (prepare_back other p sp) [
      | inl too ↦ n.versions_apart node other o p was too e
      | inr new ↦ absurd (omega (arith, e, new_prepare_version f fresh other p new, (n.given (lists_of_order node o) (ByRecovery node o was)).version.1))
    ]
    | inr new ↦ elim (prepare_back other p sp) [
      | inl was ↦ absurd (omega (arith, e, new_order_version f fresh node o new, sent_prepare other p was))
      | inr too ↦ not_both f node other o p new too
    ]
  ]
