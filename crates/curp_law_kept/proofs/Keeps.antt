-- A move keeps the facts of shape and names; what is left to each kind of move are its numbers, entries and what is being done.
use Rattle.std.proofs.Common.{◌≡◌, ◌⊎◌, ◌≤◌, ◌<◌, inl, inr, ℕ, ◌+◌, refl, sym, ◌∙◌, ap, subst, arith, Some}
use Rattle.curp_base.specs.Words.{At, Each, numbered}
use Rattle.curp_msg.specs.declared.config.PartConfig.{PartConfig}
use Rattle.curp_model.specs.Manager.{Doing}
use Rattle.curp_model.specs.World.{World}
use Rattle.curp_facts.specs.Facts.{IsAdoptedNow, IsAmong, IsGiven, Lists, WasAdopted, lists_of_part}
use Rattle.curp_facts.specs.Names.{DoingOk, IsClientNumber, IsToldOf, MovingOk, NextAfter, RecoveredFrom, Names, NumbersOk, ShapeOk, Top}
use Rattle.curp_law_kept.proofs.Later.{adopted_later, link_later, told_later}
use Rattle.curp_law_kept.proofs.Moves.{Adoption, Fresh, FreshOk, IsNewlyAdopted, Move, adopted_back, agree_kept, given_kept, one_order_kept, says_kept, versions_kept}
use Rattle.curp_base.proofs.Numbered.{place, at_place}

-- what a move has to show besides
pub record Holds (v : World) : Type 0 where
  pub numbers : NumbersOk v
  pub entries : (k : ℕ) (c : PartConfig) → At v.manager.config.parts k c → c.part ≡ k + 1
  pub top : (c : PartConfig) → IsAdoptedNow v c → Top v (lists_of_part c)
  pub chain : (l k : Lists) → WasAdopted v l → WasAdopted v k → l.part ≡ k.part → l.version ≤ k.version → l.epoch ≤ k.epoch
  pub next_after : (l : Lists) → WasAdopted v l → 1 < l.version → NextAfter v l
  pub adopted_for : (l : Lists) → WasAdopted v l → IsToldOf v l
  pub doing : (c : PartConfig) (d : Doing) → IsAdoptedNow v c → numbered v.manager.doing c.part ≡ Some d → DoingOk v (lists_of_part c) d
  pub gone : Each (IsClientNumber v) v.manager.gone
  pub moving : MovingOk v v.manager.moving

module _ {w v : World} (n : Names w) (f : Fresh) (m : Move w v f) (fresh : FreshOk w v f) where
  -- a move keeps all
  pub names_moved : Holds v → Names v
  names_moved h = record {
    shape = subst ShapeOk (sym m.later.shape) n.shape;
    numbers = h.numbers;
    entries = h.entries;
    given = given_kept n f m fresh;
    agree = agree_kept n f m fresh;
    manager_says = says_kept n f m fresh;
    one_order = one_order_kept n f m fresh;
    versions_apart = versions_kept n f m fresh;
    top = h.top;
    chain = h.chain;
    next_after = h.next_after;
    adopted_for = h.adopted_for;
    doing = h.doing;
    gone = h.gone;
    moving = h.moving;
  }

  was_adopted : (l now : Lists) → ((k : Lists) → IsNewlyAdopted f k → k.part ≡ now.part → ⊥) → WasAdopted v l → l.part ≡ now.part → WasAdopted w l
  was_adopted l now other was same = elim (adopted_back n f m fresh l was) [ inl before ↦ before | inr new ↦ absurd (other l new same) ]

  -- where nothing of a partition is newly adopted, its lists stay on top
  pub top_stays : (now : Lists) → Top w now → ((k : Lists) → IsNewlyAdopted f k → k.part ≡ now.part → ⊥) → Top v now
  top_stays now t other = record {
    was = adopted_later m.later now t.was;
    epochs = λ l was same. t.epochs l (was_adopted l now other was same) same;
    versions = λ l was same. t.versions l (was_adopted l now other was same) same;
    last = λ l was same version. t.last l (was_adopted l now other was same) same version;
  }

  -- where nothing is newly adopted, the chains stay
  pub chain_stays : ((k : Lists) → IsNewlyAdopted f k → ⊥) → (l k : Lists) → WasAdopted v l → WasAdopted v k → l.part ≡ k.part → l.version ≤ k.version → l.epoch ≤ k.epoch
  chain_stays none l k al ak = n.chain l k (was_adopted l l (λ x new same. none x new) al refl) (was_adopted k k (λ x new same. none x new) ak refl)

  pub links_stay : ((k : Lists) → IsNewlyAdopted f k → ⊥) → (l : Lists) → WasAdopted v l → 1 < l.version → NextAfter v l
  links_stay none l was late = link_later m.later l (λ k adopted part version. was_adopted k k (λ x new same. none x new) adopted refl)
      (n.next_after l (was_adopted l l (λ x new same. none x new) was refl) late)

  pub told_stays : ((k : Lists) → IsNewlyAdopted f k → ⊥) → (l : Lists) → WasAdopted v l → IsToldOf v l
  told_stays none l was = told_later m.later l (n.adopted_for l (was_adopted l l (λ x new same. none x new) was refl))

-- what is newly adopted is on top, where its numbers are above
module _ {w v : World} (n : Names w) (l : Lists) (m : Move w v (Adoption l)) (given : IsGiven w l) where
  pub top_adopted : (now : Lists) → WasAdopted v l → Top w now → now.part ≡ l.part → now.epoch ≤ l.epoch → now.version < l.version → Top v l
  top_adopted now was t part epoch version = record {
    was = was;
    epochs = λ k adopted same. elim (adopted_back n (Adoption l) m given k adopted) [
      | inl before ↦ omega (arith, t.epochs k before (same ∙ sym part), epoch)
      | inr is ↦ omega (arith, ap (λ (x : Lists). x.epoch) is)
    ];
    versions = λ k adopted same. elim (adopted_back n (Adoption l) m given k adopted) [
      | inl before ↦ omega (arith, t.versions k before (same ∙ sym part), version)
      | inr is ↦ omega (arith, ap (λ (x : Lists). x.version) is)
    ];
    last = λ k adopted same equal. elim (adopted_back n (Adoption l) m given k adopted) [
      | inl before ↦ absurd (omega (arith, t.versions k before (same ∙ sym part), version, equal))
      | inr is ↦ is
    ];
  }

-- ---- entries

module _ {w : World} (n : Names w) where
  -- an entry is that of its own number
  pub entry_now : (c : PartConfig) → IsAmong c w.manager.config.parts → IsAdoptedNow w c
  entry_now c a = at_place w.manager.config.parts a.place c.part c (n.entries a.place c a.stands) a.stands

  -- the entry of a number has that number
  pub entry_numbered : (p : ℕ) (c : PartConfig) → numbered w.manager.config.parts p ≡ Some c → c.part ≡ p
  entry_numbered p c here = let at = place w.manager.config.parts p c here in n.entries at.0 c at.2 ∙ sym at.1

  pub numbered_now : (p : ℕ) (c : PartConfig) → numbered w.manager.config.parts p ≡ Some c → IsAdoptedNow w c
  numbered_now p c here = subst (λ (i : ℕ). numbered w.manager.config.parts i ≡ Some c) (sym (entry_numbered p c here)) here

-- what is newly adopted comes behind its partition's chain, and was told of
module _ {w v : World} (n : Names w) (l : Lists) (m : Move w v (Adoption l)) (given : IsGiven w l) where
  pub links_adopted : (now : Lists) → Top w now → now.part ≡ l.part → now.version < l.version → (now.master ≡ l.master) ⊎ RecoveredFrom w now l
      → (k : Lists) → WasAdopted v k → 1 < k.version → NextAfter v k
  links_adopted now t part version how k was late = elim (adopted_back n (Adoption l) m given k was) [
    | inl before ↦ link_later m.later k (λ x adopted same less. elim (adopted_back n (Adoption l) m given x adopted) [
      | inl old ↦ old
      | inr new ↦ absurd (omega (arith, less, version, ap (λ (z : Lists). z.version) new, t.versions k before (sym same ∙ ap (λ (z : Lists). z.part) new ∙ sym part)))
    ]) (n.next_after k before late)
    | inr is ↦ subst (NextAfter v) (sym is) (link_later m.later l (λ x adopted same less. elim (adopted_back n (Adoption l) m given x adopted) [
      | inl old ↦ old
      | inr new ↦ absurd (omega (arith, less, ap (λ (z : Lists). z.version) new))
    ]) (record { before = now; was = t.was; its_part = part; older = version; last = λ x old same less. t.versions x old (same ∙ sym part); how = how }))
  ]

  pub told_adopted : IsToldOf w l → (k : Lists) → WasAdopted v k → IsToldOf v k
  told_adopted why k was = elim (adopted_back n (Adoption l) m given k was) [
    | inl before ↦ told_later m.later k (n.adopted_for k before)
    | inr is ↦ subst (IsToldOf v) (sym is) (told_later m.later l why)
  ]

  pub chain_adopted : (now : Lists) → Top w now → now.part ≡ l.part → now.epoch ≤ l.epoch → now.version < l.version
      → (x y : Lists) → WasAdopted v x → WasAdopted v y → x.part ≡ y.part → x.version ≤ y.version → x.epoch ≤ y.epoch
  chain_adopted now t part epoch version x y ax ay same versions = elim (adopted_back n (Adoption l) m given x ax) [
    | inl oldx ↦ elim (adopted_back n (Adoption l) m given y ay) [
      | inl oldy ↦ n.chain x y oldx oldy same versions
      | inr newy ↦ omega (arith, t.epochs x oldx (same ∙ ap (λ (z : Lists). z.part) newy ∙ sym part), epoch, ap (λ (z : Lists). z.epoch) newy)
    ]
    | inr newx ↦ elim (adopted_back n (Adoption l) m given y ay) [
      | inl oldy ↦ absurd (omega (arith, t.versions y oldy (sym same ∙ ap (λ (z : Lists). z.part) newx ∙ sym part), version, versions, ap (λ (z : Lists). z.version) newx))
      | inr newy ↦ omega (arith, ap (λ (z : Lists). z.epoch) newx, ap (λ (z : Lists). z.epoch) newy)
    ]
  ]
