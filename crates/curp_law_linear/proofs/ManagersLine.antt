-- What an input to the manager leaves of the machine's state: the adopted logs, where each partition keeps its master, and what
-- was told.
use Rattle.std.proofs.Common.{◌≡◌, inl, inr, ℕ, zero, suc, ◌-◌, List, [], ◌∷◌, ◌++◌, append-nil, map, flat_map, length, replicate, slice_get, refl, ap, sym, ◌∙◌, subst, Option, Some, None}
use Rattle.curp_base.specs.Words.{Each, numbered}
use Rattle.curp_base.proofs.Lists.{at_append, at_append_cases, at_replicate, map_alike}
use Rattle.curp_cmd.specs.declared.node.NodeId.{NodeId}
use Rattle.curp_msg.specs.Moved.{says}
use Rattle.curp_msg.specs.declared.body.Body.{Body}
use Rattle.curp_msg.specs.declared.body.Body.TheVariants as body
use Rattle.curp_msg.specs.declared.config.PartConfig.{PartConfig}
use Rattle.curp_msg.specs.declared.message.Message.{Message}
use Rattle.curp_model.specs.Manager.{Shape}
use Rattle.curp_model.specs.Ranges.{opening_range}
use Rattle.curp_model.specs.Recovery.{Fresh, MasterStage}
use Rattle.curp_model.specs.World.{World, grown, messages}
use Rattle.curp_facts.specs.Facts.{IsAmong, WasSent}
use Rattle.curp_law_kept.specs.ManagerEffect.{Uttered}
use Rattle.curp_law_linear.specs.Hashes.{Part}
use Rattle.curp_law_linear.specs.OfWorld.{entries_at, line_of, told_by}
use Rattle.curp_law_linear.proofs.Same.{flat_append}
use Rattle.curp_facts.specs.Names.{ManagerSays, Names}

-- ---- logs

-- a partition and its master
abbrev pub seat : PartConfig → ℕ × NodeId
seat c = (c.part, c.master)

-- the log that a number has among nodes to which fresh ones came
pub entries_grown : (ms : List MasterStage) (next n : ℕ) → entries_at (numbered (grown ms Fresh next) n) ≡ entries_at (numbered ms n)
entries_grown ms next zero = refl
entries_grown ms next (suc k) = go (slice_get ms k) (slice_get (grown ms Fresh next) k) refl refl
  where
    one : {a b : MasterStage} → Some a ≡ Some b → a ≡ b
    one e = cc

    none : {m : MasterStage} → None ≡ Some m → ⊥
    none e = cc

    fresh : List MasterStage
    fresh = replicate ((next - 1) - length ms) Fresh

    go : (o p : Option MasterStage) → slice_get ms k ≡ o → slice_get (grown ms Fresh next) k ≡ p → entries_at p ≡ entries_at o
    go (Some m) p a b = ap entries_at (sym b ∙ at_append ms fresh k m a)
    go None None a b = refl
    go None (Some m) a b = elim (at_append_cases ms fresh k m b) [
      | inl old ↦ absurd (none (sym a ∙ old))
      | inr new ↦ ap (λ (x : MasterStage). entries_at (Some x)) (sym (at_replicate ((next - 1) - length ms) Fresh new.0 m new.2).1)
    ]

-- what is made of each item by what it shows
of_shown : {A B C : Type 0} (f : B → C) (s : A → B) (xs : List A) → map (λ (x : A). f (s x)) xs ≡ map f (map s xs)
of_shown f s [] = refl
of_shown f s (x ∷ xs) = ap (λ ys. f (s x) ∷ ys) (of_shown f s xs)

-- the partition of a seat
abbrev pub seated : Shape → List MasterStage → ℕ × NodeId → Part
seated shape ms s = record { lo = (opening_range shape.parts s.0).lo; hi = (opening_range shape.parts s.0).hi; log = entries_at (numbered ms s.1.number) }

-- the machine's partitions are those of the seats
pub seated_parts : (w : World) → (line_of w).parts ≡ map (seated w.manager.shape w.masters) (map seat w.manager.config.parts)
seated_parts w = of_shown (seated w.manager.shape w.masters) seat w.manager.config.parts

-- fresh masters have no log
pub seated_grown : (shape : Shape) (ms : List MasterStage) (next : ℕ) (s : ℕ × NodeId) → seated shape (grown ms Fresh next) s ≡ seated shape ms s
seated_grown shape ms next s = ap (λ (es : List _). record { lo = (opening_range shape.parts s.0).lo; hi = (opening_range shape.parts s.0).hi; log = es }) (entries_grown ms next s.1.number)

-- where each partition keeps its master, and fresh masters come, the logs are those before
pub same_seats : (w v : World) (next : ℕ) → v.manager.shape ≡ w.manager.shape → v.masters ≡ grown w.masters Fresh next
    → map seat v.manager.config.parts ≡ map seat w.manager.config.parts → (line_of v).parts ≡ (line_of w).parts
same_seats w v next shape masters seats =
    seated_parts v
    ∙ ap (λ (s : Shape). map (seated s v.masters) (map seat v.manager.config.parts)) shape
    ∙ ap (λ (ms : List MasterStage). map (seated w.manager.shape ms) (map seat v.manager.config.parts)) masters
    ∙ ap (λ (ss : List (ℕ × NodeId)). map (seated w.manager.shape (grown w.masters Fresh next)) ss) seats
    ∙ map_alike (seated w.manager.shape (grown w.masters Fresh next)) (seated w.manager.shape w.masters) (seated_grown w.manager.shape w.masters next) (map seat w.manager.config.parts)
    ∙ sym (seated_parts w)

-- ---- what was told

-- the manager tells of no package that was taken
told_nothing : (v : World) (node : NodeId) (b : Body) → ManagerSays v node b → told_by b ≡ []
told_nothing v node (body.Taken t) said = absurd said
told_nothing v node _ said = refl

pub tells_none : (w v : World) (names : Names v) (out : List Message) → Each (Uttered w) out → ((m : Message) → IsAmong m out → WasSent v m)
    → flat_map (λ (m : Message). told_by m.body) out ≡ []
tells_none w v names out all sent = go out all (λ m a. sent m a)
  where
    one : (m : Message) → Uttered w m → WasSent v m → told_by m.body ≡ []
    one m u was = told_nothing v m.to m.body (names.manager_says m.to m.body (subst (λ (from : NodeId). WasSent v (says from m.to m.body)) u.from was))

    go : (ms : List Message) → Each (Uttered w) ms → ((m : Message) → IsAmong m ms → WasSent v m) → flat_map (λ (m : Message). told_by m.body) ms ≡ []
    go [] each sent = refl
    go (m ∷ ms) each sent =
        ap (λ (ns : List ℕ). ns ++ flat_map (λ (x : Message). told_by x.body) ms) (one m each.0 (sent m (record { place = 0; stands = refl })))
        ∙ go ms each.1 (λ x a. sent x (record { place = suc a.place; stands = a.stands }))

-- so what was told is what was told before
pub same_told : (w v : World) (out : List Message) → messages v ≡ messages w ++ out → flat_map (λ (m : Message). told_by m.body) out ≡ [] → (line_of v).told ≡ (line_of w).told
same_told w v out sent none =
    ap (flat_map (λ (m : Message). told_by m.body)) sent ∙ flat_append (λ (m : Message). told_by m.body) (messages w) out
    ∙ ap (λ zs. flat_map (λ (m : Message). told_by m.body) (messages w) ++ zs) none ∙ append-nil (flat_map (λ (m : Message). told_by m.body) (messages w))
