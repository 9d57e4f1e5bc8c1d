-- A request that pends is welcome: by the facts that every script keeps, the master's table says nothing against it.
use Rattle.std.proofs.Common.{◌≡◌, ◌<◌, ℕ, suc, ◌+◌, Bool, true, false, cond, List, [], ◌∷◌, nat_lt, Option, Some, None, refl, ap, ◌∙◌, arith}
use Rattle.std.specs.FinMap.Entries.{find}
use Rattle.std.specs.List.{list_any}
use Rattle.std.proofs.lemmas.Bool.{ltb-true}
use Rattle.curp_base.specs.Words.{At}
use Rattle.curp_base.proofs.Lists.{Each-at}
use Rattle.curp_cmd.specs.RequestId.{id_cmp}
use Rattle.curp_cmd.specs.declared.command.Answer.{Answer}
use Rattle.std.specs.Prelude.{◌==◌, if◌then◌else◌}
use Rattle.curp_cmd.specs.declared.command.RequestId.{RequestId}
use Rattle.curp_cmd.specs.declared.entry.Entry.{Entry}
use Rattle.curp_cmd.specs.declared.entry.Entry.TheVariants.{Op, Take, Give, Expire}
use Rattle.curp_facts.specs.ClientNumbers.{IsUncompleted, ClientNumbersOk}
use Rattle.curp_facts.specs.Kept.{HasCompletedBelow}
use Rattle.curp_facts.specs.Nodes.{ServingOk}
use Rattle.curp_facts.specs.Reach.{Tells}
use Rattle.curp_law_kept.proofs.Gives.{known_stands, stale_completed}
use Rattle.curp_model.specs.declared.Check.{Check}
use Rattle.curp_model.specs.declared.Check.TheVariants.{Expired, Stale, Known, New}
use Rattle.curp_model.specs.Client.{ClientState, Pending}
use Rattle.curp_model.specs.Log.{LogState, after_entries, after_entry, log_opening, IsOp}
use Rattle.curp_model.specs.Master.{MasterState, state_of}
use Rattle.curp_model.specs.Table.{Noted, Table, check, first_number, is_gone, known}
use Rattle.curp_model.specs.World.{World}
use Rattle.curp_cmd.specs.Node.{master_node}
use Rattle.curp_law_served.specs.Grounds.{IsFine}

-- ---- a log of ops alone: no client is gone, and the range is that of the beginning

one_op : (s : LogState) (index : ℕ) (e : Entry) → IsOp e
    → ((after_entry s index e).owned ≡ s.owned) × ((after_entry s index e).table.gone ≡ s.table.gone)
unfolding after_entry
one_op s index (Op r acknowledged) op = (refl, refl)
one_op s index (Take migration taken) op = absurd op
one_op s index (Give migration given) op = absurd op
one_op s index (Expire client) op = absurd op

pub all_ops : (es : List Entry) (s : LogState) (index : ℕ) → ((k : ℕ) (e : Entry) → At es k e → IsOp e)
    → ((after_entries s index es).owned ≡ s.owned) × ((after_entries s index es).table.gone ≡ s.table.gone)
all_ops [] s index ops = (refl, refl)
all_ops (e ∷ es) s index ops =
    let one = one_op s index e (ops 0 e refl) in
    let rest = all_ops es (after_entry s index e) (index + 1) (λ k d at. ops (suc k) d at) in
    (rest.0 ∙ one.0, rest.1 ∙ one.1)

-- ---- the check

not_expired : (t : Table) (id : RequestId) → t.gone ≡ [] → check t id ≡ Expired → ⊥
unfolding check
not_expired t id none e = by (is_gone t id.client) (ap (λ (g : List ℕ). list_any (λ c. c == id.client) g) none) e
  where
    known_not : (o : Option Noted) → known o ≡ Expired → ⊥
    known_not None e = cc
    known_not (Some n) e = cc

    inner : (t : Bool) (first : ℕ) (o : Option Noted) → cond t (Stale first) (known o) ≡ Expired → ⊥
    inner true first o e = cc
    inner false first o e = known_not o e

    by : (g : Bool) → g ≡ false
        → cond g Expired (if nat_lt id.seq (first_number t id.client) then Stale (first_number t id.client) else known (find id_cmp id t.records)) ≡ Expired
        → ⊥
    by true f e = absurd cc
    by false f e = inner (nat_lt id.seq (first_number t id.client)) (first_number t id.client) (find id_cmp id t.records) e

-- what is stale is below that number
stale_below : (t : Table) (id : RequestId) (first : ℕ) → check t id ≡ Stale first → id.seq < first
unfolding check
stale_below t id first e = by (is_gone t id.client) e
  where
    known_not : (o : Option Noted) → known o ≡ Stale first → ⊥
    known_not None e = cc
    known_not (Some n) e = cc

    inner : (b : Bool) → nat_lt id.seq (first_number t id.client) ≡ b
        → cond b (Stale (first_number t id.client)) (known (find id_cmp id t.records)) ≡ Stale first → id.seq < first
    inner true low e = let same : first_number t id.client ≡ first = cc in omega (arith, same, ltb-true id.seq (first_number t id.client) low)
    inner false low e = absurd (known_not (find id_cmp id t.records) e)

    by : (g : Bool)
        → cond g Expired (if nat_lt id.seq (first_number t id.client) then Stale (first_number t id.client) else known (find id_cmp id t.records)) ≡ Stale first
        → id.seq < first
    by true e = absurd cc
    by false e = inner (nat_lt id.seq (first_number t id.client)) refl e

-- ---- a request that pends

module _ (w : World) (q : ℕ) (m : MasterState) (ok : ServingOk w (master_node q) m)
    (ops : (index : ℕ) (e : Entry) → At m.log index e → IsOp e) (n : ℕ) (cl : ClientState)
    (numbers : ClientNumbersOk n w.history cl) (p : Pending) (k : ℕ) (at : At cl.pending k p) where
  waits : IsUncompleted n w.history p.request
  waits = Each-at (λ (x : Pending). IsUncompleted n w.history x.request) cl.pending numbers.pending k p at

  pub fine : IsFine m p.request.id (check (state_of m).table p.request.id)
  fine = by (check (state_of m).table p.request.id) refl
    where
      by : (c : Check) → check (state_of m).table p.request.id ≡ c → IsFine m p.request.id c
      by New e = tt
      by Expired e = absurd (not_expired (state_of m).table p.request.id (all_ops m.log (log_opening m.lo m.hi) 0 ops).1 e)
      by (Stale first) e =
          let below : HasCompletedBelow w p.request.id.client first = stale_completed w m.part m.lo m.hi m.log ok.log p.request.id first e in
          let low = stale_below (state_of m).table p.request.id first e in
          let counted = numbers.counted waits.asked.invoked.0 p.request.id p.request.command waits.asked.invoked.1 waits.asked.client in
          absurd (waits.waits (below p.request.id.seq counted.0 low))
      by (Known a index) e =
          let s = known_stands m.lo m.hi m.log p.request.id a index e in
          told a index s.entry s.stands s.tells (ops index s.entry s.stands)
        where
          told : (a : Answer) (index : ℕ) (entry : Entry) → At m.log index entry
              → Tells m.lo m.hi m.log index p.request.id a entry → IsOp entry → IsFine m p.request.id (Known a index)
          told a index (Op r acknowledged) at tells op = (r, acknowledged, at, tells.0)
          told a index (Take migration taken) at tells op = absurd op
          told a index (Give migration given) at tells op = absurd op
          told a index (Expire client) at tells op = absurd op
