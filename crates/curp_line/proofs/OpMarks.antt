-- The marks of the ops of a log, one index after the other.
use Rattle.std.proofs.Common.{◌≡◌, ℕ, ◌+◌, ◌<◌, ◌≤◌, arith, [], List, ◌∷◌, length, drop, slice_get, Option, Some, None, ap, refl, sym, ◌∙◌}
use Rattle.std.specs.Option.{option_map}
use Rattle.curp_base.proofs.Lists.{at_some, drop_at}
use Rattle.curp_cmd.specs.declared.command.Command.{Command}
use Rattle.curp_cmd.specs.declared.command.RequestId.{RequestId}
use Rattle.curp_cmd.specs.declared.entry.Entry.{Entry}
use Rattle.curp_cmd.specs.declared.entry.Entry.TheVariants.{Op, Take, Give, Expire}
use Rattle.curp_cmd.specs.declared.node.NodeId.{NodeId}
use Rattle.curp_entries.specs.Requests.{request_at}
use Rattle.curp_model.specs.Marks.{Mark}
use Rattle.curp_model.specs.Marks as mark
use Rattle.curp_model.specs.World.{op_marks, op_requests}
use Rattle.curp_line.specs.Due.{told_op}

-- what a mark tells of the Op that stands at a place, if one does
abbrev told_at : Option Entry → Option (RequestId × Command)
told_at o = option_map told_op (request_at o)

module _ (node : NodeId) (part epoch at : ℕ) (log : List Entry) where
  abbrev later : List Mark
  later = op_marks node part epoch (at + 1) (drop (at + 1) log)

  -- an Op has its mark
  pub op_marked : (op : RequestId × Command) → option_map told_op (request_at (slice_get log at)) ≡ Some op
      → op_marks node part epoch at (drop at log) ≡ mark.executed node part epoch at op.0 op.1 ∷ op_marks node part epoch (at + 1) (drop (at + 1) log)
  op_marked op is = go (slice_get log at) refl is
    where
      go : (o : Option Entry) → slice_get log at ≡ o → told_at o ≡ Some op
          → op_marks node part epoch at (drop at log) ≡ mark.executed node part epoch at op.0 op.1 ∷ later
      go None there same = absurd cc
      go (Some (Op q acknowledge)) there same =
          let told : told_op q ≡ op = cc in
          ap (op_marks node part epoch at) (drop_at log at (Op q acknowledge) there)
          ∙ ap (λ (x : RequestId × Command). mark.executed node part epoch at x.0 x.1 ∷ later) told
      go (Some (Take migration p)) there same = absurd cc
      go (Some (Give migration p)) there same = absurd cc
      go (Some (Expire client)) there same = absurd cc

  -- and what else stands there has none
  pub op_unmarked : at < length log → option_map told_op (request_at (slice_get log at)) ≡ None
      → op_marks node part epoch at (drop at log) ≡ op_marks node part epoch (at + 1) (drop (at + 1) log)
  op_unmarked within is = go (at_some log at within).0 (at_some log at within).1 (ap told_at (sym (at_some log at within).1) ∙ is)
    where
      go : (e : Entry) → slice_get log at ≡ Some e → told_at (Some e) ≡ None
          → op_marks node part epoch at (drop at log) ≡ later
      go (Op q acknowledge) there none = absurd cc
      go (Take migration p) there none = ap (op_marks node part epoch at) (drop_at log at (Take migration p) there)
      go (Give migration p) there none = ap (op_marks node part epoch at) (drop_at log at (Give migration p) there)
      go (Expire client) there none = ap (op_marks node part epoch at) (drop_at log at (Expire client) there)

-- there are no more requests than entries
pub few_requests : (es : List Entry) → length (op_requests es) ≤ length es
few_requests [] = omega arith
few_requests (Op q acknowledge ∷ es) = omega (arith, few_requests es)
few_requests (Take migration p ∷ es) = omega (arith, few_requests es)
few_requests (Give migration p ∷ es) = omega (arith, few_requests es)
few_requests (Expire client ∷ es) = omega (arith, few_requests es)
