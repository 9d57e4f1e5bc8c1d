-- Requests as the keys of a map.
use Rattle.std.proofs.Common.{◌≡◌, true, ap, is_eq}
use Rattle.std.proofs.lemmas.Cmp.{tied_itself}
use Rattle.std.proofs.lemmas.Map.Views.{tells_apart}
use Rattle.curp_cmd.specs.RequestId.{id_cmp}
use Rattle.curp_cmd.specs.declared.command.RequestId.{RequestId}
use Rattle.curp_model.proofs.Tables.{ids_same, ids_total}

pub tied_same : (a b : RequestId) → is_eq (id_cmp a b) ≡ true → a ≡ b
tied_same a b tied = tells_apart ids_same a b tied

pub self_tied : (a : RequestId) → is_eq (id_cmp a a) ≡ true
self_tied a = ap is_eq (tied_itself ids_total a)
