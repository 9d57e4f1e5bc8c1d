-- After a recovery, where every message is delivered, the world is calm with the new entry.
use Rattle.std.proofs.Common.{◌≡◌, ℕ, true, List, [], ◌∷◌, length, refl, sym, subst, arith}
use Rattle.curp_base.specs.Words.{Each}
use Rattle.curp_base.proofs.Lists.{at_within}
use Rattle.curp_msg.specs.declared.body.Recover.{Recover}
use Rattle.curp_msg.specs.declared.config.PartConfig.{PartConfig}
use Rattle.curp_msg.specs.declared.message.Message.{Message}
use Rattle.curp_msg.specs.declared.script.Protocol.TheVariants.{One}
use Rattle.curp_model.specs.Client.{ClientState, Pending}
use Rattle.curp_model.specs.Master.{Captured}
use Rattle.curp_model.specs.World.{World, messages}
use Rattle.curp_law_served.specs.Calm.{Calm, IsUndelivered}
use Rattle.curp_law_served.specs.Renews.{IsRenewed, renewed}
use Rattle.curp_law_served.specs.Ways.{CaptureGoes, HeldGoes, PendsOne}

pub renewed_calm : (w : World) (c : PartConfig) (q : ℕ) (o : Recover) (re : IsRenewed w c q o) (cl : ClientState)
    → w.clients ≡ cl ∷ [] → cl.fast ≡ true → cl.protocol ≡ One → cl.pending ≡ []
    → Calm w (length (messages w)) (renewed c q o) q re.m cl
renewed_calm w c q o re cl client fast protocol empty = record {
  client = client;
  fast = fast;
  protocol = protocol;
  manager = re.adopted;
  its_master = refl;
  master = re.serves;
  epoch = re.idle.epoch;
  version = re.idle.version;
  backups = re.idle.backups;
  witnesses = re.idle.witnesses;
  serves = re.idle.serves;
  fits = λ x due. absurd (none x due);
  no_gaps = λ x due. absurd (none x due);
  goes = record {
    held = subst (λ (xs : List ℕ). Each (HeldGoes (IsUndelivered w (length (messages w))) q re.m) xs) (sym re.idle.held) tt;
    captures = subst (λ (xs : List Captured). Each (CaptureGoes (IsUndelivered w (length (messages w))) q re.m) xs) (sym re.idle.captures) tt;
  };
  pends = subst (λ (ps : List Pending). PendsOne (IsUndelivered w (length (messages w))) re.m (renewed c q o) ps) (sym empty) tt;
}
  where
    none : (x : Message) → IsUndelivered w (length (messages w)) x → ⊥
    none x due = absurd (omega (arith, due.1, at_within (messages w) due.0 x due.2))
