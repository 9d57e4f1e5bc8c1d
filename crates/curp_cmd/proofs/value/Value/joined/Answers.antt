use Rattle.std.proofs.Common.{◌≡◌, ℕ, List, ◌++◌, take, length, Some, sym, ap, subst, ◌∙◌, arith, length-append}
use Rattle.curp_base.specs.Words.{AreBytes}
use Rattle.curp_cmd.specs.InPlace.{IsInPlace, length_held}
use Rattle.curp_cmd.proofs.Values.{joined_held, joined_are, fits_whole}
use Rattle.curp_cmd.proofs.value.Value.joined.Goals as goal

pub invariant_of-result : goal.invariant_of-result
invariant_of-result c =
    let prefix = c.bytes-prefix.result.now in
    let is_len : c.self.inside.len ≡ length prefix = sym (length_held c.self.invariant) ∙ ap length (c.self.view_is ∙ sym c.bytes-prefix.ensures.value) in
    let held : IsInPlace 128 0 (length prefix) c.self.inside.bytes = subst (λ (n : ℕ). IsInPlace 128 0 n c.self.inside.bytes) is_len c.self.invariant in
    let after = c.copy_from_slice.ensures.after in
    let range : AreBytes c.copy_from_slice.new.self = subst (λ (ys : List ℕ). AreBytes ys) (sym (after ∙ c.bytes-back.ensures.value)) c.bytes-back.ensures.range in
    joined_held (length prefix) _ _ _ _ held (omega (arith, ap length after)) (omega arith) c.if-len-gt128.false range

pub returns : goal.returns
returns c =
    let prefix = c.bytes-prefix.result.now in
    let back = c.bytes-back.result.now in
    let is_len : c.self.inside.len ≡ length prefix = sym (length_held c.self.invariant) ∙ ap length (c.self.view_is ∙ sym c.bytes-prefix.ensures.value) in
    let held : IsInPlace 128 0 (length prefix) c.self.inside.bytes = subst (λ (n : ℕ). IsInPlace 128 0 n c.self.inside.bytes) is_len c.self.invariant in
    let after = c.copy_from_slice.ensures.after in
    let own : take (length prefix) c.self.inside.bytes ≡ prefix = subst (λ (n : ℕ). take n c.self.inside.bytes ≡ prefix) is_len (c.self.view_is ∙ sym c.bytes-prefix.ensures.value) in
    let both : prefix ++ back ≡ c.args.self.now ++ c.args.more.now = cc (c.bytes-prefix.ensures.value, c.bytes-back.ensures.value) in
    ap Some (joined_are (length prefix) _ _ _ _ held (omega (arith, ap length after)) (omega arith) ∙ ap (λ (w : List ℕ). w ++ c.copy_from_slice.new.self) own ∙ ap (λ (w : List ℕ). prefix ++ w) after ∙ both)
    ∙ fits_whole (c.args.self.now ++ c.args.more.now) (omega (arith, ap length both, length-append prefix back, c.if-len-gt128.false))
