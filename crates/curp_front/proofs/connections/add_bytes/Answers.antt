use Rattle.std.proofs.Common.{◌≡◌, true, false, [], ◌∷◌, ◌++◌, length, refl, ap, sym, ◌∙◌, arith}
use Rattle.std.specs.Prelude.{nat_le, if◌then◌else◌}
use Rattle.std.proofs.lemmas.Bool.Decides.{nat_tests}
use Rattle.curp_front.specs.Conversation.{came, fresh, has_number}
use Rattle.curp_front.specs.Fronts.{bytes_at, is_full, is_full_at, most_connections}
use Rattle.curp_front.proofs.Finding.{found_at, found_none}
use Rattle.curp_front.proofs.connections.add_bytes.Goals as goal

pub returns-in-Some-clause-admitted : goal.returns-in-Some-clause-admitted
returns-in-Some-clause-admitted c =
    let connections = c.args.connections.now.items in
    let f = found_at (has_number c.args.number) connections c.in-Some.at (rw c.deref.ensures.value at c.in-Some.ensures) in
    let not_full : is_full c.args.number connections ≡ false = ap (is_full_at connections) f.is in
    (λ e. absurd (cc e), λ e. absurd (cc (e, not_full)))

pub returns-in-Some-clause-ok : goal.returns-in-Some-clause-ok
returns-in-Some-clause-ok c =
    let connections = c.args.connections.now.items in
    let f = found_at (has_number c.args.number) connections c.in-Some.at (rw c.deref.ensures.value at c.in-Some.ensures) in
    c.in_ok-add_bytes_at.ensures.ok f.found f.stands ∙ sym (ap (bytes_at c.args.number c.args.bytes.now connections) f.is)

pub returns-then-len-ge-MOST_CONNECTIONS-clause-admitted : goal.returns-then-len-ge-MOST_CONNECTIONS-clause-admitted
returns-then-len-ge-MOST_CONNECTIONS-clause-admitted c =
    let connections = c.args.connections.now.items in
    let none = found_none (has_number c.args.number) connections (rw c.deref.ensures.value at c.in_default.ensures) in
    let full : nat_le most_connections (length connections) ≡ true = grind (arith, nat_tests, c.if-len-ge-MOST_CONNECTIONS.true, c.len.ensures) in
    (λ e. ap (is_full_at connections) none ∙ full, λ e. refl)

pub returns-then-len-ge-MOST_CONNECTIONS-clause-ok : goal.returns-then-len-ge-MOST_CONNECTIONS-clause-ok
returns-then-len-ge-MOST_CONNECTIONS-clause-ok c =
    let connections = c.args.connections.now.items in
    let none = found_none (has_number c.args.number) connections (rw c.deref.ensures.value at c.in_default.ensures) in
    let full : nat_le most_connections (length connections) ≡ true = grind (arith, nat_tests, c.if-len-ge-MOST_CONNECTIONS.true, c.len.ensures) in
    sym (ap (bytes_at c.args.number c.args.bytes.now connections) none
    ∙ ap (λ b. if b then connections else connections ++ came c.args.bytes.now (fresh c.args.number) ∷ []) full)

pub returns-clause-ok : goal.returns-clause-ok
returns-clause-ok c =
    let connections = c.args.connections.now.items in
    let none = found_none (has_number c.args.number) connections (rw c.deref.ensures.value at c.in_default.ensures) in
    let room : nat_le most_connections (length connections) ≡ false = grind (arith, nat_tests, c.if-len-ge-MOST_CONNECTIONS.false, c.len.ensures) in
    c.in_ok-push.ensures.items
    ∙ ap (λ x. connections ++ x ∷ []) (c.in_ok-on_bytes.ensures.ok ∙ ap (came c.args.bytes.now) c.new-first.ensures)
    ∙ sym (ap (bytes_at c.args.number c.args.bytes.now connections) none
    ∙ ap (λ b. if b then connections else connections ++ came c.args.bytes.now (fresh c.args.number) ∷ []) room)
