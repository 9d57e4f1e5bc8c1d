-- Reads change nothing: what one thread answers over all that the order shows is what it answers over the updates.
use Rattle.std.proofs.Common.{◌≡◌, ◌||◌, Bool, true, false, cond, ℕ, List, [], ◌∷◌, map, take, refl, ap, ◌∙◌}
use Rattle.std.specs.List.{filter}
use Rattle.curp_base.proofs.Lists.{at_take}
use Rattle.curp_cmd.specs.Store.{Contents, applied, is_update, nothing}
use Rattle.curp_cmd.specs.declared.command.Command.{Command}
use Rattle.curp_order.specs.Order.{store_after}
use Rattle.curp_model.specs.Marks.{Mark, is_shown, is_update_mark, shown}
use Rattle.curp_law_kept.specs.Hashes.{In, asked, updates}
use Rattle.curp_law_linear.specs.Line.{KindsOk, answer_at}
use Rattle.curp_law_linear.proofs.Lists.{in_head, in_tail}
use Rattle.curp_law_kept.proofs.Gives.{read_only}

-- the store over all that is shown is that over the updates
pub shown_store : (s : Contents) (marks : List Mark) → ((m : Mark) → In m marks → is_update m.command ≡ is_update_mark m.place) → store_after s (shown marks) ≡ store_after s (updates marks)
shown_store s [] kind = refl
shown_store s (m ∷ marks) kind = go m.completed (is_update_mark m.place) (kind m (in_head m marks)) (λ t. shown_store t marks (λ x n. kind x (in_tail x m marks n)))
  where
    go : (c u : Bool) → is_update m.command ≡ u → ((t : Contents) → store_after t (shown marks) ≡ store_after t (updates marks))
        → store_after s (map asked (cond (c || u) (m ∷ filter is_shown marks) (filter is_shown marks)))
        ≡ store_after s (map asked (cond u (m ∷ filter (λ (o : Mark). is_update_mark o.place) marks) (filter (λ (o : Mark). is_update_mark o.place) marks)))
    go true true e ih = ih (applied s m.command).after
    go false true e ih = ih (applied s m.command).after
    go true false e ih = ap (λ (t : Contents). store_after t (shown marks)) (read_only s m.command e) ∙ ih s
    go false false e ih = ih s

-- the answer at a place, over the updates before it
pub by_updates : (marks : List Mark) → KindsOk marks → (k : ℕ) (c : Command) → answer_at marks k c ≡ (applied (store_after nothing (updates (take k marks))) c).answer
by_updates marks kinds k c =
    ap (λ (t : Contents). (applied t c).answer) (shown_store nothing (take k marks) (λ m n. kinds n.0 m (at_take k marks n.0 m n.1).1))
