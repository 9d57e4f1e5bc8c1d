-- The ops of a log on a hash behind the last give that covers it, and what came with that give.
use Rattle.std.proofs.Common.{◌≡◌, ℕ, Bool, cond, if◌then◌else◌, List, [], ◌∷◌, ◌++◌, Option, refl, ap, ◌∙◌}
use Rattle.std.specs.Cmp.Lexicographic.{slice_cmp}
use Rattle.std.specs.FinMap.Entries.{find}
use Rattle.std.specs.List.{list_any}
use Rattle.std.specs.Ordering.{nat_cmp}
use Rattle.std.proofs.lemmas.Bool.{or_parts}
use Rattle.curp_cmd.specs.Hash.{touches}
use Rattle.curp_cmd.specs.declared.entry.Entry.{Entry}
use Rattle.curp_cmd.specs.declared.entry.Entry.TheVariants.{Op, Take, Give, Expire}
use Rattle.curp_range.specs.Spans.{is_in}
use Rattle.curp_law_kept.specs.Hashes.{NoGive, behind, behind_from, came, came_from, gives}
use Rattle.curp_order.specs.Order.{Asked}

-- ---- behind

pub behind_from_append : (h : ℕ) (kept : List Asked) (xs ys : List Entry) → behind_from h kept (xs ++ ys) ≡ behind_from h (behind_from h kept xs) ys
behind_from_append h kept [] ys = refl
behind_from_append h kept (Op r acknowledged ∷ xs) ys = behind_from_append h (if touches r.command h then kept ++ (r.id, r.command) ∷ [] else kept) xs ys
behind_from_append h kept (Take migration taken ∷ xs) ys = behind_from_append h kept xs ys
behind_from_append h kept (Give migration given ∷ xs) ys = behind_from_append h (if is_in given.lo given.hi h then [] else kept) xs ys
behind_from_append h kept (Expire client ∷ xs) ys = behind_from_append h kept xs ys

-- ---- what came

pub came_from_append : (h : ℕ) (key : List ℕ) (before : Option (List ℕ)) (xs ys : List Entry) → came_from h key before (xs ++ ys) ≡ came_from h key (came_from h key before xs) ys
came_from_append h key before [] ys = refl
came_from_append h key before (Op r acknowledged ∷ xs) ys = came_from_append h key before xs ys
came_from_append h key before (Take migration taken ∷ xs) ys = came_from_append h key before xs ys
came_from_append h key before (Give migration given ∷ xs) ys = came_from_append h key (if is_in given.lo given.hi h then find (slice_cmp nat_cmp) key given.pairs else before) xs ys
came_from_append h key before (Expire client ∷ xs) ys = came_from_append h key before xs ys

-- entries that give nothing on the hash change nothing of it
pub came_kept : (h : ℕ) (key : List ℕ) (before : Option (List ℕ)) (es : List Entry) → NoGive h es → came_from h key before es ≡ before
came_kept h key before [] none = refl
came_kept h key before (Op r acknowledged ∷ es) none = came_kept h key before es none
came_kept h key before (Take migration taken ∷ es) none = came_kept h key before es none
came_kept h key before (Give migration given ∷ es) none =
    let parts = or_parts (is_in given.lo given.hi h) (list_any (gives h) es) none in
    came_kept h key (if is_in given.lo given.hi h then find (slice_cmp nat_cmp) key given.pairs else before) es parts.1
    ∙ ap (λ (b : Bool). cond b (find (slice_cmp nat_cmp) key given.pairs) before) parts.0
came_kept h key before (Expire client ∷ es) none = came_kept h key before es none
