-- A pair whose key no pair before it has goes on with pairs of which no key stands twice, and such pairs are so made.
use Rattle.std.proofs.Common.{◌≡◌, false, List, [], ◌∷◌, ◌++◌, refl, sym, ◌∙◌}
use Rattle.std.proofs.lemmas.Bool.{or_from, or_parts}
use Rattle.std.specs.List.{list_any}
use Rattle.std.specs.Str.{bytes_eq}
use Rattle.std.proofs.lemmas.List.Folds.{list_any-append}
use Rattle.curp_cmd.specs.Pairs.{Pair, names_twice}
use Rattle.curp_items.specs.Items.{names}

pub distinct-push : (pairs : List Pair) (q : Pair) → names_twice pairs ≡ false → names pairs q.0 ≡ false → names_twice (pairs ++ q ∷ []) ≡ false
distinct-push [] q d n = refl
distinct-push (p ∷ pairs) q d n =
    let own = or_parts (bytes_eq q.0 p.0) (names pairs q.0) n in
    let others = or_parts (list_any (λ (r : Pair). bytes_eq r.0 p.0) pairs) (names_twice pairs) d in
    let joined : list_any (λ (r : Pair). bytes_eq r.0 p.0) (pairs ++ q ∷ []) ≡ false =
    list_any-append (λ (r : Pair). bytes_eq r.0 p.0) pairs (q ∷ []) ∙ or_from _ _ others.0 (or_from _ _ own.0 refl) in
    or_from _ _ joined (distinct-push pairs q others.1 own.1)

pub distinct-prefix : (xs ys : List Pair) → names_twice (xs ++ ys) ≡ false → names_twice xs ≡ false
distinct-prefix [] ys d = refl
distinct-prefix (p ∷ xs) ys d =
    let parts = or_parts (list_any (λ (r : Pair). bytes_eq r.0 p.0) (xs ++ ys)) (names_twice (xs ++ ys)) d in
    let prefix = or_parts (list_any (λ (r : Pair). bytes_eq r.0 p.0) xs) (list_any (λ (r : Pair). bytes_eq r.0 p.0) ys) (sym (list_any-append (λ (r : Pair). bytes_eq r.0 p.0) xs ys) ∙ parts.0) in
    or_from _ _ prefix.0 (distinct-prefix xs ys parts.1)

pub distinct-last : (pairs : List Pair) (q : Pair) → names_twice (pairs ++ q ∷ []) ≡ false → names pairs q.0 ≡ false
distinct-last [] q d = refl
distinct-last (p ∷ pairs) q d =
    let parts = or_parts (list_any (λ (r : Pair). bytes_eq r.0 p.0) (pairs ++ q ∷ [])) (names_twice (pairs ++ q ∷ [])) d in
    let last = or_parts (list_any (λ (r : Pair). bytes_eq r.0 p.0) pairs) (list_any (λ (r : Pair). bytes_eq r.0 p.0) (q ∷ [])) (sym (list_any-append (λ (r : Pair). bytes_eq r.0 p.0) pairs (q ∷ [])) ∙ parts.0) in
    or_from _ _ (or_parts (bytes_eq q.0 p.0) false last.1).0 (distinct-last pairs q parts.1)
