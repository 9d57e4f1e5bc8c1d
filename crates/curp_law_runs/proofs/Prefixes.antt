-- Two beginnings of one list.
use Rattle.std.proofs.Common.{◌≡◌, ◌≤◌, List, [], ◌∷◌, length, refl, ap, ◌∙◌, arith, append-nil}
use Rattle.curp_base.specs.Words.{IsPrefix}

-- the shorter one begins the longer one
pub prefix_shorter : {A : Type 0} (xs ys zs : List A) → IsPrefix xs zs → IsPrefix ys zs → length xs ≤ length ys → IsPrefix xs ys
prefix_shorter [] ys zs p q low = record { rest = ys; is = refl }
prefix_shorter (x ∷ xs) [] zs p q low = absurd (omega (arith, low))
prefix_shorter (x ∷ xs) (y ∷ ys) [] p q low = absurd (cc (p.is))
prefix_shorter {A} (x ∷ xs) (y ∷ ys) (z ∷ zs) p q low =
    let first : x ≡ y = cc (p.is, q.is) in
    let prefix : IsPrefix xs zs = record { rest = p.rest; is = cc (p.is) } in
    let back : IsPrefix ys zs = record { rest = q.rest; is = cc (q.is) } in
    let o = prefix_shorter xs ys zs prefix back (omega (arith, low)) in
    record { rest = o.rest; is = ap (λ (w : List A). x ∷ w) o.is ∙ ap (λ (w : A). w ∷ ys) first }

-- one that is as long as the whole begins it, and the whole begins with it
pub prefix_whole : {A : Type 0} (xs zs : List A) → IsPrefix xs zs → length zs ≤ length xs → IsPrefix zs xs
prefix_whole xs zs p low = prefix_shorter zs xs zs (record { rest = []; is = append-nil zs }) p low
