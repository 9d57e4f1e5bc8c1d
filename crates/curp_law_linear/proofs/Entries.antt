-- What entries are, by what is said of them.
use Rattle.std.proofs.Common.{◌≡◌, ℕ, true, refl, ap, subst}
use Rattle.std.proofs.lemmas.Bool.{eqb-true}
use Rattle.curp_range.specs.Spans.{is_in}
use Rattle.curp_cmd.specs.declared.entry.Entry.{Entry}
use Rattle.curp_cmd.specs.declared.entry.Entry.TheVariants.{Expire, Give, Op, Take}
use Rattle.curp_cmd.specs.declared.migration.Package.{Package}
use Rattle.curp_law_kept.specs.Hashes.{gives}
use Rattle.curp_law_linear.specs.Hashes.{is_give, is_take}
use Rattle.curp_law_linear.specs.Line.{LineState, Ungiven}
use Rattle.curp_law_linear.specs.Moves.{OnlyMoving}
use Rattle.curp_law_linear.proofs.Spans.{takes}

-- an entry that gives on a hash is a give of a range that has it
pub give_of : (h : ℕ) (e : Entry) → gives h e ≡ true → (n : ℕ) × (k : Package) × (e ≡ Give n k) × (is_in k.lo k.hi h ≡ true)
give_of h (Op r a) g = absurd cc
give_of h (Take n k) g = absurd cc
give_of h (Give n k) g = (n, k, refl, g)
give_of h (Expire c) g = absurd cc

-- an entry that takes a hash is a take of a range that has it
pub take_of : (h : ℕ) (e : Entry) → takes h e ≡ true → (n : ℕ) × (k : Package) × (e ≡ Take n k) × (is_in k.lo k.hi h ≡ true)
take_of h (Op r a) g = absurd cc
take_of h (Take n k) g = (n, k, refl, g)
take_of h (Give n k) g = absurd cc
take_of h (Expire c) g = absurd cc

-- the give of a number
pub give_entry : (number : ℕ) (e : Entry) → is_give number e ≡ true → (k : Package) × (e ≡ Give number k)
give_entry number (Op r a) g = absurd cc
give_entry number (Take n k) g = absurd cc
give_entry number (Give n k) g = (k, ap (λ (i : ℕ). Give i k) (eqb-true n number g))
give_entry number (Expire c) g = absurd cc

-- the take of a number
pub take_entry : (n : ℕ) (e : Entry) → is_take n e ≡ true → (k : Package) × (e ≡ Take n k)
take_entry n (Op r a) t = absurd cc
take_entry n (Take m k) t = (k, ap (λ (i : ℕ). Take i k) (eqb-true m n t))
take_entry n (Give m k) t = absurd cc
take_entry n (Expire c) t = absurd cc

-- where a take goes, no log has its give
pub take_ungiven : (s : LineState) (n : ℕ) (e : Entry) → is_take n e ≡ true → OnlyMoving s e → Ungiven s.parts n
take_ungiven s n (Op r a) t only = absurd cc
take_ungiven s n (Take number k) t only = subst (Ungiven s.parts) (eqb-true number n t) only.3
take_ungiven s n (Give number k) t only = absurd cc
take_ungiven s n (Expire c) t only = absurd cc
