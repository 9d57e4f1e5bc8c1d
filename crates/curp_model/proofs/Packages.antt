-- The test of packages tells whether they are one, and so do the tests of their parts.
use Rattle.std.proofs.Common.{◌≡◌, ℕ, ◌≤◌, ◌==◌, ◌&&◌, nat_eq, Bool, true, false, List, [], ◌∷◌, Option, Some, None, refl, ap, sym, ◌∙◌}
use Rattle.std.specs.Bool.{Decides}
use Rattle.std.specs.Option.{option_eq}
use Rattle.std.specs.Str.{bytes_eq}
use Rattle.std.proofs.Math.Bridge.{le_prop}
use Rattle.std.proofs.lemmas.Bool.Decides.{Decides-and, Decides-eqb, Decides-like}
use Rattle.std.proofs.lemmas.Slice.Eq.{bytes_eq-Decides}
use Rattle.curp_cmd.proofs.Ids.{same_id-self, same_id-true}
use Rattle.curp_cmd.specs.RequestId.{same_id}
use Rattle.curp_cmd.specs.declared.command.Answer.TheVariants as answer
use Rattle.curp_cmd.specs.declared.migration.Package.{Package}
use Rattle.curp_model.specs.Log.{answer_eq, bool_eq, list_eq, package_eq}
use mathlib.Core.HLevel.{is_prop→PathP}

-- the test tells whether two are one
abbrev pub TellsSame : {A : Type 0} → (A → A → Bool) → Type 0
TellsSame {A} eq = (x y : A) → Decides (eq x y) (x ≡ y)

-- ---- small values

same_id-Decides : TellsSame same_id
same_id-Decides x y = (same_id-true x y, λ e. ap (same_id x) (sym e) ∙ same_id-self x)

bool_eq-Decides : TellsSame bool_eq
bool_eq-Decides true b = (λ e. sym e, λ e. sym e)
bool_eq-Decides false true = (λ e. absurd cc, λ e. absurd cc)
bool_eq-Decides false false = (λ e. refl, λ e. refl)

option_eq-Decides : {A : Type 0} (eq : A → A → Bool) → TellsSame eq → TellsSame (option_eq eq)
option_eq-Decides eq is None None = (λ e. refl, λ e. refl)
option_eq-Decides eq is None (Some y) = (λ e. absurd cc, λ e. absurd cc)
option_eq-Decides eq is (Some x) None = (λ e. absurd cc, λ e. absurd cc)
option_eq-Decides {A} eq is (Some x) (Some y) = Decides-like (eq x y) (λ e. ap (λ (z : A). Some z) e) (λ e. cc) (is x y)

pair_eq-Decides : {A B : Type 0} (eq : A → A → Bool) (other : B → B → Bool) → TellsSame eq → TellsSame other → TellsSame (λ (p q : A × B). eq p.0 q.0 && other p.1 q.1)
pair_eq-Decides {A} {B} eq other is are p q =
    Decides-like (eq p.0 q.0 && other p.1 q.1) (λ e. λ i. (e.0 i, e.1 i)) (λ e. (ap (λ (r : A × B). r.0) e, ap (λ (r : A × B). r.1) e))
    (Decides-and (eq p.0 q.0) (other p.1 q.1) (is p.0 q.0) (are p.1 q.1))

pub list_eq-Decides : {A : Type 0} (eq : A → A → Bool) → TellsSame eq → TellsSame (list_eq eq)
list_eq-Decides eq is [] [] = (λ e. refl, λ e. refl)
list_eq-Decides eq is [] (y ∷ ys) = (λ e. absurd cc, λ e. absurd cc)
list_eq-Decides eq is (x ∷ xs) [] = (λ e. absurd cc, λ e. absurd cc)
list_eq-Decides eq is (x ∷ xs) (y ∷ ys) =
    Decides-like (eq x y && list_eq eq xs ys) (λ e. λ i. e.0 i ∷ e.1 i) (λ e. (cc, cc))
    (Decides-and (eq x y) (list_eq eq xs ys) (is x y) (list_eq-Decides eq is xs ys))

-- ---- answers

pub answer_eq-Decides : TellsSame answer_eq
answer_eq-Decides answer.Done answer.Done = (λ e. refl, λ e. refl)
answer_eq-Decides (answer.Removed a) (answer.Removed b) = Decides-like (bool_eq a b) (λ e. ap (λ (x : Bool). answer.Removed x) e) (λ e. cc) (bool_eq-Decides a b)
answer_eq-Decides (answer.Number a) (answer.Number b) = Decides-like (a == b) (λ e. ap (λ (n : ℕ). answer.Number n) e) (λ e. cc) (Decides-eqb a b)
answer_eq-Decides (answer.Length a) (answer.Length b) = Decides-like (a == b) (λ e. ap (λ (n : ℕ). answer.Length n) e) (λ e. cc) (Decides-eqb a b)
answer_eq-Decides (answer.Swapped a) (answer.Swapped b) = Decides-like (bool_eq a b) (λ e. ap (λ (x : Bool). answer.Swapped x) e) (λ e. cc) (bool_eq-Decides a b)
answer_eq-Decides answer.NotNumber answer.NotNumber = (λ e. refl, λ e. refl)
answer_eq-Decides answer.Overflow answer.Overflow = (λ e. refl, λ e. refl)
answer_eq-Decides answer.TooLong answer.TooLong = (λ e. refl, λ e. refl)
answer_eq-Decides (answer.Found a) (answer.Found b) =
    Decides-like (option_eq bytes_eq a b) (λ e. ap (λ (x : Option (List ℕ)). answer.Found x) e) (λ e. cc) (option_eq-Decides bytes_eq bytes_eq-Decides a b)
answer_eq-Decides _ _ = (λ e. absurd cc, λ e. absurd cc)

-- ---- packages

-- a range has one proof of its order
pub one_package : (a b : Package) → a.lo ≡ b.lo → a.hi ≡ b.hi → a.pairs ≡ b.pairs → a.table ≡ b.table → a ≡ b
one_package a b lo hi pairs table = λ i. record {
  lo = lo i;
  hi = hi i;
  pairs = pairs i;
  table = table i;
  ordered = is_prop→PathP (λ j. lo j ≤ hi j) (λ j. le_prop) a.ordered b.ordered i;
}

pub package_eq-Decides : TellsSame package_eq
package_eq-Decides a b =
    let range = Decides-and (a.lo == b.lo) (a.hi == b.hi) (Decides-eqb a.lo b.lo) (Decides-eqb a.hi b.hi) in
    let pairs = Decides-and _ _ range (list_eq-Decides _ (pair_eq-Decides bytes_eq bytes_eq bytes_eq-Decides bytes_eq-Decides) a.pairs b.pairs) in
    let records = Decides-and _ _ pairs (list_eq-Decides _ (pair_eq-Decides same_id answer_eq same_id-Decides answer_eq-Decides) a.table.records b.table.records) in
    let firsts = Decides-and _ _ records (list_eq-Decides _ (pair_eq-Decides nat_eq nat_eq Decides-eqb Decides-eqb) a.table.firsts b.table.firsts) in
    let all = Decides-and _ _ firsts (list_eq-Decides nat_eq Decides-eqb a.table.gone b.table.gone) in
    Decides-like (package_eq a b)
    (λ e. one_package a b e.0.0.0.0.0 e.0.0.0.0.1 e.0.0.0.1 (λ i. record { records = e.0.0.1 i; firsts = e.0.1 i; gone = e.1 i }))
    (λ e. (
      (
        (
          (
            (
              ap (λ (p : Package). p.lo) e,
              ap (λ (p : Package). p.hi) e,
            ),
            ap (λ (p : Package). p.pairs) e,
          ),
          ap (λ (p : Package). p.table.records) e,
        ),
        ap (λ (p : Package). p.table.firsts) e,
      ),
      ap (λ (p : Package). p.table.gone) e,
    )) all
