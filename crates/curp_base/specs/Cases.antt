-- Cases in an order, of which the first that holds decides.
use Rattle.std.specs.Prelude.{Bool, if◌then◌else◌, List, [], ◌∷◌, Option, Some, None, unwrap_or, Result, Ok, Err, ⊤}

-- ---- answers, of which the first that is there counts

-- this answer, where the condition holds
abbrev pub only_if : {A : Type 0} → Bool → A → Option A
only_if holds x = if holds then Some x else None

-- the first answer that is there
abbrev pub first_there : {A : Type 0} → List (Option A) → Option A
first_there [] = None
first_there (Some x ∷ rest) = Some x
first_there (None ∷ rest) = first_there rest

-- the first answer that is there, else the other
abbrev pub first_case : {A : Type 0} → List (Option A) → A → A
first_case cases otherwise = unwrap_or (first_there cases) otherwise

-- ---- refusals, of which the first counts

-- the ? of the logic: the second step, if the first gave a value
infixl 10 ◌>>=◌
abbrev pub ◌>>=◌ : {A B E : Type 0} → Result A E → (A → Result B E) → Result B E
Ok x >>= f = f x
Err e >>= f = Err e

-- refused where the condition holds
abbrev pub refuse_if : {E : Type 0} → Bool → E → Result ⊤ E
refuse_if holds why = if holds then Err why else Ok tt
