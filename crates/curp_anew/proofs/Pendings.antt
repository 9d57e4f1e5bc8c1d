-- How many requests are pending after the items that are left, from those before on.
use Rattle.std.proofs.Common.{◌≡◌, ◌+◌, ◌≤◌, ℕ, zero, suc, if◌then◌else◌, is_some, List, ◌∷◌, length, take, drop, get_or, ap, sym, ◌∙◌, subst, add-one, length-append, ◌↔◌, ◌<◌, arith}
use Rattle.std.proofs.Math.Seq.{drop-cons}
use Rattle.curp_journal.specs.declared.item.Item.{Item}
use Rattle.curp_journal.specs.Work.{invoked_by, invoked_in}
use Rattle.curp_anew.specs.Work.{completed_count, most_pending}

-- so many were invoked and completed before
abbrev pub FewFrom : ℕ → ℕ → List Item → Type 0
FewFrom invoked completed items =
    (t : ℕ) → invoked + length (invoked_in (take t items)) ≤ completed + completed_count (take t items) + most_pending

abbrev pub one_completed : Item → ℕ
one_completed item = if is_some item.done.completed then 1 else 0

-- after an item more
pub few_rest : (invoked completed : ℕ) (item : Item) (items : List Item) → FewFrom invoked completed (item ∷ items)
    → FewFrom (invoked + length (invoked_by item.input)) (completed + one_completed item) items
few_rest invoked completed item items few t =
    omega (arith, length-append (invoked_by item.input) (invoked_in (take t items)), few (suc t))

pub few_whole : (invoked completed : ℕ) (item : Item) (items : List Item) → invoked ≤ completed + most_pending
    → FewFrom (invoked + length (invoked_by item.input)) (completed + one_completed item) items → FewFrom invoked completed (item ∷ items)
few_whole invoked completed item items now few zero = omega (arith, now)
few_whole invoked completed item items now few (suc t) =
    omega (arith, length-append (invoked_by item.input) (invoked_in (take t items)), few t)

-- before any of them
pub few_now : (invoked completed : ℕ) (items : List Item) → FewFrom invoked completed items → invoked ≤ completed + most_pending
few_now invoked completed items few = omega (arith, few zero)

-- from those that are left on, with the item that was read and without it
pub few_step : (invoked completed k : ℕ) (items : List Item) (item : Item) → k < length items → item ≡ get_or items k item → invoked ≤ completed + most_pending
    → FewFrom invoked completed (drop k items) ↔ FewFrom (invoked + length (invoked_by item.input)) (completed + one_completed item) (drop (k + 1) items)
few_step invoked completed k items item within is now =
    let here : drop k items ≡ item ∷ drop (k + 1) items = rw add-one (drop-cons items k item within ∙ ap (λ x. x ∷ drop (suc k) items) (sym is)) in (
      λ few. few_rest invoked completed item (drop (k + 1) items) (subst (FewFrom invoked completed) here few),
      λ few. subst (FewFrom invoked completed) (sym here) (few_whole invoked completed item (drop (k + 1) items) now few),
    )
