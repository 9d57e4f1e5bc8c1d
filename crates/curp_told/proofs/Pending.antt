-- Which requests are pending, item by item and request by request.
use Rattle.std.specs.Prelude.{◌≡◌, ℕ, zero, suc, ◌+◌, ◌-◌, ◌^◌, ◌<◌, ◌||◌, min, not, if◌then◌else◌, Bool, true, false, List, [], ◌∷◌, ◌++◌, length, take, get_or, refl}
use Rattle.std.specs.List.{filter}
use Rattle.std.proofs.Common.{sym, ◌∙◌, ap, arith, length-append}
use Rattle.std.proofs.lemmas.List.{map-append, take_more}
use Rattle.std.proofs.lemmas.List.Elements.{filter-append}
use Rattle.std.proofs.lemmas.List.Folds.{list_any-append}
use Rattle.curp_base.proofs.Numbered.{named_more}
use Rattle.curp_base.specs.Words.{At}
use Rattle.curp_cmd.specs.declared.command.RequestId.{RequestId}
use Rattle.curp_journal.specs.Journal.{last_stamp}
use Rattle.curp_journal.specs.declared.item.Item.{Item}
use Rattle.curp_parcels.specs.declared.outgoing.Outgoing.{Outgoing}
use Rattle.curp_parcels.specs.declared.outgoing.Outgoing.TheVariants as out
use Rattle.curp_told.specs.Marks.{AreMarks, MarksMore, id_behind}
use Rattle.curp_told.specs.Told.{completes, first_ids, invoked, invokes, is_completed, parcels_of, pending_among, pending_told}
use Rattle.curp_told.proofs.Joining.{two_pieces}

-- ---- the last stamp

pub last_stamp_at : (last : ℕ) (items : List Item) (k : ℕ) (item : Item) → At items k item → k + 1 ≡ length items → item.stamp ≡ last_stamp last items
last_stamp_at last [] k item at all = absurd cc
last_stamp_at last (first ∷ []) zero item at all = let same : first ≡ item = cc in ap (λ (i : Item). i.stamp) (sym same)
last_stamp_at last (first ∷ second ∷ items) zero item at all = absurd (omega (arith, all))
last_stamp_at last (first ∷ items) (suc k) item at all = last_stamp_at first.stamp items k item at (omega (arith, all))

-- ---- how many requests are invoked

some_more : (b : Bool) (n : ℕ) (item : Item) → min (n + length (if b then item ∷ [] else [])) (2 ^ 32 - 1) ≡ (if b then min (min n (2 ^ 32 - 1) + 1) (2 ^ 32 - 1) else min n (2 ^ 32 - 1))
some_more true n item = omega arith
some_more false n item = omega arith

invoked_more : (items : List Item) (i : ℕ) (item : Item) → i < length items → item ≡ get_or items i item
    → invoked (take (i + 1) items) ≡ (if invokes item.input then min (invoked (take i items) + 1) (2 ^ 32 - 1) else invoked (take i items))
invoked_more items i item within is =
    let p : Item → Bool = λ it. invokes it.input in
    ap invoked (take_more items i item within ∙ ap (λ (it : Item). take i items ++ it ∷ []) (sym is))
    ∙ ap (λ (l : List Item). min (length l) (2 ^ 32 - 1)) (filter-append p (take i items) (item ∷ []))
    ∙ ap (λ (n : ℕ). min n (2 ^ 32 - 1)) (length-append (filter p (take i items)) (filter p (item ∷ [])))
    ∙ some_more (invokes item.input) (length (filter p (take i items))) item

pub counts_on : (items : List Item) (i : ℕ) (item : Item) (count new : ℕ) → i < length items → item ≡ get_or items i item → count ≡ invoked (take i items)
    → new ≡ (if invokes item.input then min (count + 1) (2 ^ 32 - 1) else count) → new ≡ invoked (take (i + 1) items)
counts_on items i item count new within is before adds =
    adds ∙ ap (λ (n : ℕ). if invokes item.input then min (n + 1) (2 ^ 32 - 1) else n) before ∙ sym (invoked_more items i item within is)

-- ---- which completed

or_none : (a b : Bool) → (a || (b || false)) ≡ (a || b)
or_none true b = refl
or_none false true = refl
or_none false false = refl

completed_more : (items : List Item) (i : ℕ) (item : Item) (id : RequestId) → i < length items → item ≡ get_or items i item
    → is_completed (take (i + 1) items) id ≡ (is_completed (take i items) id || completes id item.done.completed)
completed_more items i item id within is =
    let p : Item → Bool = λ it. completes id it.done.completed in
    ap (λ (l : List Item). is_completed l id) (take_more items i item within ∙ ap (λ (it : Item). take i items ++ it ∷ []) (sym is))
    ∙ list_any-append p (take i items) (item ∷ [])
    ∙ or_none (is_completed (take i items) id) (completes id item.done.completed)

pub marks_more : (client : ℕ) (items : List Item) (i : ℕ) (item : Item) (old new : List Bool) → i < length items → item ≡ get_or items i item → length new ≡ length old
    → MarksMore (λ id. completes id item.done.completed) client old new → AreMarks client (take i items) old → AreMarks client (take (i + 1) items) new
marks_more client items i item old new within is many each before k low =
    let low_old : k < length old = omega (arith, low, many) in
    each k low_old
    ∙ ap (λ (b : Bool). b || completes (id_behind client k) item.done.completed) (before k low_old)
    ∙ sym (completed_more items i item (id_behind client k) within is)

-- ---- what is said of them

chosen : (b : Bool) (id : RequestId) → (if not b then id ∷ [] else []) ≡ (if b then [] else id ∷ [])
chosen true id = refl
chosen false id = refl

pending_next : (client k : ℕ) (items : List Item) → pending_among client (k + 1) items ≡ pending_among client k items ++ (if is_completed items (id_behind client k) then [] else id_behind client k ∷ [])
pending_next client k items =
    let p : RequestId → Bool = λ id. not (is_completed items id) in
    let id_of : ℕ → RequestId = λ seq. record { client = client; seq = seq } in
    let behind : 1 + k ≡ k + 1 = omega arith in
    ap (filter p) (named_more id_of 1 k ∙ ap (λ (n : ℕ). first_ids client k ++ id_of n ∷ []) behind)
    ∙ filter-append p (first_ids client k) (id_behind client k ∷ [])
    ∙ ap (λ (l : List RequestId). pending_among client k items ++ l) (chosen (is_completed items (id_behind client k)) (id_behind client k))

pub pending_on : (client k : ℕ) (items : List Item) (done : Bool) (old text new : List ℕ) → done ≡ is_completed items (id_behind client k)
    → text ≡ old ++ parcels_of (pending_told (pending_among client k items))
    → new ≡ text ++ parcels_of (pending_told (if done then [] else id_behind client k ∷ []))
    → new ≡ old ++ parcels_of (pending_told (pending_among client (k + 1) items))
pending_on client k items done old text new is before adds =
    let one : Bool → List RequestId = λ b. if b then [] else id_behind client k ∷ [] in
    let among = pending_among client k items in
    two_pieces old text new (pending_told among) (pending_told (one done)) before adds
    ∙ ap (λ (l : List Outgoing). old ++ parcels_of l) (sym (map-append (λ (id : RequestId). out.Pending id) among (one done)))
    ∙ ap (λ (b : Bool). old ++ parcels_of (pending_told (among ++ one b))) is
    ∙ ap (λ (l : List RequestId). old ++ parcels_of (pending_told l)) (sym (pending_next client k items))
