-- What is told of inputs one behind the other.
use Rattle.std.specs.Prelude.{◌≡◌, Bool, true, if◌then◌else◌, ℕ, suc, ◌+◌, ◌<◌, ◌≤◌, ◌^◌, List, [], ◌∷◌, ◌++◌, length, drop, get_or}
use Rattle.std.proofs.Common.{sym, ◌∙◌, ap, arith, append_assoc}
use Rattle.std.proofs.lemmas.Grind.{flat_map-append}
use Rattle.std.proofs.lemmas.List.{append-nil, drop_all, drop_more}
use Rattle.curp_durable.specs.declared.stand.Answered.{Answered}
use Rattle.curp_journal.specs.declared.item.Item.{Item}
use Rattle.curp_msg.specs.declared.message.Message.{Message}
use Rattle.curp_parcels.specs.Outgoing.{has_encoding, outgoing}
use Rattle.curp_parcels.specs.Parcels.{IsParcel}
use Rattle.curp_parcels.specs.declared.outgoing.Outgoing.{Outgoing}
use Rattle.curp_parcels.specs.declared.outgoing.Outgoing.TheVariants as out
use Rattle.curp_told.specs.Told.{all_told, completion_told, completions_told, input_behind, message_told, messages_told, parcel_of, parcels_of, said_or_withheld, told}

-- what has an encoding is said as it is
pub said_whole : (step place stamp : ℕ) (said : Outgoing) (bytes : List ℕ) → has_encoding said ≡ true → IsParcel outgoing said bytes
    → bytes ≡ parcels_of (said_or_withheld step place stamp said ∷ [])
said_whole step place stamp said bytes has p =
    p.is ∙ sym (append-nil (parcel_of said))
    ∙ ap (λ (x : Outgoing). parcels_of (x ∷ [])) (ap (λ (b : Bool). if b then said else out.Withheld step place stamp) (sym has))

pub parcels_join : (xs ys : List Outgoing) → parcels_of (xs ++ ys) ≡ parcels_of xs ++ parcels_of ys
parcels_join xs ys = flat_map-append parcel_of xs ys

none_behind : (input : ℕ) → input < 2 ^ 64 → input ≡ input_behind input 0
none_behind input small = omega (arith, small)

one_behind : (input : ℕ) → input_behind input 1 < 2 ^ 64
one_behind input = omega arith

more_behind : (input count : ℕ) → input_behind (input_behind input 1) count ≡ input_behind input (suc count)
more_behind input count = omega arith

-- what is told doesn't depend on where a batch is cut
pub all_told_joins : (input : ℕ) (xs ys : List Answered) → input < 2 ^ 64 → all_told input (xs ++ ys) ≡ all_told input xs ++ all_told (input_behind input (length xs)) ys
all_told_joins input [] ys small = ap (λ (n : ℕ). all_told n ys) (none_behind input small)
all_told_joins input (x ∷ xs) ys small =
    let next : ℕ = input_behind input 1 in
    ap (λ (l : List Outgoing). told input x ++ l)
    (all_told_joins next xs ys (one_behind input) ∙ ap (λ (n : ℕ). all_told next xs ++ all_told n ys) (more_behind input (length xs)))
    ∙ sym (append_assoc (told input x) (all_told next xs) (all_told (input_behind input (length (x ∷ xs))) ys))

pub parcels_told_join : (input : ℕ) (xs ys : List Answered) → input < 2 ^ 64
    → parcels_of (all_told input (xs ++ ys)) ≡ parcels_of (all_told input xs) ++ parcels_of (all_told (input_behind input (length xs)) ys)
parcels_told_join input xs ys small =
    ap parcels_of (all_told_joins input xs ys small) ∙ parcels_join (all_told input xs) (all_told (input_behind input (length xs)) ys)

-- ---- a text behind which what is left to be said makes the whole

drop_here : {A : Type 0} (xs : List A) (i : ℕ) (x : A) → i < length xs → x ≡ get_or xs i x → drop i xs ≡ x ∷ drop (i + 1) xs
drop_here {A} xs i x within is = drop_more xs i x within ∙ ap (λ (y : A). y ∷ drop (i + 1) xs) (sym is)

goes_on : (text new whole : List ℕ) (said rest all : List Outgoing) → new ≡ text ++ parcels_of said → all ≡ said ++ rest → text ++ parcels_of all ≡ whole → new ++ parcels_of rest ≡ whole
goes_on text new whole said rest all adds splits before =
    ap (λ (l : List ℕ). l ++ parcels_of rest) adds
    ∙ append_assoc text (parcels_of said) (parcels_of rest)
    ∙ ap (λ (l : List ℕ). text ++ l) (sym (parcels_join said rest))
    ∙ ap (λ (l : List Outgoing). text ++ parcels_of l) (sym splits)
    ∙ before

module _ (i : ℕ) (text new whole : List ℕ) where
  pub told_on : (xs : List Answered) (input next : ℕ) (x : Answered) → i < length xs → x ≡ get_or xs i x → next ≡ input_behind input 1
      → new ≡ text ++ parcels_of (told input x) → text ++ parcels_of (all_told input (drop i xs)) ≡ whole
      → new ++ parcels_of (all_told next (drop (i + 1) xs)) ≡ whole
  told_on xs input next x within is behind adds before =
      let rest : List Answered = drop (i + 1) xs in
      let splits : all_told input (drop i xs) ≡ told input x ++ all_told next rest =
      ap (λ (left : List Answered). all_told input left) (drop_here xs i x within is)
      ∙ ap (λ (n : ℕ). told input x ++ all_told n rest) (sym behind) in
      goes_on text new whole (told input x) (all_told next rest) (all_told input (drop i xs)) adds splits before

  pub messages_on : (step stamp : ℕ) (xs : List Message) (x : Message) → i < length xs → x ≡ get_or xs i x
      → new ≡ text ++ parcels_of (message_told step (i + 1) stamp x ∷ []) → text ++ parcels_of (messages_told step (i + 1) stamp (drop i xs)) ≡ whole
      → new ++ parcels_of (messages_told step (i + 1 + 1) stamp (drop (i + 1) xs)) ≡ whole
  messages_on step stamp xs x within is adds before =
      goes_on text new whole (message_told step (i + 1) stamp x ∷ []) (messages_told step (i + 1 + 1) stamp (drop (i + 1) xs)) (messages_told step (i + 1) stamp (drop i xs)) adds
      (ap (λ (left : List Message). messages_told step (i + 1) stamp left) (drop_here xs i x within is))
      before

  pub completions_on : (xs : List Item) (x : Item) → i < length xs → x ≡ get_or xs i x
      → new ≡ text ++ parcels_of (completion_told (i + 1) x.stamp x.done.completed) → text ++ parcels_of (completions_told (i + 1) (drop i xs)) ≡ whole
      → new ++ parcels_of (completions_told (i + 1 + 1) (drop (i + 1) xs)) ≡ whole
  completions_on xs x within is adds before =
      goes_on text new whole (completion_told (i + 1) x.stamp x.done.completed) (completions_told (i + 1 + 1) (drop (i + 1) xs)) (completions_told (i + 1) (drop i xs)) adds
      (ap (λ (left : List Item). completions_told (i + 1) left) (drop_here xs i x within is))
      before

-- nothing is left
pub ends : {A : Type 0} (left_of : List A → List Outgoing) → left_of [] ≡ [] → (xs : List A) (i : ℕ) (text whole : List ℕ) → length xs ≤ i → text ++ parcels_of (left_of (drop i xs)) ≡ whole → text ≡ whole
ends {A} left_of none xs i text whole all is =
    sym (append-nil text)
    ∙ ap (λ (l : List Outgoing). text ++ parcels_of l) (sym none)
    ∙ ap (λ (l : List A). text ++ parcels_of (left_of l)) (sym (drop_all i xs all))
    ∙ is

-- one piece behind the other
pub two_pieces : (text between new : List ℕ) (one other : List Outgoing) → between ≡ text ++ parcels_of one → new ≡ between ++ parcels_of other → new ≡ text ++ parcels_of (one ++ other)
two_pieces text between new one other first second =
    second ∙ ap (λ (l : List ℕ). l ++ parcels_of other) first ∙ append_assoc text (parcels_of one) (parcels_of other) ∙ ap (λ (l : List ℕ). text ++ l) (sym (parcels_join one other))
