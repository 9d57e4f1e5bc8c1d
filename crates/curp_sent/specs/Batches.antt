-- The messages of a world, kept as each step sent them.
use Rattle.std.specs.Prelude.{◌≡◌, ℕ, ◌+◌, ◌-◌, ◌<◌, ◌≤◌, ◌^◌, min, map, List, [], ◌∷◌, length, slice_index_or}
use Rattle.std.specs.List.{sum}
use Rattle.curp_base.specs.Words.{Each, all_of}
use Rattle.curp_msg.specs.declared.message.Message.{Message}
use Rattle.curp_msg.specs.Weight.{weight_of}
use Rattle.curp_sent.specs.declared.batch.Held.{Held}
use Rattle.curp_sent.specs.declared.batch.Held.TheVariants.{One, Many}

-- the messages of a step, however they are held
abbrev pub messages_in : Held → List Message
messages_in (One message) = message ∷ []
messages_in (Many messages) = messages

-- what each step sent, where it sent something, for how many more steps there is room, and for how many in the list that has
-- the most of it
pub record Batched : Type 0 where
  pub lists : List (List Message)
  pub spare : ℕ
  pub most : ℕ

-- the numbers of the first message of each list, where messages are numbered from n on
abbrev pub firsts_from : {A : Type 0} → ℕ → List (List A) → List ℕ
firsts_from n [] = []
firsts_from n (xs ∷ rest) = n ∷ firsts_from (n + length xs) rest

abbrev pub SentSome : {A : Type 0} → List A → Type 0
SentSome xs = 1 ≤ length xs

-- what messages weigh in all stands still at 2^64 - 1
abbrev pub weight_of_all : List Message → ℕ
weight_of_all messages = min (sum (map weight_of messages)) (2 ^ 64 - 1)

-- the lists with the numbers of their first messages, the number of the next message, and what all messages weigh
pub record IsIndexOf (firsts : List ℕ) (lists : List (List Message)) (next weight : ℕ) : Type 0 where
  pub firsts_are : firsts ≡ firsts_from 1 lists
  pub none_empty : Each SentSome lists
  pub next_is : next ≡ length (all_of lists) + 1
  pub fits : next < 2 ^ 64
  pub weight_is : weight ≡ weight_of_all (all_of lists)

-- numbers rise
abbrev pub Rise : List ℕ → Type 0
Rise ns = (i j : ℕ) → i < j → j < length ns → slice_index_or ns i 0 < slice_index_or ns j 0

-- the number stands at the place
pub record NumberStandsAt (ns : List ℕ) (n at : ℕ) : Type 0 where
  pub in_range : at < length ns
  pub is : slice_index_or ns at 0 ≡ n

-- the number would go at the place: lesser ones before it, greater ones from it on
pub record IsGapAt (ns : List ℕ) (n at : ℕ) : Type 0 where
  pub in_range : at ≤ length ns
  pub lesser_before : (j : ℕ) → j < at → slice_index_or ns j 0 < n
  pub greater_after : (j : ℕ) → at ≤ j → j < length ns → n < slice_index_or ns j 0

-- the batch at the place is the last one whose first number isn't above this number
pub record IsBatchOf (firsts : List ℕ) (number at : ℕ) : Type 0 where
  pub in_range : at < length firsts
  pub from : slice_index_or firsts at 0 ≤ number
  pub before : (i : ℕ) → at < i → i < length firsts → number < slice_index_or firsts i 0
