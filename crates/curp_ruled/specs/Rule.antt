-- The rule of an inbox: what was taken of each sender, followed by what stands in the inbox of it, is what it sent (this
-- project's own).
use Rattle.std.specs.Prelude.{◌≡◌, ◌+◌, ◌<◌, ◌≤◌, ℕ, eqb, true, false, List, [], ◌∷◌, ◌++◌, length, filter, slice_index_or}
use mathlib.Core.Option.{Option, some, none}
use lib.ListN.{get_elem?}
use Rattle.curp_base.specs.Words.{IsPrefix}
use Rattle.curp_ruled.specs.Envelope.{Letter}
use Rattle.curp_ruled.specs.declared.rule.Hand.{Hand}

-- those of that sender, in order
abbrev pub of : ℕ → List Letter → List Letter
of sender letters = filter (λ (x : Letter). eqb x.sender sender) letters

-- ---- what a pass knows

-- the first pass: it takes, and has made no sender
abbrev pub taker : Hand
taker = record { sends = false; number = 0; sent = []; takes = true; made = 0; taken = []; left = [] }

-- a sender that has sent nothing
abbrev pub sender_of : ℕ → Hand
sender_of number = record { sends = true; number = number; sent = []; takes = false; made = 0; taken = []; left = [] }

-- a pass that was joined into another: of it the rule says nothing
abbrev pub spent : Hand
spent = record { sends = false; number = 0; sent = []; takes = false; made = 0; taken = []; left = [] }

abbrev pub after_send : Hand → Letter → Hand
after_send hand x = record hand { sent = hand.sent ++ x ∷ [] }

abbrev pub after_take : Hand → Letter → Hand
after_take hand x = record hand { taken = hand.taken ++ x ∷ [] }

-- a sender was split off
abbrev pub after_seat : Hand → Hand
after_seat hand = record hand { made = hand.made + 1 }

-- a sender was joined, and leaves the list of what it sent
abbrev pub after_leave : Hand → Hand → Hand
after_leave hand other = record hand { left = hand.left ++ other.sent ∷ [] }

-- ---- the rule

-- a sender's pass is the one of its number, and knows what was sent
abbrev pub FitsSender : (ℕ → Option ℕ) → (ℕ → List Letter) → ℕ → Hand → Type 0
FitsSender seat sent pass hand = hand.sends ≡ true → (seat hand.number ≡ some pass) × (hand.sent ≡ sent hand.number)

-- The one pass that takes knows what was taken; that of a number that no sender has yet, nothing was sent; and what those
-- that were joined into it have sent
abbrev pub FitsTaker : ℕ → (ℕ → Option ℕ) → (ℕ → List Letter) → List Letter → ℕ → Hand → Type 0
FitsTaker reader seat sent taken pass hand =
    hand.takes ≡ true
    → (pass ≡ reader) × (hand.taken ≡ taken)
    × ((k : ℕ) → hand.made ≤ k → (seat k ≡ none) × (sent k ≡ []))
    × ((k : ℕ) → k < length hand.left → (seat k ≡ none) × (slice_index_or hand.left k [] ≡ sent k))
    × (length hand.left ≤ hand.made)

-- There are a reader, a pass for the number of each sender that has one, what each sent, and what was taken, so that of each
-- sender what was taken and then what stands in the inbox is what it sent, and each pass knows its part
abbrev pub DeliversEnvelopes : List Letter → List Hand → Type 0
DeliversEnvelopes items hands =
    (reader : ℕ) × (seat : ℕ → Option ℕ) × (sent : ℕ → List Letter) × (taken : List Letter)
    × ((k : ℕ) → of k (taken ++ items) ≡ sent k)
    × ((pass : ℕ) (hand : Hand) → get_elem? hands pass ≡ some hand → FitsSender seat sent pass hand × FitsTaker reader seat sent taken pass hand)

-- what was taken of each sender that was joined is a prefix of what it sent, and nothing was taken of a number that no sender
-- had
abbrev pub AreDelivered : Hand → Type 0
AreDelivered hand =
    ((k : ℕ) → k < length hand.left → IsPrefix (of k hand.taken) (slice_index_or hand.left k []))
    × ((k : ℕ) → hand.made ≤ k → of k hand.taken ≡ [])
