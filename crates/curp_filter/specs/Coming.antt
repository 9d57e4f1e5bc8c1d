-- What comes to the process of a node, parcel by parcel.
use Rattle.std.specs.Prelude.{◌≡◌, ℕ, List, [], ◌∷◌, ◌++◌, map, Option, Some, None}
use Rattle.curp_journal.specs.declared.arrived.Arrived.{Arrived}
use Rattle.curp_parcels.specs.Reading.{IsNextParcel}
use Rattle.curp_parcels.specs.declared.parcels.NextParcel.{NextParcel}
use Rattle.curp_parcels.specs.declared.parcels.NextParcel.TheVariants as next
use Rattle.curp_told.specs.Told.{input_behind}
use Rattle.curp_filter.specs.declared.came.Came.{Came}
use Rattle.curp_filter.specs.declared.came.Came.TheVariants as came
use Rattle.curp_filter.specs.declared.came.PassedOver.{PassedOver}
use Rattle.curp_filter.specs.declared.came.PassedOver.TheVariants as passed
use Rattle.curp_filter.specs.declared.end.FilterEnd.{FilterEnd}
use Rattle.curp_filter.specs.declared.end.FilterEnd.TheVariants as end

-- as a parcel of an input
abbrev pub parcel : Came → NextParcel
parcel (came.Arrived arrived) = next.Arrived arrived
parcel (came.PassedOver (passed.Misdirected arrived)) = next.Arrived arrived
parcel (came.PassedOver (passed.NoParcel at)) = next.NoParcel at

-- These came one behind the other, where so many bytes were passed over before the first, and the rest is left. How
-- many of them were read or answered together is not spoken of.
abbrev pub Comes : List Came → (bytes : List ℕ) (passed : ℕ) (rest : List ℕ) (passed_then : ℕ) → Type 0
Comes [] bytes passed rest passed_then = (rest ≡ bytes) × (passed_then ≡ passed)
Comes (c ∷ more) bytes passed rest passed_then =
    (mid : List ℕ) × (place : ℕ) × IsNextParcel bytes passed (parcel c) mid place × Comes more mid place rest passed_then

-- ---- what a node is given of them, and their numbers

abbrev pub arrival_in : Came → List Arrived
arrival_in (came.Arrived arrived) = arrived ∷ []
arrival_in (came.PassedOver it) = []

abbrev pub arrivals_of : List Came → List Arrived
arrivals_of [] = []
arrivals_of (c ∷ more) = arrival_in c ++ arrivals_of more

-- the number of the input behind these, where the first has this one
abbrev pub number_behind : ℕ → List Came → ℕ
number_behind number [] = number
number_behind number (c ∷ more) = number_behind (input_behind number 1) more

-- ---- those that are answered together

-- what stands behind arrivals, if it isn't given to the node
abbrev pub came_last : Option PassedOver → List Came
came_last None = []
came_last (Some it) = came.PassedOver it ∷ []

abbrev pub arriving : List Arrived → List Came
arriving arrived = map (λ (a : Arrived). came.Arrived a) arrived

abbrev pub came_together : List Arrived → Option PassedOver → List Came
came_together arrived last = arriving arrived ++ came_last last

-- ---- where nothing came

-- how a process ends that waited for what comes
abbrev pub IsEndOf : NextParcel → FilterEnd → Type 0
IsEndOf (next.Arrived arrived) it = ⊥
IsEndOf (next.NoParcel at) it = ⊥
IsEndOf next.End it = it ≡ end.End
IsEndOf (next.Inside at) it = it ≡ end.Inside at
IsEndOf (next.TooLong at) it = it ≡ end.TooLong at
IsEndOf next.ReadFault it = it ≡ end.ReadFault
IsEndOf next.NoMemory it = it ≡ end.NoMemory

-- what is said of bytes that were read ahead: nothing more is whole there, and all is left; or one came
abbrev pub IsReadyCame : (bytes : List ℕ) (passed : ℕ) → Option Came → (rest : List ℕ) (passed_then : ℕ) → Type 0
IsReadyCame bytes passed None rest passed_then = (rest ≡ bytes) × (passed_then ≡ passed)
IsReadyCame bytes passed (Some c) rest passed_then = IsNextParcel bytes passed (parcel c) rest passed_then
