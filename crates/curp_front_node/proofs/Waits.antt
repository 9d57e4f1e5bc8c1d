-- Where a process that waited for a parcel ends, and nothing is left.
use Rattle.std.specs.Prelude.{◌≡◌, ℕ, List, [], ◌∷◌, ◌++◌, length}
use Rattle.std.specs.Int.{to_be_bytes, w32}
use Rattle.std.proofs.Common.{◌∙◌, ap, arith, length-append}
use Rattle.curp_filter.specs.declared.end.FilterEnd.{FilterEnd}
use Rattle.curp_filter.specs.declared.end.FilterEnd.TheVariants as end
use Rattle.curp_parcels.proofs.Lengths.{length-be}
use Rattle.curp_parcels.specs.Parcels.{behind_length}
use Rattle.curp_parcels.specs.Reading.{IsNextParcel, LeavesAll, StandsFirst}
use Rattle.curp_parcels.specs.declared.parcels.NextParcel.{NextParcel}
use Rattle.curp_parcels.specs.declared.parcels.NextParcel.TheVariants as next
use Rattle.curp_front_node.specs.Ends.{IsEndOfWait}

right_nil : {A : Type 0} (xs ys : List A) → xs ++ ys ≡ [] → ys ≡ []
right_nil [] ys none = none
right_nil (x ∷ xs) ys none = absurd cc

-- what stands first isn't left
nothing_stands : (bytes content rest : List ℕ) → StandsFirst bytes content rest → rest ≡ bytes → ⊥
nothing_stands bytes content rest s left =
    omega (
      arith,
      ap length s.is,
      ap length left,
      length-append (behind_length content) rest,
      length-append (to_be_bytes w32 (length content)) content,
      length-be (length content),
    )

-- nothing is left behind a parcel where it ends so
pub ended : (stop : NextParcel) (it : FilterEnd) (bytes ahead left : List ℕ) (passed place : ℕ) → IsNextParcel bytes passed stop (ahead ++ left) place → LeavesAll bytes passed (ahead ++ left) place
    → IsEndOfWait stop it → it ≡ end.End → left ≡ []
ended (next.Arrived arrived) it bytes ahead left passed place is all ends at_end = absurd (nothing_stands bytes is.content (ahead ++ left) is.first all.left)
ended (next.NoParcel at) it bytes ahead left passed place is all ends at_end = absurd (nothing_stands bytes is.1.content (ahead ++ left) is.1.first all.left)
ended next.End it bytes ahead left passed place is all ends at_end = right_nil ahead left (all.left ∙ is.0)
ended (next.Inside at) it bytes ahead left passed place is all ends at_end = absurd cc
ended (next.TooLong at) it bytes ahead left passed place is all ends at_end = absurd cc
ended next.ReadFault it bytes ahead left passed place is all ends at_end = absurd cc
ended next.NoMemory it bytes ahead left passed place is all ends at_end = absurd cc
