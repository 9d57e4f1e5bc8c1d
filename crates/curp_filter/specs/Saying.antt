-- What is said of what came.
use Rattle.std.specs.Prelude.{ℕ, List, [], ◌∷◌, ◌++◌, Option, Some, None}
use Rattle.curp_durable.specs.Standing.{Standing, after, answer_of}
use Rattle.curp_msg.specs.Moved.{Moved}
use Rattle.curp_msg.specs.Input.{Input}
use Rattle.curp_parcels.specs.declared.outgoing.Outgoing.{Outgoing}
use Rattle.curp_parcels.specs.declared.outgoing.Outgoing.TheVariants as out
use Rattle.curp_told.specs.Told.{input_behind, parcels_of, told}
use Rattle.curp_filter.specs.Coming.{arrival_in}
use Rattle.curp_filter.specs.declared.came.Came.{Came}
use Rattle.curp_filter.specs.declared.came.Came.TheVariants as came
use Rattle.curp_filter.specs.declared.came.PassedOver.{PassedOver}
use Rattle.curp_filter.specs.declared.came.PassedOver.TheVariants as passed

-- of one that isn't given to the node, by its number: it is refused by 254, or it is no parcel
abbrev pub passed_told : (number : ℕ) → PassedOver → Outgoing
passed_told number (passed.Misdirected arrived) = out.Refused number 254
passed_told number (passed.NoParcel at) = out.NoParcel number at

-- of one, by its number: what its node answered, or that
abbrev pub said_of : {N : Type 0} → (N → Input → Moved N) → Standing N → (number : ℕ) → Came → List Outgoing
said_of machine s number (came.Arrived arrived) = told number (answer_of machine s arrived)
said_of machine s number (came.PassedOver it) = passed_told number it ∷ []

-- of each, where the first has this number and its node stands here
abbrev pub said : {N : Type 0} → (N → Input → Moved N) → Standing N → (number : ℕ) → List Came → List Outgoing
said machine s number [] = []
said machine s number (c ∷ more) = said_of machine s number c ++ said machine (after machine s (arrival_in c)) (input_behind number 1) more

-- as bytes
abbrev pub text_of : {N : Type 0} → (N → Input → Moved N) → Standing N → (number : ℕ) → List Came → List ℕ
text_of machine s number cames = parcels_of (said machine s number cames)

-- of what stands behind arrivals, if it isn't given to the node
abbrev pub last_said : (number : ℕ) → Option PassedOver → List Outgoing
last_said number None = []
last_said number (Some it) = passed_told number it ∷ []
