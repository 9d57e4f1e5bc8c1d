-- Where a mark stands, in the words of the definitions.
use Rattle.curp_model.specs.Marks.{Place, Executed, Looked, Quick}
use Rattle.curp_line.specs.declared.mark.MarkPlace.{MarkPlace}
use Rattle.curp_line.specs.declared.mark.MarkPlace.TheVariants as place

abbrev pub place_of : MarkPlace → Place
place_of (place.Executed index) = Executed index
place_of (place.Looked capture length) = Looked capture length
place_of (place.Quick capture) = Quick capture
