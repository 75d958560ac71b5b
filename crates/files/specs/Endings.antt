-- How the reading of a file ended: whether there is more of it than was read.
use Rattle.std.specs.Prelude.{Bool, true, false}
use Rattle.files.specs.declared.Ending.{Ending}
use Rattle.files.specs.declared.Ending.TheVariants.{Missing, Unreadable, Whole, More}

abbrev pub goes_on : Ending → Bool
goes_on Missing = false
goes_on Unreadable = false
goes_on Whole = false
goes_on More = true
