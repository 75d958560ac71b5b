use mathlib.Core.Path.{◌≡◌}
use lib.ListN.{drop}
use Rattle.gtfs_fields.specs.Whole.{whole_below}
use Rattle.gtfs_fields.proofs.Onward.{rest_below}
use Rattle.gtfs_fields.proofs.whole_below.Given as goal

abbrev pub invariant-loop-character : goal.invariant-loop-character
invariant-loop-character l = whole_below l.limit l.field ≡ rest_below l.limit l.value (drop l.character-index l.field)
