-- Document 01, "The sailing file": the ranges that hold for every version of the file.
use Rattle.std.specs.Prelude.{ℕ}

-- S is 2 to 200; n is 0 to 2,000; K is 1 to 16
abbrev pub fewest_stops : ℕ
fewest_stops = 2

abbrev pub most_stops : ℕ
most_stops = 200

abbrev pub most_rows : ℕ
most_rows = 2000

abbrev pub fewest_classes : ℕ
fewest_classes = 1

abbrev pub most_classes : ℕ
most_classes = 16

-- trip is below 2,000
abbrev pub most_trips : ℕ
most_trips = 2000
