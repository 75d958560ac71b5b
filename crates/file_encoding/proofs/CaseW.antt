-- Document 01, "Case W": what its 92 bytes decode to, and what the check says of them and of edits of them. Assumes nothing.
use mathlib.Core.List.{[], ◌∷◌}
use mathlib.Core.Path.{◌≡◌, refl}
use lib.ListN.{length, take, set}
use Rattle.timetable.specs.Timetable.{Timetable}
use Rattle.timetable.specs.Verdict.{refused}
use Rattle.timetable.specs.Classes.{sum, shares_rule}
use Rattle.timetable.specs.Rows.{own_rule, departure_rule, last_of_trip, follows, trip_rule, row_verdict, rows_verdict}
use Rattle.timetable.proofs.Pinned.{row}
use Rattle.file_layout.specs.Format.{version_one}
use Rattle.file_layout.specs.CaseW.{case_w, tables_first}
use Rattle.numbers.specs.Numbers.{u16_at, u32_at, u16_bytes, u32_bytes}
use Rattle.file_layout.specs.Decode.{trailer_start, trailer_at, trailer_of, row_at, rows_from, shares_from, table_at, block_end, tables_from, tables_end, decode}
use Rattle.file_encoding.specs.Encode.{row_bytes, rows_bytes, shares_bytes, table_bytes, tables_bytes, trailer_bytes, encode}
use Rattle.file_layout.specs.Check.{length_rule, trailer_rule, class_verdict, classes_verdict, sections_join, joined, sections_verdict, file_verdict, answered, answer_of, checked_as, checked}

-- the rows and classes that document 01 lists
abbrev pub sailings_w : Timetable
sailings_w =
    record {
      stops = 3;
      rows = row 0 1 600 630 0 1 ∷ row 1 2 632 660 1 0 ∷ row 1 2 636 700 2 0 ∷ row 1 2 650 690 3 0 ∷ [];
      tables = (4096 ∷ []) ∷ (2048 ∷ 0 ∷ 0 ∷ 0 ∷ 0 ∷ 1024 ∷ 0 ∷ 0 ∷ 0 ∷ 0 ∷ 1024 ∷ []) ∷ [];
    }

pub bytes_decoded : (length case_w ≡ 92) × (decode version_one case_w ≡ sailings_w) × (decode version_one tables_first ≡ sailings_w)
unfolding decode trailer_start trailer_of trailer_at rows_from row_at tables_from table_at shares_from block_end u32_at u16_at
bytes_decoded = (refl, refl, refl)

-- the encoder writes them, rows first
pub bytes_encoded : encode version_one sailings_w ≡ case_w
unfolding encode rows_bytes row_bytes tables_bytes table_bytes shares_bytes trailer_bytes u32_bytes u16_bytes
bytes_encoded = refl

pub sound_both_ways : (answer_of (checked case_w) ≡ record { number = 0; place = 0; values = 3 ∷ 4 ∷ 2 ∷ [] })
    × (answer_of (checked tables_first) ≡ record { number = 0; place = 0; values = 3 ∷ 4 ∷ 2 ∷ [] })
unfolding answer_of checked checked_as answered
    file_verdict sections_verdict length_rule trailer_rule classes_verdict class_verdict joined sections_join shares_rule sum
    rows_verdict row_verdict own_rule departure_rule trip_rule follows last_of_trip
    decode trailer_start trailer_of trailer_at rows_from row_at tables_from tables_end table_at shares_from block_end u32_at u16_at
sound_both_ways = (refl, refl)

-- one fault each: file length, version, S, n, K; a class's M, shares that run past the trailer, sum; a row's own rule, departures
pub refused_by_number : (checked (take 19 case_w) ≡ refused 1 0) × (checked (set case_w 76 2) ≡ refused 1 0)
    × (checked (set case_w 78 1) ≡ refused 1 0) × (checked (set case_w 81 8) ≡ refused 1 0) × (checked (set case_w 82 17) ≡ refused 1 0)
    × (checked (set case_w 52 121) ≡ refused 3 1) × (checked (set case_w 52 11) ≡ refused 2 0) × (checked (set case_w 50 1) ≡ refused 3 0)
    × (checked (set case_w 24 3) ≡ refused 4 2) × (checked (set case_w 28 119) ≡ refused 5 2)
unfolding checked checked_as answered file_verdict sections_verdict length_rule trailer_rule classes_verdict class_verdict joined sections_join shares_rule sum
    rows_verdict row_verdict own_rule departure_rule trip_rule follows last_of_trip
    decode trailer_start trailer_of trailer_at rows_from row_at tables_from tables_end table_at shares_from block_end u32_at u16_at
refused_by_number = (refl, refl, refl, refl, refl, refl, refl, refl, refl, refl)

-- two faults each, and the first in the order of refusals decides: 1, then classes, then joining, then row by row
pub refused_in_order : (checked (set (set case_w 76 2) 50 1) ≡ refused 1 0) × (checked (set (set case_w 84 1) 50 1) ≡ refused 3 0)
    × (checked (set (set case_w 84 1) 24 3) ≡ refused 2 0) × (checked (set (set case_w 24 3) 40 0) ≡ refused 4 2)
    × (checked (set (set case_w 28 119) 36 3) ≡ refused 5 2)
unfolding checked checked_as answered file_verdict sections_verdict length_rule trailer_rule classes_verdict class_verdict joined sections_join shares_rule sum
    rows_verdict row_verdict own_rule departure_rule trip_rule follows last_of_trip
    decode trailer_start trailer_of trailer_at rows_from row_at tables_from tables_end table_at shares_from block_end u32_at u16_at
refused_in_order = (refl, refl, refl, refl, refl)
