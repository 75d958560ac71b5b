-- Document 01, "The sailing file": a file without a fault: its trailer, its class blocks, its rows and the timetable that they hold.
use Rattle.std.specs.Prelude.{ℕ, zero, suc, ◌+◌, ◌*◌, ◌≤◌, ◌<◌, List, [], ◌⊎◌, ◌≡◌, length, get_or}
use Rattle.numbers.specs.Numbers.{u16_at}
use Rattle.timetable.specs.Classes.{sum, share_total, last_share}
use Rattle.timetable.specs.Limits.{fewest_stops, most_stops, most_rows, fewest_classes, most_classes}
use Rattle.timetable.specs.Sound.{RowsSound}
use Rattle.timetable.specs.Timetable.{shares_of, row_of}
use Rattle.file_layout.specs.declared.Format.{Format}
use Rattle.file_layout.specs.declared.Trailer.{Trailer}
use Rattle.file_layout.specs.Decode.{trailer_start, trailer_of, row_at, table_at, block_end, tables_end, decode}
use Rattle.file_layout.specs.Check.{ranges_of}

-- the byte where the k-th class block from `at` on starts
unfoldable pub block_at : List ℕ → ℕ → ℕ → ℕ
block_at s at zero = at
block_at s at (suc k) = block_at s (block_end s at) k

-- a block that starts at `at` and keeps every rule of a class, ahead of the trailer's start `end`
pub record ClassSound (f : Format) (s : List ℕ) (end at : ℕ) : Type 0 where
  pub delay_inside : at + 2 ≤ end
  pub delay_small : u16_at s at ≤ f.delay
  pub block_inside : block_end s at ≤ end
  pub table_length : length (table_at s at) ≡ suc (u16_at s at)
  pub shares_whole : sum (table_at s at) ≡ share_total
  pub last_counts : 1 ≤ last_share (table_at s at)

-- file length and the trailer's numbers inside their ranges (1)
pub record InRange (f : Format) (s : List ℕ) (h : Trailer) : Type 0 where
  pub not_short : f.fewestbytes ≤ length s
  pub not_long : length s ≤ f.mostbytes
  pub version : h.version ≡ f.version
  pub stops_least : fewest_stops ≤ h.stops
  pub stops_most : h.stops ≤ most_stops
  pub rows_most : h.rows ≤ most_rows
  pub classes_least : fewest_classes ≤ h.classes
  pub classes_most : h.classes ≤ most_classes

-- one section starts at 0, the other where that one ends, and the second ends at `end` (2)
abbrev pub Joins : (rows rows_end tables ends end : ℕ) → Type 0
Joins rows rows_end tables ends end =
    ((rows ≡ 0) × (tables ≡ rows_end) × (ends ≡ end)) ⊎ ((tables ≡ 0) × (rows ≡ ends) × (rows_end ≡ end))

-- all that a fine trailer tells
pub record TrailerSound (f : Format) (s : List ℕ) : Type 0 where
  pub in_range : InRange f s (trailer_of f s)
  pub sections :
      Joins (trailer_of f s).rowstart ((trailer_of f s).rowstart + f.width * (trailer_of f s).rows) (trailer_of f s).tablestart
      (tables_end s (trailer_of f s).tablestart (trailer_of f s).classes) (trailer_start f s)
  pub rows_inside : (trailer_of f s).rowstart + f.width * (trailer_of f s).rows ≤ trailer_start f s
  pub tables_inside : tables_end s (trailer_of f s).tablestart (trailer_of f s).classes ≤ trailer_start f s
  pub trailer_last : f.trailer ≤ f.fewestbytes → trailer_start f s + f.trailer ≡ length s
  pub class_sound : (k : ℕ) → k < (trailer_of f s).classes → ClassSound f s (trailer_start f s) (block_at s (trailer_of f s).tablestart k)
  pub tables_count : length (decode f s).tables ≡ (trailer_of f s).classes
  pub table_read : (k : ℕ) → k < (trailer_of f s).classes
      → get_or (decode f s).tables k [] ≡ table_at s (block_at s (trailer_of f s).tablestart k)

-- shares that keep the rule of a class
pub record SharesSound (f : Format) (shares : List ℕ) : Type 0 where
  pub some_shares : 1 ≤ length shares
  pub few_shares : length shares ≤ suc f.delay
  pub shares_whole : sum shares ≡ share_total
  pub last_counts : 1 ≤ last_share shares

-- a file without a fault, and the timetable that it decodes to
pub record SoundFile (f : Format) (s : List ℕ) : Type 0 where
  pub trailer : TrailerSound f s
  pub trailer_last : trailer_start f s + f.trailer ≡ length s
  pub stops_read : (decode f s).stops ≡ (trailer_of f s).stops
  pub rows_count : length (decode f s).rows ≡ (trailer_of f s).rows
  pub rows_few : (trailer_of f s).rows ≤ most_rows
  pub row_read : (i : ℕ) → i < (trailer_of f s).rows
      → row_of (decode f s).rows i ≡ row_at s ((trailer_of f s).rowstart + f.width * i)
  pub row_inside : (i : ℕ) → i < (trailer_of f s).rows
      → (trailer_of f s).rowstart + f.width * i + f.width ≤ trailer_start f s
  pub row_readable : (i : ℕ) → i < (trailer_of f s).rows → (trailer_of f s).rowstart + f.width * i + 11 < length s
  pub rows : RowsSound (ranges_of f (trailer_of f s)) (decode f s).rows
  pub tables_count : length (decode f s).tables ≡ (trailer_of f s).classes
  pub class_shares : (c : ℕ) → c < (trailer_of f s).classes → SharesSound f (shares_of (decode f s).tables c)
  -- the class of a row has a table
  pub row_shares : (i : ℕ) → i < (trailer_of f s).rows → SharesSound f (shares_of (decode f s).tables (row_of (decode f s).rows i).class)
