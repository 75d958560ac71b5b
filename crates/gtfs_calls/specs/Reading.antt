-- Document 02, E2: the text's calls, or its first fault by line.
use Rattle.std.specs.Prelude.{ℕ, suc, List, [], ◌∷◌, length, drop, get_or}
use Rattle.timetable.specs.Verdict.{by_verdict}
use Rattle.gtfs_lines.specs.declared.Columns.{Columns}
use Rattle.gtfs_lines.specs.Lines.{lines_of, has_quote}
use Rattle.gtfs_lines.specs.Columns.{columns_of}
use Rattle.gtfs_stop_time.specs.StopTime.{StopTime, texts_on, stop_time_of}
use Rattle.gtfs_calls.specs.Faults.{line_verdict, header_verdict}

-- all calls, the last one first; or a fault's number, its line and the column that it is in
pub data Reading : Type 0 where
  said : List StopTime → Reading
  wrong : (number line column : ℕ) → Reading

-- line by line, from line `number` on, behind the calls read so far
unfoldable pub read_from : Columns → (start : ℕ) → List StopTime → (line : ℕ) → List (List ℕ) → Reading
read_from columns start back number [] = said back
read_from columns start back number (line ∷ lines) =
    let on = read_from columns start (stop_time_of start (texts_on columns line) ∷ back) (suc number) lines in
    by_verdict (λ fault column. wrong fault number column) on (line_verdict columns start back line)

-- the header is line 1; where there is no line, it is empty
unfoldable pub stop_times : (start : ℕ) → (text : List ℕ) → Reading
stop_times start text =
    let header = get_or (lines_of text) 0 [] in
    let on = read_from (columns_of header) start [] 2 (drop 1 (lines_of text)) in
    by_verdict (λ fault column. wrong fault 1 column) on (header_verdict (has_quote header) (columns_of header))
