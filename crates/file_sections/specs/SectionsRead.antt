-- Document 01, "Numbers returned on refusal": the check up to the joining of the sections, and its answer.
use Rattle.std.specs.Prelude.{ℕ, List, Result}
use Rattle.timetable.specs.declared.Refusal.{Refusal}
use Rattle.file_layout.specs.declared.Format.{Format}
use Rattle.file_layout.specs.declared.Trailer.{Trailer}
use Rattle.file_layout.specs.Decode.{trailer_of}
use Rattle.file_layout.specs.Check.{sections_verdict}
use Rattle.file_sections.specs.ReadBy.{read_by}

-- the trailer is handed on, or the first fault
unfoldable pub sections_read : Format → List ℕ → Result Trailer (Refusal ℕ)
sections_read f s = read_by (trailer_of f s) (sections_verdict f s)
