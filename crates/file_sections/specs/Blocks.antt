-- Document 01, "Numbers returned on refusal": class blocks read from the file, by where they end or by their first fault.
use Rattle.std.specs.Prelude.{ℕ, List, Result}
use Rattle.timetable.specs.declared.Refusal.{Refusal}
use Rattle.file_layout.specs.declared.Format.{Format}
use Rattle.file_layout.specs.Decode.{block_end, tables_end}
use Rattle.file_layout.specs.Check.{class_verdict, classes_verdict}
use Rattle.file_sections.specs.ReadBy.{read_by}

-- the block of class k, from byte `at` on
unfoldable pub block_read : Format → List ℕ → ℕ → ℕ → ℕ → Result ℕ (Refusal ℕ)
block_read f s end k at = read_by (block_end s at) (class_verdict f s end k at)

-- `left` blocks from class k on
unfoldable pub blocks_read : Format → List ℕ → ℕ → ℕ → ℕ → ℕ → Result ℕ (Refusal ℕ)
blocks_read f s end k at left = read_by (tables_end s at left) (classes_verdict f s end k at left)
