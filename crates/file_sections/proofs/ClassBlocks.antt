-- Laws on class blocks: what reading one answers by its tests, and what reading several answers by the first. Assumes nothing.
use Prim.Native.Nat.{ℕ, zero, suc, ◌+◌, ◌-◌, ◌≤◌, ◌<◌}
use mathlib.Core.Path.{◌≡◌, refl, ap, sym}
use mathlib.Core.List.{List}
use native.Mathlib.Numerals.{add-one}
use native.Mathlib.Omega.{arith}
use Rattle.timetable.specs.Verdict.{Verdict, fine, fault, told_fault}
use Rattle.timetable.specs.declared.Refusal.{Refusal}
use Rattle.file_layout.specs.declared.Format.{Format}
use Rattle.file_layout.specs.Decode.{block_end, tables_end}
use Rattle.file_layout.specs.Check.{class_verdict, classes_verdict}
use Rattle.std.specs.Prelude.{Ok, Err}
use Rattle.file_sections.specs.ReadBy.{read_by}
use Rattle.file_sections.specs.Blocks.{block_read, blocks_read}

-- what an answer says of the verdict behind it, and of the verdicts behind that one
module _ {A : Type 0} (read : A) where
  pub ok_by : (told : A) (v : Verdict) → read_by read v ≡ Ok told → (v ≡ fine) × (read ≡ told)
  ok_by told fine e = (refl, (cc))
  ok_by told (fault number place) e = absurd (let no' : ⊥ = cc in no')

  pub err_by : (refusal : Refusal ℕ) (v : Verdict) → read_by read v ≡ Err refusal → v ≡ fault refusal.number refusal.place
  err_by refusal fine e = absurd (let no' : ⊥ = cc in no')
  err_by refusal (fault n p) e = ap told_fault e

-- the first block keeps its rules: the answer is that of the rest
pub blocks_on : (f : Format) (s : List ℕ) (end k at left next : ℕ) → k < left → Ok next ≡ block_read f s end k at
    → blocks_read f s end k at (left - k) ≡ blocks_read f s end (k + 1) next (left - (k + 1))
unfolding block_read blocks_read classes_verdict tables_end
blocks_on f s end k at left next more e =
    let known = ok_by (block_end s at) next (class_verdict f s end k at) (sym e) in
    let one : left - k ≡ suc (left - (k + 1)) = omega arith in
    rw (one, tables_end, known.0, known.1, add-one k)

-- it breaks one: the answer is its fault
pub blocks_stop : (f : Format) (s : List ℕ) (end k at left : ℕ) (refusal : Refusal ℕ) → k < left → Err refusal ≡ block_read f s end k at
    → blocks_read f s end k at (left - k) ≡ Err refusal
unfolding block_read blocks_read classes_verdict tables_end
blocks_stop f s end k at left refusal more e =
    let one : left - k ≡ suc (left - (k + 1)) = omega arith in
    rw (one, err_by (block_end s at) refusal (class_verdict f s end k at) (sym e))

pub blocks_end : (f : Format) (s : List ℕ) (end k at left : ℕ) → left ≤ 0 → blocks_read f s end k at left ≡ Ok at
unfolding blocks_read classes_verdict tables_end
blocks_end f s end k at zero h = refl
blocks_end f s end k at (suc left) h = absurd (omega arith)
