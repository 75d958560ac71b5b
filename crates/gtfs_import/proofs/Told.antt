-- What the reading's answer and the check's tell. Assumes nothing.
use Prim.Native.Nat.{ℕ, ◌≤◌}
use mathlib.Core.List.{List, ◌++◌}
use mathlib.Core.Path.{◌≡◌, refl, sym, ap, ◌∙◌}
use native.Mathlib.Nat.{zero-add}
use native.Mathlib.Omega.{arith}
use lib.ListN.{length, drop}
use lib.Seq.{sets, sets-eq}
use Rattle.numbers.specs.Over.{over}
use Rattle.std.specs.Prelude.{Result, Ok, Err}
use Rattle.timetable.specs.Verdict.{refused}
use Rattle.timetable.specs.declared.Refusal.{Refusal}
use Rattle.file_layout.specs.declared.Trailer.{Trailer}
use Rattle.gtfs_stop_time.specs.StopTime.{StopTime}
use Rattle.gtfs_stop_times.specs.declared.Counts.{Counts}
use Rattle.gtfs_stop_times.specs.declared.Listed.{Listed}
use Rattle.gtfs_stop_times.specs.declared.LineFault.{LineFault}
use Rattle.gtfs_stop_times.specs.Answers.{counts_of, read_answer}
use Rattle.gtfs_stop_times.specs.declared.Wanted.TheVariants.{Rows}
use Rattle.gtfs_calls.specs.Reading.{Reading, said, wrong}
use Rattle.gtfs_import.specs.Import.{imported, refused_import, by_check}

-- the calls that were counted
pub record Counted (reading : Reading) (counts : Counts) : Type 0 where
  pub calls : List StopTime
  pub says : reading ≡ said calls
  pub counted : counts ≡ counts_of calls

pub same_listed : {one other : Listed} → ◌≡◌ {A = Result Listed LineFault} (Ok one) (Ok other) → one ≡ other
same_listed e = cc

pub same_fault : {one other : LineFault} → ◌≡◌ {A = Result Listed LineFault} (Err one) (Err other) → one ≡ other
same_fault e = cc

pub read_calls : (reading : Reading) (listed : Listed) → Ok listed ≡ read_answer Rows reading → Counted reading listed.counts
unfolding read_answer
read_calls (said calls) listed told = record { calls = calls; says = refl; counted = ap (λ l. l.counts) (same_listed told) }
read_calls (wrong number line column) listed told = absurd (let z : ◌≡◌ {A = ℕ} 0 1 = cc in let y : ⊥ = omega arith in y)

pub read_wrong : (reading : Reading) (told : LineFault) → Err told ≡ read_answer Rows reading → reading ≡ wrong told.number told.line told.column
unfolding read_answer
read_wrong (said calls) told e = absurd (let z : ◌≡◌ {A = ℕ} 0 1 = cc in let y : ⊥ = omega arith in y)
read_wrong (wrong n l k) told e = ap (λ f. wrong f.number f.line f.column) (sym (same_fault e))

module _ (file out : List ℕ) {told : Result Trailer (Refusal ℕ)} where
  pub kept_back : (number place : ℕ) → told ≡ refused number place → by_check file out told ≡ refused_import number place out
  unfolding by_check
  kept_back number place e = ap (by_check file out) e

  pub handed_over : (trailer : Trailer) → told ≡ Ok trailer
      → by_check file out told ≡ record { answer = imported trailer (length file); out = over file out }
  unfolding by_check
  handed_over trailer e = ap (by_check file out) e

-- a file put over the first bytes
pub put_over : (file out : List ℕ) → length file ≤ length out → sets out 0 file ≡ over file out
put_over file out fits = sets-eq file out 0 (omega arith) ∙ ap (λ k. file ++ drop k out) (zero-add (length file))
