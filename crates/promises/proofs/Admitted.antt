-- What an admitted call stands on: a sound file's timetable, two stops apart, a bound code; and how it leaves work. Assumes nothing.
use Prim.Native.Nat.{ℕ, ◌+◌, ◌*◌}
use native.Mathlib.Omega.{arith}
use mathlib.Core.List.{List, ◌++◌}
use mathlib.Core.Logic.{◌↔◌, inl, inr}
use mathlib.Core.Option.{none}
use mathlib.Core.Path.{◌≡◌, refl, ap, ◌∙◌}
use lib.ListN.{length, take, drop, replicate, length-replicate}
use lib.Seq.{take_at, drop_at}
use Rattle.timetable.specs.Verdict.{fine}
use Rattle.file_layout.specs.Format.{version_one}
use Rattle.file_layout.specs.Decode.{decode, trailer_of}
use Rattle.file_layout.specs.Sound.{SoundFile}
use Rattle.query.specs.declared.Query.{Query}
use Rattle.query.specs.Query.{QueryFits}
use Rattle.plans.specs.Sound.{Timely}
use Rattle.plans.specs.Journeys.{Journey}
use Rattle.plans.specs.Plan.{planned}
use Rattle.demands.proofs.Demand2 as demand2
use Rattle.plan_rows.proofs.Standing.{timely, version_one_plannable}
use Rattle.plan_whole.proofs.Bounds.{code_stands}
use Rattle.planner.specs.declared.Room.{Room}
use Rattle.planner.specs.Admission.{needs, work_room, admission, Admits}
use Rattle.planner.specs.Outcome.{cleared, work_after}
use Rattle.planner.proofs.Admitting.{file_sound, query_kept}

module _ (file : List ℕ) (q : Query) (work other : Room) (call : admission version_one file q work other ≡ fine) where
  admits : Admits version_one file (trailer_of version_one file) q work other
  admits = record { plannable = version_one_plannable; fine_call = call; read = refl }

  pub is_sound : SoundFile version_one file
  is_sound = file_sound admits

  pub is_timely : Timely (decode version_one file)
  unfolding decode
  is_timely =
      let stands = timely version_one version_one_plannable file is_sound in
      record { rising = stands.rising; forward = stands.forward; shared = stands.shared }

  pub query_fits : QueryFits (trailer_of version_one file).stops version_one.lastminute q
  query_fits = query_kept admits

  -- there is no plan exactly if there is no safe journey
  pub no_plan_exactly : (planned (decode version_one file) q ≡ none) ↔ ((end : ℕ) → Journey (decode version_one file) q end → ⊥)
  no_plan_exactly = demand2.no_safe_journey (decode version_one file) is_timely q (code_stands query_fits) query_fits.apart

-- work as an admitted call leaves it: the first 4n + 2,500 numbers are 0, and the rest are as they were
pub work_cleared : (file work after : List ℕ) → after ≡ work_after version_one file work
    → (take (4 * (trailer_of version_one file).rows + 2500) after ≡ replicate (4 * (trailer_of version_one file).rows + 2500) 0)
    × (drop (4 * (trailer_of version_one file).rows + 2500) after ≡ drop (4 * (trailer_of version_one file).rows + 2500) work)
unfolding cleared
work_cleared file work after e =
    let n = (trailer_of version_one file).rows in
    let room : needs (work_room (length work)) (trailer_of version_one file) ≡ 4 * n + 2500 = omega arith in
    let whole = e ∙ ap (λ k. replicate k 0 ++ drop k work) room in
    let zeros = length-replicate {A = ℕ} (4 * n + 2500) 0 in (
      ap (take (4 * n + 2500)) whole ∙ take_at (replicate (4 * n + 2500) 0) (drop (4 * n + 2500) work) (4 * n + 2500) zeros,
      ap (drop (4 * n + 2500)) whole ∙ drop_at (replicate (4 * n + 2500) 0) (drop (4 * n + 2500) work) (4 * n + 2500) zeros,
    )
