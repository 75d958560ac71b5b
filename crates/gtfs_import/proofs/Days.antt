-- Service days, their first minutes, and the call's two tests ahead of the text. Assumes nothing.
use Prim.Native.Nat.{ℕ, ◌≤◌, ◌<◌}
use mathlib.Core.Bool.{Bool, true, false}
use mathlib.Core.List.{List}
use mathlib.Core.Path.{◌≡◌, refl, ap, ◌∙◌}
use native.Mathlib.Omega.{arith}
use lib.Dec.{leb}
use lib.ListN.{length}
use borrow.Author.Tests.{leb-true, le-leb, lt-leb}
use Rattle.laws.proofs.Tests.{ifb, both, both_left, both_right}
use Rattle.timetable.specs.Verdict.{or_else, unless, by_verdict}
use Rattle.file_layout.specs.Format.{version_one}
use Rattle.gtfs_stop_time.specs.StopTime.{day_start, last_minute}
use Rattle.gtfs_calls.specs.Reading.{stop_times}
use Rattle.gtfs_import.specs.Import.{first_day, last_day, day_rule, room_rule, ImportOutcome, refused_import, by_reading, import_outcome}

pub day_kept : (day : ℕ) → day_rule day ≡ true → (first_day ≤ day) × (day ≤ last_day)
unfolding day_rule
day_kept day e = (
  leb-true first_day day (both_left (leb first_day day) (leb day last_day) e),
  leb-true day last_day (both_right (leb first_day day) (leb day last_day) e),
)

pub served : (day : ℕ) → first_day ≤ day → day ≤ last_day → day_rule day ≡ true
unfolding day_rule
served day first last = both (le-leb first_day day first) (le-leb day last_day last)

pub unserved : (day : ℕ) → (first_day ≤ day → day ≤ last_day → ⊥) → day_rule day ≡ false
unserved day none =
    ifb (λ b. b ≡ false) (day_rule day) (λ service. let within = day_kept day service in absurd (none within.0 within.1)) (λ e. refl)

-- all service days start within the seven days
pub start_kept : (day : ℕ) → day_rule day ≡ true → day_start day ≤ last_minute
start_kept day e = let within = day_kept day e in omega arith

module _ (text : List ℕ) (day : ℕ) (out : List ℕ) where
  -- what the two tests make of the outcome
  tested : (service room : Bool) → ImportOutcome
  tested service room =
      by_verdict (λ number place. refused_import number place out) (by_reading (stop_times (day_start day) text) out)
      (or_else (unless service 6 0) (unless room 7 0))

  pub no_service_day : day_rule day ≡ false → import_outcome text day out ≡ refused_import 6 0 out
  unfolding import_outcome tested
  no_service_day e = ap (λ b. tested b (room_rule (length out))) e

  module _ (service : day_rule day ≡ true) where
    pub too_little_room : length out < version_one.mostbytes → import_outcome text day out ≡ refused_import 7 0 out
    unfolding import_outcome tested room_rule
    too_little_room little =
        ap (λ b. tested b (room_rule (length out))) service ∙ ap (tested true) (lt-leb version_one.mostbytes (length out) little)

    pub by_the_text : version_one.mostbytes ≤ length out → import_outcome text day out ≡ by_reading (stop_times (day_start day) text) out
    unfolding import_outcome tested room_rule
    by_the_text enough =
        ap (λ b. tested b (room_rule (length out))) service ∙ ap (tested true) (le-leb version_one.mostbytes (length out) enough)
