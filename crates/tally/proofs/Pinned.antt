-- Facts that pin tallying to document 02's own numbers: both sides of each line. Assumes nothing.
use Prim.Native.Nat.{ℕ}
use mathlib.Core.List.{List, [], ◌∷◌}
use mathlib.Core.Path.{◌≡◌, refl}
use lib.IntN.{pos, negsuc}
use lib.ListN.{set}
use Rattle.numbers.specs.Numbers.{u16_at}
use Rattle.file_layout.specs.Format.{version_one}
use Rattle.delay_tables.specs.Rising.{values_from}
use Rattle.tally.specs.Landing.{landing_at, lateness}
use Rattle.tally.specs.Tally.{count_at, place_of, empty_tally, counts_rule, room_rule, minutes_rule, with_landing}
use Rattle.tally.specs.Log.{landings_at, tally_of}
use Rattle.tally.specs.LogOutcome.{LogOutcome, landings_from, landings_in, log_outcome, log_answer}
use Rattle.tally.specs.Outcome.{landing_verdict, landing_outcome, tally_answer}

-- lateness may be below zero, and then counts as 0
pub lateness_line : lateness (landing_at 600 599) ∷ lateness (landing_at 600 600) ∷ lateness (landing_at 600 601) ∷ [] ≡ negsuc 0 ∷ pos 0 ∷ pos 1 ∷ []
lateness_line = refl

-- 1 early, on time, 1, 119, 120 and 121 late, as late as can be and as early
pub places_line : place_of 120 (landing_at 600 599) ∷ place_of 120 (landing_at 600 600) ∷ place_of 120 (landing_at 600 601) ∷ place_of 120 (landing_at 600 719)
    ∷ place_of 120 (landing_at 600 720) ∷ place_of 120 (landing_at 600 721) ∷ place_of 120 (landing_at 0 10079) ∷ place_of 120 (landing_at 10079 0) ∷ []
    ≡ 0 ∷ 0 ∷ 1 ∷ 119 ∷ 120 ∷ 121 ∷ 121 ∷ 0 ∷ []
unfolding place_of
places_line = refl

-- a landing 5 minutes late, for a tally with this count at this place: what is answered, and its own count afterwards
abbrev five_late : (place count : ℕ) → List ℕ
five_late place count =
    let o = landing_outcome version_one (landing_at 600 605) (set (empty_tally 120) place count) in
    (tally_answer o.answer).number ∷ (tally_answer o.answer).place ∷ count_at o.tally 5 ∷ count_at o.tally place ∷ []

-- its own count at 999,999, 1,000,000 and 1,000,001; another one's, and the apart one, at 1,000,000 and 1,000,001
pub counts_line : five_late 5 999999 ∷ five_late 5 1000000 ∷ five_late 5 1000001 ∷ five_late 6 1000000 ∷ five_late 6 1000001 ∷ five_late 121 1000000
    ∷ five_late 121 1000001 ∷ []
    ≡ (0 ∷ 0 ∷ 1000000 ∷ 1000000 ∷ []) ∷ (15 ∷ 0 ∷ 1000000 ∷ 1000000 ∷ []) ∷ (15 ∷ 0 ∷ 1000001 ∷ 1000001 ∷ []) ∷ (0 ∷ 0 ∷ 1 ∷ 1000000 ∷ [])
    ∷ (15 ∷ 0 ∷ 0 ∷ 1000001 ∷ []) ∷ (0 ∷ 0 ∷ 1 ∷ 1000000 ∷ []) ∷ (15 ∷ 0 ∷ 0 ∷ 1000001 ∷ []) ∷ []
unfolding landing_outcome landing_verdict minutes_rule counts_rule room_rule place_of with_landing tally_answer
counts_line = refl

-- the answer to a landing for a tally with this count of those on time
abbrev answer_to : (planned actual on_time : ℕ) → ℕ
answer_to planned actual on_time = (tally_answer (landing_outcome version_one (landing_at planned actual) (set (empty_tally 120) 0 on_time)).answer).number

-- minutes 10,079 and 10,080, either one; 14 before 15
pub minutes_line : answer_to 10079 10079 0 ∷ answer_to 10080 10079 0 ∷ answer_to 10079 10080 0 ∷ answer_to 10080 10080 1000001 ∷ answer_to 10079 10079 1000001 ∷ []
    ≡ 0 ∷ 14 ∷ 14 ∷ 14 ∷ 15 ∷ []
unfolding landing_outcome landing_verdict minutes_rule counts_rule room_rule place_of tally_answer
minutes_line = refl

-- the tally of a log: two on time, of which one is early, one 3 late, one apart
pub small_log : tally_of 4 (landing_at 600 598 ∷ landing_at 600 603 ∷ landing_at 600 605 ∷ landing_at 700 700 ∷ []) ≡ 2 ∷ 0 ∷ 0 ∷ 1 ∷ 0 ∷ 1 ∷ []
unfolding tally_of values_from landings_at place_of
small_log = refl

-- a log's bytes: four a landing, and what is left over is none
pub log_bytes : landings_in (88 ∷ 2 ∷ 93 ∷ 2 ∷ 95 ∷ 39 ∷ 0 ∷ 0 ∷ 7 ∷ 7 ∷ 7 ∷ []) ≡ landing_at 600 605 ∷ landing_at 10079 0 ∷ []
unfolding landings_in landings_from u16_at
log_bytes = refl

-- a log of three landings, of which the second is refused: the first is counted, and the place is the second's
abbrev stopped : LogOutcome
stopped = log_outcome version_one 0 (landing_at 600 605 ∷ landing_at 600 10080 ∷ landing_at 600 606 ∷ []) (empty_tally 120)

pub log_stops : (log_answer stopped.answer).number ∷ (log_answer stopped.answer).place ∷ count_at stopped.tally 5 ∷ count_at stopped.tally 6 ∷ []
    ≡ 14 ∷ 1 ∷ 1 ∷ 0 ∷ []
unfolding log_outcome landing_outcome landing_verdict minutes_rule counts_rule room_rule place_of with_landing log_answer
log_stops = refl
