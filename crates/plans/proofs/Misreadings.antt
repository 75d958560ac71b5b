-- Each plausible error's timetable is answered as documents 01 and 02 say. Assumes nothing.
use mathlib.Core.Path.{refl}
use Rattle.plans.specs.Worth.{weigh, first_open, worth_or, caught, arrival_worth, change_worth}
use Rattle.plans.specs.Chosen.{when_safe, off_in_ticks, worth_of, off_in_minutes, next_of, get_off, stay_on, least_of, first_at, leads, others, choose, best_of, scan, scanned}
use Rattle.plans.specs.Plan.{earliest, chosen_for, in_window, wanted, up_to, windows_of, extract, rides_from, latest_of, plan_within, plan_before, planned}
use Rattle.plans.specs.Examples.{Hold, told_rides, told}
use Rattle.plans.specs.Misreadings.{misreadings}
use Rattle.plans.specs.Margins.{margin_cases}
use Rattle.plans.specs.Gates.{gate_cases}

pub misreadings_answered : Hold misreadings × Hold margin_cases × Hold gate_cases
unfolding misreadings margin_cases gate_cases told_rides told planned plan_before earliest weigh first_open worth_or caught arrival_worth change_worth when_safe off_in_ticks worth_of off_in_minutes next_of get_off stay_on least_of first_at leads others choose best_of scan scanned chosen_for in_window wanted up_to windows_of extract rides_from latest_of plan_within
misreadings_answered = (
  (refl, (refl, (refl, (refl, (refl, (refl, (refl, (refl, tt)))))))),
  (refl, (refl, (refl, (refl, (refl, (refl, (refl, (refl, (refl, tt))))))))),
  (refl, (refl, (refl, (refl, (refl, (refl, (refl, (refl, (refl, (refl, (refl, (refl, (refl, (refl, (refl, (refl, (refl, (refl, (refl, (refl, tt)))))))))))))))))))),
)
