-- The plan that the definitions give is the one demanded. Uses all that a sound timetable keeps.
use mathlib.Core.Option.{some}
use mathlib.Core.Path.{◌≡◌}
use Rattle.timetable.specs.Timetable.{Timetable}
use Rattle.query.specs.declared.Query.{Query}
use Rattle.plans.specs.Sound.{Timely}
use Rattle.plans.specs.Plan.{Plan, planned}
use Rattle.demands.specs.Demanded.{Demanded}
use Rattle.demands.proofs.Demand2 as demand2
use Rattle.demands.proofs.Demand3 as demand3

pub plan_demanded : (t : Timetable) → Timely t → (q : Query) (p : Plan) → planned t q ≡ some p
    → Demanded t q p.rides p.expected p.latest p.bound
plan_demanded t timely q p is =
    record {
      bounded = demand2.bounded t timely q p is;
      safe = demand2.safe_plan t timely q p is;
      by_boarding_row = demand2.rising t timely q p is;
      own_worths = demand2.own_worths t timely q p is;
      its_rides = demand2.its_rides t timely q p is;
      begins = demand2.first_ride t timely q p is;
      latest_minute = demand2.latest_minute t timely q p is;
      expects = demand2.own_expected t timely q p is;
      gains = demand2.each_gains t timely q p is;
      loss = demand2.loss t timely q p is;
      minimum = demand2.minimum t timely q p is;
      carries = demand3.plan_carries timely q p is;
      every_ride_boarded = demand3.every_ride_boarded timely q p is;
    }
