-- A ride by its stops, minutes and shares alone.
use Rattle.plans.specs.Rides.{Ride}

-- a ride without its row numbers
abbrev pub unnumbered : Ride → Ride
unnumbered r =
    record {
      board = 0;
      leave = 0;
      from = r.from;
      departs = r.departs;
      to = r.to;
      arrives = r.arrives;
      shares = r.shares;
    }
