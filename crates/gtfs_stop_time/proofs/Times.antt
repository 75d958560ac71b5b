-- What a line's two times make of their verdict: each well formed, and the departure not before the arrival. Assumes nothing.
use Prim.Native.Nat.{ℕ, ◌+◌, ◌≤◌, ◌<◌}
use mathlib.Core.Bool.{true, false}
use mathlib.Core.Path.{◌≡◌, ◌∙◌}
use native.Mathlib.Omega.{arith}
use lib.Dec.{leb}
use borrow.Author.Tests.{le-leb, lt-leb}
use Rattle.timetable.specs.Verdict.{fine, fault, unless}
use Rattle.timetable.proofs.Verdicts.{first_fine, second_fine, rule_holds, rule_passes, rule_stops, breaking_fault, holding_fine}
use Rattle.gtfs_fields.specs.Time.{time_minutes}
use Rattle.gtfs_stop_time.specs.StopTime.{FieldTexts, stop_time_of, time_rule}
use Rattle.gtfs_stop_time.specs.Faults.{times_verdict}
use Rattle.gtfs_stop_time.proofs.Numbers.{TimeTold}

module _ (start : ℕ) (texts : FieldTexts) where
  pub arrival_broken : time_rule start texts.arrival ≡ false → times_verdict start texts ≡ fault 12 2
  unfolding times_verdict
  arrival_broken e = rule_stops 12 2 _ e

  pub departure_broken : time_rule start texts.arrival ≡ true → time_rule start texts.departure ≡ false
      → times_verdict start texts ≡ fault 12 3
  unfolding times_verdict
  departure_broken p e = rule_passes 12 2 _ p ∙ rule_stops 12 3 _ e

  abbrev arrived : ℕ
  arrived = start + time_minutes texts.arrival

  abbrev departed : ℕ
  departed = start + time_minutes texts.departure

  -- of two times that are well formed the order is left
  times_left : time_rule start texts.arrival ≡ true → time_rule start texts.departure ≡ true
      → times_verdict start texts ≡ unless (leb arrived departed) 12 0
  unfolding times_verdict stop_time_of
  times_left p q = rule_passes 12 2 _ p ∙ rule_passes 12 3 _ q

  module _ {arrival departure : ℕ} (arrives : TimeTold start texts.arrival arrival) (departs : TimeTold start texts.departure departure) where
    pub order_broken : departure < arrival → times_verdict start texts ≡ fault 12 0
    order_broken h =
        times_left arrives.holds departs.holds
        ∙ breaking_fault 12 0 (lt-leb arrived departed (omega (arith, arrives.says, departs.says)))

    pub times_fine : arrival ≤ departure → times_verdict start texts ≡ fine
    times_fine h =
        times_left arrives.holds departs.holds
        ∙ holding_fine _ 12 0 (le-leb arrived departed (omega (arith, arrives.says, departs.says)))

  -- and a fine verdict tells that both are well formed
  pub times_hold : times_verdict start texts ≡ fine → (time_rule start texts.arrival ≡ true) × (time_rule start texts.departure ≡ true)
  unfolding times_verdict
  times_hold e =
      let departs = second_fine (unless (time_rule start texts.arrival) 12 2) _ e in (
        rule_holds (time_rule start texts.arrival) 12 2 (first_fine _ _ e),
        rule_holds (time_rule start texts.departure) 12 3 (first_fine _ _ departs),
      )
