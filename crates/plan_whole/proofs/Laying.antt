-- What is laid out of a sound file before planning, and the plan by its E. Uses a sound file's rows and tables.
use Prim.Native.Nat.{ℕ, ◌≤◌, ◌<◌}
use native.Mathlib.Omega.{arith}
use mathlib.Core.List.{List}
use mathlib.Core.Option.{some}
use mathlib.Core.Path.{◌≡◌, sym, ap, subst, ◌∙◌}
use Rattle.timetable.specs.Limits.{most_stops}
use Rattle.file_layout.specs.declared.Format.{Format}
use Rattle.file_layout.specs.declared.Trailer.{Trailer}
use Rattle.file_layout.specs.Decode.{trailer_of, decode}
use Rattle.query.specs.declared.Query.{Query}
use Rattle.plans.specs.Sound.{Timely}
use Rattle.plans.specs.Journeys.{bound_of, ready_at}
use Rattle.plans.specs.Plan.{planned, plan_before, earliest}
use Rattle.plan_rows.specs.declared.SectionPlaces.{SectionPlaces}
use Rattle.plan_rows.specs.Reading.{rows_in, tables_in, timetable_in, FileReadable, BlocksStand, Cut, TablesHeld}
use Rattle.plan_rows.specs.Sections.{places_of}
use Rattle.plan_rows.proofs.Standing.{stands, blocks_stand, timely, same_earliest, same_plan}
use Rattle.plan_whole.specs.Steps.{CallFits, PlanningInput, plan_in}

module _ (f : Format) (file : List ℕ) (trailer : Trailer) (q : Query) (asked : CallFits f file trailer q)
    (s : SectionPlaces) (from_trailer : s ≡ places_of f trailer) where
  where_they_stand : s ≡ places_of f (trailer_of f file)
  where_they_stand = from_trailer ∙ ap (places_of f) asked.read

  stops_few : trailer.stops ≤ most_stops
  stops_few = subst (λ (h : Trailer). h.stops ≤ most_stops) (sym asked.read) asked.sound.trailer.in_range.stops_most

  pub rows_stand : FileReadable file s
  rows_stand = subst (FileReadable file) (sym where_they_stand) (stands f asked.plannable file asked.sound)

  pub tables_stand : BlocksStand file s
  tables_stand = subst (BlocksStand file) (sym where_they_stand) (blocks_stand f asked.plannable file asked.sound)

  pub minute_fits : q.minute < 65536
  minute_fits = omega (arith, asked.fits.minute, asked.plannable.minutes_fit)

  pub lays : (tables : List ℕ) (first : ℕ) → TablesHeld tables (tables_in file s) → Cut (rows_in file s) (ready_at q) first
      → PlanningInput file s tables q first
  lays tables first held cut =
      record {
        stand = rows_stand;
        held = held;
        timely = subst (λ (x : SectionPlaces). Timely (timetable_in file x)) (sym where_they_stand) (timely f asked.plannable file asked.sound);
        source = omega (arith, asked.fits.source, stops_few);
        target = omega (arith, asked.fits.target, stops_few);
        apart = asked.fits.apart;
        minute = minute_fits;
        gate = asked.fits.gate;
        cut = cut;
      }

  pub earliest_there : earliest (decode f file) q ≡ earliest (timetable_in file s) q
  earliest_there =
      same_earliest f file q ∙ ap (λ (x : SectionPlaces). earliest (timetable_in file x) q) (sym where_they_stand)

  pub plan_there : planned (decode f file) q ≡ planned (timetable_in file s) q
  plan_there = same_plan f file q ∙ ap (λ (x : SectionPlaces). planned (timetable_in file x) q) (sym where_they_stand)

  pub rows_there : s.rows ≡ trailer.rows
  rows_there = ap (λ (x : SectionPlaces). x.rows) from_trailer

  -- the plan is the one within the bound that E gives
  pub plan_by_arrival : (e : ℕ) → earliest (timetable_in file s) q ≡ some e → planned (decode f file) q ≡ plan_in file s q (bound_of q e)
  unfolding planned plan_before
  plan_by_arrival e found = plan_there ∙ ap (plan_before (timetable_in file s) q) found
