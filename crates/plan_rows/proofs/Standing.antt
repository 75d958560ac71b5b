-- What a sound file gives planning: its rows and tables stand, and its timetable is timely. Assumes nothing.
use Prim.Native.Nat.{ℕ, suc, ◌≤◌, ◌<◌}
use mathlib.Core.List.{List, [], ◌∷◌}
use mathlib.Core.Option.{Option, none, some}
use mathlib.Core.Path.{◌≡◌, refl, ap, ap₂, ◌∙◌}
use native.Mathlib.Omega.{arith}
use lib.ListN.{length}
use Rattle.timetable.specs.Timetable.{Timetable, shares_of, maximum_delay, row_of}
use Rattle.timetable.specs.declared.Row.{Row}
use Rattle.file_layout.specs.declared.Format.{Format}
use Rattle.file_layout.specs.Format.{version_one}
use Rattle.file_layout.specs.Decode.{trailer_of, block_end, decode}
use Rattle.file_layout.proofs.Blocks.{table_has}
use Rattle.file_layout.proofs.Sound.{version_one_readable}
use Rattle.file_layout.specs.Sound.{block_at, SoundFile}
use Rattle.plans.specs.Sound.{Timely}
use Rattle.query.specs.declared.Query.{Query}
use Rattle.plans.specs.Journeys.{goal_of, bound_of, ready_at}
use Rattle.plans.specs.Worth.{Valued, first_open}
use Rattle.plans.specs.Chosen.{in_ticks, scan, scanned}
use Rattle.plans.specs.Plan.{planned, plan_before, plan_within, chosen_for, rides_from, latest_of, earliest}
use Rattle.plan_rows.specs.Reading.{rows_in, tables_in, timetable_in, RowFits, SharesFit, FileReadable, BlocksStand}
use Rattle.plan_rows.specs.Sections.{places_of, Plannable}

pub version_one_plannable : Plannable version_one
version_one_plannable = record { readable = version_one_readable; delays_fit = omega arith; minutes_fit = omega arith }

-- the rows and tables that a file decodes to are those that planning reads
pub same_rows : (f : Format) (s : List ℕ) → (decode f s).rows ≡ rows_in s (places_of f (trailer_of f s))
unfolding decode
same_rows f s = refl

pub same_tables : (f : Format) (s : List ℕ) → (decode f s).tables ≡ tables_in s (places_of f (trailer_of f s))
unfolding decode
same_tables f s = refl

-- planning looks at rows and tables alone
pub same_earliest : (f : Format) (s : List ℕ) (q : Query) → earliest (decode f s) q ≡ earliest (timetable_in s (places_of f (trailer_of f s))) q
unfolding decode earliest scanned
same_earliest f s q = refl

within_same : (one other : Timetable) → one.rows ≡ other.rows → one.tables ≡ other.tables → (q : Query) (bound : ℕ) (o : Option Valued)
    → plan_within one q bound o ≡ plan_within other q bound o
unfolding plan_within chosen_for scanned
within_same one other rows tables q bound none = refl
within_same one other rows tables q bound (some first) =
    ap₂
    (λ (ts : List (List ℕ)) (rs : List Row).
    let rides = rides_from q (scan (in_ticks (goal_of q bound)) ts 0 rs).chosen in
    some (record { rides = rides; expected = first.worth; latest = latest_of rides; bound = bound }))
    tables rows

before_same : (one other : Timetable) → one.rows ≡ other.rows → one.tables ≡ other.tables → (q : Query) (o : Option ℕ)
    → plan_before one q o ≡ plan_before other q o
unfolding plan_before chosen_for scanned
before_same one other rows tables q none = refl
before_same one other rows tables q (some e) =
    ap₂
    (λ (ts : List (List ℕ)) (rs : List Row).
    plan_within one q (bound_of q e) (first_open (scan (in_ticks (goal_of q (bound_of q e))) ts 0 rs).chosen q.source (ready_at q)))
    tables rows
    ∙ within_same one other rows tables q (bound_of q e) (first_open (chosen_for other (goal_of q (bound_of q e))) q.source (ready_at q))

pub same_plan : (f : Format) (s : List ℕ) (q : Query) → planned (decode f s) q ≡ planned (timetable_in s (places_of f (trailer_of f s))) q
unfolding planned
same_plan f s q =
    ap (plan_before (decode f s) q) (same_earliest f s q)
    ∙ before_same (decode f s) (timetable_in s (places_of f (trailer_of f s))) (same_rows f s) (same_tables f s) q
    (earliest (timetable_in s (places_of f (trailer_of f s))) q)

pub longest_small : (shares : List ℕ) (most : ℕ) → length shares ≤ suc most → maximum_delay shares ≤ most
longest_small [] most h = omega arith
longest_small (p ∷ shares) most h = omega arith

module _ (f : Format) (plannable : Plannable f) (s : List ℕ) (sound : SoundFile f s) where
  timely_file : Timely (decode f s)
  timely_file =
      record {
        rising = sound.rows.departures;
        forward = λ i h. (sound.rows.own i h).onward;
        shared = λ i h. (sound.row_shares i (omega (arith, sound.rows_count))).shares_whole;
      }

  shares_fit_file : (c : ℕ) → c < (trailer_of f s).classes → SharesFit (shares_of (decode f s).tables c)
  shares_fit_file c h =
      let shares = sound.class_shares c h in
      record {
        some_shares = shares.some_shares;
        few_shares = omega (arith, shares.few_shares, plannable.delays_fit);
        shares_whole = shares.shares_whole;
      }

  row_fits_file : (i : ℕ) → i < (trailer_of f s).rows → RowFits (trailer_of f s).classes (decode f s).tables (row_of (decode f s).rows i)
  row_fits_file i h =
      let own = sound.rows.own i (omega (arith, sound.rows_count)) in
      let shares = sound.row_shares i h in
      let stops = sound.trailer.in_range.stops_most in
      record {
        board = omega (arith, own.board);
        land = omega (arith, own.land);
        onward = own.onward;
        trip = own.trip;
        class = own.class;
        lands =
            omega (
              arith,
              own.arrival,
              longest_small (shares_of (decode f s).tables (row_of (decode f s).rows i).class) f.delay shares.few_shares,
              plannable.minutes_fit,
            );
      }

  pub stands : FileReadable s (places_of f (trailer_of f s))
  unfolding decode
  stands =
      record {
        few_rows = sound.rows_few;
        few_classes = sound.trailer.in_range.classes_most;
        rows_count = sound.rows_count;
        tables_count = sound.tables_count;
        row_readable = sound.row_readable;
        row_read = sound.row_read;
        row_fits = row_fits_file;
        departures = λ i j h below. sound.rows.departures i j h (omega (arith, sound.rows_count));
        shares_fit = shares_fit_file;
      }

  pub blocks_stand : BlocksStand s (places_of f (trailer_of f s))
  unfolding decode block_end
  blocks_stand =
      record {
        few_classes = sound.trailer.in_range.classes_most;
        tables_count = sound.tables_count;
        block_readable =
            λ c h.
            let at = block_at s (trailer_of f s).tablestart c in
            let block = sound.trailer.class_sound c h in
            omega (arith, ap length (sound.trailer.table_read c h), table_has s at, block.block_inside, sound.trailer_last);
        block_read = sound.trailer.table_read;
        shares_fit = shares_fit_file;
      }

  pub timely : Timely (timetable_in s (places_of f (trailer_of f s)))
  unfolding decode
  timely = record { rising = timely_file.rising; forward = timely_file.forward; shared = timely_file.shared }
