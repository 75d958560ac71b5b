-- The scan of the rows from row i on, row by row. Assumes nothing.
use Prim.Native.Nat.{ℕ, zero, suc, ◌+◌, ◌<◌}
use native.Mathlib.Nat.{add-zero, le_refl}
use native.Mathlib.Omega.{arith}
use mathlib.Core.Bool.{cond}
use mathlib.Core.List.{List, [], ◌∷◌}
use mathlib.Core.Option.{Option, none}
use mathlib.Core.Path.{◌≡◌, refl, sym, ap, ◌∙◌}
use lib.Dec.{eqb}
use lib.ListN.{length, get_or, drop, drop_of_length-le}
use lib.Seq.{drop-cons}
use Rattle.timetable.specs.Timetable.{Timetable, row_of, no_row}
use Rattle.plans.specs.Worth.{Valued}
use Rattle.plans.specs.Chosen.{Aim, Weighed, Scan, scan, scanned, best_of, choose, next_of, least_of, get_off, stay_on, row_ride}
use Rattle.plans.specs.FromRow.{scan_from, chosen_from, best_at, next_from, off_at}

module _ (aim : Aim) (t : Timetable) where
  pub scan_row : (i : ℕ) → i < length t.rows → scan_from aim t i
      ≡ record {
        weighed = record { trip = (row_of t.rows i).trip; best = best_at aim t i } ∷ (scan_from aim t (suc i)).weighed;
        chosen = choose aim (best_at aim t i)
            (chosen_from aim t (suc i));
      }
  unfolding scan_from chosen_from best_at scan
  scan_row i h = ap (scan aim t.tables i) (drop-cons t.rows i no_row h)

  pub scan_end : scan_from aim t (length t.rows) ≡ record { weighed = []; chosen = [] }
  unfolding scan_from scan
  scan_end = ap (scan aim t.tables (length t.rows)) (drop_of_length-le t.rows (le_refl (length t.rows)))

  pub chosen_row : (i : ℕ) → i < length t.rows → chosen_from aim t i ≡ choose aim (best_at aim t i) (chosen_from aim t (suc i))
  unfolding chosen_from
  chosen_row i h = ap (λ (s : Scan). s.chosen) (scan_row i h)

  pub chosen_end : chosen_from aim t (length t.rows) ≡ []
  unfolding chosen_from
  chosen_end = ap (λ (s : Scan). s.chosen) scan_end

  pub chosen_all : (scanned aim t).chosen ≡ chosen_from aim t 0
  unfolding scanned chosen_from scan_from
  chosen_all = refl

  pub next_row :
      (i trip : ℕ) → i < length t.rows → next_from aim t i trip ≡ cond (eqb (row_of t.rows i).trip trip) (best_at aim t i) (next_from aim t (suc i) trip)
  unfolding next_from next_of
  next_row i trip h = ap (λ (s : Scan). next_of s.weighed trip) (scan_row i h)

  pub next_end : (trip : ℕ) → next_from aim t (length t.rows) trip ≡ none
  unfolding next_from next_of
  next_end trip = ap (λ (s : Scan). next_of s.weighed trip) scan_end

  pub best_row_lem :
      (i : ℕ) → best_at aim t i
      ≡ least_of (get_off (row_ride t.tables i (row_of t.rows i)) (off_at aim t i))
      (stay_on i (row_of t.rows i) (next_from aim t (suc i) (row_of t.rows i).trip))
  unfolding best_at best_of off_at next_from chosen_from
  best_row_lem i = refl

  -- a row's best ride stands as far from the scan's first row as the row does
  pub weighed_at : (k i : ℕ) (past : Weighed) → i + k < length t.rows → (get_or (scan_from aim t i).weighed k past).best ≡ best_at aim t (i + k)
  weighed_at zero i past h =
      ap (λ (s : Scan). (get_or s.weighed zero past).best) (scan_row i (let z : i < length t.rows = omega arith in z))
      ∙ ap (best_at aim t) (sym (add-zero i))
  weighed_at (suc k) i past h =
      ap (λ (s : Scan). (get_or s.weighed (suc k) past).best) (scan_row i (let z : i < length t.rows = omega arith in z))
      ∙ weighed_at k (suc i) past (let z : suc i + k < length t.rows = omega arith in z)
      ∙ ap (best_at aim t) (let z : suc i + k ≡ i + suc k = omega arith in z)
