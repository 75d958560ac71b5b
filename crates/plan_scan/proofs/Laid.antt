-- The lent cells as they are laid out before the first row is weighed: no next rows, rows counted, stacks parted.
use Prim.Native.Nat.{ℕ, suc, ◌+◌, ◌≤◌, ◌<◌}
use mathlib.Core.List.{List}
use mathlib.Core.Path.{◌≡◌, sym, ap, subst, ◌∙◌}
use native.Mathlib.Omega.{arith}
use lib.ListN.{length, get_or, set}
use lib.Seq.{slice, length-slice, get_or-set_same, get_or-set_other}
use Rattle.timetable.specs.Limits.{most_stops, most_trips}
use Rattle.plan_cells.specs.Cells.{trip_cells, stop_cells, size_cells, pair_cells, used, missing, filled, pair_cell}
use Rattle.plan_cells.specs.Outside.{SameOutside}
use Rattle.plan_cells.proofs.Filled.{filled_ahead, filled_inside}
use Rattle.plan_cells.proofs.Outside.{outside_then, outside_wider, outside_set, outside_filled}
use Rattle.plan_rows.specs.declared.SectionPlaces.{SectionPlaces}
use Rattle.plan_rows.specs.Reading.{rows_in, FileReadable}
use Rattle.plans.specs.declared.Goal.{Goal}
use Rattle.plan_stacks.specs.Stacks.{start_pair, stack_size}
use Rattle.plan_stacks.specs.Regions.{below, Parted}
use Rattle.plan_scan.specs.Regions.{count_at, Counted}
use Rattle.plan_scan.specs.Held.{Held}
use Rattle.plan_stacks.proofs.Regions.{below_same}
use Rattle.plan_scan.proofs.Regions.{below_count}
use Rattle.plan_scan.proofs.Limits.{no_limits}
use Rattle.plan_scan.proofs.Bounds.{held_begins}

-- no trip has a next row, no stop a size
module _ (n : ℕ) (w w₁ w₂ : List ℕ) (value : ℕ) (room : used n ≤ length w) (is : value ≡ n) (trips_filled : w₁ ≡ filled w trip_cells most_trips value)
    (sizes_filled : w₂ ≡ filled w₁ size_cells most_stops 0) where
  first_stays : SameOutside trip_cells (used n) w w₁
  first_stays =
      subst (λ (l : List ℕ). SameOutside trip_cells (used n) w l) (sym trips_filled)
      (outside_wider (omega arith) (omega arith) (outside_filled w trip_cells most_trips value (omega arith)))

  room₁ : used n ≤ length w₁
  room₁ = omega (arith, first_stays.same_length)

  pub emptied : SameOutside trip_cells (used n) w w₂
  emptied =
      outside_then first_stays
      (subst (λ (l : List ℕ). SameOutside trip_cells (used n) w₁ l) (sym sizes_filled)
      (outside_wider (omega arith) (omega arith) (outside_filled w₁ size_cells most_stops 0 (omega (arith, room₁)))))

  pub no_sizes : (stop : ℕ) → stop < most_stops → stack_size w₂ stop ≡ 0
  no_sizes stop h = ap (λ (l : List ℕ). stack_size l stop) sizes_filled ∙ filled_inside w₁ size_cells most_stops 0 stop (omega (arith, room₁)) h

  pub no_next : (trip : ℕ) → trip < most_trips → get_or w₂ (trip_cells + trip) 0 ≡ n
  no_next trip h =
      ap (λ (l : List ℕ). get_or l (trip_cells + trip) 0) sizes_filled ∙ filled_ahead w₁ size_cells most_stops 0 (trip_cells + trip) (omega (arith, room₁)) (omega arith)
      ∙ ap (λ (l : List ℕ). get_or l (trip_cells + trip) 0) trips_filled ∙ filled_inside w trip_cells most_trips value trip (omega arith) h ∙ is

module _ (file : List ℕ) (s : SectionPlaces) (goal : Goal) (first end : ℕ) (stand : FileReadable file s) (inside : end ≤ s.rows) (w₂ w₃ : List ℕ)
    (room : used s.rows ≤ length w₂) (counted : Counted (slice first end (rows_in file s)) w₂ w₃) where
  below_counts : (k : ℕ) → k ≤ most_stops → below (stack_size w₃) k ≡ below (λ stop. count_at stop (slice first end (rows_in file s))) k
  below_counts k h = below_same (stack_size w₃) (λ stop. count_at stop (slice first end (rows_in file s))) k (λ stop l. counted.counts stop (omega arith))

  -- the regions are as many pairs as the rows are at most
  pub parts_fit : s.rows + 1 + below (stack_size w₃) most_stops < 4294967296
  parts_fit =
      let same = below_counts most_stops (let z : most_stops ≤ most_stops = omega arith in z) in
      let few = below_count (slice first end (rows_in file s)) most_stops in
      let rows = length-slice first end (rows_in file s) (omega (arith, stand.rows_count)) in
      omega (arith, stand.few_rows)

  module _ (w₄ : List ℕ) (parted : Parted (s.rows + 1) w₃ w₄) (no_next : (trip : ℕ) → trip < most_trips → get_or w₂ (trip_cells + trip) 0 ≡ s.rows) where
    -- pair n holds no worth
    abbrev pub closed : List ℕ
    closed = set w₄ (pair_cell s.rows) missing

    room₄ : length w₄ ≡ length w₂
    room₄ = parted.outside.same_length ∙ counted.outside.same_length

    beside : (k : ℕ) → k < pair_cells → get_or closed k 0 ≡ get_or w₄ k 0
    beside k h = get_or-set_other w₄ (pair_cell s.rows) k missing 0 (λ e. omega arith)

    pub laid_stays : SameOutside trip_cells (used s.rows) w₂ closed
    laid_stays =
        outside_then (outside_wider (omega arith) (omega arith) counted.outside)
        (outside_then (outside_wider (omega arith) (omega arith) parted.outside)
        (outside_set w₄ (pair_cell s.rows) missing (omega arith) (omega arith)))

    pub laid_held : Held file s goal first end end closed no_limits
    laid_held =
        held_begins file s goal first end stand inside closed
        (λ trip h. beside (trip_cells + trip) (omega arith) ∙ parted.outside.ahead (trip_cells + trip) (omega arith)
        ∙ counted.outside.ahead (trip_cells + trip) (omega arith) ∙ no_next trip h)
        (get_or-set_same w₄ (pair_cell s.rows) missing 0 (omega (arith, room₄)))
        (λ stop h. let same = below_counts stop (omega arith) in
        let start : start_pair w₄ stop ≡ s.rows + 1 + below (stack_size w₃) stop = parted.starts stop h in
        beside (stop_cells + stop) (omega arith)
        ∙ (let z : start_pair w₄ stop ≡ suc s.rows + below (λ k. count_at k (slice first end (rows_in file s))) stop = omega arith in z))
        (λ stop h. beside (size_cells + stop) (omega arith) ∙ parted.empty stop h)
