-- The loop over a plan slice's rides: what is still to be written are the lines of the rides that are left. Assumes nothing.
use Prim.Native.Nat.{ℕ, suc, ◌+◌, ◌*◌, ◌-◌, ◌≤◌, ◌<◌}
use mathlib.Core.List.{List, [], ◌∷◌, ◌++◌}
use mathlib.Core.Path.{◌≡◌, sym, ap, ◌∙◌}
use native.Mathlib.Numerals.{add-one}
use native.Mathlib.Omega.{arith}
use lib.ListN.{length, take, drop}
use lib.Seq.{drop-cons, drop-length}
use Rattle.timetable.specs.Timetable.{Timetable, row_of}
use Rattle.timetable.specs.declared.Row.{Row}
use Rattle.plans.specs.Worth.{Valued}
use Rattle.plan_slice.specs.Slice.{board_in, leave_in, worth_in, rides_in}
use Rattle.plan_slice.proofs.ReadBack.{ride_at, length_read, read_at}
use Rattle.text.specs.Put.{Put}
use Rattle.text.proofs.Putting.{Left, left_on, left_none, put_as}
use Rattle.sheet_text.specs.Sheet.{line_text, ride_text, rides_text}

module _ (t : Timetable) (plan : List ℕ) where
  -- the line of a ride whose rows were read
  pub line_read : (i : ℕ) {board leave : Row} {from to worth : ℕ} → board ≡ row_of t.rows from → from ≡ board_in plan i
      → leave ≡ row_of t.rows to → to ≡ leave_in plan i → worth ≡ worth_in plan i
      → line_text board.board board.departure leave.land leave.arrival worth ≡ ride_text (ride_at t plan i)
  unfolding ride_text
  line_read i {board} {leave} {worth = worth} boards from leaves to worths =
      ap (λ b. line_text b.board b.departure leave.land leave.arrival worth) (boards ∙ ap (row_of t.rows) from)
      ∙ ap (λ l. line_text first.board first.departure l.land l.arrival worth) (leaves ∙ ap (row_of t.rows) to)
      ∙ ap (line_text first.board first.departure last.land last.arrival) worths
    where
      first : Row
      first = row_of t.rows (board_in plan i)

      last : Row
      last = row_of t.rows (leave_in plan i)

  module _ (rides : ℕ) (room : 3 * rides ≤ length plan) where
    -- the rides from number i on
    abbrev pub rides_left : ℕ → List Valued
    rides_left i = drop i (rides_in t (take (3 * rides) plan))

    more_rides : (i : ℕ) → i < rides → rides_left i ≡ ride_at t plan i ∷ rides_left (suc i)
    more_rides i inside =
        let here : i < length (rides_in t (take (3 * rides) plan)) = omega (arith, length_read t rides plan room) in
        drop-cons (rides_in t (take (3 * rides) plan)) i (ride_at t plan i) here
        ∙ ap (λ v. v ∷ rides_left (suc i)) (read_at t rides plan room i inside (ride_at t plan i))

    more_lines : (i : ℕ) → i < rides → rides_text (rides_left i) ≡ ride_text (ride_at t plan i) ++ rides_text (rides_left (i + 1))
    unfolding rides_text
    more_lines i inside =
        ap rides_text (more_rides i inside) ∙ ap (λ k. ride_text (ride_at t plan i) ++ rides_text (rides_left k)) (sym (add-one i))

    no_more_lines : (i : ℕ) → i ≡ rides → rides_text (rides_left i) ≡ []
    unfolding rides_text
    no_more_lines i last =
        let read = rides_in t (take (3 * rides) plan) in
        ap (λ k. rides_text (drop k read)) (last ∙ sym (length_read t rides plan room)) ∙ ap rides_text (drop-length read)

    -- the line of ride i is written
    pub lines_on : {out : List ℕ} {at : ℕ} {whole between : List ℕ} {next : ℕ} (i : ℕ) → i < rides
        → Left out at whole between next (rides_text (rides_left i))
        → {text after : List ℕ} {last : ℕ} → text ≡ ride_text (ride_at t plan i) → Put between next text after last
        → Left out at whole after last (rides_text (rides_left (i + 1)))
    lines_on i inside l same p =
        left_on (ride_text (ride_at t plan i)) (rides_text (rides_left (i + 1))) (rw (more_lines i inside) at l) (put_as same p)

    pub lines_end : {out : List ℕ} {at : ℕ} {whole between : List ℕ} {next : ℕ} (i : ℕ) → i ≡ rides
        → Left out at whole between next (rides_text (rides_left i)) → Put out at whole between next
    lines_end i last l = left_none (rw (no_more_lines i last) at l)
