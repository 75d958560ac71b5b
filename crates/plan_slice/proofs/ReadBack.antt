-- The rides read back from a plan slice: those that were written, each by its own three numbers, and they write these again. Assumes nothing.
use Prim.Native.Nat.{ℕ, zero, suc, ◌+◌, ◌*◌, ◌≤◌, ◌<◌}
use mathlib.Core.List.{List, [], ◌∷◌, ◌++◌, Memᴰ}
use mathlib.Core.Path.{◌≡◌, refl, sym, ap, ap₂, ◌∙◌}
use native.Mathlib.Omega.{arith}
use lib.ListN.{length, get_or, take, length-append}
use lib.Seq.{take_at}
use Rattle.timetable.specs.Timetable.{Timetable}
use Rattle.plans.specs.Rides.{Ride, IsRide, ride_of}
use Rattle.plans.specs.Worth.{Valued}
use Rattle.plan_slice.specs.Slice.{written, rides_in, board_in, leave_in, worth_in, RidesFit}
use Rattle.plan_slice.proofs.Written.{length_written}

-- behind a ride's three numbers, ride i + 1 is ride i
module _ (a b c : ℕ) (plan : List ℕ) (i : ℕ) where
  behind : (k : ℕ) → get_or (a ∷ b ∷ c ∷ plan) (3 * suc i + k) 0 ≡ get_or plan (3 * i + k) 0
  behind k =
      let on : 3 * suc i + k ≡ suc (suc (suc (3 * i + k))) = omega arith in
      ap (λ n. get_or (a ∷ b ∷ c ∷ plan) n 0) on

  pub board_behind : board_in (a ∷ b ∷ c ∷ plan) (suc i) ≡ board_in plan i
  board_behind =
      let on : 3 * suc i ≡ suc (suc (suc (3 * i))) = omega arith in
      ap (λ n. get_or (a ∷ b ∷ c ∷ plan) n 0) on

  pub leave_behind : leave_in (a ∷ b ∷ c ∷ plan) (suc i) ≡ leave_in plan i
  leave_behind = behind 1

  pub worth_behind : worth_in (a ∷ b ∷ c ∷ plan) (suc i) ≡ worth_in plan i
  worth_behind = behind 2

module _ (t : Timetable) where
  -- what was written is read back
  pub read_back : (rides : List Valued) → ((v : Valued) → Memᴰ v rides → v.ride ≡ ride_of t v.ride.board v.ride.leave)
      → rides_in t (written rides) ≡ rides
  unfolding rides_in written
  read_back [] timed = refl
  read_back (v ∷ rides) timed =
      ap₂ (λ (r : Ride) (rest : List Valued). record { ride = r; worth = v.worth } ∷ rest) (sym (timed v (Memᴰ.head refl)))
      (read_back rides (λ u m. timed u (Memᴰ.tail m)))

  -- and so from the first three numbers a ride of the slice
  pub slice_read_back : (rides : List Valued) (rest : List ℕ) → ((v : Valued) → Memᴰ v rides → IsRide t v.ride)
      → rides_in t (take (3 * length rides) (written rides ++ rest)) ≡ rides
  slice_read_back rides rest are =
      ap (rides_in t) (take_at (written rides) rest (3 * length rides) (length_written rides)) ∙ read_back rides (λ v m. (are v m).as_timed)

  inside : (rides : List Valued) (rest : List ℕ) → ((v : Valued) → Memᴰ v rides → IsRide t v.ride)
      → (i : ℕ) → i < length rides
      → (board_in (written rides ++ rest) i < length t.rows) × (leave_in (written rides ++ rest) i < length t.rows)
  unfolding written
  inside [] rest are i h = absurd (let z : ⊥ = omega arith in z)
  inside (v ∷ rides) rest are zero h =
      let is = are v (Memᴰ.head refl) in
      let on : v.ride.board < length t.rows = omega (arith, is.onward, is.inside) in
      (on, is.inside)
  inside (v ∷ rides) rest are (suc i) h =
      let on = inside rides rest (λ u m. are u (Memᴰ.tail m)) i (omega arith) in
      rw (
        board_behind v.ride.board v.ride.leave v.worth (written rides ++ rest) i,
        leave_behind v.ride.board v.ride.leave v.worth (written rides ++ rest) i,
      ) on

  pub rides_fit : (rides : List Valued) (rest : List ℕ) → ((v : Valued) → Memᴰ v rides → IsRide t v.ride)
      → RidesFit (length t.rows) (written rides ++ rest) (length rides)
  rides_fit rides rest are =
      record {
        room = omega (arith, length_written rides, length-append (written rides) rest);
        boards = λ i h. (inside rides rest are i h).0;
        leaves = λ i h. (inside rides rest are i h).1;
      }

  -- ride number i of a slice is the one of its three numbers
  abbrev pub ride_at : List ℕ → ℕ → Valued
  ride_at plan i = record { ride = ride_of t (board_in plan i) (leave_in plan i); worth = worth_in plan i }

  -- the first ride of a slice, then those of the numbers behind
  read_more : (rides a b c : ℕ) (plan : List ℕ)
      → rides_in t (take (3 * suc rides) (a ∷ b ∷ c ∷ plan)) ≡ record { ride = ride_of t a b; worth = c } ∷ rides_in t (take (3 * rides) plan)
  unfolding rides_in
  read_more rides a b c plan =
      let on : 3 * suc rides ≡ suc (suc (suc (3 * rides))) = omega arith in
      ap (λ k. rides_in t (take k (a ∷ b ∷ c ∷ plan))) on

  pub length_read : (rides : ℕ) (plan : List ℕ) → 3 * rides ≤ length plan → length (rides_in t (take (3 * rides) plan)) ≡ rides
  unfolding rides_in
  length_read zero plan room = refl
  length_read (suc rides) [] room = absurd (let z : ⊥ = omega arith in z)
  length_read (suc rides) (a ∷ []) room = absurd (let z : ⊥ = omega arith in z)
  length_read (suc rides) (a ∷ b ∷ []) room = absurd (let z : ⊥ = omega arith in z)
  length_read (suc rides) (a ∷ b ∷ c ∷ plan) room =
      ap length (read_more rides a b c plan) ∙ ap suc (length_read rides plan (omega arith))

  pub read_at : (rides : ℕ) (plan : List ℕ) → 3 * rides ≤ length plan → (i : ℕ) → i < rides → (other : Valued)
      → get_or (rides_in t (take (3 * rides) plan)) i other ≡ ride_at plan i
  read_at zero plan room i h other = absurd (let z : ⊥ = omega arith in z)
  read_at (suc rides) [] room i h other = absurd (let z : ⊥ = omega arith in z)
  read_at (suc rides) (a ∷ []) room i h other = absurd (let z : ⊥ = omega arith in z)
  read_at (suc rides) (a ∷ b ∷ []) room i h other = absurd (let z : ⊥ = omega arith in z)
  read_at (suc rides) (a ∷ b ∷ c ∷ plan) room zero h other = ap (λ (l : List Valued). get_or l 0 other) (read_more rides a b c plan)
  read_at (suc rides) (a ∷ b ∷ c ∷ plan) room (suc i) h other =
      ap (λ (l : List Valued). get_or l (suc i) other) (read_more rides a b c plan)
      ∙ read_at rides plan (omega arith) i (omega arith) other
      ∙ sym (rw (board_behind a b c plan i, leave_behind a b c plan i, worth_behind a b c plan i))

  -- and what is read, three numbers a ride, writes the same numbers again
  pub written_back : (rides : ℕ) (plan : List ℕ) → 3 * rides ≤ length plan
      → written (rides_in t (take (3 * rides) plan)) ≡ take (3 * rides) plan
  unfolding rides_in written
  written_back zero plan room = refl
  written_back (suc rides) [] room = absurd (let z : ⊥ = omega arith in z)
  written_back (suc rides) (a ∷ []) room = absurd (let z : ⊥ = omega arith in z)
  written_back (suc rides) (a ∷ b ∷ []) room = absurd (let z : ⊥ = omega arith in z)
  written_back (suc rides) (a ∷ b ∷ c ∷ plan) room =
      let on : 3 * suc rides ≡ suc (suc (suc (3 * rides))) = omega arith in
      ap written (read_more rides a b c plan) ∙ ap (λ l. a ∷ b ∷ c ∷ l) (written_back rides plan (omega arith))
      ∙ sym (ap (λ k. take k (a ∷ b ∷ c ∷ plan)) on)
