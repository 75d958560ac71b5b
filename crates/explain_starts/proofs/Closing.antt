-- Halving closes in on the last start, since who can start later can start earlier; and there is one last start. Assumes nothing.
use Prim.Native.Nat.{ℕ, ◌-◌, zero-le, ◌≤◌, ◌<◌}
use native.Mathlib.Omega.{arith}
use mathlib.Core.Path.{◌≡◌, refl, ap}
use Rattle.timetable.specs.Timetable.{Timetable}
use Rattle.plans.proofs.EarliestSafe.{journey_earlier}
use Rattle.std.specs.Prelude.{Option, Some, None}
use Rattle.explain_starts.specs.Starts.{Starts, LastStart, until, never}

module _ (t : Timetable) (source target gate : ℕ) where
  pub starts_earlier : {minute later : ℕ} → minute ≤ later → Starts t source target gate later → Starts t source target gate minute
  starts_earlier before there = (there.0, journey_earlier t source target gate before there.1)

  -- one can start at `low` and at no minute behind `high`
  pub record Closing (last low high : ℕ) : Type 0 where
    pub ordered : low ≤ high
    pub inside : high ≤ last
    pub there : Starts t source target gate low
    pub none_behind : (later : ℕ) → high < later → later ≤ last → Starts t source target gate later → ⊥

  -- who cannot start at minute 0 cannot start at all
  pub never_any : (last : ℕ) → (Starts t source target gate 0 → ⊥) → LastStart t source target gate last None
  never_any last none = never (λ minute _ there. none (starts_earlier zero-le there))

  pub closing_first : (last : ℕ) → Starts t source target gate 0 → Closing last 0 last
  closing_first last there =
      record {
        ordered = zero-le;
        inside = omega arith;
        there = there;
        none_behind = λ later behind within. absurd (let z : ⊥ = omega arith in z);
      }

  module _ {last low high middle : ℕ} (closing : Closing last low high) (above : low < middle) (within : middle ≤ high) where
    pub closing_up : Starts t source target gate middle → Closing last middle high
    closing_up there = record { ordered = within; inside = closing.inside; there = there; none_behind = closing.none_behind }

    pub closing_down : (Starts t source target gate middle → ⊥) → Closing last low (middle - 1)
    closing_down none =
        record {
          ordered = omega arith;
          inside = omega (arith, closing.inside);
          there = closing.there;
          none_behind = λ later behind _ there. none (starts_earlier (omega arith) there);
        }

  pub closing_end : {last low high : ℕ} → Closing last low high → high ≤ low → LastStart t source target gate last (Some low)
  closing_end {low = low} closing closed =
      until {minute = low} (omega (arith, closing.ordered, closing.inside)) closing.there
      (λ later behind within. closing.none_behind later (omega arith) within)

-- there is one last start
pub one_last_start : {t : Timetable} {source target gate last : ℕ} {one other : Option ℕ} → LastStart t source target gate last one
    → LastStart t source target gate last other → one ≡ other
one_last_start (never a) (never b) = refl
one_last_start (never a) (until {minute} within there behind) = absurd (a minute within there)
one_last_start (until {minute} within there behind) (never b) = absurd (b minute within there)
one_last_start (until {minute = m} within there behind) (until {minute = n} within' there' behind') =
    ap Some (same m n (λ less. behind n less within' there') (λ less. behind' m less within there))
  where
    same : (m n : ℕ) → (m < n → ⊥) → (n < m → ⊥) → m ≡ n
    same m n not_below not_above = omega (arith, not_below, not_above)
