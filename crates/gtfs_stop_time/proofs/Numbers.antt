-- What the number of a field tells of the field's rule: a minute of the week, or a place in the trip. Assumes nothing.
use Prim.Native.Nat.{ℕ, ◌+◌, ◌-◌, ◌≤◌, ◌<◌}
use mathlib.Core.Bool.{Bool, true, false, cond, ◌&&◌}
use mathlib.Core.List.{List}
use mathlib.Core.Path.{◌≡◌, refl, ap, ◌∙◌}
use native.Mathlib.Omega.{arith}
use lib.Dec.{leb}
use borrow.Author.Tests.{leb-true, leb-false, ltb-true, le-leb, lt-leb}
use Rattle.laws.proofs.Tests.{ifb, both_right}
use Rattle.text.specs.Decimal.{value_of}
use Rattle.std.specs.Prelude.{Some, None}
use Rattle.gtfs_fields.specs.Whole.{is_whole, whole_below}
use Rattle.gtfs_fields.specs.Time.{is_time, time_minutes, time_within}
use Rattle.gtfs_stop_time.specs.StopTime.{last_minute, sequence_limit, time_rule, sequence_rule}

-- a number that is told passed its rule, and is the field's
told : (rule : Bool) (value number : ℕ) → cond rule (Some value) None ≡ Some number → (rule ≡ true) × (number ≡ value)
told true value number e = (refl, (cc))
told false value number e = absurd (let z : ◌≡◌ {A = ℕ} 0 1 = cc in omega arith)

untold : (rule : Bool) (value : ℕ) → cond rule (Some value) None ≡ None → rule ≡ false
untold true value e = absurd (let z : ◌≡◌ {A = ℕ} 0 1 = cc in omega arith)
untold false value e = refl

-- a minute of the service day lies in the week if it is at most what is left from the day's start
in_week : (start minutes : ℕ) → start ≤ last_minute → leb (start + minutes) last_minute ≡ leb minutes (last_minute - start)
in_week start minutes h =
    ifb
    (λ t. leb (start + minutes) last_minute ≡ t)
    (leb minutes (last_minute - start))
    (λ e. le-leb (start + minutes) last_minute (omega (arith, leb-true minutes (last_minute - start) e)))
    (λ e. lt-leb (start + minutes) last_minute (omega (arith, leb-false minutes (last_minute - start) e)))

time_test : (start : ℕ) (field : List ℕ) → start ≤ last_minute
    → time_rule start field ≡ (is_time field && leb (time_minutes field) (last_minute - start))
unfolding time_rule
time_test start field h = ap (λ t. is_time field && t) (in_week start (time_minutes field) h)

pub time_in_week : (start : ℕ) (field : List ℕ) → time_rule start field ≡ true → start + time_minutes field ≤ last_minute
unfolding time_rule
time_in_week start field e = leb-true (start + time_minutes field) last_minute (both_right (is_time field) _ e)

-- what the minutes that were told are
pub record TimeTold (start : ℕ) (field : List ℕ) (minutes : ℕ) : Type 0 where
  pub holds : time_rule start field ≡ true
  pub says : minutes ≡ time_minutes field

pub time_told : (start : ℕ) (field : List ℕ) (minutes : ℕ) → start ≤ last_minute → time_within (last_minute - start) field ≡ Some minutes
    → TimeTold start field minutes
unfolding time_within
time_told start field minutes h e =
    let t = told (is_time field && leb (time_minutes field) (last_minute - start)) (time_minutes field) minutes e in
    record { holds = time_test start field h ∙ t.0; says = t.1 }

-- which lie in the week
pub told_in_week : {start minutes : ℕ} {field : List ℕ} → TimeTold start field minutes → start + minutes ≤ last_minute
told_in_week {start} {minutes} {field} t = omega (arith, time_in_week start field t.holds, t.says)

pub time_wrong : (start : ℕ) (field : List ℕ) → start ≤ last_minute → time_within (last_minute - start) field ≡ None
    → time_rule start field ≡ false
unfolding time_within
time_wrong start field h e = time_test start field h ∙ untold _ (time_minutes field) e

pub sequence_small : (field : List ℕ) → sequence_rule field ≡ true → value_of field < sequence_limit
unfolding sequence_rule
sequence_small field e = ltb-true (value_of field) sequence_limit (both_right (is_whole field) _ e)

pub sequence_told : (field : List ℕ) (number : ℕ) → whole_below sequence_limit field ≡ Some number
    → (sequence_rule field ≡ true) × (number ≡ value_of field)
unfolding whole_below sequence_rule
sequence_told field number e = told _ (value_of field) number e

pub sequence_wrong : (field : List ℕ) → whole_below sequence_limit field ≡ None → sequence_rule field ≡ false
unfolding whole_below sequence_rule
sequence_wrong field e = untold _ (value_of field) e
