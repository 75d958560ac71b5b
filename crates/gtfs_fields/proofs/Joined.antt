-- A time is told from its ending and from the hours ahead of it, each read by itself. Assumes nothing.
use Prim.Native.Nat.{ℕ, ◌+◌, ◌*◌, ◌-◌, ◌/◌, ◌≤◌}
use mathlib.Core.Bool.{Bool, true, false, cond, ◌&&◌}
use mathlib.Core.List.{List}
use mathlib.Core.Path.{◌≡◌, refl, sym, ap, ◌∙◌}
use native.Mathlib.Omega.{arith}
use lib.Dec.{leb, ltb}
use lib.ListN.{length, take, drop}
use lib.Seq.{length-take-le}
use borrow.Author.Tests.{ltb-false, lt-leb, le-ltb}
use Rattle.laws.proofs.Tests.{cond_false}
use Rattle.text.specs.Decimal.{value_of}
use Rattle.std.specs.Prelude.{Option, Some, None}
use Rattle.gtfs_fields.specs.Whole.{are_digits, is_whole, whole_below}
use Rattle.gtfs_fields.specs.Time.{tail_bytes, minutes_an_hour, hours_in, tail_in, minutes_in, tail_rule, tail_minutes}
use Rattle.gtfs_fields.specs.Time.{is_time, time_minutes, time_within}

abbrev pub joined : (most : ℕ) (ending ahead : Option ℕ) → Option ℕ
joined most None ahead = None
joined most (Some minutes) None = None
joined most (Some minutes) (Some hours) =
    cond (leb (minutes_an_hour * hours + minutes) most) (Some (minutes_an_hour * hours + minutes)) None

by_tests : (most hours minutes : ℕ) (whole tail below : Bool)
    → (below ≡ false → leb (minutes_an_hour * hours + minutes) most ≡ false)
    → cond (whole && tail && leb (minutes_an_hour * hours + minutes) most) (Some (minutes_an_hour * hours + minutes)) None
    ≡ joined most (cond tail (Some minutes) None) (cond (whole && below) (Some hours) None)
by_tests most hours minutes true true true past = refl
by_tests most hours minutes true true false past = cond_false (Some (minutes_an_hour * hours + minutes)) None (past refl)
by_tests most hours minutes true false below past = refl
by_tests most hours minutes false true below past = refl
by_tests most hours minutes false false below past = refl

pub time_joined : (most : ℕ) (field : List ℕ)
    → time_within most field ≡ joined most (tail_minutes (tail_in field)) (whole_below (most / minutes_an_hour + 1) (hours_in field))
unfolding time_within is_time time_minutes tail_minutes whole_below
time_joined most field =
    let hours = value_of (hours_in field) in
    let minutes = minutes_in (tail_in field) in
    by_tests most hours minutes (is_whole (hours_in field)) (tail_rule (tail_in field)) (ltb hours (most / minutes_an_hour + 1))
    (λ past. lt-leb (minutes_an_hour * hours + minutes) most (omega (arith, ltb-false hours (most / minutes_an_hour + 1) past)))

-- no byte stands ahead of the last six
pub time_short : (most : ℕ) (field : List ℕ) → length field ≤ tail_bytes → time_within most field ≡ None
unfolding time_within is_time is_whole hours_in
time_short most field short =
    let none : length (take (length field - tail_bytes) field) ≡ length field - tail_bytes =
    length-take-le (length field - tail_bytes) field (omega arith)
    in
    ap (λ b. cond (b && are_digits (hours_in field) && tail_rule (tail_in field) && leb (time_minutes field) most) (Some (time_minutes field)) None)
    (le-ltb 0 (length (take (length field - tail_bytes) field)) (omega arith))

pub time_parts : (most : ℕ) (field : List ℕ) (ending ahead : Option ℕ) → tail_minutes (tail_in field) ≡ ending
    → whole_below (most / minutes_an_hour + 1) (hours_in field) ≡ ahead → time_within most field ≡ joined most ending ahead
time_parts most field ending ahead last first =
    time_joined most field ∙ ap (λ e. joined most e (whole_below (most / minutes_an_hour + 1) (hours_in field))) last ∙ ap (joined most ending) first

-- the same of a field that was cut where its last six bytes begin
pub time_cut : (most : ℕ) (field front back : List ℕ) (ending ahead : Option ℕ) → front ≡ take (length field - tail_bytes) field
    → back ≡ drop (length field - tail_bytes) field → ending ≡ tail_minutes back → ahead ≡ whole_below (most / minutes_an_hour + 1) front
    → time_within most field ≡ joined most ending ahead
unfolding hours_in tail_in
time_cut most field front back ending ahead first last ended began =
    time_parts most field ending ahead (ap tail_minutes (sym last) ∙ sym ended)
    (ap (whole_below (most / minutes_an_hour + 1)) (sym first) ∙ sym began)
