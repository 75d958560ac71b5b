-- What is answered to a landing, rule by rule. Assumes nothing.
use Prim.Native.Nat.{ℕ, suc, ◌+◌, ◌<◌, ◌≤◌}
use mathlib.Core.Bool.{true, false}
use mathlib.Core.List.{List}
use mathlib.Core.Path.{◌≡◌, ap, ◌∙◌}
use native.Mathlib.Numerals.{add-one}
use lib.ListN.{set}
use borrow.Author.Tests.{lt-ltb, le-ltb}
use Rattle.std.specs.Prelude.{Ok}
use Rattle.timetable.specs.Verdict.{refused}
use Rattle.file_layout.specs.declared.Format.{Format}
use Rattle.tally.specs.declared.Landing.{Landing}
use Rattle.tally.specs.Tally.{count_at, place_of, most_count, counts_rule, room_rule, minutes_rule, with_landing}
use Rattle.tally.specs.Outcome.{TallyOutcome, landing_verdict, landing_outcome}

-- a landing that is not counted leaves the tally
abbrev pub not_counted : (number : ℕ) → List ℕ → TallyOutcome
not_counted number tally = record { answer = refused number 0; tally = tally }

module _ (f : Format) (l : Landing) (tally : List ℕ) where
  pub minute_refused : minutes_rule f l ≡ false → landing_outcome f l tally ≡ not_counted 14 tally
  unfolding landing_outcome landing_verdict
  minute_refused late = simp late

  pub count_refused : minutes_rule f l ≡ true → counts_rule tally ≡ false → landing_outcome f l tally ≡ not_counted 15 tally
  unfolding landing_outcome landing_verdict
  count_refused timely above = simp (timely, above)

  pub full_refused : minutes_rule f l ≡ true → counts_rule tally ≡ true → most_count ≤ count_at tally (place_of f.delay l)
      → landing_outcome f l tally ≡ not_counted 15 tally
  unfolding landing_outcome landing_verdict room_rule
  full_refused timely kept full = simp (timely, kept, le-ltb (count_at tally (place_of f.delay l)) most_count full)

  pub landing_counted : minutes_rule f l ≡ true → counts_rule tally ≡ true → count_at tally (place_of f.delay l) < most_count
      → landing_outcome f l tally ≡ record { answer = Ok tt; tally = with_landing f.delay l tally }
  unfolding landing_outcome landing_verdict room_rule
  landing_counted timely kept room = simp (timely, kept, lt-ltb (count_at tally (place_of f.delay l)) most_count room)

-- one more stored at the landing's place
pub stored_landing : (top place count : ℕ) (l : Landing) (tally : List ℕ) → place ≡ place_of top l → count ≡ count_at tally place
    → set tally place (count + 1) ≡ with_landing top l tally
unfolding with_landing
stored_landing top place count l tally at read =
    ap (λ (n : ℕ). set tally place n) (add-one count ∙ ap suc read) ∙ ap (λ (k : ℕ). set tally k (suc (count_at tally k))) at
