-- Laws on a log tallied landing by landing: one landing more, a landing that is refused, the end. Assumes nothing.
use Prim.Native.Nat.{ℕ, zero, suc, ◌+◌, ◌/◌, ◌<◌}
use mathlib.Core.List.{List, [], ◌∷◌, ◌++◌}
use mathlib.Core.Path.{◌≡◌, refl, ap, sym, ◌∙◌}
use native.Mathlib.Numerals.{add-one}
use native.Mathlib.Omega.{arith}
use lib.ListN.{length, length-set}
use Rattle.numbers.specs.Numbers.{u16_at}
use Rattle.std.specs.Prelude.{Result, Ok, Err}
use Rattle.std.proofs.lemmas.List.{get_or_append_left, get_or-append-add, length-append}
use Rattle.timetable.specs.Verdict.{refused}
use Rattle.timetable.specs.declared.Refusal.{Refusal}
use Rattle.file_layout.specs.declared.Format.{Format}
use Rattle.tally.specs.declared.Landing.{Landing}
use Rattle.tally.specs.Landing.{landing_at}
use Rattle.tally.specs.Tally.{count_at, place_of, with_landing}
use Rattle.tally.specs.Outcome.{landing_outcome}
use Rattle.tally.specs.LogOutcome.{landings_from, landings_in, goes_on, log_outcome}
use Rattle.tally.specs.Returned.{LandingEnds}
use Rattle.tally.specs.Returned as ways
use Rattle.tally.proofs.Ends.{landing_ends}

-- a tally keeps its length
ends_length : {f : Format} {l : Landing} {tally tally' : List ℕ} {answer : Result Unit (Refusal ℕ)} → LandingEnds f l tally answer tally' → length tally' ≡ length tally
unfolding with_landing
ends_length (ways.minute high) = refl
ends_length (ways.above timely high) = refl
ends_length (ways.full timely kept at) = refl
ends_length {f} {l} {tally} (ways.counted timely kept room) = length-set tally (place_of f.delay l) (suc (count_at tally (place_of f.delay l)))

pub outcome_length : (f : Format) (l : Landing) (tally : List ℕ) → length (landing_outcome f l tally).tally ≡ length tally
outcome_length f l tally = ends_length (landing_ends f l tally)

-- a number that stands ahead of a place in a log, and one behind it
u16_ahead : (ahead rest : List ℕ) (at : ℕ) → at + 1 < length ahead → u16_at (ahead ++ rest) at ≡ u16_at ahead at
unfolding u16_at
u16_ahead ahead rest at h = omega (arith, get_or_append_left ahead rest 0 at (omega arith), get_or_append_left ahead rest 0 (at + 1) h)

u16_behind : (ahead rest : List ℕ) (from at : ℕ) → from ≡ length ahead + at → u16_at (ahead ++ rest) from ≡ u16_at rest at
unfolding u16_at
u16_behind ahead rest from at is =
    let next : from + 1 ≡ length ahead + (at + 1) = omega (arith, is) in
    rw (is, get_or-append-add) (let more : length ahead + at + 1 ≡ length ahead + (at + 1) = omega arith in rw (more, get_or-append-add) refl)

landings_behind : (ahead rest : List ℕ) (from at n : ℕ) → from ≡ length ahead + at
    → landings_from (ahead ++ rest) from n ≡ landings_from rest at n
unfolding landings_from
landings_behind ahead rest from at zero is = refl
landings_behind ahead rest from at (suc n) is =
    let planned = u16_behind ahead rest from at is in
    let actual = u16_behind ahead rest (from + 2) (at + 2) (omega (arith, is)) in
    let later = landings_behind ahead rest (from + 4) (at + 4) n (omega (arith, is)) in
    cc

-- the landing of a log's first four bytes, and those behind it
first_landing : (ahead rest : List ℕ) → length ahead ≡ 4 → landings_in (ahead ++ rest) ≡ landing_at (u16_at ahead 0) (u16_at ahead 2) ∷ landings_in rest
unfolding landings_in landings_from
first_landing ahead rest four =
    let many : length (ahead ++ rest) / 4 ≡ suc (length rest / 4) = omega (arith, length-append ahead rest) in
    let planned = u16_ahead ahead rest 0 (omega arith) in
    let actual = u16_ahead ahead rest 2 (omega arith) in
    let later = landings_behind ahead rest 4 0 (length rest / 4) (omega arith) in
    rw many (cc)

-- one landing fewer is left
pub fewer_left : (s ahead rest : List ℕ) → s ≡ ahead ++ rest → length ahead ≡ 4 → length s / 4 ≡ length rest / 4 + 1
fewer_left s ahead rest cut four = omega (arith, ap length cut, length-append ahead rest)

no_landing : (rest : List ℕ) → length rest < 4 → landings_in rest ≡ []
unfolding landings_in landings_from
no_landing rest few = ap (landings_from rest 0) (let none : length rest / 4 ≡ 0 = omega arith in none)

module _ (f : Format) (i : ℕ) (s ahead rest : List ℕ) (l : Landing) (tally tally' : List ℕ) (cut : s ≡ ahead ++ rest) (four : length ahead ≡ 4)
    (is : l ≡ landing_at (u16_at ahead 0) (u16_at ahead 2)) (left : tally' ≡ (landing_outcome f l tally).tally) where
  -- the next landing decides
  next_landing : log_outcome f i (landings_in s) tally
      ≡ goes_on i tally' (log_outcome f (i + 1) (landings_in rest) tally') (landing_outcome f l tally).answer
  unfolding log_outcome
  next_landing =
      ap (λ (log : List Landing). log_outcome f i log tally) (ap landings_in cut ∙ first_landing ahead rest four ∙ ap (λ m. m ∷ landings_in rest) (sym is))
      ∙ ap (λ (t : List ℕ). goes_on i t (log_outcome f (suc i) (landings_in rest) t) (landing_outcome f l tally).answer) (sym left)
      ∙ ap (λ (k : ℕ). goes_on i tally' (log_outcome f k (landings_in rest) tally') (landing_outcome f l tally).answer) (sym (add-one i))

  pub log_on : (landing_outcome f l tally).answer ≡ Ok tt
      → log_outcome f i (landings_in s) tally ≡ log_outcome f (i + 1) (landings_in rest) tally'
  log_on counted = next_landing ∙ ap (goes_on i tally' (log_outcome f (i + 1) (landings_in rest) tally')) counted

  pub log_stopped : (refusal : Refusal ℕ) → (landing_outcome f l tally).answer ≡ Err refusal
      → log_outcome f i (landings_in s) tally ≡ record { answer = refused refusal.number i; tally = tally' }
  log_stopped refusal told = next_landing ∙ ap (goes_on i tally' (log_outcome f (i + 1) (landings_in rest) tally')) told

pub log_end : (f : Format) (i : ℕ) (rest tally : List ℕ) → length rest < 4
    → log_outcome f i (landings_in rest) tally ≡ record { answer = Ok i; tally = tally }
unfolding log_outcome
log_end f i rest tally few = ap (λ (log : List Landing). log_outcome f i log tally) (no_landing rest few)
