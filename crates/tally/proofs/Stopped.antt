-- Where a landing of a log is refused, the landings ahead of it are counted, and no others. Assumes nothing.
use Prim.Native.Nat.{ℕ, suc, ◌+◌, ◌<◌}
use mathlib.Core.List.{List, [], ◌∷◌}
use mathlib.Core.Path.{◌≡◌, refl, ap, sym, ◌∙◌}
use native.Mathlib.Omega.{arith}
use lib.ListN.{length, take}
use Rattle.std.specs.Prelude.{Result, Ok}
use Rattle.timetable.specs.Verdict.{refused}
use Rattle.timetable.specs.declared.Refusal.{Refusal}
use Rattle.file_layout.specs.declared.Format.{Format}
use Rattle.tally.specs.declared.Landing.{Landing}
use Rattle.tally.specs.Tally.{empty_tally, with_landing}
use Rattle.tally.specs.Log.{tally_of}
use Rattle.tally.specs.Outcome.{TallyOutcome, landing_outcome}
use Rattle.tally.specs.LogOutcome.{LogOutcome, goes_on, log_outcome}
use Rattle.tally.specs.Returned.{LandingEnds}
use Rattle.tally.specs.Returned as ways
use Rattle.tally.proofs.Ends.{landing_ends}
use Rattle.tally.proofs.Endings.{never, same_refusal}
use Rattle.tally.proofs.Logs.{log_tallied}

-- a log from its i-th landing on that stops at a place: so many of its landings are ahead of it, they are counted in full, and the tally is theirs
record StopsBehind (f : Format) (i : ℕ) (log : List Landing) (tally : List ℕ) (place : ℕ) : Type 0 where
  ahead : ℕ
  at_place : place ≡ i + ahead
  inside : ahead < length log
  counted : (log_outcome f i (take ahead log) tally).answer ≡ Ok place
  same_tally : (log_outcome f i log tally).tally ≡ (log_outcome f i (take ahead log) tally).tally

-- what the first landing makes of a log
after_first : (f : Format) (i : ℕ) (l : Landing) (log : List Landing) (tally : List ℕ) {o : TallyOutcome} → landing_outcome f l tally ≡ o
    → log_outcome f i (l ∷ log) tally ≡ goes_on i o.tally (log_outcome f (suc i) log o.tally) o.answer
unfolding log_outcome
after_first f i l log tally told = ap (λ (o : TallyOutcome). goes_on i o.tally (log_outcome f (suc i) log o.tally) o.answer) told

module _ (f : Format) (i : ℕ) (l : Landing) (log : List Landing) (tally : List ℕ) (number place : ℕ) where
  -- it is refused itself: nothing is ahead of it
  at_first : {n p : ℕ} → landing_outcome f l tally ≡ record { answer = refused n p; tally = tally } → refused {A = ℕ} n i ≡ refused number place
      → StopsBehind f i (l ∷ log) tally place
  unfolding log_outcome
  at_first told stops =
      let here : i ≡ place = (same_refusal stops).1 in record {
        ahead = 0;
        at_place = omega (arith, here);
        inside = omega arith;
        counted = ap Ok here;
        same_tally = ap (λ (o : LogOutcome). o.tally) (after_first f i l log tally told);
      }

  -- or it is counted, and the log stops behind it
  behind_first : landing_outcome f l tally ≡ record { answer = Ok tt; tally = with_landing f.delay l tally }
      → StopsBehind f (suc i) log (with_landing f.delay l tally) place → StopsBehind f i (l ∷ log) tally place
  behind_first told later = record {
    ahead = suc later.ahead;
    at_place = omega (arith, later.at_place);
    inside = omega (arith, later.inside);
    counted = ap (λ (o : LogOutcome). o.answer) (after_first f i l (take later.ahead log) tally told) ∙ later.counted;
    same_tally =
        ap (λ (o : LogOutcome). o.tally) (after_first f i l log tally told)
        ∙ later.same_tally ∙ sym (ap (λ (o : LogOutcome). o.tally) (after_first f i l (take later.ahead log) tally told));
  }

  -- whichever way the first landing ends
  first_or_later : {answer : Result Unit (Refusal ℕ)} {tally' : List ℕ} → LandingEnds f l tally answer tally'
      → landing_outcome f l tally ≡ record { answer = answer; tally = tally' }
      → ((log_outcome f (suc i) log tally').answer ≡ refused number place → StopsBehind f (suc i) log tally' place)
      → (goes_on i tally' (log_outcome f (suc i) log tally') answer).answer ≡ refused number place → StopsBehind f i (l ∷ log) tally place
  first_or_later (ways.minute high) told later stops = at_first told stops
  first_or_later (ways.above timely high) told later stops = at_first told stops
  first_or_later (ways.full timely kept at) told later stops = at_first told stops
  first_or_later (ways.counted timely kept room) told later stops = behind_first told (later stops)

stops_behind : (f : Format) (i : ℕ) (log : List Landing) (tally : List ℕ) (number place : ℕ)
    → (log_outcome f i log tally).answer ≡ refused number place → StopsBehind f i log tally place
unfolding log_outcome
stops_behind f i [] tally number place stops = never (cc)
stops_behind f i (l ∷ log) tally number place stops =
    first_or_later f i l log tally number place (landing_ends f l tally) refl
    (λ later. stops_behind f (suc i) log (landing_outcome f l tally).tally number place later) stops

-- from an empty tally: the place is a landing's, and the tally is that of the landings ahead of it
pub stopped_tallied : (f : Format) (log : List Landing) (number place : ℕ) → (log_outcome f 0 log (empty_tally f.delay)).answer ≡ refused number place
    → (place < length log) × ((log_outcome f 0 log (empty_tally f.delay)).tally ≡ tally_of f.delay (take place log))
stopped_tallied f log number place stops =
    let found = stops_behind f 0 log (empty_tally f.delay) number place stops in
    let same : found.ahead ≡ place = omega (arith, found.at_place) in (
      omega (arith, found.inside, same),
      found.same_tally
          ∙ (log_tallied f (take found.ahead log) place found.counted).1
          ∙ ap (λ (n : ℕ). tally_of f.delay (take n log)) same,
    )
