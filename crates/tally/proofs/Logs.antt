-- A log tallied landing by landing from an empty tally has the tally of its landings, in whatever order they stand. Assumes nothing.
use Prim.Native.Nat.{ℕ, suc, ◌+◌, ◌<◌, ◌≤◌}
use mathlib.Core.Bool.{true, cond}
use mathlib.Core.List.{List, [], ◌∷◌, ◌++◌}
use mathlib.Core.Logic.{◌↔◌}
use mathlib.Core.Path.{◌≡◌, refl, ap, sym, subst, ◌∙◌}
use native.Mathlib.Omega.{arith}
use lib.Dec.{eqb, ltb}
use lib.ListN.{length, length-replicate, get_or-replicate, get_or-eq_default}
use lib.Seq.{ext_get_or}
use borrow.Author.Tests.{eqb-true, eqb-false, ltb-true, ltb-false, eq-eqb}
use Rattle.laws.proofs.Tests.{ifb, cond_true}
use Rattle.delay_tables.proofs.Values.{length_values, value_at, values_same}
use Rattle.std.specs.Prelude.{Result, Ok}
use Rattle.timetable.specs.declared.Refusal.{Refusal}
use Rattle.file_layout.specs.declared.Format.{Format}
use Rattle.tally.specs.declared.Landing.{Landing}
use Rattle.tally.specs.Tally.{counts, count_at, place_of, most_count, minutes_rule, empty_tally, with_landing}
use Rattle.tally.specs.Log.{landings_at, tally_of, GrownBy, Reordered, InWeeks, InLimit}
use Rattle.tally.specs.Log as words
use Rattle.tally.specs.Outcome.{TallyOutcome, landing_outcome}
use Rattle.tally.specs.LogOutcome.{LogOutcome, goes_on, log_outcome}
use Rattle.tally.specs.Returned.{MinuteAbove, CountFull, LandingEnds}
use Rattle.tally.specs.Returned as ways
use Rattle.tally.proofs.Places.{place_inside}
use Rattle.tally.proofs.Ends.{minutes_broken, one_grows, landing_ends}
use Rattle.tally.proofs.Answers.{landing_counted}
use Rattle.tally.proofs.Kept.{limit_kept, still_kept}

-- a tally's counts by place
pub tally_at : (top : ℕ) (log : List Landing) (place : ℕ) → place < counts top → count_at (tally_of top log) place ≡ landings_at top log place
unfolding tally_of
tally_at top log place inside =
    value_at (landings_at top log) 0 (counts top) place inside ∙ ap (landings_at top log) (let here : 0 + place ≡ place = omega arith in here)

pub tally_length : (top : ℕ) (log : List Landing) → length (tally_of top log) ≡ counts top
unfolding tally_of
tally_length top log = length_values (landings_at top log) 0 (counts top)

-- one log and then another: their counts add
pub landings_append : (top : ℕ) (log more : List Landing) (place : ℕ) → landings_at top (log ++ more) place ≡ landings_at top log place + landings_at top more place
unfolding landings_at
landings_append top [] more place = omega arith
landings_append top (l ∷ log) more place = omega (arith, landings_append top log more place)

-- order does not matter
pub same_landings : (top : ℕ) {log other : List Landing} → Reordered log other → (place : ℕ) → landings_at top log place ≡ landings_at top other place
unfolding landings_at
same_landings top words.none place = refl
same_landings top (words.same {l = l} rest) place = ap (λ (n : ℕ). cond (eqb (place_of top l) place) 1 0 + n) (same_landings top rest place)
same_landings top (words.swapped) place = omega arith
same_landings top (words.again first second) place = same_landings top first place ∙ same_landings top second place

pub same_tally : (top : ℕ) {log other : List Landing} → Reordered log other → tally_of top log ≡ tally_of top other
unfolding tally_of
same_tally top {log} {other} reordered =
    values_same (landings_at top log) (landings_at top other) 0 (counts top) (λ place inside. same_landings top reordered place)

-- one landing counted, at its place and at the others
landing_adds : (top : ℕ) (l : Landing) (tally : List ℕ) → length tally ≡ counts top → (place : ℕ)
    → count_at (with_landing top l tally) place ≡ count_at tally place + cond (eqb (place_of top l) place) 1 0
landing_adds top l tally sized place =
    let grown = one_grows top l tally sized in
    ifb (λ t. eqb (place_of top l) place ≡ t → count_at (with_landing top l tally) place ≡ count_at tally place + cond t 1 0) (eqb (place_of top l) place)
    (λ yes same.
    subst (λ (p : ℕ). count_at (with_landing top l tally) p ≡ count_at tally p + 1) (eqb-true (place_of top l) place same)
    (omega (arith, grown.one_more)))
    (λ no same.
    omega (arith, grown.others place (λ at. eqb-false (place_of top l) place same (sym at)))) refl

-- a landing that is counted, and what is counted behind it
module _ (f : Format) (i : ℕ) (l : Landing) (log : List Landing) (tally : List ℕ) (sized : length tally ≡ counts f.delay) where
  abbrev grown_tally : List ℕ
  grown_tally = with_landing f.delay l tally

  adds_one : (place : ℕ) → count_at grown_tally place + landings_at f.delay log place ≡ count_at tally place + landings_at f.delay (l ∷ log) place
  unfolding landings_at
  adds_one place = omega (arith, landing_adds f.delay l tally sized place)

  grown_sized : length grown_tally ≡ counts f.delay
  grown_sized = (one_grows f.delay l tally sized).same_length ∙ sized

  own_count : count_at tally (place_of f.delay l) < count_at tally (place_of f.delay l) + landings_at f.delay (l ∷ log) (place_of f.delay l)
  unfolding landings_at
  own_count =
      let own : ◌≡◌ {A = ℕ} (cond (eqb (place_of f.delay l) (place_of f.delay l)) 1 0) 1 =
      cond_true _ _ (eq-eqb (place_of f.delay l) (place_of f.delay l) refl)
      in
      omega (arith, own)

  on_counted : landing_outcome f l tally ≡ record { answer = Ok tt; tally = grown_tally }
      → ((log_outcome f (suc i) log grown_tally).answer ≡ Ok (suc i + length log)) × GrownBy f.delay log grown_tally (log_outcome f (suc i) log grown_tally).tally
      → ((log_outcome f i (l ∷ log) tally).answer ≡ Ok (i + length (l ∷ log))) × GrownBy f.delay (l ∷ log) tally (log_outcome f i (l ∷ log) tally).tally
  unfolding log_outcome
  on_counted told behind =
      subst
      (λ (o : TallyOutcome).
      ((goes_on i o.tally (log_outcome f (suc i) log o.tally) o.answer).answer ≡ Ok (i + suc (length log)))
      × GrownBy f.delay (l ∷ log) tally (goes_on i o.tally (log_outcome f (suc i) log o.tally) o.answer).tally)
      (sym told) (
        behind.0 ∙ ap Ok (let same : suc i + length log ≡ i + suc (length log) = omega arith in same),
        record {
          adds = λ place. behind.1.adds place ∙ adds_one place;
          same_length = behind.1.same_length ∙ (one_grows f.delay l tally sized).same_length;
        },
      )

-- no refusal as long as the minutes are within the version's last and no count passes its limit
pub all_counted : (f : Format) (i : ℕ) (log : List Landing) (tally : List ℕ) → length tally ≡ counts f.delay → InWeeks f log
    → ((place : ℕ) → place < counts f.delay → count_at tally place + landings_at f.delay log place ≤ most_count)
    → ((log_outcome f i log tally).answer ≡ Ok (i + length log)) × GrownBy f.delay log tally (log_outcome f i log tally).tally
unfolding log_outcome landings_at
all_counted f i [] tally sized words.none within =
    (ap Ok (let same : i ≡ i + 0 = omega arith in same), record { adds = λ place. omega arith; same_length = refl })
all_counted f i (l ∷ log) tally sized (words.next timely later) within =
    on_counted f i l log tally sized
    (landing_counted f l tally timely (limit_kept tally (λ place inside. omega (arith, within place (omega (arith, inside, sized)))))
    (omega (arith, within (place_of f.delay l) (place_inside f.delay l), own_count f i l log tally sized)))
    (all_counted f (suc i) log (with_landing f.delay l tally) (grown_sized f i l log tally sized) later
    (λ place inside. omega (arith, within place inside, adds_one f i l log tally sized place)))

-- where all of a log is counted, its first landing is, and so is the rest
told_next : {f : Format} {l : Landing} {tally tally' : List ℕ} {answer : Result Unit (Refusal ℕ)} (i : ℕ) (log : List Landing) (n : ℕ)
    → LandingEnds f l tally answer tally' → (goes_on i tally' (log_outcome f (suc i) log tally') answer).answer ≡ Ok n
    → (MinuteAbove f l → ⊥) × (CountFull f l tally → ⊥) × ((log_outcome f (suc i) log (with_landing f.delay l tally)).answer ≡ Ok n)
told_next i log n (ways.minute high) told = absurd (let z : ◌≡◌ {A = ℕ} 0 1 = cc in let y : ⊥ = omega arith in y)
told_next i log n (ways.above timely high) told = absurd (let z : ◌≡◌ {A = ℕ} 0 1 = cc in let y : ⊥ = omega arith in y)
told_next i log n (ways.full timely kept at) told = absurd (let z : ◌≡◌ {A = ℕ} 0 1 = cc in let y : ⊥ = omega arith in y)
told_next i log n (ways.counted timely kept room) told = (timely, room, told)

minutes_true : (f : Format) (l : Landing) → (MinuteAbove f l → ⊥) → minutes_rule f l ≡ true
minutes_true f l timely =
    ifb (λ t. minutes_rule f l ≡ t → minutes_rule f l ≡ true) (minutes_rule f l) (λ yes same. same)
    (λ no same. absurd (timely (minutes_broken f l same))) refl

-- a log of which all is counted: its minutes are within the version's last, and no count passes its limit
told_clear : (f : Format) (i : ℕ) (log : List Landing) (tally : List ℕ) (n : ℕ) → length tally ≡ counts f.delay
    → ((place : ℕ) → count_at tally place ≤ most_count) → (log_outcome f i log tally).answer ≡ Ok n
    → InWeeks f log × ((place : ℕ) → count_at tally place + landings_at f.delay log place ≤ most_count)
unfolding log_outcome landings_at
told_clear f i [] tally n sized kept told = (words.none, λ place. omega (arith, kept place))
told_clear f i (l ∷ log) tally n sized kept told =
    let next = told_next i log n (landing_ends f l tally) told in
    let behind =
    told_clear f (suc i) log (with_landing f.delay l tally) n (grown_sized f i l log tally sized) (still_kept f.delay l tally sized kept next.1) next.2
    in
    (words.next (minutes_true f l next.0) behind.0, λ place. omega (arith, behind.1 place, adds_one f i l log tally sized place))

-- from an empty tally
module _ (f : Format) (log : List Landing) where
  empty_length : length (empty_tally f.delay) ≡ counts f.delay
  empty_length = length-replicate (counts f.delay) 0

  empty_at : (place : ℕ) → count_at (empty_tally f.delay) place ≡ 0
  empty_at place =
      ifb (λ t. ltb place (counts f.delay) ≡ t → count_at (empty_tally f.delay) place ≡ 0) (ltb place (counts f.delay))
      (λ inside same. get_or-replicate (counts f.delay) place 0 0 (ltb-true place (counts f.delay) same))
      (λ outside same.
      get_or-eq_default (empty_tally f.delay) 0 {n = place}
      (omega (arith, empty_length, ltb-false place (counts f.delay) same))) refl

  abbrev outcome : LogOutcome
  outcome = log_outcome f 0 log (empty_tally f.delay)

  counted_if : InWeeks f log → InLimit f.delay log → (outcome.answer ≡ Ok (length log)) × GrownBy f.delay log (empty_tally f.delay) outcome.tally
  counted_if timely within =
      let all =
      all_counted f 0 log (empty_tally f.delay) empty_length timely
      (λ place inside. omega (arith, empty_at place, within place inside))
      in
      (all.0 ∙ ap Ok (let same : 0 + length log ≡ length log = omega arith in same), all.1)

  clear_if : (n : ℕ) → outcome.answer ≡ Ok n → InWeeks f log × InLimit f.delay log
  clear_if n told =
      let clear =
      told_clear f 0 log (empty_tally f.delay) n empty_length (λ place. omega (arith, empty_at place)) told
      in
      (clear.0, λ place inside. omega (arith, clear.1 place))

  -- a log is counted in full exactly if its minutes are within the version's last and no count of its tally passes the limit
  pub log_exactly : (outcome.answer ≡ Ok (length log)) ↔ (InWeeks f log × InLimit f.delay log)
  log_exactly = (clear_if (length log), λ clear. (counted_if clear.0 clear.1).0)

  -- and then its tally is that of its landings
  pub log_tallied : (n : ℕ) → outcome.answer ≡ Ok n → (n ≡ length log) × (outcome.tally ≡ tally_of f.delay log)
  log_tallied n told =
      let clear = clear_if n told in
      let all = counted_if clear.0 clear.1 in
      let number : n ≡ length log = let same = sym told ∙ all.0 in cc in (
        number,
        ext_get_or 0 outcome.tally (tally_of f.delay log)
            (all.1.same_length ∙ empty_length ∙ sym (tally_length f.delay log))
            (λ place inside.
            omega (
              arith,
              all.1.adds place,
              empty_at place,
              tally_at f.delay log place (omega (arith, inside, all.1.same_length, empty_length)),
            )),
      )

-- so in whatever order its landings stand
same_weeks : (f : Format) {log other : List Landing} → Reordered log other → InWeeks f log → InWeeks f other
same_weeks f words.none timely = words.none
same_weeks f (words.same rest) (words.next own later) = words.next own (same_weeks f rest later)
same_weeks f words.swapped (words.next own (words.next second later)) = words.next second (words.next own later)
same_weeks f (words.again first second) timely = same_weeks f second (same_weeks f first timely)

pub reordered_tallied : (f : Format) {log other : List Landing} → Reordered log other
    → (log_outcome f 0 log (empty_tally f.delay)).answer ≡ Ok (length log)
    → ((log_outcome f 0 other (empty_tally f.delay)).answer ≡ Ok (length other))
    × ((log_outcome f 0 other (empty_tally f.delay)).tally ≡ (log_outcome f 0 log (empty_tally f.delay)).tally)
reordered_tallied f {log} {other} reordered told =
    let clear = (log_exactly f log).0 told in
    let again =
    (log_exactly f other).1
    (same_weeks f reordered clear.0, λ place inside. omega (arith, clear.1 place inside, same_landings f.delay reordered place))
    in (
      again,
      (log_tallied f other (length other) again).1 ∙ sym (same_tally f.delay reordered) ∙ sym (log_tallied f log (length log) told).1,
    )
