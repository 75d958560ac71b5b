-- What a landing's call returns, for every landing and tally, over its contract. Assumes nothing.
use Prim.Native.Nat.{ℕ, ◌<◌}
use mathlib.Core.List.{List, []}
use mathlib.Core.Logic.{◌↔◌, ◌⊎◌}
use mathlib.Core.Path.{◌≡◌, ap, sym, subst}
use lib.ListN.{length}
use contract.Lifetimes.{Lfts}
use denote.Triple.Clauses.{AtExit}
use borrow.Fn.Kinds.{Dens, res_t, ended_of}
use Rattle.std.specs.Prelude.{Ok}
use Rattle.timetable.specs.Verdict.{refused}
use Rattle.file_layout.specs.Format.{version_one}
use Rattle.tally.specs.declared.Landing.{Landing}
use Rattle.tally.specs.Tally.{place_of}
use Rattle.tally.specs.Outcome.{tally_answer, landing_outcome}
use Rattle.tally.specs.Returned.{MinuteAbove, CountAbove, CountFull, GrownAt, LandingEnds}
use Rattle.tally.proofs.Ends.{one_grows, landing_ends}
use Rattle.tally.proofs.Endings.{landing_refused, fourteen_told, fifteen_told, counted_told, minute_answered, limit_answered, count_answered}
use Rattle.tally.proofs.tally_landing.Kinds as kinds
use Rattle.tally.proofs.tally_landing.Reads as reads

-- whatever answer and tally the contract permits
module _ (κs : Lfts 1) (arguments : Dens κs kinds.ps) (answer : (res_t kinds.r κs).Denot) (ending : AtExit (ended_of 1 kinds.ps kinds.r) κs)
    (permitted : reads.Post κs arguments answer ending) where
  abbrev l : Landing
  l = arguments.0

  abbrev tally : List ℕ
  tally = arguments.1.0.now

  abbrev tally' : List ℕ
  tally' = ending.1.0.now

  ends : LandingEnds version_one l tally answer tally'
  ends =
      subst (λ t. LandingEnds version_one l tally answer t) (sym permitted.1)
      (subst (λ a. LandingEnds version_one l tally a (landing_outcome version_one l tally).tally) (sym permitted.0) (landing_ends version_one l tally))

  -- 14 exactly if a minute is above 10,079, either one
  pub fourteen_exactly : (answer ≡ refused 14 0) ↔ ((10079 < l.planned) ⊎ (10079 < l.actual))
  fourteen_exactly = (fourteen_told ends, minute_answered ends)

  -- 15 exactly if none is, and a given count is above 1,000,000, or the landing's own is at it
  pub fifteen_exactly : (answer ≡ refused 15 0) ↔ ((MinuteAbove version_one l → ⊥) × (CountAbove tally ⊎ CountFull version_one l tally))
  fifteen_exactly = (fifteen_told ends, λ reason. limit_answered ends reason.0 reason.1)

  -- counted exactly if none of these is
  pub counted_exactly : (answer ≡ Ok tt) ↔ ((MinuteAbove version_one l → ⊥) × (CountAbove tally → ⊥) × (CountFull version_one l tally → ⊥))
  counted_exactly = (
    λ told. let found = counted_told ends told in (found.0, found.1, found.2),
    λ clear. count_answered ends clear.0 clear.1 clear.2,
  )

  -- a refusal is one of the two, at place 0, and leaves the tally unchanged
  pub refuses : (number place : ℕ) → answer ≡ refused number place → (tally' ≡ tally) × ((number ≡ 14) ⊎ (number ≡ 15)) × (place ≡ 0)
  refuses number place told = landing_refused ends told

  -- of a tally of 122 numbers exactly one grows by one, that of the landing's lateness
  pub one_count_grows : answer ≡ Ok tt → length tally ≡ 122 → GrownAt (place_of 120 l) tally tally'
  one_count_grows told sized = subst (GrownAt (place_of 120 l) tally) (sym (counted_told ends told).3) (one_grows 120 l tally sized)

  -- what is counted is answered by number 0 and place 0
  pub counted_by_number : answer ≡ Ok tt → tally_answer answer ≡ record { number = 0; place = 0; values = [] }
  unfolding tally_answer
  counted_by_number told = ap tally_answer told
