-- A plan's worth depends on its rides' stops, minutes and shares, and not on row numbers. Assumes nothing.
use Prim.Native.Nat.{ℕ}
use mathlib.Core.Bool.{cond}
use mathlib.Core.List.{List, [], ◌∷◌, map, map-map}
use mathlib.Core.Option.{Option, none, some}
use mathlib.Core.Path.{◌≡◌, refl, sym, ◌∙◌, ap, ap₂, fun_ext}
use lib.Dec.{eqb}
use Rattle.laws.proofs.Tests.{ifb}
use Rattle.timetable.specs.Classes.{share_total}
use Rattle.query.specs.declared.Query.{Query}
use Rattle.plans.specs.Rides.{Ride, boards, ready}
use Rattle.timetable.specs.Ticks.{quotient_up}
use Rattle.plans.specs.Journeys.{ready_at}
use Rattle.plans.specs.Worth.{Valued, weigh, first_open, caught, worth_or, arrival_worth, change_worth, land_worth, valued}
use Rattle.plans.specs.Chosen.{worth_of}
use Rattle.demands.specs.SafePlan.{ByBoardingRow, expected_of}
use Rattle.demands.specs.Unnumbered.{unnumbered}
use Rattle.demands.proofs.Sorting.{sorted_same}

abbrev bare : Valued → Valued
bare v = record { ride = unnumbered v.ride; worth = v.worth }

first_worth : (vs : List Valued) (stop minute : ℕ) → worth_of (first_open (map bare vs) stop minute) ≡ worth_of (first_open vs stop minute)
unfolding first_open worth_of
first_worth [] stop minute = refl
first_worth (v ∷ vs) stop minute =
    ifb
    (λ b. worth_of (cond b (some (bare v)) (first_open (map bare vs) stop minute)) ≡ worth_of (cond b (some v) (first_open vs stop minute)))
    (boards v.ride stop minute) (λ opens. refl) (λ shut. first_worth vs stop minute)

-- the worth caught is read from the option's worth
caught_worth :
    (vs us : List Valued) (stop minute : ℕ) → worth_of (first_open vs stop minute) ≡ worth_of (first_open us stop minute)
    → caught vs stop minute ≡ caught us stop minute
unfolding caught worth_or worth_of
caught_worth vs us stop minute e = through (first_open vs stop minute) ∙ ap or_zero e ∙ sym (through (first_open us stop minute))
  where
    or_zero : Option ℕ → ℕ
    or_zero none = 0
    or_zero (some w) = w

    through : (o : Option Valued) → worth_or 0 o ≡ or_zero (worth_of o)
    through none = refl
    through (some v) = refl

land_bare : (gate target : ℕ) (r : Ride) (behind : List Valued) → land_worth gate target (unnumbered r) (map bare behind) ≡ land_worth gate target r behind
unfolding land_worth change_worth arrival_worth
land_bare gate target r behind =
    ap (λ f. cond (eqb r.to target) (arrival_worth r) (quotient_up share_total (weigh r.shares r.arrives f)))
    (fun_ext (λ minute. caught_worth (map bare behind) behind r.to (ready gate minute) (first_worth behind r.to (ready gate minute))))

valued_bare : (gate target : ℕ) (rides : List Ride) → valued gate target (map unnumbered rides) ≡ map bare (valued gate target rides)
unfolding valued
valued_bare gate target [] = refl
valued_bare gate target (r ∷ rides) =
    ap₂ (λ w behind. record { ride = unnumbered r; worth = w } ∷ behind)
    (ap (land_worth gate target (unnumbered r)) (valued_bare gate target rides) ∙ land_bare gate target r (valued gate target rides)) (valued_bare gate target rides)

-- rides that agree but for their row numbers have the same worths, one by one
pub same_worths :
    (gate target : ℕ) (rides others : List Ride) → map unnumbered rides ≡ map unnumbered others
    → map (λ v. v.worth) (valued gate target rides) ≡ map (λ v. v.worth) (valued gate target others)
same_worths gate target rides others same =
    sym (worths rides) ∙ ap (λ x. map (λ v. v.worth) (valued gate target x)) same ∙ worths others
  where
    worths : (x : List Ride) → map (λ v. v.worth) (valued gate target (map unnumbered x)) ≡ map (λ v. v.worth) (valued gate target x)
    worths x = ap (map (λ v. v.worth)) (valued_bare gate target x) ∙ map-map (λ v. v.worth) bare (valued gate target x)

-- and plans of such rides, each by boarding row rising, the same expected arrival
pub same_expected :
    (q : Query) (rides others : List Ride) → ByBoardingRow rides → ByBoardingRow others → map unnumbered rides ≡ map unnumbered others
    → expected_of q rides ≡ expected_of q others
unfolding expected_of
same_expected q rides others rise rise' same =
    ap arrival (sorted_same rise) ∙ sym (bared rides) ∙ ap arrival same ∙ bared others ∙ sym (ap arrival (sorted_same rise'))
  where
    arrival : List Ride → Option ℕ
    arrival x = worth_of (first_open (valued q.gate q.target x) q.source (ready_at q))

    bared : (x : List Ride) → arrival (map unnumbered x) ≡ arrival x
    bared x =
        ap (λ vs. worth_of (first_open vs q.source (ready_at q))) (valued_bare q.gate q.target x)
        ∙ first_worth (valued q.gate q.target x) q.source (ready_at q)
