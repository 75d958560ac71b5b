-- What a plan is made of: its bound, its first ride and its list of rides. Assumes nothing.
use Prim.Native.Nat.{ℕ}
use mathlib.Core.Option.{Option, none, some}
use mathlib.Core.Path.{◌≡◌, refl, sym, ap, subst}
use Rattle.laws.proofs.Options.{absent, same_thing}
use Rattle.timetable.specs.Timetable.{Timetable}
use Rattle.query.specs.declared.Query.{Query}
use Rattle.plans.specs.declared.Goal.{Goal}
use Rattle.plans.specs.Journeys.{goal_of, bound_of, ready_at}
use Rattle.plans.specs.Worth.{Valued, first_open}
use Rattle.plans.specs.Chosen.{in_ticks}
use Rattle.plans.specs.Plan.{Plan, planned, plan_before, plan_within, rides_from, chosen_for, earliest, latest_of}
use Rattle.plans.specs.FromRow.{chosen_from}
use Rattle.plans.proofs.FromRow.{chosen_all}

pub chosen_for_lem : (t : Timetable) (goal : Goal) → chosen_for t goal ≡ chosen_from (in_ticks goal) t 0
unfolding chosen_for
chosen_for_lem t goal = chosen_all (in_ticks goal) t

pub record Made (t : Timetable) (q : Query) (p : Plan) : Type 0 where
  pub end : ℕ
  pub reached : earliest t q ≡ some end
  pub bounded : p.bound ≡ bound_of q end
  pub first : Valued
  pub begins : first_open (chosen_for t (goal_of q p.bound)) q.source (ready_at q) ≡ some first
  pub worth : p.expected ≡ first.worth
  pub holds : p.rides ≡ rides_from q (chosen_for t (goal_of q p.bound))
  pub ends : p.latest ≡ latest_of p.rides

module _ (t : Timetable) (q : Query) where
  made_within :
      (e : ℕ) → earliest t q ≡ some e → (first : Option Valued) → first_open (chosen_for t (goal_of q (bound_of q e))) q.source (ready_at q) ≡ first
      → (p : Plan)
      → plan_within t q (bound_of q e) first ≡ some p → Made t q p
  unfolding plan_within
  made_within e reached none begins p h = absent h
  made_within e reached (some first) begins p h =
      subst (λ (x : Plan). Made t q x) (same_thing h)
      (record { end = e; reached = reached; bounded = refl; first = first; begins = begins; worth = refl; holds = refl; ends = refl })

  pub plan_made : (p : Plan) → planned t q ≡ some p → Made t q p
  unfolding planned plan_before
  plan_made p h = before (earliest t q) refl h
    where
      before : (e : Option ℕ) → earliest t q ≡ e → plan_before t q e ≡ some p → Made t q p
      before none reached k = absent k
      before (some e) reached k = made_within e reached _ refl p k

  pub no_plan_without : earliest t q ≡ none → planned t q ≡ none
  unfolding planned plan_before
  no_plan_without h = ap (plan_before t q) h

  -- no plan: no earliest safe arrival, or no chosen row to begin with
  pub no_plan :
      {P : Type 0} → planned t q ≡ none → (earliest t q ≡ none → P)
      → ((e : ℕ) → earliest t q ≡ some e → first_open (chosen_for t (goal_of q (bound_of q e))) q.source (ready_at q) ≡ none → P) → P
  unfolding planned plan_before plan_within
  no_plan {P} h never unopened = before (earliest t q) refl h
    where
      within : (e : ℕ) → earliest t q ≡ some e → (first : Option Valued)
          → first_open (chosen_for t (goal_of q (bound_of q e))) q.source (ready_at q) ≡ first
          → plan_within t q (bound_of q e) first ≡ none → P
      within e reached none begins k = unopened e reached begins
      within e reached (some first) begins k = absent (sym k)

      before : (e : Option ℕ) → earliest t q ≡ e → plan_before t q e ≡ none → P
      before none reached k = never reached
      before (some e) reached k = within e reached _ refl k
