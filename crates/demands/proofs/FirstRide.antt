-- A plan's first ride is the one to begin with. Assumes nothing.
use Prim.Native.Nat.{ℕ}
use native.Mathlib.Nat.{le_refl}
use mathlib.Core.Bool.{true, false≢true}
use mathlib.Core.List.{List, [], ◌∷◌, ◌++◌}
use mathlib.Core.Option.{Option, some}
use mathlib.Core.Path.{◌≡◌, refl, sym, ap, subst, ◌∙◌}
use Rattle.laws.proofs.Options.{absent, same_thing}
use Rattle.timetable.specs.Timetable.{Timetable}
use Rattle.query.specs.declared.Query.{Query}
use Rattle.plans.specs.Rides.{Ride, boards}
use Rattle.plans.specs.Journeys.{goal_of, ready_at}
use Rattle.plans.specs.Worth.{Valued, first_open}
use Rattle.plans.specs.Plan.{Window, wanted, up_to, windows_of, extract, rides_from, Plan, chosen_for}
use Rattle.plans.proofs.Open.{on_head, found_boards}
use Rattle.plans.proofs.Extracted.{up_to_wants, on_taking, window_boards}
use Rattle.plans.proofs.Made.{Made}
use Rattle.demands.proofs.EveryRide.{wanted_in, up_to_is}

-- what is wanted up to a ride can be boarded where and when that one can
up_to_boards : (stop minute : ℕ) (last : Valued) (r : Ride) → wanted (up_to stop minute (some last)) r ≡ true → boards r stop minute ≡ true
up_to_boards stop minute last r e =
    let found = wanted_in (up_to stop minute (some last)) r e in
    subst (λ (w : Window). boards r w.stop w.minute ≡ true) (up_to_is stop minute (some last) found.1).2
    (window_boards found.0 r found.2)

-- the window up to the first ride that can be boarded takes that ride first
first_taken :
    (gate target source minute : ℕ) (first : Valued) (vs : List Valued) → first_open vs source minute ≡ some first
    → (rest : List Valued) × (extract gate target (up_to source minute (some first)) vs ≡ first ∷ rest)
unfolding first_open
first_taken gate target source minute first [] e = absent e
first_taken gate target source minute first (v ∷ vs) e =
    let ws = up_to source minute (some first) in
    on_head ((rest : List Valued) × (extract gate target ws (v ∷ vs) ≡ first ∷ rest)) v vs source minute
    (λ b h. let same : v ≡ first = same_thing (sym h ∙ e) in
    on_taking gate target ((rest : List Valued) × (extract gate target ws (v ∷ vs) ≡ first ∷ rest)) ws v vs
    (λ _ k. let rest : List Valued = extract gate target (windows_of gate target v.ride vs ++ ws) vs in (rest, k ∙ ap (λ (x : Valued). x ∷ rest) same))
    (λ c _. absurd (false≢true (sym c
    ∙ subst (λ (x : Valued). wanted ws x.ride ≡ true) (sym same)
    (up_to_wants source minute first refl first.ride (found_boards (v ∷ vs) source minute e) (le_refl _))))))
    (λ b h. on_taking gate target ((rest : List Valued) × (extract gate target ws (v ∷ vs) ≡ first ∷ rest)) ws v vs
    (λ w _. absurd (false≢true (sym b ∙ up_to_boards source minute first v.ride w)))
    (λ _ k. let behind = first_taken gate target source minute first vs (sym h ∙ e) in (behind.0, k ∙ behind.1)))

-- so the plan's first ride is the first that can be boarded at the source, at or after T + g, and has the plan's worth
pub plan_begins :
    (t : Timetable) (q : Query) (p : Plan) → Made t q p
    → (v : Valued) × (rest : List Valued) × (p.rides ≡ v ∷ rest) × (boards v.ride q.source (ready_at q) ≡ true) × (v.worth ≡ p.expected)
unfolding rides_from
plan_begins t q p made =
    let chosen = chosen_for t (goal_of q p.bound) in
    let taken = first_taken q.gate q.target q.source (ready_at q) made.first chosen made.begins in (
      made.first,
      taken.0,
      made.holds ∙ ap (λ (o : Option Valued). extract q.gate q.target (up_to q.source (ready_at q) o) chosen) made.begins ∙ taken.1,
      found_boards chosen q.source (ready_at q) made.begins,
      sym made.worth,
    )
