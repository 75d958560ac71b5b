-- Windows: what one wants, and which one a landing opens. Assumes nothing.
use Prim.Native.Nat.{ℕ, ◌≤◌}
use mathlib.Core.Bool.{true}
use mathlib.Core.List.{List, [], ◌∷◌, ◌++◌}
use mathlib.Core.Logic.{◌≢◌}
use mathlib.Core.Option.{some}
use mathlib.Core.Path.{◌≡◌, ap, ◌∙◌}
use borrow.Author.Tests.{eq-eqb, ne_eqb, le-leb}
use Rattle.laws.proofs.Tests.{both, cond_true, cond_false}
use Rattle.plans.specs.Rides.{Ride, lands_by, boards, ready}
use Rattle.plans.specs.Worth.{Valued, first_open}
use Rattle.plans.specs.Plan.{Window, in_window, up_to, windows_of}

pub in_window_lem : (w : Window) (r : Ride) → boards r w.stop w.minute ≡ true → r.departs ≤ w.until → in_window w r ≡ true
unfolding in_window
in_window_lem w r boarded until = both boarded (le-leb r.departs w.until until)

-- a ride that ends at the target opens no window
pub none_more : (gate target : ℕ) (r : Ride) (behind : List Valued) (ws : List Window) → r.to ≡ target → windows_of gate target r behind ++ ws ≡ ws
unfolding windows_of
none_more gate target r behind ws e =
    ap (λ (l : List Window). l ++ ws) (cond_true [] (up_to r.to (ready gate r.arrives) (first_open behind r.to (ready gate (lands_by r)))) (eq-eqb r.to target e))

-- any other opens one, up to and including the first ride at or after its last landing
abbrev pub window : (gate : ℕ) → Ride → Valued → Window
window gate r safe = record { stop = r.to; minute = ready gate r.arrives; until = safe.ride.departs }

pub one_more : (gate target : ℕ) (r : Ride) (behind : List Valued) (ws : List Window) (safe : Valued) → r.to ≢ target
    → first_open behind r.to (ready gate (lands_by r)) ≡ some safe → windows_of gate target r behind ++ ws ≡ window gate r safe ∷ ws
unfolding windows_of up_to
one_more gate target r behind ws safe away e =
    ap (λ (l : List Window). l ++ ws)
    (cond_false [] (up_to r.to (ready gate r.arrives) (first_open behind r.to (ready gate (lands_by r)))) (ne_eqb r.to target away)
    ∙ ap (up_to r.to (ready gate r.arrives)) e)
