-- Of two chosen rides from one stop the earlier gains at least the margin, and who is not chosen would gain less. Assumes nothing.
use Prim.Native.Nat.{ℕ, ◌+◌, ◌-◌, ◌≤◌, ◌<◌}
use native.Mathlib.Omega.{arith}
use mathlib.Core.Bool.{true, false, cond, false≢true}
use mathlib.Core.List.Memᴰ
use mathlib.Core.List.{List, [], ◌∷◌, Memᴰ}
use mathlib.Core.Option.{Option, some}
use mathlib.Core.Path.{◌≡◌, refl, sym, ap, subst, ◌∙◌}
use lib.Dec.{eqb}
use borrow.Author.Tests.{eqb-true, eqb-false, leb-true, leb-false}
use Rattle.laws.proofs.Tests.{ifb}
use Rattle.laws.proofs.Members.{head_or_later}
use Rattle.plans.specs.Worth.{Valued, first_open}
use Rattle.plans.specs.Chosen.{leads, first_at}
use Rattle.plans.proofs.Open.{can_board, boards_stop, first_here, on_head}
use Rattle.plans.proofs.AtMost.{AtMost, is_at_most}
use Rattle.plans.proofs.Order.{Ordered, ahead}

-- of two rides from one stop the earlier is worth less by the margin
abbrev pub Gaining : (margin : ℕ) → List Valued → Type 0
Gaining margin vs =
    (v u : Valued) → Memᴰ v vs → Memᴰ u vs → v.ride.from ≡ u.ride.from → v.ride.departs < u.ride.departs
    → v.worth + margin ≤ u.worth

-- what leads the stop's first chosen row leads each of its chosen rows
pub leads_each :
    (margin : ℕ) (vs : List Valued) → Ordered vs → Gaining margin vs → (w s : ℕ) → leads margin w (first_at vs s) ≡ true → (x : Valued)
    → Memᴰ x vs → x.ride.from ≡ s → w + margin ≤ x.worth
unfolding leads first_at
leads_each margin [] o gain w s lead x m there = absurd (Memᴰ.not-nil m)
leads_each margin (v ∷ vs) (ahead before o) gain w s lead x m there =
    ifb (λ b. eqb v.ride.from s ≡ b → leads margin w (cond b (some v) (first_at vs s)) ≡ true → w + margin ≤ x.worth) (eqb v.ride.from s)
    (λ e _ l. let first : w + margin ≤ v.worth = leb-true (w + margin) v.worth l in
    head_or_later (w + margin ≤ x.worth) m (λ q. subst (λ (u : Valued). w + margin ≤ u.worth) (sym q) first)
    (λ n. let same = eqb-true v.ride.from s e ∙ sym there in
    let then : v.worth + margin ≤ x.worth = gain v x (Memᴰ.head refl) m same ((before x n).apart same) in omega arith))
    (λ e _ l. leads_each margin vs o (λ a b k n. gain a b (Memᴰ.tail k) (Memᴰ.tail n)) w s l x (head_or_later (Memᴰ x vs) m
    (λ q. absurd (eqb-false v.ride.from s e (ap (λ (u : Valued). u.ride.from) (sym q) ∙ there))) (λ n. n)) there) refl lead

-- what does not lead finds one at its stop, from a minute at which none has left, that is worth more by less than the margin
pub led_by_first :
    (margin : ℕ) (vs : List Valued) (w s m : ℕ) → leads margin w (first_at vs s) ≡ false → ((x : Valued) → Memᴰ x vs → m ≤ x.ride.departs)
    → AtMost (first_open vs s m) (w + (margin - 1))
unfolding leads first_at
led_by_first margin [] w s m led early = absurd (false≢true (sym led))
led_by_first margin (v ∷ vs) w s m led early =
    ifb (λ b. eqb v.ride.from s ≡ b → leads margin w (cond b (some v) (first_at vs s)) ≡ false → AtMost (first_open (v ∷ vs) s m) (w + (margin - 1)))
    (eqb v.ride.from s)
    (λ e _ l. is_at_most (first_here v vs s m (can_board v.ride s m (eqb-true v.ride.from s e) (early v (Memᴰ.head refl))))
    (let less : v.worth < w + margin = leb-false (w + margin) v.worth l in omega arith))
    (λ e _ l. on_head (AtMost (first_open (v ∷ vs) s m) (w + (margin - 1))) v vs s m
    (λ b _. absurd (eqb-false v.ride.from s e (boards_stop v.ride s m b)))
    (λ _ h. subst (λ (o : Option Valued). AtMost o (w + (margin - 1))) (sym h)
    (led_by_first margin vs w s m l (λ x n. early x (Memᴰ.tail n))))) refl led
