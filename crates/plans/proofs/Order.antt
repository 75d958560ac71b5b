-- Chosen rides stand by boarding row rising, and at each stop their departures rise. Assumes nothing.
use Prim.Native.Nat.{ℕ, ◌≤◌, ◌<◌}
use native.Mathlib.Omega.{arith}
use mathlib.Core.Bool.{true, false, cond, false≢true}
use mathlib.Core.List.Memᴰ
use mathlib.Core.List.{List, [], ◌∷◌, Memᴰ}
use mathlib.Core.Logic.{◌⊎◌, inl, inr}
use mathlib.Core.Option.{Option, some}
use mathlib.Core.Path.{◌≡◌, refl, sym, ap, subst, ◌∙◌}
use lib.Dec.{eqb}
use borrow.Author.Tests.{eqb-true, eqb-false, ltb-true, ltb-false}
use Rattle.laws.proofs.Tests.{ifb}
use Rattle.laws.proofs.Members.{head_or_later}
use Rattle.plans.specs.Rides.{boards}
use Rattle.plans.specs.Worth.{Valued, first_open}
use Rattle.plans.specs.Chosen.{leads, first_at}
use Rattle.plans.proofs.Open.{can_board, boards_stop, first_here, on_head}
use Rattle.plans.proofs.AtMost.{AtMost, is_at_most}

-- what holds of a chosen ride and one that stands behind it
pub record Before (v u : Valued) : Type 0 where
  pub rows : v.ride.board < u.ride.board
  pub minutes : v.ride.departs ≤ u.ride.departs
  pub apart : v.ride.from ≡ u.ride.from → v.ride.departs < u.ride.departs

pub data Ordered : List Valued → Type 0 where
  nobody : Ordered []
  ahead : {v : Valued} {vs : List Valued} → ((u : Valued) → Memᴰ u vs → Before v u) → Ordered vs → Ordered (v ∷ vs)

-- of two members at one stop the one that departs first stands first; in one minute they are one
pub members_apart :
    {P : Type 0} (vs : List Valued) → Ordered vs → (x y : Valued) → Memᴰ x vs → Memᴰ y vs → (x ≡ y → P) → (Before x y → P)
    → (Before y x → P) → P
members_apart [] o x y m n one' first second = absurd (Memᴰ.not-nil m)
members_apart {P} (v ∷ vs) (ahead before o) x y m n one' first second =
    head_or_later P m
    (λ p. head_or_later P n (λ q. one' (p ∙ sym q)) (λ k. first (subst (λ (u : Valued). Before u y) (sym p) (before y k))))
    (λ l. head_or_later P n (λ q. second (subst (λ (u : Valued). Before u x) (sym q) (before x l)))
    (λ k. members_apart vs o x y l k one' first second))

-- the first that can be boarded stands before each that can be
pub first_before :
    (vs : List Valued) → Ordered vs → (s m : ℕ) (x : Valued) → Memᴰ x vs → boards x.ride s m ≡ true
    → (u : Valued) × (first_open vs s m ≡ some u) × ((u ≡ x) ⊎ Before u x)
first_before [] o s m x k b = absurd (Memᴰ.not-nil k)
first_before (v ∷ vs) (ahead before o) s m x k b =
    on_head Found v vs s m
    (λ _ h. (v, h, head_or_later ((v ≡ x) ⊎ Before v x) k (λ q. inl (sym q)) (λ n. inr (before x n))))
    (λ c h. head_or_later Found k (λ q. absurd (false≢true (sym c ∙ subst (λ (u : Valued). boards u.ride s m ≡ true) q b)))
    (λ n. let found : (u : Valued) × (first_open vs s m ≡ some u) × ((u ≡ x) ⊎ Before u x) = first_before vs o s m x n b in (
      found.0,
      h
          ∙ found.1,
      found.2,
    )))
  where
    Found : Type 0
    Found = (u : Valued) × (first_open (v ∷ vs) s m ≡ some u) × ((u ≡ x) ⊎ Before u x)
