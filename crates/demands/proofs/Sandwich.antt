-- The mean arrival over all delays lies within the expected ticks, less than one tick a ride below. Assumes nothing.
use Prim.Native.Nat.{ℕ, suc, ◌+◌, ◌-◌, ◌*◌, ◌^◌, ◌≤◌, ◌<◌}
use mathlib.Core.Bool.{Bool, true, false, cond}
use mathlib.Core.List.Memᴰ
use mathlib.Core.List.{List, [], ◌∷◌}
use mathlib.Core.Logic.{◌≢◌}
use mathlib.Core.Option.{none, some}
use mathlib.Core.Path.{◌≡◌, refl, sym, ◌∙◌, ap, subst}
use native.Mathlib.Nat.{mul-le-mul_left, add-zero, pow-succ', one-le-pow, le_trans, le_of_eq}
use native.Mathlib.Omega.{arith}
use borrow.Author.Tests.{eq-eqb, ne_eqb}
use lib.Dec.{eqb}
use lib.ListN.{length}
use Rattle.laws.proofs.Tests.{ifb, cond_true, cond_false}
use Rattle.timetable.specs.Classes.{sum, share_total}
use Rattle.plans.specs.Rides.{Ride, ready, boards}
use Rattle.timetable.specs.Ticks.{ticks_a_minute, quotient_up}
use Rattle.plans.specs.Worth.{weigh, first_open, worth_or, caught, land_worth, valued}
use Rattle.demands.specs.Walk.{Sailed, Delayed, delay_first, undelayed, Standing, landed}
use Rattle.plans.proofs.RideMinutes.{shares_stand}
use Rattle.plans.proofs.Weighing.{weigh_less}
use Rattle.demands.proofs.Means.{standing_worth, weigh_scale, weigh_within, weigh_constant, weigh_shift, up_reaches, up_loses, land_mean}
use Rattle.demands.proofs.Choices.{late, total, total_cons, total_nil}
use Rattle.demands.proofs.Forward.{Timed, Served, over, onward, Forward, served_sooner, served_behind, landing_latest}
use Rattle.plans.proofs.Open.{boards_stop}
use Rattle.demands.proofs.Course.{course}

-- the sum over all choices of weight × ticks at the end, for one who stands there
unfoldable pub mean : (gate : ℕ) → List Ride → Standing → ℕ
mean gate rides at = total (λ sailed. ticks_a_minute * (course gate sailed at).minute) rides

mean_end : (gate : ℕ) (at : Standing) → mean gate [] at ≡ ticks_a_minute * at.minute
unfolding mean course
mean_end gate at = total_nil (λ sailed. ticks_a_minute * (course gate sailed at).minute)

-- where one stands after a ride that landed at this minute
abbrev pub off : Standing → Ride → ℕ → Standing
off at r minute = record { stop = r.to; minute = minute; boarded = suc at.boarded }

mean_boards :
    (gate : ℕ) (r : Ride) (behind : List Ride) (at : Standing) → boards r at.stop (ready gate at.minute) ≡ true
    → mean gate (r ∷ behind) at ≡ weigh r.shares r.arrives (λ minute. mean gate behind (off at r minute))
unfolding mean course landed
mean_boards gate r behind at opens =
    total_cons (λ sailed. ticks_a_minute * (course gate sailed at).minute) r behind
    ∙ ap (λ b. weigh r.shares 0
    (λ v. total (λ sailed. ticks_a_minute * (cond b (course gate sailed (off at r (r.arrives + v))) (course gate sailed at)).minute) behind)) opens
    ∙ sym (weigh_shift r.shares r.arrives 0 (λ minute. mean gate behind (off at r minute)))
    ∙ ap (λ a. weigh r.shares a (λ minute. mean gate behind (off at r minute))) (add-zero r.arrives)

mean_passes :
    (gate : ℕ) (r : Ride) (behind : List Ride) (at : Standing) → sum r.shares ≡ share_total → boards r at.stop (ready gate at.minute) ≡ false
    → mean gate (r ∷ behind) at ≡ share_total * mean gate behind at
unfolding mean course landed
mean_passes gate r behind at full shut =
    total_cons (λ sailed. ticks_a_minute * (course gate sailed at).minute) r behind
    ∙ ap (λ b. weigh r.shares 0
    (λ v. total (λ sailed. ticks_a_minute * (cond b (course gate sailed (off at r (r.arrives + v))) (course gate sailed at)).minute) behind)) shut
    ∙ weigh_constant r.shares 0 (mean gate behind at) ∙ ap (λ n. n * mean gate behind at) full

-- what standing there is worth by the plan's own worths
abbrev pub worth_at : (gate target : ℕ) → List Ride → Standing → ℕ
worth_at gate target rides at = standing_worth gate target (valued gate target rides) at.stop at.minute

pub worth_boards :
    (gate target : ℕ) (r : Ride) (behind : List Ride) (at : Standing) → Timed target r behind → boards r at.stop (ready gate at.minute) ≡ true
    → worth_at gate target (r ∷ behind) at ≡ quotient_up share_total (weigh r.shares r.arrives (λ minute. worth_at gate target behind (off at r minute)))
unfolding standing_worth caught worth_or first_open valued
worth_boards gate target r behind at timed opens =
    cond_false (ticks_a_minute * at.minute) (caught (valued gate target (r ∷ behind)) at.stop (ready gate at.minute))
    (ne_eqb at.stop target (λ there. timed.off_target (boards_stop r at.stop (ready gate at.minute) opens ∙ there)))
    ∙ ap (worth_or 0)
    (cond_true (some (record { ride = r; worth = land_worth gate target r (valued gate target behind) }))
    (first_open (valued gate target behind) at.stop (ready gate at.minute)) opens)
    ∙ land_mean gate target r (valued gate target behind) timed.full

pub worth_passes :
    (gate target : ℕ) (r : Ride) (behind : List Ride) (at : Standing) → boards r at.stop (ready gate at.minute) ≡ false
    → worth_at gate target (r ∷ behind) at ≡ worth_at gate target behind at
unfolding standing_worth caught first_open valued
worth_passes gate target r behind at shut =
    ap (λ o. cond (eqb at.stop target) (ticks_a_minute * at.minute) (worth_or 0 o))
    (cond_false (some (record { ride = r; worth = land_worth gate target r (valued gate target behind) }))
    (first_open (valued gate target behind) at.stop (ready gate at.minute)) shut)

pub worth_over : (gate target : ℕ) (rides : List Ride) (at : Standing) → at.stop ≡ target → worth_at gate target rides at ≡ ticks_a_minute * at.minute
unfolding standing_worth
worth_over gate target rides at there =
    cond_true (ticks_a_minute * at.minute) (caught (valued gate target rides) at.stop (ready gate at.minute)) (eq-eqb at.stop target there)

-- the delays of a ride, where its landings are served
abbrev pub Landings : (r : Ride) → (ℕ → Type 0) → Type 0
Landings r P = (minute : ℕ) → r.arrives ≤ minute → minute < r.arrives + length r.shares → P minute

-- A ≤ 4,096^R × X: rounding up only adds
board_within :
    (gate target : ℕ) (r : Ride) (behind : List Ride) (at : Standing) → Timed target r behind → boards r at.stop (ready gate at.minute) ≡ true
    → Landings r (λ minute. mean gate behind (off at r minute) ≤ share_total ^ length behind * worth_at gate target behind (off at r minute))
    → mean gate (r ∷ behind) at ≤ share_total ^ suc (length behind) * worth_at gate target (r ∷ behind) at
board_within gate target r behind at timed opens each =
    rw (mean_boards gate r behind at opens, worth_boards gate target r behind at timed opens, pow-succ' share_total (length behind))
    (round (share_total ^ length behind) (weigh r.shares r.arrives (λ minute. mean gate behind (off at r minute))) worths
    (le_trans
    (weigh_less r.shares r.arrives (λ minute. mean gate behind (off at r minute))
    (λ minute. share_total ^ length behind * worth_at gate target behind (off at r minute)) each)
    (le_of_eq (weigh_scale r.shares r.arrives (share_total ^ length behind) (λ minute. worth_at gate target behind (off at r minute))))))
  where
    worths : ℕ
    worths = weigh r.shares r.arrives (λ minute. worth_at gate target behind (off at r minute))

    round : (power landings sums : ℕ) → landings ≤ power * sums → landings ≤ share_total * power * quotient_up share_total sums
    round power landings sums each = omega (arith, mul-le-mul_left power (up_reaches sums))

pass_within :
    (gate target : ℕ) (r : Ride) (behind : List Ride) (at : Standing) → Timed target r behind → boards r at.stop (ready gate at.minute) ≡ false
    → mean gate behind at ≤ share_total ^ length behind * worth_at gate target behind at
    → mean gate (r ∷ behind) at ≤ share_total ^ suc (length behind) * worth_at gate target (r ∷ behind) at
pass_within gate target r behind at timed shut further =
    rw (mean_passes gate r behind at timed.full shut, worth_passes gate target r behind at shut, pow-succ' share_total (length behind))
    (omega arith)

pub mean_within :
    (gate target : ℕ) {rides : List Ride} → Forward gate target rides → (at : Standing) → Served target rides at.stop (ready gate at.minute)
    → mean gate rides at ≤ share_total ^ length rides * worth_at gate target rides at
mean_within gate target Forward.none at (onward next among opens) = absurd (Memᴰ.not-nil among)
mean_within gate target Forward.none at (over there) = omega (arith, mean_end gate at, worth_over gate target [] at there)
mean_within gate target (Forward.one {r = r} {behind = behind} timed goes_on rest) at served =
    ifb (λ b. mean gate (r ∷ behind) at ≤ share_total ^ suc (length behind) * worth_at gate target (r ∷ behind) at)
    (boards r at.stop (ready gate at.minute))
    (λ opens. board_within gate target r behind at timed opens
    (λ minute from below. mean_within gate target rest (off at r minute) (served_sooner (ready gate minute) (omega (arith, landing_latest r minute from below)) goes_on)))
    (λ shut. pass_within gate target r behind at timed shut (mean_within gate target rest at (served_behind shut served)))

-- under no choice are more rides boarded in all
abbrev pub AtMostRides : (gate : ℕ) → List Ride → Standing → ℕ → Type 0
AtMostRides gate rides at most = (sailed : List Sailed) → Delayed rides sailed → (course gate sailed at).boarded ≤ most

-- one away from the target has a ride before him, whose rounding loses less than one
abbrev gap : ℕ → Standing → ℕ
gap target at = cond (eqb at.stop target) 0 1

gap_one : (target : ℕ) (at : Standing) → gap target at ≤ 1
gap_one target at = ifb (λ b. cond b 0 1 ≤ 1) (eqb at.stop target) (λ _. omega arith) (λ _. omega arith)

-- 4,096^R × (X + rides so far) is at most A + 4,096^R × L, and less where a ride is still to come
Above : (gate target : ℕ) → List Ride → Standing → ℕ → Type 0
Above gate target rides at most =
    share_total ^ length rides * worth_at gate target rides at + share_total ^ length rides * at.boarded + gap target at
    ≤ mean gate rides at + share_total ^ length rides * most

board_above :
    (gate target : ℕ) (r : Ride) (behind : List Ride) (at : Standing) (most : ℕ) → Timed target r behind
    → boards r at.stop (ready gate at.minute) ≡ true → Landings r (λ minute. Above gate target behind (off at r minute) most)
    → Above gate target (r ∷ behind) at most
unfolding Above
board_above gate target r behind at most timed opens each =
    rw (mean_boards gate r behind at opens, worth_boards gate target r behind at timed opens, pow-succ' share_total (length behind))
    (round (share_total ^ length behind) (one-le-pow (length behind) share_total (omega arith))
    (weigh r.shares r.arrives means) (weigh r.shares r.arrives worths) at.boarded (gap target at) (gap_one target at) summed)
  where
    power : ℕ
    power = share_total ^ length behind

    means : ℕ → ℕ
    means minute = mean gate behind (off at r minute)

    worths : ℕ → ℕ
    worths minute = worth_at gate target behind (off at r minute)

    summed :
        power * weigh r.shares r.arrives worths + share_total * (power * suc at.boarded)
        ≤ weigh r.shares r.arrives means + share_total * (power * most)
    summed =
        omega (
          arith,
          weigh_within r.shares r.arrives (λ minute. power * worths minute) means (power * suc at.boarded) (power * most) timed.full
              (λ minute from below. omega (arith, each minute from below)),
          weigh_scale r.shares r.arrives power worths,
        )

    round :
        (n : ℕ) → 1 ≤ n → (landings sums b g : ℕ) → g ≤ 1 → n * sums + share_total * (n * suc b) ≤ landings + share_total * (n * most)
        → share_total * n * quotient_up share_total sums + share_total * n * b + g ≤ landings + share_total * n * most
    round n positive landings sums b g small each = omega (arith, mul-le-mul_left n (up_loses sums))

pass_above :
    (gate target : ℕ) (r : Ride) (behind : List Ride) (at : Standing) (most : ℕ) → Timed target r behind
    → boards r at.stop (ready gate at.minute) ≡ false → Above gate target behind at most → Above gate target (r ∷ behind) at most
unfolding Above
pass_above gate target r behind at most timed shut further =
    rw (mean_passes gate r behind at timed.full shut, worth_passes gate target r behind at shut, pow-succ' share_total (length behind))
    (omega arith)

-- what holds of every choice holds of the choices behind a first ride boarded, or passed over
pub most_boarded :
    (gate : ℕ) (r : Ride) (behind : List Ride) (at : Standing) (most : ℕ) → boards r at.stop (ready gate at.minute) ≡ true
    → AtMostRides gate (r ∷ behind) at most → Landings r (λ minute. AtMostRides gate behind (off at r minute) most)
unfolding course landed
most_boarded gate r behind at most opens within minute from below sailed delayed =
    subst (λ (m : ℕ). (course gate sailed (off at r m)).boarded ≤ most) (omega arith)
    (subst (λ (b : Bool). (cond b (course gate sailed (off at r (r.arrives + (minute - r.arrives)))) (course gate sailed at)).boarded ≤ most) opens
    (within (late r (minute - r.arrives) ∷ sailed) (delay_first refl (omega arith) delayed)))

pub most_passed :
    (gate : ℕ) (r : Ride) (behind : List Ride) (at : Standing) (most : ℕ) → sum r.shares ≡ share_total → boards r at.stop (ready gate at.minute) ≡ false
    → AtMostRides gate (r ∷ behind) at most → AtMostRides gate behind at most
unfolding course landed
most_passed gate r behind at most full shut within sailed delayed =
    subst (λ (b : Bool). (cond b (course gate sailed (off at r (r.arrives + 0))) (course gate sailed at)).boarded ≤ most) shut
    (within (late r 0 ∷ sailed) (delay_first refl (let z : 0 < length r.shares = omega (arith, shares_stand r.shares full) in z) delayed))

mean_above :
    (gate target most : ℕ) {rides : List Ride} → Forward gate target rides → (at : Standing) → Served target rides at.stop (ready gate at.minute)
    → AtMostRides gate rides at most → Above gate target rides at most
unfolding Above course
mean_above gate target most Forward.none at (onward next among opens) within = absurd (Memᴰ.not-nil among)
mean_above gate target most Forward.none at (over there) within =
    omega (
      arith,
      mean_end gate at,
      worth_over gate target [] at there,
      within [] undelayed,
      cond_true {A = ℕ} 0 1 (eq-eqb at.stop target there),
    )
mean_above gate target most (Forward.one {r = r} {behind = behind} timed goes_on rest) at served within =
    ifb (λ b. Above gate target (r ∷ behind) at most) (boards r at.stop (ready gate at.minute))
    (λ opens. board_above gate target r behind at most timed opens
    (λ minute from below.
    mean_above gate target most rest (off at r minute) (served_sooner (ready gate minute) (omega (arith, landing_latest r minute from below)) goes_on)
    (most_boarded gate r behind at most opens within minute from below)))
    (λ shut. pass_above gate target r behind at most timed shut
    (mean_above gate target most rest at (served_behind shut served) (most_passed gate r behind at most timed.full shut within)))

-- 4,096^R × X < A + 4,096^R × L, for one who sets out away from the target
pub mean_strictly_above :
    (gate target most : ℕ) {rides : List Ride} → Forward gate target rides → (at : Standing) → Served target rides at.stop (ready gate at.minute)
    → AtMostRides gate rides at most → at.stop ≢ target
    → share_total ^ length rides * worth_at gate target rides at < mean gate rides at + share_total ^ length rides * most
unfolding Above
mean_strictly_above gate target most forward at served within elsewhere =
    omega (
      arith,
      mean_above gate target most forward at served within,
      cond_false {A = ℕ} 0 1 (ne_eqb at.stop target elsewhere),
    )
