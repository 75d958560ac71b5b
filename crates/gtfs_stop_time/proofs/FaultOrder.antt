-- The faults of a line's fields come in their order: 12 where there is no 11, 13 where there is neither. Assumes nothing.
use Prim.Native.Nat.{ℕ}
use mathlib.Core.Bool.{Bool, true, false}
use mathlib.Core.Path.{◌≡◌, refl, sym, ◌∙◌}
use lib.Dec.{leb}
use Rattle.timetable.specs.Verdict.{Verdict, fine, fault, or_else, unless}
use Rattle.timetable.proofs.Verdicts.{fault_not_fine, first_fine, second_fine, rule_holds, goes_on, stops_at}
use Rattle.gtfs_ids.specs.Ids.{id_rule}
use Rattle.gtfs_stop_time.specs.StopTime.{FieldTexts, stop_time_of, is_filled, time_rule, sequence_rule}
use Rattle.gtfs_stop_time.specs.Faults.{filled_verdict, times_verdict, own_verdict, OwnFault, unfilled, untimed, unplaced}

-- filled fields have ids
pub filled_ids : (texts : FieldTexts) → filled_verdict texts ≡ fine → (id_rule texts.trip ≡ true) × (id_rule texts.stop ≡ true)
unfolding filled_verdict
filled_ids texts e =
    let departs = second_fine (unless (is_filled texts.arrival) 11 2) _ (second_fine (unless (id_rule texts.trip) 11 1) _ e) in
    let stops = second_fine (unless (is_filled texts.departure) 11 3) _ departs in
    (rule_holds (id_rule texts.trip) 11 1 (first_fine _ _ e), rule_holds (id_rule texts.stop) 11 4 (first_fine _ _ stops))

module _ (start : ℕ) (texts : FieldTexts) where
  pub own_unfilled : {number column : ℕ} → filled_verdict texts ≡ fault number column → own_verdict start texts ≡ fault number column
  unfolding own_verdict
  own_unfilled e = stops_at _ e

  pub own_untimed : {number column : ℕ} → filled_verdict texts ≡ fine → times_verdict start texts ≡ fault number column
      → own_verdict start texts ≡ fault number column
  unfolding own_verdict
  own_untimed p e = goes_on _ p ∙ stops_at _ e

  pub own_left : filled_verdict texts ≡ fine → times_verdict start texts ≡ fine
      → own_verdict start texts ≡ unless (sequence_rule texts.sequence) 13 5
  unfolding own_verdict
  own_left p q = goes_on _ p ∙ goes_on _ q

  -- a line without a fault of its own
  pub own_fine : own_verdict start texts ≡ fine
      → (filled_verdict texts ≡ fine) × (times_verdict start texts ≡ fine) × (sequence_rule texts.sequence ≡ true)
  unfolding own_verdict
  own_fine e =
      let behind = second_fine (filled_verdict texts) _ e in
      (first_fine _ _ e, first_fine _ _ behind, rule_holds _ 13 5 (second_fine (times_verdict start texts) _ behind))

-- every fault of a chain has the chain's number
last_number : (b : Bool) (of place : ℕ) {number column : ℕ} → unless b of place ≡ fault number column → number ≡ of
last_number true of place e = absurd (fault_not_fine (sym e))
last_number false of place e = cc

next_number : (b : Bool) (of place : ℕ) (later : Verdict) {number column : ℕ} → or_else (unless b of place) later ≡ fault number column
    → (later ≡ fault number column → number ≡ of) → number ≡ of
next_number true of place later e behind = behind e
next_number false of place later e behind = cc

filled_number : (texts : FieldTexts) {number column : ℕ} → filled_verdict texts ≡ fault number column → number ≡ 11
unfolding filled_verdict
filled_number texts e =
    next_number (id_rule texts.trip) 11 1 _ e
    (λ e. next_number (is_filled texts.arrival) 11 2 _ e
    (λ e. next_number (is_filled texts.departure) 11 3 _ e
    (λ e. next_number (id_rule texts.stop) 11 4 _ e (λ e. last_number (is_filled texts.sequence) 11 5 e))))

times_number : (start : ℕ) (texts : FieldTexts) {number column : ℕ} → times_verdict start texts ≡ fault number column → number ≡ 12
unfolding times_verdict
times_number start texts e =
    next_number (time_rule start texts.arrival) 12 2 _ e
    (λ e. next_number (time_rule start texts.departure) 12 3 _ e
    (λ e. last_number (leb (stop_time_of start texts).arrival (stop_time_of start texts).departure) 12 0 e))

-- the first of three verdicts that is a fault
first_of : {A : Type 0} (v w x : Verdict) {number column : ℕ} → or_else v (or_else w x) ≡ fault number column
    → (v ≡ fault number column → A) → (v ≡ fine → w ≡ fault number column → A) → (v ≡ fine → w ≡ fine → x ≡ fault number column → A) → A
first_of fine fine x e f g h = h refl refl e
first_of fine (fault n p) x e f g h = g refl e
first_of (fault n p) w x e f g h = f e

pub own_fault : (start : ℕ) (texts : FieldTexts) {number column : ℕ} → own_verdict start texts ≡ fault number column
    → OwnFault start texts number column
unfolding own_verdict
own_fault start texts e =
    first_of
    (filled_verdict texts)
    (times_verdict start texts)
    (unless (sequence_rule texts.sequence) 13 5)
    e
    (λ broken. unfilled (filled_number texts broken) broken)
    (λ filled broken. untimed (times_number start texts broken) filled broken)
    (λ filled timed broken. unplaced (last_number (sequence_rule texts.sequence) 13 5 broken) filled timed)
