-- `gtfs_stop_time::call_of` meets its contract: each field is told to be right, or its fault is the answer. Assumes nothing.
use Prim.Native.Nat.{ℕ, ◌-◌, ◌≤◌}
use mathlib.Core.Path.{◌≡◌, sym, ap, subst, ◌∙◌}
use mathlib.Core.List.{List}
use lib.ListN.{length}
use native.Mathlib.Omega.{arith}
use Rattle.std.specs.Prelude.{Option, Some, None, Result, Ok, Err}
use Rattle.std.specs.Option.{ok_or}
use Rattle.std.proofs.lemmas.Result.{err_from_is_err_and}
use Rattle.timetable.proofs.Verdicts.{breaking_fault, holding_fine}
use Rattle.gtfs_fields.specs.Time.{time_within}
use Rattle.gtfs_fields.specs.Whole.{whole_below}
use Rattle.gtfs_ids.specs.Keys.{key_of}
use Rattle.gtfs_stop_time.specs.StopTime.{last_minute, sequence_limit}
use Rattle.gtfs_stop_time.specs.declared.FieldFault.{FieldFault}
use Rattle.gtfs_stop_time.proofs.Spans.{unfilled_fault, filled_fine, short_there}
use Rattle.gtfs_stop_time.proofs.Numbers.{time_told, time_wrong, told_in_week, sequence_told, sequence_wrong}
use Rattle.gtfs_stop_time.proofs.Times.{arrival_broken, departure_broken, order_broken, times_fine}
use Rattle.gtfs_stop_time.proofs.FaultOrder.{filled_ids, own_unfilled, own_untimed, own_left}
use Rattle.gtfs_stop_time.proofs.Answers.{refused_said, fine_said, call_made}
use Rattle.gtfs_stop_time.proofs.call_of.Goals as goal

-- the fault that is named for a number that was not told
named_fault : (told : Option ℕ) (found given : FieldFault) → ◌≡◌ {A = Result ℕ FieldFault} (Err found) (ok_or told given) → found ≡ given
named_fault None found given e = cc
named_fault (Some number) found given e = cc

-- what a field's bytes were read as
read_told : {A : Type 0} (read : List ℕ → A) {lent bytes : List ℕ} {told said : A} → lent ≡ bytes → told ≡ read lent → told ≡ said → read bytes ≡ said
read_told read part is says = ap read (sym part) ∙ sym is ∙ says

-- a part that is lent is as short as the id that it is
key_room : {lent bytes : List ℕ} {most : ℕ} → lent ≡ bytes → length bytes ≤ most → length lent ≤ most
key_room {lent} {bytes} {most} part short = subst (λ b. length b ≤ most) (sym part) short

pub returns-in-Some : goal.returns-in-Some
returns-in-Some c =
    let a = c.args in
    refused_said a.start a.text.now a.fields
    (own_unfilled a.start _ (unfilled_fault a.text.now a.fields c.requires.0 c.in-Some.ensures))

pub returns-in_err-arrival : goal.returns-in_err-arrival
returns-in_err-arrival c =
    let a = c.args in
    let up = err_from_is_err_and c.from_residual.result c.from_residual.ensures.1 in
    let same = named_fault _ _ _ c.in_err-arrival.ensures.value in
    let filled = filled_fine a.text.now a.fields c.requires.0 c.in_default.ensures in
    let broken = time_wrong a.start _ c.requires.1 (read_told (time_within (last_minute - c.args.start)) c.text_of.ensures c.time_within.ensures c.in_err-arrival.ensures.ok_part) in
    let said = refused_said a.start a.text.now a.fields (own_untimed a.start _ filled (arrival_broken a.start _ broken)) in
    cc (up.1, up.2, same, said)

pub returns-in_err-departure : goal.returns-in_err-departure
returns-in_err-departure c =
    let a = c.args in
    let up = err_from_is_err_and c.from_residual-in_err-departure.result c.from_residual-in_err-departure.ensures.1 in
    let same = named_fault _ _ _ c.in_err-departure.ensures.value in
    let filled = filled_fine a.text.now a.fields c.requires.0 c.in_default.ensures in
    let arrives = time_told a.start _ _ c.requires.1 (read_told (time_within (last_minute - c.args.start)) c.text_of.ensures c.time_within.ensures c.in_ok-arrival.ensures.ok_part) in
    let broken = time_wrong a.start _ c.requires.1 (read_told (time_within (last_minute - c.args.start)) c.text_of-2.ensures c.time_within-2.ensures c.in_err-departure.ensures.ok_part) in
    let said = refused_said a.start a.text.now a.fields (own_untimed a.start _ filled (departure_broken a.start _ arrives.holds broken)) in
    cc (up.1, up.2, same, said)

pub returns-then-departure-arrival : goal.returns-then-departure-arrival
returns-then-departure-arrival c =
    let a = c.args in
    let filled = filled_fine a.text.now a.fields c.requires.0 c.in_default.ensures in
    let arrives = time_told a.start _ _ c.requires.1 (read_told (time_within (last_minute - c.args.start)) c.text_of.ensures c.time_within.ensures c.in_ok-arrival.ensures.ok_part) in
    let departs = time_told a.start _ _ c.requires.1 (read_told (time_within (last_minute - c.args.start)) c.text_of-2.ensures c.time_within-2.ensures c.in_ok-departure.ensures.ok_part) in
    refused_said a.start a.text.now a.fields
    (own_untimed a.start _ filled (order_broken a.start _ arrives departs c.if-departure-arrival.true))

pub returns-in_err-sequence : goal.returns-in_err-sequence
returns-in_err-sequence c =
    let a = c.args in
    let up = err_from_is_err_and c.from_residual-in_err-sequence.result c.from_residual-in_err-sequence.ensures.1 in
    let same = named_fault _ _ _ c.in_err-sequence.ensures.value in
    let filled = filled_fine a.text.now a.fields c.requires.0 c.in_default.ensures in
    let arrives = time_told a.start _ _ c.requires.1 (read_told (time_within (last_minute - c.args.start)) c.text_of.ensures c.time_within.ensures c.in_ok-arrival.ensures.ok_part) in
    let departs = time_told a.start _ _ c.requires.1 (read_told (time_within (last_minute - c.args.start)) c.text_of-2.ensures c.time_within-2.ensures c.in_ok-departure.ensures.ok_part) in
    let broken = sequence_wrong _ (read_told (whole_below sequence_limit) c.text_of-3.ensures c.whole_below.ensures c.in_err-sequence.ensures.ok_part) in
    let said = refused_said a.start a.text.now a.fields
    (own_left a.start _ filled (times_fine a.start _ arrives departs c.if-departure-arrival.false) ∙ breaking_fault 13 5 broken) in
    cc (up.1, up.2, same, said)

pub key_of-requires : goal.key_of-requires
key_of-requires c =
    let a = c.args in
    let filled = filled_fine a.text.now a.fields c.requires.0 c.in_default.ensures in
    key_room c.text_of-4.ensures (short_there a.text.now a.fields.trip c.requires.0.trip (filled_ids _ filled).0)

pub key_of-requires-2 : goal.key_of-requires-2
key_of-requires-2 c =
    let a = c.args in
    let filled = filled_fine a.text.now a.fields c.requires.0 c.in_default.ensures in
    key_room c.text_of-5.ensures (short_there a.text.now a.fields.stop c.requires.0.stop (filled_ids _ filled).1)

pub overflow_add-result : goal.overflow_add-result
overflow_add-result c =
    omega (arith, told_in_week (time_told c.args.start _ _ c.requires.1 (read_told (time_within (last_minute - c.args.start)) c.text_of.ensures c.time_within.ensures c.in_ok-arrival.ensures.ok_part)))

pub overflow_add-result-2 : goal.overflow_add-result-2
overflow_add-result-2 c =
    omega (arith, told_in_week (time_told c.args.start _ _ c.requires.1 (read_told (time_within (last_minute - c.args.start)) c.text_of-2.ensures c.time_within-2.ensures c.in_ok-departure.ensures.ok_part)))

pub returns : goal.returns
returns c =
    let a = c.args in
    let filled = filled_fine a.text.now a.fields c.requires.0 c.in_default.ensures in
    let arrives = time_told a.start _ _ c.requires.1 (read_told (time_within (last_minute - c.args.start)) c.text_of.ensures c.time_within.ensures c.in_ok-arrival.ensures.ok_part) in
    let departs = time_told a.start _ _ c.requires.1 (read_told (time_within (last_minute - c.args.start)) c.text_of-2.ensures c.time_within-2.ensures c.in_ok-departure.ensures.ok_part) in
    let counts = sequence_told _ _ (read_told (whole_below sequence_limit) c.text_of-3.ensures c.whole_below.ensures c.in_ok-sequence.ensures.ok_part) in
    ap Ok (call_made a.start a.text.now a.fields (c.key_of.ensures ∙ ap key_of c.text_of-4.ensures) (c.key_of-2.ensures ∙ ap key_of c.text_of-5.ensures) arrives.says departs.says counts.1)
    ∙ fine_said a.start a.text.now a.fields
    (own_left a.start _ filled (times_fine a.start _ arrives departs c.if-departure-arrival.false) ∙ holding_fine _ 13 5 counts.0)
