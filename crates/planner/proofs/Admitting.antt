-- The refusals 1 to 7, one by one, and what an admitted call has. Assumes nothing.
use Prim.Native.Nat.{ℕ, ◌*◌, ◌≤◌, ◌<◌}
use native.Mathlib.Nat.{mul-le-mul_right}
use native.Mathlib.Omega.{arith}
use mathlib.Core.Bool.{Bool, true, false, ◌&&◌, false≢true}
use mathlib.Core.List.{List}
use mathlib.Core.Path.{◌≡◌, refl, sym, ap, subst, ◌∙◌}
use borrow.Author.Tests.{leb-true, le-leb}
use Rattle.laws.proofs.Tests.{both_left, both_right}
use Rattle.timetable.specs.Limits.{most_stops, most_rows}
use Rattle.timetable.specs.Verdict.{Verdict, fine, fault, or_else, unless, by_verdict, refused, told_fault}
use Rattle.timetable.specs.declared.Refusal.{Refusal}
use Rattle.timetable.proofs.Verdicts.{fault_not_fine, first_fine, second_fine, rule_holds}
use Rattle.timetable.specs.Places.{WellPlaced}
use Rattle.timetable.proofs.Places.{number_small}
use Rattle.file_layout.specs.declared.Format.{Format}
use Rattle.file_layout.specs.declared.Trailer.{Trailer}
use Rattle.std.specs.Prelude.{Ok, Err}
use Rattle.file_layout.specs.Format.{Readable}
use Rattle.file_layout.specs.Sound.{SoundFile}
use Rattle.file_layout.specs.Decode.{trailer_of}
use Rattle.file_layout.specs.Check.{file_verdict, checked_as}
use Rattle.file_layout.proofs.Sound.{sound_gives, sound_checked}
use Rattle.file_layout.proofs.Refusals.{refused_checked, file_placed}
use Rattle.query.specs.declared.Query.{Query}
use Rattle.query.specs.Query.{query_rule, QueryFits}
use Rattle.query.proofs.Rules.{rule_gives}
use Rattle.plan_rows.specs.Sections.{Plannable}
use Rattle.plan_whole.specs.Steps.{CallFits}
use Rattle.planner.specs.declared.Room.{Room}
use Rattle.planner.specs.Admission.{needs, enough, call_verdict, admission, admitted, SmallRoom, work_room, plan_room, no_room, Admits}

-- behind the check: 6, then 7, or none
module _ (f : Format) (h : Trailer) (q : Query) (work other : Room) where
  pub query_refused : query_rule h.stops f.lastminute q ≡ false → call_verdict f h q work other ≡ fault 6 0
  unfolding call_verdict
  query_refused e = ap (λ b. or_else (unless b 6 0) (unless (enough work h && enough other h) 7 0)) e

  rooms_decide : query_rule h.stops f.lastminute q ≡ true → call_verdict f h q work other ≡ unless (enough work h && enough other h) 7 0
  unfolding call_verdict
  rooms_decide e = ap (λ b. or_else (unless b 6 0) (unless (enough work h && enough other h) 7 0)) e

  pub work_refused : query_rule h.stops f.lastminute q ≡ true → enough work h ≡ false → call_verdict f h q work other ≡ fault 7 0
  work_refused e short = rooms_decide e ∙ ap (λ b. unless (b && enough other h) 7 0) short

  module _ (e : query_rule h.stops f.lastminute q ≡ true) (wide : enough work h ≡ true) where
    other_decides : call_verdict f h q work other ≡ unless (enough other h) 7 0
    other_decides = rooms_decide e ∙ ap (λ b. unless (b && enough other h) 7 0) wide

    pub other_refused : enough other h ≡ false → call_verdict f h q work other ≡ fault 7 0
    other_refused short = other_decides ∙ ap (λ b. unless b 7 0) short

    pub not_refused : enough other h ≡ true → call_verdict f h q work other ≡ fine
    not_refused long = other_decides ∙ ap (λ b. unless b 7 0) long

  -- a call that is not refused keeps the query's rule and has both rooms
  pub call_gives : call_verdict f h q work other ≡ fine
      → QueryFits h.stops f.lastminute q × (needs work h ≤ work.lent) × (needs other h ≤ other.lent)
  unfolding call_verdict enough
  call_gives e =
      let rule = unless (query_rule h.stops f.lastminute q) 6 0 in
      let rooms = unless (enough work h && enough other h) 7 0 in
      let both = rule_holds (enough work h && enough other h) 7 0 (second_fine rule rooms e) in (
        rule_gives h.stops f.lastminute q (rule_holds (query_rule h.stops f.lastminute q) 6 0 (first_fine rule rooms e)),
        leb-true (needs work h) work.lent (both_left (enough work h) (enough other h) both),
        leb-true (needs other h) other.lent (both_right (enough work h) (enough other h) both),
      )

-- the check decides first
module _ (f : Format) (file : List ℕ) (q : Query) (work other : Room) where
  pub file_refused : (number place : ℕ) → file_verdict f file ≡ fault number place → admission f file q work other ≡ fault number place
  unfolding admission
  file_refused number place e = ap (λ v. or_else v (call_verdict f (trailer_of f file) q work other)) e

  pub call_decides : file_verdict f file ≡ fine → admission f file q work other ≡ call_verdict f (trailer_of f file) q work other
  unfolding admission
  call_decides e = ap (λ v. or_else v (call_verdict f (trailer_of f file) q work other)) e

  pub check_refused : (number place : ℕ) → checked_as f file ≡ refused number place → admission f file q work other ≡ fault number place
  check_refused number place e = file_refused number place (refused_checked f file number place e)

  module _ (h : Trailer) (sound : checked_as f file ≡ Ok h) where
    pub behind_check : admission f file q work other ≡ call_verdict f h q work other
    behind_check =
        let told = sound_checked f file h sound in
        call_decides told.0 ∙ ap (λ (k : Trailer). call_verdict f k q work other) (sym told.1)

    pub few_stops_rows : Readable f → (h.stops ≤ most_stops) × (h.rows ≤ most_rows)
    few_stops_rows readable =
        let told = sound_checked f file h sound in
        let range = (sound_gives f file readable told.0).trailer.in_range in
        subst (λ (k : Trailer). (k.stops ≤ most_stops) × (k.rows ≤ most_rows)) (sym told.1) (range.stops_most, range.rows_most)

    pub admits : Plannable f → call_verdict f h q work other ≡ fine → Admits f file h q work other
    admits plannable e = record { plannable = plannable; fine_call = behind_check ∙ e; read = (sound_checked f file h sound).1 }

  pub refused_admission : (number place : ℕ) → admission f file q work other ≡ fault number place
      → refused number place ≡ admitted f file q work other
  unfolding admitted
  refused_admission number place e = sym (ap (by_verdict refused (Ok (trailer_of f file))) e)

  pub fine_admission : (h : Trailer) → h ≡ trailer_of f file → admission f file q work other ≡ fine → Ok h ≡ admitted f file q work other
  unfolding admitted
  fine_admission h read e = ap Ok read ∙ sym (ap (by_verdict refused (Ok (trailer_of f file))) e)

-- two pairs of rooms that are enough alike admit alike
pub same_admission : (f : Format) (file : List ℕ) (q : Query) (a b c d : Room)
    → (file_verdict f file ≡ fine
    → (enough a (trailer_of f file) && enough b (trailer_of f file)) ≡ (enough c (trailer_of f file) && enough d (trailer_of f file)))
    → admission f file q a b ≡ admission f file q c d
unfolding admission call_verdict
same_admission f file q a b c d alike = same (file_verdict f file) alike
  where
    same : (v : Verdict)
        → (v ≡ fine → (enough a (trailer_of f file) && enough b (trailer_of f file)) ≡ (enough c (trailer_of f file) && enough d (trailer_of f file)))
        → or_else v (call_verdict f (trailer_of f file) q a b) ≡ or_else v (call_verdict f (trailer_of f file) q c d)
    same fine alike =
        ap (λ x. or_else (unless (query_rule (trailer_of f file).stops f.lastminute q) 6 0) (unless x 7 0)) (alike refl)
    same (fault number place) alike = refl

-- a refusal's number is 1 to 7
pub refused_number : (f : Format) (file : List ℕ) (q : Query) (a b : Room) (number place : ℕ) → admission f file q a b ≡ fault number place
    → (1 ≤ number) × (number ≤ 7)
unfolding admission call_verdict
refused_number f file q a b number place e =
    number_of (file_verdict f file) (query_rule (trailer_of f file).stops f.lastminute q)
    (enough a (trailer_of f file) && enough b (trailer_of f file)) (file_placed f file) e
  where
    number_of : (v : Verdict) (rule rooms : Bool) → WellPlaced (trailer_of f file).classes (trailer_of f file).rows v
        → or_else v (or_else (unless rule 6 0) (unless rooms 7 0)) ≡ fault number place → (1 ≤ number) × (number ≤ 7)
    number_of (fault n p) rule rooms placed e =
        let z : n ≡ number = cc in (omega (arith, (number_small placed).0), omega (arith, (number_small placed).1))
    number_of fine false rooms placed e = let z : 6 ≡ number = cc in (omega arith, omega arith)
    number_of fine true false placed e = let z : 7 ≡ number = cc in (omega arith, omega arith)
    number_of fine true true placed e = absurd (fault_not_fine (sym e))

-- what asks for no room always has enough
pub enough_none : (h : Trailer) → enough no_room h ≡ true
unfolding enough
enough_none h = le-leb (needs no_room h) 0 (omega arith)

-- so a call that asks for no room is never refused by 7
pub refused_roomless : (f : Format) (file : List ℕ) (q : Query) (number place : ℕ) → admission f file q no_room no_room ≡ fault number place
    → (1 ≤ number) × (number ≤ 6)
unfolding admission call_verdict
refused_roomless f file q number place e =
    number_of (file_verdict f file) (query_rule (trailer_of f file).stops f.lastminute q) (enough no_room (trailer_of f file))
    (enough_none (trailer_of f file)) (file_placed f file) e
  where
    number_of : (v : Verdict) (rule room : Bool) → room ≡ true → WellPlaced (trailer_of f file).classes (trailer_of f file).rows v
        → or_else v (or_else (unless rule 6 0) (unless (room && room) 7 0)) ≡ fault number place → (1 ≤ number) × (number ≤ 6)
    number_of (fault n p) rule room wide placed e =
        let z : n ≡ number = cc in (omega (arith, (number_small placed).0), omega (arith, (number_small placed).1))
    number_of fine false room wide placed e = let z : 6 ≡ number = cc in (omega arith, omega arith)
    number_of fine true true wide placed e = absurd (fault_not_fine (sym e))
    number_of fine true false wide placed e = absurd (false≢true wide)

-- the fault that is told is the verdict
verdict_told : {A : Type 0} (answered : A) (v : Verdict) → told_fault (by_verdict refused (Ok answered) v) ≡ v
verdict_told answered fine = refl
verdict_told answered (fault number place) = refl

-- so what is answered by a verdict tells it
pub fine_told : {A : Type 0} (answered : A) (v : Verdict) {given : A} → by_verdict refused (Ok answered) v ≡ Ok given → v ≡ fine
fine_told answered v e = sym (verdict_told answered v) ∙ ap told_fault e

pub fault_told : {A : Type 0} (answered : A) (v : Verdict) {refusal : Refusal ℕ} → by_verdict refused (Ok answered) v ≡ Err refusal
    → v ≡ fault refusal.number refusal.place
fault_told answered v e = sym (verdict_told answered v) ∙ ap told_fault e

-- what the answer of an admission tells
pub admission_tells : (f : Format) (file : List ℕ) (q : Query) (work other : Room) (refusal : Refusal ℕ)
    → admitted f file q work other ≡ Err refusal → admission f file q work other ≡ fault refusal.number refusal.place
unfolding admitted
admission_tells f file q work other refusal e = fault_told (trailer_of f file) (admission f file q work other) e

pub admitted_tells : (f : Format) (file : List ℕ) (q : Query) (work other : Room) (h : Trailer) → Plannable f
    → admitted f file q work other ≡ Ok h → Admits f file h q work other
unfolding admitted
admitted_tells f file q work other h plannable e =
    let fine_call : admission f file q work other ≡ fine = fine_told (trailer_of f file) (admission f file q work other) e in
    let same : Ok (trailer_of f file) ≡ Ok h = sym (ap (by_verdict refused (Ok (trailer_of f file))) fine_call) ∙ e in
    record { plannable = plannable; fine_call = fine_call; read = cc }

-- what an admitted call has: a sound file, a query of its stops and minutes, and both rooms
module _ {f : Format} {file : List ℕ} {h : Trailer} {q : Query} {work other : Room} (call : Admits f file h q work other) where
  pub file_sound : SoundFile f file
  unfolding admission
  file_sound =
      sound_gives f file call.plannable.readable
      (first_fine (file_verdict f file) (call_verdict f (trailer_of f file) q work other) call.fine_call)

  call_kept : QueryFits h.stops f.lastminute q × (needs work h ≤ work.lent) × (needs other h ≤ other.lent)
  unfolding admission
  call_kept =
      call_gives f h q work other
      (subst (λ (k : Trailer). call_verdict f k q work other ≡ fine) (sym call.read)
      (second_fine (file_verdict f file) (call_verdict f (trailer_of f file) q work other) call.fine_call))

  pub query_kept : QueryFits h.stops f.lastminute q
  query_kept = call_kept.0

  pub rooms_kept : (needs work h ≤ work.lent) × (needs other h ≤ other.lent)
  rooms_kept = (call_kept.1, call_kept.2)

  pub few_kept : (h.stops ≤ most_stops) × (h.rows ≤ most_rows)
  few_kept =
      let range = file_sound.trailer.in_range in
      subst (λ (k : Trailer). (k.stops ≤ most_stops) × (k.rows ≤ most_rows)) (sym call.read) (range.stops_most, range.rows_most)

  pub asks : CallFits f file h q
  asks = record { plannable = call.plannable; sound = file_sound; read = call.read; fits = query_kept }

-- what a room needs fits a number
pub small_product : (each count : ℕ) → each < 65536 → count ≤ most_rows → each * count ≤ 131072000
small_product each count small few =
    let most : each * count ≤ 65536 * count = mul-le-mul_right count (let z : each ≤ 65536 = omega arith in z) in omega arith

-- the three rooms of planning are small
pub work_small : (lent : ℕ) → SmallRoom (work_room lent)
work_small lent = record { perrow = omega arith; perstop = omega arith; fixed = omega arith }

pub plan_small : (lent : ℕ) → SmallRoom (plan_room lent)
plan_small lent = record { perrow = omega arith; perstop = omega arith; fixed = omega arith }

pub none_small : SmallRoom no_room
none_small = record { perrow = omega arith; perstop = omega arith; fixed = omega arith }
