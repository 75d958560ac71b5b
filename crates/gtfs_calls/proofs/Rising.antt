-- In a text without a fault stop_sequence rises within each trip. Assumes nothing.
use Prim.Native.Nat.{ℕ, suc, ◌≤◌, ◌<◌}
use mathlib.Core.Bool.{true, not}
use mathlib.Core.List.Memᴰ
use mathlib.Core.List.{List, [], ◌∷◌, ◌++◌, Memᴰ}
use mathlib.Core.Logic.{⊎_elim}
use mathlib.Core.Option.{Option, some}
use mathlib.Core.Path.{◌≡◌, refl, sym, ap, subst, subst⁻¹, ◌∙◌}
use native.Mathlib.Omega.{arith}
use borrow.Author.Tests.{ltb-true}
use lib.Dec.{leb}
use lib.ListN.{length, drop, get_or}
use Rattle.laws.proofs.Members.{head_or_later}
use Rattle.laws.proofs.Options.{present_or_absent}
use Rattle.timetable.specs.Limits.{most_stops, most_rows, most_trips}
use Rattle.timetable.specs.Verdict.{Verdict, fine, fault, or_else, unless, by_verdict}
use Rattle.timetable.proofs.Verdicts.{first_fine, second_fine, rule_holds}
use Rattle.gtfs_lines.specs.declared.Columns.{Columns}
use Rattle.gtfs_lines.specs.Lines.{lines_of, has_quote}
use Rattle.gtfs_lines.specs.Columns.{columns_of}
use Rattle.gtfs_stop_time.specs.StopTime.{StopTime, texts_on, stop_time_of}
use Rattle.gtfs_stop_time.specs.Faults.{own_verdict}
use Rattle.gtfs_ids.specs.Ids.{number_of}
use Rattle.gtfs_calls.specs.Calls.{trips_of, stops_of, last_call, rises_behind, rows_of}
use Rattle.gtfs_calls.specs.Faults.{next_verdict, line_verdict, header_verdict}
use Rattle.gtfs_calls.specs.Reading.{Reading, said, wrong, read_from, stop_times}
use Rattle.gtfs_calls.proofs.Appearance.{known_id, trips_collected}
use Rattle.gtfs_calls.proofs.EachOnce.{none_new}
use Rattle.gtfs_calls.proofs.Pairs.{LastRead, last_read}
use Rattle.gtfs_calls.specs.Neighbours.{Rising}

-- a trip's last call has its greatest stop_sequence
last_greatest : (trip : List ℕ) (back : List StopTime) (previous : StopTime) → Rising back → LastRead trip back previous
    → (first : StopTime) → Memᴰ first back → first.trip ≡ trip → first.sequence ≤ previous.sequence
last_greatest trip back previous rising last first m own =
    ⊎_elim (λ between. absurd (last.none_between first between own))
    (λ there. head_or_later (first.sequence ≤ previous.sequence) there
    (λ same. omega (arith, ap (λ (c : StopTime). c.sequence) same))
    (λ earlier. omega (arith, rising.rises last.between previous last.earlier last.read first earlier (own ∙ sym last.own))))
    (Memᴰ.append_cases last.between (subst (λ (l : List StopTime). Memᴰ first l) last.read m))

-- the call's own rule, whatever its trip's last call is
rises_over : (o : Option StopTime) (call : StopTime) → rises_behind o call ≡ true → (previous : StopTime) → o ≡ some previous
    → previous.sequence < call.sequence
unfolding rises_behind
rises_over o call rises previous e =
    ltb-true previous.sequence call.sequence (subst (λ (o : Option StopTime). rises_behind o call ≡ true) e rises)

own_rises : (call : StopTime) (back : List StopTime) → Rising back → rises_behind (last_call call.trip back) call ≡ true
    → (first : StopTime) → Memᴰ first back → first.trip ≡ call.trip → first.sequence < call.sequence
own_rises call back rising rises first m own =
    present_or_absent (first.sequence < call.sequence) (last_call call.trip back)
    (λ nothing.
    let known = known_id (λ c. c.trip) trips_of trips_collected back first m in
    let new = none_new call.trip back nothing in
    absurd (let z : ⊥ = omega (arith, subst (λ t. number_of (trips_of back) t < length (trips_of back)) own known) in z))
    (λ previous e.
    omega (
      arith,
      rises_over (last_call call.trip back) call rises previous e,
      last_greatest call.trip back previous rising (last_read call.trip back previous e) first m own,
    ))

rising_more : (call : StopTime) (back : List StopTime) → Rising back → rises_behind (last_call call.trip back) call ≡ true → Rising (call ∷ back)
rising_more call back rising rises = record { rises = go }
  where
    go : (later : List StopTime) (second : StopTime) (earlier : List StopTime) → call ∷ back ≡ later ++ (second ∷ earlier)
        → (first : StopTime) → Memᴰ first earlier → first.trip ≡ second.trip → first.sequence < second.sequence
    go [] second earlier e first m own =
        let same : call ≡ second = cc in
        let behind : back ≡ earlier = cc in
        subst (λ (c : StopTime). first.trip ≡ c.trip → first.sequence < c.sequence) same
        (own_rises call back rising rises first (subst⁻¹ (λ (l : List StopTime). Memᴰ first l) behind m)) own
    go (next ∷ later) second earlier e first m own =
        let behind : back ≡ later ++ (second ∷ earlier) = cc in
        rising.rises later second earlier behind first m own

-- a line without a fault rises within its trip
line_rises : (columns : Columns) (start : ℕ) (back : List StopTime) (line : List ℕ) → line_verdict columns start back line ≡ fine
    → rises_behind (last_call (stop_time_of start (texts_on columns line)).trip back) (stop_time_of start (texts_on columns line)) ≡ true
unfolding line_verdict next_verdict
line_rises columns start back line e =
    let texts = texts_on columns line in
    let call = stop_time_of start texts in
    let others = or_else (unless (leb (length (trips_of (call ∷ back))) most_trips) 9 1)
    (or_else (unless (leb (length (stops_of (call ∷ back))) most_stops) 9 4) (unless (leb (length (rows_of (call ∷ back))) most_rows) 9 0))
    in
    let behind = second_fine (unless (not (has_quote line)) 11 0) (or_else (own_verdict start texts) (next_verdict back call)) e in
    let next = second_fine (own_verdict start texts) (next_verdict back call) behind in
    rule_holds (rises_behind (last_call call.trip back) call) 13 0
    (first_fine (unless (rises_behind (last_call call.trip back) call) 13 0) others next)

-- a verdict behind which calls are said is fine
fine_said : (line : ℕ) (on : Reading) (verdict : Verdict) (calls : List StopTime)
    → by_verdict (λ number column. wrong number line column) on verdict ≡ said calls → (verdict ≡ fine) × (on ≡ said calls)
fine_said line on fine calls e = (refl, e)
fine_said line on (fault number column) calls e = absurd (let z : ◌≡◌ {A = ℕ} 0 1 = cc in let y : ⊥ = omega arith in y)

rising_from : (columns : Columns) (start : ℕ) (back : List StopTime) (number : ℕ) (lines : List (List ℕ)) (calls : List StopTime)
    → read_from columns start back number lines ≡ said calls → Rising back → Rising calls
unfolding read_from
rising_from columns start back number [] calls e rising = subst Rising (let same : back ≡ calls = cc in same) rising
rising_from columns start back number (line ∷ lines) calls e rising =
    let call = stop_time_of start (texts_on columns line) in
    let parts = fine_said number (read_from columns start (call ∷ back) (suc number) lines) (line_verdict columns start back line) calls e in
    rising_from columns start (call ∷ back) (suc number) lines calls parts.1
    (rising_more call back rising (line_rises columns start back line parts.0))

none_rising : Rising []
none_rising = record { rises = go }
  where
    go : (later : List StopTime) (call : StopTime) (earlier : List StopTime) → [] ≡ later ++ (call ∷ earlier)
        → (first : StopTime) → Memᴰ first earlier → first.trip ≡ call.trip → first.sequence < call.sequence
    go [] call earlier e first m own = absurd (let z : ◌≡◌ {A = ℕ} 0 1 = cc in let y : ⊥ = omega arith in y)
    go (next ∷ later) call earlier e first m own = absurd (let z : ◌≡◌ {A = ℕ} 0 1 = cc in let y : ⊥ = omega arith in y)

-- stop_sequence rises within each trip of a text without a fault
pub text_rising : (start : ℕ) (text : List ℕ) (calls : List StopTime) → stop_times start text ≡ said calls → Rising calls
unfolding stop_times
text_rising start text calls e =
    let header = get_or (lines_of text) 0 [] in
    let lines = drop 1 (lines_of text) in
    let parts = fine_said 1 (read_from (columns_of header) start [] 2 lines) (header_verdict (has_quote header) (columns_of header)) calls e in
    rising_from (columns_of header) start [] 2 lines calls parts.1 none_rising
