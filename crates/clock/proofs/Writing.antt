-- Writing a day's digits from the last to the first, ahead of a text that stands at the end of the bytes. Assumes nothing.
use Prim.Native.Nat.{ℕ, zero, suc, ◌^◌, ◌-◌, ◌<◌, ◌≤◌}
use mathlib.Core.Path.{◌≡◌, refl, ap, ◌∙◌}
use mathlib.Core.List.{List, ◌∷◌, ◌++◌}
use native.Mathlib.Omega.{arith}
use lib.ListN.{length, take, drop, set, replicate, length-append, length-replicate, length-set, length-drop}
use lib.Seq.{drop_at, length-take-le}
use Rattle.std.proofs.lemmas.List.{take-append-le, take-replicate}
use Rattle.text.specs.Decimal.{decimal}
use Rattle.text.specs.Put.{Ahead}
use Rattle.text.proofs.Decimals.{few_digits}
use Rattle.clock.specs.declared.TimeText.{TimeText}
use Rattle.clock.specs.Clock.{day_of}
use Rattle.clock.specs.Text.{blank, letter_d, face_text, time_text, widest, printed, Printed}

-- a byte in the last blank ahead of a text
write_ahead : (k a : ℕ) (rest : List ℕ) → set (replicate (suc k) blank ++ rest) k a ≡ replicate k blank ++ (a ∷ rest)
write_ahead zero a rest = refl
write_ahead (suc k) a rest = ap (λ (l : List ℕ). blank ∷ l) (write_ahead k a rest)

-- bytes that end in a minute's text, blanks ahead, are its printed text
ends_printed : (minute k : ℕ) (bytes : List ℕ) → bytes ≡ replicate k blank ++ time_text minute → length bytes ≡ widest
    → ◌≡◌ {A = TimeText} (record { bytes = bytes; start = k }) (printed minute)
unfolding printed
ends_printed minute k bytes stands wide =
    ap (λ (l : List ℕ). record { bytes = l; start = k }) stands
    ∙ ap (λ (s : ℕ). record { bytes = replicate s blank ++ time_text minute; start = s }) start
  where
    start : k ≡ widest - length (time_text minute)
    start =
        omega (arith, ap length stands, length-append (replicate k blank) (time_text minute), length-replicate k blank, wide)

-- a day of a minute of 32 bits has at most seven digits
pub day_small : (minute : ℕ) → minute < 4294967296 → day_of minute < 10 ^ 7
unfolding day_of
day_small minute small = omega arith

-- a minute's day and face, blanks ahead
dated : (minute : ℕ) {day : ℕ} {bytes after : List ℕ} {start : ℕ} → day ≡ day_of minute → bytes ≡ replicate 8 blank ++ face_text minute
    → Ahead bytes 8 day after start → after ≡ replicate start blank ++ decimal (day_of minute) (face_text minute)
dated minute {day} {bytes} {after} {start} same_day same_bytes w =
    let blanks : take start bytes ≡ replicate start blank =
    ap (take start) same_bytes ∙ take-append-le start (replicate 8 blank) (face_text minute) (omega (arith, w.inside, length-replicate 8 blank))
    ∙ take-replicate start 8 blank w.inside
    in
    let face : drop 8 bytes ≡ face_text minute =
    ap (drop 8) same_bytes ∙ drop_at (replicate 8 blank) (face_text minute) 8 (length-replicate 8 blank)
    in
    w.says ∙ ap (λ l. l ++ decimal day (drop 8 bytes)) blanks ∙ ap (λ l. replicate start blank ++ decimal day l) face
    ∙ ap (λ d. replicate start blank ++ decimal d (face_text minute)) same_day

-- there is room for the letter
pub letter_fits : (minute : ℕ) {day : ℕ} {bytes after : List ℕ} {start : ℕ} → minute < 4294967296 → day ≡ day_of minute
    → bytes ≡ replicate 8 blank ++ face_text minute → Ahead bytes 8 day after start → 1 ≤ start
unfolding face_text
letter_fits minute {day} {bytes} {after} {start} small same_day same_bytes w =
    omega (arith, w.ends, ap length same_bytes, few_digits 7 day (drop 8 bytes) (omega (arith, same_day, day_small minute small)), length-drop 8 bytes)

-- the letter goes ahead of the day
pub lettered : (minute : ℕ) {day : ℕ} {bytes after : List ℕ} (start : ℕ) → minute < 4294967296 → day ≡ day_of minute
    → bytes ≡ replicate 8 blank ++ face_text minute → Ahead bytes 8 day after start
    → Printed minute (record { bytes = set after (start - 1) letter_d; start = start - 1 })
unfolding time_text face_text
lettered minute zero small same_day same_bytes w =
    let some : 1 ≤ 0 = letter_fits minute small same_day same_bytes w in absurd (let z : ⊥ = omega (arith, some) in z)
lettered minute {day} {bytes} {after} (suc k) small same_day same_bytes w =
    let one_less : suc k - 1 ≡ k = omega arith in
    let stands : set after k letter_d ≡ replicate k blank ++ time_text minute =
    ap (λ l. set l k letter_d) (dated minute same_day same_bytes w)
    ∙ write_ahead k letter_d (decimal (day_of minute) (face_text minute))
    in
    let wide : length (set after k letter_d) ≡ widest =
    omega (
      arith,
      length-set after k letter_d,
      ap length w.says,
      length-append (take (suc k) bytes) (decimal day (drop 8 bytes)),
      length-take-le (suc k) bytes (omega (arith, w.inside, ap length same_bytes)),
      w.ends,
      ap length same_bytes,
    )
    in
    rw one_less
    (record {
      says = ends_printed minute k (set after k letter_d) stands wide;
      wide = wide;
      inside = omega (arith, w.inside);
    })
