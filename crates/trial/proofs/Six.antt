-- Each answer as its six numbers. Assumes nothing.
use Prim.Native.Nat.{ℕ, ◌<◌}
use mathlib.Core.List.{List}
use mathlib.Core.Path.{◌≡◌, ap}
use native.Mathlib.Omega.{arith}
use lib.ListN.{get_or}
use Rattle.std.specs.Prelude.{Ok, Err}
use Rattle.timetable.specs.declared.Refusal.{Refusal}
use Rattle.file_layout.specs.declared.Trailer.{Trailer}
use Rattle.file_layout.specs.Check.{checked}
use Rattle.file_layout.specs.Format.{version_one}
use Rattle.file_layout.proofs.Sound.{checked_gives, sound_checked, version_one_readable}
use Rattle.file_layout.proofs.Refusals.{refusal_fits}

-- a sound file's S, n and K fit a u32
pub sound_small : (file : List ℕ) (h : Trailer) → checked file ≡ Ok h
    → (h.stops < 4294967296) × (h.rows < 4294967296) × (h.classes < 4294967296)
unfolding checked
sound_small file h e =
    let range = (checked_gives version_one file h version_one_readable e).trailer.in_range in
    let told = (sound_checked version_one file h e).1 in (
      omega (arith, ap (λ (k : Trailer). k.stops) told, range.stops_most),
      omega (arith, ap (λ (k : Trailer). k.rows) told, range.rows_most),
      omega (arith, ap (λ (k : Trailer). k.classes) told, range.classes_most),
    )

-- and so do a refusal's number and place
pub refusal_small : (file : List ℕ) (bytes : (i : ℕ) → get_or file i 0 < 256) (refusal : Refusal ℕ) → checked file ≡ Err refusal
    → (refusal.number < 4294967296) × (refusal.place < 4294967296)
unfolding checked
refusal_small file bytes refusal e = refusal_fits version_one file bytes refusal.number refusal.place e
