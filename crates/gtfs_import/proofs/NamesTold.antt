-- What the names' call comes to: too little room, no such day, the text's lines, or its fault. Assumes nothing.
use Prim.Native.Nat.{ℕ, ◌≤◌, ◌<◌}
use mathlib.Core.Bool.{true, false}
use mathlib.Core.List.{List}
use mathlib.Core.Path.{◌≡◌, sym, ap, ◌∙◌}
use native.Mathlib.Omega.{arith}
use borrow.Author.Tests.{le-leb, lt-leb}
use lib.ListN.{length}
use Rattle.laws.proofs.Tests.{cond_true, cond_false}
use Rattle.gtfs_stop_time.specs.StopTime.{day_start}
use Rattle.gtfs_stop_times.specs.declared.Listed.{Listed}
use Rattle.gtfs_stop_times.specs.declared.LineFault.{LineFault}
use Rattle.gtfs_stop_times.specs.declared.Wanted.TheVariants.{Names}
use Rattle.gtfs_stop_times.specs.Answers.{written_of, read_answer, out_after}
use Rattle.gtfs_calls.specs.Names.{names_room}
use Rattle.gtfs_calls.specs.Reading.{Reading, said, wrong, stop_times}
use Rattle.std.specs.Prelude.{Ok, Err}
use Rattle.gtfs_import.specs.declared.Unnamed.TheVariants.{Refused, NoRoom}
use Rattle.gtfs_import.specs.Import.{day_rule}
use Rattle.gtfs_import.proofs.Told.{same_listed, same_fault}
use Rattle.gtfs_import.specs.Named.{names_by, names_outcome}

module _ (text : List ℕ) (day : ℕ) (out : List ℕ) where
  pub names_room_lem : length out < names_room → names_outcome text day out ≡ record { answer = Err NoRoom; out = out }
  unfolding names_outcome
  names_room_lem small = cond_false _ _ (lt-leb names_room (length out) small)

  module _ (room : names_room ≤ length out) where
    pub names_day : day_rule day ≡ false → names_outcome text day out ≡ record { answer = Err (Refused 6); out = out }
    unfolding names_outcome
    names_day none = cond_true _ _ (le-leb names_room (length out) room) ∙ cond_false _ _ none

    pub names_served : day_rule day ≡ true → (start : ℕ) → start ≡ day_start day → names_outcome text day out ≡ names_by (stop_times start text) out
    unfolding names_outcome
    names_served kept start e =
        cond_true _ _ (le-leb names_room (length out) room) ∙ cond_true _ _ kept ∙ ap (λ minute. names_by (stop_times minute text) out) (sym e)

pub names_told : (reading : Reading) (out : List ℕ) {after : List ℕ} (listed : Listed) → Ok listed ≡ read_answer Names reading
    → after ≡ out_after Names reading out
    → (Ok listed.bytes ≡ (names_by reading out).answer) × (after ≡ (names_by reading out).out)
unfolding read_answer out_after written_of names_by
names_told (said calls) out listed told put = (ap (λ l. Ok l.bytes) (same_listed told), put)
names_told (wrong number line column) out listed told put = absurd (let z : ◌≡◌ {A = ℕ} 0 1 = cc in let y : ⊥ = omega arith in y)

pub names_wrong : (reading : Reading) (out : List ℕ) {after : List ℕ} (told : LineFault) → Err told ≡ read_answer Names reading
    → after ≡ out_after Names reading out
    → (Err (Refused told.number) ≡ (names_by reading out).answer) × (after ≡ (names_by reading out).out)
unfolding read_answer out_after names_by
names_wrong (said calls) out told e put = absurd (let z : ◌≡◌ {A = ℕ} 0 1 = cc in let y : ⊥ = omega arith in y)
names_wrong (wrong n l k) out told e put = (ap (λ f. Err (Refused f.number)) (same_fault e), put)
