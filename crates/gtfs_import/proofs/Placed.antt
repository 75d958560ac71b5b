-- Where a fault is told to be: that of the reading on a service day, and none on another day. Assumes nothing.
use Prim.Native.Nat.{ℕ}
use mathlib.Core.Bool.{true, false}
use mathlib.Core.List.{List}
use mathlib.Core.Path.{◌≡◌, sym, ap, ◌∙◌}
use Rattle.std.specs.Prelude.{Some, None, Ok, Err}
use Rattle.laws.proofs.Tests.{cond_true, cond_false}
use Rattle.gtfs_stop_time.specs.StopTime.{day_start}
use Rattle.gtfs_stop_times.specs.declared.Listed.{Listed}
use Rattle.gtfs_stop_times.specs.declared.LineFault.{LineFault}
use Rattle.gtfs_stop_times.specs.declared.Wanted.TheVariants.{Rows}
use Rattle.gtfs_stop_times.specs.Answers.{read_answer}
use Rattle.gtfs_calls.specs.Reading.{stop_times}
use Rattle.gtfs_import.specs.FaultPlace.{fault_place, place_for}
use Rattle.gtfs_import.specs.Import.{day_rule}
use Rattle.gtfs_import.proofs.Told.{read_calls, read_wrong}

module _ (text : List ℕ) (day : ℕ) where
  pub placed_nowhere : day_rule day ≡ false → None ≡ place_for text day
  unfolding place_for
  placed_nowhere none = sym (cond_false (fault_place (stop_times (day_start day) text)) None none)

  module _ (kept : day_rule day ≡ true) (start : ℕ) (own : start ≡ day_start day) where
    placed : place_for text day ≡ fault_place (stop_times start text)
    unfolding place_for
    placed =
        cond_true (fault_place (stop_times (day_start day) text)) None kept ∙ ap (λ minute. fault_place (stop_times minute text)) (sym own)

    pub placed_none : (listed : Listed) → Ok listed ≡ read_answer Rows (stop_times start text) → None ≡ place_for text day
    unfolding fault_place
    placed_none listed told = sym (placed ∙ ap fault_place (read_calls (stop_times start text) listed told).says)

    pub placed_there : (told : LineFault) → Err told ≡ read_answer Rows (stop_times start text)
        → Some (record { line = told.line; column = told.column }) ≡ place_for text day
    unfolding fault_place
    placed_there told e = sym (placed ∙ ap fault_place (read_wrong (stop_times start text) told e))
