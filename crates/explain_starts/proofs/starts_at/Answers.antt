-- `explain_starts::starts_at` meets its contract: it arrives exactly if there is a safe journey. Assumes nothing.
use mathlib.Core.Path.{sym, subst, ◌∙◌}
use Rattle.file_layout.specs.Decode.{decode}
use Rattle.explain_starts.specs.Starts.{Starts, Tells}
use Rattle.explain_starts.proofs.Asking.{starts_told, clears_start}
use Rattle.explain_starts.proofs.starts_at.Goals as goal

pub returns : goal.returns
returns c =
    let a = c.args in (
      subst (Tells (Starts (decode a.f a.file.now) a.source a.target a.gate a.minute)) (sym c.is_ok.ensures.value)
          (starts_told c.requires.0 a.minute c.requires.1 _ c.earliest_checked.ensures.0),
      c.earliest_checked.ensures.1 ∙ clears_start c.requires.0 a.minute c.requires.1,
    )
