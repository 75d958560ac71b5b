-- `sheet_text::put_planned` meets its contract: what planning answers is the text. Assumes nothing.
use Prim.Native.Nat.{◌*◌}
use mathlib.Core.List.{◌++◌}
use mathlib.Core.Path.{ap, sym, subst, ◌∙◌}
use native.Mathlib.Omega.{arith}
use lib.ListN.{take}
use Rattle.file_layout.specs.Decode.{decode}
use Rattle.plan_slice.specs.Slice.{rides_in, RidesFit}
use Rattle.text.proofs.Putting.{put_more, put_as, put_length}
use Rattle.sheet_text.specs.Sheet.{first_text, refused_text, rides_text}
use Rattle.sheet_text.proofs.Asked.{holds, trailer_read, refusal_text, plan_fits, plan_lines}
use Rattle.sheet_text.proofs.put_planned.Goals as goal

pub put_rides-requires : goal.put_rides-requires
put_rides-requires c =
    let a = c.args in
    let work = c.work_room-work.result in
    let plan = c.plan_room-rides.result in
    let after = c.plan_checked.new.plan in
    let fits = plan_fits a.f a.sailings.now a.trailer a.q work plan c.requires.0 c.requires.1 (omega arith) (omega arith)
    (sym c.in-Ok.is ∙ c.plan_checked.ensures.0) c.plan_checked.ensures.2 in
    let few = fits.room in
    record {
      sound_file = (
        holds a.f a.sailings.now a.trailer a.q work plan c.requires.0 c.requires.1 (omega arith) (omega arith),
        trailer_read a.f a.sailings.now a.trailer a.q work plan c.requires.0 c.requires.1 (omega arith) (omega arith),
        subst (λ n. RidesFit a.trailer.rows after n) (sym c.number-count.ensures.0) fits,
      );
      line_width_in_bounds = omega (
        arith,
        few,
        c.plan_checked.auto.plan,
        c.number-count.ensures.0,
        c.put_first-next.ensures.1,
        put_length c.put_first-next.ensures.0,
        c.requires.2,
      );
    }

pub returns-in-Err : goal.returns-in-Err
returns-in-Err c =
    let a = c.args in
    let same = refusal_text a.f a.sailings.now a.trailer a.q c.work_room-work.result c.plan_room-rides.result c.requires.0 c.requires.1
    (omega arith) (omega arith) (sym c.in-Err.is ∙ c.plan_checked.ensures.0) in
    (put_as (ap refused_text c.number.ensures.0 ∙ same) c.put_refused.ensures.0, c.put_refused.ensures.1)

pub returns-in-Ok : goal.returns-in-Ok
returns-in-Ok c =
    let a = c.args in
    let after = c.plan_checked.new.plan in
    let same = plan_lines a.f a.sailings.now a.trailer a.q c.work_room-work.result c.plan_room-rides.result c.requires.0 c.requires.1
    (omega arith) (omega arith) (sym c.in-Ok.is ∙ c.plan_checked.ensures.0) c.plan_checked.ensures.2 in
    let shown =
    ap
    (λ n. first_text n c.in-Ok.plan.expected c.in-Ok.plan.latest ++ rides_text (rides_in (decode a.f a.sailings.now) (take (3 * n) after)))
    c.number-count.ensures.0
    in (
      put_as (shown ∙ same) (put_more c.put_first-next.ensures.0 c.put_rides.ensures.0),
      omega (arith, c.put_rides.ensures.1, put_length c.put_first-next.ensures.0),
    )
