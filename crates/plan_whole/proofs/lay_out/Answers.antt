-- `plan_whole::lay_out` meets its contract: what planning reads of a sound file stands there. Assumes nothing.
use mathlib.Core.Path.{refl}
use Rattle.plan_whole.proofs.Laying.{rows_stand, tables_stand, minute_fits, lays}
use Rattle.plan_whole.proofs.lay_out.Goals as goal

pub invariant_of-sailings : goal.invariant_of-sailings
invariant_of-sailings c =
    let a = c.args in
    record { readable = rows_stand a.f a.file.now a.trailer a.q c.requires.0 c.places_in-places.result c.places_in-places.ensures }

pub read_tables-requires : goal.read_tables-requires
read_tables-requires c =
    let a = c.args in
    (tables_stand a.f a.file.now a.trailer a.q c.requires.0 c.places_in-places.result c.places_in-places.ensures, c.requires.1)

pub rows_missed-first-requires : goal.rows_missed-first-requires
rows_missed-first-requires c =
    let a = c.args in
    let r = c.requires.0 in
    let s = c.places_in-places in
    (minute_fits a.f a.file.now a.trailer a.q r s.result s.ensures, r.fits.gate)

pub returns : goal.returns
returns c =
    let a = c.args in
    let s = c.places_in-places in (
      refl,
      s.ensures,
      lays a.f a.file.now a.trailer a.q c.requires.0 s.result s.ensures c.read_tables.new.tables c.rows_missed-first.result
          c.read_tables.ensures c.rows_missed-first.ensures,
    )
