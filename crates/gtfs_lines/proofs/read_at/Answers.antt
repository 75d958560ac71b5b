-- `gtfs_lines::read_at` meets its contract: what is still to be read, behind what is kept so far, is the whole. Assumes nothing.
use Prim.Native.Nat.{◌+◌}
use mathlib.Core.Path.{refl, sym, ap, subst⁻¹, ◌∙◌}
use native.Mathlib.Nat.{le_trans}
use native.Mathlib.Numerals.{add-one}
use native.Mathlib.Omega.{arith}
use Rattle.std.specs.Prelude.{Some}
use Rattle.gtfs_lines.specs.Cut.{read_at}
use Rattle.gtfs_lines.proofs.Marked.{Marked, mark_at}
use Rattle.gtfs_lines.proofs.FieldEnds.{last_as, at_end, at_feed, at_quote, at_comma}
use Rattle.gtfs_lines.proofs.read_at.Goals as goal

pub loop-at-init : goal.loop-at-init
unfolding read_at
loop-at-init g c =
    let a = c.args in
    record {
      reads = refl;
      marked = subst⁻¹ (Marked a.text.now a.start) c.mark_from-at.ensures (mark_at a.text.now a.start (omega arith));
      few = omega arith;
    }

pub keep-requires : goal.keep-requires
keep-requires g c =
    let l = c.loop-at in
    let last = last_as (at_feed l.invariant.marked (omega arith) c.if-byte-eq-LINE_FEED.true) c.last_end-to.ensures (add-one l.at) in
    (last.rises, le_trans last.ahead last.inside)

pub returns-then-byte-eq-LINE_FEED : goal.returns-then-byte-eq-LINE_FEED
returns-then-byte-eq-LINE_FEED g c =
    let r = g.R.Reading in
    let l = c.loop-at in
    let text = c.args.text.now in
    let last = last_as (at_feed l.invariant.marked (omega arith) c.if-byte-eq-LINE_FEED.true) c.last_end-to.ensures (add-one l.at) in
    ap Some (c.tell.ensures ∙ ap (λ k. r.told k (l.at + 1)) c.keep.ensures)
    ∙ sym (l.invariant.reads ∙ last.reads r.told (r.kept text) l.column l.read)

pub returns-then-byte-eq-QUOTE_MARK : goal.returns-then-byte-eq-QUOTE_MARK
returns-then-byte-eq-QUOTE_MARK g c =
    let r = g.R.Reading in
    let l = c.loop-at in
    let quoted = at_quote l.invariant.marked (omega arith) c.if-byte-eq-QUOTE_MARK.true in
    sym (l.invariant.reads ∙ quoted.reads r.told (r.kept c.args.text.now) l.column l.read)

pub loop-at-preserved : goal.loop-at-preserved
loop-at-preserved g c =
    let r = g.R.Reading in
    let l = c.loop-at in
    let text = c.args.text.now in
    let next = at_comma l.invariant.marked (omega arith) c.if-byte-eq-LINE_FEED.false c.if-byte-eq-QUOTE_MARK.false in
    record {
      reads = rw (add-one l.column, add-one l.at, c.keep-read.ensures)
          (l.invariant.reads ∙ next.reads r.told (r.kept text) l.column l.read);
      marked = subst⁻¹ (Marked text (l.at + 1)) c.mark_from-at-in-loop-at.ensures (mark_at text (l.at + 1) (omega arith));
      few = omega arith;
    }

pub returns : goal.returns
returns g c =
    let r = g.R.Reading in
    let l = c.loop-at in
    let last = at_end l.invariant.marked (omega arith) in
    ap Some (c.tell-2.ensures ∙ ap (λ k. r.told k l.at) c.keep-2.ensures)
    ∙ sym (l.invariant.reads ∙ last.reads r.told (r.kept c.args.text.now) l.column l.read)
