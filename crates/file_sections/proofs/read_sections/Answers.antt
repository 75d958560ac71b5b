-- `file_sections::read_sections` meets its contract: each return is a law on trailer and sections, by the tests that led there. Assumes nothing.
use mathlib.Core.Path.{sym, ◌∙◌}
use native.Mathlib.Omega.{arith}
use borrow.Author.Rules.{rules}
use Rattle.file_layout.specs.Decode.{trailer_start, trailer_of}
use Rattle.file_sections.proofs.Joining.{length_told, long_enough, length_breaks, ranges_break, classes_break, sections_apart, sections_keep}
use Rattle.file_sections.proofs.read_sections.Goals as goal

pub returns-then-not-length_in_range : goal.returns-then-not-length_in_range
returns-then-not-length_in_range c =
    sym (length_breaks _ _ (length_told _ _ _ _ c.length_in_range.ensures c.if-not-length_in_range.true))

pub overflow_sub-end : goal.overflow_sub-end
overflow_sub-end c =
    omega (arith, long_enough c.args.f c.args.file.now _ c.length_in_range.ensures c.if-not-length_in_range.false)

pub trailer_at-trailer-requires : goal.trailer_at-trailer-requires
trailer_at-trailer-requires c =
    omega (arith, long_enough c.args.f c.args.file.now _ c.length_in_range.ensures c.if-not-length_in_range.false)

pub returns-then-not-in_ranges : goal.returns-then-not-in_ranges
unfolding trailer_start trailer_of
returns-then-not-in_ranges c =
    let fits = length_told _ _ _ _ c.length_in_range.ensures c.if-not-length_in_range.false in
    sym (ranges_break _ _ fits _ c.trailer_at-trailer.ensures.0 (sym c.in_ranges.ensures ∙ c.if-not-in_ranges.true))

pub returns-in_err-at : goal.returns-in_err-at
unfolding trailer_start trailer_of
returns-in_err-at c =
    let fits = length_told _ _ _ _ c.length_in_range.ensures c.if-not-length_in_range.false in
    let broken = classes_break _ _ fits _ c.trailer_at-trailer.ensures.0 (sym c.in_ranges.ensures ∙ c.if-not-in_ranges.false) _ (sym c.in_err-at.ensures) in
    search rules

pub returns-then-not-joined : goal.returns-then-not-joined
unfolding trailer_start trailer_of
returns-then-not-joined c =
    let fits = length_told _ _ _ _ c.length_in_range.ensures c.if-not-length_in_range.false in
    sym (sections_apart _ _ fits _ c.trailer_at-trailer.ensures.0 (sym c.in_ranges.ensures ∙ c.if-not-in_ranges.false) _
    (sym c.in_ok-at.ensures) (sym c.joined.ensures ∙ c.if-not-joined.true))

pub returns : goal.returns
unfolding trailer_start trailer_of
returns c =
    let fits = length_told _ _ _ _ c.length_in_range.ensures c.if-not-length_in_range.false in
    sym (sections_keep _ _ fits _ c.trailer_at-trailer.ensures.0 (sym c.in_ranges.ensures ∙ c.if-not-in_ranges.false) _
    (sym c.in_ok-at.ensures) (sym c.joined.ensures ∙ c.if-not-joined.false))
