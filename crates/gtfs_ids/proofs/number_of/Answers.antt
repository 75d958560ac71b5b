-- `gtfs_ids::number_of` meets its contract: no id from the one that the chain stands at has the key. Assumes nothing.
use Prim.Native.Nat.{suc, ◌-◌, ◌<◌}
use mathlib.Core.Bool.{true, false}
use mathlib.Core.Path.{◌≡◌, sym, subst, ◌∙◌}
use native.Mathlib.Omega.{arith}
use lib.ListN.{get_or}
use Rattle.gtfs_ids.specs.Keys.{same_key, bucket_of, buckets}
use Rattle.gtfs_ids.specs.Book.{key_in, earlier_in}
use Rattle.gtfs_ids.proofs.Keys.{compared_key, same_key_equal, other_different_key}
use Rattle.gtfs_ids.proofs.Chain.{earlier_within}
use Rattle.gtfs_ids.proofs.Search.{Searched, search_start, search_on, search_found, search_none}
use Rattle.gtfs_ids.proofs.number_of.Goals as goal

pub loop-named-init : goal.loop-named-init
loop-named-init c =
    let a = c.args in
    let chained = c.requires.0 in
    let bucket = c.bucket_of.ensures.0 in
    let bound : bucket_of a.key < buckets = omega arith in (
      chained,
      c.requires.1,
      subst (λ k. Searched a.book.now a.count a.key (get_or a.book.now k 0)) (sym bucket)
          (search_start a.book.now a.count a.key chained bound),
    )

pub returns-then-eq : goal.returns-then-eq
returns-then-eq c =
    let a = c.args in
    let l = c.loop-named in
    let inside : l.named - 1 < a.count = omega (arith, l.invariant.2.within) in
    let same : same_key (key_in a.book.now (l.named - 1)) a.key ≡ true =
    subst (λ k. same_key k a.key ≡ true) c.key_at.ensures (compared_key c.key_at.result a.key ∙ sym c.if-eq.ensures)
    in
    sym (search_found a.book.now a.count a.key (l.named - 1) l.invariant.0 inside (same_key_equal _ _ same))

pub loop-named-smaller : goal.loop-named-smaller
unfolding earlier_in
loop-named-smaller c =
    let a = c.args in
    let l = c.loop-named in
    let inside : l.named - 1 < a.count = omega (arith, l.invariant.2.within) in
    omega (arith, c.cell_at-named.ensures, earlier_within a.book.now a.count (l.named - 1) l.invariant.0 inside)

pub loop-named-preserved : goal.loop-named-preserved
unfolding earlier_in
loop-named-preserved c =
    let a = c.args in
    let l = c.loop-named in
    let one : l.named ≡ suc (l.named - 1) = omega arith in
    let other : same_key (key_in a.book.now (l.named - 1)) a.key ≡ false =
    subst (λ k. same_key k a.key ≡ false) c.key_at.ensures (compared_key c.key_at.result a.key ∙ sym c.if-eq.ensures)
    in (
      l.invariant.0,
      l.invariant.1,
      subst (Searched a.book.now a.count a.key) (sym c.cell_at-named.ensures)
          (search_on a.book.now a.count a.key (l.named - 1) l.named l.invariant.0 l.invariant.2 one (other_different_key _ _ other)),
    )

pub returns : goal.returns
returns c =
    let a = c.args in
    let l = c.loop-named in
    let none : l.named ≡ 0 = omega arith in
    sym (search_none a.book.now a.count a.key (subst (Searched a.book.now a.count a.key) none l.invariant.2))
