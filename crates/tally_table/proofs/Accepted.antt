-- The check accepts a table that was made, in whatever file its class block stands. Assumes nothing.
use Prim.Native.Nat.{ℕ, zero, suc, ◌+◌, ◌<◌, ◌≤◌}
use mathlib.Core.Bool.{true}
use mathlib.Core.List.{List, [], ◌∷◌, ◌++◌}
use mathlib.Core.Path.{◌≡◌}
use native.Mathlib.Omega.{arith}
use lib.Dec.{leb, eqb}
use lib.ListN.{length, get_or, take, drop}
use borrow.Author.Tests.{eqb-true}
use Rattle.laws.proofs.Tests.{both_left}
use Rattle.timetable.specs.Classes.{share_total, sum, last_share, shares_rule}
use Rattle.timetable.specs.Verdict.{fine}
use Rattle.file_layout.specs.declared.Format.{Format}
use Rattle.file_layout.specs.Decode.{table_at}
use Rattle.file_layout.specs.Check.{class_verdict}
use Rattle.file_encoding.specs.Encode.{table_bytes}
use Rattle.file_encoding.specs.Writable.{WritableTable}
use Rattle.file_encoding.proofs.EncodeCheck.{class_fine}
use Rattle.file_encoding.proofs.Sizes.{table_size}
use Rattle.file_encoding.proofs.Written.{table_written}
use Rattle.tally_table.specs.Returned.{TableStands}
use Rattle.tally_table.proofs.Tables.{cumulative_length}

-- no share is above the sum of all
share_within_sum : (shares : List ℕ) (v : ℕ) → get_or shares v 0 ≤ sum shares
unfolding sum
share_within_sum [] v = omega arith
share_within_sum (s ∷ shares) zero = omega arith
share_within_sum (s ∷ shares) (suc v) = omega (arith, share_within_sum shares v)

whole : (shares : List ℕ) → shares_rule shares ≡ true → sum shares ≡ share_total
unfolding shares_rule
whole shares rule = eqb-true (sum shares) share_total (both_left (eqb (sum shares) share_total) (leb 1 (last_share shares)) rule)

module _ {f : Format} {tally shares shares' : List ℕ} {m landings standing : ℕ} (stands : TableStands f tally shares shares' m landings standing)
    (small : f.delay < 65536) where
  abbrev table : List ℕ
  table = take (suc m) shares'

  -- its numbers are u16
  pub stands_writable : WritableTable table
  stands_writable = record {
    some = omega (arith, stands.made.one_each, cumulative_length landings tally m);
    delay = omega (arith, stands.maximum, stands.greatest.no_later);
    each_share = λ v inside. omega (arith, share_within_sum table v, whole table stands.made.accepted);
  }

  -- its block has no fault where it fits, and is read as the table
  pub stands_accepted : (file rest : List ℕ) (end class at : ℕ) → drop at file ≡ table_bytes table ++ rest → at + length (table_bytes table) ≤ end
      → (class_verdict f file end class at ≡ fine) × (table_at file at ≡ table)
  stands_accepted file rest end class at there inside =
      let block = table_written table file at rest stands_writable there in (
        class_fine f file end class at table rest block (omega (arith, inside, table_size table))
            (omega (arith, stands.maximum, stands.greatest.no_later)) stands.made.accepted,
        block.table,
      )
