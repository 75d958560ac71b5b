-- How the earliest safe arrival is returned.
use Rattle.std.specs.Prelude.{ℕ, Option, None, Some}
use Rattle.std.proofs.Math.Option as maybe

abbrev pub arrival : maybe.Option ℕ → Option ℕ
arrival maybe.none = None
arrival (maybe.some e) = Some e
