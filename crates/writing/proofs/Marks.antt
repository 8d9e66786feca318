-- The mark of a row.
use Rattle.std.proofs.Common.{ℕ, zero, suc, ◌^◌, ◌<◌, ◌≤◌, List, [], ◌∷◌, length, Some, None, pow-suc, arith, pow_pos}
use Rattle.terms.specs.Cells.{Cell}
use Rattle.writing.specs.Records.{mark_bit, mark_of}

pub bit_le : (c : Cell) → mark_bit c ≤ 1
bit_le None = omega arith
bit_le (Some z) = omega arith

pub mark_below : (cs : List Cell) (k : ℕ) → length cs ≤ k → mark_of cs < 2 ^ k
mark_below [] k h = pow_pos k
mark_below (c ∷ cs) zero h = absurd (omega arith)
mark_below (c ∷ cs) (suc k) h = omega (arith, pow-suc 2 k, mark_below cs k (omega arith), bit_le c)

pub mark_small : (cs : List Cell) → length cs ≤ 5 → mark_of cs < 32
mark_small cs h = mark_below cs 5 h
