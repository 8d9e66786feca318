-- A record's head, as the code takes it off.
use Rattle.std.specs.Prelude.{◌≡◌, ℕ, ◌+◌, ◌*◌, ◌≤◌, List, length, drop, slice_index}

abbrev pub size_at : List ℕ → ℕ
size_at bytes = slice_index bytes 0 + slice_index bytes 1 * 256

abbrev pub kind_at : List ℕ → ℕ
kind_at bytes = slice_index bytes 2 + slice_index bytes 3 * 256

-- four bytes of head, and what follows them
pub record Headed (bytes : List ℕ) (size kind : ℕ) (tail : List ℕ) : Type 0 where
  pub long : 4 ≤ length bytes
  pub sized : size ≡ size_at bytes
  pub kinded : kind ≡ kind_at bytes
  pub rest : tail ≡ drop 4 bytes
