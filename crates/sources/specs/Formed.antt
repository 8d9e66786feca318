-- A proof for whatever finds tables under numbers: where each that it finds is formed, what it shows is well formed.
use Rattle.std.specs.Prelude.{◌≡◌, ℕ, ◌≤◌, Some, None, Option, refl}
use Rattle.std.proofs.Common.{arith}
use Rattle.std.specs.Option.{option_map}
use Rattle.terms.specs.Tables.{Table, Formed, TableFormed, WellFormed}

-- what holds of a table that is found under the number n
pub record Found (n : ℕ) (t : Table) : Type 0 where
  pub number_low : 1 ≤ n
  pub number_high : n ≤ 16
  pub formed : Formed t

module _ {X : Type 0} (shown : X → Table) (find : ℕ → Option X) (found : (n : ℕ) (x : X) → find n ≡ Some x → Found n (shown x)) where
  none_outside : (n : ℕ) → ((1 ≤ n) → (n ≤ 16) → ⊥) → option_map shown (find n) ≡ None
  none_outside n outside = go (find n) refl
    where
      go : (o : Option X) → find n ≡ o → option_map shown o ≡ None
      go None q = refl
      go (Some x) q = let f = found n x q in absurd (outside f.number_low f.number_high)

  formed_at : (n : ℕ) → TableFormed (option_map shown (find n))
  formed_at n = go (find n) refl
    where
      go : (o : Option X) → find n ≡ o → TableFormed (option_map shown o)
      go None q = tt
      go (Some x) q = (found n x q).formed

  pub found_formed : WellFormed (λ n. option_map shown (find n))
  found_formed = record {
    none_at_zero = none_outside 0 (λ low high. omega arith);
    none_above = λ n p. none_outside n (λ low high. omega arith);
    each_table = formed_at;
  }
