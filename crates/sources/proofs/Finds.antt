-- The first head with a number, in std's words, and what holds of it.
use Rattle.std.proofs.Common.{◌≡◌, ℕ, cond, eqb, List, length, Some, None, Option, IfSome, sym, refl}
use Rattle.std.proofs.lemmas.List.Recursion.{same_from_clauses}
use Rattle.std.specs.List.{find}
use Rattle.sources.specs.declared.head.TableHead.{TableHead}
use Rattle.sources.specs.declared.bench.Bench.{Bench}
use Rattle.sources.specs.BenchFormed.{Sound, sound_for}
use Rattle.sources.specs.Benches.{head_for}

pub find_head_for : (heads : List TableHead) (n : ℕ) → find (λ h. eqb h.number n) heads ≡ head_for heads n
find_head_for heads n = same_from_clauses (find (λ h. eqb h.number n)) (λ hs. head_for hs n) (λ h found. cond (eqb h.number n) (Some h) found) refl (λ _ _. refl) (λ _ _. refl) heads

-- a head that was found is sound
pub sound_found : (b : Bench) (n : ℕ) (found : Option TableHead) → found ≡ head_for b.heads.now n → IfSome found (Sound (length b.cells.now) n)
sound_found b n None e = tt
sound_found b n (Some h) e = sound_for b.heads.now b.cells.now n h b.taken (sym e)
