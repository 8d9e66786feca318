-- A proof, for the bench's promise as a source: the tables that a bench shows are well formed.
use Rattle.std.specs.Prelude.{◌≡◌, ℕ, zero, suc, ◌+◌, ◌*◌, ◌≤◌, Bool, true, false, cond, ◌&&◌, List, [], ◌∷◌, length, drop, is_ok, Some, ◌==◌, nat_le, refl}
use Rattle.std.proofs.Common.{ap, subst, suc-mul, arith, length-take, length-drop}
use Rattle.std.proofs.ByRecursion.{All-map}
use Rattle.std.proofs.lemmas.List.{length-map}
use Rattle.std.proofs.lemmas.Bool.{and_parts, leb-true, eqb-true}
use Rattle.std.specs.List.{AllByRecursion}
use Rattle.terms.specs.Cells.{Cell, cell_in_range, every}
use Rattle.terms.specs.Numbered.{within}
use Rattle.terms.specs.Tables.{Filled, RowFormed, Formed, WellFormed}
use Rattle.terms.proofs.Everys.{every_take, every_drop}
use Rattle.terms.proofs.Taken.{taken_at, taken_then, between}
use Rattle.sources.specs.Formed.{found_formed}
use Rattle.sources.specs.declared.head.TableHead.{TableHead}
use Rattle.sources.specs.Heads.{number_and_columns_in_range, head_verdict, rows_in, head_rows, head_table}
use Rattle.sources.specs.Benches.{heads_verdict, bench_takes, head_for, bench_tables}

-- what holds of each head that counts on a bench over so many cells
pub record Sound (len n : ℕ) (h : TableHead) : Type 0 where
  pub number_low : 1 ≤ n
  pub number_high : n ≤ 16
  pub some_column : 1 ≤ h.columns
  pub few_columns : h.columns ≤ 6
  pub few_rows : h.rows ≤ 1024
  pub inside : h.first + h.rows * h.columns ≤ len

pub sound_head : (len n : ℕ) (h : TableHead) → is_ok (head_verdict len h) ≡ true → h.number ≡ n → Sound len n h
sound_head len n h e m =
    let outer = taken_then (number_and_columns_in_range h.number h.columns) _ _ e in
    let inner = taken_then (nat_le h.rows 1024 && nat_le (h.first + h.rows * h.columns) len) _ _ outer.1 in
    let ranges = and_parts (within 1 h.number 16) (within 1 h.columns 6) outer.0 in
    let number = between 1 h.number 16 ranges.0 in
    let columns = between 1 h.columns 6 ranges.1 in
    let rows = and_parts (nat_le h.rows 1024) (nat_le (h.first + h.rows * h.columns) len) inner.0 in
    record {
      number_low = rw m at number.0;
      number_high = rw m at number.1;
      some_column = columns.0;
      few_columns = columns.1;
      few_rows = leb-true _ _ rows.0;
      inside = leb-true _ _ rows.1;
    }

sound_in : (len at n : ℕ) (hs : List TableHead) (h : TableHead) → is_ok (heads_verdict len at hs) ≡ true → head_for hs n ≡ Some h → Sound len n h
sound_in len at n [] h e f = let z : ◌≡◌ {A = ℕ} 0 1 = cc in absurd (omega arith)
sound_in len at n (x ∷ hs) h e f =
    let both = taken_at (head_verdict len x) at (heads_verdict len (at + 1) hs) e in
    go (x.number == n) refl f both.0 (sound_in len (at + 1) n hs h both.1)
  where
    go : (t : Bool) → (x.number == n) ≡ t → cond t (Some x) (head_for hs n) ≡ Some h → is_ok (head_verdict len x) ≡ true → (head_for hs n ≡ Some h → Sound len n h) → Sound len n h
    go true q f ok later = let same : x ≡ h = cc in subst (Sound len n) same (sound_head len n x ok (eqb-true _ _ q))
    go false q f ok later = later f

-- each head that counts is sound
pub sound_for : (heads : List TableHead) (cells : List Cell) (n : ℕ) (h : TableHead) → bench_takes heads cells ≡ true → head_for heads n ≡ Some h → Sound (length cells) n h
sound_for heads cells n h e f = sound_in (length cells) 0 n heads h e f

pub rows_filled : (n columns : ℕ) (cells : List Cell) → n * columns ≤ length cells → every cell_in_range cells ≡ true → AllByRecursion (Filled columns) (rows_in n columns cells)
rows_filled zero columns cells h e = tt
rows_filled (suc n) columns cells h e =
    let total = suc-mul n columns in (
      record { wide = simp length-take (omega arith); ranged = every_take cell_in_range columns cells e },
      rows_filled n columns (drop columns cells) (simp length-drop (omega arith)) (every_drop cell_in_range columns cells e),
    )

pub length_rows : (n columns : ℕ) (cells : List Cell) → length (rows_in n columns cells) ≡ n
length_rows zero columns cells = refl
length_rows (suc n) columns cells = ap suc (length_rows n columns (drop columns cells))

table_formed : (cells : List Cell) (n : ℕ) (h : TableHead) → Sound (length cells) n h → every cell_in_range cells ≡ true → Formed (head_table cells h)
table_formed cells n h s e = record {
  some_column = s.some_column;
  few_columns = s.few_columns;
  few_rows = simp (length-map, length_rows) s.few_rows;
  each_row = All-map (RowFormed h.columns) Some (head_rows cells h) (rows_filled h.rows h.columns (drop h.first cells) (simp length-drop (omega (arith, s.inside))) (every_drop cell_in_range h.first cells e));
}

pub bench_formed : (heads : List TableHead) (cells : List Cell) → bench_takes heads cells ≡ true → every cell_in_range cells ≡ true → WellFormed (bench_tables heads cells)
bench_formed heads cells taken ranged =
    found_formed (head_table cells) (head_for heads)
    (λ n h q. let s = sound_for heads cells n h taken q in record { number_low = s.number_low; number_high = s.number_high; formed = table_formed cells n h s ranged })
