-- A step on a region, as the state has it.
use Rattle.std.proofs.Common.{◌≡◌, ℕ, ◌<◌, List, [], length, get_or, set, sym, ap, ◌∙◌, arith}
use Rattle.std.proofs.lemmas.List.{set-get_or}
use Rattle.terms.specs.declared.cells.WorkCell.{WorkCell}
use Rattle.terms.specs.Cells.{Cell, Row}
use Rattle.sources.specs.Heads.{rows_in}
use Rattle.meaning.specs.Running.{Group, with_kept, with_groups}
use Rattle.engine.specs.declared.layout.Layout.{Layout}
use Rattle.engine.specs.declared.layout.Counts.{Counts}
use Rattle.engine.specs.Rows.{values, groups_in}
use Rattle.engine.specs.Regions.{inside, seen, end_of, SameApart, Laid, Within, region}
use Rattle.engine.specs.Views.{held, view}
use Rattle.engine.proofs.Regions.{seen_changed, seen_long, put-seen}

abbrev pub with_kept-count : Counts → (b k : ℕ) → Counts
with_kept-count counts b k = record { kept = set counts.kept b k; tuples = counts.tuples; written = counts.written }

abbrev pub with_tuples_count : Counts → (b k : ℕ) → Counts
with_tuples_count counts b k = record { kept = counts.kept; tuples = set counts.tuples b k; written = counts.written }

module _ (layout : Layout) (counts : Counts) (rows tuples : List WorkCell) (w : ℕ) (result : List Cell) where
  -- the rows of temporary b are now these
  pub kept_now : (after : List WorkCell) (l b k : ℕ) (now : List Row) (n : ℕ) → Laid 0 l layout.kept → Within layout.kept counts.kept → b < length layout.kept
      → SameApart (region layout.kept b).start (end_of (region layout.kept b)) (values rows) (values after) → inside rows_in (region layout.kept b) k (values after) ≡ now
      → view layout w (held (with_kept-count counts b k) after tuples result) n ≡ with_kept (view layout w (held counts rows tuples result) n) b now
  kept_now after l b k now n laid within h apart here =
      let all = seen rows_in layout.kept counts.kept (values rows) in
      let s = view layout w (held counts rows tuples result) n in
      let change = seen_changed rows_in (values rows) (values after) 0 l layout.kept counts.kept b k now laid within h apart here in
      ap (λ (f : ℕ → List Row). record { kept = f; groups = s.groups; written = s.written; reads = n })
      (let pick : List (List Row) → ℕ → List Row = λ xs m. get_or xs m [] in ap pick change ∙ put-seen all b now (omega (arith, seen_long rows_in layout.kept counts.kept (values rows) within)))

  -- and so for the tuples
  pub tuples_now : (after : List WorkCell) (l b k : ℕ) (now : List Group) (n : ℕ) → Laid 0 l layout.tuples → Within layout.tuples counts.tuples → b < length layout.tuples
      → SameApart (region layout.tuples b).start (end_of (region layout.tuples b)) (values tuples) (values after) → inside groups_in (region layout.tuples b) k (values after) ≡ now
      → view layout w (held (with_tuples_count counts b k) rows after result) n ≡ with_groups (view layout w (held counts rows tuples result) n) b now
  tuples_now after l b k now n laid within h apart here =
      let all = seen groups_in layout.tuples counts.tuples (values tuples) in
      let s = view layout w (held counts rows tuples result) n in
      let change = seen_changed groups_in (values tuples) (values after) 0 l layout.tuples counts.tuples b k now laid within h apart here in
      ap (λ (f : ℕ → List Group). record { kept = s.kept; groups = f; written = s.written; reads = n })
      (let pick : List (List Group) → ℕ → List Group = λ xs m. get_or xs m [] in ap pick change ∙ put-seen all b now (omega (arith, seen_long groups_in layout.tuples counts.tuples (values tuples) within)))

  -- the tuples keep their number
  pub tuples_same : (after : List WorkCell) (l b : ℕ) (now : List Group) (n : ℕ) → Laid 0 l layout.tuples → Within layout.tuples counts.tuples → b < length layout.tuples
      → SameApart (region layout.tuples b).start (end_of (region layout.tuples b)) (values tuples) (values after) → inside groups_in (region layout.tuples b) (get_or counts.tuples b 0) (values after) ≡ now
      → view layout w (held counts rows after result) n ≡ with_groups (view layout w (held counts rows tuples result) n) b now
  tuples_same after l b now n laid within h apart here =
      let same : set counts.tuples b (get_or counts.tuples b 0) ≡ counts.tuples = set-get_or counts.tuples b 0 in
      ap (λ (ns : List ℕ). view layout w (held (record { kept = counts.kept; tuples = ns; written = counts.written }) rows after result) n) (sym same)
      ∙ tuples_now after l b (get_or counts.tuples b 0) now n laid within h apart here
