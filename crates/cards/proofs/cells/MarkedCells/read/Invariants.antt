use Rattle.std.proofs.Common.{◌≡◌, take}
use Rattle.sources.specs.Answers.{six_cells}
use Rattle.cards.specs.Format.{cells_of}
use Rattle.cards.proofs.cells.MarkedCells.read.Given as goal

abbrev pub invariant-loop-i : goal.invariant-loop-i
invariant-loop-i l = l.cells ≡ six_cells (take l.i (cells_of l.self.columns l.self.mark l.self.bytes.now))
