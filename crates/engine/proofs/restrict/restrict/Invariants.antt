use Rattle.std.proofs.Common.{◌≡◌, ◌+◌, ◌%◌, ◌^◌}
use Rattle.terms.specs.Tables.{rows_of}
use Rattle.engine.specs.Rows.{values}
use Rattle.engine.proofs.Restricting.{Restricted}
use Rattle.engine.proofs.restrict.restrict.Given as goal

abbrev pub invariant-loop-i : goal.invariant-loop-i
invariant-loop-i g l =
    let s = g.S.Source in
    let was = l.initial.source in
    record {
      tables : s.tables l.source ≡ s.tables was;
      meter : s.reads l.source ≡ (s.reads was + l.i) % 2 ^ 64;
      so : Restricted l.extent.width l.tests (rows_of (s.tables was l.table)) (values l.cells) l.kept l.i;
    }
