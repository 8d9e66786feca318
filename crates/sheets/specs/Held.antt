-- What a sheet's parts mean.
use Rattle.std.specs.Prelude.{map}
use Rattle.bounded.specs.Listed.{listed}
use Rattle.meaning.specs.Queries.{Inner, Query}
use Rattle.sheets.specs.declared.blocks.InnerBlock.{InnerBlock}
use Rattle.sheets.specs.declared.blocks.SheetQuery.{SheetQuery}

abbrev pub inner_of : InnerBlock → Inner
inner_of b = record { nest = b.nest; table = b.table; tests = listed b.tests; links = listed b.links }

abbrev pub query_of : SheetQuery → Query
query_of q = record { table = q.table; tests = listed q.tests; inner = map inner_of (listed q.inner); outputs = listed q.outputs }
