-- What a draft means, and that a list of entries spells it.
use Rattle.std.specs.Prelude.{◌≡◌, true, false, List, Some, None}
use Rattle.queries.specs.declared.entries.Entry.{Entry}
use Rattle.meaning.specs.Spelling.{Spelled, spelled}
use Rattle.sheets.specs.declared.draft.Draft.{Draft}
use Rattle.sheets.specs.declared.draft.Draft.TheVariants.{Fresh, Open, Ended}
use Rattle.sheets.specs.Held.{query_of}

abbrev pub draft_of : Draft → Spelled
draft_of Fresh = record { query = None; ended = false }
draft_of (Open query) = record { query = Some (query_of query); ended = false }
draft_of (Ended query) = record { query = Some (query_of query); ended = true }

-- some list of entries spells it
abbrev pub SpelledBy : Spelled → Type 0
SpelledBy s = (entries : List Entry) × (s ≡ spelled entries)
