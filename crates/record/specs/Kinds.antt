-- What the record types stand for (document 01, "Records on the line"): a struct, with the id and the atoms that are lent beside it, is one of the model's records. Assumes nothing: these are definitions.
use Rattle.std.specs.Prelude.{ℕ, List}
use Rattle.model.specs.Octets.{value}
use Rattle.model.specs.Records.{born, gone, column, end, Record, numbered, mark}
use Rattle.record.specs.declared.Born.{Born}
use Rattle.record.specs.declared.Gone.{Gone}
use Rattle.record.specs.declared.Column.{Column}
use Rattle.record.specs.declared.End.{End}
use Rattle.record.specs.declared.Mark.{Mark}

-- the structs by their fields
abbrev pub born_of : ℕ → ℕ → ℕ → Born
born_of run number table = record { run = run; number = number; table = table }

abbrev pub gone_of : ℕ → ℕ → ℕ → Gone
gone_of run number table = record { run = run; number = number; table = table }

abbrev pub column_of : ℕ → ℕ → ℕ → ℕ → ℕ → Column
column_of run number table c count = record { run = run; number = number; table = table; column = c; count = count }

abbrev pub end_of : ℕ → ℕ → End
end_of run number = record { run = run; number = number }

abbrev pub mark_of : ℕ → ℕ → Mark
mark_of run last = record { run = run; last = last }

-- "1 born, 2 gone | run 4, number 4, table 1, id 16": the id is the number of its 16 bytes
abbrev pub born_record : Born → List ℕ → Record
born_record r id = numbered r.run r.number (born r.table (value id))

abbrev pub gone_record : Gone → List ℕ → Record
gone_record r id = numbered r.run r.number (gone r.table (value id))

-- "3 column | the same, column 1, count 1, four atoms of 25"
abbrev pub column_record : Column → List ℕ → List (List ℕ) → Record
column_record r id atoms = numbered r.run r.number (column r.table (value id) r.column (record { count = r.count; atoms = atoms }))

-- "4 end | run 4, number 4"
abbrev pub end_record : End → Record
end_record r = numbered r.run r.number end

-- "5 mark | run 4, last number given out 4"
abbrev pub mark_record : Mark → Record
mark_record r = mark r.run r.last
