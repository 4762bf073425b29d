-- The loop of `request_rows::read_columns`.
use Rattle.inner.specs.Positions.{tree_at}
use Rattle.model.specs.Members.{members_in}
use Rattle.uuids.specs.Named.{names_at}
use Rattle.request_rows.proofs.Reading.{Reading}
use Rattle.request_rows.proofs.read_columns.Given as goal

abbrev pub invariant-loop-c : goal.invariant-loop-c
invariant-loop-c l = Reading l.insert (names_at l.text l.names) (members_in (tree_at l.text l.at)) l.columns l.initial.row l.c l.f l.row l.given
