-- `operations::on_table::room` meets its contract.
use borrow.Author.Tests.{lt-ltb, le-ltb}
use Rattle.operations.proofs.Doing.{room_is}
use Rattle.operations.proofs.on_table.room.Goals as goal

pub returns-then-n-lt-ROWS : goal.returns-then-n-lt-ROWS
returns-then-n-lt-ROWS c = room_is c.args.n (lt-ltb c.args.n 32 c.if-n-lt-ROWS.true)

pub returns : goal.returns
returns c = room_is c.args.n (le-ltb c.args.n 32 c.if-n-lt-ROWS.false)
