-- `record_main::write_commit` meets its contract.
use mathlib.Core.Path.{◌≡◌, refl, ap}
use mathlib.Core.List.{[], ◌++◌}
use native.Mathlib.Omega.{arith}
use lib.ListN.{length}
use Rattle.model.specs.Octets.{value}
use Rattle.model.specs.Records.{born, column, end, numbered, encode}
use Rattle.octets.proofs.Rests.{write_next}
use Rattle.record.specs.Kinds.{born_record, column_record, end_record}
use Rattle.record.specs.declared.Born.{Born}
use Rattle.record.specs.declared.Column.{Column}
use Rattle.record.proofs.Laws.{wrote_as}
use Rattle.record_main.proofs.write_commit.Goals as goal

pub returns : goal.returns
returns c =
    let a = c.args in
    let xs = a.out.now in
    let id = a.id.now in
    let atoms = a.atoms.now in
    let w1 = wrote_as (ap (λ (r : Born). born_record r id) c.new.ensures) c.write.ensures in
    let w2 = wrote_as (ap (λ (r : Column). column_record r id atoms) c.new-2.ensures) c.write-2.ensures in
    let w3 = wrote_as (ap end_record c.new-3.ensures) c.write-3.ensures in
    let b = encode (numbered 1 1 (born 0 (value id))) in
    let k = encode (numbered 1 2 (column 0 (value id) 0 (record { count = 1; atoms = atoms }))) in
    let e = encode (numbered 1 3 end) in
    let n : length (b ++ k) ≡ 154 = omega (arith, w2.size) in
    let e1 = write_next [] b xs xs _ 0 26 refl refl w1.bytes in
    let e2 = write_next b k xs _ _ 26 128 refl e1 w2.bytes in
    write_next (b ++ k) e xs _ _ 154 9 n e2 w3.bytes
