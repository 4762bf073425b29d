-- `limits::table_good` meets its contract.
use Rattle.limits.proofs.Tables.{in_area, first_fits, second_fits, table_over, table_none, table_alike, table_one, table_two}
use Rattle.limits.proofs.table_good.Goals as goal

pub bounds-schema-wide : goal.bounds-schema-wide
bounds-schema-wide c =
    let a = c.args in
    in_area a.schema.now c.requires.accepted a.table a.n a.rows.now c.requires.table_in_bounds c.wide.result c.wide.ensures

pub unique-requires-clause-index_fits : goal.unique-requires-clause-index_fits
unique-requires-clause-index_fits c =
    let a = c.args in
    first_fits a.schema.now c.requires.accepted a.table a.n a.rows.now c.requires.table_in_bounds c.wide.result c.wide.ensures
    c.rows_of.result c.within.result c.rows_of.ensures c.within.ensures
    c.index_count-count.result c.index_count-count.ensures c.if-count-eq0.false c.first_index.result.now c.first_index.ensures

pub unique-requires-else-count-eq1-clause-index_fits : goal.unique-requires-else-count-eq1-clause-index_fits
unique-requires-else-count-eq1-clause-index_fits c =
    let a = c.args in
    second_fits a.schema.now c.requires.accepted a.table a.n a.rows.now c.requires.table_in_bounds c.wide.result c.wide.ensures
    c.rows_of.result c.within.result c.rows_of.ensures c.within.ensures
    c.index_count-count.result c.index_count-count.ensures c.if-count-eq0.false c.if-count-eq1.false c.second_index.result.now c.second_index.ensures

pub returns-then-count-eq0 : goal.returns-then-count-eq0
returns-then-count-eq0 c =
    let a = c.args in
    table_none a.schema.now c.requires.accepted a.table a.n a.rows.now c.requires.table_in_bounds c.wide.result c.wide.ensures
    c.rows_of.result c.within.result c.rows_of.ensures c.within.ensures
    c.index_count-count.result c.index_count-count.ensures c.if-within.true c.if-count-eq0.true

pub returns-then-count-eq1 : goal.returns-then-count-eq1
returns-then-count-eq1 c =
    let a = c.args in
    table_one a.schema.now c.requires.accepted a.table a.n a.rows.now c.requires.table_in_bounds c.wide.result c.wide.ensures
    c.rows_of.result c.within.result c.rows_of.ensures c.within.ensures
    c.index_count-count.result c.index_count-count.ensures c.if-within.true c.if-count-eq0.false c.first_index.result.now c.first_index.ensures
    c.unique.result c.unique.ensures c.if-unique.true c.if-count-eq1.true

pub returns-else-count-eq1 : goal.returns-else-count-eq1
returns-else-count-eq1 c =
    let a = c.args in
    table_two a.schema.now c.requires.accepted a.table a.n a.rows.now c.requires.table_in_bounds c.wide.result c.wide.ensures
    c.rows_of.result c.within.result c.rows_of.ensures c.within.ensures
    c.index_count-count.result c.index_count-count.ensures c.if-within.true c.if-count-eq0.false c.first_index.result.now c.first_index.ensures
    c.unique.result c.unique.ensures c.if-unique.true c.if-count-eq1.false
    c.second_index.result.now c.second_index.ensures c.unique-else-count-eq1.result c.unique-else-count-eq1.ensures

pub returns-else-unique : goal.returns-else-unique
returns-else-unique c =
    let a = c.args in
    table_alike a.schema.now c.requires.accepted a.table a.n a.rows.now c.requires.table_in_bounds c.wide.result c.wide.ensures
    c.rows_of.result c.within.result c.rows_of.ensures c.within.ensures
    c.index_count-count.result c.index_count-count.ensures c.if-within.true c.if-count-eq0.false c.first_index.result.now c.first_index.ensures
    c.unique.result c.unique.ensures c.if-unique.false

pub returns-else-within : goal.returns-else-within
returns-else-within c =
    let a = c.args in
    table_over a.schema.now c.requires.accepted a.table a.n a.rows.now c.requires.table_in_bounds c.wide.result c.wide.ensures
    c.rows_of.result c.within.result c.rows_of.ensures c.within.ensures c.if-within.false
