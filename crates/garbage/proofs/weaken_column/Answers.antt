-- `garbage::weaken_column` meets its contract.
use Rattle.std.specs.Prelude.{Option}
use mathlib.Core.Path.{◌≡◌, sym, ap, subst, ◌∙◌}
use mathlib.Core.List.{[]}
use Prim.Native.Nat.{ℕ}
use native.Mathlib.Omega.{arith}
use lib.ListN.{set, get_or}
use lib.Seq.{get_or-set_same, set-get_or}
use Rattle.model.specs.Value.{Value}
use Rattle.model.specs.Rows.{set_column}
use Rattle.model.specs.Commit.{present}
use Rattle.model.specs.Areas.{row_from}
use Rattle.inner.specs.Working.{working, value_in}
use Rattle.garbage.specs.Weak.{kept_value, ColumnWeak}
use Rattle.garbage.proofs.Weakly.{kept_value_lem, kept_few, column_stays}
use Rattle.garbage.proofs.weaken_column.Goals as goal

pub overflow_cast-k : goal.overflow_cast-k
overflow_cast-k c =
    let a = c.args in
    omega (arith, c.keep_column-k.ensures.value [], kept_few (present (working [] a.n a.rows.now) c.in-Some.t) a.c (get_or a.rows.now a.i []))

pub returns-in-Some : goal.returns-in-Some
unfolding kept_value
returns-in-Some c =
    let a = c.args in
    let rows = a.rows.now in
    let row = get_or rows a.i [] in
    let next = c.set_column.new.row in
    let v = value_in a.c row in
    let e : get_or (set rows a.i next) a.i [] ≡ next = get_or-set_same rows a.i next [] (omega (arith, c.requires.1, c.requires.2.there)) in
    record {
      rows_after = ap (set rows a.i) (sym e);
      column_weak = subst (ColumnWeak a.to a.c a.n rows row) (sym e)
          (record {
            row = λ sc h. c.set_column.ensures.row sc
                ∙ ap (λ (w : Value). set_column a.c w (row_from sc row)) (kept_value_lem (present (working sc a.n rows) c.in-Some.t) v c.keep_column-k.new.out c.keep_column-k.result (c.keep_column-k.ensures.value sc) (c.keep_column-k.ensures.out_after sc))
                ∙ ap (λ (o : Option ℕ). set_column a.c (kept_value (working sc a.n rows) o v) (row_from sc row)) (sym c.in-Some.is);
            tidy = λ sc h w t. c.set_column.ensures.tidy sc h w t;
          });
    }

pub returns-in-None : goal.returns-in-None
unfolding kept_value
returns-in-None c =
    let a = c.args in
    let row = get_or a.rows.now a.i [] in
    record {
      rows_after = sym (set-get_or a.rows.now a.i []);
      column_weak = record {
        row = λ s h. column_stays s row a.c h ∙ ap (λ (o : Option ℕ). set_column a.c (kept_value (working s a.n a.rows.now) o (value_in a.c row)) (row_from s row)) (sym c.in-None.is);
        tidy = λ s h w t. t;
      };
    }
