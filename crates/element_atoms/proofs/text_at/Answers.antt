-- `element_atoms::text_at` meets its contract.
use Rattle.std.specs.Prelude.{Some}
use mathlib.Core.Path.{◌≡◌, sym, ap, ◌∙◌}
use native.Mathlib.Omega.{arith}
use lib.ListN.{length, replicate}
use Rattle.model.specs.Value.{text_atom}
use Rattle.text.specs.Steps.{body_place}
use Rattle.text.proofs.Words.{place_text, place_tree, place_none}
use Rattle.uuids.proofs.Decoded.{fitted, over}
use Rattle.element_atoms.specs.Atoms.{TextReads}
use Rattle.element_atoms.proofs.Reading.{string_str, blank_is}
use borrow.Author.Rules.{rules}
use Rattle.element_atoms.proofs.text_at.Goals as goal

pub returns-in_default : goal.returns-in_default
unfolding TextReads
returns-in_default c =
    let a = c.args in
    (place_none a.text.now a.at (sym c.body_at-f.ensures ∙ c.in_default.is), blank_is a.out.now (search rules) c.clear.ensures)

pub slice_bounds-buf-end : goal.slice_bounds-buf-end
slice_bounds-buf-end c =
    let f = fitted {before = replicate 24 0} c.decode-w.ensures c.in-Some-w.is in
    omega (arith, f.0, f.1)

pub slice_bounds-put_text-end : goal.slice_bounds-put_text-end
slice_bounds-put_text-end c =
    let f = fitted {before = replicate 24 0} c.decode-w.ensures c.in-Some-w.is in
    f.0 ∙ sym (ap length f.2)

pub returns-in-Some-w : goal.returns-in-Some-w
unfolding TextReads
returns-in-Some-w c =
    let place : body_place c.args.text.now c.args.at ≡ Some c.in-Some.i = sym c.body_at-f.ensures ∙ c.in-Some.is in
    let a = c.args in
    let f = fitted {before = replicate 24 0} c.decode-w.ensures c.in-Some-w.is in
    let q = sym (string_str (place_tree a.text.now a.at (place))) in
    ((place_text a.text.now a.at (place)).0, c.put_text.ensures ∙ ap text_atom (f.2 ∙ q), omega (arith, ap length q, f.1))

pub returns-in-None : goal.returns-in-None
unfolding TextReads
returns-in-None c =
    let place : body_place c.args.text.now c.args.at ≡ Some c.in-Some.i = sym c.body_at-f.ensures ∙ c.in-Some.is in
    let a = c.args in
    let g = over {before = replicate 24 0} c.decode-w.ensures c.in-None.is in
    let q = sym (string_str (place_tree a.text.now a.at (place))) in
    ((place_text a.text.now a.at (place)).0, omega (arith, ap length q, g), blank_is a.out.now (search rules) c.clear.ensures)
