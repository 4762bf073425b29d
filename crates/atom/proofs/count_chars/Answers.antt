-- `atom::count_chars` meets its contract.
use Rattle.std.proofs.Common.{◌≡◌, ◌&&◌, leb, ltb, get_or, sym, ◌∙◌, arith, rules, tests}
use Rattle.atom.proofs.Texts.{chars_on, chars_end, byte_small}
use Rattle.atom.proofs.count_chars.Goals as goal

pub loop-b-preserved : goal.loop-b-preserved
loop-b-preserved c =
    let l = c.loop-b in
    let t = c.args.t.now in
    let b = get_or t l.b-index 0 in
    let e : c.contains.result ≡ (leb 128 b && ltb b 192) = search (rules, tests) in
    (omega (arith, l.invariant.0, c.from-n.ensures, byte_small), rw (c.from-n.ensures, e) (l.invariant.1 ∙ chars_on t l.b-index l.n c.loop-b-test.true))

pub returns : goal.returns
returns c = sym (c.loop-b.invariant.1 ∙ chars_end c.args.t.now c.loop-b.b-index c.loop-b.n c.loop-b-test.false)
