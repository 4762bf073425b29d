-- `text::body_chars` meets its contract.
use mathlib.Core.Path.{◌≡◌, ap, ◌∙◌}
use mathlib.Core.Bool.{cond}
use Prim.Native.Nat.{ℕ, ◌+◌}
use native.Mathlib.Omega.{arith}
use lib.ListN.{drop}
use Rattle.model.specs.Text.{begins, chars}
use Rattle.text.specs.Steps.{body_from, bytes_of}
use Rattle.text.proofs.Matching.{counted_less}
use Rattle.text.proofs.Stepping.{inside_none, going_on, bytes_less, chars_on, chars_end, body_size}
use Rattle.text.proofs.body_chars.Goals as goal

pub next_byte-x-requires : goal.next_byte-x-requires
next_byte-x-requires c = inside_none c.args.text.now c.args.at

pub loop-x-init : goal.loop-x-init
loop-x-init c =
    let a = c.args in
    let x = c.next_byte-x.ensures in
    let z : 0 + chars (body_from a.text.now a.at) ≡ chars (body_from a.text.now a.at) = omega arith in
    (rw x.bytes z, rw x.bytes (omega (arith, body_size a.text.now a.at)), x.going)

pub counted-n-requires : goal.counted-n-requires
counted-n-requires c =
    omega (arith, c.loop-x.invariant.1, bytes_less c.args.text.now c.in-Some.is)

pub next_byte-x-requires-in-Some : goal.next_byte-x-requires-in-Some
next_byte-x-requires-in-Some c =
    going_on c.args.text.now c.in-Some.is c.loop-x.invariant.2

pub loop-x-smaller : goal.loop-x-smaller
loop-x-smaller c =
    rw c.next_byte-x-in-Some.ensures.bytes (bytes_less c.args.text.now c.in-Some.is)

pub loop-x-preserved : goal.loop-x-preserved
loop-x-preserved c =
    let s = c.args.text.now in
    let e = c.in-Some in
    let n = c.loop-x.n in
    let b = begins e.b in
    let r : c.counted-n.result ≡ cond b (1 + n) n = c.counted-n.ensures ∙ ap (λ q. cond q (1 + n) n) c.begins_here.ensures in
    let x = c.next_byte-x-in-Some.ensures in (
      rw x.bytes (ap (λ (m : ℕ). m + chars (drop e.a (body_from s e.i))) r ∙ chars_on s e.is n ∙ c.loop-x.invariant.0),
      rw x.bytes (omega (arith, r, counted_less b n, bytes_less s e.is, c.loop-x.invariant.1)),
      x.going,
    )

pub returns : goal.returns
returns c =
    let s = c.args.text.now in
    let z : c.loop-x.n ≡ c.loop-x.n + chars (bytes_of s c.loop-x.x) = omega (arith, chars_end s c.in_default.is) in
    z ∙ c.loop-x.invariant.0
