-- `nav::integer_at` meets its contract.
use mathlib.Core.Path.{◌≡◌, refl, sym, ap, ◌∙◌}
use mathlib.Core.Bool.{false}
use Rattle.model.specs.declared.Kind.TheVariants.{Number}
use Rattle.model.specs.Nav.{is_read, kind_of}
use Rattle.inner.specs.Positions.{is_number, tree_at}
use Rattle.scan.proofs.Ends.{no_end}
use Rattle.nav.proofs.FirstByte.{end_le, number_is, number_not}
use Rattle.nav.proofs.Numbers.{number_kind, whole_not, whole_num, whole_none}
use Rattle.nav.proofs.integer_at.Goals as goal

pub returns-in_default : goal.returns-in_default
unfolding is_read
returns-in_default c =
    let s = c.args.text.now in
    let k : kind_of (tree_at s c.args.at) ≡ Number = number_kind _ (ap is_number (sym c.kind_at-k.ensures) ∙ sym c.is_kind-n.ensures ∙ c.if-n.true) in
    let z : is_read c.end_of-r.result ≡ false = no_end (λ r. is_read r ≡ false) (λ x. refl) (λ x. refl) c.end_of-r.result c.in_default.not-Ok in
    whole_none (number_not s c.args.at k (ap is_read (sym c.end_of-r.ensures) ∙ z))

pub whole_text-requires : goal.whole_text-requires
whole_text-requires c =
    end_le c.args.text.now c.args.at _ (sym c.end_of-r.ensures ∙ c.in-Ok.is)

pub returns-then-n : goal.returns-then-n
returns-then-n c =
    let s = c.args.text.now in
    let k : kind_of (tree_at s c.args.at) ≡ Number = number_kind _ (ap is_number (sym c.kind_at-k.ensures) ∙ sym c.is_kind-n.ensures ∙ c.if-n.true) in
    let z = number_is s c.args.at k _ (sym c.end_of-r.ensures ∙ c.in-Ok.is) in
    c.whole_text.ensures ∙ rw c.spaces-i.ensures (whole_num z)

pub returns : goal.returns
returns c =
    whole_not (tree_at c.args.text.now c.args.at) (ap is_number (sym c.kind_at-k.ensures) ∙ sym c.is_kind-n.ensures ∙ c.if-n.false)
