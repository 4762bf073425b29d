-- `text::next_byte` meets its contract.
use Prim.Native.Nat.{suc}
use mathlib.Core.Path.{sym, subst, ◌∙◌}
use Rattle.scan.proofs.Past.{PastNext, char_past}
use Rattle.text.proofs.Stepping.{offset_in, picked_steps, done_steps}
use Rattle.text.proofs.next_byte.Goals as goal

pub char_step-requires : goal.char_step-requires
char_step-requires c =
    let a = c.args in
    let s = a.text.now in
    let q = sym c.character-n.ensures ∙ c.in-Continue.is in
    record { e_in_bounds = (subst (PastNext s (suc a.at)) q (char_past s a.at)).1; off_in_bounds = offset_in s a.at a.off _ c.requires q }

pub returns-in-Continue : goal.returns-in-Continue
returns-in-Continue c =
    let a = c.args in
    let s = a.text.now in
    let q = sym c.character-n.ensures ∙ c.in-Continue.is in
    picked_steps s a.at _ a.off q (offset_in s a.at a.off _ c.requires q) c.char_step.ensures

pub returns-in-Break : goal.returns-in-Break
returns-in-Break c =
    let a = c.args in
    done_steps a.text.now a.at a.off c.requires (sym c.character-n.ensures ∙ c.in-Break.is)
