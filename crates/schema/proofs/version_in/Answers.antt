-- `schema::version_in` meets its contract.
use mathlib.Core.Path.{◌∙◌}
use Rattle.schema.proofs.Members.{no_version, some_version}
use Rattle.schema.proofs.version_in.Goals as goal

pub returns-then-p-eq0 : goal.returns-then-p-eq0
returns-then-p-eq0 c = no_version c.args.text.now c.if-p-eq0.true

pub returns : goal.returns
returns c =
    some_version c.args.text.now c.if-p-eq0.false c.is_version.ensures (c.bytes-t.ensures ∙ c.string_at-part.ensures.bytes)
