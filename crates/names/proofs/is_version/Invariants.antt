-- The loop of `names::is_version`.
use Rattle.std.proofs.Common.{◌≡◌, drop}
use Rattle.model.specs.SchemaText.{is_version, version_from}
use Rattle.names.proofs.is_version.Given as goal

abbrev pub invariant-loop-b : goal.invariant-loop-b
invariant-loop-b l = is_version l.t ≡ version_from l.dots l.seen (drop l.b-index l.t)
