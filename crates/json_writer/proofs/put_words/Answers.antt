-- `json_writer::put_words` meets its contract.
use mathlib.Core.Path.{refl}
use native.Mathlib.Omega.{arith}
use Rattle.model.specs.declared.Fault.TheVariants.{Fine, Syntax, Resources, Duplicate, Constraint, Domain, Range, Aborted, Integrity}
use Rattle.json_writer.specs.Texts.{words_text}
use Rattle.json_writer.proofs.Putting.{put_nothing, put_is}
use Rattle.json_writer.proofs.Joins.{words_is}
use Rattle.json_writer.proofs.put_words.Goals as goal

pub returns-in-Fine : goal.returns-in-Fine
unfolding words_text
returns-in-Fine c = put_is (put_nothing c.args.out.now c.args.at) (words_is c.args.fault Fine _ c.in-Fine.is refl) (omega arith)

pub returns-in-Syntax : goal.returns-in-Syntax
unfolding words_text
returns-in-Syntax c = put_is c.put_bytes.ensures (words_is c.args.fault Syntax _ c.in-Syntax.is refl) (omega arith)

pub returns-in-Resources : goal.returns-in-Resources
unfolding words_text
returns-in-Resources c = put_is c.put_bytes-in-Resources.ensures (words_is c.args.fault Resources _ c.in-Resources.is refl) (omega arith)

pub returns-in-Duplicate : goal.returns-in-Duplicate
unfolding words_text
returns-in-Duplicate c = put_is c.put_bytes-in-Duplicate.ensures (words_is c.args.fault Duplicate _ c.in-Duplicate.is refl) (omega arith)

pub returns-in-Constraint : goal.returns-in-Constraint
unfolding words_text
returns-in-Constraint c = put_is c.put_bytes-in-Constraint.ensures (words_is c.args.fault Constraint _ c.in-Constraint.is refl) (omega arith)

pub returns-in-Domain : goal.returns-in-Domain
unfolding words_text
returns-in-Domain c = put_is c.put_bytes-in-Domain.ensures (words_is c.args.fault Domain _ c.in-Domain.is refl) (omega arith)

pub returns-in-Range : goal.returns-in-Range
unfolding words_text
returns-in-Range c = put_is c.put_bytes-in-Range.ensures (words_is c.args.fault Range _ c.in-Range.is refl) (omega arith)

pub returns-in-Aborted : goal.returns-in-Aborted
unfolding words_text
returns-in-Aborted c = put_is c.put_bytes-in-Aborted.ensures (words_is c.args.fault Aborted _ c.in-Aborted.is refl) (omega arith)

pub returns-in-Integrity : goal.returns-in-Integrity
unfolding words_text
returns-in-Integrity c = put_is c.put_bytes-in-Integrity.ensures (words_is c.args.fault Integrity _ c.in-Integrity.is refl) (omega arith)
