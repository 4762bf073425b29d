-- `column_types::type_fits` meets its contract.
use Rattle.members.specs.Fields.{words_from, words_of}
use Rattle.column_types.proofs.Shapes.{type_allowed_lem}
use Rattle.column_types.proofs.type_fits.Goals as goal

pub returns : goal.returns
unfolding words_of words_from
returns c =
    type_allowed_lem
    c.args.text.now
    c.args.f
    c.args.k
    c.args.least
    c.args.most
    c.is_within-a.result
    c.is_within-b.result
    c.choice_in-u.result
    c.size_or-n.result
    c.max_in-m.result
    c.is_within-a.ensures
    c.is_within-b.ensures
    c.choice_in-u.ensures
    c.size_or-n.ensures
    c.max_in-m.ensures
