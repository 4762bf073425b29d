-- `indexes::is_indexed` meets its contract.
use Rattle.indexes.proofs.Shorts.{found_well, indexed_not, indexed_at, indexed_none}
use Rattle.model.specs.Value.{text_of}
use Rattle.model.specs.Members.{members_in}
use Rattle.inner.specs.Positions.{tree_at}
use Rattle.model.specs.Nav.{is_text}
use mathlib.Core.Path.{sym, ap, ◌∙◌}
use Rattle.indexes.proofs.is_indexed.Goals as goal

pub is_lasting-requires : goal.is_lasting-requires
is_lasting-requires c =
    let s = c.args.text.now in
    let t = sym (c.is_kind-t.ensures ∙ ap is_text c.kind_at-k.ensures) ∙ c.if-t.true in
    let q = c.text_of.ensures ∙ ap text_of c.name_at-name.ensures in
    record { says = c.requires.says; at_value = found_well s (members_in (tree_at s c.args.columns)) c.requires.columns_value_2 (tree_at s c.args.at) t q c.find-f.result c.find-f.ensures c.in-Some.is }

pub returns-in-Some : goal.returns-in-Some
returns-in-Some c =
    let s = c.args.text.now in
    let t = sym (c.is_kind-t.ensures ∙ ap is_text c.kind_at-k.ensures) ∙ c.if-t.true in
    let q = c.text_of.ensures ∙ ap text_of c.name_at-name.ensures in
    c.is_lasting.ensures ∙ indexed_at s (members_in (tree_at s c.args.columns)) c.requires.columns_value_2 (tree_at s c.args.at) t q c.find-f.result c.find-f.ensures c.in-Some.is

pub returns-in-None : goal.returns-in-None
returns-in-None c =
    let s = c.args.text.now in
    let t = sym (c.is_kind-t.ensures ∙ ap is_text c.kind_at-k.ensures) ∙ c.if-t.true in
    let q = c.text_of.ensures ∙ ap text_of c.name_at-name.ensures in
    indexed_none s (members_in (tree_at s c.args.columns)) c.requires.columns_value_2 (tree_at s c.args.at) t q c.find-f.result c.find-f.ensures c.in-None.is

pub returns : goal.returns
returns c =
    let s = c.args.text.now in
    let t = sym (c.is_kind-t.ensures ∙ ap is_text c.kind_at-k.ensures) ∙ c.if-t.false in
    indexed_not s (members_in (tree_at s c.args.columns)) c.requires.columns_value_2 (tree_at s c.args.at) t
