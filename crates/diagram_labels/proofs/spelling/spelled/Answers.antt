use Rattle.std.proofs.Common.{sym, ap, ◌∙◌, subst, refl, rules}
use Rattle.chart.specs.Names.{name_of}
use Rattle.diagram_labels.specs.Spelling.{IsWord, fronted, unreserved, shortened, spelled}
use Rattle.diagram_labels.proofs.Spellings.{fronted_is_word, joined_names_alone, spelled_is_name}
use Rattle.diagram_labels.proofs.spelling.spelled.Goals as goal

pub unreserved-requires : goal.unreserved-requires
unreserved-requires c =
    subst IsWord (sym (c.in_ok-fronted.ensures ∙ ap fronted c.in_ok-joined.ensures)) (fronted_is_word _ (joined_names_alone c.args.label.now))

pub unwrap-requires : goal.unwrap-requires
unfolding spelled
unwrap-requires c =
    let bytes = c.as_slice.ensures.value ∙ c.in_ok-bytes.ensures ∙ ap shortened (c.in_ok-unreserved.ensures ∙ ap unreserved (c.in_ok-fronted.ensures ∙ ap fronted c.in_ok-joined.ensures)) in
    let renames = c.new.ensures ∙ ap name_of bytes ∙ spelled_is_name c.args.label.now in
    rw renames refl

pub returns : goal.returns
unfolding spelled
returns c =
    let bytes = c.as_slice.ensures.value ∙ c.in_ok-bytes.ensures ∙ ap shortened (c.in_ok-unreserved.ensures ∙ ap unreserved (c.in_ok-fronted.ensures ∙ ap fronted c.in_ok-joined.ensures)) in
    let renames = c.new.ensures ∙ ap name_of bytes ∙ spelled_is_name c.args.label.now in
    search rules
