use Rattle.std.proofs.Common.{Err, sym, ap, ◌∙◌, rules}
use Rattle.diagram_labels.proofs.Spellings.{is_reserved_error, reserved_error}
use Rattle.diagram_labels.proofs.spelling.is_reserved.Goals as goal

pub returns-in-Err-Reserved : goal.returns-in-Err-Reserved
returns-in-Err-Reserved c =
    let is = sym c.new.ensures ∙ c.in-Err-Reserved.is ∙ ap Err c.in-Err-Reserved.field-0-is in
    ap is_reserved_error (sym is) ∙ reserved_error c.args.word.now c.requires

pub returns-in_default : goal.returns-in_default
returns-in_default c =
    let is = sym c.new.ensures ∙ c.in_default.is in
    let renames = reserved_error c.args.word.now c.requires in
    search rules

pub returns-in_default-2 : goal.returns-in_default-2
returns-in_default-2 c = ap is_reserved_error (sym (sym c.new.ensures ∙ c.in_default.is)) ∙ reserved_error c.args.word.now c.requires
