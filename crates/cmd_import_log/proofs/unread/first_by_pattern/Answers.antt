use Rattle.std.proofs.Common.{map}
use Rattle.cmd_import_log.proofs.UnreadLemmas.{first_as}
use Rattle.cmd_import_log.proofs.unread.first_by_pattern.Goals as goal

pub returns-in-Some : goal.returns-in-Some
returns-in-Some c =
    first_as c.args.pattern.now c.args.range (map (λ text. text.now) c.args.texts.now) c.args.expression.now c.in-Some.expression c.first_shown.result c.in-Some.is c.requires c.first_shown.ensures
