use Rattle.std.proofs.Common.{refl}
use Rattle.cmd_import_diagram.proofs.importing.imported_diagram.Goals as goal

pub returns-clause-reads : goal.returns-clause-reads
returns-clause-reads c =
    (c.in_ok-built.field-0, (c.in_ok-built.ensures.reads, c.in_ok-built.ensures.possible), (cc (c.in-Ok.ensures, c.deref.ensures.value), refl, refl), refl, refl)
