use Rattle.diagram_labels.proofs.Labelled.{labels_keep, labels_are_called, labels_are_named, labels_differ}
use Rattle.diagram_labels.proofs.laws.labels_law.Goals as goal

pub returns-clause-keep : goal.returns-clause-keep
returns-clause-keep c = labels_keep

pub returns-clause-called : goal.returns-clause-called
returns-clause-called c = labels_are_called

pub returns-clause-named : goal.returns-clause-named
returns-clause-named c = labels_are_named

pub returns-clause-differ : goal.returns-clause-differ
returns-clause-differ c = labels_differ
