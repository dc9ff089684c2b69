use Rattle.reordering.proofs.CompletionLemmas.OrderLemmas.{from_ends, to_ends, own_line, number_of, same_number, no_cycle}
use Rattle.reordering.proofs.CompletionLemmas.Possible.{is_sound}
use Rattle.reordering.proofs.completion.laws.closed_form_law.Goals as goal

pub returns-clause-events : goal.returns-clause-events
returns-clause-events c = λ n d possible e f. (λ is. to_ends d (is_sound n d possible) is, from_ends d e f)

pub returns-clause-line : goal.returns-clause-line
returns-clause-line c = λ n d possible r k up_to j begun less. own_line d (is_sound n d possible) r.instance r.index k up_to j begun less

pub returns-clause-number : goal.returns-clause-number
returns-clause-number c = λ n d possible r.
    let w = number_of d (is_sound n d possible) r in
    (w.0, w.1, λ l other. same_number d r w.0 l w.1 other)

pub returns-clause-acyclic : goal.returns-clause-acyclic
returns-clause-acyclic c = λ n d possible e is. no_cycle d (is_sound n d possible) e is
