use Rattle.std.proofs.Common.{◌≡◌, ℕ, List, ◌++◌, ◌∷◌, [], length, sym, ◌∙◌, ap, arith}
use Rattle.std.proofs.lemmas.List.{length-append}
use Rattle.diagram_labels.specs.Giving.{called}
use Rattle.diagram_labels.specs.Spelling.{spelled}
use Rattle.diagrams.proofs.NamingLemmas.{not_among, name_more, names_end}
use Rattle.diagrams.proofs.naming.names_of.Goals as goal

pub add_name-requires-clause-free : goal.add_name-requires-clause-free
add_name-requires-clause-free c = rw c.loop-participant.invariant.same (not_among _ _ _ c.in_ok-name.ensures.called)

pub add_name-requires-clause-room : goal.add_name-requires-clause-room
add_name-requires-clause-room c = omega (arith, c.loop-participant.invariant.count, c.loop-participant-test.true, c.requires)

pub loop-participant-preserved : goal.loop-participant-preserved
loop-participant-preserved c =
    let names = c.loop-participant.names in
    let same = c.loop-participant.invariant.same in
    let name : c.in_ok-name.name ≡ called names (spelled c.participant-item.result.label.items) =
    c.in_ok-name.ensures.value ∙ ap (λ given. called given c.in_ok-word.word) (sym same)
    ∙ ap (called names) (c.in_ok-word.ensures ∙ ap spelled c.as_slice.ensures.value) in
    record {
      count = omega (arith, ap (λ (ns : List (List ℕ)). length ns) c.in_ok-add_name.ensures, length-append names (c.in_ok-name.name ∷ []), c.loop-participant.invariant.count);
      same = c.in_ok-add_name.ensures ∙ ap (λ names. names ++ c.in_ok-name.name ∷ []) same ∙ sym c.in_ok-name.ensures.given;
      so_far = name_more _ _ _ _ _ c.loop-participant-test.true c.participant-item.is
          (c.in_ok-add_name.ensures ∙ ap (λ one. names ++ one ∷ []) name) ∙ c.loop-participant.invariant.so_far;
    }

pub returns : goal.returns
returns c = sym (names_end _ _ _ c.loop-participant-test.false) ∙ c.loop-participant.invariant.so_far
