use Rattle.std.proofs.Common.{rules, ◌≡◌, ◌++◌, sym, ap, ◌∙◌}
use Rattle.std.specs.Prelude.{slice_get, option_to_list}
use Rattle.schedule_threads.proofs.Passing.{passes-answered}
use Rattle.schedule_threads.specs.RunNotes.{word_of, note_of}
use Rattle.schedule_threads.proofs.notes.add_turn.Goals as goal
use Rattle.schedule_threads.proofs.notes.add_turn.Goals.{in-Some-note_of+in_ok-push, in_default-note_of}

pub returns : goal.returns
returns c =
    let lines = c.args.lines.now in
    let old = c.args.notes.now.items in
    let answer = c.in-Some.answer in
    let left : option_to_list c.note_of.result ≡ note_of (slice_get lines c.args.place) (word_of answer) = rw c.line_at.ensures at c.note_of.ensures in
    let noted : c.match-note_of.notes.items ≡ old ++ option_to_list c.note_of.result = elim c.match-note_of.branch [
      | in-Some-note_of+in_ok-push w ↦ search rules
      | in_default-note_of w ↦ search rules
    ] in
    rw c.next_place.ensures (passes-answered lines old c.match-note_of.notes.items c.args.place c.args.turn.now answer (search rules) c.in_ok-refused_memory.ensures (noted ∙ ap (λ n. old ++ n) left))
