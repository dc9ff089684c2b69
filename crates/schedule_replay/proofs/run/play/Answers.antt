use Rattle.std.proofs.Common.{length, drop, sym, ◌∙◌, subst}
use Rattle.std.proofs.lemmas.List.{take_at}
use Rattle.schedule.specs.Outcomes.Outcomes.{AreByLine}
use Rattle.schedule.specs.Meaning.{after}
use Rattle.schedule_replay.specs.Agreement.{AreFresh}
use Rattle.schedule_replay.proofs.Posts.{gathered_is}
use Rattle.schedule_replay.proofs.run.play.Goals as goal

pub perform_all-requires-clause-new : goal.perform_all-requires-clause-new
perform_all-requires-clause-new c = let new = c.requires.new in (new.0, subst (AreFresh new.0) (sym c.deref_mut.ensures.value) new.1)

pub gather_all-requires : goal.gather_all-requires
gather_all-requires c =
    let new = c.requires.new in
    let played = c.in_ok-notes.ensures new.0 (subst (AreFresh new.0) (sym c.deref_mut.ensures.value) new.1) in
    let whole = take_at c.perform_all.new.posts (drop (length c.perform_all.new.posts) c.args.posts.items) c.args.posts.len (c.perform_all.auto.posts ∙ c.deref_mut.ensures.len) in
    record { all = (new.0, rw whole played.1.agrees.posts) }

pub returns : goal.returns
returns c board new =
    let played = c.in_ok-notes.ensures board (subst (AreFresh board) (sym c.deref_mut.ensures.value) new) in
    let whole = take_at c.perform_all.new.posts (drop (length c.perform_all.new.posts) c.args.posts.items) c.args.posts.len (c.perform_all.auto.posts ∙ c.deref_mut.ensures.len) in
    let its = gathered_is board (after board.size board.capacity c.args.commands.now).run c.perform_all.new.posts played.0 c.in_ok-gather_all.field-0 played.1.agrees (rw whole at c.in_ok-gather_all.ensures) in
    record { chart = its.0; reports = its.1; notes = subst (λ came. AreByLine came c.put_by_line.new.notes.items) played.1.noted c.in_ok-put_by_line.ensures }
