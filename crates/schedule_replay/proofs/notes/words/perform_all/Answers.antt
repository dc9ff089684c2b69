use Rattle.std.proofs.Common.{sym, subst}
use Rattle.std.proofs.lemmas.Result.{IfOk-weaker}
use Rattle.schedule.specs.Meaning.{start}
use Rattle.schedule_replay.specs.Agreement.{Agrees}
use Rattle.schedule_replay.proofs.notes.words.perform_all.Goals as goal

pub perform-requires-clause-fresh : goal.perform-requires-clause-fresh
perform-requires-clause-fresh c =
    let new = c.requires.new in
    (new.0, subst (Agrees new.0 start.run c.begin.new.posts) (sym c.deref_mut.ensures.value) (c.in_ok-last.ensures new.0 new.1))

pub returns : goal.returns
returns c =
    IfOk-weaker c.perform.result _ _ (λ words left board new.
    left board (subst (Agrees board start.run c.begin.new.posts) (sym c.deref_mut.ensures.value) (c.in_ok-last.ensures board new))) c.perform.ensures
