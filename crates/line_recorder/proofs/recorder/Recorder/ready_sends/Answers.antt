use Rattle.std.proofs.Common.{◌≡◌, ℕ, List, ◌+◌, ap, ◌∙◌, refl}
use Rattle.clock.specs.Clocks.{with_entry}
use Rattle.clock.proofs.EntryLemmas.{stamped_back}
use Rattle.line_recorder.proofs.recorder.Recorder.ready_sends.Goals as goal

-- the knowledge is as it was
pub returns-in-Err-clause-err : goal.returns-in-Err-clause-err
returns-in-Err-clause-err c =
    let back : c.stamp-2.new.self ≡ c.self.inside.knowledge = c.stamp-2.ensures.value ∙ ap (λ (x : List ℕ). with_entry x c.instance-own.result c.entry-last.result) c.stamp.ensures.value ∙ stamped_back c.self.inside.knowledge c.instance-own.result (c.len.result + 1) c.entry-last.result c.entry-last.ensures in
    rw (back, c.reserve.ensures.line) c.self.view_is

pub returns-clause-ok : goal.returns-clause-ok
returns-clause-ok c =
    let back : c.stamp-2.new.self ≡ c.self.inside.knowledge = c.stamp-2.ensures.value ∙ ap (λ (x : List ℕ). with_entry x c.instance-own.result c.entry-last.result) c.stamp.ensures.value ∙ stamped_back c.self.inside.knowledge c.instance-own.result (c.len.result + 1) c.entry-last.result c.entry-last.ensures in
    rw (back, c.reserve.ensures.line, ← c.self.view_is, c.max-self-inside.ensures) refl
