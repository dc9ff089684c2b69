use Rattle.std.proofs.Common.{◌≡◌, ℕ, List, ◌+◌, sym, ap, ◌∙◌, subst}
use Rattle.clock.specs.Clocks.{with_entry}
use Rattle.clock.specs.Diffs.{AgreeBut}
use Rattle.clock.proofs.EntryLemmas.{stamped_back, agree_stamped}
use Rattle.line_recorder.specs.Recorders.{RecorderView}
use Rattle.line_recorder.proofs.recorder.Recorder.begin_send.Goals as goal

pub returns-in-Err-clause-err : goal.returns-in-Err-clause-err
returns-in-Err-clause-err c =
    let back : c.set_back.new.knowledge ≡ c.self.inside.knowledge = c.set_back.ensures.value ∙ ap (λ (x : List ℕ). with_entry x c.instance-own.result c.entry-before.result) c.stamp.ensures.value ∙ stamped_back c.self.inside.knowledge c.instance-own.result (c.len.result + 1) c.entry-before.result c.entry-before.ensures in
    rw (back, c.reserve.ensures.line) c.self.view_is

-- the stamp leaves the entries that agree with the base
pub returns-in-Err-clause-alone : goal.returns-in-Err-clause-alone
returns-in-Err-clause-alone c = λ room agree.
    let own = c.instance-own.result in
    let stamped : AgreeBut own c.args.base.now (with_entry c.self.inside.knowledge own (c.len.result + 1)) = agree_stamped c.args.base.now c.self.inside.knowledge own (c.len.result + 1) (rw (c.instance-own.ensures, c.reserve.ensures.line) (subst (λ (r : RecorderView). AgreeBut r.line.instance c.args.base.now r.knowledge) (sym c.self.view_is) agree)) in
    c.in-Err.ensures.alone own (rw c.stamp.ensures.value stamped)
