use Rattle.std.proofs.Common.{sym, subst, arith, ◌≤◌, length}
use Rattle.mscview_requests.specs.Given.{AreAnswered}
use Rattle.mscview_requests.proofs.GivenLemmas.{several}
use Rattle.mscview_requests.proofs.recorded.texts_in.Goals as goal

pub returns-then-files-gt1 : goal.returns-then-files-gt1
returns-then-files-gt1 g c =
    let many : 2 ≤ length c.args.files.now = omega (arith, c.if-files-gt1.true) in
    subst (λ fs. AreAnswered (g.G.Giver.gives c.args.giver.now) fs c.all_in.result) (sym (several (λ w. w.now) c.args.files.now many)) c.all_in.ensures
