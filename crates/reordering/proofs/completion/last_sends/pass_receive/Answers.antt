use Rattle.std.proofs.Common.{◌≡◌, suc, ◌<◌, ◌∙◌, sym, subst, arith, add-one}
use Rattle.std.proofs.lemmas.Bool.{false≢true}
use Rattle.reordering.specs.Completion.Tables.{IsRunEnd, IsFrom, HasOneSender, HasPassed}
use Rattle.reordering.proofs.CompletionLemmas.TableLemmas.{bare_passed, mixed_passed, run_passed}
use Rattle.reordering.proofs.completion.last_sends.pass_receive.Goals as goal

pub overflow_add-index : goal.overflow_add-index
overflow_add-index c = let short = c.requires.line.short in omega arith

pub returns-then-end-index-clause-passed : goal.returns-then-end-index-clause-passed
returns-then-end-index-clause-passed c =
    let events = c.args.line.now.line.events in
    let at_end : c.run_end-end.result ≡ suc c.args.place = c.if-end-index.true ∙ add-one c.args.place in
    let run : IsRunEnd events (suc c.args.place) c.run_end-end.result = subst (λ x. IsRunEnd events x c.run_end-end.result) (add-one c.args.place) c.run_end-end.ensures in
    bare_passed events c.requires.line.regions c.args.place c.args.passed.now.all c.args.passed.now.by_sender (subst (λ x. IsRunEnd events (suc c.args.place) x) at_end run) c.requires.passed

pub returns-then-not-has_one_sender-clause-passed : goal.returns-then-not-has_one_sender-clause-passed
returns-then-not-has_one_sender-clause-passed c =
    let events = c.args.line.now.line.events in
    let place = c.args.place in
    let end = c.run_end-end.result in
    let run : IsRunEnd events (suc place) end = subst (λ x. IsRunEnd events x end) (add-one place) c.run_end-end.ensures in
    let from = c.requires.receive in
    let least = run.least in
    let less : suc place < end = omega (arith, c.if-end-index.false) in
    let h = c.if-not-has_one_sender.true in
    mixed_passed events c.requires.line.regions place c.args.passed.now.all end c.args.passed.now.by_sender run less (c.args.from, from.0, from.1, from.2)
    (λ one. let is = c.has_one_sender.ensures.1 (subst (λ x. HasOneSender events x) (sym (add-one place)) one) in false≢true (sym h ∙ is)) c.requires.passed

pub returns-clause-passed : goal.returns-clause-passed
returns-clause-passed c =
    let events = c.args.line.now.line.events in
    let place = c.args.place in
    let end = c.run_end-end.result in
    let p = c.place.result in
    let from : IsFrom events (suc p) (suc place) = subst (λ x. IsFrom events x (suc place)) c.place.ensures.value c.requires.receive in
    let run : IsRunEnd events (suc place) end = subst (λ x. IsRunEnd events x end) (add-one place) c.run_end-end.ensures in
    let least = run.least in
    let less : suc place < end = omega (arith, c.if-end-index.false) in
    let h = c.if-not-has_one_sender.false in
    let one : HasOneSender events (suc place) = subst (λ x. HasOneSender events x) (add-one place) (c.has_one_sender.ensures.0 h) in
    subst (λ xs. HasPassed events (suc place) end xs) (sym c.set.ensures)
    (run_passed events c.requires.line.regions place c.args.passed.now.all end p c.args.passed.now.by_sender run less from (omega (arith, c.requires.sender, c.place.ensures.value)) one c.requires.passed)
