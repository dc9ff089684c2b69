use Rattle.std.proofs.Common.{◌∙◌, sym, subst, arith, le_refl, map}
use Rattle.std.specs.Prelude.{is_some}
use Rattle.log_chart.specs.Cycles.Searching.{AreBefore, IsPast}
use Rattle.race_verdicts.specs.Luck.Marking.{HaveMarked}
use Rattle.race_verdicts.proofs.LuckLemmas.LineLemmas.{there}
use Rattle.race_verdicts.proofs.LuckLemmas.MarkLemmas.{passed_none, passed_other, passed_send, passed_all, before_send, one_send_line}
use Rattle.race_verdicts.proofs.luck.marks.firsts_of.Goals as goal
use Rattle.race_verdicts.proofs.luck.marks.firsts_of.Goals.{then-is_send_of+in_ok-pass, else-is_send_of}

pub loop-line-init : goal.loop-line-init
loop-line-init c = passed_none c.args.lines.now c.args.sources.now.above.items c.args.sources.now.sends.items c.args.host _ _ c.in_ok-found.ensures.marks c.in_ok-found.ensures.stack

pub pass-requires-clause-within : goal.pass-requires-clause-within
pass-requires-clause-within c = λ a b d. let inside = c.requires.sources.within a b d in omega (arith, inside, c.loop-line.invariant.whole)

pub pass-requires-clause-before : goal.pass-requires-clause-before
pass-requires-clause-before c =
    let lines = c.args.lines.now in
    let i = c.loop-line.line-index in
    let x = c.line-item.result in
    let is = there lines i x c.loop-line-test.true c.line-item.is in
    let send = one_send_line lines c.requires.log c.args.host i x is (sym c.is_send_of.ensures ∙ c.if-is_send_of.true) in
    subst (AreBefore c.args.sources.now.above.items c.args.sources.now.sends.items (map is_some c.loop-line.found.marks)) (sym (c.requires.log.numbered i x is))
    (before_send lines c.requires.log c.args.sources.now.above.items c.args.sources.now.sends.items c.requires.sources c.args.host i c.loop-line.found.marks c.loop-line.found.stack.items
    c.loop-line.invariant i (le_refl i) send)

pub loop-line-preserved : goal.loop-line-preserved
loop-line-preserved c =
    let lines = c.args.lines.now in
    let tops = c.args.sources.now.above.items in
    let sends = c.args.sources.now.sends.items in
    let i = c.loop-line.line-index in
    let x = c.line-item.result in
    let old = c.loop-line.found in
    let is = there lines i x c.loop-line-test.true c.line-item.is in
    let number = c.requires.log.numbered i x is in
    elim c.if-is_send_of.branch [
      | then-is_send_of+in_ok-pass w ↦
          rw w.found-is
          (passed_send lines c.requires.log tops sends c.requires.sources c.args.host i old.marks old.stack.items c.loop-line.invariant x w.pass.new.self.marks w.pass.new.self.stack.items is
          (one_send_line lines c.requires.log c.args.host i x is (sym c.is_send_of.ensures ∙ w.if-is_send_of.true)) w.in_ok-pass.ensures.stack
          (subst (λ n. IsPast tops sends n (map is_some w.pass.new.self.marks)) number w.in_ok-pass.ensures.past)
          (subst (λ n. HaveMarked n old.marks w.pass.new.self.marks) number w.in_ok-pass.ensures.marked))
      | else-is_send_of w ↦
          rw w.found-is
          (passed_other lines c.requires.log tops sends c.requires.sources c.args.host i old.marks old.stack.items c.loop-line.invariant x is (sym c.is_send_of.ensures ∙ w.if-is_send_of.false))
    ]

pub returns : goal.returns
returns c = passed_all c.args.lines.now c.requires.log c.args.sources.now.above.items c.args.sources.now.sends.items c.requires.sources c.args.host c.loop-line.line-index _ _ c.loop-line.invariant c.loop-line-test.false
