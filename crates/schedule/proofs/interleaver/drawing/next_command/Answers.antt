use Rattle.std.proofs.Common.{◌≡◌, ◌%◌, ◌<◌, length, true, false, sym, ap, ◌∙◌, arith}
use Rattle.std.proofs.lemmas.Bool.{eqb-true, eqb-false, not-true, not-false}
use Rattle.std.proofs.lemmas.List.{get_or-set_same}
use Rattle.schedule.specs.Interleaver.Interleavings.{are_some}
use Rattle.schedule.proofs.InterleaverLemmas.Draw.{nothing_left, draws, changed_at-none, changed_at-some, remove-set}
use Rattle.schedule.proofs.interleaver.drawing.next_command.Goals as goal

pub returns-then-is_empty : goal.returns-then-is_empty
returns-then-is_empty c n left of are =
    let queues = c.args.queues.now in
    let none = eqb-true queues.len 0 (sym c.is_empty.ensures ∙ c.if-is_empty.true) in
    let size : length queues.items ≡ 0 = omega (arith, none, queues.ok.0) in
    nothing_left n left of (sym (ap length are) ∙ size)

pub returns-then-is_empty-2 : goal.returns-then-is_empty-2
returns-then-is_empty-2 c n left of are =
    let queues = c.args.queues.now in
    let place = c.next_word.result % c.len.result in
    let many = eqb-false queues.len 0 (sym c.is_empty.ensures ∙ c.if-is_empty.false) in
    let size : c.len.result ≡ length queues.items = omega (arith, c.len.ensures, queues.ok.0) in
    let within : place < length queues.items = omega arith in
    let rest = c.pop-command.new.self in
    let same : c.index.result.now ≡ rest = c.index.ensures ∙ get_or-set_same queues.items place rest c.index.result.now within in
    let none : are_some rest ≡ false = ap are_some (sym same) ∙ not-true (are_some c.index.result.now) (sym c.is_empty-2.ensures ∙ c.if-is_empty-2.true) in
    draws n left c.args.generator.now c.next_word.new.self c.next_word.result place queues.items c.remove.new.self.items c.index_mut.result.now rest c.pop-command.result
    of are c.next_word.ensures (ap (λ m. c.next_word.result % m) size) (omega arith) c.index_mut.ensures.value c.pop-command.ensures.next c.pop-command.ensures.rest
    (c.remove.ensures.items ∙ remove-set queues.items place rest ∙ sym (changed_at-none queues.items place rest none))

pub returns-else-is_empty-2 : goal.returns-else-is_empty-2
returns-else-is_empty-2 c n left of are =
    let queues = c.args.queues.now in
    let place = c.next_word.result % c.len.result in
    let many = eqb-false queues.len 0 (sym c.is_empty.ensures ∙ c.if-is_empty.false) in
    let size : c.len.result ≡ length queues.items = omega (arith, c.len.ensures, queues.ok.0) in
    let within : place < length queues.items = omega arith in
    let rest = c.pop-command.new.self in
    let same : c.index.result.now ≡ rest = c.index.ensures ∙ get_or-set_same queues.items place rest c.index.result.now within in
    let some : are_some rest ≡ true = ap are_some (sym same) ∙ not-false (are_some c.index.result.now) (sym c.is_empty-2.ensures ∙ c.if-is_empty-2.false) in
    draws n left c.args.generator.now c.next_word.new.self c.next_word.result place queues.items _ c.index_mut.result.now rest c.pop-command.result
    of are c.next_word.ensures (ap (λ m. c.next_word.result % m) size) (omega arith) c.index_mut.ensures.value c.pop-command.ensures.next c.pop-command.ensures.rest
    (sym (changed_at-some queues.items place rest some))
