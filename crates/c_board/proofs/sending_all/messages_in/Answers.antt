use Rattle.std.proofs.Common.{◌+◌, ◌≤◌, ◌∷◌, [], ℕ, List, length, sym, ap, subst, arith, rules, length-append}
use Rattle.std.proofs.lemmas.Option.{slice_get-get_or}
use Rattle.c_board.specs.SendingAll.{AreMessages}
use Rattle.c_board.proofs.WordLemmas.{start_more}
use Rattle.c_board.proofs.MessageLemmas.{next_content, content_is, are_more, all_contents}
use Rattle.c_board.proofs.sending_all.messages_in.Goals as goal

pub loop-its-preserved : goal.loop-its-preserved
loop-its-preserved c =
    let its = c.loop-its.invariant in
    let bytes = c.args.bytes.now in
    let name = c.word_at-name.result.now in
    let body = c.word_at-body.result.now in
    let start = c.loop-its.start in
    let after : start + length name ≤ length bytes = subst (λ (w : List ℕ). start + length w ≤ length bytes) (sym c.word_at-name.ensures) (start_more bytes start _ its.within) in
    record {
      splits = content_is _ c.loop-its.messages.items c.push_reserved.new.self.items _ c.in_ok-message_of.field-0 _
          (next_content bytes c.args.lengths.now c.loop-its.messages.items name body _ start c.loop-its.its-index its.splits (slice_get-get_or c.args.lengths.now c.loop-its.its-index _ c.loop-its-test.true) c.word_at-name.ensures c.word_at-body.ensures)
          c.in_ok-message_of.ensures.0 c.push_reserved.ensures.items;
      within = subst (λ (w : List ℕ). start + length name + length w ≤ length bytes) (sym c.word_at-body.ensures) (start_more bytes (start + length name) _ after);
      are = are_more c.loop-its.messages.items c.push_reserved.new.self.items c.in_ok-message_of.field-0 name body its.are c.in_ok-message_of.ensures.1 c.in_ok-message_of.ensures.0 c.push_reserved.ensures.items;
      count = omega (arith, ap length c.push_reserved.ensures.items, length-append c.loop-its.messages.items (c.in_ok-message_of.field-0 ∷ []), its.count);
      room = search rules;
    }

pub returns : goal.returns
returns c =
    let its = c.loop-its.invariant in
    let whole = all_contents c.args.bytes.now c.args.lengths.now c.loop-its.messages.items c.loop-its.start c.loop-its.its-index c.loop-its-test.false its.splits in
    (sym whole, subst AreMessages (sym whole) its.are)
