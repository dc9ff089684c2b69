use Rattle.std.proofs.Common.{◌∙◌, sym, arith}
use Rattle.c_board.proofs.Names.{named_same, is_name}
use Rattle.c_board.proofs.sending.message_of.Goals as goal

pub returns-then-body-gt-MAX_BODY : goal.returns-then-body-gt-MAX_BODY
returns-then-body-gt-MAX_BODY c = (is_name _ _ (sym c.new.ensures ∙ c.in-Ok.is), omega arith)

pub returns-in-Err-copied : goal.returns-in-Err-copied
returns-in-Err-copied c = (
  record {
    is_name = is_name _ _ (sym c.new.ensures ∙ c.in-Ok.is);
    short = omega arith;
  },
  c.in-Err-copied.ensures.refused,
)

pub returns : goal.returns
returns c =
    let same = named_same _ _ (sym c.new.ensures ∙ c.in-Ok.is) in (
      rw (sym same, sym c.in-Ok-copied.ensures.copy) c.in-Ok-new.ensures.ok,
      record {
        is_name = is_name _ _ (sym c.new.ensures ∙ c.in-Ok.is);
        short = omega arith;
      },
    )
