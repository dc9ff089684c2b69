use Rattle.std.proofs.Common.{rules, [], ◌∷◌, refl, sym, subst, arith}
use Rattle.atomic_table.specs.Table.{Splits}
use Rattle.board_table.specs.Knowing.{held, first_of, note_of}
use Rattle.board_table.specs.Rule.{Kept}
use Rattle.board_table.specs.Plays.{IsNote}
use Rattle.board_table.proofs.Places.{words_some}
use Rattle.board_table.proofs.Views.{copies}
use Rattle.board_table.proofs.meeting.note.Goals as goal

pub split_seat-requires : goal.split_seat-requires
split_seat-requires c =
    let e = held c.args.seat.now.me in let board = c.requires.board in let n = c.args.words.now.key.instances in let k = c.args.words.now.key.capacity in (
      search rules,
      (let some = words_some e.instances (omega (arith, c.requires.number)) in omega (arith, some, board.words)),
      subst (λ v. Splits (Kept n k) c.args.seat.now.id v v (note_of (first_of v) ∷ [])) (sym c.requires.post.alone) (copies n k c.args.seat.now.id e (sym board.instances) (sym board.capacity)),
    )

pub returns-clause-note : goal.returns-clause-note
returns-clause-note c =
    let e = held c.args.seat.now.me in
    subst (λ m. IsNote e.instances e.capacity m) (sym c.split_seat.ensures.4) (record { post = record { alone = refl; instances = refl; capacity = refl; number = refl }; made = refl; rests = refl; slots = refl })
