use Rattle.std.proofs.Common.{rules, ◌≡◌, [], ◌∷◌, refl, sym, ap, ◌∙◌, subst, arith}
use Rattle.atomic_table.specs.Table.{Allows, Splits, Joins}
use Rattle.board_table.specs.declared.held.Held.{Held}
use Rattle.board_table.specs.Knowing.{Mine, IsPost, held, first_of, later_of, met, longer}
use Rattle.board_table.specs.Rule.{Kept}
use Rattle.board_table.specs.Plays.{IsNote, Meets, MeetsBeside}
use Rattle.board_table.proofs.Places.{words_some}
use Rattle.board_table.proofs.Views.{joins, meets, parts}
use Rattle.board_table.proofs.meeting.meet_note.Goals as goal

pub join_seat-requires : goal.join_seat-requires
join_seat-requires c =
    let e = held c.args.seat.now.me in let note = held c.args.note.me in let board = c.requires.board in let n = c.args.words.now.key.instances in let k = c.args.words.now.key.capacity in
    let id = c.args.seat.now.id in let other = c.args.note.id in (
      search rules,
      search rules,
      search rules,
      (let some = words_some e.instances (omega (arith, c.requires.number)) in omega (arith, some, board.words)),
      subst (λ v. Joins (Kept n k) id v other c.args.note.me.0 (first_of v ∷ first_of c.args.note.me.0 ∷ []) []) (sym c.requires.post.alone)
          (subst (λ w. Joins (Kept n k) id (e ∷ []) other w (e ∷ first_of w ∷ []) []) (sym c.requires.note.post.alone)
          (joins n k id e other note (omega (arith, c.requires.note.post.number, board.instances)) c.requires.note.made)),
    )

pub load-requires : goal.load-requires
load-requires c =
    let e = held c.args.seat.now.me in let note = held c.args.note.me in let board = c.requires.board in let n = c.args.words.now.key.instances in let k = c.args.words.now.key.capacity in
    let joined = c.join_seat.ensures in let slots = c.args.words.now.table_id.slots in (
      search rules,
      (let some = words_some e.instances (omega (arith, c.requires.number)) in omega (arith, some, board.words)),
      subst (λ m. Allows (Kept n k) slots c.join_seat.new.seat.id m 0 (λ x. x) (λ x w. MeetsBeside m w)) (sym joined.2)
          (meets n k slots c.join_seat.new.seat.id 0 e note c.args.seat.now.me.1 (sym board.instances) (sym board.capacity) (omega (arith, c.requires.note.post.number, board.instances)) c.requires.note.made),
    )

pub split_seat-requires : goal.split_seat-requires
split_seat-requires c =
    let e = held c.args.seat.now.me in let note = held c.args.note.me in let board = c.requires.board in let n = c.args.words.now.key.instances in let k = c.args.words.now.key.capacity in
    let stated : MeetsBeside (e ∷ note ∷ [], c.args.seat.now.me.1) c.load.new.seat.me = subst (λ m. MeetsBeside m c.load.new.seat.me) c.join_seat.ensures.2 c.load.ensures.2 in
    let g : Held = record note { seen = longer e.seen note.seen } in (
      search rules,
      (let some = words_some e.instances (omega (arith, c.requires.number)) in omega (arith, some, board.words)),
      subst (λ v. Splits (Kept n k) c.load.new.seat.id v (first_of v ∷ []) (later_of v)) (sym (ap (λ (m : Mine). m.0) stated.1))
          (parts n k c.load.new.seat.id (met e note) g (omega (arith, c.requires.note.post.number, board.instances)) c.requires.note.made),
    )

-- the post and the note at the end
stated : (c : goal.After-split_seat) → MeetsBeside (held c.args.seat.now.me ∷ held c.args.note.me ∷ [], c.args.seat.now.me.1) c.load.new.seat.me
stated c = subst (λ m. MeetsBeside m c.load.new.seat.me) c.join_seat.ensures.2 c.load.ensures.2

post : (c : goal.After-split_seat) → ◌≡◌ {A = Mine} c.split_seat.new.seat.me (met (held c.args.seat.now.me) (held c.args.note.me) ∷ [], c.args.seat.now.me.1)
post c = c.split_seat.ensures.2 ∙ ap (λ (m : Mine). (first_of m.0 ∷ [], m.1)) (stated c).1

left : (c : goal.After-split_seat) → let note = held c.args.note.me in ◌≡◌ {A = Mine} c.split_seat.result.me (record note { seen = longer (held c.args.seat.now.me).seen note.seen } ∷ [], [])
left c = c.split_seat.ensures.4 ∙ ap (λ (m : Mine). (later_of m.0, [])) (stated c).1

pub returns-clause-post : goal.returns-clause-post
returns-clause-post c = let e = held c.args.seat.now.me in subst (λ m. IsPost e.instances e.capacity e.number m) (sym (post c)) (record { alone = refl; instances = refl; capacity = refl; number = refl })

pub returns-clause-slots : goal.returns-clause-slots
returns-clause-slots c = ap (λ (m : Mine). m.1) (post c)

pub returns-clause-meets : goal.returns-clause-meets
returns-clause-meets c = let e = held c.args.seat.now.me in subst (λ m. Meets e.instances e.capacity e (held c.args.note.me) (held m)) (sym (post c)) (stated c).0

pub returns-clause-note : goal.returns-clause-note
returns-clause-note c = let e = held c.args.seat.now.me in let its = c.requires.note in subst (λ m. IsNote e.instances e.capacity m) (sym (left c)) (record { post = record { alone = refl; instances = its.post.instances; capacity = its.post.capacity; number = its.post.number }; made = its.made; rests = its.rests; slots = refl })

pub returns-clause-seen : goal.returns-clause-seen
returns-clause-seen c = ap (λ (m : Mine). (held m).seen) (left c) ∙ sym (ap (λ (m : Mine). (held m).seen) (post c))
