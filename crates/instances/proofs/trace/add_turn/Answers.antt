use Rattle.std.proofs.Common.{◌≡◌, ◌-◌, suc, sym, ap, ◌∙◌, subst, arith}
use Rattle.std.specs.Global.{Vec}
use Rattle.instances.specs.declared.trace.Stretch.{Stretch}
use Rattle.instances.specs.declared.turn.Turn.{Turn}
use Rattle.std.proofs.lemmas.List.{set-get_or}
use Rattle.instances.proofs.Stretches.{turns_of-push, turns_of-longer, longer}
use Rattle.instances.specs.Traces.{turns_of}
use Rattle.std.specs.Prelude.{slice_set, slice_index_or, vec_len, length, ◌++◌, ◌∷◌, []}
use Rattle.instances.proofs.trace.add_turn.Goals as goal
use Rattle.instances.proofs.trace.add_turn.Goals.{in-Some+else-is, else-is-via-then-is+else-last-lt4294967295, else-is-via-else-is, in_default}

pub returns-then-last-lt4294967295 : goal.returns-then-last-lt4294967295
returns-then-last-lt4294967295 c =
    let all = c.args.stretches.now.items in
    let k = vec_len c.args.stretches.now - 1 in
    let last = c.in-Some.last.now in
    let count : suc k ≡ length all = omega (arith, c.in-Some.ensures.item.3.0, c.args.stretches.now.ok) in
    let read = c.in-Some.ensures.value in
    subst (λ s. turns_of (slice_set all k (longer s)) ≡ turns_of all ++ s.turn ∷ []) (sym read)
    (turns_of-longer all k last count)
    ∙ ap (λ t. turns_of all ++ t ∷ []) (c.is.ensures.0 c.if-is.true)

pub returns : goal.returns
returns c =
    let turn : Turn = record { act = c.args.act; answer = c.args.answer } in
    let all = c.args.stretches.now.items in
    let k = vec_len c.args.stretches.now - 1 in
    let items = λ (stretches : Vec Stretch). stretches.items in
    let untouched = λ (last : Stretch) (read : last ≡ slice_index_or all k last). ap (λ s. slice_set all k s) read
    ∙ set-get_or all k last in
    let same : c.match-last_mut.stretches.items ≡ all = elim c.match-last_mut.branch [
      | in-Some+else-is w ↦ ap items w.stretches-is ∙ elim w.else-is.branch [
        | else-is-via-then-is+else-last-lt4294967295 w' ↦ ap items w'.stretches-is
            ∙ untouched w.in-Some.last.now w.in-Some.ensures.value
        | else-is-via-else-is w' ↦ ap items w'.stretches-is ∙ untouched w.in-Some.last.now w.in-Some.ensures.value
      ]
      | in_default w ↦ ap items w.stretches-is
    ] in
    ap turns_of c.push_reserved.ensures.items
    ∙ turns_of-push c.match-last_mut.stretches.items (record { turn = turn; count = 1 })
    ∙ ap (λ stretches. turns_of stretches ++ turn ∷ []) same
