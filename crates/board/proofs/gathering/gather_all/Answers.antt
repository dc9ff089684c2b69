use Rattle.std.proofs.Common.{◌≡◌, ◌<◌, ◌++◌, ◌∷◌, [], ℕ, List, length, map, take, drop, get_or, refl, sym, ap, ◌∙◌, subst, arith}
use Rattle.chart.specs.Charts.{IsNumbered, HasPartners}
use Rattle.chart.proofs.HistoryLines.{lines-numbered, lines-partnered, length-history_lines}
use Rattle.board.specs.declared.gathering.Gathered.{Gathered}
use Rattle.board.specs.Views.{PostView}
use Rattle.board.specs.Gathering.{left_on, IsGathered}
use Rattle.board.proofs.WholeBoards.{some_posts, going, its_reports, its_own_events, its_rooms, its_lanes, its_closed, its_ready, all_reports}
use Rattle.board.proofs.gathering.gather_all.Goals as goal

-- an element that is there needs no default
same_default : (posts : List PostView) (x y : PostView) → 0 < length posts → get_or posts 0 x ≡ get_or posts 0 y
same_default [] x y some = absurd (omega (arith, some))
same_default (z ∷ posts) x y some = refl

pub part_all-requires-clause-seen : goal.part_all-requires-clause-seen
part_all-requires-clause-seen c =
    let n = c.board_size-instances.result in
    let x = c.index.result.now in
    let posts = c.args.posts.items in
    let it = c.args.provision in
    let went = going posts c.deref_mut.result.now c.meet.new.posts c.args.posts.len x n c.requires.all c.requires.board c.index.ensures c.deref_mut.ensures.value c.deref_mut.ensures.len c.meet.ensures.met c.board_size-instances.ensures.value c.board_size-instances.ensures.sized.0 in
    let h = went.0 in
    let g = went.1 in
    let rest = take c.args.posts.len (c.meet.new.posts ++ drop (length c.meet.new.posts) posts) in
    (x.board.capacity, x.board.table, h, g.seen, its_own_events posts rest n x.board.capacity x.board.table h g it c.requires.provision)

pub take_lanes-requires-clause-ready : goal.take_lanes-requires-clause-ready
take_lanes-requires-clause-ready c =
    let n = c.board_size-instances.result in
    let x = c.index.result.now in
    let posts = c.args.posts.items in
    let it = c.args.provision in
    let went = going posts c.deref_mut.result.now c.meet.new.posts c.args.posts.len x n c.requires.all c.requires.board c.index.ensures c.deref_mut.ensures.value c.deref_mut.ensures.len c.meet.ensures.met c.board_size-instances.ensures.value c.board_size-instances.ensures.sized.0 in
    let h = went.0 in
    let g = went.1 in
    let rest = take c.args.posts.len (c.meet.new.posts ++ drop (length c.meet.new.posts) posts) in
    let parted = c.part_all.ensures x.board.capacity x.board.table h g.seen in
    let words = c.words-words.result.now.table_id in
    let table : words ≡ x.board.table = c.words-words.ensures ∙ ap (λ (post : PostView). post.board.table) (c.index-2.ensures ∙ same_default posts c.index-2.result.now x (some_posts posts c.requires.all) ∙ sym c.index.ensures) in
    let ready = its_ready posts rest n x.board.capacity x.board.table h g it c.requires.provision c.part_all.new.lines.items c.part_all.new.leavers.items c.deref_mut-2.result.now words parted c.deref_mut-2.ensures.value table in
    let rooms = its_rooms posts rest n x.board.capacity x.board.table h g it c.requires.provision in
    (n, x.board.capacity, h, ready, rooms.each h g.joint)

pub whole_chart-requires-clause-numbered : goal.whole_chart-requires-clause-numbered
whole_chart-requires-clause-numbered c =
    let n = c.board_size-instances.result in
    let x = c.index.result.now in
    let posts = c.args.posts.items in
    let it = c.args.provision in
    let went = going posts c.deref_mut.result.now c.meet.new.posts c.args.posts.len x n c.requires.all c.requires.board c.index.ensures c.deref_mut.ensures.value c.deref_mut.ensures.len c.meet.ensures.met c.board_size-instances.ensures.value c.board_size-instances.ensures.sized.0 in
    let h = went.0 in
    let g = went.1 in
    let parted = c.part_all.ensures x.board.capacity x.board.table h g.seen in
    subst IsNumbered (sym parted.lined) (lines-numbered n h)

pub whole_chart-requires-clause-several : goal.whole_chart-requires-clause-several
whole_chart-requires-clause-several c =
    let n = c.board_size-instances.result in
    let x = c.index.result.now in
    let posts = c.args.posts.items in
    let it = c.args.provision in
    let went = going posts c.deref_mut.result.now c.meet.new.posts c.args.posts.len x n c.requires.all c.requires.board c.index.ensures c.deref_mut.ensures.value c.deref_mut.ensures.len c.meet.ensures.met c.board_size-instances.ensures.value c.board_size-instances.ensures.sized.0 in
    let h = went.0 in
    let g = went.1 in
    let parted = c.part_all.ensures x.board.capacity x.board.table h g.seen in
    let long : length c.part_all.new.lines.items ≡ n = ap length parted.lined ∙ length-history_lines n h in
    let sized = c.board_size-instances.ensures.sized in
    (omega (arith, long, sized.0), omega (arith, long, sized.1))

pub whole_chart-requires-clause-partners : goal.whole_chart-requires-clause-partners
whole_chart-requires-clause-partners c =
    let n = c.board_size-instances.result in
    let x = c.index.result.now in
    let posts = c.args.posts.items in
    let it = c.args.provision in
    let went = going posts c.deref_mut.result.now c.meet.new.posts c.args.posts.len x n c.requires.all c.requires.board c.index.ensures c.deref_mut.ensures.value c.deref_mut.ensures.len c.meet.ensures.met c.board_size-instances.ensures.value c.board_size-instances.ensures.sized.0 in
    let h = went.0 in
    let g = went.1 in
    let parted = c.part_all.ensures x.board.capacity x.board.table h g.seen in
    let long : length c.part_all.new.lines.items ≡ n = ap length parted.lined ∙ length-history_lines n h in
    subst (λ (m : ℕ). HasPartners m c.part_all.new.lines.items) (sym long) (subst (HasPartners n) (sym parted.lined) (lines-partnered n x.board.capacity h g.legal))

pub returns : goal.returns
returns c =
    let n = c.board_size-instances.result in
    let x = c.index.result.now in
    let posts = c.args.posts.items in
    let it = c.args.provision in
    let went = going posts c.deref_mut.result.now c.meet.new.posts c.args.posts.len x n c.requires.all c.requires.board c.index.ensures c.deref_mut.ensures.value c.deref_mut.ensures.len c.meet.ensures.met c.board_size-instances.ensures.value c.board_size-instances.ensures.sized.0 in
    let h = went.0 in
    let g = went.1 in
    let rest = take c.args.posts.len (c.meet.new.posts ++ drop (length c.meet.new.posts) posts) in
    let parted = c.part_all.ensures x.board.capacity x.board.table h g.seen in
    let words = c.words-words.result.now.table_id in
    let table : words ≡ x.board.table = c.words-words.ensures ∙ ap (λ (post : PostView). post.board.table) (c.index-2.ensures ∙ same_default posts c.index-2.result.now x (some_posts posts c.requires.all) ∙ sym c.index.ensures) in
    let ready = its_ready posts rest n x.board.capacity x.board.table h g it c.requires.provision c.part_all.new.lines.items c.part_all.new.leavers.items c.deref_mut-2.result.now words parted c.deref_mut-2.ensures.value table in
    let rooms = its_rooms posts rest n x.board.capacity x.board.table h g it c.requires.provision in
    let result : Gathered = record { chart = c.whole_chart.result; reports = it.reports; left = c.take_lanes.new.left; closed = it.closed } in
    record {
      all = c.requires.all;
      history = h;
      joint = g.joint;
      gathered = subst (λ (m : ℕ). IsGathered m h result) g.size (record {
        chart = c.whole_chart.ensures ∙ parted.lined;
        reports = all_reports n x.board.capacity h it.reports.items g.legal (its_reports posts rest n x.board.capacity x.board.table h g it c.requires.provision);
        left = c.take_lanes.ensures n x.board.capacity h ready (rooms.each h g.joint) ∙ ap (map (left_on h)) (its_lanes posts rest n x.board.capacity x.board.table h g it c.requires.provision);
        closed = its_closed posts rest n x.board.capacity x.board.table h g it c.requires.provision;
      });
    }
