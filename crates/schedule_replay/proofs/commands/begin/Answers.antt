use Rattle.schedule_replay.proofs.Posts.{agrees_new, agrees_met}
use Rattle.schedule_replay.proofs.commands.begin.Goals as goal

pub meet_them-requires : goal.meet_them-requires
meet_them-requires c =
    let new = c.requires.new in
    record { all = (new.0, (agrees_new new.0 c.args.posts.now c.in_ok-last.last.items new.1 c.in_ok-last.ensures).posts) }

pub returns : goal.returns
returns c board fresh =
    agrees_met board _ c.args.posts.now c.in_ok-last.last.items c.meet_them.new.posts (agrees_new board c.args.posts.now c.in_ok-last.last.items fresh c.in_ok-last.ensures) c.meet_them.ensures.met
