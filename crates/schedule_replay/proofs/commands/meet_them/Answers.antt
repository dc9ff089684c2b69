use Rattle.schedule_replay.proofs.Posts.{none_lacks}
use Rattle.schedule_replay.proofs.commands.meet_them.Goals as goal

pub unreachable-requires : goal.unreachable-requires
unreachable-requires c = none_lacks c.requires.all.0 c.args.posts.now c.requires.all.1 c.in-Err-NotAllPosts.ensures.met.0
