-- A post whose recorder has a different room.
use Rattle.std.proofs.Common.{ℕ, List}
use Rattle.line_recorder.specs.Recorders.{RecorderView, with_room}
use Rattle.board_table.specs.Knowing.{Mine}
use Rattle.board.specs.declared.ends.Outgoing.{Outgoing}
use Rattle.board.specs.declared.ends.Incoming.{Incoming}
use Rattle.board.specs.Known.{IsPost}
use Rattle.board.proofs.PostLemmas.{knowledge}

pub post_roomy : (m : Mine) (n k p : ℕ) (r : RecorderView) (region : ℕ) (outgoing : List Outgoing) (incoming : List Incoming) (events : ℕ) → IsPost m n k p (knowledge r region outgoing incoming) → IsPost m n k p (knowledge (with_room r events) region outgoing incoming)
post_roomy m n k p r region outgoing incoming events post =
    let knows = post.knows in
    let recorder = knows.own.recorder in
    record {
      sized = post.sized;
      least = post.least;
      most = post.most;
      rests = post.rests;
      knows = record {
        legal = knows.legal;
        own = record { recorder = record { line = recorder.line; knowledge = recorder.knowledge; receives = recorder.receives; reports = recorder.reports }; region_fits = knows.own.region_fits };
        ends = knows.ends;
      };
      made = post.made;
    }
