use Rattle.std.proofs.Common.{◌≡◌, []}
use Rattle.freed_posts.specs.Shelves.{AreFirst}
use Rattle.freed_posts.specs.Knowing.{unissued}
use Rattle.freed_posts.proofs.issuing.issue_all.Given as goal

abbrev pub invariant-loop-place : goal.invariant-loop-place
invariant-loop-place l = record {
  issued : AreFirst l.place l.places.table_id l.tickets.items;
  seated : l.seat.table_id ≡ l.places.table_id;
  left : l.seat.me ≡ (unissued l.place l.instances [], []);
}
