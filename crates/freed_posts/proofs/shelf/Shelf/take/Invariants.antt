use Rattle.freed_posts.proofs.shelf.Shelf.take.Given as goal

abbrev pub ghosts-take_out : goal.ghosts-take_out
ghosts-take_out a = record { key = a.places.now.key.key; board = a.places.now.key.table_id }
