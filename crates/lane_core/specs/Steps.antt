-- The steps of the two ends of a lane, in either form (this project's profile). A lane is a closable bounded queue with
-- one sender and one receiver, as between two instances in ITU-T Z.120.

-- a step of one end, for messages of the type M: a step on a word, or a touch of a slot
pub data Step (M : Type 0) : Type 0 where
  Sender_loads : Step M
  -- it puts this message into a slot
  Fills : (message : M) → Step M
  Publishes : Step M
  Closes : Step M
  Receiver_loads : Step M
  Takes : Step M
  Puts_back : Step M
  Frees : Step M
