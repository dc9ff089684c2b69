-- Runs of whole boards (this project's profile).
use Rattle.std.specs.Prelude.{◌≡◌, ◌≢◌, ℕ, ◌<◌, ◌≤◌, ◌⊎◌, List, length, slice_index_or}
use Rattle.board.specs.Gathering.{IsWhole, size_of}
use Rattle.board.specs.Meeting.{AreAll, AreNotAll}
use Rattle.board.specs.Views.{PostView}
use Rattle.instances.specs.declared.end.End.{End}
use Rattle.instances.specs.declared.outcome.Run.{Run}
use Rattle.instances.specs.declared.outcome.RunError.{RunError}
use Rattle.instances.specs.declared.outcome.RunError.TheVariants.{InvalidInput, Memory}
use Rattle.instances.specs.declared.threads.TheConstants.{MAX_TURNS}
use Rattle.instances.specs.declared.turn.Turn.{Turn}
use Rattle.instances.specs.Driving.{Meaning, IsRunOfPost}

-- these posts are all of their board, there is one behaviour for each, and a run may have this many turns
pub record IsFit (posts : List PostView) (behaviours turns : ℕ) : Type 0 where
  pub all : AreAll posts
  pub one_of_each : behaviours ≡ length posts
  pub some : (1 ≤ turns) × (turns ≤ MAX_TURNS)

-- one of these conditions fails
abbrev pub IsInvalidInput : List PostView → ℕ → ℕ → Type 0
IsInvalidInput posts behaviours turns = AreNotAll posts ⊎ ((behaviours ≢ length posts) ⊎ ((turns ≡ 0) ⊎ (MAX_TURNS < turns)))

-- how the post at a place is driven: from this post, with a trace and an end, to the post at the end
abbrev pub Drives : Type 1
Drives = ℕ → PostView → List Turn → End → PostView → Type 0

-- The behaviour at the same place in the list drives the post, for at most this many turns. `means` is each behaviour's
-- meaning, and `state` its first state.
abbrev pub DrivenBy : {B : Type 0} {S : B → Type 0} → ((b : B) → Meaning (S b)) → ((b : B) → S b) → ℕ → List B → Drives
DrivenBy means state turns behaviours = λ k old trace end new. (b : _) → IsRunOfPost
    (means (slice_index_or behaviours k b)) turns (state (slice_index_or behaviours k b)) old trace end new

-- Each post was driven in this way to the post in `left`, with its trace and its end. The result is that of gathering
-- the posts in `left`, all of one board, and its chart has a line for each instance.
pub record AreRuns (does : Drives) (posts : List PostView) (run : Run) : Type 0 where
  pub left : List PostView
  pub as_many : (length left ≡ length posts) × (length run.traces.items ≡ length posts)
      × (length run.ends.items ≡ length posts)
  pub each : (k : ℕ) (p : PostView) (t : List Turn) (e : End) (q : PostView) → k < length posts
      → does k (slice_index_or posts k p) (slice_index_or run.traces.items k t) (slice_index_or run.ends.items k e)
      (slice_index_or left k q)
  pub whole : IsWhole left run.gathered
  pub lines : length run.gathered.chart ≡ size_of posts

-- it is the result of gathering the posts of a board at the end of its run
abbrev pub IsGathered : Run → Type 0
IsGathered run = (left : List PostView) × IsWhole left run.gathered

-- why a board isn't run: some input is invalid, and everything comes back; or memory was refused
abbrev pub IsUnrun : {P B : Type 0} → P → B → Type 0 → Type 0 → RunError P B → Type 0
IsUnrun posts behaviours fit invalid (InvalidInput p b) = (p ≡ posts) × (b ≡ behaviours) × invalid
IsUnrun posts behaviours fit invalid Memory = fit
