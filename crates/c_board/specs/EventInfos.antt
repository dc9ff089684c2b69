-- How the events of a post's line are described (this project's profile).
use Rattle.std.specs.Prelude.{◌≡◌, ℕ, List, length, Option, None, Some, Result, Ok, Err}
use Rattle.chart.specs.declared.event.Event.{Event}
use Rattle.chart.specs.Events.{ith, partner_of, name_of, region_of, is_receive}
use Rattle.board.specs.Views.{line_of}
use Rattle.c_board.specs.declared.found.EventInfo.{EventInfo}
use Rattle.c_board.specs.declared.events.EventRefusal.{EventRefusal}
use Rattle.c_board.specs.declared.events.EventRefusal.TheVariants as why
use Rattle.c_board.specs.declared.kept.Kept.{Kept}
use Rattle.c_board.specs.declared.misuse.Misuse.TheVariants.{NoPost}
use Rattle.c_board.specs.declared.misuse.Numbering.{Numbering}
use Rattle.c_board.specs.Contents.{post_in}
use Rattle.c_board.specs.Copying.{put_over}
use Rattle.c_board.specs.PostStates.{PostStateView}
use Rattle.c_board.specs.Refusals.{of_misuse}

-- the description of an event
abbrev pub event_info : Event → EventInfo
event_info event = record {
  receives = is_receive event;
  partner = partner_of event;
  region = region_of event;
  name = length (name_of event);
}

-- there is no such event, or it is described and its name is copied out
abbrev pub CopiesEvent : Option Event → List ℕ → Result EventInfo EventRefusal → List ℕ → Type 0
CopiesEvent None room result out = (result ≡ Err why.NoEvent) × (out ≡ room)
CopiesEvent (Some event) room result out = (result ≡ Ok (event_info event)) × (out ≡ put_over (name_of event) room)

-- the event with this number, from 1, on the post's line
abbrev pub CopiesOfPost : Option PostStateView → ℕ → List ℕ → Result EventInfo EventRefusal → List ℕ → Type 0
CopiesOfPost None number room result out = (result ≡ Err (why.Misuse NoPost)) × (out ≡ room)
CopiesOfPost (Some state) number room result out = CopiesEvent (ith (line_of state.post) number) room result out

-- the same, for the post that is kept
abbrev pub HandleCopies : Option Kept → ℕ → List ℕ → Result EventInfo EventRefusal → List ℕ → Type 0
HandleCopies old number room result out = CopiesOfPost (post_in old) number room result out

-- the numbers of these refusals
abbrev pub of_unseen : Numbering → EventRefusal → ℕ
of_unseen misuses (why.Misuse how) = of_misuse misuses how
of_unseen misuses why.NoEvent = 31
