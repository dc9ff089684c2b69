-- What a post's send of several messages answers.
use Rattle.std.proofs.Common.{◌≡◌, ℕ, suc, ◌-◌, ◌<◌, List, [], ◌∷◌, length, set, refl, sym, subst, arith}
use Rattle.std.specs.Prelude.{Result, Ok, Err, IfOk, IfErr, OnOk, OnErr}
use Rattle.std.specs.Global.{Vec}
use Rattle.atomic_table.specs.Seated.{TableId}
use Rattle.chart.specs.Messages.{Content}
use Rattle.chart.proofs.Histories.{begins_same}
use Rattle.line_recorder.specs.Recorders.{RecorderView}
use Rattle.line_recorder.specs.Recording.{IsRecorder}
use Rattle.board_table.specs.Knowing.{Mine, held, Rests}
use Rattle.board.specs.declared.answer.Sent.{Sent}
use Rattle.board.specs.declared.ends.Outgoing.{Outgoing}
use Rattle.board.specs.declared.ends.Incoming.{Incoming}
use Rattle.board.specs.declared.error.SendError.{SendError}
use Rattle.board.specs.Views.{PostView, Sound}
use Rattle.board.specs.Known.{IsOutgoing, IsPost, view_of}
use Rattle.board.specs.Parts.{IsUnmade}
use Rattle.board.specs.Sending.{MaySend, MayPass, AreSent, SendsAll}
use Rattle.board.specs.SendingMany.{AreMade}
use Rattle.board.proofs.PostLemmas.{knowledge, post_saw, post_sends}
use Rattle.board.proofs.SendAnswers.{did_sound, did_makes, did_stays, unsent}

-- an empty list sends nothing
pub sent_none : (old : PostView) (to : ℕ) (ms : List Content) (sents : List Sent) → length ms ≡ 0 → sents ≡ [] → MaySend old to → AreSent old to ms sents old
sent_none old to [] sents none nothing may = subst (λ (xs : List Sent). AreSent old to [] xs old) (sym nothing) (record {
  allowed = may;
  makes = (old.seen, record { later = begins_same old.seen; seen = refl; made = refl; region = refl });
  events = refl;
  room = omega arith;
})
sent_none old to (m ∷ ms) sents none nothing may = absurd (omega (arith, none))

abbrev pub Answer : Type 0
Answer = Result (Vec Sent) (Vec Content × SendError)

-- the messages were sent on p's lane to this instance, and each has its event
abbrev pub WereMade : ℕ → ℕ → ℕ → ℕ → List Content → Mine → Mine → Answer → Type 0
WereMade n k p to ms m w result = IfOk result (λ sents. AreMade (record { instances = n; capacity = k; sender = p; receiver = to }) ms sents.items m w)

-- the messages weren't sent, and come back
abbrev pub WereUnmade : ℕ → ℕ → ℕ → ℕ → List Content → Mine → Mine → Answer → Type 0
WereUnmade n k p to ms m w result = IfErr result (λ error. (error.0.items ≡ ms) × IsUnmade (record { instances = n; capacity = k; sender = p; receiver = to }) (length ms) m w error.1)

pub sound_all : (table : TableId) (m w : Mine) (n k p region room left to : ℕ) (ms : List Content) (result : Answer) → WereMade n k p to ms m w result → WereUnmade n k p to ms m w result → Sound (view_of table m n k p region room) (view_of table w n k p region left)
sound_all table m w n k p region room left to ms (Ok sents) made unmade = did_sound table m w n k p region room _ _ made.did region left
sound_all table m w n k p region room left to ms (Err (back, error)) made unmade = did_sound table m w n k p region room _ _ unmade.1.did region left

pub answer_all : (table : TableId) (m w : Mine) (n k p : ℕ) (r : RecorderView) (region : ℕ) (outgoing : List Outgoing) (incoming : List Incoming) → IsPost m n k p (knowledge r region outgoing incoming) → (to left : ℕ) (ms : List Content) → MayPass (view_of table m n k p region r.room) to (length ms) → 0 < length ms
    → (result : Answer) → WereMade n k p to ms m w result → WereUnmade n k p to ms m w result → OnOk result (left ≡ r.room - length ms) → OnErr result (left ≡ r.room) → SendsAll (view_of table m n k p region r.room) to ms result (view_of table w n k p region left)
answer_all table m w n k p r region outgoing incoming post to left ms may some (Ok sents) made unmade taken kept = record {
  allowed = may.allowed;
  makes = (_, did_makes table m w n k p region r.room _ _ made.did left);
  events = made.events;
  room = taken;
}
answer_all table m w n k p r region outgoing incoming post to left ms may some (Err (back, error)) made unmade taken kept =
    (unmade.0, did_stays table m w n k p region r.room left unmade.1.did kept, unsent table m w n k p r region outgoing incoming post to (length ms) may left (record { instances = n; capacity = k; sender = p; receiver = to }) refl error unmade.1.did some unmade.1.cause)

pub post_all : (m w : Mine) (n k p : ℕ) (r u : RecorderView) (region : ℕ) (outgoing : List Outgoing) (incoming : List Incoming) → IsPost m n k p (knowledge r region outgoing incoming) → Rests n k p w → IsRecorder n (held w).seen p u
    → (j : ℕ) (e : Outgoing) → j < length outgoing → IsOutgoing n (held w).seen p (suc j) e → region ≡ 0 → (ms : List Content) (result : Answer) → WereMade n k p (suc j) ms m w result → WereUnmade n k p (suc j) ms m w result → IsPost w n k p (knowledge u region (set outgoing j e) incoming)
post_all m w n k p r u region outgoing incoming post rests recorder j e within end outside ms (Ok sents) made unmade = post_sends m w n k p r u region outgoing incoming post rests recorder j e within end _ ms outside made.did
post_all m w n k p r u region outgoing incoming post rests recorder j e within end outside ms (Err (back, error)) made unmade = post_saw m w n k p r u region outgoing incoming post rests recorder j e within end unmade.1.did
