-- The first reason that applies, one reason after the other.
use Rattle.std.proofs.Common.{◌≡◌, ℕ, zero, suc, ◌<◌, ◌↔◌, inl, inr, Bool, true, false, List, None, Some, length, refl, sym, ap, ◌∙◌, subst, arith}
use Rattle.std.specs.Prelude.{IsTrue}
use Rattle.std.proofs.lemmas.Bool.{cases_lt, false≢true}
use Rattle.chart.specs.Charts.{Place, LineView, chart_lines}
use Rattle.chart.specs.Order.{Before}
use Rattle.log_chart.specs.declared.item.Item.{Item}
use Rattle.log_chart.specs.declared.item.MessageNo.{MessageNo}
use Rattle.log_chart.specs.declared.item.MessageNo.TheVariants as messages
use Rattle.race_verdicts.specs.Luck.Arrivals.{CameFirst}
use Rattle.race_verdicts.specs.Luck.Behind.{IsBehind}
use Rattle.race_verdicts.specs.Luck.Judging.{IsLoggedReason, IsLoggedVerdict}
use Rattle.race_verdicts.specs.Luck.Places.{item_at, IsInvented}
use Rattle.race_verdicts.specs.Luck.Recorded.{IsNamed}
use Rattle.race_verdicts.specs.Luck.Taking.{WouldTake}
use Rattle.race_verdicts.specs.Luck.Verdicts.{IsBegunBefore, AreLogged, IsReason, turn_of, IsVerdict, OneVerdictLaw}
use Rattle.race_verdicts.specs.Luck.Verdicts.IsBegunBefore.{unlogged, itself, before}
use Rattle.race_verdicts.specs.Luck.WholeOrder.{IsAhead}
use Rattle.race_verdicts.proofs.LuckLemmas.TableLemmas.{some_same}
use Rattle.std.proofs.lemmas.Option.{slice_get_within}
use Rattle.log_chart.specs.declared.matching.LogLine.{LogLine}
use Rattle.log_chart.specs.Items.{naming_line}
use Rattle.race_verdicts.specs.Recordings.{RecordingView}
use Rattle.race_verdicts.specs.declared.verdict.Verdict.{Verdict}
use Rattle.race_verdicts.specs.declared.verdict.Verdict.TheVariants.{Luck, EarlierIsSend, BegunInTheMiddle, OrderedByLeftOut, WouldNotTake, PassedOver, BehindAnother, Any}

pub false_not : {P : Type 0} (r : Bool) → (IsTrue r ↔ P) → r ≡ false → P → ⊥
false_not r stated fails p = false≢true (sym fails ∙ stated.1 p)

-- the line that identifies a message is a line of the log
pub named_within : (lines : List LogLine) (m : MessageNo) → IsNamed lines m → naming_line m < length lines
named_within lines (messages.Sent n) its = slice_get_within lines n its.line its.is
named_within lines (messages.Begun n) its = its

-- for an event and a message that are both in the log
module _ (rec : RecordingView) (k : ℕ) (own : MessageNo) (s : ℕ) where
  pub logged_would_not : (IsAhead rec.lines k s → ⊥) → (WouldTake rec k s → ⊥) → IsLoggedVerdict rec k own s WouldNotTake
  logged_would_not not_ahead not_take = record { reason = not_take; first = first }
    where
      first : (other : Verdict) → turn_of other < 3 → IsLoggedReason rec k own s other → ⊥
      first EarlierIsSend less its = its
      first BegunInTheMiddle less its = its
      first OrderedByLeftOut less its = not_ahead its
      first WouldNotTake less its = absurd (omega arith)
      first PassedOver less its = absurd (omega arith)
      first BehindAnother less its = absurd (omega arith)
      first Luck less its = absurd (omega arith)
      first Any less its = absurd (omega arith)

  pub logged_passed : (IsAhead rec.lines k s → ⊥) → WouldTake rec k s → CameFirst rec (messages.Sent s) own → IsLoggedVerdict rec k own s PassedOver
  logged_passed not_ahead takes came = record { reason = came; first = first }
    where
      first : (other : Verdict) → turn_of other < 4 → IsLoggedReason rec k own s other → ⊥
      first EarlierIsSend less its = its
      first BegunInTheMiddle less its = its
      first OrderedByLeftOut less its = not_ahead its
      first WouldNotTake less its = its takes
      first PassedOver less its = absurd (omega arith)
      first BehindAnother less its = absurd (omega arith)
      first Luck less its = absurd (omega arith)
      first Any less its = absurd (omega arith)

  pub logged_behind : (IsAhead rec.lines k s → ⊥) → WouldTake rec k s → (CameFirst rec (messages.Sent s) own → ⊥) → IsBehind rec k own s → IsLoggedVerdict rec k own s BehindAnother
  logged_behind not_ahead takes not_came behind = record { reason = behind; first = first }
    where
      first : (other : Verdict) → turn_of other < 5 → IsLoggedReason rec k own s other → ⊥
      first EarlierIsSend less its = its
      first BegunInTheMiddle less its = its
      first OrderedByLeftOut less its = not_ahead its
      first WouldNotTake less its = its takes
      first PassedOver less its = not_came its
      first BehindAnother less its = absurd (omega arith)
      first Luck less its = absurd (omega arith)
      first Any less its = absurd (omega arith)

  pub logged_luck : (IsAhead rec.lines k s → ⊥) → WouldTake rec k s → (CameFirst rec (messages.Sent s) own → ⊥) → (IsBehind rec k own s → ⊥) → IsLoggedVerdict rec k own s Luck
  logged_luck not_ahead takes not_came not_behind = record { reason = tt; first = first }
    where
      first : (other : Verdict) → turn_of other < 6 → IsLoggedReason rec k own s other → ⊥
      first EarlierIsSend less its = its
      first BegunInTheMiddle less its = its
      first OrderedByLeftOut less its = not_ahead its
      first WouldNotTake less its = its takes
      first PassedOver less its = not_came its
      first BehindAnother less its = not_behind its
      first Luck less its = absurd (omega arith)
      first Any less its = absurd (omega arith)

module _ (lines : List LineView) (rec : RecordingView) (r e : Place) (receive earlier : Item) (receive_is : item_at rec r ≡ Some receive) (earlier_is : item_at rec e ≡ Some earlier) where
  pub verdict_begun : IsBegunBefore lines rec r receive earlier → IsVerdict lines rec r e BegunInTheMiddle
  verdict_begun begun = record {
    receive = receive;
    earlier = earlier;
    receive_is = receive_is;
    earlier_is = earlier_is;
    reason = begun;
    first = λ other less its. absurd (omega arith);
  }

  pub verdict_send : (IsBegunBefore lines rec r receive earlier → ⊥) → earlier.sends ≡ true → IsVerdict lines rec r e EarlierIsSend
  verdict_send not_begun sends = record {
    receive = receive;
    earlier = earlier;
    receive_is = receive_is;
    earlier_is = earlier_is;
    reason = sends;
    first = first;
  }
    where
      first : (other : Verdict) → turn_of other < 1 → IsReason lines rec r receive earlier other → ⊥
      first BegunInTheMiddle less its = not_begun its
      first EarlierIsSend less its = absurd (omega arith)
      first OrderedByLeftOut less its = absurd (omega arith)
      first WouldNotTake less its = absurd (omega arith)
      first PassedOver less its = absurd (omega arith)
      first BehindAnother less its = absurd (omega arith)
      first Luck less its = absurd (omega arith)
      first Any less its = absurd (omega arith)

  module _ (k s : ℕ) (line : earlier.line ≡ Some k) (send : receive.message ≡ messages.Sent s) where
    same_line : (j t : ℕ) → AreLogged earlier receive j t → j ≡ k
    same_line j t logged = some_same (sym logged.line ∙ line)

    same_send : (j t : ℕ) → AreLogged earlier receive j t → t ≡ s
    same_send j t logged = let one : messages.Sent t ≡ messages.Sent s = sym logged.send ∙ send in cc one

    both : AreLogged earlier receive k s
    both = record { line = line; send = send }

    reason_of : (v : Verdict) → IsLoggedReason rec k earlier.message s v → IsReason lines rec r receive earlier v
    reason_of EarlierIsSend its = absurd its
    reason_of BegunInTheMiddle its = absurd its
    reason_of OrderedByLeftOut its = (k, s, both, its)
    reason_of WouldNotTake its = (k, s, both, its)
    reason_of PassedOver its = subst (λ m. CameFirst rec m earlier.message) (sym send) its
    reason_of BehindAnother its = (k, s, both, its)
    reason_of Luck its = tt
    reason_of Any its = absurd its

    logged_of : (v : Verdict) → (earlier.sends ≡ true → ⊥) → (IsBegunBefore lines rec r receive earlier → ⊥) → IsReason lines rec r receive earlier v → IsLoggedReason rec k earlier.message s v
    logged_of EarlierIsSend no_send not_begun its = no_send its
    logged_of BegunInTheMiddle no_send not_begun its = not_begun its
    logged_of OrderedByLeftOut no_send not_begun its = subst (IsAhead rec.lines k) (same_send its.0 its.1 its.2) (subst (λ j. IsAhead rec.lines j its.1) (same_line its.0 its.1 its.2) its.3)
    logged_of WouldNotTake no_send not_begun its =
        λ takes. its.3 (subst (WouldTake rec its.0) (sym (same_send its.0 its.1 its.2)) (subst (λ j. WouldTake rec j s) (sym (same_line its.0 its.1 its.2)) takes))
    logged_of PassedOver no_send not_begun its = subst (λ m. CameFirst rec m earlier.message) send its
    logged_of BehindAnother no_send not_begun its =
        subst (IsBehind rec k earlier.message) (same_send its.0 its.1 its.2) (subst (λ j. IsBehind rec j earlier.message its.1) (same_line its.0 its.1 its.2) its.3)
    logged_of Luck no_send not_begun its = tt
    logged_of Any no_send not_begun its = its

    pub verdict_logged : (v : Verdict) → (earlier.sends ≡ true → ⊥) → (IsBegunBefore lines rec r receive earlier → ⊥) → IsLoggedVerdict rec k earlier.message s v → IsVerdict lines rec r e v
    verdict_logged v no_send not_begun logged = record {
      receive = receive;
      earlier = earlier;
      receive_is = receive_is;
      earlier_is = earlier_is;
      reason = reason_of v logged.reason;
      first = λ other less its. logged.first other less (logged_of other no_send not_begun its);
    }

-- a logged event and a sent message are begun in the middle only if an invented send comes before
pub not_begun : (lines : List LineView) (rec : RecordingView) (r : Place) (receive earlier : Item) (k s : ℕ) → earlier.line ≡ Some k → receive.message ≡ messages.Sent s
    → ((e : Place) → IsInvented rec e → Before (chart_lines lines) e r → ⊥) → IsBegunBefore lines rec r receive earlier → ⊥
not_begun lines rec r receive earlier k s line send none (unlogged no_line) = absurd (let one : None ≡ Some k = sym no_line ∙ line in cc one)
not_begun lines rec r receive earlier k s line send none (itself n is) = absurd (let one : messages.Begun n ≡ messages.Sent s = sym is ∙ send in cc one)
not_begun lines rec r receive earlier k s line send none (before e invented is) = none e invented is

-- a pair has one verdict
verdict_at : ℕ → Verdict
verdict_at zero = BegunInTheMiddle
verdict_at (suc zero) = EarlierIsSend
verdict_at (suc (suc zero)) = OrderedByLeftOut
verdict_at (suc (suc (suc zero))) = WouldNotTake
verdict_at (suc (suc (suc (suc zero)))) = PassedOver
verdict_at (suc (suc (suc (suc (suc zero))))) = BehindAnother
verdict_at (suc (suc (suc (suc (suc (suc zero)))))) = Luck
verdict_at (suc (suc (suc (suc (suc (suc (suc n))))))) = Any

turn_back : (v : Verdict) → verdict_at (turn_of v) ≡ v
unfolding verdict_at
turn_back EarlierIsSend = refl
turn_back BegunInTheMiddle = refl
turn_back OrderedByLeftOut = refl
turn_back WouldNotTake = refl
turn_back PassedOver = refl
turn_back BehindAnother = refl
turn_back Luck = refl
turn_back Any = refl

pub one_verdict : OneVerdictLaw
one_verdict lines rec r e a b of_a of_b =
    let receives : of_a.receive ≡ of_b.receive = some_same (sym of_a.receive_is ∙ of_b.receive_is) in
    let earliers : of_a.earlier ≡ of_b.earlier = some_same (sym of_a.earlier_is ∙ of_b.earlier_is) in
    elim (cases_lt (turn_of a) (turn_of b)) [
      | inl less ↦
          absurd
          (of_b.first a less
          (subst (λ (i : Item). IsReason lines rec r i of_b.earlier a) receives (subst (λ (i : Item). IsReason lines rec r of_a.receive i a) earliers of_a.reason)))
      | inr past ↦
          elim (cases_lt (turn_of b) (turn_of a)) [
            | inl less ↦
                absurd
                (of_a.first b less
                (subst (λ (i : Item). IsReason lines rec r i of_a.earlier b) (sym receives) (subst (λ (i : Item). IsReason lines rec r of_b.receive i b) (sym earliers) of_b.reason)))
            | inr past_too ↦ let same : turn_of a ≡ turn_of b = omega arith in sym (turn_back a) ∙ ap verdict_at same ∙ turn_back b
          ]
    ]

-- a message that no line sends is begun in the middle
pub begun_of : (m : MessageNo) → ((s : ℕ) → m ≡ messages.Sent s → ⊥) → (n : ℕ) × (m ≡ messages.Begun n)
begun_of (messages.Sent s) none = absurd (none s refl)
begun_of (messages.Begun n) none = (n, refl)
