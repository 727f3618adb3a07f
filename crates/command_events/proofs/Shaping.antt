-- Which multixact events a command has, by their shape.
use Rattle.std.proofs.Common.{◌≡◌, ℕ, ◌↔◌, ◌⊎◌, ⊎_elim, inl, inr, Bool, true, false, cond, List, [], refl}
use Rattle.std.specs.Prelude.{IsTrue}
use Rattle.tx_events.specs.declared.event.By.{By}
use Rattle.tx_events.specs.declared.event.Event.{Event}
use Rattle.tx_events.specs.declared.multi.MultiEvent.{MultiEvent}
use Rattle.tx_events.specs.declared.record.Counters.{Counters}
use Rattle.tx_events.specs.declared.refusal.Refusal.TheVariants as refusals
use Rattle.tx_model.specs.declared.command.Command.{Command}
use Rattle.tx_model.specs.declared.command.Command.TheVariants as commands
use Rattle.tx_model.specs.declared.command.Pair.{Pair}
use Rattle.tx_model.specs.declared.reply.Reply.{Reply}
use Rattle.tx_model.specs.declared.reply.Reply.TheVariants as replies
use Rattle.tx_model.specs.Replies.{RoundSpan}
use Rattle.tx_events.specs.declared.full_multi.MultiId.{MultiId}
use Rattle.report_law.specs.MultiLines.{AreGiven, HasMultiEvents, may_have_given}
use Rattle.command_events.specs.declared.shape.Shape.{Shape}
use Rattle.command_events.specs.declared.shape.Shape.TheVariants as shapes
use Rattle.command_events.specs.Shapes.{IsShaped, Teller, may_have_none, pairs_of, shape_of}

-- none where there may be none, or some of a shape
abbrev pub NoneOr : Bool → Teller → Shape → List MultiEvent → Type 0
NoneOr none t shape es = ((none ≡ true) × (es ≡ [])) ⊎ IsShaped t shape es

shaped : (t : Teller) (shape : Shape) (es : List MultiEvent) → IsShaped t shape es ↔ NoneOr false t shape es
shaped t shape es = (λ s. inr s, λ z. ⊎_elim (λ (a : (false ≡ true) × (es ≡ [])). absurd cc) (λ (s : IsShaped t shape es). s) z)

none_or : (t : Teller) (shape : Shape) (es : List MultiEvent) → ((es ≡ []) ⊎ IsShaped t shape es) ↔ NoneOr true t shape es
none_or t shape es = (
  λ z. ⊎_elim (λ (e : es ≡ []). inl (refl, e)) (λ (s : IsShaped t shape es). inr s) z,
  λ z. ⊎_elim (λ (a : (true ≡ true) × (es ≡ [])). inl a.1) (λ (s : IsShaped t shape es). inr s) z,
)

module _ (base : Counters) (h : List Event) (round : RoundSpan) (all : List MultiEvent) (by : By) where
  abbrev pub teller : Command → Teller
  teller command = record { base = base; events = h; round = round; all = all; by = by; pairs = pairs_of command }

  abbrev Shaped : Command → Reply → List MultiEvent → Type 0
  Shaped command reply es = HasMultiEvents base h round all by command reply es ↔ NoneOr (may_have_none command reply) (teller command) (shape_of command reply) es

  of_multi : (pairs : List Pair) (reply : Reply) (es : List MultiEvent) → Shaped (commands.Multi pairs) reply es
  of_multi pairs (replies.Multi multi offset warn) es = shaped (teller (commands.Multi pairs)) (shapes.GivesThis multi offset) es
  of_multi pairs (replies.Refused refusal) es = one (may_have_given refusal)
    where
      one : (b : Bool) → ((es ≡ []) ⊎ (IsTrue b × AreGiven base h round by pairs es)) ↔ NoneOr true (teller (commands.Multi pairs)) (cond b shapes.Gives shapes.Nothing) es
      one true = (
        λ z. ⊎_elim (λ (e : es ≡ []). inl (refl, e)) (λ (s : (true ≡ true) × AreGiven base h round by pairs es). inr s.1) z,
        λ z. ⊎_elim (λ (a : (true ≡ true) × (es ≡ [])). inl a.1) (λ (s : AreGiven base h round by pairs es). inr (refl, s)) z,
      )
      one false = (
        λ z. ⊎_elim (λ (e : es ≡ []). inl (refl, e)) (λ (s : (false ≡ true) × AreGiven base h round by pairs es). absurd cc) z,
        λ z. ⊎_elim (λ (a : (true ≡ true) × (es ≡ [])). inl a.1) (λ (e : es ≡ []). inl e) z,
      )
  of_multi pairs reply es = shaped (teller (commands.Multi pairs)) shapes.Nothing es

  of_see : (name : List ℕ) (m : MultiId) (reply : Reply) (es : List MultiEvent) → Shaped (commands.SeeMulti name m) reply es
  of_see name m (replies.Verdicts verdicts) es = shaped (teller (commands.SeeMulti name m)) (shapes.PinsNear m) es
  of_see name m (replies.Refused (refusals.NotYet next)) es = shaped (teller (commands.SeeMulti name m)) (shapes.PinsNear m) es
  of_see name m (replies.Refused (refusals.DiskFault lock)) es = shaped (teller (commands.SeeMulti name m)) (shapes.PinsNear m) es
  of_see name m (replies.Refused refusals.Memory) es = none_or (teller (commands.SeeMulti name m)) (shapes.PinsNear m) es
  of_see name m (replies.Refused refusal) es = shaped (teller (commands.SeeMulti name m)) shapes.Nothing es
  of_see name m reply es = shaped (teller (commands.SeeMulti name m)) shapes.Nothing es

  of_freeze : (multi : ℕ) (reply : Reply) (es : List MultiEvent) → Shaped (commands.MultiFreeze multi) reply es
  of_freeze multi replies.Done es = shaped (teller (commands.MultiFreeze multi)) (shapes.Raises multi) es
  of_freeze multi (replies.Refused (refusals.NotYet next)) es = shaped (teller (commands.MultiFreeze multi)) (shapes.Pins multi) es
  of_freeze multi (replies.Refused (refusals.DiskFault lock)) es = shaped (teller (commands.MultiFreeze multi)) (shapes.Pins multi) es
  of_freeze multi (replies.Refused (refusals.Held limit)) es = none_or (teller (commands.MultiFreeze multi)) (shapes.Pins multi) es
  of_freeze multi (replies.Refused refusals.Memory) es = none_or (teller (commands.MultiFreeze multi)) (shapes.Pins multi) es
  of_freeze multi (replies.Refused refusal) es = shaped (teller (commands.MultiFreeze multi)) shapes.Nothing es
  of_freeze multi reply es = shaped (teller (commands.MultiFreeze multi)) shapes.Nothing es

  pub by_shape : (command : Command) (reply : Reply) (es : List MultiEvent) → Shaped command reply es
  by_shape (commands.Multi pairs) reply es = of_multi pairs reply es
  by_shape (commands.SeeMulti name m) reply es = of_see name m reply es
  by_shape (commands.MultiFreeze multi) reply es = of_freeze multi reply es
  by_shape command reply es = shaped (teller command) shapes.Nothing es
