-- Which multixact events a command has, by its reply.
use Rattle.std.specs.Prelude.{◌≡◌, ℕ, ◌==◌, ◌&&◌, cond, Bool, true, false, List, [], ◌∷◌, Some, take}
use Rattle.tx_events.specs.Nearest.{near_id}
use Rattle.tx_events.specs.declared.event.By.{By}
use Rattle.tx_events.specs.declared.event.Event.{Event}
use Rattle.tx_events.specs.declared.multi.Member.{Member}
use Rattle.tx_events.specs.declared.multi.MultiEvent.{MultiEvent}
use Rattle.tx_events.specs.declared.multi.MultiEvent.TheVariants as multis
use Rattle.tx_events.specs.declared.full_multi.MultiId.{MultiId}
use Rattle.tx_events.specs.declared.record.Counters.{Counters}
use Rattle.tx_events.specs.declared.refusal.Refusal.{Refusal}
use Rattle.tx_events.specs.declared.refusal.Refusal.TheVariants as refusals
use Rattle.tx_events.specs.Multis.{next_made}
use Rattle.tx_model.specs.declared.command.Command.{Command}
use Rattle.tx_model.specs.declared.command.Command.TheVariants as commands
use Rattle.tx_model.specs.declared.command.Pair.{Pair}
use Rattle.tx_model.specs.declared.reply.Reply.{Reply}
use Rattle.tx_model.specs.declared.reply.Reply.TheVariants as replies
use Rattle.tx_model.specs.Replies.{RoundSpan}
use Rattle.report_law.specs.Kinds.{IsPinAt}
use Rattle.report_law.specs.MultiLines.{AreGiven, ArePinned, ArePinnedNear, AreRaised, may_have_given}
use Rattle.command_events.specs.declared.shape.Shape.{Shape}
use Rattle.command_events.specs.declared.shape.Shape.TheVariants as shapes

-- ---- by a reply

abbrev pub multi_shape : Reply → Shape
multi_shape (replies.Multi multi offset warn) = shapes.GivesThis multi offset
multi_shape (replies.Refused refusal) = cond (may_have_given refusal) shapes.Gives shapes.Nothing
multi_shape reply = shapes.Nothing

-- a refusal behind a pin by a stored half
abbrev pub may_pin_near : Refusal → Bool
may_pin_near (refusals.NotYet multi) = true
may_pin_near (refusals.DiskFault lock) = true
may_pin_near refusals.Memory = true
may_pin_near refusal = false

abbrev pub see_shape : MultiId → Reply → Shape
see_shape m (replies.Verdicts verdicts) = shapes.PinsNear m
see_shape m (replies.Refused refusal) = cond (may_pin_near refusal) (shapes.PinsNear m) shapes.Nothing
see_shape m reply = shapes.Nothing

-- a refusal behind a pin of the multixact that was to be the oldest one
abbrev pub may_pin : Refusal → Bool
may_pin (refusals.NotYet multi) = true
may_pin (refusals.DiskFault lock) = true
may_pin (refusals.Held limit) = true
may_pin refusals.Memory = true
may_pin refusal = false

abbrev pub freeze_shape : ℕ → Reply → Shape
freeze_shape multi replies.Done = shapes.Raises multi
freeze_shape multi (replies.Refused refusal) = cond (may_pin refusal) (shapes.Pins multi) shapes.Nothing
freeze_shape multi reply = shapes.Nothing

abbrev pub shape_of : Command → Reply → Shape
shape_of (commands.Multi pairs) reply = multi_shape reply
shape_of (commands.SeeMulti name m) reply = see_shape m reply
shape_of (commands.MultiFreeze multi) reply = freeze_shape multi reply
shape_of command reply = shapes.Nothing

-- whether the command may have none as well
abbrev pub may_freeze_none : Refusal → Bool
may_freeze_none (refusals.Held limit) = true
may_freeze_none refusals.Memory = true
may_freeze_none refusal = false

abbrev pub is_memory : Refusal → Bool
is_memory refusals.Memory = true
is_memory refusal = false

abbrev pub may_have_none : Command → Reply → Bool
may_have_none (commands.Multi pairs) (replies.Refused refusal) = true
may_have_none (commands.SeeMulti name m) (replies.Refused refusal) = is_memory refusal
may_have_none (commands.MultiFreeze multi) (replies.Refused refusal) = may_freeze_none refusal
may_have_none command reply = false

abbrev pub pairs_of : Command → List Pair
pairs_of (commands.Multi pairs) = pairs
pairs_of command = []

-- ---- the events

-- by what a command's events are told
pub record Teller : Type 0 where
  pub base : Counters
  pub events : List Event
  pub round : RoundSpan
  pub all : List MultiEvent
  pub by : By
  pub pairs : List Pair

abbrev pub IsShaped : Teller → Shape → List MultiEvent → Type 0
IsShaped t shapes.Nothing es = es ≡ []
IsShaped t shapes.Gives es = AreGiven t.base t.events t.round t.by t.pairs es
IsShaped t (shapes.GivesThis multi offset) es =
    ((members : List Member) × (es ≡ multis.Gen t.by multi offset members ∷ [])) × AreGiven t.base t.events t.round t.by t.pairs es
IsShaped t (shapes.PinsNear m) es = ArePinnedNear t.base t.all t.by m.number es
IsShaped t (shapes.Pins multi) es = ArePinned t.by multi es
IsShaped t (shapes.Raises multi) es = AreRaised t.by multi es

-- ---- with what a command's own events begin

abbrev pub begins_given : List MultiEvent → Bool
begins_given (multis.Gen by multi offset members ∷ es) = true
begins_given es = false

abbrev pub begins_with : ℕ → ℕ → List MultiEvent → Bool
begins_with multi offset (multis.Gen by given at members ∷ es) = (given == multi) && (at == offset)
begins_with multi offset es = false

abbrev pub begins_pinned : List MultiEvent → Bool
begins_pinned (multis.Hold by multi ∷ multis.Unhold its other ∷ es) = true
begins_pinned es = false

abbrev pub begins_raised : List MultiEvent → Bool
begins_raised (multis.Raise by multi offset ∷ es) = true
begins_raised es = false

abbrev pub begins_between : List MultiEvent → Bool
begins_between (multis.Hold by multi ∷ multis.Raise its raised offset ∷ multis.Unhold theirs other ∷ es) = true
begins_between es = false

-- ---- pins

-- the command pins there, where the stored half means this multixact
abbrev pub IsPinNear : Counters → List MultiEvent → By → ℕ → ℕ → ℕ → Type 0
IsPinNear base all by m multi place = IsPinAt all by place × (near_id (next_made base.multi (take place all)) m ≡ Some multi)
