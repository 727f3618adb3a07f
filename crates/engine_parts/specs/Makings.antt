-- The multixacts that a session was given: all are made, but the one that it is at.
use Rattle.std.specs.Prelude.{◌≡◌, ◌≢◌, ℕ, Bool, List, Option, None, Some, IfSome, length, nat_lt}
use Rattle.tx_model.specs.declared.command.Command.{Command}
use Rattle.tx_model.specs.declared.reply.Reply.{Reply}
use Rattle.life_law.specs.MultiStanding.{Unfinished, none, perhaps, sure, unfinished_behind}
use Rattle.tx_core.specs.declared.entry.Entry.{Entry}
use Rattle.tx_core.specs.declared.entry.Start.{Start}
use Rattle.tx_core.specs.OwnMultis.{AreMultisDone, IsMaking, own_multis}
use Rattle.engine_parts.specs.declared.session.Making.{Making}

abbrev pub IsMakingOf : Start → List (List Entry) → ℕ → Making → Type 0
IsMakingOf start lists n m = IsMaking start lists n m.multi m.offset m.members m.logged

-- What its lines tell of it: that there is none, that there may be one, that there is one.
abbrev pub IsToldMaking : Unfinished → Option Making → Type 0
IsToldMaking none making = making ≡ None
IsToldMaking perhaps making = Unit {0}
IsToldMaking sure making = making ≢ None

-- a command that was answered so, and was given a multixact or not, leaves it as its lines tell
abbrev pub KeepsMaking : Command → Reply → Bool → Option Making → Option Making → Type 0
KeepsMaking command reply gave old new =
    (u : Unfinished) → IsToldMaking u old → IsToldMaking (unfinished_behind u gave command reply) new

-- whether the session has more events of multixacts
abbrev pub has_more_multis : ℕ → List (List Entry) → List (List Entry) → Bool
has_more_multis n lists more = nat_lt (length (own_multis n lists)) (length (own_multis n more))

-- the number of the one that it is at
abbrev pub pending_multi : Option Making → Option ℕ
pending_multi None = None
pending_multi (Some m) = Some m.multi

pub record Makes (start : Start) (lists : List (List Entry)) (n : ℕ) (making : Option Making) : Type 0 where
  pub pending : IfSome making (IsMakingOf start lists n)
  pub others : AreMultisDone start lists n (pending_multi making)
