-- A worked life with multixacts, and some that are wrong. It goes on behind a life that gave the ids 3, which committed,
-- and 4, which didn't. Session 0 takes a snapshot, makes a multixact of both, and sees them. In the second round session 1
-- makes one more, and session 0 looks at that before its offset is set.
use Rattle.std.specs.Prelude.{ℕ, true, false, List, [], ◌∷◌, None}
use Rattle.tx_events.specs.Snapshots.{snapshot_data}
use Rattle.tx_events.specs.declared.event.Event.{Event}
use Rattle.tx_events.specs.declared.event.Event.TheVariants as events
use Rattle.tx_events.specs.declared.multi.Member.{Member}
use Rattle.tx_events.specs.declared.multi.Mode.TheVariants as modes
use Rattle.tx_events.specs.declared.multi.MultiEvent.{MultiEvent}
use Rattle.tx_events.specs.declared.multi.MultiEvent.TheVariants as multis
use Rattle.tx_events.specs.declared.record.Counters.{Counters}
use Rattle.tx_events.specs.declared.record.Rec.{Rec}
use Rattle.tx_events.specs.declared.record.Rec.TheVariants as records
use Rattle.tx_events.specs.declared.refusal.Refusal.TheVariants as refusals
use Rattle.tx_model.specs.Asked.{Asked}
use Rattle.tx_model.specs.declared.command.Command.{Command}
use Rattle.tx_model.specs.declared.command.Command.TheVariants as commands
use Rattle.tx_model.specs.declared.command.Pair.{Pair}
use Rattle.tx_model.specs.declared.reply.Reply.{Reply}
use Rattle.tx_model.specs.declared.reply.Reply.TheVariants as replies
use Rattle.tx_model.specs.declared.reply.Verdict.{Verdict}
use Rattle.tx_model.specs.declared.reply.Verdict.TheVariants as verdicts
use Rattle.tx_model.specs.declared.report.LifeReport.{LifeReport}
use Rattle.tx_model.specs.declared.report.Line.{Line}
use Rattle.tx_model.specs.declared.report.Step.TheVariants as steps
use Rattle.life_law.specs.Laws.{IsLawful}
use Rattle.life_law.specs.LawfulLife.{IsLawfulLife}
use Rattle.life_law.specs.Worked.{by_at, its_name, line_of}

abbrev pub its_base : Counters
its_base = record { next = 5; oldest = 3; multi = 1; offset = 1; oldest_multi = 1; oldest_offset = 1 }

abbrev pub its_events : List Event
its_events = events.Snap its_name (by_at 0 1) ∷ []

-- the members of the first multixact, and the one of the second
abbrev pub committed_member : Member
committed_member = record { id = 3; mode = modes.KeySh }

abbrev pub lost_member : Member
lost_member = record { id = 4; mode = modes.NoKeyUpd }

abbrev pub later_member : Member
later_member = record { id = 4; mode = modes.Sh }

abbrev pub as_written : Member → Pair
as_written member = record { x = record { number = member.id }; mode = member.mode }

abbrev pub look_at : ℕ → Command
look_at multi = commands.SeeMulti its_name (record { number = multi })

-- what session 0 sees of the first multixact, with this verdict on the id that was lost
abbrev pub seen_with : Verdict → Reply
seen_with verdict =
    replies.Verdicts (record { id = 3; mode = modes.KeySh; verdict = verdicts.Visible }
    ∷ record { id = 4; mode = modes.NoKeyUpd; verdict = verdict } ∷ [])

abbrev pub first_lines : Verdict → List Line
first_lines verdict =
    line_of 0 1 (commands.Snap its_name) (replies.Snapped (snapshot_data 5 []))
    ∷ line_of 0 2 (commands.Multi (as_written committed_member ∷ as_written lost_member ∷ [])) (replies.Multi 1 1 false)
    ∷ line_of 0 3 (look_at 1) (seen_with verdict) ∷ []

-- in the second round session 0 is told that this multixact isn't there yet
abbrev pub second_lines : ℕ → List Line
second_lines multi =
    line_of 0 4 (look_at multi) (replies.Refused (refusals.NotYet multi))
    ∷ line_of 1 1 (commands.Multi (as_written later_member ∷ [])) (replies.Multi 2 3 false) ∷ []

abbrev pub its_multis : ℕ → List MultiEvent
its_multis multi =
    multis.Gen (by_at 0 2) 1 1 (committed_member ∷ lost_member ∷ [])
    ∷ multis.Hold (by_at 0 3) 1 ∷ multis.Unhold (by_at 0 3) 1
    ∷ multis.Gen (by_at 1 1) 2 3 (later_member ∷ [])
    ∷ multis.Hold (by_at 0 4) multi ∷ multis.Unhold (by_at 0 4) multi ∷ []

abbrev pub second_record : Rec
second_record = records.Multi 2 3 (later_member ∷ [])

abbrev pub both_records : List Rec
both_records = records.Multi 1 1 (committed_member ∷ lost_member ∷ []) ∷ second_record ∷ []

-- the life with this verdict and this multixact that isn't there yet, and with these records behind the checkpoint
abbrev pub life_with : Verdict → ℕ → List Rec → LifeReport
life_with verdict multi recs = record {
  life = record {
    from = 2;
    base = its_base;
    committed = 3 ∷ [];
    recorded = [];
    events = its_events;
    multis = its_multis multi;
    recs = records.Checkpoint 2 its_base ∷ recs;
    flushed = 3;
    end = 142;
  };
  steps = steps.Round 1 (first_lines verdict) ∷ steps.Round 2 (second_lines multi) ∷ [];
  crash = None;
}

abbrev pub worked_life : LifeReport
worked_life = life_with verdicts.Hidden 2 both_records

-- what isn't there yet is session 0's own multixact, which was answered `ok` a round before
abbrev pub stale_life : LifeReport
stale_life = life_with verdicts.Hidden 1 both_records

-- the id that was lost is told as visible
abbrev pub misjudged_life : LifeReport
misjudged_life = life_with verdicts.Visible 2 both_records

-- the multixact that was answered `ok` first has no record
abbrev pub unlogged_life : LifeReport
unlogged_life = life_with verdicts.Hidden 2 (second_record ∷ [])

-- lawful for what it was asked, over page volumes that tell what they hold
pub record IsLawfulWhereTold (r : LifeReport) : Type 0 where
  pub banks : ℕ
  pub asked : List Asked
  pub life : IsLawfulLife true banks asked r

-- the life is lawful, and the others aren't, the last one whatever the volumes tell
pub record WorkedMultis : Type 0 where
  pub lawful : IsLawfulWhereTold worked_life
  pub stale : IsLawfulWhereTold stale_life → ⊥
  pub misjudged : IsLawfulWhereTold misjudged_life → ⊥
  pub unlogged : IsLawful unlogged_life → ⊥
