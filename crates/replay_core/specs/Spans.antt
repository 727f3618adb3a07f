-- Which multixacts and members a recovery redoes and clears.
use Rattle.std.specs.Prelude.{◌+◌, ◌^◌, ◌<◌, ◌≤◌, List, [], ◌∷◌, max}
use Rattle.tx_events.specs.declared.record.Counters.{Counters}
use Rattle.tx_events.specs.declared.record.Rec.{Rec}
use Rattle.tx_events.specs.declared.record.Rec.TheVariants as records
use Rattle.replay_multis.specs.Named.{AreMembersBelow, AreMultisNear}
use Rattle.replay_multis.specs.declared.offsets.OffsetSpan.{OffsetSpan}
use Rattle.replay_multis.specs.declared.redo_members.MemberSpan.{MemberSpan}

-- the counters of the checkpoint with which records begin, or else those behind them
abbrev pub begun_counters : List Rec → Counters → Counters
begun_counters [] base = base
begun_counters (rec ∷ recs) base = begun_by rec
  where
    begun_by : Rec → Counters
    begun_by (records.Checkpoint number counters) = counters
    begun_by _ = base

abbrev pub offset_span : List Rec → Counters → OffsetSpan
offset_span recs base = record { oldest = base.oldest_multi; from = max (begun_counters recs base).multi base.oldest_multi; next = base.multi }

abbrev pub member_span : List Rec → Counters → MemberSpan
member_span recs base = record { oldest = base.oldest_multi; oldest_offset = base.oldest_offset; from = max (begun_counters recs base).offset base.oldest_offset; next = base.offset }

-- the records name nothing so far ahead that its place could be that of something older
pub record AreMultisInReach (recs : List Rec) (base : Counters) : Type 0 where
  pub near : AreMultisNear base.oldest_multi recs
  pub below : AreMembersBelow base.offset recs
  pub window : base.offset + 2 ^ 15 ≤ base.oldest_offset + 2 ^ 31
  pub small : base.offset < 2 ^ 63
