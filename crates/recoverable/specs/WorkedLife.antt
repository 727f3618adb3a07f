-- A worked life. Ids 3 and 4 were given, and multixact 1 of both, at offset 1; it was recorded, and 3 committed. The
-- pages were synced, checkpoint 3 was flushed, and the log was forgotten before it. Then 4 committed, and a crash came
-- before that was flushed. What it left fits, and wrong volumes don't.
use Rattle.std.specs.Prelude.{ℕ, zero, suc, ◌-◌, List, [], ◌∷◌, ◌++◌, length, replicate, Some, None}
use Rattle.disk_core.specs.Pages.{Pages}
use Rattle.disk_core.specs.Volume.{Volume}
use Rattle.tx_events.specs.declared.multi.Member.{Member}
use Rattle.tx_events.specs.declared.multi.Mode.TheVariants.{ForUpd, Sh}
use Rattle.tx_events.specs.declared.record.Counters.{Counters}
use Rattle.tx_events.specs.declared.record.Rec.{Rec}
use Rattle.tx_events.specs.declared.record.Rec.TheVariants as records
use Rattle.recoverable.specs.Fit.{KeptLog, XactFits, base_at}
use Rattle.recoverable.specs.FitMultis.{MembersFit, OffsetsFit}
use Rattle.recoverable.specs.Volumes.{ImageFits, KeepsUpTo, Left, ListFits, LogFits, Restored, checkpoint_of}

-- ---- the log

abbrev pub counters_at_3 : Counters
counters_at_3 = record { next = 5; oldest = 3; multi = 2; offset = 3; oldest_multi = 1; oldest_offset = 1 }

abbrev pub members : List Member
members = record { id = 3; mode = ForUpd } ∷ record { id = 4; mode = Sh } ∷ []

abbrev pub first_counters : Counters
first_counters = record { next = 3; oldest = 3; multi = 1; offset = 1; oldest_multi = 1; oldest_offset = 1 }

abbrev pub recs : List Rec
recs =
    records.Checkpoint 0 first_counters ∷ records.Multi 1 1 members ∷ records.Commit 3 []
    ∷ records.Checkpoint 3 counters_at_3 ∷ records.Commit 4 [] ∷ []

abbrev pub log : KeptLog
log = record {
  base = record { counters = first_counters; committed = []; recorded = [] };
  first = 0;
  recs = recs;
  flushed = 4;
}

-- ---- what the crash left

-- the log's volume from the checkpoint on: an open gate, a length, the record, a closed gate
abbrev pub checkpoint_bytes : List ℕ
checkpoint_bytes =
    4 ∷ 3 ∷ 0 ∷ 0 ∷ 0 ∷ 0 ∷ 0 ∷ 0 ∷ 0
    ∷ 5 ∷ 0 ∷ 0 ∷ 0 ∷ 0 ∷ 0 ∷ 0 ∷ 0 ∷ 3 ∷ 0 ∷ 0 ∷ 0 ∷ 0 ∷ 0 ∷ 0 ∷ 0
    ∷ 2 ∷ 0 ∷ 0 ∷ 0 ∷ 0 ∷ 0 ∷ 0 ∷ 0 ∷ 3 ∷ 0 ∷ 0 ∷ 0 ∷ 0 ∷ 0 ∷ 0 ∷ 0
    ∷ 1 ∷ 0 ∷ 0 ∷ 0 ∷ 0 ∷ 0 ∷ 0 ∷ 0 ∷ 1 ∷ 0 ∷ 0 ∷ 0 ∷ 0 ∷ 0 ∷ 0 ∷ 0 ∷ []

abbrev pub log_bytes : List ℕ
log_bytes = replicate 160 0 ++ 1 ∷ 57 ∷ 0 ∷ 0 ∷ 0 ∷ checkpoint_bytes

abbrev pub log_volume : ℕ → Volume
log_volume gate = record { start = 160; bytes = log_bytes ++ gate ∷ [] }

-- the same cut at its closed gate
abbrev pub cut_volume : Volume
cut_volume = record { start = 160; bytes = log_bytes }

-- a volume with one page, which begins with these bytes
abbrev pub page_with : List ℕ → Pages
page_with bytes zero = Some (bytes ++ replicate (8192 - length bytes) 0)
page_with bytes (suc q) = None

-- of each of four ids two bits: that of 3 is committed
abbrev pub states : Pages
states = page_with (64 ∷ [])

-- multixact 1 has offset 1
abbrev pub offsets : Pages
offsets = page_with (0 ∷ 0 ∷ 0 ∷ 0 ∷ 1 ∷ [])

-- offsets 1 and 2 have modes 3 and 1, and ids 3 and 4
abbrev pub slots : ℕ → Pages
slots mode = page_with (0 ∷ mode ∷ 1 ∷ 0 ∷ 0 ∷ 0 ∷ 0 ∷ 0 ∷ 3 ∷ 0 ∷ 0 ∷ 0 ∷ 4 ∷ [])

abbrev pub left : Left
left = record { log = log_volume 0; xact = λ bank. states; offsets = λ bank. offsets; members = λ bank. slots 3 }

-- ---- what holds of it

pub record IsWorked : Type 0 where
  pub list : ListFits log
  pub fits : ImageFits 1 log left

-- What doesn't fit: the state of 3 was lost though the log was forgotten behind its commit; 4 shows committed though its
-- commit isn't on disk; the offset was lost; a mode is torn; the log's last gate is open; its volume was cut there. And
-- where one of these pages is among what was left of all volumes, this doesn't fit.
pub record AreRefused : Type 0 where
  pub lost_state : XactFits 1 0 log 3 (page_with []) → ⊥
  pub early_state : XactFits 1 0 log 3 (page_with (64 ∷ 1 ∷ [])) → ⊥
  pub lost_offset : OffsetsFit 1 0 log 3 (page_with []) → ⊥
  pub torn_mode : MembersFit 1 0 log 3 (slots 2) → ⊥
  pub open_gate : LogFits log 3 (log_volume 1) → ⊥
  pub cut : LogFits log 3 cut_volume → ⊥
  pub lost_states : ImageFits 1 log (record left { xact = λ bank. page_with [] }) → ⊥
  pub lost_offsets : ImageFits 1 log (record left { offsets = λ bank. page_with [] }) → ⊥
  pub torn_modes : ImageFits 1 log (record left { members = λ bank. slots 2 }) → ⊥

-- ---- what a recovery leaves

-- It found the records below 4 and wrote a checkpoint behind them: so the commit of 4 is none.
abbrev pub later : KeptLog
later = record {
  base = base_at log 3;
  first = 3;
  recs = records.Checkpoint 3 counters_at_3 ∷ records.Checkpoint 4 counters_at_3 ∷ [];
  flushed = 5;
}

pub record IsRestored : Type 0 where
  pub keeps : KeepsUpTo log later 4 (checkpoint_of 4 (base_at log 4))
  pub restored : Restored 1 later 4 counters_at_3 left
