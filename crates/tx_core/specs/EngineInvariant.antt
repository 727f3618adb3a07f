-- What the lists of all locks keep.
use Rattle.std.specs.Prelude.{ℕ, List}
use Rattle.tx_core.specs.declared.entry.Entry.{Entry}
use Rattle.tx_core.specs.declared.entry.Start.{Start}
use Rattle.notes.specs.Lists.{at}
use Rattle.tx_core.specs.EventsLegal.{EventsLegal, MayBeLegal}
use Rattle.tx_core.specs.PagesBeforeIds.{PagesBeforeIds, MayHavePages}
use Rattle.tx_core.specs.ParentsFollow.{ParentsFollow, NeedsSubs}
use Rattle.tx_core.specs.CommitRecordsExact.{CommitRecordsExact, MayBeExact}
use Rattle.tx_core.specs.LogBeforeStatus.{LogBeforeStatus, MayFollowLog}
use Rattle.tx_core.specs.StatusBeforeCommit.{StatusBeforeCommit, NeedsStates}
use Rattle.tx_core.specs.AbortRule.{AbortRule, MayAbort}
use Rattle.tx_core.specs.ProgramOrder.{ProgramOrder, MayComeNext}
use Rattle.tx_core.specs.RecordsFollow.{RecordsFollow, MayFollow}
use Rattle.tx_core.specs.CutsFollow.{CutsFollow, NeedsCut}
use Rattle.tx_core.specs.MultisLegal.{MultisLegal, NeedsMulti}
use Rattle.tx_core.specs.MembersBeforeOffset.{MembersBeforeOffset, MaySetMulti}
use Rattle.tx_core.specs.SyncsBeforeForgets.{SyncsBeforeForgets, NeedsSync}
use Rattle.tx_core.specs.PostsFollow.{PostsFollow, NeedsPost}
use Rattle.tx_core.specs.FaultsRise.{FaultsRise, NeedsCount}
use Rattle.tx_core.specs.StaysDown.{StaysDown, NeedsUp}
use Rattle.tx_core.specs.RecordsOnce.{RecordsOnce, NeedsOnce}
use Rattle.tx_core.specs.AbortRecordsExact.{AbortRecordsExact, MayEndExactly}

-- The engine invariant, part by part. A further part is a field here and one below.
pub record EngineInvariant (start : Start) (lists : List (List Entry)) : Type 0 where
  pub events : EventsLegal start lists
  pub pages : PagesBeforeIds start lists
  pub parents : ParentsFollow lists
  pub records : CommitRecordsExact start lists
  pub status : LogBeforeStatus start lists
  pub commits : StatusBeforeCommit start lists
  pub aborts : AbortRule start lists
  pub order : ProgramOrder start lists
  pub log : RecordsFollow start lists
  pub cuts : CutsFollow start lists
  pub multis : MultisLegal start lists
  pub members : MembersBeforeOffset start lists
  pub syncs : SyncsBeforeForgets start lists
  pub posts : PostsFollow start lists
  pub faults : FaultsRise start lists
  pub down : StaysDown lists
  pub once : RecordsOnce lists
  pub ends : AbortRecordsExact lists

-- what a session shows of the lists that it has seen, before it adds an entry to one of them
pub record MayAdd (start : Start) (seen : List (List Entry)) (lock : ℕ) (e : Entry) : Type 0 where
  pub events : MayBeLegal start seen lock (at seen lock) e
  pub pages : MayHavePages start seen lock (at seen lock) e
  pub parents : NeedsSubs seen lock (at seen lock) e
  pub records : MayBeExact start seen lock (at seen lock) e
  pub status : MayFollowLog start seen lock (at seen lock) e
  pub commits : NeedsStates start seen lock (at seen lock) e
  pub aborts : MayAbort start seen lock (at seen lock) e
  pub order : MayComeNext start seen lock (at seen lock) e
  pub log : MayFollow start seen lock (at seen lock) e
  pub cuts : NeedsCut start seen lock (at seen lock) e
  pub multis : NeedsMulti start seen lock (at seen lock) e
  pub members : MaySetMulti start seen lock (at seen lock) e
  pub syncs : NeedsSync start seen lock (at seen lock) e
  pub posts : NeedsPost start seen lock (at seen lock) e
  pub faults : NeedsCount start seen lock (at seen lock) e
  pub down : NeedsUp seen lock (at seen lock) e
  pub once : NeedsOnce seen lock (at seen lock) e
  pub ends : MayEndExactly seen lock e
