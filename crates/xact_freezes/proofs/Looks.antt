-- What a trim looks at.
use Rattle.std.proofs.Common.{◌≡◌, ℕ, [], arith, refl}
use Rattle.disk_core.specs.declared.log_disk.LogDisk as logs
use Rattle.disk_core.specs.declared.page_disk.PageDisk as disks
use Rattle.hall.specs.declared.hall.Hall.{Hall}
use Rattle.hall.specs.Calls.{IsOf, start_of, view}
use Rattle.tx_core.specs.declared.entry.Entry.{Entry}
use Rattle.tx_core.specs.declared.entry.Start.{Start}
use Rattle.tx_core.specs.Locks.{multi_lock}
use Rattle.engine_parts.specs.declared.part.Part.{Part}
use Rattle.engine_parts.specs.declared.session.Caller.{Caller}
use Rattle.engine_parts.specs.Adding.{IsPlain}
use Rattle.engine_parts.specs.Calls.{MayStep}
use Rattle.engine_parts.specs.Holds.{ProcSection, Section}
use Rattle.engine_parts.specs.Sessions.{IsReady, by_at, look_by}
use Rattle.engine_parts.specs.Steps.{WentMulti, WentOn}
use Rattle.engine_parts.proofs.Sectioning.{shared_adds}
use Rattle.engine_parts.proofs.Unmoved.{look_adds}
use Rattle.xact_freezes.specs.Visits.{Visited}
use Rattle.xact_freezes.proofs.Going.{visited_now, visited_then, went_none}

module _ {H L P : Type 0} {l : logs.Ghosts L} {p : disks.Ghosts P} where
  -- Up to the look at the horizons, from there to that at the multixacts, and both.
  pub record HasLooked (hall : Hall H (Part L P l p) Entry Start) (banks : ℕ) (u b d : Caller L P l p) : Type 0 where
    pub near : Visited hall banks IsPlain [] u b
    pub far : Visited hall banks IsPlain [] b d
    pub all : Visited hall banks IsPlain [] u d

module _ {H L P : Type 0} {l : logs.Ghosts L} {p : disks.Ghosts P} (hall : Hall H (Part L P l p) Entry Start) (banks : ℕ) where
  looked : (old new : Caller L P l p) → MayStep hall banks old → ProcSection (start_of hall) (look_by old.number old.session) (view old.pass) (view new.pass) → IsOf hall new.pass → IsReady (start_of hall) (view new.pass) new.number new.session → WentOn old.number [] (view old.pass).seen (view new.pass).seen
      → (new.session ≡ old.session) × (new.number ≡ old.number) → Visited hall banks IsPlain [] old new
  looked old new m section own ready went same =
      visited_now hall banks IsPlain [] old new m own ready (went_none old.number (view old.pass).seen (view new.pass).seen went) same
      (look_adds (start_of hall) (view old.pass) (view new.pass) old.number old.session IsPlain m.may.ready.at (λ number. tt) tt section)

  looked_multis : (old new : Caller L P l p) → MayStep hall banks old → Section (start_of hall) multi_lock (look_by old.number old.session) (view old.pass) (view new.pass) → IsOf hall new.pass → IsReady (start_of hall) (view new.pass) new.number new.session → WentMulti old.number [] (view old.pass).seen (view new.pass).seen
      → (new.session ≡ old.session) × (new.number ≡ old.number) → Visited hall banks IsPlain [] old new
  looked_multis old new m section own ready went same =
      visited_now hall banks IsPlain [] old new m own ready went same
      (shared_adds (start_of hall) (view old.pass) (view new.pass) multi_lock (look_by old.number old.session) (by_at old.number old.session.levels.commands) old.session IsPlain (omega arith) m.may.ready.at section refl tt)

  -- the counters with which the life began, the horizons and the counters of multixacts, one after another
  pub trim_looks : (u a b d : Caller L P l p) → MayStep hall banks u
      → ProcSection (start_of hall) (look_by u.number u.session) (view u.pass) (view a.pass) → IsOf hall a.pass → IsReady (start_of hall) (view a.pass) a.number a.session → WentOn u.number [] (view u.pass).seen (view a.pass).seen → (a.session ≡ u.session) × (a.number ≡ u.number)
      → ProcSection (start_of hall) (look_by a.number a.session) (view a.pass) (view b.pass) → IsOf hall b.pass → IsReady (start_of hall) (view b.pass) b.number b.session → WentOn a.number [] (view a.pass).seen (view b.pass).seen → (b.session ≡ a.session) × (b.number ≡ a.number)
      → Section (start_of hall) multi_lock (look_by b.number b.session) (view b.pass) (view d.pass) → IsOf hall d.pass → IsReady (start_of hall) (view d.pass) d.number d.session → WentMulti b.number [] (view b.pass).seen (view d.pass).seen → (d.session ≡ b.session) × (d.number ≡ b.number)
      → HasLooked hall banks u b d
  trim_looks u a b d m xs xo xr xw xe ys yo yr yw ye zs zo zr zw ze =
      let one : Visited hall banks IsPlain [] u a = looked u a m xs xo xr xw xe in
      let two : Visited hall banks IsPlain [] a b = looked a b one.step ys yo yr yw ye in
      let upto : Visited hall banks IsPlain [] u b = visited_then hall banks IsPlain IsPlain IsPlain [] [] u a b (λ lock kind m. m) (λ lock kind m. m) one two in
      let three : Visited hall banks IsPlain [] b d = looked_multis b d two.step zs zo zr zw ze in record {
        near = upto;
        far = three;
        all = visited_then hall banks IsPlain IsPlain IsPlain [] [] u b d (λ lock kind m. m) (λ lock kind m. m) upto three;
      }
