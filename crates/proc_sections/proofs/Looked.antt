-- What a look at the ProcArray leaves, which changes nothing there.
use Rattle.std.proofs.Common.{◌≡◌, ◌<◌, ℕ, [], length, refl, ap, arith}
use Rattle.notes.specs.Lists.{Grows}
use Rattle.tx_core.specs.declared.entry.Start.{Start}
use Rattle.tx_core.specs.Entries.{history}
use Rattle.tx_core.specs.Locks.{proc_lock}
use Rattle.engine_parts.specs.declared.session.Session.{Session}
use Rattle.engine_parts.specs.Faults.{look_of}
use Rattle.engine_parts.specs.Holds.{EntersProc, Knowledge, Leaves, ProcSection}
use Rattle.engine_parts.specs.Sessions.{IsAt, by_at, look_by}
use Rattle.engine_parts.specs.Steps.{WentOn}
use Rattle.engine_parts.proofs.Leaving.{grown_left, history_same}
use Rattle.engine_parts.proofs.Sectioning.{proc_quiet, proc_section_of, same_command}

pub record Looked (start : Start) (v u w : Knowledge) (n : ℕ) (s : Session) : Type 0 where
  pub section : ProcSection start (look_by n s) v w
  pub went : WentOn n [] v.seen w.seen
  pub still : history w.seen ≡ history u.seen
  pub grows : Grows u.seen w.seen

-- the lock was entered, and left with a look
pub looked : (start : Start) (v u w : Knowledge) (n m : ℕ) (s t : Session) → (t ≡ s) × (m ≡ n) → IsAt start v n s → EntersProc start (by_at n s.levels.commands) v u → Leaves start proc_lock (look_by m t) u w → Looked start v u w n s
looked start v u w n m s t same a e left =
    let wide = a.wide in
    let long = e.long in
    let inside : proc_lock < length u.seen = omega arith in record {
      section = proc_section_of start v u w (look_by m t) (look_by n s) e (ap look_of (same_command n m s t same.1 same.0)) left;
      went = proc_quiet start v u w n s (look_by m t) a e refl refl refl left;
      still = history_same start u w proc_lock (look_by m t) refl inside left;
      grows = grown_left start u w proc_lock (look_by m t) inside left;
    }
