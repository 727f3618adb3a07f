-- A commit whose record stands finds no log full.
use Rattle.std.proofs.Common.{Result, Ok, Err, IfErr, subst}
use Rattle.hall.specs.Calls.{view}
use Rattle.disk_core.specs.declared.log_disk.LogDisk as logs
use Rattle.disk_core.specs.declared.page_disk.PageDisk as disks
use Rattle.tx_events.specs.declared.event.By.{By}
use Rattle.tx_events.specs.declared.record.Rec.{Rec}
use Rattle.tx_events.specs.declared.refusal.Refusal.{Refusal}
use Rattle.tx_core.specs.declared.entry.Start.{Start}
use Rattle.engine_parts.specs.declared.session.Caller.{Caller}
use Rattle.engine_parts.specs.declared.session.Stage.{Stage}
use Rattle.engine_parts.specs.declared.session.Stage.TheVariants as stages
use Rattle.engine_parts.specs.Sessions.{by_at}
use Rattle.log_sections.specs.Rooms.{MetFull}
use Rattle.xact_ends.specs.Ends.{Commits}
use Rattle.xact_ends.specs.Stops.{Stops}

-- an end was begun
abbrev pub IsBegun : Stage → Type 0
IsBegun stages.Clear = ⊥
IsBegun stage = Unit {0}

pub recorded_never : {L P : Type 0} {l : logs.Ghosts L} {p : disks.Ghosts P} (start : Start) (u x : Caller L P l p) (by : By) (Is : Rec → Type 0) (r : Result (Unit {0}) Refusal) → IsBegun u.session.stage → Commits start u.number u.session x.session (view u.pass).seen (view x.pass).seen r → IfErr r (MetFull start (view x.pass).seen by Is)
recorded_never start u x by Is (Ok done) begun commits = tt
recorded_never start u x by Is (Err e) begun commits = λ is.
    let stops : Stops start (view x.pass).seen (by_at u.number u.session.levels.commands) u.session.stage x.session.stage e = commits.2 in
    absurd (subst IsBegun (subst (λ (z : Refusal). Stops start (view x.pass).seen (by_at u.number u.session.levels.commands) u.session.stage x.session.stage z) is stops).0 begun)
