use Rattle.tx_events.proofs.ListSteps.{not_both}
use Rattle.std.proofs.Common.{◌≡◌, ◌⊎◌, inl, inr, ℕ, ◌≤◌, true, false, not, ◌∙◌, ap, subst, arith, length}
use Rattle.std.specs.Prelude.{is_some}
use Rattle.disk_core.specs.Volume.{Volume, Wrote}
use Rattle.disk_core.specs.Moments.{leaves_weaker}
use Rattle.wal_core.specs.Crash.{IsWritten}
use Rattle.wal_core.specs.Log.{OpensAs}
use Rattle.wal_core.proofs.GateWrites.{torn_gate_opens, opens_as, is_within, is_short}
use Rattle.wal_core.proofs.log_start.close_gate.Goals.{then-is_none, else-is_none, else-found-least-via-then-found-least+else-found, else-found-least-via-else-found-least}
use Rattle.wal_core.proofs.log_start.close_gate.Goals as goal

pub returns-clause-any_moment : goal.returns-clause-any_moment
returns-clause-any_moment g c told within =
    let d = g.D.LogDisk in let d0 = c.args.disk.now in let found = c.args.found.now in
    let v : Volume = d.reads d0 in let least : ℕ = c.if-is_none.least in
    let some : is_some found.counters ≡ true → least ≡ 0 = λ some. elim c.if-is_none.branch [
      | then-is_none w ↦ not_both (is_some found.counters) some (c.is_none.ensures ∙ ap not w.if-is_none.true)
      | else-is_none w ↦ w.least-is
    ] in
    let none : is_some found.counters ≡ false → least ≡ 1 = λ none. elim c.if-is_none.branch [
      | then-is_none w ↦ w.least-is
      | else-is_none w ↦ not_both (is_some found.counters) (c.is_none.ensures ∙ ap not w.if-is_none.false) none
    ] in
    let test : (length v.bytes ≤ found.gate) ⊎ (length v.bytes ≤ least) = elim c.else-found-least.branch [
      | else-found-least-via-then-found-least+else-found w ↦ inl (omega (arith, w.if-found.false, c.requires.reach told))
      | else-found-least-via-else-found-least w ↦ inr (omega (arith, w.if-found-least.false, c.requires.reach told))
    ] in
    leaves_weaker d.moment d.left_at d0 c.write_and_sync.new.disk (IsWritten (d.images d0) found.gate 1) (OpensAs v) (c.write_and_sync.ensures.any_moment told) (λ y from.
    let wrote : Wrote found.gate 1 v y = subst (λ (z : Volume). Wrote found.gate 1 z y) (c.requires.synced told from.0 from.1) from.2 in
    opens_as v y (torn_gate_opens v y found.first found.gate found.recs found.counters (c.requires.read told) (is_within found.counters least (length v.bytes) found.gate some test within)
    (is_short found.counters least (length v.bytes) found.gate none test) wrote) wrote.torn.no_shorter)
