-- What the marks of snapshots tell.
use Rattle.std.proofs.Common.{◌≡◌, ℕ, ◌<◌, ◌↔◌, List, length, map, take, refl, ap, sym, ◌∙◌, arith, Some, None, Option}
use Rattle.std.specs.List.{slice_get}
use Rattle.tx_events.specs.declared.event.By.{By}
use Rattle.tx_events.specs.declared.event.Event.{Event}
use Rattle.tx_events.specs.declared.event.Event.TheVariants as events
use Rattle.tx_events.specs.declared.snapshot.SnapData.{SnapData}
use Rattle.tx_events.specs.Events.{by_of}
use Rattle.tx_events.specs.Snapshots.{snapshot_data}
use Rattle.history_places.specs.declared.snaps.SnapMark.{SnapMark}
use Rattle.history_places.specs.SnapMarks.{AreSnapMarks, IsMarkOf, IsSnapMark}
use Rattle.report_law.specs.Kinds.{IsSnapAt}
use Rattle.place_rules.specs.Runs.{IsRightMark, Snapping}
use Rattle.place_rules.proofs.Looking.{by_at, event_at, some_at, within}

-- a snapshot's event is the command's
pub snap_by : (h : List Event) (by : By) (p : ℕ) → IsSnapAt h by p → slice_get (map by_of h) p ≡ Some by
snap_by h by p s = by_at h (events.Snap s.0 by) p s.1

record Marks (first : ℕ) (before : List Event) (told : Option SnapData) (e : Event) (m : SnapMark) : Type 0 where
  name : List ℕ
  is : e ≡ events.Snap name (by_of e)
  mark : IsMarkOf (snapshot_data first before) told m

marks : (first : ℕ) (before : List Event) (told : Option SnapData) (e : Event) (m : SnapMark) → IsSnapMark first before told e (Some m) → Marks first before told e m
marks first before told (events.Snap name by) m i = record { name = name; is = refl; mark = i }
marks first before told (events.Id by x) m i = absurd i
marks first before told (events.Sub by under x) m i = absurd i
marks first before told (events.Undo by x) m i = absurd i
marks first before told (events.Commit by x) m i = absurd i
marks first before told (events.Abort by x) m i = absurd i
marks first before told (events.SnapDrop name by) m i = absurd i
marks first before told (events.Oldest by oldest) m i = absurd i
marks first before told (events.Ask by x) m i = absurd i

record Marked (first : ℕ) (before : List Event) (told : Option SnapData) (o : Option SnapMark) : Type 0 where
  mark : SnapMark
  is : o ≡ Some mark
  so : IsMarkOf (snapshot_data first before) told mark

marked : (first : ℕ) (before : List Event) (told : Option SnapData) (by : By) (name : List ℕ) (o : Option SnapMark) → IsSnapMark first before told (events.Snap name by) o → Marked first before told o
marked first before told by name (Some m) i = record { mark = m; is = refl; so = i }
marked first before told by name None i = absurd i

-- a right mark stands where the command's snapshot holds what its reply tells
pub right_iff : (s : Snapping) (snaps : List (Option SnapMark)) (p : ℕ) → AreSnapMarks s.first s.events s.told snaps → s.told s.by ≡ Some s.lists → slice_get (map by_of s.events) p ≡ Some s.by
    → IsRightMark snaps p ↔ (IsSnapAt s.events s.by p × (s.lists ≡ snapshot_data s.first (take p s.events)))
right_iff s snaps p are told its = (
  λ r.
      let e = event_at s.events s.by p its in
      let m = marks s.first (take p s.events) (s.told (by_of e.event)) e.event r.mark (are.each p e.event (Some r.mark) e.stands r.stands) in
      let says : s.told (by_of e.event) ≡ Some (snapshot_data s.first (take p s.events)) = m.mark.right.0 r.right in
      let both : Some s.lists ≡ Some (snapshot_data s.first (take p s.events)) = sym told ∙ ap s.told (sym e.its) ∙ says in
      let same : s.lists ≡ snapshot_data s.first (take p s.events) = cc in
      ((m.name, e.stands ∙ ap Some (m.is ∙ ap (λ (b : By). events.Snap m.name b) e.its)), same),
  λ q.
      let low : p < length s.events = within s.events p (events.Snap q.0.0 s.by) q.0.1 in
      let n = are.size in
      let o = some_at snaps p (omega arith) in
      let m = marked s.first (take p s.events) (s.told s.by) s.by q.0.0 o.0 (are.each p (events.Snap q.0.0 s.by) o.0 q.0.1 o.1) in
      record { mark = m.mark; stands = o.1 ∙ ap Some m.is; right = m.so.right.1 (told ∙ ap Some q.1) },
)

-- a place of an event has a mark or none
pub snap_low : (first : ℕ) (h : List Event) (told : By → Option SnapData) (snaps : List (Option SnapMark)) (by : By) (p : ℕ) → AreSnapMarks first h told snaps → slice_get (map by_of h) p ≡ Some by → p < length snaps
snap_low first h told snaps by p are its =
    let e = event_at h by p its in
    let low : p < length h = within h p e.event e.stands in
    let n = are.size in
    omega arith
