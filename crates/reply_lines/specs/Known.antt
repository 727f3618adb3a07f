-- What is known of a life before its lines are judged.
use Rattle.std.specs.Prelude.{◌≡◌, ℕ, ◌<◌, ◌==◌, ◌↔◌, IsTrue, List, Contains, drop, length, map}
use Rattle.std.specs.BTreeSet.{contains}
use Rattle.std.specs.List.{All, list_any}
use Rattle.std.specs.Ordering.{nat_cmp}
use Rattle.tx_events.specs.Base.{IsBase}
use Rattle.tx_events.specs.declared.event.By.{By}
use Rattle.tx_events.specs.declared.multi.Member.{Member}
use Rattle.tx_events.specs.declared.multi.MultiEvent.{MultiEvent}
use Rattle.tx_events.specs.Events.{by_of}
use Rattle.tx_events.specs.Multis.{multi_by}
use Rattle.tx_model.specs.declared.report.LifeReport.{LifeReport}
use Rattle.life_law.specs.DidCommit.{IsRecorded}
use Rattle.life_law.specs.Pending.{is_commit_of}
use Rattle.history_places.specs.IdMarks.{AreMarks}
use Rattle.history_places.specs.SnapMarks.{AreSnapMarks}
use Rattle.place_columns.specs.Counted.{AreCounts}
use Rattle.history_places.specs.Starts.{start_of}
use Rattle.place_columns.specs.Lined.{bys_of, line_by, lines_from}
use Rattle.place_columns.specs.Owned.{AreAllOwn}
use Rattle.history_places.specs.Opens.{AreOpenCounts}
use Rattle.reply_rules.specs.Ends.{IsLogEnd}
use Rattle.reply_rules.specs.Logs.{AreLogs}
use Rattle.report_law.specs.Begun.{Begun}
use Rattle.report_law.specs.Steps.{Judged, gave_multi, lines_of}
use Rattle.event_rules.specs.Lined.{AreLinesInOrder, events_in, multis_in}
use Rattle.event_rules.specs.SnapsTold.{told_by}
use Rattle.event_rules.specs.Fronts.{IsFront, IsMultiFront}
use Rattle.multi_rules.specs.Gens.{AreStartsOf, is_ok_gen}
use Rattle.multi_rules.specs.Limits.{AreHeldLimits}
use Rattle.multi_rules.specs.Snapped.{AreTakenByLines}
use Rattle.multi_rules.specs.Stored.{AreHomes}
use Rattle.turn_links.specs.Links.{AreAllLinks}
use Rattle.reply_lines.specs.declared.known.Known.{Known}
use Rattle.reply_lines.specs.declared.known.Kept.{Kept}

pub record IsKnown (j : Judged) (k : Known) : Type 0 where
  pub base : IsBase j.begun.counters
  pub order : AreLinesInOrder j
  pub few : All (λ (b : By). b.session < 64) (map line_by (lines_of j))
  pub table : k.table ≡ lines_from 0 j.steps
  pub events : k.events ≡ events_in j
  pub multis : k.multis ≡ multis_in j
  pub counts : AreCounts j.begun.counters j.life.events j.life.multis k.counts
  pub front : IsFront j.begun.counters j.life.events k.places
  pub snaps : AreSnapMarks j.begun.counters.next k.places.events (told_by j) k.snaps.items
  pub turns : AreAllOwn (map by_of k.places.events) 64 k.turns.items
  pub marks : AreMarks k.places.events k.marks.items
  pub opened : AreOpenCounts k.places.events k.opened.items
  pub taken : AreTakenByLines j.begun.counters.next k.places.events (bys_of (lines_from 0 j.steps)) k.taken.items
  pub multi_front : IsMultiFront j.begun.counters k.multi_places.starts j.life.multis k.multi_places
  pub offsets : (multi offset : ℕ) → Contains k.multi_places.starts (start_of multi offset) ↔ ((members : List Member) × Contains j.begun.recorded (multi, offset, members))
  pub multi_turns : AreAllOwn (map multi_by k.multi_places.events) 64 k.multi_turns.items
  pub links : AreAllLinks k.multi_turns.items k.multi_links.items
  pub held : AreHeldLimits j.begun.counters k.multi_places.events k.held.items
  pub oks : k.oks.items ≡ map (λ (e : MultiEvent). gave_multi (lines_of j) (multi_by e)) j.life.multis
  pub late : (x : ℕ) → contains nat_cmp k.late x ≡ list_any (is_ok_gen (gave_multi (lines_of j)) x) (drop (length k.multi_places.events) j.life.multis)
  pub tops : (x : ℕ) → contains nat_cmp k.tops x ≡ list_any (is_commit_of x) j.life.recs
  pub recorded : (x : ℕ) → IsTrue (contains nat_cmp k.recorded x) ↔ IsRecorded j.life.recs x
  pub logs : AreLogs j k.logs
  pub log_end : IsLogEnd j k.end

-- what the lives before have left
pub record IsKept (begun : Begun) (lives : List LifeReport) (k : Kept) : Type 0 where
  pub committed : (x : ℕ) → contains nat_cmp k.committed x ≡ list_any (λ z. z == x) begun.committed
  pub starts : AreStartsOf begun.recorded k.starts.items
  pub homes : AreHomes lives begun.recorded k.homes.items
