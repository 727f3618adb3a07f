-- What the lives before have left to a life that begins.
use Rattle.std.specs.Prelude.{◌≡◌, ℕ, ◌+◌, ◌<◌, ◌↔◌, ◌==◌, ◌||◌, List, [], ◌∷◌, ◌++◌, Option, None, Contains, map}
use Rattle.std.specs.Bool.{then_some}
use Rattle.std.specs.BTreeSet.{contains}
use Rattle.std.specs.List.{cons_option, filter_map, flat_map, list_any}
use Rattle.std.specs.Ordering.{nat_cmp}
use Rattle.tx_events.specs.declared.multi.Member.{Member}
use Rattle.tx_events.specs.declared.multi.MultiEvent.{MultiEvent}
use Rattle.tx_events.specs.declared.multi.MultiEvent.TheVariants as multis
use Rattle.tx_events.specs.declared.record.Rec.{Rec}
use Rattle.tx_events.specs.Base.{IsBase}
use Rattle.tx_model.specs.declared.report.LifeReport.{LifeReport}
use Rattle.report_law.specs.Begun.{Begun, begun_from, committed_by}
use Rattle.report_law.specs.Records.{is_same_multi}
use Rattle.history_places.specs.declared.start.Start.{Start}
use Rattle.history_places.specs.Starts.{FitsBase, start_of}
use Rattle.multi_rules.specs.declared.homes.Home.{Home}
use Rattle.multi_rules.specs.Stored.{IsHome}
use Rattle.reply_lines.specs.declared.known.Kept.{Kept}

-- where the multixacts begin that the log has recorded
pub record AreStarts (b : Begun) (starts : List Start) : Type 0 where
  pub fits : FitsBase b.counters starts
  pub below : (s : Start) → Contains starts s → s.multi < b.counters.multi
  pub are : (multi offset : ℕ) → Contains starts (start_of multi offset) ↔ ((members : List Member) × Contains b.recorded (multi, offset, members))
  pub once : (multi o p : ℕ) (ms ns : List Member) → Contains b.recorded (multi, o, ms) → Contains b.recorded (multi, p, ns) → ms ≡ ns

-- where the multixact begins that the event gives, if it is one of these records'
abbrev pub kept_start : List Rec → MultiEvent → Option Start
kept_start recs (multis.Gen by multi offset members) = then_some (list_any (is_same_multi multi) recs) (start_of multi offset)
kept_start recs e = None

-- and by which event of which life it was given
abbrev pub kept_home : List Rec → ℕ → ℕ → MultiEvent → Option Home
kept_home recs life place (multis.Gen by multi offset members) =
    then_some (list_any (is_same_multi multi) recs) (record { multi = multi; offset = offset; life = life; event = place })
kept_home recs life place e = None

-- those of these events, of which the first stands at this place
abbrev pub kept_homes : List Rec → ℕ → ℕ → List MultiEvent → List Home
kept_homes recs life place [] = []
kept_homes recs life place (e ∷ es) = cons_option (kept_home recs life place e) (kept_homes recs life (place + 1) es)

abbrev pub start_at : Home → Start
start_at home = start_of home.multi home.offset

-- the event there gives a multixact that the log has recorded, with these members
pub record IsLivedIn (lives : List LifeReport) (b : Begun) (home : Home) : Type 0 where
  pub members : List Member
  pub given : IsHome lives home members
  pub recorded : Contains b.recorded (home.multi, home.offset, members)

-- what the life begins from that comes behind these lives: its committed ids, and the multixacts that the log has recorded,
-- with where they begin and where they were given
pub record IsLeft (b : Begun) (lives : List LifeReport) (kept : Kept) : Type 0 where
  pub base : IsBase b.counters
  pub committed : (x : ℕ) → contains nat_cmp kept.committed x ≡ list_any (λ z. z == x) b.committed
  pub starts : AreStarts b kept.starts.items
  pub same : map start_at kept.homes.items ≡ kept.starts.items
  pub homes : (home : Home) → Contains kept.homes.items home → IsLivedIn lives b home

-- how what is kept grew by these records of a life, and its multixacts
pub record HasGrown (old new : Kept) (life : ℕ) (recs : List Rec) (multis : List MultiEvent) : Type 0 where
  pub committed : (x : ℕ) → contains nat_cmp new.committed x ≡ (contains nat_cmp old.committed x || list_any (λ z. z == x) (flat_map committed_by recs))
  pub starts : new.starts.items ≡ old.starts.items ++ filter_map (kept_start recs) multis
  pub homes : new.homes.items ≡ old.homes.items ++ kept_homes recs life 0 multis

-- nothing is left yet
pub record IsNothingKept (kept : Kept) : Type 0 where
  pub committed : (x : ℕ) → contains nat_cmp kept.committed x ≡ list_any (λ z. z == x) []
  pub starts : kept.starts.items ≡ []
  pub homes : kept.homes.items ≡ []

-- what is kept behind these lives, before the next one begins: what the last of them began from
pub record IsLeftBefore (lives : List LifeReport) (kept : Kept) : Type 0 where
  pub first : lives ≡ [] → IsNothingKept kept
  pub later : (before : List LifeReport) (last : LifeReport) → lives ≡ before ++ last ∷ [] → IsLeft (begun_from before last.life) before kept
