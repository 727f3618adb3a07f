-- Live snapshots in the table.
use Rattle.std.specs.Prelude.{◌≡◌, ℕ, zero, suc, ◌+◌, ◌==◌, false, not, cond, List, [], ◌∷◌, Option, Some, None, Vec}
use Rattle.std.specs.List.{count_by, filter, list_any}
use Rattle.std.specs.BTreeMap.{BTreeMap, get_by}
use Rattle.std.specs.Cmp.Lexicographic.{slice_cmp}
use Rattle.std.specs.Ordering.{nat_cmp}
use Rattle.counted_map.specs.declared.CountedMap.{CountedMap}
use Rattle.counted_map.specs.Counts.{Counts}
use Rattle.tx_events.specs.Horizon.{LiveSnap, is_snap_of}
use Rattle.tx_events.specs.Events.{same_name}
use Rattle.proc_table.specs.declared.live.LiveSnapshots.{LiveSnapshots}
use Rattle.proc_table.specs.declared.named.NamedXmin.{NamedXmin}
use Rattle.proc_table.specs.declared.named.NamedXmins.{NamedXmins}

-- the xmin of the first snapshot of this session and name
abbrev pub live_xmin : ℕ → List ℕ → List LiveSnap → Option ℕ
live_xmin session name [] = None
live_xmin session name (s ∷ ss) = cond (is_snap_of session name s) (Some s.xmin) (live_xmin session name ss)

-- without those of this session and name
abbrev pub others : ℕ → List ℕ → List LiveSnap → List LiveSnap
others session name snaps = filter (λ s. not (is_snap_of session name s)) snaps

-- no snapshot has the session and name of one after it
abbrev pub AreApart : List LiveSnap → Type 0
AreApart [] = Unit {0}
AreApart (s ∷ ss) = (list_any (is_snap_of s.session s.name) ss ≡ false) × AreApart ss

-- how many have this xmin
abbrev pub with_xmin : List LiveSnap → ℕ → ℕ
with_xmin snaps xmin = count_by (λ s. s.xmin == xmin) snaps

-- the map has each of these numbers that isn't 0, and nothing else
abbrev pub IsTally : (ℕ → ℕ) → CountedMap ℕ → Type 0
IsTally f counts = Counts nat_cmp f counts

-- one more at x
abbrev pub one_more : ℕ → (ℕ → ℕ) → ℕ → ℕ
one_more x f y = f y + cond (x == y) 1 0

-- what is under a name, where the snapshot that was taken last is this one and the earlier ones have so much
abbrev pub xmin_in_place : List ℕ → Option NamedXmin → Option ℕ → Option ℕ
xmin_in_place name None earlier = earlier
xmin_in_place name (Some last) earlier = cond (same_name last.name name) (Some last.xmin) earlier

-- the xmin that is kept under the bytes of a name
abbrev pub xmin_of_bytes : {Z : Type 0} → List ℕ → BTreeMap (Vec ℕ Z) ℕ → Option ℕ
xmin_of_bytes name earlier = get_by (λ k. slice_cmp nat_cmp name k.items) earlier

-- the xmin that one session has under a name
abbrev pub xmin_under : List ℕ → NamedXmins → Option ℕ
xmin_under name names = xmin_in_place name names.last (xmin_of_bytes name names.earlier)

-- the xmin that the session of this number has under a name
abbrev pub kept_xmin : List NamedXmins → ℕ → List ℕ → Option ℕ
kept_xmin [] session name = None
kept_xmin (names ∷ sessions) zero name = xmin_under name names
kept_xmin (names ∷ sessions) (suc session) name = kept_xmin sessions session name

-- these are the live snapshots, in whatever order
pub record HoldsLive (snaps : List LiveSnap) (l : LiveSnapshots) : Type 0 where
  -- a session has one of a name
  pub apart : AreApart snaps
  pub names : (session : ℕ) (name : List ℕ) → kept_xmin l.sessions.items session name ≡ live_xmin session name snaps
  pub xmins : IsTally (with_xmin snaps) l.xmins
