-- Sessions that no thread runs: what they may do stays while others are let in and taken back.
use Rattle.std.proofs.Common.{ℕ, ◌<◌, ◌≤◌, ◌≡◌, List, length, refl, sym, subst, arith}
use Rattle.disk_core.specs.declared.log_disk.LogDisk as logs
use Rattle.disk_core.specs.declared.page_disk.PageDisk as disks
use Rattle.notes.specs.Lists.{Knows}
use Rattle.hall.specs.declared.hall.Hall.{Hall}
use Rattle.hall.specs.declared.view.Stage.TheVariants.{Free}
use Rattle.hall.specs.Calls.{start_of, view}
use Rattle.hall.specs.Rule.{Holds}
use Rattle.hall.specs.Told.{Moment, asking, given}
use Rattle.tx_core.specs.declared.entry.Entry.{Entry}
use Rattle.tx_core.specs.declared.entry.Start.{Start}
use Rattle.tx_core.specs.Entries.{session_of}
use Rattle.tx_core.specs.EngineInvariant.{EngineInvariant}
use Rattle.tx_events.specs.Base.{IsBase}
use Rattle.tx_events.specs.declared.record.Counters.{Counters}
use Rattle.engine_parts.specs.declared.part.Part.{Part}
use Rattle.engine_parts.specs.declared.session.Session.{Session}
use Rattle.engine_parts.specs.Holds.{Knowledge}
use Rattle.engine_parts.specs.Law.{writer_of}
use Rattle.engine_parts.specs.Sessions.{MayCall}
use Rattle.engine_parts.proofs.Going.{calls_stay}
use Rattle.engine_parts.proofs.Newness.{new_may_call}
use Rattle.engine_host.specs.declared.host.Host.{Host}
use Rattle.engine_host.specs.Hosts.{HasSeenNothing, IsHost, IsNewSession, IsParked}
use Rattle.engine_host.proofs.Hosting.{new_knows}

-- that a session may call goes by its name, what it has seen, and that it is inside no lock
may_by : (start : Start) (v w : Knowledge) (n : ℕ) (s : Session) → w.name ≡ v.name → w.seen ≡ v.seen → w.stage ≡ v.stage → MayCall start v n s → MayCall start w n s
may_by start v w n s name seen stage may =
    let there : Knowledge = record w { name = v.name; seen = v.seen; stage = v.stage } in
    let a = may.ready.at in
    let m : MayCall start there n s = record {
      ready = record {
        at = record {
          base = a.base;
          before = a.before;
          kept = a.kept;
          name = a.name;
          known = a.known;
          wide = a.wide;
          turns = a.turns;
          stands = a.stands;
          clear = a.clear;
          unaborted = a.unaborted;
          filed = a.filed;
          makes = a.makes;
        };
        free = may.ready.free;
      };
      stage = may.stage;
    } in
    let is : there ≡ w = λ i. record w { name = sym name i; seen = sym seen i; stage = sym stage i } in
    subst (λ (u : Knowledge). MayCall start u n s) is m

-- what the host has seen of a session that it lets in is what it had seen, whatever other passes it gives
pub parked_still : (start : Start) (v w : Knowledge) (n : ℕ) (s : Session) → w.seen ≡ v.seen → MayCall start (given (asking n v)) n s → MayCall start (given (asking n w)) n s
parked_still start v w n s seen may = may_by start (given (asking n v)) (given (asking n w)) n s refl seen refl may

-- what a pass that has the name knows of it goes on to what the host learns
learnt : (start : Start) (v u : Knowledge) (n : ℕ) (lists : List (List Entry)) → Moment session_of writer_of EngineInvariant start v lists → Holds v n → Knows session_of n v.seen lists
learnt start v u n lists m holds = record { grows = m.grows; own = λ place. (m.own_seen n holds).entries place }

-- so of what it has seen itself
pub parked_on : (start : Start) (v u : Knowledge) (n : ℕ) (s : Session) → Knows session_of n v.seen u.seen → length u.seen ≡ length v.seen → EngineInvariant start u.seen → MayCall start (given (asking n v)) n s → MayCall start (given (asking n u)) n s
parked_on start v u n s knows long law may =
    let to : Knowledge = given (asking n u) in
    let from : Knowledge = record (given (asking n v)) { holds = to.holds } in
    let may' : MayCall start from n s = may_by start (given (asking n v)) from n s refl refl refl may in
    calls_stay start from to n s may' (record { knows = knows; long = long; name = refl; holds = refl }) law refl

pub parked_later : (start : Start) (v u : Knowledge) (n : ℕ) (s : Session) → Moment session_of writer_of EngineInvariant start v u.seen → Holds v n → (w : Knowledge) → w.name ≡ n → w.seen ≡ v.seen → w.stage ≡ Free → MayCall start w n s → MayCall start (given (asking n u)) n s
parked_later start v u n s m holds w name seen free may =
    parked_on start v u n s (learnt start v u n u.seen m holds) m.long m.law (may_by start w (given (asking n v)) n s (sym name) (sym seen) (sym free) may)

module _ {H L P : Type 0} {l : logs.Ghosts L} {p : disks.Ghosts P} where
  -- a session that has done nothing may be let in under each name of a host that has seen nothing
  pub new_parked : (hall : Hall H (Part L P l p) Entry Start) (host : Host L P l p) (n : ℕ) (s : Session) → IsHost hall host → 2 ≤ hall.posts → HasSeenNothing host → Holds (view host.pass) n → n < host.cluster.sessions → IsNewSession s → IsParked hall host n s
  new_parked hall host n s is words unseen held below new =
      let start = start_of hall in
      let v = view host.pass in
      let base : IsBase start.base = subst (λ (b : Counters). IsBase b) (sym is.base) is.cluster.base in
      let fresh = new.0 in
      record {
        held = held;
        below = below;
        may = new_may_call start (given (asking n v)) n s (new_knows start v (given (asking n v)) n s base is.before unseen refl (omega (arith, below, is.sessions)) (omega (arith, is.own.wide, is.laid, words)) fresh new.1 new.2 new.3);
        few = omega (arith, fresh.0);
      }
