-- A host that has all names: it is alone at the locks, and may let in whom it might have let in before.
use Rattle.std.proofs.Common.{◌≡◌, ℕ, ⊎_elim, List, [], Bool, false, length, slice_index_or, inl, inr, refl, sym, ap, subst, ◌∙◌, arith}
use Rattle.disk_core.specs.declared.log_disk.LogDisk as logs
use Rattle.disk_core.specs.declared.page_disk.PageDisk as disks
use Rattle.hall.specs.declared.hall.Hall.{Hall}
use Rattle.hall.specs.declared.pass.Token.{Token}
use Rattle.hall.specs.declared.view.Stage.TheVariants.{Free}
use Rattle.hall.specs.Calls.{IsOf, start_of, view}
use Rattle.hall.specs.Rule.{Holds}
use Rattle.hall.specs.Told.{released}
use Rattle.notes.specs.Lists.{Knows}
use Rattle.tx_events.proofs.Membership.{contains_has}
use Rattle.tx_core.specs.declared.entry.Entry.{Entry}
use Rattle.tx_core.specs.declared.entry.Start.{Start}
use Rattle.tx_core.specs.EngineInvariant.{EngineInvariant}
use Rattle.tx_core.specs.Entries.{session_of}
use Rattle.engine_parts.specs.declared.part.Part.{Part}
use Rattle.engine_parts.specs.declared.session.Session.{Session}
use Rattle.engine_parts.specs.Alone.{IsAlone, IsIn}
use Rattle.engine_parts.specs.Holds.{Knowledge}
use Rattle.engine_host.specs.declared.host.Host.{Host}
use Rattle.engine_host.specs.Hosts.{IsParked}
use Rattle.engine_host.specs.Homes.{IsHome, StaysHome}
use Rattle.engine_host.proofs.Parking.{parked_on, parked_still}

module _ {H L P : Type 0} {l : logs.Ghosts L} {p : disks.Ghosts P} where
  pub is_alone : (hall : Hall H (Part L P l p) Entry Start) (host : Host L P l p) → IsHome hall host → IsAlone hall host.pass
  is_alone hall host home =
      let h = home.is_host in record {
        own = h.own;
        free = h.free;
        laid = h.laid;
        banks = (let same = h.banks in let few = h.cluster.banks.1 in omega (arith, same, few));
        name = h.name ∙ sym h.sessions;
        all = λ n below. ⊎_elim (λ held. held) (λ k. absurd (contains_has [] n k)) (home.all n (omega (arith, below, h.sessions)));
      }

  -- with another pass of its name and its names
  module _ (hall : Hall H (Part L P l p) Entry Start) (old new : Host L P l p) (home : IsHome hall old) (own : IsOf hall new.pass) (free : (view new.pass).stage ≡ Free) (name : (view new.pass).name ≡ (view old.pass).name) (holds : (view new.pass).holds ≡ (view old.pass).holds) (cluster : new.cluster ≡ old.cluster) (start : new.start ≡ old.start) where
    still_holds : (n : ℕ) → Holds (view old.pass) n → Holds (view new.pass) n
    still_holds n has = ap (λ (bs : List Bool). slice_index_or bs n false) holds ∙ has

    abbrev there : Host L P l p
    there = record new { cluster = old.cluster; start = old.start }

    there_is : there ≡ new
    there_is j = record new { cluster = sym cluster j; start = sym start j }

    pub home_again : IsHome hall new
    home_again =
        let h = home.is_host in
        subst (λ (z : Host L P l p). IsHome hall z) there_is (record {
          is_host = record {
            own = own;
            free = free;
            cluster = h.cluster;
            start = h.start;
            laid = h.laid;
            banks = h.banks;
            sessions = h.sessions;
            base = h.base;
            before = h.before;
            passes = h.passes;
            name = name ∙ h.name;
          };
          all = λ n below. ⊎_elim (λ has. inl (still_holds n has)) (λ none. inr none) (home.all n below);
        })

    -- that has seen the same
    pub stays_home : (view new.pass).seen ≡ (view old.pass).seen → StaysHome hall old new
    stays_home seen =
        subst (λ (z : Host L P l p). StaysHome hall old z) there_is (record {
          home = subst (λ (z : Host L P l p). IsHome hall z) (sym there_is) home_again;
          cluster = refl;
          seen = seen;
          parked = λ n s q. record { held = still_holds n q.held; below = q.below; may = parked_still (start_of hall) (view old.pass) (view new.pass) n s seen q.may; few = q.few };
        })

    -- or more, and nothing more of the sessions that are parked
    pub stays_parked : EngineInvariant (start_of hall) (view new.pass).seen → length (view new.pass).seen ≡ length (view old.pass).seen → (n : ℕ) (s : Session) → Knows session_of n (view old.pass).seen (view new.pass).seen → IsParked hall old n s → IsParked hall new n s
    stays_parked kept long n s knows q =
        subst (λ (z : Host L P l p). IsParked hall z n s) there_is (record {
          held = still_holds n q.held;
          below = q.below;
          may = parked_on (start_of hall) (view old.pass) (view new.pass) n s knows long kept q.may;
          few = q.few;
        })

  -- a host that left a lock, in which nothing was done
  pub came_home : (hall : Hall H (Part L P l p) Entry Start) (lock : ℕ) (old new : Host L P l p) (within : Token (Part L P l p) Entry Start) → IsHome hall old → IsIn hall lock old.pass within → IsOf hall new.pass → view new.pass ≡ released (view within) → new.cluster ≡ old.cluster → new.start ≡ old.start → StaysHome hall old new
  came_home hall lock old new within home i own is cluster start =
      stays_home hall old new home own (ap (λ (z : Knowledge). z.stage) is) (ap (λ (z : Knowledge). z.name) is ∙ i.name) (ap (λ (z : Knowledge). z.holds) is ∙ i.holds) cluster start (ap (λ (z : Knowledge). z.seen) is ∙ i.seen)
