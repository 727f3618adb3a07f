-- What a host knows of the sessions that are parked.
use Rattle.std.proofs.Common.{◌≡◌, ◌≢◌, ℕ, suc, zero, ◌<◌, List, [], ◌∷◌, Option, None, Some, false, append-nil, length, refl, subst, sym, arith}
use Rattle.std.specs.List.{slice_get}
use Rattle.disk_core.specs.declared.log_disk.LogDisk as logs
use Rattle.disk_core.specs.declared.page_disk.PageDisk as disks
use Rattle.hall.specs.declared.hall.Hall.{Hall}
use Rattle.hall.specs.Calls.{start_of, view}
use Rattle.tx_events.specs.declared.refusal.Refusal.{Refusal}
use Rattle.tx_events.specs.declared.refusal.Refusal.TheVariants as refusals
use Rattle.tx_model.specs.declared.reply.Reply.TheVariants as replies
use Rattle.tx_core.specs.declared.entry.Entry.{Entry}
use Rattle.tx_core.specs.declared.entry.Start.{Start}
use Rattle.engine_parts.specs.declared.part.Part.{Part}
use Rattle.engine_parts.specs.declared.session.Session.{Session}
use Rattle.engine_parts.specs.declared.session.Stage.{Stage}
use Rattle.engine_parts.specs.declared.session.Stage.TheVariants as stages
use Rattle.engine_parts.specs.Stages.{may_be_recorded, pending_in}
use Rattle.engine_host.specs.declared.host.Host.{Host}
use Rattle.engine_host.specs.Hosts.{IsParked}
use Rattle.tx_core.specs.OwnMultis.{AreMultisDone}
use Rattle.engine_parts.specs.declared.session.Making.{Making}
use Rattle.engine_parts.specs.Makings.{pending_multi}
use Rattle.session_promise.specs.Checkpoints.{IsNamed, WentCheckpoint}
use Rattle.host_calls.specs.Made.{IsFirstCommitting, IsFirstMaking, IsNoneCommitting, IsNoneMaking}
use Rattle.host_calls.specs.Synced.{AreAllMade, IsNoneWaiting}
use Rattle.host_calls.proofs.Hosts.{hosts_grow, hosts_idle, hosts_none}

there : {X : Type 0} (xs : List X) (n : ℕ) → n < length xs → (x : X) × (slice_get xs n ≡ Some x)
there [] n low = absurd (omega (arith, low))
there (x ∷ xs) zero low = (x, refl)
there (x ∷ xs) (suc n) low = there xs n (omega (arith, low))

-- there is none where there isn't one
none_made : (making : Option Making) → (making ≢ None → ⊥) → making ≡ None
none_made None not = refl
none_made (Some m) not = absurd (not (λ e. cc))

-- a session that isn't in the midst of a commit has no record
unrecorded : (stage : Stage) → (pending_in stage ≡ Some refusals.CommitPending → ⊥) → may_be_recorded stage ≡ false
unrecorded (stages.Logged number) not = absurd (not refl)
unrecorded (stages.Settling steps) not = absurd (not refl)
unrecorded stages.Clear not = refl
unrecorded stages.Aborting not = refl
unrecorded stages.Undoing not = refl

module _ {H L P : Type 0} {l : logs.Ghosts L} {p : disks.Ghosts P} where
  pub none_waiting : (hall : Hall H (Part L P l p) Entry Start) (host : Host L P l p) (sessions : List Session) → ((n : ℕ) (s : Session) → slice_get sessions n ≡ Some s → IsParked hall host n s) → length sessions ≡ (start_of hall).sessions → IsNoneCommitting sessions → IsNoneWaiting (start_of hall) (view host.pass).seen
  none_waiting hall host sessions parked count none n low =
      let s = there sessions n (omega (arith, low, count)) in
      (parked n s.0 s.1).may.ready.at.clear (unrecorded s.0.stage (λ is. none n (s.0, s.1, is)))

  pub all_are_made : (hall : Hall H (Part L P l p) Entry Start) (host : Host L P l p) (sessions : List Session) → ((n : ℕ) (s : Session) → slice_get sessions n ≡ Some s → IsParked hall host n s) → length sessions ≡ (start_of hall).sessions → IsNoneMaking sessions → AreAllMade (start_of hall) (view host.pass).seen
  all_are_made hall host sessions parked count none n low =
      let s = there sessions n (omega (arith, low, count)) in
      let at_none : s.0.making ≡ None = none_made s.0.making (λ some. none n (s.0, s.1, some)) in
      subst (λ (m : Option Making). AreMultisDone (start_of hall) (view host.pass).seen n (pending_multi m)) at_none (parked n s.0 s.1).may.ready.at.makes.others

  -- one of them is, and nothing is done
  went_nowhere : (hall : Hall H (Part L P l p) Entry Start) (host : Host L P l p) (sessions : List Session) (session : ℕ) (refusal : Refusal) (s : Session) → IsParked hall host session s → IsNamed sessions (replies.Pending session refusal)
      → WentCheckpoint (start_of hall) sessions (view host.pass).seen (view host.pass).seen (replies.Pending session refusal)
  went_nowhere hall host sessions session refusal s parked named =
      let seen = (view host.pass).seen in
      let still = hosts_none (start_of hall) seen seen refl in
      record {
        named = named;
        grows = hosts_grow (start_of hall) seen seen still;
        kept = parked.may.ready.at.kept;
        idle = hosts_idle (start_of hall) seen seen still;
        same_history = refl;
        same_multis = refl;
        added = [];
        log = sym (append-nil _);
        theirs = tt;
        adds = refl;
        flushed = λ q. absurd cc;
      }

  pub went_pending : (hall : Hall H (Part L P l p) Entry Start) (host : Host L P l p) (sessions : List Session) (session : ℕ) → ((n : ℕ) (s : Session) → slice_get sessions n ≡ Some s → IsParked hall host n s) → IsFirstCommitting sessions session
      → WentCheckpoint (start_of hall) sessions (view host.pass).seen (view host.pass).seen (replies.Pending session refusals.CommitPending)
  went_pending hall host sessions session parked first = went_nowhere hall host sessions session refusals.CommitPending first.0.0 (parked session first.0.0 first.0.1) first

  pub went_making : (hall : Hall H (Part L P l p) Entry Start) (host : Host L P l p) (sessions : List Session) (session : ℕ) → ((n : ℕ) (s : Session) → slice_get sessions n ≡ Some s → IsParked hall host n s) → IsNoneCommitting sessions → IsFirstMaking sessions session
      → WentCheckpoint (start_of hall) sessions (view host.pass).seen (view host.pass).seen (replies.Pending session refusals.MultiPending)
  went_making hall host sessions session parked none first = went_nowhere hall host sessions session refusals.MultiPending first.0.0 (parked session first.0.0 first.0.1) (first.0, first.1, none)
