-- A session at another stage of its end.
use Rattle.std.proofs.Common.{◌≡◌, ◌≢◌, ℕ, false, refl, sym, subst, List, Result, Ok, Err, ap, ◌∙◌}
use Rattle.std.proofs.lemmas.Bool.{false≢true}
use Rattle.tx_core.specs.declared.entry.Start.{Start}
use Rattle.engine_parts.specs.declared.session.Session.{Session}
use Rattle.engine_parts.specs.declared.session.Stage.{Stage}
use Rattle.engine_parts.specs.declared.session.Stage.TheVariants as stages
use Rattle.engine_parts.specs.Holds.{Knowledge}
use Rattle.engine_parts.specs.Sessions.{IsReady, MayCall, inner_id}
use Rattle.tx_events.specs.declared.record.Rec.{Rec}
use Rattle.tx_events.specs.declared.refusal.Refusal.{Refusal}
use Rattle.tx_core.specs.declared.entry.Entry.{Entry}
use Rattle.log_sections.specs.LogSections.{TakesAbort}
use Rattle.log_sections.specs.declared.appending.Appended.{Appended}
use Rattle.log_sections.specs.declared.appending.Appended.TheVariants as came
use Rattle.engine_parts.specs.Stages.{IsInStage, IsSettling, may_be_aborted, may_be_recorded}

-- a session that goes on to a stage in which no more is asked of its records
pub ready_staged : (start : Start) (v : Knowledge) (n : ℕ) (s : Session) (stage : Stage) → (may_be_recorded stage ≡ false → may_be_recorded s.stage ≡ false) → (may_be_aborted stage ≡ false → may_be_aborted s.stage ≡ false) → IsReady start v n s → IsReady start v n (record s { stage = stage })
ready_staged start v n s stage recorded aborted r =
    let a = r.at in record {
      free = r.free;
      at = record {
        base = a.base;
        before = a.before;
        kept = a.kept;
        name = a.name;
        known = a.known;
        wide = a.wide;
        turns = a.turns;
        stands = a.stands;
        clear = λ q. a.clear (recorded q);
        unaborted = λ q. a.unaborted (aborted q);
        filed = a.filed;
        makes = a.makes;
      };
    }

-- and may call where the lists say so
pub call_staged : (start : Start) (v : Knowledge) (n : ℕ) (s : Session) (stage : Stage) → (may_be_recorded stage ≡ false → may_be_recorded s.stage ≡ false) → (may_be_aborted stage ≡ false → may_be_aborted s.stage ≡ false) → IsReady start v n s → IsInStage start v.seen n (inner_id s) s.levels.open_ids.items stage → MayCall start v n (record s { stage = stage })
call_staged start v n s stage recorded aborted r i = record { ready = ready_staged start v n s stage recorded aborted r; stage = i }

-- so many steps are done
pub call_settled : (start : Start) (v : Knowledge) (n : ℕ) (s : Session) (steps : ℕ) → may_be_aborted s.stage ≡ false → IsReady start v n s → IsSettling start v.seen n s.levels.open_ids.items steps → MayCall start v n (record s { stage = stages.Settling steps })
call_settled start v n s steps clear r g = call_staged start v n s (stages.Settling steps) (λ q. absurd (false≢true (sym q))) (λ q. clear) r g

-- a session whose abort is pending
pub call_aborting : (start : Start) (v : Knowledge) (n : ℕ) (s : Session) → s.stage ≡ stages.Aborting → IsReady start v n s → MayCall start v n s
call_aborting start v n s is r = record { ready = r; stage = subst (IsInStage start v.seen n (inner_id s) s.levels.open_ids.items) (sym is) tt }

-- a stage that isn't that of an abort
pub not_aborting : (stage : Stage) → stage ≢ stages.Aborting → may_be_aborted stage ≡ false
not_aborting stages.Clear other = refl
not_aborting (stages.Logged number) other = refl
not_aborting (stages.Settling steps) other = refl
not_aborting stages.Aborting other = absurd (other refl)
not_aborting stages.Undoing other = refl

-- a session whose abort record was appended, or wasn't, before its abort is pending
pub taken_stage : (start : Start) (lists : List (List Entry)) (rec : Rec) (s t : Session) (result : Result Appended Refusal) → may_be_recorded s.stage ≡ false → TakesAbort start lists rec s t result
    → (may_be_recorded t.stage ≡ false) × (◌≡◌ {A = Session} (record t { stage = stages.Aborting }) (record s { stage = stages.Aborting }))
taken_stage start lists rec s t (Ok (came.At number)) clear k = (ap (λ (z : Session). may_be_recorded z.stage) k, ap (λ (z : Session). record z { stage = stages.Aborting }) k)
taken_stage start lists rec s t (Ok came.NoBase) clear k = (ap (λ (z : Session). may_be_recorded z.stage) k.0 ∙ clear, ap (λ (z : Session). record z { stage = stages.Aborting }) k.0)
taken_stage start lists rec s t (Err r) clear k = (ap (λ (z : Session). may_be_recorded z.stage) k.0 ∙ clear, ap (λ (z : Session). record z { stage = stages.Aborting }) k.0)
