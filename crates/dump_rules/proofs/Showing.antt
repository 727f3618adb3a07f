-- What a dump shows, number by number, and what it may be answered.
use Rattle.std.proofs.Common.{◌≡◌, ℕ, suc, zero, ◌+◌, ◌<◌, ◌≤◌, ◌↔◌, IsTrue, true, false, List, [], ◌∷◌, length, take, refl, ap, sym, subst, ◌∙◌, arith, Some}
use Rattle.std.proofs.lemmas.Bool.{false≢true}
use Rattle.std.specs.List.{count_by, list_any, slice_get}
use Rattle.tx_events.specs.Ids.{low_half}
use Rattle.tx_events.specs.Modes.{mode_number}
use Rattle.tx_events.specs.declared.event.By.{By}
use Rattle.tx_events.specs.declared.event.Event.{Event}
use Rattle.tx_events.specs.declared.multi.Member.{Member}
use Rattle.tx_events.specs.declared.multi.MultiEvent.{MultiEvent}
use Rattle.tx_events.specs.declared.multi.MultiEvent.TheVariants as multis
use Rattle.tx_events.specs.declared.refusal.Refusal.{Refusal}
use Rattle.tx_events.specs.declared.refusal.Refusal.TheVariants as refusals
use Rattle.tx_model.specs.declared.reply.Reply.{Reply}
use Rattle.tx_model.specs.declared.reply.Reply.TheVariants as replies
use Rattle.tx_model.specs.declared.report.DumpOf.{DumpOf}
use Rattle.tx_model.specs.declared.report.DumpOf.TheVariants as dumps
use Rattle.tx_model.specs.declared.report.Line.{Line}
use Rattle.tx_model.specs.Lines.{has_line}
use Rattle.tx_events.specs.Pages.{id_at, member_page, member_place, mode_at}
use Rattle.life_law.specs.Dumps.{events_behind}
use Rattle.report_law.specs.Dumps.{HasByte, HasWord, MayDump, Shows, ShowsIds, is_faulty_step}
use Rattle.report_law.specs.Places.{has_multi_line}
use Rattle.report_law.specs.Steps.{AreJudged, Judged, gave_multi, lines_of}
use Rattle.dump_rules.specs.Replying.{is_log, is_other, may_fail}
use Rattle.dump_rules.specs.Shown.{Behind, Dumped, GivesTo, ShowsNumber}

pub take_front : {X : Type 0} (h f : List X) (place : ℕ) → f ≡ take (length f) h → place ≤ length f → take place f ≡ take place h
take_front {X} h f place is l = ap (take place) is ∙ twice h place (length f) l
  where
    twice : (h : List X) (p n : ℕ) → p ≤ n → take p (take n h) ≡ take p h
    twice h zero n l = refl
    twice h (suc p) zero l = absurd (omega arith)
    twice [] (suc p) (suc n) l = refl
    twice (e ∷ h) (suc p) (suc n) l = ap (λ (t : List X). e ∷ t) (twice h p n (omega arith))

at_front : {X : Type 0} (h f : List X) (p : ℕ) → f ≡ take (length f) h → p < length f → slice_get f p ≡ slice_get h p
at_front {X} h f p is l = ap (λ (t : List X). slice_get t p) is ∙ same h p (length f) l
  where
    same : (h : List X) (p n : ℕ) → p < n → slice_get (take n h) p ≡ slice_get h p
    same h p zero l = absurd (omega arith)
    same [] p (suc n) l = refl
    same (e ∷ h) zero (suc n) l = refl
    same (e ∷ h) (suc p) (suc n) l = same h p n (omega arith)

-- what a life's fronts have behind these lines
abbrev pub behind_of : Dumped → List Event → ℕ → List MultiEvent → ℕ → Behind
behind_of d events place all multi_place = record { events = events; place = place; multis = all; multi_place = multi_place; ok = gave_multi (lines_of d.j) }

module _ (d : Dumped) (events : List Event) (place : ℕ) (all : List MultiEvent) (multi_place : ℕ) (front : events ≡ take (length events) d.j.life.events) (multi_front : all ≡ take (length all) d.j.life.multis) (is : place ≡ count_by (has_line d.before) d.j.life.events) (multi_is : multi_place ≡ count_by (has_multi_line d.before) d.j.life.multis) (within : place ≤ length events) (multi_within : multi_place ≤ length all) where
  pub behind_is : take place events ≡ events_behind d.j.life.events d.before
  behind_is = take_front d.j.life.events events place front within ∙ ap (λ n. take n d.j.life.events) is

  gives_of : (p multi offset : ℕ) (members : List Member) (g : GivesTo (behind_of d events place all multi_place) p multi offset members)
      → (p < count_by (has_multi_line d.before) d.j.life.multis) × (slice_get d.j.life.multis p ≡ Some (multis.Gen g.by multi offset members))
  gives_of p multi offset members g = let l = g.within in (omega arith, sym (at_front d.j.life.multis all p multi_front (omega arith)) ∙ g.stands)

  of_gives : (p multi offset : ℕ) (members : List Member) (by : By) → p < count_by (has_multi_line d.before) d.j.life.multis → slice_get d.j.life.multis p ≡ Some (multis.Gen by multi offset members) → gave_multi (lines_of d.j) by ≡ true
      → GivesTo (behind_of d events place all multi_place) p multi offset members
  of_gives p multi offset members by l e t = record { by = by; within = omega arith; stands = at_front d.j.life.multis all p multi_front (omega arith) ∙ e; ok = t }

  pub shows_iff : (what : DumpOf) (at : ℕ) (bytes : List ℕ) → ((n : ℕ) → ShowsNumber (behind_of d events place all multi_place) what at bytes n) ↔ Shows d.j d.before what at bytes
  shows_iff dumps.Log at bytes = (λ f. (tt, λ p multi offset members by l e t. tt), λ s n. tt)
  shows_iff (dumps.Xact page) at bytes = (
    λ f. (subst (λ (h : List Event). ShowsIds h (dumps.Xact page) at bytes) behind_is f, λ p multi offset members by l e t. tt),
    λ s. subst (λ (h : List Event). ShowsIds h (dumps.Xact page) at bytes) (sym behind_is) s.0,
  )
  shows_iff (dumps.Subtrans page) at bytes = (
    λ f. (subst (λ (h : List Event). ShowsIds h (dumps.Subtrans page) at bytes) behind_is f, λ p multi offset members by l e t. tt),
    λ s. subst (λ (h : List Event). ShowsIds h (dumps.Subtrans page) at bytes) (sym behind_is) s.0,
  )
  shows_iff (dumps.Offsets page) at bytes = (
    λ f. (tt, λ p multi offset members by l e t q. f multi p offset members (of_gives p multi offset members by l e t) q),
    λ s multi p offset members g q. let h = gives_of p multi offset members g in s.1 p multi offset members g.by h.0 h.1 g.ok q,
  )
  shows_iff (dumps.Members page) at bytes = (
    λ f. (tt, λ p multi offset members by l e t i m a q. f (offset + i) p multi offset i members m (of_gives p multi offset members by l e t) a refl q),
    λ s o p multi offset i members m g a same q.
        let h = gives_of p multi offset members g in
        subst (λ (n : ℕ). HasByte at bytes (mode_at (member_place (low_half n))) (mode_number m.mode) × HasWord at bytes (id_at (member_place (low_half n))) (low_half m.id)) same
        (s.1 p multi offset members g.by h.0 h.1 g.ok i m a (ap (λ n. member_page (low_half n)) same ∙ q)),
  )

-- ---- replies

pub page_bytes : (j : Judged) (before : List Line) (what : DumpOf) (at size : ℕ) (bytes : List ℕ) → is_log what ≡ false
    → ((length bytes ≡ size) × (list_any is_faulty_step j.steps ≡ false → AreJudged j before [] → Shows j before what at bytes)) ↔ MayDump j before what at size (replies.Bytes bytes)
page_bytes j before dumps.Log at size bytes e = absurd (false≢true (sym e))
page_bytes j before (dumps.Xact page) at size bytes e = (λ x. x, λ x. x)
page_bytes j before (dumps.Subtrans page) at size bytes e = (λ x. x, λ x. x)
page_bytes j before (dumps.Offsets page) at size bytes e = (λ x. x, λ x. x)
page_bytes j before (dumps.Members page) at size bytes e = (λ x. x, λ x. x)

pub log_bytes : (j : Judged) (before : List Line) (what : DumpOf) (at size : ℕ) (bytes : List ℕ) → is_log what ≡ true → (length bytes ≤ size) ↔ MayDump j before what at size (replies.Bytes bytes)
log_bytes j before dumps.Log at size bytes e = (λ x. x, λ x. x)
log_bytes j before (dumps.Xact page) at size bytes e = absurd (false≢true e)
log_bytes j before (dumps.Subtrans page) at size bytes e = absurd (false≢true e)
log_bytes j before (dumps.Offsets page) at size bytes e = absurd (false≢true e)
log_bytes j before (dumps.Members page) at size bytes e = absurd (false≢true e)

never : {P : Type 0} → (P → ⊥) → IsTrue false ↔ P
never n = (λ t. absurd (false≢true t), λ p. absurd (n p))

pub fails_iff : (j : Judged) (before : List Line) (what : DumpOf) (at size : ℕ) (refusal : Refusal) → IsTrue (may_fail what refusal) ↔ MayDump j before what at size (replies.Refused refusal)
fails_iff j before dumps.Log at size refusals.LogFault = (λ t. tt, λ t. refl)
fails_iff j before dumps.Log at size (refusals.DiskFault lock) = (λ t. t, λ t. t)
fails_iff j before dumps.Log at size refusal = never (λ m. m)
fails_iff j before (dumps.Xact page) at size (refusals.DiskFault lock) = (λ t. t, λ t. t)
fails_iff j before (dumps.Xact page) at size refusal = never (λ m. m)
fails_iff j before (dumps.Subtrans page) at size (refusals.DiskFault lock) = (λ t. t, λ t. t)
fails_iff j before (dumps.Subtrans page) at size refusal = never (λ m. m)
fails_iff j before (dumps.Offsets page) at size (refusals.DiskFault lock) = (λ t. t, λ t. t)
fails_iff j before (dumps.Offsets page) at size refusal = never (λ m. m)
fails_iff j before (dumps.Members page) at size (refusals.DiskFault lock) = (λ t. t, λ t. t)
fails_iff j before (dumps.Members page) at size refusal = never (λ m. m)

pub no_other : (j : Judged) (before : List Line) (what : DumpOf) (at size : ℕ) (reply : Reply) → is_other reply ≡ true → MayDump j before what at size reply → ⊥
no_other j before dumps.Log at size (replies.Bytes bytes) o m = false≢true o
no_other j before dumps.Log at size (replies.Cut cutoff) o m = false≢true o
no_other j before dumps.Log at size (replies.Refused refusal) o m = false≢true o
no_other j before dumps.Log at size reply o m = m
no_other j before (dumps.Xact page) at size (replies.Bytes bytes) o m = false≢true o
no_other j before (dumps.Xact page) at size (replies.Cut cutoff) o m = false≢true o
no_other j before (dumps.Xact page) at size (replies.Refused refusal) o m = false≢true o
no_other j before (dumps.Xact page) at size reply o m = m
no_other j before (dumps.Subtrans page) at size (replies.Bytes bytes) o m = false≢true o
no_other j before (dumps.Subtrans page) at size (replies.Cut cutoff) o m = false≢true o
no_other j before (dumps.Subtrans page) at size (replies.Refused refusal) o m = false≢true o
no_other j before (dumps.Subtrans page) at size reply o m = m
no_other j before (dumps.Offsets page) at size (replies.Bytes bytes) o m = false≢true o
no_other j before (dumps.Offsets page) at size (replies.Cut cutoff) o m = false≢true o
no_other j before (dumps.Offsets page) at size (replies.Refused refusal) o m = false≢true o
no_other j before (dumps.Offsets page) at size reply o m = m
no_other j before (dumps.Members page) at size (replies.Bytes bytes) o m = false≢true o
no_other j before (dumps.Members page) at size (replies.Cut cutoff) o m = false≢true o
no_other j before (dumps.Members page) at size (replies.Refused refusal) o m = false≢true o
no_other j before (dumps.Members page) at size reply o m = m
