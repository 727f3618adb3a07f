-- Whether the commit record of what a session has open stands, its stage says.
use Rattle.std.proofs.Common.{zero, suc, Contains, List, None, Option, Some, Bool, true, false, [], ap, eqb-true, inl, refl, subst, sym, ℕ, ◌∷◌, ◌≡◌, ◌∙◌, ◌==◌}
use Rattle.std.proofs.lemmas.Option.{same_Some}
use Rattle.tx_events.specs.declared.event.Event.{Event}
use Rattle.tx_events.specs.declared.record.Rec.{Rec}
use Rattle.tx_events.specs.declared.record.Rec.TheVariants as records
use Rattle.tx_events.specs.Events.{given_to}
use Rattle.tx_events.specs.Running.{is_open, open_ids}
use Rattle.tx_events.proofs.GivenIds.{one_session}
use Rattle.tx_events.proofs.ListSteps.{eqb-refl}
use Rattle.tx_events.proofs.Membership.{Has, any_has, contains_has, has_contains, has_filter, list_any_none_on}
use Rattle.tx_model.specs.Stance.{top_level}
use Rattle.life_law.specs.Pending.{is_commit_of, is_recorded}
use Rattle.tx_core.specs.declared.entry.Start.{Start}
use Rattle.tx_core.specs.Entries.{IsAppended, history}
use Rattle.tx_core.specs.Locks.{log_lock}
use Rattle.notes.specs.Lists.{at}
use Rattle.tx_core.proofs.Once.{records_given}
use Rattle.session_levels.specs.Stands.{Nest, levels_of}
use Rattle.session_levels.proofs.HeadLemmas.{first_level}
use Rattle.engine_parts.specs.declared.session.Session.{Session}
use Rattle.engine_parts.specs.Holds.{Knowledge}
use Rattle.engine_parts.specs.Sessions.{MayCall, inner_id, stance_of}
use Rattle.engine_parts.specs.Stages.{may_be_recorded}
use Rattle.engine_parts.proofs.Pending.{record_of}
use Rattle.engine_parts.proofs.Unrecorded.{open_unrecorded}
use Rattle.session_promise.specs.Promise.{recs_of}
use Rattle.session_promise.proofs.PendingFollows.{IsKnownOf}
use Rattle.session_promise.proofs.RecordPlaces.{has_rec, rec_has}

-- the top is open
top_open : (h : List Event) (opened named : List ℕ) (unnamed top : ℕ) → Nest h opened named → top_level (levels_of named unnamed) ≡ Some top → Has opened top
top_open h opened [] zero top nest q = absurd cc
top_open h opened [] (suc n) top nest q = absurd cc
top_open h opened (t ∷ savepoints) unnamed top nest q = subst (λ (ids : List ℕ). Has ids top) (sym nest.1) (inl (same_Some t top q))

-- a record of the top that another session appended is none
module _ (start : Start) (v : Knowledge) (n : ℕ) (s : Session) (m : MayCall start v n s) where
  none_of : (top : ℕ) → top_level (stance_of s).levels ≡ Some top → may_be_recorded s.stage ≡ false → (t : ℕ) (subs : List ℕ) → Has (recs_of v.seen) (records.Commit t subs) → t ≡ top → ⊥
  none_of top is q t subs k same =
      let a = m.ready.at in
      let h : List Event = history v.seen in
      let r = has_rec v.seen (records.Commit t subs) k in
      let opened : Has (open_ids n h) top = subst (λ (ids : List ℕ). Has ids top) (sym a.stands.opened) (top_open h s.levels.open_ids.items s.levels.level_ids.items s.levels.unnamed top a.stands.nest is) in
      let mine : Has (given_to n h) top = (has_filter (is_open h) (given_to n h) top opened).0 in
      let among : Contains (t ∷ subs) top = has_contains (t ∷ subs) top (inl same) in
      let theirs : Has (given_to r.0.session h) top = contains_has (given_to r.0.session h) top ((records_given start v.seen r.0.session a.kept).commit t subs top r.1 among) in
      let whose : r.0.session ≡ n = one_session start.base h a.kept.events.legal r.0.session n top theirs mine in
      open_unrecorded start v.seen n top t subs a.kept (a.clear q) (has_contains (open_ids n h) top opened) (subst (λ z. IsAppended v.seen z (records.Commit t subs)) whose r.1) among

  not_recorded : (top : ℕ) → top_level (stance_of s).levels ≡ Some top → may_be_recorded s.stage ≡ false → (rec : Rec) → Has (recs_of v.seen) rec → is_commit_of top rec ≡ false
  not_recorded top is q (records.Commit t subs) k = step (t == top) refl
    where
      step : (b : Bool) → (t == top) ≡ b → b ≡ false
      step true e = absurd (none_of top is q t subs k (eqb-true t top e))
      step false e = refl
  not_recorded top is q rec k = refl

  pub known_of : IsKnownOf (recs_of v.seen) (stance_of s) s.stage
  known_of = by_stage (may_be_recorded s.stage) refl
    where
      by_top : (o : Option ℕ) → top_level (stance_of s).levels ≡ o → may_be_recorded s.stage ≡ false → is_recorded (recs_of v.seen) o ≡ false
      by_top None e q = refl
      by_top (Some top) e q = list_any_none_on (is_commit_of top) (recs_of v.seen) (not_recorded top e q)

      by_stage : (b : Bool) → may_be_recorded s.stage ≡ b → is_recorded (recs_of v.seen) (top_level (stance_of s).levels) ≡ b
      by_stage true q =
          let a = m.ready.at in
          let r = record_of start v.seen n (inner_id s) s.levels.open_ids.items s.stage q m.stage in
          let first : top_level (stance_of s).levels ≡ Some r.top = first_level (history v.seen) s.levels.open_ids.items s.levels.level_ids.items s.levels.unnamed r.top r.subs a.stands.nest r.ids in
          ap (is_recorded (recs_of v.seen)) first ∙ any_has (is_commit_of r.top) (recs_of v.seen) (records.Commit r.top r.subs) (rec_has (at v.seen log_lock) r.appended.0 (records.Commit r.top r.subs) (contains_has (at v.seen log_lock) _ r.appended.2)) (eqb-refl r.top)
      by_stage false q = by_top (top_level (stance_of s).levels) refl q
