-- How a session stands behind an event of a multixact.
use Rattle.std.proofs.Common.{◌≡◌, ℕ, ◌<◌, ◌≤◌, Contains, IfSome, List, None, Option, Some, [], ap, arith, false, inl, inr, length, refl, subst, sym, ⊎_elim, ◌++◌, ◌∙◌, ◌∷◌, ◌⊎◌}
use Rattle.std.proofs.lemmas.Bool.{false≢true}
use Rattle.std.proofs.lemmas.List.Elements.{Contains-push}
use Rattle.notes.specs.Lists.{Grows, at}
use Rattle.tx_events.specs.declared.event.Event.{Event}
use Rattle.tx_events.specs.declared.multi.Member.{Member}
use Rattle.tx_events.specs.declared.multi.MultiEvent.{MultiEvent}
use Rattle.tx_events.specs.declared.multi.MultiEvent.TheVariants as multis
use Rattle.tx_events.specs.declared.record.Rec.TheVariants as records
use Rattle.tx_events.specs.After.{ids_of}
use Rattle.tx_events.specs.History.{next_given}
use Rattle.tx_events.specs.Ids.{IsFullId}
use Rattle.tx_events.specs.Multis.{AreMembers, multi_by, next_made}
use Rattle.tx_events.specs.Running.{open_ids}
use Rattle.tx_events.proofs.Membership.{Has, contains_has, has_contains, has_left}
use Rattle.tx_core.specs.declared.entry.Entry.{Entry}
use Rattle.tx_core.specs.declared.entry.Kind.TheVariants as kinds
use Rattle.tx_core.specs.declared.entry.Start.{Start}
use Rattle.tx_core.specs.EngineInvariant.{EngineInvariant}
use Rattle.tx_core.specs.Entries.{IsAppended, history}
use Rattle.tx_core.specs.Locks.{log_lock, multi_lock}
use Rattle.tx_core.specs.MultiEntries.{multi_history}
use Rattle.tx_core.specs.RecordsFollow.{IsGenOf, NeedsNamed}
use Rattle.tx_core.specs.RecordsOnce.{HasNoMulti}
use Rattle.tx_core.proofs.Asking.{upheld_has}
use Rattle.tx_core.proofs.Lasting.{appended_grows, history_grows}
use Rattle.tx_core.proofs.MultiGiven.{gen_below}
use Rattle.tx_core.proofs.MultiOrder.{last_cases}
use Rattle.tx_core.proofs.Nearness.{multis_are_legal}
use Rattle.tx_core.proofs.OwnMultis.{done_grows}
use Rattle.tx_core.proofs.Rising.{given_more}
use Rattle.tx_core.proofs.Stepping.{appended_cases}
use Rattle.session_levels.specs.Stands.{Stands}
use Rattle.engine_parts.specs.declared.session.Making.{Making}
use Rattle.engine_parts.specs.declared.session.Session.{Session}
use Rattle.engine_parts.specs.Holds.{Knowledge, Leaves}
use Rattle.engine_parts.specs.Makings.{IsMakingOf, Makes}
use Rattle.engine_parts.specs.Sessions.{IsAt, IsReady, by_at}
use Rattle.engine_parts.proofs.Leaving.{at_left, clear_same, filed_left, grown_left, history_same, no_abort, unaborted_same}
use Rattle.multi_sections.specs.Leavings.{GivesNone}
use Rattle.multi_sections.specs.Steps.{entry_of}
use Rattle.multi_sections.proofs.Generating.{multis_left}

-- a record's multixact was given to the session that appended it
gen_of_record : (start : Start) (lists : List (List Entry)) (n multi offset : ℕ) (members : List Member) → EngineInvariant start lists → IsAppended lists n (records.Multi multi offset members) → IsGenOf lists n multi offset members
gen_of_record start lists n multi offset members k a =
    let need = upheld_has (NeedsNamed start) lists log_lock (record { by = a.0; kind = kinds.Append (records.Multi multi offset members) }) k.log.named (contains_has (at lists log_lock) (record { by = a.0; kind = kinds.Append (records.Multi multi offset members) }) a.2) in
    let gen : IsGenOf lists a.0.session multi offset members = need.1.0 in
    subst (λ z. IsGenOf lists z multi offset members) a.1 gen

-- so the next multixact has none yet
pub next_unrecorded : (start : Start) (lists : List (List Entry)) (n : ℕ) → EngineInvariant start lists → HasNoMulti lists n (next_made start.base.multi (multi_history lists))
next_unrecorded start lists n k offset members a =
    let multi = next_made start.base.multi (multi_history lists) in
    let gen = gen_of_record start lists n multi offset members k a in
    let below = gen_below start.base gen.0 multi offset members (multi_history lists) (multis_are_legal start lists k) (contains_has (multi_history lists) (multis.Gen gen.0 multi offset members) gen.2) in
    absurd (omega arith)

module _ (start : Start) (v w : Knowledge) (n : ℕ) (event : MultiEvent) (inside : multi_lock < length v.seen) (l : Leaves start multi_lock (entry_of event) v w) where
  grown : Grows v.seen w.seen
  grown = grown_left start v w multi_lock (entry_of event) inside l

  added : multi_history w.seen ≡ multi_history v.seen ++ event ∷ []
  added = multis_left start v w event inside l

  no_record : (multi offset : ℕ) (members : List Member) → IsAppended w.seen n (records.Multi multi offset members) → IsAppended v.seen n (records.Multi multi offset members)
  no_record multi offset members a =
      ⊎_elim (λ old. old) (λ new. let bad : kinds.Multi event ≡ kinds.Append (records.Multi multi offset members) = new.2 in absurd cc)
      (appended_cases v.seen multi_lock (entry_of event) n (records.Multi multi offset members) inside (subst (λ (z : List (List Entry)). IsAppended z n (records.Multi multi offset members)) l.seen a))

  gen_more : (multi offset : ℕ) (members : List Member) → IsGenOf v.seen n multi offset members → IsGenOf w.seen n multi offset members
  gen_more multi offset members g = (
    g.0,
    g.1,
    has_contains (multi_history w.seen) (multis.Gen g.0 multi offset members)
        (subst (λ (h : List MultiEvent). Has h (multis.Gen g.0 multi offset members)) (sym added) (has_left (multi_history v.seen) (event ∷ []) (multis.Gen g.0 multi offset members) (contains_has (multi_history v.seen) (multis.Gen g.0 multi offset members) g.2))),
  )

  gen_cases : (multi offset : ℕ) (members : List Member) → (g : IsGenOf w.seen n multi offset members) → IsGenOf v.seen n multi offset members ⊎ (event ≡ multis.Gen g.0 multi offset members)
  gen_cases multi offset members g =
      ⊎_elim (λ old. inl (g.0, g.1, has_contains (multi_history v.seen) (multis.Gen g.0 multi offset members) old)) inr
      (last_cases (multi_history v.seen) event (multis.Gen g.0 multi offset members) (subst (λ (h : List MultiEvent). Has h (multis.Gen g.0 multi offset members)) added (contains_has (multi_history w.seen) (multis.Gen g.0 multi offset members) g.2)))

  given_up : next_given start.base.next (history v.seen) ≤ next_given start.base.next (history w.seen)
  given_up = given_more start.base (history v.seen) (history w.seen) (history_grows v.seen w.seen grown)

  -- where the event gives none, the session makes what it made
  pub makes_quiet : GivesNone event → (o : Option Making) → Makes start v.seen n o → Makes start w.seen n o
  makes_quiet none o m = record {
    pending = later o m.pending;
    others = λ multi offset members g.
        ⊎_elim
        (λ old. ⊎_elim (λ d. inl (done_grows start v.seen w.seen n multi offset members grown d)) inr (m.others multi offset members old))
        (λ new. absurd (subst GivesNone new none))
        (gen_cases multi offset members g);
  }
    where
      later : (x : Option Making) → IfSome x (IsMakingOf start v.seen n) → IfSome x (IsMakingOf start w.seen n)
      later None p = tt
      later (Some x) p =
          let up = given_up in
          record {
            given = gen_more x.multi x.offset x.members p.given;
            fit = p.fit;
            full = p.full;
            before = λ id c. let b = p.before id c in omega (arith, b, up);
            recorded = λ q. appended_grows v.seen w.seen n (records.Multi x.multi x.offset x.members) grown (p.recorded q);
            unrecorded = λ q offset members a. p.unrecorded q offset members (no_record x.multi offset members a);
          }

  -- where it gives the next one, the session makes that one
  pub makes_given : (multi offset : ℕ) (members : List Member) → event ≡ multis.Gen (multi_by event) multi offset members → (multi_by event).session ≡ n → AreMembers members → ((id : ℕ) → Contains (ids_of members) id → IsFullId id)
      → ((id : ℕ) → Contains (ids_of members) id → id < next_given start.base.next (history v.seen)) → HasNoMulti v.seen n multi → Makes start v.seen n None
      → Makes start w.seen n (Some (record { multi = multi; offset = offset; members = members; logged = false }))
  makes_given multi offset members is own fit full before unrecorded m =
      let up = given_up in record {
        pending = record {
          given = (multi_by event, own, subst (λ (h : List MultiEvent). Contains h (multis.Gen (multi_by event) multi offset members)) (sym added) (subst (λ (f : MultiEvent). Contains (multi_history v.seen ++ event ∷ []) f) is (Contains-push (multi_history v.seen) event)));
          fit = fit;
          full = full;
          before = λ id c. let b = before id c in omega (arith, b, up);
          recorded = λ q. absurd (false≢true q);
          unrecorded = λ q x ms a. unrecorded x ms (no_record multi x ms a);
        };
        others = λ k x ms g.
            ⊎_elim
            (λ old. ⊎_elim (λ d. inl (done_grows start v.seen w.seen n k x ms grown d)) (λ (q : None ≡ Some k). absurd cc) (m.others k x ms old))
            (λ new. let both : multis.Gen (multi_by event) multi offset members ≡ multis.Gen g.0 k x ms = sym is ∙ new in let same : multi ≡ k = cc in inr (ap Some same))
            (gen_cases k x ms g);
      }

  -- how it stands, with what it makes
  pub ready_multi : (s : Session) (making : Option Making) → IsAt start v n s → multi_by event ≡ by_at n s.levels.commands → Makes start w.seen n making → IsReady start w n (record s { making = making })
  ready_multi s making a own makes =
      let e = entry_of event in
      let still : history w.seen ≡ history v.seen = history_same start v w multi_lock e refl inside l in
      at_left start v w n multi_lock s (record s { making = making }) e a inside own refl l
      (subst (λ (h : List Event). Stands start.base h n s.levels.commands s.levels) (sym still) a.stands)
      (clear_same start v w n multi_lock s e a inside refl (ap (open_ids n) still) l)
      (unaborted_same start v w n multi_lock s e a inside (no_abort e refl) l)
      (filed_left start v w n multi_lock s e a inside l)
      makes
