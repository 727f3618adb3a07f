-- A session's multixacts stay made while the lists go on.
use Rattle.std.proofs.Common.{Contains, IfSome, List, None, Option, Some, [], ap, append-nil, arith, inl, inr, length, subst, sym, ℕ, ⊎_elim, ◌++◌, ◌<◌, ◌∙◌, ◌∷◌, ◌≡◌}
use Rattle.std.proofs.lemmas.List.Elements.{filter_map-append}
use Rattle.std.specs.List.{cons_option}
use mathlib.Core.Logic.{dite}
use native.Mathlib.Decide.{ℕ_discrete}
use Rattle.notes.specs.Lists.{Grows, Knows, add, at}
use Rattle.notes.proofs.Growing.{at_else, at_here, grows_add}
use Rattle.tx_events.specs.declared.multi.Member.{Member}
use Rattle.tx_events.specs.declared.multi.MultiEvent.{MultiEvent}
use Rattle.tx_events.specs.declared.multi.MultiEvent.TheVariants as multis
use Rattle.tx_events.specs.declared.record.Rec.TheVariants as records
use Rattle.tx_core.specs.declared.entry.Entry.{Entry}
use Rattle.tx_core.specs.declared.entry.Kind.TheVariants as kinds
use Rattle.tx_core.specs.declared.entry.Start.{Start}
use Rattle.tx_core.specs.EngineInvariant.{EngineInvariant}
use Rattle.tx_core.specs.Entries.{IsAppended, history, session_of}
use Rattle.tx_core.specs.Locks.{multi_lock}
use Rattle.tx_core.specs.MultiEntries.{multi_history, multi_of, multis_in}
use Rattle.tx_core.proofs.Lasting.{appended_grows, history_grows}
use Rattle.tx_core.proofs.OwnMultis.{done_grows, done_stays, making_stays}
use Rattle.tx_core.proofs.Rising.{given_more}
use Rattle.tx_core.proofs.Stepping.{appended_cases}
use Rattle.engine_parts.specs.declared.session.Making.{Making}
use Rattle.engine_parts.specs.Holds.{Knowledge, Leaves}
use Rattle.engine_parts.specs.Makings.{IsMakingOf, Makes, pending_multi}

-- while others go on
pub makes_on : (start : Start) (n : ℕ) (making : Option Making) (seen lists : List (List Entry)) → EngineInvariant start lists → Knows session_of n seen lists → Makes start seen n making → Makes start lists n making
makes_on start n making seen lists k knows m = record {
  pending = later making m.pending;
  others = done_stays start n (pending_multi making) seen lists k knows m.others;
}
  where
    later : (o : Option Making) → IfSome o (IsMakingOf start seen n) → IfSome o (IsMakingOf start lists n)
    later None p = tt
    later (Some x) p = making_stays start n x.multi x.offset x.members x.logged seen lists knows p

-- ---- behind an entry of its own

-- one without an event of a multixact leaves their history
pub multis_kept : (lists : List (List Entry)) (lock : ℕ) (e : Entry) → multi_of e ≡ None → lock < length lists → multi_history (add lists lock e) ≡ multi_history lists
multis_kept lists lock e none inside = dite (ℕ_discrete multi_lock lock)
    (λ (q : multi_lock ≡ lock).
    ap (λ z. multi_history (add lists z e)) (sym q)
    ∙ (ap multis_in (at_here lists multi_lock e (subst (λ z. z < length lists) (sym q) inside))
    ∙ (filter_map-append multi_of (at lists multi_lock) (e ∷ [])
    ∙ (ap (λ o. multi_history lists ++ cons_option o []) none ∙ append-nil (multi_history lists)))))
    (λ q. ap multis_in (at_else lists lock multi_lock e q))

pub multis_same : (start : Start) (v w : Knowledge) (lock : ℕ) (e : Entry) → multi_of e ≡ None → lock < length v.seen → Leaves start lock e v w → multi_history w.seen ≡ multi_history v.seen
multis_same start v w lock e none inside l = ap multi_history l.seen ∙ multis_kept v.seen lock e none inside

-- which is no record of a multixact
pub makes_left : (start : Start) (v w : Knowledge) (n lock : ℕ) (making : Option Making) (e : Entry) → EngineInvariant start w.seen → lock < length v.seen → multi_of e ≡ None
    → ((multi offset : ℕ) (members : List Member) → e.kind ≡ kinds.Append (records.Multi multi offset members) → ⊥) → Leaves start lock e v w → Makes start v.seen n making → Makes start w.seen n making
makes_left start v w n lock making e k inside none other l m =
    let grown : Grows v.seen w.seen = subst (Grows v.seen) (sym l.seen) (grows_add v.seen lock e inside) in
    let same : multi_history w.seen ≡ multi_history v.seen = multis_same start v w lock e none inside l in
    record {
      pending = later grown same making m.pending;
      others = λ multi offset members g.
          ⊎_elim
          (λ d. inl (done_grows start v.seen w.seen n multi offset members grown d))
          inr
          (m.others multi offset members (g.0, g.1, subst (λ (h : List MultiEvent). Contains h (multis.Gen g.0 multi offset members)) same g.2));
    }
  where
    old_record : (multi offset : ℕ) (members : List Member) → IsAppended w.seen n (records.Multi multi offset members) → IsAppended v.seen n (records.Multi multi offset members)
    old_record multi offset members a =
        ⊎_elim (λ old. old) (λ new. absurd (other multi offset members new.2))
        (appended_cases v.seen lock e n (records.Multi multi offset members) inside (subst (λ (z : List (List Entry)). IsAppended z n (records.Multi multi offset members)) l.seen a))

    later : Grows v.seen w.seen → multi_history w.seen ≡ multi_history v.seen → (o : Option Making) → IfSome o (IsMakingOf start v.seen n) → IfSome o (IsMakingOf start w.seen n)
    later grown same None p = tt
    later grown same (Some x) p =
        let up = given_more start.base (history v.seen) (history w.seen) (history_grows v.seen w.seen grown) in
        record {
          given = (p.given.0, p.given.1, subst (λ (h : List MultiEvent). Contains h (multis.Gen p.given.0 x.multi x.offset x.members)) (sym same) p.given.2);
          fit = p.fit;
          full = p.full;
          before = λ id c. let b = p.before id c in omega (arith, b, up);
          recorded = λ q. appended_grows v.seen w.seen n (records.Multi x.multi x.offset x.members) grown (p.recorded q);
          unrecorded = λ q offset members a. p.unrecorded q offset members (old_record x.multi offset members a);
        }
